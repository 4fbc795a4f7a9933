-- Chains over moments with an event before each job of the first group are the chains of the run that take an event on.
use Rattle.std.proofs.Common.{◌≡◌, ℕ, zero, suc, ◌+◌, ◌-◌, ◌<◌, ◌≤◌, Option, List, [], ◌∷◌, length, set, sym, ap, ◌∙◌, subst, arith}
use Rattle.std.specs.Prelude.{slice_index}
use Rattle.cl_model.specs.{declared.group.Group.Group, Groups.group_at}
use Rattle.cl_runs.specs.{TaskTiming.System, Run.{Run, jobs_of}, Moments.Writes, Chains.{Moments, IsEarliestReader, JobChain, first_group, last_group}, RunChains.run_moments, Delays.IsDelayChain}
use Rattle.cl_chain.specs.{declared.group_moments.GroupMoments.GroupMoments, Inner.{GroupTables.{moment_at, AreMomentsAt, reads_in, writes_in, AreTables}, Hops.{IsWrite, IsForwardHop}, ChainsOver.IsForwardOver, Events.{JobArrives, with_events, AreEventTables, after_event, IsDelayOver}}}
use Rattle.cl_chain.proofs.{ForwardFacts.forward_written, RunTables.{read_there, there_read, write_there, there_write}}

module _ (system : System) (run : Run) (all : List Group) where
  abbrev moments : Moments
  moments = run_moments system run

  in_table : (group : Group) (job t : ℕ) → moments.writes group job t → job < length (jobs_of run group.task)
  unfolding run_moments
  in_table group job t writes = let there : Writes system run group.task job group.last t = writes in there.in_table

  module _ (group : GroupMoments) (rest : List GroupMoments) (are : AreTables system run all (group ∷ rest))
      (arrivals : List (Option ℕ)) (arrive : AreMomentsAt (JobArrives run (first_group all).task) arrivals) where
    abbrev events : List GroupMoments
    events = with_events arrivals group.writes ∷ rest

    module _ (m : ℕ) (later : List ℕ) where
      -- ---- writes

      written : (i w : ℕ) → i < length events → IsWrite (writes_in events i) (slice_index (suc m ∷ later) i) w
          → moments.writes (group_at all i) (slice_index (m ∷ later) i) w
      written zero w h is = write_there system run all (group ∷ rest) are 0 h m w is.writes_then
      written (suc i) w h is = write_there system run all (group ∷ rest) are (suc i) h (slice_index later i) w is.writes_then

      written_over : ((i : ℕ) → suc i < length all → 1 ≤ slice_index later i) → (i w : ℕ) → i < length events
          → moments.writes (group_at all i) (slice_index (m ∷ later) i) w → IsWrite (writes_in events i) (slice_index (suc m ∷ later) i) w
      written_over not_first zero w h writes = record { not_first = omega arith; writes_then = there_write system run all (group ∷ rest) are 0 h m w writes }
      written_over not_first (suc i) w h writes = record {
        not_first = not_first i (omega (arith, h, are.one_a_group));
        writes_then = there_write system run all (group ∷ rest) are (suc i) h (slice_index later i) w writes;
      }

      -- ---- hops

      earliest : (i : ℕ) → suc i < length events
          → IsForwardHop (writes_in events i) (reads_in events (suc i)) (slice_index (suc m ∷ later) i) (slice_index (suc m ∷ later) (suc i))
          → IsEarliestReader moments (group_at all i) (group_at all (suc i)) (slice_index (m ∷ later) i) (slice_index (m ∷ later) (suc i))
      earliest i h hop = record {
        write = hop.write;
        read = hop.is_reader.read;
        writes = written i hop.write (omega (arith, h)) hop.is_write;
        reads = read_there system run all (group ∷ rest) are (suc i) h (slice_index later i) hop.is_reader.read hop.is_reader.reads_then;
        after = hop.is_reader.after;
        least = λ other r reads late. hop.is_reader.least other r (there_read system run all (group ∷ rest) are (suc i) h other r reads) late;
      }

      hop_over : ((j : ℕ) → suc j < length all → 1 ≤ slice_index later j) → (i : ℕ) → suc i < length events
          → IsEarliestReader moments (group_at all i) (group_at all (suc i)) (slice_index (m ∷ later) i) (slice_index (m ∷ later) (suc i))
          → IsForwardHop (writes_in events i) (reads_in events (suc i)) (slice_index (suc m ∷ later) i) (slice_index (suc m ∷ later) (suc i))
      hop_over not_first i h is = record {
        write = is.write;
        is_write = written_over not_first i is.write (omega (arith, h)) is.writes;
        is_reader = record {
          read = is.read;
          reads_then = there_read system run all (group ∷ rest) are (suc i) h (slice_index later i) is.read is.reads;
          after = is.after;
          least = λ other r at late. is.least other r (read_there system run all (group ∷ rest) are (suc i) h other r at) late;
        };
      }

      -- ---- chains

      module _ (from to : ℕ) where
        abbrev over : JobChain
        over = record { from = from; to = to; jobs = suc m ∷ later }

        abbrev run_chain : JobChain
        run_chain = record { from = from; to = to; jobs = m ∷ later }

        before : m ≡ suc m - 1
        before = omega arith

        pub delay_of_run : IsForwardOver events over → IsDelayChain system run all run_chain
        delay_of_run is =
            let count = are.one_a_group in
            let one_a = is.jobs.one_a_group in
            let last : length (m ∷ later) - 1 ≡ length all - 1 = omega (arith, one_a, count) in
            let at_last = is.jobs.last (length (m ∷ later) - 1) (omega (arith, one_a)) in
            record {
              some_group = omega (arith, count);
              one_a_group = omega (arith, one_a, count);
              not_first = λ i h. (forward_written events over.jobs (length events) to is.jobs (suc i) (omega (arith, h, count))).1.not_first;
              written = λ i h.
                  let has = forward_written events over.jobs (length events) to is.jobs i (omega (arith, h, count)) in
                  record { write = has.0; writes = written i has.0 (omega (arith, h, count)) has.1 };
              linked = λ i h. earliest i (omega (arith, h, count)) (is.jobs.linked i (omega (arith, h, count)));
              from = (arrive.sound m from (ap (moment_at arrivals) before ∙ is.from)).at_arrival;
              to = subst (λ n. moments.writes (group_at all n) (slice_index (m ∷ later) (length (m ∷ later) - 1)) to) last
                  (written (length (m ∷ later) - 1) to (omega (arith, one_a)) at_last);
            }

        pub run_of_delay : IsDelayChain system run all run_chain → IsForwardOver events over
        run_of_delay is =
            let count = are.one_a_group in
            let first = is.written 0 is.some_group in
            record {
              jobs = record {
                some = omega arith;
                one_a_group = omega (arith, is.one_a_group, count);
                linked = λ i h. hop_over is.not_first i h (is.linked i (omega (arith, h, count)));
                last = λ i here.
                    let end : length (m ∷ later) - 1 ≡ i = omega (arith, here, count, is.one_a_group) in
                    let last : length all - 1 ≡ i = omega (arith, here, count) in
                    written_over is.not_first i to (omega (arith, here))
                    (subst (λ n. moments.writes (group_at all n) (slice_index (m ∷ later) i) to) last
                    (subst (λ n. moments.writes (last_group all) (slice_index (m ∷ later) n) to) end is.to));
              };
              from = ap (moment_at arrivals) (sym before) ∙ arrive.complete m from
                  (record { in_table = in_table (first_group all) m first.write first.writes; at_arrival = is.from });
            }

  -- ---- whatever the moments and the jobs are

  module _ (arrivals : List (Option ℕ)) (arrive : AreMomentsAt (JobArrives run (first_group all).task) arrivals) (from to : ℕ) where
    next : (m : ℕ) → m + 1 ≡ suc m
    next m = omega arith

    abbrev chain_with : List ℕ → JobChain
    chain_with jobs = record { from = from; to = to; jobs = jobs }

    to_run : (plain : List GroupMoments) → AreTables system run all plain → (jobs : List ℕ)
        → IsForwardOver (set plain 0 (with_events arrivals (writes_in plain 0))) (after_event (chain_with jobs)) → IsDelayChain system run all (chain_with jobs)
    to_run [] are jobs is = absurd (omega (arith, is.jobs.some))
    to_run (group ∷ rest) are [] is = absurd (omega (arith, is.jobs.one_a_group))
    to_run (group ∷ rest) are (m ∷ later) is = delay_of_run group rest are arrivals arrive m later from to
        (subst (λ n. IsForwardOver (with_events arrivals group.writes ∷ rest) (chain_with (n ∷ later))) (next m) is)

    from_run : (plain : List GroupMoments) → AreTables system run all plain → (jobs : List ℕ) → IsDelayChain system run all (chain_with jobs)
        → IsForwardOver (set plain 0 (with_events arrivals (writes_in plain 0))) (after_event (chain_with jobs))
    from_run [] are jobs is = absurd (omega (arith, is.some_group, are.one_a_group))
    from_run (group ∷ rest) are [] is = absurd (omega (arith, is.one_a_group, is.some_group))
    from_run (group ∷ rest) are (m ∷ later) is =
        subst (λ n. IsForwardOver (with_events arrivals group.writes ∷ rest) (chain_with (n ∷ later))) (sym (next m))
        (run_of_delay group rest are arrivals arrive m later from to is)

  module _ (tables : List GroupMoments) (are : AreEventTables system run all tables) where
    pub delay_to : (chain : JobChain) → IsDelayOver tables chain → IsDelayChain system run all chain
    delay_to chain is = to_run are.arrivals are.arrive chain.from chain.to are.plain are.are_tables chain.jobs
        (subst (λ (ts : List GroupMoments). IsForwardOver ts (after_event chain)) are.is is)

    pub delay_from : (chain : JobChain) → IsDelayChain system run all chain → IsDelayOver tables chain
    delay_from chain is = subst (λ (ts : List GroupMoments). IsForwardOver ts (after_event chain)) (sym are.is)
        (from_run are.arrivals are.arrive chain.from chain.to are.plain are.are_tables chain.jobs is)
