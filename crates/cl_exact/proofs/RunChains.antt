-- The complete chains of a run in which groups read and write at their ideal moments until the end: they are the
-- complete chains over the ideal moments that end within the run.
use Rattle.std.proofs.Common.{◌≡◌, ℕ, zero, suc, ◌+◌, ◌-◌, ◌<◌, ◌≤◌, inl, inr, List, length, subst, arith}
use Rattle.std.specs.Prelude.{slice_index, All}
use Rattle.std.proofs.lemmas.Bool.{cases_lt}
use Rattle.cl_model.specs.{declared.group.Group.Group, Groups.{no_group, group_at}}
use Rattle.cl_runs.specs.{TaskTiming.System, Run.Run, Chains.{Moments, HasWritten, IsEarliestReader, IsLatestWriter, JobChain, last_group, first_job, last_job, IsForwardChain, AreBackwardLinks, IsAgeChain, IsReducedChain}, MomentOrder.{AreInOrder, HaveReadBeforeWriting}}
use Rattle.cl_runs.specs.RunChains.{run_moments, ideal_moments}
use Rattle.cl_exact.specs.RunPromises.{IsIdealUntilTheEnd}

-- ---- from a run to the ideal moments

module _ (system : System) (groups : List Group) (run : Run) (until : All (IsIdealUntilTheEnd system run) groups) (order : AreInOrder (ideal_moments system) groups) where
  at : (i : ℕ) → i < length groups → IsIdealUntilTheEnd system run (group_at groups i)
  at i h = until i no_group h

  ideal_written : (i m : ℕ) → i < length groups → HasWritten (run_moments system run) (group_at groups i) m
      → HasWritten (ideal_moments system) (group_at groups i) m
  ideal_written i m h written = record { write = written.write; writes = (((at i h).writes m written.write).0 written.writes).0 }

  ideal_earliest : (i m k : ℕ) → suc i < length groups → IsEarliestReader (run_moments system run) (group_at groups i) (group_at groups (suc i)) m k
      → IsEarliestReader (ideal_moments system) (group_at groups i) (group_at groups (suc i)) m k
  ideal_earliest i m k h reader =
      let (reads, below) = ((at (suc i) h).reads k reader.read).0 reader.reads in
      record {
        write = reader.write;
        read = reader.read;
        writes = (((at i (omega arith)).writes m reader.write).0 reader.writes).0;
        reads = reads;
        after = reader.after;
        least = λ other r ideal after. elim (cases_lt r run.table.ticks) [
          | inl within ↦ reader.least other r (((at (suc i) h).reads other r).1 (ideal, within)) after
          | inr past ↦ elim (cases_lt other k) [
            | inl earlier ↦ absurd (omega (arith, past, below, order.reads_rise (suc i) other k r reader.read h earlier ideal reads))
            | inr later ↦ later
          ]
        ];
      }

  ideal_latest : (i m k : ℕ) → suc i < length groups → IsLatestWriter (run_moments system run) (group_at groups i) (group_at groups (suc i)) m k
      → IsLatestWriter (ideal_moments system) (group_at groups i) (group_at groups (suc i)) m k
  ideal_latest i m k h writer =
      let (reads, below) = ((at (suc i) h).reads k writer.read).0 writer.reads in
      record {
        write = writer.write;
        read = writer.read;
        writes = (((at i (omega arith)).writes m writer.write).0 writer.writes).0;
        reads = reads;
        before = writer.before;
        greatest = λ other w ideal before.
            writer.greatest other w (((at i (omega arith)).writes other w).1 (ideal, omega (arith, before, below))) before;
      }

  pub ideal_forward : (chain : JobChain) → IsForwardChain (run_moments system run) groups chain → IsForwardChain (ideal_moments system) groups chain
  ideal_forward chain complete = record {
    some_group = complete.some_group;
    one_a_group = complete.one_a_group;
    not_first = complete.not_first;
    written = λ i h. ideal_written i _ h (complete.written i h);
    linked = λ i h. ideal_earliest i _ _ h (complete.linked i h);
    from = (((at 0 complete.some_group).reads (first_job chain - 1) chain.from).0 complete.from).0;
    to = (((at (length groups - 1) (omega (arith, complete.some_group))).writes (last_job chain) chain.to).0 complete.to).0;
  }

  ideal_links : (jobs : List ℕ) → AreBackwardLinks (run_moments system run) groups jobs → AreBackwardLinks (ideal_moments system) groups jobs
  ideal_links jobs links = record {
    some_group = links.some_group;
    one_a_group = links.one_a_group;
    linked = λ i h. ideal_latest i _ _ h (links.linked i h);
    last_written = ideal_written (length groups - 1) _ (omega (arith, links.some_group)) links.last_written;
    next_written = ideal_written (length groups - 1) _ (omega (arith, links.some_group)) links.next_written;
  }

  pub ideal_age : (chain : JobChain) → IsAgeChain (run_moments system run) groups chain → IsAgeChain (ideal_moments system) groups chain
  ideal_age chain complete =
      let links = complete.links in
      record {
        links = ideal_links chain.jobs links;
        from = (((at 0 links.some_group).reads (first_job chain) chain.from).0 complete.from).0;
        to = (((at (length groups - 1) (omega (arith, links.some_group))).writes (last_job chain + 1) chain.to).0 complete.to).0;
      }

  pub ideal_reduced : (chain : JobChain) → IsReducedChain (run_moments system run) groups chain → IsReducedChain (ideal_moments system) groups chain
  ideal_reduced chain complete =
      let links = complete.links in
      record {
        links = ideal_links chain.jobs links;
        from = (((at 0 links.some_group).reads (first_job chain) chain.from).0 complete.from).0;
        to = (((at (length groups - 1) (omega (arith, links.some_group))).writes (last_job chain) chain.to).0 complete.to).0;
      }

-- ---- all moments of a chain lie before its last write

-- the job of each group but the last writes, and the job of the group after it reads at that moment or later
pub record IsHop (moments : Moments) (groups : List Group) (jobs : List ℕ) (i : ℕ) : Type 0 where
  pub write : ℕ
  pub read : ℕ
  pub writes : moments.writes (group_at groups i) (slice_index jobs i) write
  pub reads : moments.reads (group_at groups (suc i)) (slice_index jobs (suc i)) read
  pub after : write ≤ read

module _ (moments : Moments) (groups : List Group) (order : AreInOrder moments groups) (read_first : HaveReadBeforeWriting moments groups)
    (jobs : List ℕ) (hops : (i : ℕ) → suc i < length groups → IsHop moments groups jobs i)
    (written : (i : ℕ) → i < length groups → HasWritten moments (group_at groups i) (slice_index jobs i))
    (last : ℕ) (writes_last : moments.writes (last_group groups) (slice_index jobs (length groups - 1)) last) where
  write_by : (d i w : ℕ) → suc (d + i) ≡ length groups → moments.writes (group_at groups i) (slice_index jobs i) w → w ≤ last
  write_by zero i w h writes =
      let here : i ≡ length groups - 1 = omega arith in
      let again : moments.writes (last_group groups) (slice_index jobs (length groups - 1)) w
      = subst (λ n. moments.writes (group_at groups n) (slice_index jobs n) w) here writes in
      omega (arith, order.unique.writes (length groups - 1) _ w last (omega arith) again writes_last)
  write_by (suc d) i w h writes =
      let hop = hops i (omega arith) in
      let next = written (suc i) (omega arith) in
      let (read, before, reads) = read_first (suc i) _ next.write (omega arith) next.writes in
      omega (
        arith,
        hop.after,
        before,
        order.unique.writes i _ w hop.write (omega arith) writes hop.writes,
        order.unique.reads (suc i) _ read hop.read (omega arith) reads hop.reads,
        write_by d (suc i) next.write (omega arith) next.writes,
      )

  pub all_writes_by : (i w : ℕ) → i < length groups → moments.writes (group_at groups i) (slice_index jobs i) w → w ≤ last
  all_writes_by i w h = write_by (length groups - suc i) i w (omega arith)

  pub all_reads_before : (i r : ℕ) → i < length groups → moments.reads (group_at groups i) (slice_index jobs i) r → r < last
  all_reads_before i r h reads =
      let here = written i h in
      let (read, before, again) = read_first i _ here.write h here.writes in
      omega (arith, before, order.unique.reads i _ r read h reads again, all_writes_by i here.write h here.writes)
