-- A complete chain over the ideal moments is one of each run in which groups read and write at their ideal moments
-- until the end, and which lasts until the chain is complete.
use Rattle.std.proofs.Common.{◌≡◌, ℕ, suc, ◌+◌, ◌-◌, ◌<◌, ◌≤◌, inl, inr, List, length, subst, arith}
use Rattle.std.specs.Prelude.{slice_index, All}
use Rattle.std.proofs.lemmas.Bool.{cases_lt}
use Rattle.cl_model.specs.{declared.group.Group.Group, Groups.{no_group, group_at}}
use Rattle.cl_runs.specs.{TaskTiming.System, Run.Run, Chains.{HasWritten, IsEarliestReader, IsLatestWriter, JobChain, last_group, first_job, last_job, IsForwardChain, AreBackwardLinks, IsAgeChain, IsReducedChain}, MomentOrder.{AreInOrder, HaveReadBeforeWriting}, RunChains.run_moments}
use Rattle.cl_runs.specs.RunChains.{ideal_moments}
use Rattle.cl_exact.specs.RunPromises.{IsIdealUntilTheEnd}
use Rattle.cl_exact.proofs.RunChains.{IsHop, all_writes_by, all_reads_before}

module _ (system : System) (groups : List Group) (run : Run) (until : All (IsIdealUntilTheEnd system run) groups)
    (order : AreInOrder (ideal_moments system) groups) (read_first : HaveReadBeforeWriting (ideal_moments system) groups) where
  at : (i : ℕ) → i < length groups → IsIdealUntilTheEnd system run (group_at groups i)
  at i h = until i no_group h

  written_in_run : (i m : ℕ) → i < length groups → (written : HasWritten (ideal_moments system) (group_at groups i) m)
      → written.write ≤ run.table.ticks → HasWritten (run_moments system run) (group_at groups i) m
  written_in_run i m h written by = record { write = written.write; writes = ((at i h).writes m written.write).1 (written.writes, by) }

  earliest_in_run : (i m k : ℕ) → suc i < length groups
      → (reader : IsEarliestReader (ideal_moments system) (group_at groups i) (group_at groups (suc i)) m k) → reader.read < run.table.ticks
      → IsEarliestReader (run_moments system run) (group_at groups i) (group_at groups (suc i)) m k
  earliest_in_run i m k h reader below = record {
    write = reader.write;
    read = reader.read;
    writes = ((at i (omega arith)).writes m reader.write).1 (reader.writes, omega (arith, reader.after, below));
    reads = ((at (suc i) h).reads k reader.read).1 (reader.reads, below);
    after = reader.after;
    least = λ other r reads. reader.least other r (((at (suc i) h).reads other r).0 reads).0;
  }

  latest_in_run : (i m k : ℕ) → suc i < length groups
      → (writer : IsLatestWriter (ideal_moments system) (group_at groups i) (group_at groups (suc i)) m k) → writer.read < run.table.ticks
      → IsLatestWriter (run_moments system run) (group_at groups i) (group_at groups (suc i)) m k
  latest_in_run i m k h writer below = record {
    write = writer.write;
    read = writer.read;
    writes = ((at i (omega arith)).writes m writer.write).1 (writer.writes, omega (arith, writer.before, below));
    reads = ((at (suc i) h).reads k writer.read).1 (writer.reads, below);
    before = writer.before;
    greatest = λ other w writes. writer.greatest other w (((at i (omega arith)).writes other w).0 writes).0;
  }

  -- ---- forward

  module _ (chain : JobChain) (complete : IsForwardChain (ideal_moments system) groups chain) (lasts : chain.to ≤ run.table.ticks) where
    forward_hops : (i : ℕ) → suc i < length groups → IsHop (ideal_moments system) groups chain.jobs i
    forward_hops i h =
        let reader = complete.linked i h in
        record { write = reader.write; read = reader.read; writes = reader.writes; reads = reader.reads; after = reader.after }

    forward_last : (ideal_moments system).writes (last_group groups) (slice_index chain.jobs (length groups - 1)) chain.to
    forward_last = subst (λ n. (ideal_moments system).writes (last_group groups) (slice_index chain.jobs (n - 1)) chain.to) complete.one_a_group complete.to

    forward_write_by : (i w : ℕ) → i < length groups → (ideal_moments system).writes (group_at groups i) (slice_index chain.jobs i) w → w ≤ chain.to
    forward_write_by = all_writes_by (ideal_moments system) groups order read_first chain.jobs forward_hops complete.written chain.to forward_last

    forward_read_before : (i r : ℕ) → i < length groups → (ideal_moments system).reads (group_at groups i) (slice_index chain.jobs i) r → r < chain.to
    forward_read_before = all_reads_before (ideal_moments system) groups order read_first chain.jobs forward_hops complete.written chain.to forward_last

    -- the job before the first reads before the first does
    from_below : chain.from < chain.to
    from_below =
        let here = complete.written 0 complete.some_group in
        let (read, before, reads) = read_first 0 _ here.write complete.some_group here.writes in
        omega (
          arith,
          before,
          forward_write_by 0 here.write complete.some_group here.writes,
          order.reads_rise 0 (first_job chain - 1) (first_job chain) chain.from read complete.some_group
              (omega (arith, complete.not_first 0 complete.some_group)) complete.from reads,
        )

    pub forward_in_run : IsForwardChain (run_moments system run) groups chain
    forward_in_run = record {
      some_group = complete.some_group;
      one_a_group = complete.one_a_group;
      not_first = complete.not_first;
      written = λ i h.
          let here = complete.written i h in
          written_in_run i _ h here (omega (arith, lasts, forward_write_by i here.write h here.writes));
      linked = λ i h.
          let reader = complete.linked i h in
          earliest_in_run i _ _ h reader (omega (arith, lasts, forward_read_before (suc i) reader.read h reader.reads));
      from = ((at 0 complete.some_group).reads (first_job chain - 1) chain.from).1 (complete.from, omega (arith, lasts, from_below));
      to = ((at (length groups - 1) (omega (arith, complete.some_group))).writes (last_job chain) chain.to).1 (complete.to, lasts);
    }

  -- ---- backward

  module _ (jobs : List ℕ) (links : AreBackwardLinks (ideal_moments system) groups jobs) (next : ℕ)
      (next_writes : (ideal_moments system).writes (last_group groups) (slice_index jobs (length jobs - 1) + 1) next) (lasts : next ≤ run.table.ticks) where
    backward_hops : (i : ℕ) → suc i < length groups → IsHop (ideal_moments system) groups jobs i
    backward_hops i h =
        let writer = links.linked i h in
        record { write = writer.write; read = writer.read; writes = writer.writes; reads = writer.reads; after = writer.before }

    last_place : length groups - 1 < length groups
    last_place = omega (arith, links.some_group)

    backward_last : (ideal_moments system).writes (last_group groups) (slice_index jobs (length groups - 1)) links.last_written.write
    backward_last = subst (λ n. (ideal_moments system).writes (last_group groups) (slice_index jobs (n - 1)) links.last_written.write)
        links.one_a_group links.last_written.writes

    backward_written : (i : ℕ) → i < length groups → HasWritten (ideal_moments system) (group_at groups i) (slice_index jobs i)
    backward_written i h = elim (cases_lt (suc i) (length groups)) [
      | inl before ↦ let writer = links.linked i before in record { write = writer.write; writes = writer.writes }
      | inr last ↦
          let here : length groups - 1 ≡ i = omega arith in
          subst (λ n. HasWritten (ideal_moments system) (group_at groups n) (slice_index jobs n)) here
          (record { write = links.last_written.write; writes = backward_last })
    ]

    backward_read_before : (i r : ℕ) → i < length groups → (ideal_moments system).reads (group_at groups i) (slice_index jobs i) r
        → r < links.last_written.write
    backward_read_before = all_reads_before (ideal_moments system) groups order read_first jobs backward_hops backward_written
        links.last_written.write backward_last

    -- the last job writes before the job after it
    last_before : links.last_written.write < next
    last_before = order.writes_rise (length groups - 1) (slice_index jobs (length jobs - 1)) (slice_index jobs (length jobs - 1) + 1)
        links.last_written.write next last_place (omega arith) links.last_written.writes next_writes

    links_in_run : AreBackwardLinks (run_moments system run) groups jobs
    links_in_run = record {
      some_group = links.some_group;
      one_a_group = links.one_a_group;
      linked = λ i h.
          let writer = links.linked i h in
          latest_in_run i _ _ h writer (omega (arith, lasts, last_before, backward_read_before (suc i) writer.read h writer.reads));
      last_written = written_in_run (length groups - 1) _ last_place links.last_written (omega (arith, lasts, last_before));
      next_written = record { write = next; writes = ((at (length groups - 1) last_place).writes _ next).1 (next_writes, lasts) };
    }

    first_in_run : (from : ℕ) → (ideal_moments system).reads (group_at groups 0) (slice_index jobs 0) from
        → (run_moments system run).reads (group_at groups 0) (slice_index jobs 0) from
    first_in_run from reads = ((at 0 links.some_group).reads _ from).1
        (reads, omega (arith, lasts, last_before, backward_read_before 0 from links.some_group reads))

  pub age_in_run : (chain : JobChain) → IsAgeChain (ideal_moments system) groups chain → chain.to ≤ run.table.ticks
      → IsAgeChain (run_moments system run) groups chain
  age_in_run chain complete lasts = record {
    links = links_in_run chain.jobs complete.links chain.to complete.to lasts;
    from = first_in_run chain.jobs complete.links chain.to complete.to lasts chain.from complete.from;
    to = ((at (length groups - 1) (last_place chain.jobs complete.links chain.to complete.to lasts)).writes _ chain.to).1 (complete.to, lasts);
  }

  -- the run lasts until the job after the last has written
  pub reduced_in_run : (chain : JobChain) → IsReducedChain (ideal_moments system) groups chain
      → (next : ℕ) → (ideal_moments system).writes (last_group groups) (last_job chain + 1) next → next ≤ run.table.ticks
      → IsReducedChain (run_moments system run) groups chain
  reduced_in_run chain complete next writes lasts =
      let place = last_place chain.jobs complete.links next writes lasts in
      record {
        links = links_in_run chain.jobs complete.links next writes lasts;
        from = first_in_run chain.jobs complete.links next writes lasts chain.from complete.from;
        to = ((at (length groups - 1) place).writes _ chain.to).1 (
          complete.to,
          omega (arith, lasts, order.writes_rise (length groups - 1) (last_job chain) (last_job chain + 1) chain.to next place (omega arith) complete.to writes),
        );
      }
