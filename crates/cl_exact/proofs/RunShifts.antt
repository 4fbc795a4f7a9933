-- Chains over the ideal moments, moved by a common multiple of the periods.
use Rattle.std.proofs.Common.{◌≡◌, ℕ, suc, ◌+◌, ◌-◌, ◌*◌, ◌<◌, ◌≤◌, inl, inr, List, length, map, refl, sym, ap, ◌∙◌, subst, arith}
use Rattle.std.specs.Prelude.{slice_index}
use Rattle.std.specs.List.{range_with_len}
use Rattle.std.proofs.lemmas.Bool.{cases_lt}
use Rattle.std.proofs.lemmas.List.FromFn.{length-map-range_with_len, get_or-map-range_with_len}
use Rattle.std.proofs.Math.Nat.{mul-le-mul_right}
use Rattle.cl_model.specs.{declared.{stimulus.StimulusKind.{StimulusKind, TheVariants.Periodic}, group.Group.Group}, Groups.group_at, Timing.greatest_jitter}
use Rattle.cl_runs.specs.{TaskTiming.{System, timing_at}, Chains.{HasWritten, IsEarliestReader, IsLatestWriter, JobChain, last_group, first_job, last_job, IsForwardChain, AreBackwardLinks, IsAgeChain, IsReducedChain}, RunChains.{ArrivesAt, ideal_moments}}
use Rattle.cl_exact.proofs.RunMoments.{task_offset, task_period, task_arrival}

-- the tasks of the groups are periodic
abbrev pub ArePeriodic : System → List Group → Type 0
ArePeriodic system groups = (i : ℕ) → i < length groups → (timing_at system (group_at groups i).task).pattern
    ≡ Periodic (task_period system (group_at groups i).task) (task_offset system (group_at groups i).task) (greatest_jitter (timing_at system (group_at groups i).task).pattern)

-- when a job of a group arrives
abbrev pub arrival_at : System → List Group → (i k : ℕ) → ℕ
arrival_at system groups i k = task_arrival system (group_at groups i).task k

abbrev pub deadline_at : System → List Group → (i : ℕ) → ℕ
deadline_at system groups i = (timing_at system (group_at groups i).task).deadline

module _ (system : System) (groups : List Group) (periodic : ArePeriodic system groups) where
  -- ---- what the ideal moments are

  pub read_is : (i k t : ℕ) → i < length groups → (ideal_moments system).reads (group_at groups i) k t → t ≡ arrival_at system groups i k
  unfolding ideal_moments
  read_is i k t h reads = subst (λ (kind : StimulusKind). ArrivesAt kind k t) (periodic i h) reads

  pub reads_at : (i k t : ℕ) → i < length groups → t ≡ arrival_at system groups i k → (ideal_moments system).reads (group_at groups i) k t
  unfolding ideal_moments
  reads_at i k t h at = subst (λ (kind : StimulusKind). ArrivesAt kind k t) (sym (periodic i h)) at

  pub write_is : (i k t : ℕ) → i < length groups → (ideal_moments system).writes (group_at groups i) k t
      → t ≡ arrival_at system groups i k + deadline_at system groups i
  unfolding ideal_moments
  write_is i k t h writes = omega (arith, writes.2, read_is i k writes.0 h writes.1)

  pub writes_at : (i k t : ℕ) → i < length groups → t ≡ arrival_at system groups i k + deadline_at system groups i
      → (ideal_moments system).writes (group_at groups i) k t
  unfolding ideal_moments
  writes_at i k t h at = (arrival_at system groups i k, reads_at i k _ h refl, at)

  -- ---- moved moments

  module _ (shift : ℕ) (times : ℕ → ℕ) (is : (i : ℕ) → i < length groups → times i * task_period system (group_at groups i).task ≡ shift) where
    arrival_moved : (i k : ℕ) → i < length groups → arrival_at system groups i (k + times i) ≡ arrival_at system groups i k + shift
    arrival_moved i k h = let same = is i h in omega (arith, same)

    reads_moved : (i k t : ℕ) → i < length groups → (ideal_moments system).reads (group_at groups i) k t
        → (ideal_moments system).reads (group_at groups i) (k + times i) (t + shift)
    reads_moved i k t h reads = reads_at i (k + times i) (t + shift) h (omega (arith, read_is i k t h reads, arrival_moved i k h))

    writes_moved : (i k t : ℕ) → i < length groups → (ideal_moments system).writes (group_at groups i) k t
        → (ideal_moments system).writes (group_at groups i) (k + times i) (t + shift)
    writes_moved i k t h writes = writes_at i (k + times i) (t + shift) h (omega (arith, write_is i k t h writes, arrival_moved i k h))

    written_moved : (i k : ℕ) → i < length groups → HasWritten (ideal_moments system) (group_at groups i) k
        → HasWritten (ideal_moments system) (group_at groups i) (k + times i)
    written_moved i k h written = record { write = written.write + shift; writes = writes_moved i k written.write h written.writes }

    -- jobs in order arrive in order
    arrivals_ordered : (i k l : ℕ) → k ≤ l → arrival_at system groups i k ≤ arrival_at system groups i l
    arrivals_ordered i k l h = omega (arith, mul-le-mul_right (task_period system (group_at groups i).task) h)

    -- the job before an earliest reader that isn't the first job reads before the write
    read_before : (i m k : ℕ) → suc i < length groups → 1 ≤ k
        → (reader : IsEarliestReader (ideal_moments system) (group_at groups i) (group_at groups (suc i)) m k)
        → arrival_at system groups (suc i) (k - 1) < reader.write
    read_before i m k h some reader = elim (cases_lt (arrival_at system groups (suc i) (k - 1)) reader.write) [
      | inl before ↦ before
      | inr after ↦ absurd (omega (arith, some, reader.least (k - 1) _ (reads_at (suc i) (k - 1) _ h refl) after))
    ]

    earliest_moved : (i m k : ℕ) → suc i < length groups → 1 ≤ k
        → IsEarliestReader (ideal_moments system) (group_at groups i) (group_at groups (suc i)) m k
        → IsEarliestReader (ideal_moments system) (group_at groups i) (group_at groups (suc i)) (m + times i) (k + times (suc i))
    earliest_moved i m k h some reader = record {
      write = reader.write + shift;
      read = reader.read + shift;
      writes = writes_moved i m reader.write (omega arith) reader.writes;
      reads = reads_moved (suc i) k reader.read h reader.reads;
      after = omega (arith, reader.after);
      least = λ other r reads after. elim (cases_lt other (k + times (suc i))) [
        | inl earlier ↦ absurd (omega (
          arith,
          after,
          read_is (suc i) other r h reads,
          read_before i m k h some reader,
          arrival_moved (suc i) (k - 1) h,
          arrivals_ordered (suc i) other (k - 1 + times (suc i)) (omega (arith, earlier, some)),
        ))
        | inr later ↦ later
      ];
    }

    -- the job after a latest writer writes after the read
    write_after : (i m k : ℕ) → suc i < length groups
        → (writer : IsLatestWriter (ideal_moments system) (group_at groups i) (group_at groups (suc i)) m k)
        → writer.read < arrival_at system groups i (suc m) + deadline_at system groups i
    write_after i m k h writer = elim (cases_lt writer.read (arrival_at system groups i (suc m) + deadline_at system groups i)) [
      | inl after ↦ after
      | inr before ↦ absurd (omega (arith, writer.greatest (suc m) _ (writes_at i (suc m) _ (omega arith) refl) before))
    ]

    latest_moved : (i m k : ℕ) → suc i < length groups
        → IsLatestWriter (ideal_moments system) (group_at groups i) (group_at groups (suc i)) m k
        → IsLatestWriter (ideal_moments system) (group_at groups i) (group_at groups (suc i)) (m + times i) (k + times (suc i))
    latest_moved i m k h writer =
        let here : i < length groups = omega arith in
        record {
          write = writer.write + shift;
          read = writer.read + shift;
          writes = writes_moved i m writer.write here writer.writes;
          reads = reads_moved (suc i) k writer.read h writer.reads;
          before = omega (arith, writer.before);
          greatest = λ other w writes before. elim (cases_lt (m + times i) other) [
            | inl later ↦ absurd (omega (
              arith,
              before,
              write_is i other w here writes,
              write_after i m k h writer,
              arrival_moved i (suc m) here,
              arrivals_ordered i (suc m + times i) other (omega (arith, later)),
            ))
            | inr earlier ↦ earlier
          ];
        }

    -- ---- moved chains

    abbrev moved_jobs : List ℕ → List ℕ
    moved_jobs jobs = map (λ i. slice_index jobs i + times i) (range_with_len 0 (length groups))

    abbrev pub moved_chain : JobChain → JobChain
    moved_chain chain = record { from = chain.from + shift; to = chain.to + shift; jobs = moved_jobs chain.jobs }

    job_moved : (jobs : List ℕ) (i : ℕ) → i < length groups → slice_index jobs i + times i ≡ slice_index (moved_jobs jobs) i
    job_moved jobs i h = sym (get_or-map-range_with_len (λ n. slice_index jobs n + times n) 0 (length groups) i i 0 h (omega arith))

    count_moved : (jobs : List ℕ) → length (moved_jobs jobs) ≡ length groups
    count_moved jobs = length-map-range_with_len (λ n. slice_index jobs n + times n) 0 (length groups)

    -- the last job, which is that of the last group
    last_moved : (jobs : List ℕ) → 0 < length groups → length jobs ≡ length groups
        → slice_index jobs (length jobs - 1) + times (length groups - 1) ≡ slice_index (moved_jobs jobs) (length (moved_jobs jobs) - 1)
    last_moved jobs some one =
        let place : length groups - 1 ≡ length (moved_jobs jobs) - 1 = omega (arith, count_moved jobs) in
        ap (λ n. slice_index jobs (n - 1) + times (length groups - 1)) one ∙ job_moved jobs (length groups - 1) (omega (arith, some))
        ∙ ap (λ n. slice_index (moved_jobs jobs) n) place

    -- the moved jobs of the first and the last group arrive at the shift or later
    pub first_late : (jobs : List ℕ) → 0 < length groups → shift ≤ arrival_at system groups 0 (slice_index (moved_jobs jobs) 0)
    first_late jobs some =
        let same = ap (λ k. arrival_at system groups 0 k) (job_moved jobs 0 some) in
        omega (arith, same, arrival_moved 0 (slice_index jobs 0) some)

    pub last_late : (jobs : List ℕ) → 0 < length groups → length jobs ≡ length groups
        → shift ≤ arrival_at system groups (length groups - 1) (slice_index (moved_jobs jobs) (length (moved_jobs jobs) - 1))
    last_late jobs some one =
        let same = ap (λ k. arrival_at system groups (length groups - 1) k) (last_moved jobs some one) in
        omega (arith, same, arrival_moved (length groups - 1) (slice_index jobs (length jobs - 1)) (omega (arith, some)))

    pub forward_moved : (chain : JobChain) → IsForwardChain (ideal_moments system) groups chain → IsForwardChain (ideal_moments system) groups (moved_chain chain)
    forward_moved chain complete =
        let some = complete.not_first 0 complete.some_group in
        let before : first_job chain - 1 + times 0 ≡ first_job (moved_chain chain) - 1 = omega (arith, some, job_moved chain.jobs 0 complete.some_group) in
        record {
          some_group = complete.some_group;
          one_a_group = count_moved chain.jobs;
          not_first = λ i h. omega (arith, complete.not_first i h, job_moved chain.jobs i h);
          written = λ i h. subst (HasWritten (ideal_moments system) (group_at groups i)) (job_moved chain.jobs i h)
              (written_moved i _ h (complete.written i h));
          linked = λ i h.
              subst (λ m. IsEarliestReader (ideal_moments system) (group_at groups i) (group_at groups (suc i)) m (slice_index (moved_jobs chain.jobs) (suc i)))
              (job_moved chain.jobs i (omega arith))
              (subst (IsEarliestReader (ideal_moments system) (group_at groups i) (group_at groups (suc i)) (slice_index chain.jobs i + times i))
              (job_moved chain.jobs (suc i) h)
              (earliest_moved i _ _ h (complete.not_first (suc i) h) (complete.linked i h)));
          from = subst (λ k. (ideal_moments system).reads (group_at groups 0) k (chain.from + shift)) before
              (reads_moved 0 _ chain.from complete.some_group complete.from);
          to = subst (λ k. (ideal_moments system).writes (last_group groups) k (chain.to + shift)) (last_moved chain.jobs complete.some_group complete.one_a_group)
              (writes_moved (length groups - 1) _ chain.to (omega (arith, complete.some_group)) complete.to);
        }

    links_moved : (jobs : List ℕ) → AreBackwardLinks (ideal_moments system) groups jobs → AreBackwardLinks (ideal_moments system) groups (moved_jobs jobs)
    links_moved jobs links =
        let place : length groups - 1 < length groups = omega (arith, links.some_group) in
        let last = last_moved jobs links.some_group links.one_a_group in
        let next : slice_index jobs (length jobs - 1) + 1 + times (length groups - 1) ≡ slice_index (moved_jobs jobs) (length (moved_jobs jobs) - 1) + 1
        = omega (arith, last) in
        record {
          some_group = links.some_group;
          one_a_group = count_moved jobs;
          linked = λ i h.
              subst (λ m. IsLatestWriter (ideal_moments system) (group_at groups i) (group_at groups (suc i)) m (slice_index (moved_jobs jobs) (suc i)))
              (job_moved jobs i (omega arith))
              (subst (IsLatestWriter (ideal_moments system) (group_at groups i) (group_at groups (suc i)) (slice_index jobs i + times i))
              (job_moved jobs (suc i) h) (latest_moved i _ _ h (links.linked i h)));
          last_written = subst (HasWritten (ideal_moments system) (last_group groups)) last (written_moved (length groups - 1) _ place links.last_written);
          next_written = subst (HasWritten (ideal_moments system) (last_group groups)) next (written_moved (length groups - 1) _ place links.next_written);
        }

    first_moved : (jobs : List ℕ) (from : ℕ) → 0 < length groups → (ideal_moments system).reads (group_at groups 0) (slice_index jobs 0) from
        → (ideal_moments system).reads (group_at groups 0) (slice_index (moved_jobs jobs) 0) (from + shift)
    first_moved jobs from some reads = subst (λ k. (ideal_moments system).reads (group_at groups 0) k (from + shift)) (job_moved jobs 0 some)
        (reads_moved 0 _ from some reads)

    pub age_moved : (chain : JobChain) → IsAgeChain (ideal_moments system) groups chain → IsAgeChain (ideal_moments system) groups (moved_chain chain)
    age_moved chain complete =
        let links = complete.links in
        let next : last_job chain + 1 + times (length groups - 1) ≡ last_job (moved_chain chain) + 1
        = omega (arith, last_moved chain.jobs links.some_group links.one_a_group) in
        record {
          links = links_moved chain.jobs links;
          from = first_moved chain.jobs chain.from links.some_group complete.from;
          to = subst (λ k. (ideal_moments system).writes (last_group groups) k (chain.to + shift)) next
              (writes_moved (length groups - 1) _ chain.to (omega (arith, links.some_group)) complete.to);
        }

    pub reduced_moved : (chain : JobChain) → IsReducedChain (ideal_moments system) groups chain → IsReducedChain (ideal_moments system) groups (moved_chain chain)
    reduced_moved chain complete =
        let links = complete.links in
        record {
          links = links_moved chain.jobs links;
          from = first_moved chain.jobs chain.from links.some_group complete.from;
          to = subst (λ k. (ideal_moments system).writes (last_group groups) k (chain.to + shift)) (last_moved chain.jobs links.some_group links.one_a_group)
              (writes_moved (length groups - 1) _ chain.to (omega (arith, links.some_group)) complete.to);
        }
