-- The ideal moments of a chain are those of its beats, and so are its job chains.
use Rattle.std.proofs.Common.{◌≡◌, ℕ, zero, suc, ◌+◌, ◌-◌, ◌*◌, ◌<◌, ◌≤◌, List, length, sym, ap, subst, ◌∙◌, arith}
use Rattle.std.specs.Prelude.{slice_index}
use Rattle.cl_model.specs.{declared.group.Group.Group, Groups.group_at}
use Rattle.cl_runs.specs.{TaskTiming.System, Chains.{IsEarliestReader, IsLatestWriter, JobChain, chain_length, first_job, last_job, IsForwardChain, AreBackwardLinks, IsAgeChain, IsReducedChain}, RunChains.{ArrivesAt, ideal_moments}}
use Rattle.cl_exact.specs.{declared.beat.Beat.Beat, Inner.{Beats.{AreBeatsOf, beat_in, read_at, write_at, first_reader, forward_job, forward_start, forward_end, reaction_of}, Walks.{IsForwardWalk, IsLastWritingJob, IsBackwardWalk}, Found.{last_beat, IsComplete, age_of}}}
use Rattle.cl_exact.proofs.{BeatFacts.{reader_is, reader_after, reader_least}, ReactionAge.reads_before_last}

module _ (system : System) (groups : List Group) (beats : List Beat) (of : AreBeatsOf system groups beats) where
  abbrev reads : (place job tick : ℕ) → Type 0
  reads place = (ideal_moments system).reads (group_at groups place)

  abbrev writes : (place job tick : ℕ) → Type 0
  writes place = (ideal_moments system).writes (group_at groups place)

  some_period : (place : ℕ) → place < length groups → 1 ≤ (beat_in beats place).period
  some_period place within = (of.are_beats.each place (omega (arith, within, of.as_many))).some_period

  -- a job reads when its beat says, and only then
  pub reads_at : (place job : ℕ) → place < length groups → reads place job (read_at (beat_in beats place) job)
  unfolding ideal_moments
  reads_at place job within =
      let at : read_at (beat_in beats place) job ≡ (beat_in beats place).offset + job * (beat_in beats place).period = omega arith in
      subst (λ kind. ArrivesAt kind job (read_at (beat_in beats place) job)) (sym (of.each place within).periodic) at

  pub reads_is : (place job tick : ℕ) → place < length groups → reads place job tick → tick ≡ read_at (beat_in beats place) job
  unfolding ideal_moments
  reads_is place job tick within at = subst (λ kind. ArrivesAt kind job tick) (of.each place within).periodic at

  -- and so it writes
  pub writes_at : (place job : ℕ) → place < length groups → writes place job (write_at (beat_in beats place) job)
  unfolding ideal_moments
  writes_at place job within =
      (read_at (beat_in beats place) job, reads_at place job within, ap (λ n. read_at (beat_in beats place) job + n) (sym (of.each place within).deadline))

  pub writes_is : (place job tick : ℕ) → place < length groups → writes place job tick → tick ≡ write_at (beat_in beats place) job
  unfolding ideal_moments
  writes_is place job tick within at =
      omega (arith, at.2, reads_is place job at.0 within at.1, (of.each place within).deadline)

  -- the earliest reader is the first one
  pub earliest_is : (place writing reading : ℕ) → suc place < length groups
      → IsEarliestReader (ideal_moments system) (group_at groups place) (group_at groups (suc place)) writing reading
      → reading ≡ first_reader (beat_in beats (suc place)) (write_at (beat_in beats place) writing)
  earliest_is place writing reading within link =
      let write = writes_is place writing link.write (omega (arith, within)) link.writes in
      let read = reads_is (suc place) reading link.read within link.reads in
      reader_is (beat_in beats (suc place)) (some_period (suc place) within) (write_at (beat_in beats place) writing) reading
      (omega (arith, link.after, write, read))
      (λ other after. link.least other (read_at (beat_in beats (suc place)) other) (reads_at (suc place) other within) (omega (arith, after, write)))

  pub earliest_at : (place writing : ℕ) → suc place < length groups
      → IsEarliestReader (ideal_moments system) (group_at groups place) (group_at groups (suc place)) writing
      (first_reader (beat_in beats (suc place)) (write_at (beat_in beats place) writing))
  earliest_at place writing within =
      let reader = beat_in beats (suc place) in
      let write = write_at (beat_in beats place) writing in
      record {
        write = write;
        read = read_at reader (first_reader reader write);
        writes = writes_at place writing (omega (arith, within));
        reads = reads_at (suc place) (first_reader reader write) within;
        after = reader_after reader (some_period (suc place) within) write;
        least = λ other r reads after.
            reader_least reader (some_period (suc place) within) write other (omega (arith, after, reads_is (suc place) other r within reads));
      }

  -- the latest writer is the last one
  pub latest_is : (place writing reading : ℕ) → suc place < length groups
      → IsLatestWriter (ideal_moments system) (group_at groups place) (group_at groups (suc place)) writing reading
      → IsLastWritingJob (beat_in beats place) (beat_in beats (suc place)) writing reading
  latest_is place writing reading within link =
      let write = writes_is place writing link.write (omega (arith, within)) link.writes in
      let read = reads_is (suc place) reading link.read within link.reads in
      record {
        before = omega (arith, link.before, write, read);
        greatest = λ other before. link.greatest other (write_at (beat_in beats place) other) (writes_at place other (omega (arith, within)))
            (omega (arith, before, read));
      }

  pub latest_at : (place writing reading : ℕ) → suc place < length groups
      → IsLastWritingJob (beat_in beats place) (beat_in beats (suc place)) writing reading
      → IsLatestWriter (ideal_moments system) (group_at groups place) (group_at groups (suc place)) writing reading
  latest_at place writing reading within link = record {
    write = write_at (beat_in beats place) writing;
    read = read_at (beat_in beats (suc place)) reading;
    writes = writes_at place writing (omega (arith, within));
    reads = reads_at (suc place) reading within;
    before = link.before;
    greatest = λ other w writes before. link.greatest other (omega (arith, before, writes_is place other w (omega (arith, within)) writes));
  }

  -- ---- forward chains

  pub forward_is : (chain : JobChain) → IsForwardChain (ideal_moments system) groups chain → (place : ℕ) → place < length groups
      → slice_index chain.jobs place ≡ forward_job beats (first_job chain) place
  forward_is chain complete zero within = omega arith
  forward_is chain complete (suc place) within =
      earliest_is place _ _ within (complete.linked place within)
      ∙ ap (λ job. first_reader (beat_in beats (suc place)) (write_at (beat_in beats place) job)) (forward_is chain complete place (omega (arith, within)))

  pub forward_complete : (chain : JobChain) → IsForwardChain (ideal_moments system) groups chain → IsComplete beats (first_job chain)
  forward_complete chain complete place within =
      let there : place < length groups = omega (arith, within, of.as_many) in
      omega (arith, forward_is chain complete place there, complete.not_first place there)

  last_within : length groups - 1 < length groups
  last_within = omega (arith, of.as_many, of.are_beats.some)

  pub forward_length : (chain : JobChain) → IsForwardChain (ideal_moments system) groups chain → chain_length chain ≡ reaction_of beats (first_job chain)
  forward_length chain complete =
      let from = reads_is 0 (first_job chain - 1) chain.from complete.some_group complete.from in
      let last : length chain.jobs - 1 ≡ length beats - 1 = omega (arith, complete.one_a_group, of.as_many) in
      let place : length groups - 1 ≡ length beats - 1 = omega (arith, of.as_many) in
      let to = writes_is (length groups - 1) (last_job chain) chain.to last_within complete.to in
      let job = ap (slice_index chain.jobs) (last ∙ sym place) ∙ forward_is chain complete (length groups - 1) last_within in
      let end : chain.to ≡ forward_end beats (first_job chain) = to ∙ ap (write_at (beat_in beats (length groups - 1))) job
      ∙ ap (λ k. write_at (beat_in beats k) (forward_job beats (first_job chain) k)) place in
      ap (λ n. n - chain.from) end ∙ ap (λ n. forward_end beats (first_job chain) - n) from

  pub forward_made : (first : ℕ) (jobs : List ℕ) → IsForwardWalk beats first jobs → IsComplete beats first
      → IsForwardChain (ideal_moments system) groups (record { from = forward_start beats first; to = forward_end beats first; jobs = jobs })
  forward_made first jobs are complete = record {
    some_group = omega (arith, of.as_many, of.are_beats.some);
    one_a_group = are.as_many ∙ of.as_many;
    not_first = λ place within. omega (arith, at place within, complete place (omega (arith, within, of.as_many)));
    written = λ place within. record { write = write_at (beat_in beats place) (slice_index jobs place); writes = writes_at place (slice_index jobs place) within };
    linked = λ place within.
        let here = at place (omega (arith, within)) in
        let next = at (suc place) within in
        subst (λ m. IsEarliestReader (ideal_moments system) (group_at groups place) (group_at groups (suc place)) m (slice_index jobs (suc place))) (sym here)
        (subst (λ k. IsEarliestReader (ideal_moments system) (group_at groups place) (group_at groups (suc place)) (forward_job beats first place) k) (sym next)
        (earliest_at place (forward_job beats first place) within));
    from = subst (λ job. reads 0 (job - 1) (forward_start beats first)) (sym (at 0 (omega (arith, of.as_many, of.are_beats.some))))
        (reads_at 0 (first - 1) (omega (arith, of.as_many, of.are_beats.some)));
    to =
        let last : length groups - 1 ≡ length jobs - 1 = omega (arith, are.as_many, of.as_many) in
        let place : length groups - 1 ≡ length beats - 1 = omega (arith, of.as_many) in
        let job = ap (slice_index jobs) (sym last) ∙ at (length groups - 1) last_within in
        subst (λ k. writes (length groups - 1) k (forward_end beats first)) (sym job)
        (subst (λ t. writes (length groups - 1) (forward_job beats first (length groups - 1)) t)
        (ap (λ k. write_at (beat_in beats k) (forward_job beats first k)) place)
        (writes_at (length groups - 1) (forward_job beats first (length groups - 1)) last_within));
  }
    where
      at : (place : ℕ) → place < length groups → slice_index jobs place ≡ forward_job beats first place
      at place within = are.each place (omega (arith, within, of.as_many))

  -- ---- backward chains

  pub backward_is : (jobs : List ℕ) → AreBackwardLinks (ideal_moments system) groups jobs
      → IsBackwardWalk beats (slice_index jobs (length jobs - 1)) jobs
  backward_is jobs links = record {
    as_many = links.one_a_group ∙ sym of.as_many;
    linked = λ place within. latest_is place _ _ (omega (arith, within, of.as_many)) (links.linked place (omega (arith, within, of.as_many)));
    last_is = ap (slice_index jobs) (omega (arith, links.one_a_group, of.as_many));
  }

  pub backward_made : (last : ℕ) (jobs : List ℕ) → IsBackwardWalk beats last jobs → AreBackwardLinks (ideal_moments system) groups jobs
  backward_made last jobs are = record {
    some_group = omega (arith, of.as_many, of.are_beats.some);
    one_a_group = are.as_many ∙ of.as_many;
    linked = λ place within. latest_at place _ _ within (are.linked place (omega (arith, within, of.as_many)));
    last_written = record { write = _; writes = writes_at (length groups - 1) _ last_within };
    next_written = record { write = _; writes = writes_at (length groups - 1) _ last_within };
  }

  first_within : 0 < length groups
  first_within = omega (arith, of.as_many, of.are_beats.some)

  same_last : length groups - 1 ≡ length beats - 1
  same_last = omega (arith, of.as_many)

  last_job_is : (last : ℕ) (jobs : List ℕ) → IsBackwardWalk beats last jobs → slice_index jobs (length jobs - 1) ≡ last
  last_job_is last jobs back = ap (slice_index jobs) (omega (arith, back.as_many)) ∙ back.last_is

  -- the moment at which the last group writes
  last_writes : (job : ℕ) → writes (length groups - 1) job (write_at (last_beat beats) job)
  last_writes job =
      subst (writes (length groups - 1) job) (ap (λ k. write_at (beat_in beats k) job) same_last) (writes_at (length groups - 1) job last_within)

  last_writes_is : (job tick : ℕ) → writes (length groups - 1) job tick → tick ≡ write_at (last_beat beats) job
  last_writes_is job tick at = writes_is (length groups - 1) job tick last_within at ∙ ap (λ k. write_at (beat_in beats k) job) same_last

  pub last_reads : (job : ℕ) → reads (length groups - 1) job (read_at (last_beat beats) job)
  last_reads job =
      subst (reads (length groups - 1) job) (ap (λ k. read_at (beat_in beats k) job) same_last) (reads_at (length groups - 1) job last_within)

  pub last_reads_is : (job tick : ℕ) → reads (length groups - 1) job tick → tick ≡ read_at (last_beat beats) job
  last_reads_is job tick at = reads_is (length groups - 1) job tick last_within at ∙ ap (λ k. read_at (beat_in beats k) job) same_last

  -- the backward chain of a last job, by its age and by its reduced age
  pub age_made : (last : ℕ) (jobs : List ℕ) → IsBackwardWalk beats last jobs
      → IsAgeChain (ideal_moments system) groups
      (record { from = read_at (beat_in beats 0) (slice_index jobs 0); to = write_at (last_beat beats) (last + 1); jobs = jobs })
  age_made last jobs back = record {
    links = backward_made last jobs back;
    from = reads_at 0 (slice_index jobs 0) first_within;
    to = subst (λ job. writes (length groups - 1) (job + 1) (write_at (last_beat beats) (last + 1))) (sym (last_job_is last jobs back)) (last_writes (last + 1));
  }

  pub reduced_made : (last : ℕ) (jobs : List ℕ) → IsBackwardWalk beats last jobs
      → IsReducedChain (ideal_moments system) groups
      (record { from = read_at (beat_in beats 0) (slice_index jobs 0); to = write_at (last_beat beats) last; jobs = jobs })
  reduced_made last jobs back = record {
    links = backward_made last jobs back;
    from = reads_at 0 (slice_index jobs 0) first_within;
    to = subst (λ job. writes (length groups - 1) job (write_at (last_beat beats) last)) (sym (last_job_is last jobs back)) (last_writes last);
  }

  pub age_back : (chain : JobChain) → IsAgeChain (ideal_moments system) groups chain → IsBackwardWalk beats (last_job chain) chain.jobs
  age_back chain complete = backward_is chain.jobs complete.links

  pub age_length : (chain : JobChain) → IsAgeChain (ideal_moments system) groups chain
      → chain_length chain ≡ age_of beats (last_job chain) chain.jobs
  age_length chain complete =
      let from = reads_is 0 (first_job chain) chain.from first_within complete.from in
      let to = last_writes_is (last_job chain + 1) chain.to complete.to in
      ap (λ n. n - chain.from) to ∙ ap (λ n. write_at (last_beat beats) (last_job chain + 1) - n) from

  pub reduced_back : (chain : JobChain) → IsReducedChain (ideal_moments system) groups chain → IsBackwardWalk beats (last_job chain) chain.jobs
  reduced_back chain complete = backward_is chain.jobs complete.links

  -- a reduced age is a period less than the age
  pub reduced_length : (chain : JobChain) → IsReducedChain (ideal_moments system) groups chain
      → chain_length chain + (last_beat beats).period ≡ age_of beats (last_job chain) chain.jobs
  reduced_length chain complete =
      let from = reads_is 0 (first_job chain) chain.from first_within complete.from in
      let to = last_writes_is (last_job chain) chain.to complete.to in
      let before = reads_before_last beats of.are_beats (last_job chain) chain.jobs (reduced_back chain complete) in
      let next : read_at (last_beat beats) (last_job chain + 1) ≡ read_at (last_beat beats) (last_job chain) + (last_beat beats).period = omega arith in
      omega (arith, from, to, before, next)
