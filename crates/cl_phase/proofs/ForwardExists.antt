-- Over moments that last long enough, groups whose jobs keep up have a complete forward chain.
use Rattle.std.proofs.Common.{◌≡◌, ℕ, zero, suc, ◌+◌, ◌-◌, ◌<◌, ◌≤◌, List, [], ◌∷◌, length, refl, sym, ap, subst, arith}
use Rattle.std.specs.Prelude.{slice_index}
use Rattle.cl_model.specs.{declared.group.Group.Group, Groups.group_at}
use Rattle.cl_runs.specs.{Chains.{Moments, HasWritten, IsEarliestReader, JobChain, last_group, IsForwardChain}, MomentOrder.AreInOrder}
use Rattle.cl_phase.proofs.JobsInTime.{HasJobsBy, KeepsUp, AllKeepUp, HasReader, later_by, has_reader}

-- what a complete forward chain asks of its jobs
record AreForwardLinks (moments : Moments) (groups : List Group) (jobs : List ℕ) : Type 0 where
  one_a_group : length jobs ≡ length groups
  not_first : (i : ℕ) → i < length groups → 1 ≤ slice_index jobs i
  written : (i : ℕ) → i < length groups → HasWritten moments (group_at groups i) (slice_index jobs i)
  linked : (i : ℕ) → suc i < length groups
      → IsEarliestReader moments (group_at groups i) (group_at groups (suc i)) (slice_index jobs i) (slice_index jobs (suc i))

no_links : (moments : Moments) → AreForwardLinks moments [] []
no_links moments = record {
  one_a_group = refl;
  not_first = λ i h. absurd (omega (arith, h));
  written = λ i h. absurd (omega (arith, h));
  linked = λ i h. absurd (omega (arith, h));
}

-- what holds of the first place and of each later one holds of each
each_place : (P : ℕ → Type 0) (n : ℕ) → P 0 → ((i : ℕ) → i < n → P (suc i)) → (i : ℕ) → i < suc n → P i
each_place P n first later zero h = first
each_place P n first later (suc i) h = later i (omega (arith, h))

-- one more group before them
one_more : (moments : Moments) (group : Group) (job write : ℕ) → 1 ≤ job → moments.writes group job write
    → (groups : List Group) (jobs : List ℕ) → AreForwardLinks moments groups jobs
    → (0 < length groups → IsEarliestReader moments group (group_at groups 0) job (slice_index jobs 0))
    → AreForwardLinks moments (group ∷ groups) (job ∷ jobs)
one_more moments group job write some writes groups jobs links link = record {
  one_a_group = ap suc links.one_a_group;
  not_first = each_place (λ i. 1 ≤ slice_index (job ∷ jobs) i) (length groups) some links.not_first;
  written = each_place (λ i. HasWritten moments (group_at (group ∷ groups) i) (slice_index (job ∷ jobs) i)) (length groups)
      (record { write = write; writes = writes }) links.written;
  linked = linked;
}
  where
    linked : (i : ℕ) → suc i < length (group ∷ groups)
        → IsEarliestReader moments (group_at (group ∷ groups) i) (group_at (group ∷ groups) (suc i))
        (slice_index (job ∷ jobs) i) (slice_index (job ∷ jobs) (suc i))
    linked zero h = link (omega (arith, h))
    linked (suc i) h = links.linked i (omega (arith, h))

-- links from a job of the first group
record HasLinksFrom (moments : Moments) (groups : List Group) (job : ℕ) : Type 0 where
  jobs : List ℕ
  first_is : slice_index jobs 0 ≡ job
  links : AreForwardLinks moments groups jobs

links_of_one : (moments : Moments) (group : Group) (job write : ℕ) → 1 ≤ job → moments.writes group job write → HasLinksFrom moments (group ∷ []) job
links_of_one moments group job write some writes = record {
  jobs = job ∷ [];
  first_is = refl;
  links = one_more moments group job write some writes [] [] (no_links moments) (λ none. absurd (omega (arith, none)));
}

links_before : (moments : Moments) (group next : Group) (job write reading : ℕ) → 1 ≤ job → moments.writes group job write
    → (groups : List Group) → HasLinksFrom moments (next ∷ groups) reading → IsEarliestReader moments group next job reading
    → HasLinksFrom moments (group ∷ next ∷ groups) job
links_before moments group next job write reading some writes groups rest link = record {
  jobs = job ∷ rest.jobs;
  first_is = refl;
  links = one_more moments group job write some writes (next ∷ groups) rest.jobs rest.links
      (λ _. subst (IsEarliestReader moments group next job) (sym rest.first_is) link);
}

-- a complete chain of them, where the job before the first has read
forward_chain : (moments : Moments) (group : Group) (groups : List Group) (before read : ℕ) → moments.reads group before read
    → HasLinksFrom moments (group ∷ groups) (suc before) → (chain : JobChain) × IsForwardChain moments (group ∷ groups) chain
forward_chain moments group groups before read reads from =
    let end = from.links.written (length groups) (omega arith) in
    let number : before ≡ slice_index from.jobs 0 - 1 = omega (arith, from.first_is) in
    let place : length groups ≡ length (group ∷ groups) - 1 = omega arith in
    let last : length groups ≡ length from.jobs - 1 = omega (arith, from.links.one_a_group) in (
      record { from = read; to = end.write; jobs = from.jobs },
      record {
        some_group = omega arith;
        one_a_group = from.links.one_a_group;
        not_first = from.links.not_first;
        written = from.links.written;
        linked = from.links.linked;
        from = subst (λ k. moments.reads group k read) number reads;
        to = subst (λ i. moments.writes (last_group (group ∷ groups)) (slice_index from.jobs i) end.write) last
            (subst (λ i. moments.writes (group_at (group ∷ groups) i) (slice_index from.jobs (length groups)) end.write) place end.writes);
      },
    )

-- ---- how long

-- by when the first jobs of groups have written
abbrev starts_by : (latest : Group → ℕ → ℕ) → List Group → ℕ
starts_by latest [] = 0
starts_by latest (group ∷ groups) = latest group 0 + starts_by latest groups

-- how long a forward chain lasts at most whose first job has a number no greater than this
abbrev forward_room : (latest : Group → ℕ → ℕ) → List Group → (most : ℕ) → ℕ
forward_room latest [] most = 0
forward_room latest (group ∷ groups) most = latest group most + forward_room latest groups (latest group most)

-- how long moments have to last for a forward chain
abbrev pub forward_ticks : (latest : Group → ℕ → ℕ) → List Group → ℕ
forward_ticks latest [] = 0
forward_ticks latest (group ∷ groups) = forward_room latest (group ∷ groups) (suc (starts_by latest groups))

-- ---- chains

module _ (moments : Moments) (order : (groups : List Group) → AreInOrder moments groups) (ticks : ℕ) (latest : Group → ℕ → ℕ) where
  -- the first of further groups has an earliest reader of what is written once its first job has written
  next_reader : (groups : List Group) (group next : Group) → KeepsUp moments ticks latest next
      → (job write most : ℕ) → moments.writes group job write → starts_by latest (next ∷ groups) ≤ write → write ≤ most
      → forward_room latest (next ∷ groups) most ≤ ticks
      → HasReader moments group next job write (latest next most)
  next_reader groups group next keeps job write most writes started early long =
      let jobs : HasJobsBy moments next most (latest next most) = keeps most (omega (arith, long)) in
      let last = jobs most (omega arith) in
      let first = keeps 0 (omega (arith, started, early, long, last.not_early, last.reads_first, last.in_time)) 0 (omega arith) in
      has_reader moments order group next job write (latest next most) writes
      (later_by moments next 0 (latest next 0) write first (omega (arith, started)))
      (λ k h. jobs k (omega (arith, h, early)))

  -- the links from a job that writes once the first jobs of all further groups have
  forward_links : (groups : List Group) → AllKeepUp moments ticks latest groups → (group : Group) (job write most : ℕ)
      → 1 ≤ job → moments.writes group job write → starts_by latest groups ≤ write → write ≤ most → forward_room latest groups most ≤ ticks
      → HasLinksFrom moments (group ∷ groups) job
  forward_links [] keep group job write most some writes started early long = links_of_one moments group job write some writes
  forward_links (next ∷ groups) keep group job write most some writes started early long =
      let found = next_reader groups group next (keep 0 (omega arith)) job write most writes started early long in
      links_before moments group next job write found.job some writes groups
      (forward_links groups (λ i h. keep (suc i) (omega (arith, h))) next found.job found.is_job.write (latest next most)
      found.not_first found.is_job.writes (omega (arith, started, found.not_before, found.is_job.reads_first))
      found.is_job.in_time (omega (arith, long)))
      found.link

  pub has_forward_chain : (groups : List Group) → 0 < length groups → AllKeepUp moments ticks latest groups
      → forward_ticks latest groups ≤ ticks
      → (chain : JobChain) × IsForwardChain moments groups chain
  has_forward_chain [] some keep long = absurd (omega (arith, some))
  has_forward_chain (group ∷ groups) some keep long =
      let start : ℕ = starts_by latest groups in
      let jobs : HasJobsBy moments group (suc start) (latest group (suc start)) = keep 0 (omega arith) (suc start) (omega (arith, long)) in
      let before = jobs start (omega arith) in
      let first = jobs (suc start) (omega arith) in
      forward_chain moments group groups start before.read before.reads
      (forward_links groups (λ i h. keep (suc i) (omega (arith, h))) group (suc start) first.write (latest group (suc start))
      (omega arith) first.writes (omega (arith, first.not_early, first.reads_first)) first.in_time (omega (arith, long)))
