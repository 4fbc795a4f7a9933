-- The bounds of a chain of groups whose windows are always kept are at least the lengths of its complete chains in a legal run.
use Rattle.std.proofs.Common.{◌≡◌, ℕ, pos, suc, ◌+◌, ◌-◌, ◌<◌, ◌≤◌, List, [], ◌∷◌, length, map, ap, subst, arith}
use Rattle.std.specs.Prelude.{slice_index, ◌+ℤ◌, ◌≤ℤ◌, All}
use Rattle.std.proofs.Math.Numerals.{add-one}
use Rattle.cl_model.specs.{declared.group.Group.Group, Groups.{no_group, group_at}}
use Rattle.cl_runs.specs.{TaskTiming.{System, IsSound}, Table.job_at, Run.{Run, jobs_of}, Legal.IsLegal, Moments.{Reads, Writes}, Chains.{JobChain, chain_length, first_job, IsEarliestReader, IsForwardChain, AreBackwardLinks, IsAgeChain, IsReducedChain}, RunChains.run_moments}
use Rattle.cl_runs.specs.Delays.{IsDelayChain}
use Rattle.cl_runs.proofs.RunArrivals.{next_within}
use Rattle.cl_hop.specs.{Hops.{forward_hop, backward_hop, hops}, Timings.AlwaysKeeps, declared.group_timing.GroupTiming.GroupTiming, Bounds.{last_of, Lengths, AreBoundsOf}, Promises.{AreAtLeast, AreSafe}}
use Rattle.cl_hop.proofs.{LaterRuns.writes_in_time, HopBounds.{forward_arrival, backward_arrival}, AlongChains.{telescope, last_timing, at_last, length_within, from_first, from_before, from_arrival, to_next}}

-- the windows of all groups of a chain are always kept
abbrev pub AreAlwaysKept : System → (timing : Group → GroupTiming) → List Group → Type 0
AreAlwaysKept system timing groups = (i : ℕ) → i < length groups → AlwaysKeeps system (group_at groups i) (timing (group_at groups i))

-- when the job of a group of a chain arrives
abbrev arrival : Run → List Group → List ℕ → ℕ → ℕ
arrival run groups jobs i = (job_at (jobs_of run (group_at groups i).task) (slice_index jobs i)).arrival

module _ (system : System) (sound : IsSound system) (timing : Group → GroupTiming) (first : Group) (groups : List Group)
    (keep : AreAlwaysKept system timing (first ∷ groups)) (run : Run) (legal : IsLegal system run)
    (bounds : Lengths) (are : AreBoundsOf (map timing (first ∷ groups)) bounds) where
  last_place : length groups < length (first ∷ groups)
  last_place = omega arith

  last_write : (last_of (timing first) (map timing groups)).write
      ≡ (timing (group_at (first ∷ groups) (length groups))).write
  last_write = ap (λ (t : GroupTiming). t.write) (last_timing timing first groups)

  last_distance : (last_of (timing first) (map timing groups)).distance
      ≡ (timing (group_at (first ∷ groups) (length groups))).distance
  last_distance = ap (λ (t : GroupTiming). t.distance) (last_timing timing first groups)

  -- the first group reads and the last writes as their windows say
  first_reads : (k t : ℕ) → Reads system run first.task k first.first t
      → (job_at (jobs_of run first.task) k).arrival + (timing first).read ≤ t
  first_reads = ((keep 0 (omega arith)).always run legal).reads

  last_writes : (k t : ℕ) → Writes system run (group_at (first ∷ groups) (length groups)).task k (group_at (first ∷ groups) (length groups)).last t
      → t ≤ (job_at (jobs_of run (group_at (first ∷ groups) (length groups)).task) k).arrival
      + (timing (group_at (first ∷ groups) (length groups))).write
  last_writes = writes_in_time system sound run legal (group_at (first ∷ groups) (length groups)) (timing (group_at (first ∷ groups) (length groups)))
      (keep (length groups) last_place)

  -- the next job of a group arrives within its distance
  next_soon : (i : ℕ) → i < length (first ∷ groups) → (k : ℕ) → suc k < length (jobs_of run (group_at (first ∷ groups) i).task)
      → (job_at (jobs_of run (group_at (first ∷ groups) i).task) (suc k)).arrival
      ≤ (job_at (jobs_of run (group_at (first ∷ groups) i).task) k).arrival + (timing (group_at (first ∷ groups) i)).distance
  next_soon i h k below = omega (
    arith,
    next_within system sound run legal (group_at (first ∷ groups) i).task (keep i h).is_group.is_task k below,
    (keep i h).of_group.distance,
  )

  -- the last job of a chain arrives at most the sum of its hops after the first
  forward_along : (jobs : List ℕ)
      → ((i : ℕ) → suc i < length (first ∷ groups) → 1 ≤ slice_index jobs (suc i))
      → ((i : ℕ) → suc i < length (first ∷ groups)
      → IsEarliestReader (run_moments system run) (group_at (first ∷ groups) i) (group_at (first ∷ groups) (suc i)) (slice_index jobs i) (slice_index jobs (suc i)))
      → pos (arrival run (first ∷ groups) jobs (length groups))
      ≤ℤ (pos (arrival run (first ∷ groups) jobs 0) +ℤ hops forward_hop (timing first) (map timing groups))
  forward_along jobs not_first linked = telescope forward_hop timing first groups (arrival run (first ∷ groups) jobs) (λ i h.
      forward_arrival system sound (group_at (first ∷ groups) i) (group_at (first ∷ groups) (suc i)) (timing (group_at (first ∷ groups) i))
      (timing (group_at (first ∷ groups) (suc i))) (keep i (omega arith)) (keep (suc i) h) run legal (slice_index jobs i) (slice_index jobs (suc i)) (not_first i h) (linked i h))

  backward_along : (jobs : List ℕ) → AreBackwardLinks (run_moments system run) (first ∷ groups) jobs
      → pos (arrival run (first ∷ groups) jobs (length groups))
      ≤ℤ (pos (arrival run (first ∷ groups) jobs 0) +ℤ hops backward_hop (timing first) (map timing groups))
  backward_along jobs links = telescope backward_hop timing first groups (arrival run (first ∷ groups) jobs) (λ i h.
      backward_arrival system sound (group_at (first ∷ groups) i) (group_at (first ∷ groups) (suc i)) (timing (group_at (first ∷ groups) i))
      (timing (group_at (first ∷ groups) (suc i))) (keep i (omega arith)) (keep (suc i) h) run legal (slice_index jobs i) (slice_index jobs (suc i)) (links.linked i h))

  reaction_within : (chain : JobChain) → IsForwardChain (run_moments system run) (first ∷ groups) chain
      → chain_length chain ≤ bounds.reaction
  unfolding run_moments
  reaction_within chain complete =
      let k : ℕ = first_job chain - 1 in
      let next : first_job chain ≡ suc k = omega (arith, complete.not_first 0 complete.some_group) in
      let in_table : suc k < length (jobs_of run first.task)
      = subst (λ (n : ℕ). n < length (jobs_of run first.task)) next (complete.written 0 complete.some_group).writes.in_table in
      let soon = next_soon 0 complete.some_group k in_table in
      let writes = at_last (λ (group : Group) (job : ℕ). Writes system run group.task job group.last chain.to) first groups chain.jobs
      complete.one_a_group complete.to in
      length_within chain.from chain.to _ _ are.reaction (from_before (arrival run (first ∷ groups) chain.jobs 0)
      (arrival run (first ∷ groups) chain.jobs (length groups)) chain.to
      (hops forward_hop (timing first) (map timing groups))
      _ _ last_write (last_writes _ chain.to writes) (forward_along chain.jobs (λ i h. complete.not_first (suc i) h) complete.linked)
      chain.from (timing first).read (job_at (jobs_of run first.task) k).arrival (timing first).distance
      (first_reads k chain.from complete.from)
      (omega (arith, soon, ap (λ (n : ℕ). (job_at (jobs_of run first.task) n).arrival) next)))

  reduced_within : (chain : JobChain) → IsReducedChain (run_moments system run) (first ∷ groups) chain
      → chain_length chain ≤ bounds.reduced
  unfolding run_moments
  reduced_within chain complete =
      let writes = at_last (λ (group : Group) (job : ℕ). Writes system run group.task job group.last chain.to) first groups chain.jobs
      complete.links.one_a_group complete.to in
      length_within chain.from chain.to _ _ are.reduced (from_first (arrival run (first ∷ groups) chain.jobs 0)
      (arrival run (first ∷ groups) chain.jobs (length groups)) chain.to
      (hops backward_hop (timing first) (map timing groups))
      _ _ last_write (last_writes _ chain.to writes) (backward_along chain.jobs complete.links)
      chain.from (timing first).read (first_reads (first_job chain) chain.from complete.from))

  age_within : (chain : JobChain) → IsAgeChain (run_moments system run) (first ∷ groups) chain
      → chain_length chain ≤ bounds.age
  unfolding run_moments
  age_within chain complete =
      let last : ℕ = slice_index chain.jobs (length groups) in
      let writes = at_last (λ (group : Group) (job : ℕ). Writes system run group.task (suc job) group.last chain.to) first groups chain.jobs
      complete.links.one_a_group (rw add-one at complete.to) in
      length_within chain.from chain.to _ _ are.age (to_next (arrival run (first ∷ groups) chain.jobs 0)
      (arrival run (first ∷ groups) chain.jobs (length groups))
      (job_at (jobs_of run (group_at (first ∷ groups) (length groups)).task) (suc last)).arrival chain.to
      (hops backward_hop (timing first) (map timing groups))
      _ _ _ _ last_write last_distance (last_writes (suc last) chain.to writes) (next_soon (length groups) last_place last writes.in_table)
      (backward_along chain.jobs complete.links)
      chain.from (timing first).read (first_reads (first_job chain) chain.from complete.from))

  delay_within : (chain : JobChain) → IsDelayChain system run (first ∷ groups) chain → chain_length chain ≤ bounds.delay
  unfolding run_moments
  delay_within chain complete =
      let writes = at_last (λ (group : Group) (job : ℕ). Writes system run group.task job group.last chain.to) first groups chain.jobs
      complete.one_a_group complete.to in
      length_within chain.from chain.to _ _ are.delay (from_arrival (arrival run (first ∷ groups) chain.jobs 0)
      (arrival run (first ∷ groups) chain.jobs (length groups)) chain.to
      (hops forward_hop (timing first) (map timing groups))
      _ _ last_write (last_writes _ chain.to writes) (forward_along chain.jobs complete.not_first complete.linked)
      chain.from complete.from)

-- the bounds of a chain of such groups are at least the lengths of its complete chains
pub at_least : (system : System) → IsSound system → (timing : Group → GroupTiming) (groups : List Group) → AreAlwaysKept system timing groups
    → (run : Run) → IsLegal system run → (bounds : Lengths) → AreBoundsOf (map timing groups) bounds
    → AreAtLeast system groups bounds run
at_least system sound timing [] keep run legal bounds are = record {
  reaction = λ chain complete. absurd (omega (arith, complete.some_group));
  age = λ chain complete. absurd (omega (arith, complete.links.some_group));
  reduced = λ chain complete. absurd (omega (arith, complete.links.some_group));
  delay = λ chain complete. absurd (omega (arith, complete.some_group));
}
at_least system sound timing (first ∷ groups) keep run legal bounds are = record {
  reaction = reaction_within system sound timing first groups keep run legal bounds are;
  age = age_within system sound timing first groups keep run legal bounds are;
  reduced = reduced_within system sound timing first groups keep run legal bounds are;
  delay = delay_within system sound timing first groups keep run legal bounds are;
}

-- and so those over timings that always hold are safe
pub kept_safe : (system : System) → IsSound system → (timing : Group → GroupTiming) (groups : List Group)
    → All (λ (group : Group). AlwaysKeeps system group (timing group)) groups
    → (bounds : Lengths) → AreBoundsOf (map timing groups) bounds → AreSafe system groups bounds
kept_safe system sound timing groups keep bounds are run legal =
    at_least system sound timing groups (λ place h. keep place no_group h) run legal bounds are
