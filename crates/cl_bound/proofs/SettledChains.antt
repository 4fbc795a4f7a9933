-- Settled chains: all of their tasks are timely and so their windows are always kept, so their bounds are their sums, safe, positive and limited.
use Rattle.std.proofs.Common.{◌≡◌, ℕ, pos, ◌*◌, ◌<◌, ◌≤◌, List, [], ◌∷◌, length, ap, arith}
use Rattle.std.specs.Prelude.{◌+ℤ◌, ◌≤ℤ◌, nat_abs, All}
use Rattle.std.proofs.Math.ListN.{length-map}
use Rattle.std.proofs.lemmas.List.Elements.{All-map}
use Rattle.cl_model.specs.{declared.group.Group.Group, Groups.{no_group, group_at}}
use Rattle.cl_runs.specs.{TaskTiming.{System, IsSound}, Table.job_at, Run.{Run, jobs_of}, Legal.IsLegal, Chains.{IsEarliestReader, IsLatestWriter}, RunChains.run_moments}
use Rattle.cl_hop.specs.{Hops.{forward_hop, backward_hop}, declared.group_timing.GroupTiming.GroupTiming, Bounds.{Lengths, AreBoundsOf}, Promises.AreSafe}
use Rattle.cl_hop.proofs.{GroupWindows.{IsProper, group_proper}, HopBounds.{forward_arrival, backward_arrival}, ChainBounds.{AreAlwaysKept, at_least}, KeptWindows.timely_keeps, SumsOfHops.{IsAtMost, reaction_absolute, age_absolute, reduced_absolute, delay_absolute, reaction_some}}
use Rattle.cl_hop.proofs.SumsOfHops.{age_some, reduced_some, delay_some, reaction_at_most, age_at_most, reduced_at_most, delay_at_most}
use Rattle.cl_resp.specs.Response.{IsSettled}
use Rattle.cl_resp.proofs.{BusyWindowTask.settled_timely, SettledTasks.execution_in_response}
use Rattle.cl_bound.specs.{Answers.{answers_of, answer_at, response_in}, Bounds.{settled_timing, settled_timings, bounds_of}, SettledChains.{IsSettledChain, AreWithin}}
use Rattle.cl_bound.proofs.SettledTasks.{settled_task, in_deadline}

-- the response in the answer for a task of a system
abbrev response_at : System → ℕ → ℕ
response_at system i = response_in (answer_at (answers_of system) i)

same_lengths : (r a d l reaction age reduced delay : ℕ) → r ≡ reaction → a ≡ age → d ≡ reduced → l ≡ delay
    → ◌≡◌ {A = Lengths} (record { reaction = r; age = a; reduced = d; delay = l })
    (record { reaction = reaction; age = age; reduced = reduced; delay = delay })
same_lengths r a d l reaction age reduced delay e f g h = cc

-- there are no other bounds of a chain than those that the function gives
pub only_bounds : (system : System) (groups : List Group) (bounds : Lengths) → AreBoundsOf (settled_timings system groups) bounds → bounds ≡ bounds_of system groups
unfolding bounds_of
only_bounds system groups bounds are =
    same_lengths bounds.reaction bounds.age bounds.reduced bounds.delay _ _ _ _
    (ap nat_abs are.reaction) (ap nat_abs are.age) (ap nat_abs are.reduced) (ap nat_abs are.delay)

module _ (system : System) (sound : IsSound system) (groups : List Group) (chain : IsSettledChain system groups) where
  settled_at : (i : ℕ) → i < length groups → IsSettled system (group_at groups i).task (response_at system (group_at groups i).task)
  settled_at i h = settled_task system (group_at groups i).task (chain.groups_of i no_group h).is_task (chain.settled i no_group h)

  pub chain_kept : AreAlwaysKept system (settled_timing system) groups
  chain_kept i h = timely_keeps system sound (response_at system) (group_at groups i) (chain.groups_of i no_group h)
      (settled_timely system sound (group_at groups i).task (response_at system (group_at groups i).task) (settled_at i h))

  -- the timings of its groups are proper
  pub chain_proper : All IsProper (settled_timings system groups)
  chain_proper = All-map IsProper (settled_timing system) groups (λ i d h.
      let is = chain.groups_of i d h in
      let settled = settled_task system _ is.is_task (chain.settled i d h) in
      group_proper system sound (response_at system) _ is (omega (arith, execution_in_response system _ _ settled))
      (in_deadline system _ _ settled))

  -- the bounds of a settled chain are its sums
  pub settled_sums : AreBoundsOf (settled_timings system groups) (bounds_of system groups)
  unfolding bounds_of
  settled_sums = record {
    reaction = reaction_absolute (settled_timings system groups) chain_proper;
    age = age_absolute (settled_timings system groups) chain_proper;
    reduced = reduced_absolute (settled_timings system groups) chain_proper;
    delay = delay_absolute (settled_timings system groups) chain_proper;
  }

  -- and are safe
  pub settled_safe : AreSafe system groups (bounds_of system groups)
  settled_safe run legal = at_least system sound (settled_timing system) groups chain_kept run legal (bounds_of system groups) settled_sums

module _ (system : System) (sound : IsSound system) (x y : Group) (chain : IsSettledChain system (x ∷ y ∷ [])) (run : Run) (legal : IsLegal system run)
    (m k : ℕ) where
  kept : AreAlwaysKept system (settled_timing system) (x ∷ y ∷ [])
  kept = chain_kept system sound (x ∷ y ∷ []) chain

  -- the hops between two groups of a settled chain
  pub settled_forward : 1 ≤ k → IsEarliestReader (run_moments system run) x y m k
      → pos (job_at (jobs_of run y.task) k).arrival
      ≤ℤ (pos (job_at (jobs_of run x.task) m).arrival +ℤ forward_hop (settled_timing system x) (settled_timing system y))
  settled_forward = forward_arrival system sound x y (settled_timing system x) (settled_timing system y) (kept 0 (omega arith)) (kept 1 (omega arith)) run legal m k

  pub settled_backward : IsLatestWriter (run_moments system run) x y m k
      → pos (job_at (jobs_of run y.task) k).arrival
      ≤ℤ (pos (job_at (jobs_of run x.task) m).arrival +ℤ backward_hop (settled_timing system x) (settled_timing system y))
  settled_backward = backward_arrival system sound x y (settled_timing system x) (settled_timing system y) (kept 0 (omega arith)) (kept 1 (omega arith)) run legal m k

module _ (system : System) (sound : IsSound system) (groups : List Group) (chain : IsSettledChain system groups) where
  some_timing : 0 < length groups → 0 < length (settled_timings system groups)
  some_timing some = omega (arith, some, length-map groups (settled_timing system))

  -- each bound of a chain with some group is positive
  pub reaction_positive : 0 < length groups → 1 ≤ (bounds_of system groups).reaction
  unfolding bounds_of
  reaction_positive some = reaction_some (settled_timings system groups) (chain_proper system sound groups chain) (some_timing some)

  pub age_positive : 0 < length groups → 1 ≤ (bounds_of system groups).age
  unfolding bounds_of
  age_positive some = age_some (settled_timings system groups) (chain_proper system sound groups chain) (some_timing some)

  pub reduced_positive : 0 < length groups → 1 ≤ (bounds_of system groups).reduced
  unfolding bounds_of
  reduced_positive some = reduced_some (settled_timings system groups) (chain_proper system sound groups chain) (some_timing some)

  pub delay_positive : 0 < length groups → 1 ≤ (bounds_of system groups).delay
  unfolding bounds_of
  delay_positive some = delay_some (settled_timings system groups) (chain_proper system sound groups chain) (some_timing some)

-- where the distances of its groups are at most so many ticks, so is all that its sums are made of
chain_at_most : (system : System) → IsSound system → (groups : List Group) → IsSettledChain system groups → (most : ℕ) → AreWithin system most groups
    → All (IsAtMost most) (settled_timings system groups)
chain_at_most system sound groups chain most within =
    let near : All (λ (timing : GroupTiming). timing.distance ≤ most) (settled_timings system groups)
    = All-map (λ (timing : GroupTiming). timing.distance ≤ most) (settled_timing system) groups within in
    λ i d h. record { proper = chain_proper system sound groups chain i d h; distance = near i d h }

-- and its bounds are at most twice that a group
pub record AreLimited (system : System) (groups : List Group) (most : ℕ) : Type 0 where
  pub reaction : (bounds_of system groups).reaction ≤ 2 * length groups * most
  pub age : (bounds_of system groups).age ≤ 2 * length groups * most
  pub reduced : (bounds_of system groups).reduced ≤ 2 * length groups * most
  pub delay : (bounds_of system groups).delay ≤ 2 * length groups * most

pub limited : (system : System) → IsSound system → (groups : List Group) → IsSettledChain system groups → (most : ℕ) → AreWithin system most groups
    → AreLimited system groups most
unfolding bounds_of
limited system sound [] chain most within = record { reaction = omega arith; age = omega arith; reduced = omega arith; delay = omega arith }
limited system sound (first ∷ groups) chain most within =
    let all = chain_at_most system sound (first ∷ groups) chain most within in
    let first_timing = settled_timing system first in
    let timings = settled_timings system groups in
    let same = length-map groups (settled_timing system) in
    record {
      reaction = rw same at (reaction_at_most most first_timing timings all);
      age = rw same at (age_at_most most first_timing timings all);
      reduced = rw same at (reduced_at_most most first_timing timings all);
      delay = rw same at (delay_at_most most first_timing timings all);
    }
