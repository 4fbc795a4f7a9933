-- The bound on the delay of a chain is at most the bound on its reaction.
use Rattle.std.proofs.Common.{◌≡◌, ℕ, pos, ◌+◌, ◌<◌, ◌≤◌, List, [], ◌∷◌, length, ap, arith}
use Rattle.std.specs.Prelude.{◌+ℤ◌}
use Rattle.std.proofs.lemmas.Int.{ints}
use Rattle.std.proofs.lemmas.List.Elements.{All-head}
use Rattle.cl_model.specs.{declared.{group.Group.Group, task.AccessKind.{AccessKind, TheVariants.Timed}}, Timing.greatest_distance}
use Rattle.cl_runs.specs.{TaskTiming.{System, timing_at, IsSound}, Chains.first_group}
use Rattle.cl_comm.specs.Windows.{spot_at, window_of}
use Rattle.cl_hop.specs.{Bounds.{greatest_reaction, greatest_delay}, Hops.group_timing, declared.group_timing.GroupTiming.GroupTiming}
use Rattle.cl_hop.proofs.GroupWindows.{IsProper}
use Rattle.cl_bound.specs.{Answers.{answers_of, answer_at, response_in}, Bounds.{settled_timing, settled_timings, bounds_of}, SettledChains.IsSettledChain}
use Rattle.cl_bound.proofs.SettledChains.{chain_proper, settled_sums}

-- it is less by as much as the first group reads before its next job arrives
delay_of_reaction : (first : GroupTiming) (groups : List GroupTiming)
    → (greatest_delay (first ∷ groups) +ℤ pos first.distance) ≡ (greatest_reaction (first ∷ groups) +ℤ pos first.read)
delay_of_reaction first groups = omega (arith, ints)

pub delay_within_reaction : (system : System) → IsSound system → (groups : List Group) → IsSettledChain system groups
    → (bounds_of system groups).delay ≤ (bounds_of system groups).reaction
delay_within_reaction system sound [] chain = omega (arith, ints, (settled_sums system sound [] chain).delay)
delay_within_reaction system sound (first ∷ groups) chain =
    let proper : IsProper (settled_timing system first) =
    All-head IsProper (settled_timing system first) (settled_timings system groups)
    (chain_proper system sound (first ∷ groups) chain) in
    let sums = settled_sums system sound (first ∷ groups) chain in
    omega (
      arith,
      ints,
      sums.delay,
      sums.reaction,
      delay_of_reaction (settled_timing system first) (settled_timings system groups),
      proper.read_before_next,
    )

timed_reads_at_once : (access : AccessKind) → access ≡ Timed → (system : System) (task place response : ℕ)
    → (window_of access (spot_at (timing_at system task) place) response).rlo ≡ 0
timed_reads_at_once access is system task place response =
    ap (λ a. (window_of a (spot_at (timing_at system task) place) response).rlo) is

pub timed_delay : (system : System) → IsSound system → (groups : List Group) → IsSettledChain system groups → 0 < length groups
    → (timing_at system (first_group groups).task).access ≡ Timed
    → (bounds_of system groups).delay + greatest_distance (timing_at system (first_group groups).task).pattern ≡ (bounds_of system groups).reaction
unfolding group_timing
timed_delay system sound [] chain some timed = absurd (omega (arith, some))
timed_delay system sound (first ∷ groups) chain some timed =
    let none : (settled_timing system first).read ≡ 0 =
    timed_reads_at_once (timing_at system first.task).access timed system first.task first.first
    (response_in (answer_at (answers_of system) first.task)) in
    let sums = settled_sums system sound (first ∷ groups) chain in
    omega (
      arith,
      ints,
      sums.delay,
      sums.reaction,
      delay_of_reaction (settled_timing system first) (settled_timings system groups),
      none,
    )
