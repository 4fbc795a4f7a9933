use Rattle.std.proofs.Common.{◌≡◌, ◌-◌, ◌^◌, min, take}
use Rattle.std.specs.List.{filter}
use Rattle.cl_cycle.proofs.GatheredWork.{counts_by_most, most_of}
use Rattle.cl_cycle.proofs.cycle.Cycle.is_little_work.Given as goal

-- the most releases of the tasks so far that aren't in phase
abbrev pub invariant-loop-other : goal.invariant-loop-other
invariant-loop-other l =
    l.released ≡ min (most_of l.model l.task (filter (counts_by_most l.model l.task l.self.in_phase.items) (take l.other-index l.other-items))) (2 ^ 64 - 1)
