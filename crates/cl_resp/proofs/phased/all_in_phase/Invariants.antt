use Rattle.std.proofs.Common.{◌≡◌, true, take, map}
use Rattle.std.specs.Prelude.{filter}
use Rattle.cl_resp.proofs.PhasedLists.{is_counted, by_phase_at}
use Rattle.cl_resp.proofs.phased.all_in_phase.Given as goal

-- those of the tasks so far that count so
abbrev pub invariant-loop-other : goal.invariant-loop-other
invariant-loop-other l = l.above ≡ map (by_phase_at l.model) (filter (is_counted l.model true l.cycle.in_phase.items l.task) (take l.other-index l.others))
