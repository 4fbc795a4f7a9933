use Rattle.std.proofs.Common.{◌≡◌, false, take, map}
use Rattle.std.specs.Prelude.{filter}
use Rattle.cl_resp.proofs.{Questions.above_at, PhasedLists.is_counted}
use Rattle.cl_resp.proofs.phased.all_beside.Given as goal

-- those of the tasks so far that count so
abbrev pub invariant-loop-other : goal.invariant-loop-other
invariant-loop-other l = l.above ≡ map (above_at l.model) (filter (is_counted l.model false l.cycle.in_phase.items l.task) (take l.other-index l.others))
