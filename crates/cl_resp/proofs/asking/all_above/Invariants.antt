use Rattle.std.proofs.Common.{◌≡◌, take, map}
use Rattle.std.specs.Prelude.{filter}
use Rattle.cl_resp.proofs.Questions.{is_higher, above_at}
use Rattle.cl_resp.proofs.asking.all_above.Given as goal

-- what the tasks of higher priority so far take
abbrev pub invariant-loop-other : goal.invariant-loop-other
invariant-loop-other l = l.above ≡ map (above_at l.model) (filter (is_higher l.model l.task) (take l.other-index l.others))
