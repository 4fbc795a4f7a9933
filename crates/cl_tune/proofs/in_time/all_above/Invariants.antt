use Rattle.std.proofs.Common.{◌≡◌, take, map}
use Rattle.std.specs.Prelude.{filter}
use Rattle.cl_tune.specs.Inner.Times.{is_higher, above_with}
use Rattle.cl_tune.proofs.in_time.all_above.Given as goal

-- what the tasks of higher priority so far take
abbrev pub invariant-loop-other : goal.invariant-loop-other
invariant-loop-other l = l.above ≡ map (above_with l.model l.times) (filter (is_higher l.model l.task) (take l.other-index l.others))
