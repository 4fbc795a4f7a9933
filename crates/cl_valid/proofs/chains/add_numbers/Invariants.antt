use Rattle.std.proofs.Common.{◌≡◌, take, drop}
use Rattle.cl_model.specs.Refusals.{each, each_from}
use Rattle.cl_valid.specs.Inner.ChainsByTable.{AreNumbersOf, known_step_check}
use Rattle.cl_valid.proofs.chains.add_numbers.Given as goal

-- what is refused in all is what is refused in the rest, and the steps so far have their numbers
abbrev pub invariant-loop-k : goal.invariant-loop-k
invariant-loop-k l =
    (each (known_step_check l.runnables l.place) l.steps ≡ each_from l.k (known_step_check l.runnables l.place) (drop l.k l.steps))
    × AreNumbersOf l.runnables (take l.k l.steps) l.numbers.items
