use Rattle.std.proofs.Common.{nat_lt}
use Rattle.cl_margin.specs.Inner.Trials.{Forgets}
use Rattle.cl_margin.proofs.trial.Trial.forget_all.Given as goal

-- the tasks so far are forgotten
abbrev pub invariant-loop-task : goal.invariant-loop-task
invariant-loop-task l = Forgets (λ task. nat_lt task l.task) l.fn.self l.self
