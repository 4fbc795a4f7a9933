use Rattle.std.proofs.Common.{◌≡◌, ℕ, ◌<◌, ◌^◌, nat_lt, take}
use Rattle.cl_runs.specs.SystemOf.{system_of}
use Rattle.cl_tune.specs.Inner.Filling.{spans_few_of}
use Rattle.cl_tune.proofs.fitting.first_too_long_for_any.Given as goal

-- the first deadline that spans too many least distances of one of the tasks so far
abbrev pub invariant-loop-task : goal.invariant-loop-task
invariant-loop-task l = (deadline : ℕ) → deadline < 2 ^ 64
    → spans_few_of (system_of l.model) deadline (take l.task-index l.tasks) ≡ nat_lt deadline l.first
