use Rattle.std.proofs.Common.{◌≡◌, ℕ}
use Rattle.cl_margin.specs.Grown.{grown_by}
use Rattle.cl_margin.proofs.{TimedModels.{timed_model, percent_times}, TimedSteps.reached}
use Rattle.cl_margin.proofs.trial.Trial.with_task.Given as goal

-- the runnables so far have their times at the percentage
abbrev pub invariant-loop-place : goal.invariant-loop-place
invariant-loop-place l = (percents : ℕ → ℕ) → l.fn.self.model ≡ grown_by l.standing.model.now percents
    → l.model ≡ timed_model l.standing.model.now (reached l.standing.model.now (percent_times l.standing.model.now percents) l.task l.percent l.place)
