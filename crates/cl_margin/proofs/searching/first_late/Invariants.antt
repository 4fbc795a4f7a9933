use Rattle.std.proofs.Common.{ℕ, ◌<◌}
use Rattle.cl_model.specs.declared.model.SystemModel.{SystemModel}
use Rattle.cl_margin.specs.{declared.trial.Trial.Trial, Inner.{Searches.KeepsTask, Trials.IsTrialOf}}
use Rattle.cl_margin.proofs.searching.first_late.Given as goal

-- no task below a number is newly late
pub record NoneNewlyLate (model other : SystemModel) (looked_at : ℕ) (trial : Trial) : Type 0 where
  pub is : IsTrialOf other trial
  pub none : (task : ℕ) → task < looked_at → KeepsTask model other task

abbrev pub invariant-loop-task : goal.invariant-loop-task
invariant-loop-task g l = NoneNewlyLate l.standing.model.now l.fn.trial.model l.task l.trial
