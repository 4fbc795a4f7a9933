use Rattle.std.proofs.Common.{ℕ, List}
use Rattle.cl_model.specs.declared.model.SystemModel.{SystemModel}
use Rattle.cl_margin.specs.{declared.{answer.Margin.Margin, trial.Trial.Trial}, Inner.Trials.IsTrialOf}
use Rattle.cl_margin.proofs.AllMargins.{AreMarginsBelow}
use Rattle.cl_margin.proofs.finding.find_all.Given as goal

-- the margins of the tasks below a number are found, and the model is as it stands
pub record AreFoundBelow (model : SystemModel) (count : ℕ) (margins : List Margin) (now : Trial) : Type 0 where
  pub tasks : AreMarginsBelow model count margins
  pub trial : IsTrialOf model now

abbrev pub invariant-loop-task : goal.invariant-loop-task
invariant-loop-task g l = AreFoundBelow l.standing.model.now l.task l.tasks l.trial
