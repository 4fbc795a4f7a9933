use Rattle.cl_margin.specs.Inner.Trials.{IsTrialOf}
use Rattle.cl_margin.proofs.trial.Trial.reset.Given as goal

abbrev pub invariant-loop-task : goal.invariant-loop-task
invariant-loop-task l = IsTrialOf l.standing.model.now l.trial
