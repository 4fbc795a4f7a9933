use Rattle.cl_margin.specs.Inner.Trials.{IsTrialOf}
use Rattle.cl_margin.proofs.ChainSteps.{AreTimedUpTo}
use Rattle.cl_margin.proofs.trial.Trial.bound.Given as goal

-- the groups so far aren't late, and this is what is known of them
abbrev pub invariant-loop-place : goal.invariant-loop-place
invariant-loop-place g l = record {
  timings : AreTimedUpTo l.fn.self.model l.chain l.place l.timings.items;
  trial : IsTrialOf l.fn.self.model l.self;
}
