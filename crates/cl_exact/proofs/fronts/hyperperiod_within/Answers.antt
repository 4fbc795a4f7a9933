use Rattle.cl_exact.proofs.LimitFacts.{within_or_past_is}
use Rattle.cl_exact.proofs.fronts.hyperperiod_within.Goals as goal

pub returns-clause-limit : goal.returns-clause-limit
returns-clause-limit c = λ system groups of.
    within_or_past_is system groups c.args.beats.now c.hyper_limit.result c.hyperperiod.result of (c.hyper_limit.ensures.limit system groups of) c.hyperperiod.ensures
