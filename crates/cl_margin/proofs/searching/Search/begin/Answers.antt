use Rattle.cl_margin.proofs.Halving.{trial_at_whole, search_begun}
use Rattle.cl_margin.proofs.searching.Search.begin.Goals as goal

pub at-requires-clause-trial : goal.at-requires-clause-trial
at-requires-clause-trial c = trial_at_whole c.args.standing.now.model.now c.requires.standing.valid c.args.whose c.args.trial c.requires.trial

pub returns : goal.returns
returns c = search_begun c.args.standing.now.model.now c.requires.standing.valid c.args.whose _ c.most_percent-percent.ensures c.at.ensures
