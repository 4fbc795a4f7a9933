use Rattle.cl_cut.proofs.BestCuts.{one_best, one_cost}
use Rattle.cl_cut.proofs.laws.one_best_cut.Goals as goal

pub returns-clause-pieces : goal.returns-clause-pieces
returns-clause-pieces c = one_best

pub returns-clause-cost : goal.returns-clause-cost
returns-clause-cost c = one_cost
