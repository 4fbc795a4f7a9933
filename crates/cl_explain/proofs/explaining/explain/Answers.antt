use Rattle.std.proofs.Common.{rules}
use Rattle.std.proofs.lemmas.List.{append_assoc}
use Rattle.cl_explain.specs.Explanation.{explanation}
use Rattle.cl_explain.proofs.explaining.explain.Goals as goal

pub returns-clause-text : goal.returns-clause-text
unfolding explanation
returns-clause-text g c = search (rules, append_assoc)
