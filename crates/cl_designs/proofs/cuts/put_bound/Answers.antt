use Rattle.std.proofs.Common.{rules}
use Rattle.std.proofs.lemmas.List.{append_assoc}
use Rattle.std.proofs.lemmas.Result.{IfOk-equal}
use Rattle.cl_designs.specs.Cuts.{cut_bound_words}
use Rattle.cl_designs.proofs.cuts.put_bound.Goals as goal

pub returns : goal.returns
unfolding cut_bound_words
returns c = search (rules, IfOk-equal, append_assoc)
