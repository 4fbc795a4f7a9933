use Rattle.std.proofs.Common.{rules}
use Rattle.std.proofs.lemmas.List.{append_assoc}
use Rattle.std.proofs.lemmas.Result.{IfOk-equal}
use Rattle.cl_explain.specs.Explanation.{group_words}
use Rattle.cl_explain.proofs.groups.put_group_words.Goals as goal

pub returns : goal.returns
unfolding group_words
returns c = search (rules, IfOk-equal, append_assoc)
