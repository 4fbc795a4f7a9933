use Rattle.std.proofs.Common.{rules}
use Rattle.std.proofs.lemmas.List.{append_assoc}
use Rattle.std.proofs.lemmas.Result.{IfOk-equal}
use Rattle.cl_explain.specs.Explanation.{walk_arrival_text}
use Rattle.cl_explain.proofs.tight.put_arrival_words.Goals as goal

pub returns : goal.returns
unfolding walk_arrival_text
returns c = search (rules, IfOk-equal, append_assoc)
