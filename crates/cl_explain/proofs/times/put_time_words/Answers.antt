use Rattle.std.proofs.Common.{rules}
use Rattle.std.proofs.lemmas.List.{append_assoc}
use Rattle.std.proofs.lemmas.Result.{IfOk-equal}
use Rattle.cl_explain.specs.Accepted.{time_words}
use Rattle.cl_explain.proofs.times.put_time_words.Goals as goal

pub returns : goal.returns
unfolding time_words
returns c = search (rules, IfOk-equal, append_assoc)
