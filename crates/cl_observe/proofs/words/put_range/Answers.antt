use Rattle.std.proofs.Common.{rules}
use Rattle.std.proofs.lemmas.List.{append_assoc}
use Rattle.std.proofs.lemmas.Result.{IfOk-equal}
use Rattle.cl_observe.specs.Observed.{range_words}
use Rattle.cl_observe.proofs.words.put_range.Goals as goal

pub returns : goal.returns
unfolding range_words
returns c = search (rules, IfOk-equal, append_assoc)
