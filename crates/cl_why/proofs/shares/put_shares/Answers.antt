use Rattle.std.proofs.Common.{rules}
use Rattle.std.proofs.lemmas.List.{append_assoc}
use Rattle.std.proofs.lemmas.Result.{IfOk-equal}
use Rattle.cl_why.specs.Shares.{window_lines}
use Rattle.cl_why.proofs.shares.put_shares.Goals as goal

pub returns : goal.returns
unfolding window_lines
returns c = search (rules, IfOk-equal, append_assoc)
