use Rattle.std.proofs.Common.{rules}
use Rattle.std.proofs.lemmas.List.{append_assoc}
use Rattle.std.proofs.lemmas.Result.{IfOk-equal}
use Rattle.cl_tighten.specs.Tight.{tight_chain_line}
use Rattle.cl_tighten.proofs.tight.put_tight_chain.Goals as goal

pub returns : goal.returns
unfolding tight_chain_line
returns c = search (rules, IfOk-equal, append_assoc)
