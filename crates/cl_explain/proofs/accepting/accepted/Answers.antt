use Rattle.std.proofs.Common.{rules}
use Rattle.std.proofs.lemmas.List.{append_assoc}
use Rattle.cl_explain.specs.Accepted.{accepted_text}
use Rattle.cl_explain.proofs.accepting.accepted.Goals as goal

pub returns-clause-text : goal.returns-clause-text
unfolding accepted_text
returns-clause-text g c = search (rules, append_assoc)
