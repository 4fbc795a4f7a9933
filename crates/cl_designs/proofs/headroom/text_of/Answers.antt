use Rattle.std.proofs.Common.{rules}
use Rattle.std.proofs.lemmas.List.{append_assoc}
use Rattle.cl_designs.specs.Headroom.{headroom_text}
use Rattle.cl_designs.proofs.headroom.text_of.Goals as goal

pub returns : goal.returns
unfolding headroom_text
returns c = search (rules, append_assoc)
