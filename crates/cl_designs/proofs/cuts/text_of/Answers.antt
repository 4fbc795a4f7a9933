use Rattle.std.proofs.Common.{rules}
use Rattle.std.proofs.lemmas.List.{append_assoc}
use Rattle.cl_designs.specs.Cuts.{cut_text}
use Rattle.cl_designs.proofs.cuts.text_of.Goals as goal

pub returns : goal.returns
unfolding cut_text
returns c = search (rules, append_assoc)
