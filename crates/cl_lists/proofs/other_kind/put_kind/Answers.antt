use Rattle.std.proofs.Common.{ℕ, List, ◌++◌, ap, ◌∙◌}
use Rattle.std.specs.Prelude.{codes}
use Rattle.cl_text.specs.Line.{line}
use Rattle.cl_advice.proofs.Pieces.{two_pieces}
use Rattle.cl_lists.specs.OtherKinds.{kind_lines}
use Rattle.cl_lists.proofs.other_kind.put_kind.Goals as goal

pub returns : goal.returns
unfolding kind_lines
returns c =
    two_pieces (line (codes "wanted " ++ c.args.kind.now)) (line (codes "with stimulus " ++ c.args.stimulus.now))
    c.args.text.now c.put_line.new.text c.put_line-2.new.text c.in_ok-put_line.ensures
    (c.in_ok-put_line-2.ensures ∙ ap (λ (name : List ℕ). c.put_line.new.text ++ line (codes "with stimulus " ++ name)) c.as_slice.ensures.bytes)
