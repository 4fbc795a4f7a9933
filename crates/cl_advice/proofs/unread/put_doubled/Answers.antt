use Rattle.std.proofs.Common.{◌≡◌, ℕ, List, ◌++◌, ap, ◌∙◌}
use Rattle.std.specs.Prelude.{codes}
use Rattle.cl_text.specs.Line.{line}
use Rattle.cl_model.specs.Place.{part_text}
use Rattle.cl_advice.specs.Unread.{doubled_lines}
use Rattle.cl_advice.proofs.Pieces.{two_pieces}
use Rattle.cl_advice.proofs.unread.put_doubled.Goals as goal

abbrev key_line_of : List ℕ → List ℕ
key_line_of word = line (codes "key " ++ word)

abbrev opening_line_of : List ℕ → List ℕ
opening_line_of word = line (codes "mend each " ++ word ++ codes " begins with [[" ++ word ++ codes "]]")

pub returns : goal.returns
unfolding doubled_lines
returns c =
    let word = part_text c.args.section in
    let is : c.as_bytes-word.result.now ≡ word = c.as_bytes-word.ensures.value ∙ c.word.ensures in
    two_pieces (key_line_of word) (opening_line_of word) c.args.text.now c.put_section.new.text c.put_opening.new.text
    (c.in_ok-put_section.ensures ∙ ap (λ (w : List ℕ). c.args.text.now ++ key_line_of w) is)
    (c.in_ok-put_opening.ensures ∙ ap (λ (w : List ℕ). c.put_section.new.text ++ opening_line_of w) is)
