use Rattle.std.proofs.Common.{◌≡◌, ℕ, List, [], ◌∷◌, ◌++◌, ap, ◌∙◌}
use Rattle.std.proofs.lemmas.List.{append_assoc}
use Rattle.cl_text.specs.Line.{line}
use Rattle.cl_lists.specs.BadLines.{line_of, line_found, wanted_words, ends_of_lines, bad_line_text}
use Rattle.cl_lists.proofs.bad_line.put_bad_line.Goals as goal

four_more : (a b d t0 t1 t2 t3 t4 : List ℕ) → t1 ≡ t0 ++ a → t2 ≡ t1 ++ b → t3 ≡ t2 ++ 0x0A ∷ [] → t4 ≡ t3 ++ d → t4 ≡ t0 ++ (a ++ line b ++ d)
four_more a b d t0 t1 t2 t3 t4 h1 h2 h3 h4 = rw (h4, h3, h2, h1) (simp append_assoc)

pub returns : goal.returns
unfolding bad_line_text
returns c =
    let list = c.args.list.now in
    let number = c.args.number in
    four_more (line_found c.args.version list number) (wanted_words c.args.version list number) (ends_of_lines c.args.version (line_of list number))
    c.args.text.now c.put_found_line.new.text c.put_wanted.new.text c.put.new.self c.put_ends.new.text
    c.in_ok-put_found_line.ensures c.in_ok-put_wanted.ensures c.in_ok-put.ensures.ok
    (c.in_ok-put_ends.ensures ∙ ap (λ (found : List ℕ). c.put.new.self ++ ends_of_lines c.args.version found) c.line_of.ensures)
