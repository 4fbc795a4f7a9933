use Rattle.std.proofs.Common.{◌≡◌, ℕ, List, [], ◌∷◌, ◌++◌, map, ap, ◌∙◌}
use Rattle.std.proofs.lemmas.List.{append_assoc}
use Rattle.std.specs.Prelude.{codes}
use Rattle.cl_text.specs.Line.{line}
use Rattle.cl_advice.specs.Known.{known_names}
use Rattle.cl_lists.specs.Unknown.{unknown_lines}
use Rattle.cl_lists.proofs.unknown.put_unknown.Goals as goal

six_more : (a b c d e t0 t1 t2 t3 t4 t5 t6 : List ℕ) → t1 ≡ t0 ++ a → t2 ≡ t1 ++ b → t3 ≡ t2 ++ c → t4 ≡ t3 ++ d → t5 ≡ t4 ++ 0x0A ∷ [] → t6 ≡ t5 ++ e
    → t6 ≡ t0 ++ (line (a ++ b ++ c ++ d) ++ e)
six_more a b c d e t0 t1 t2 t3 t4 t5 t6 h1 h2 h3 h4 h5 h6 = rw (h6, h5, h4, h3, h2, h1) (simp append_assoc)

pub returns : goal.returns
unfolding unknown_lines
returns g c =
    six_more (codes "unknown ") c.args.kind.now (codes " ") c.args.name.now (known_names (map g.T.Named.name_of c.args.entries.now))
    c.args.text.now c.put.new.self c.put-2.new.self c.put-3.new.self c.put-4.new.self c.put-5.new.self c.put_known_names.new.text
    c.in_ok-put.ensures.ok c.in_ok-put-2.ensures.ok c.in_ok-put-3.ensures.ok
    (c.in_ok-put-4.ensures.ok ∙ ap (λ (name : List ℕ). c.put-3.new.self ++ name) c.as_slice.ensures.bytes)
    c.in_ok-put-5.ensures.ok c.in_ok-put_known_names.ensures
