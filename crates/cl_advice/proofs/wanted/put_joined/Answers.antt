use Rattle.std.proofs.Common.{◌≡◌, ℕ, List, ◌++◌, sym, ap, ◌∙◌}
use Rattle.std.specs.List.{flat_map}
use Rattle.std.specs.Prelude.{codes}
use Rattle.std.proofs.lemmas.List.Folds.{flat_map-map}
use Rattle.cl_model.specs.{declared.place.Key.Key, Place.key_text}
use Rattle.cl_advice.proofs.Pieces.{two_pieces}
use Rattle.cl_advice.proofs.wanted.put_joined.Goals as goal

pub returns : goal.returns
returns c =
    let others : List ℕ = flat_map (λ (key : Key). codes ", " ++ key_text key) c.args.others.now in
    let first : c.put.new.self ≡ c.args.text.now ++ key_text c.args.first = rw (← c.word.ensures, ← c.as_bytes.ensures.value) c.in_ok-put.ensures.ok in
    two_pieces (key_text c.args.first) others c.args.text.now c.put.new.self c.put_others.new.text first c.in_ok-put_others.ensures
    ∙ ap (λ (words : List ℕ). c.args.text.now ++ (key_text c.args.first ++ words)) (sym (flat_map-map (λ (other : List ℕ). codes ", " ++ other) key_text c.args.others.now))
