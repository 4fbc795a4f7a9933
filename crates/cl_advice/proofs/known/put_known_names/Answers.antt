use Rattle.std.proofs.Common.{List, ℕ, ◌==◌, ◌++◌, take, map, flat_map, length, sym, ap, ◌∙◌}
use Rattle.std.specs.Prelude.{codes}
use Rattle.std.proofs.Math.ListN.{length-map}
use Rattle.std.proofs.lemmas.Bool.{true≢false}
use Rattle.std.proofs.lemmas.Result.{on_ok_weaker}
use Rattle.cl_advice.specs.{declared.known.TheConstants.MOST_KNOWN, Known.more_text}
use Rattle.cl_advice.proofs.{KnownNames.{known_is, first_names, map_some}, Pieces.lined_three}
use Rattle.cl_advice.proofs.known.put_known_names.Goals as goal

pub returns : goal.returns
returns g c =
    let name_of = g.T.Named.name_of in
    let entries = c.args.entries.now in
    let names : List (List ℕ) = map name_of entries in
    let named = c.in_ok-put_names.ensures
    ∙ ap (λ l. c.put.new.self ++ flat_map (λ entry. codes " " ++ name_of entry) l) c.first_few.ensures
    ∙ ap (λ (l : List ℕ). c.put.new.self ++ l) (sym (first_names name_of MOST_KNOWN entries)) in
    let more = c.in_ok-put_more.ensures
    ∙ ap (λ (n : ℕ). c.put_names.new.text ++ more_text n) (sym (length-map entries name_of)) in
    on_ok_weaker c.put-2.result (λ last.
    lined_three (codes "known") (flat_map (λ known. codes " " ++ known) (take MOST_KNOWN names)) (more_text (length names))
    c.args.text.now c.put.new.self c.put_names.new.text c.put_more.new.text c.put-2.new.self c.in_ok-put.ensures.ok named more last
    ∙ ap (λ (l : List ℕ). c.args.text.now ++ l) (sym (known_is names (map_some name_of entries (λ none. true≢false (sym (c.is_empty.ensures ∙ ap (λ l. length l == 0) none) ∙ c.if-is_empty.false)))))) c.put-2.ensures.ok
