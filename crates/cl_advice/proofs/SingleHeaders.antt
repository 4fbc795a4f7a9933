-- The first header in single brackets among the words so far.
use Rattle.std.proofs.Common.{◌≡◌, ℕ, List, [], ◌∷◌, ◌++◌, map, ap, sym, ◌∙◌, Option, Some, None, refl}
use Rattle.std.proofs.lemmas.List.{map-append}
use denote.Bor.{Bor}
use Rattle.std.specs.Option.{option_or}
use Rattle.cl_model.specs.declared.place.Part.{Part}
use Rattle.cl_advice.specs.Unread.{single_part, first_single}

first_of : (one other third : Option Part) → option_or one (option_or other third) ≡ option_or (option_or one other) third
first_of None other third = refl
first_of (Some part) other third = refl

or_none : (one : Option Part) → option_or one None ≡ one
or_none None = refl
or_none (Some part) = refl

-- one word more
single_behind : (words : List (List ℕ)) (word : List ℕ) → first_single (words ++ word ∷ []) ≡ option_or (first_single words) (single_part word)
single_behind [] word = or_none (single_part word)
single_behind (first ∷ words) word = ap (option_or (single_part first)) (single_behind words word) ∙ first_of (single_part first) (first_single words) (single_part word)

pub single_more : (yielded : List (Bor (List ℕ))) (word : Bor (List ℕ)) (found section after : Option Part)
    → found ≡ first_single (map (λ (w : Bor (List ℕ)). w.now) yielded) → section ≡ single_part word.now → after ≡ option_or found section
    → after ≡ first_single (map (λ (w : Bor (List ℕ)). w.now) (yielded ++ word ∷ []))
single_more yielded word found section after so_far is taken =
    let words = map (λ (w : Bor (List ℕ)). w.now) yielded in
    taken ∙ ap (λ (one : Option Part). option_or one section) so_far ∙ ap (option_or (first_single words)) is ∙ sym (single_behind words word.now)
    ∙ ap first_single (sym (map-append (λ (w : Bor (List ℕ)). w.now) yielded (word ∷ [])))
