-- The line of the names that are known.
use Rattle.std.proofs.Common.{◌≡◌, ◌≢◌, ℕ, zero, suc, ◌++◌, List, [], ◌∷◌, length, take, map, flat_map, refl, sym, ap, ◌∙◌}
use Rattle.std.specs.Prelude.{codes}
use Rattle.std.proofs.lemmas.List.Concat.{flat_map-cons}
use Rattle.cl_text.specs.Line.{line}
use Rattle.cl_advice.specs.{declared.known.TheConstants.MOST_KNOWN, Known.{more_text, known_names}}

-- where there is one
pub known_is : (names : List (List ℕ)) → names ≢ [] → known_names names
    ≡ line (codes "known" ++ flat_map (λ known. codes " " ++ known) (take MOST_KNOWN names) ++ more_text (length names))
known_is [] some = absurd (some refl)
known_is (name ∷ names) some = refl

-- the first names are those of the first entries
pub first_names : {X : Type 0} (name : X → List ℕ) (n : ℕ) (xs : List X)
    → flat_map (λ known. codes " " ++ known) (take n (map name xs)) ≡ flat_map (λ x. codes " " ++ name x) (take n xs)
first_names name zero xs = refl
first_names name (suc n) [] = refl
first_names name (suc n) (x ∷ xs) =
    flat_map-cons (λ known. codes " " ++ known) (name x) (take n (map name xs))
    ∙ ap (λ (l : List ℕ). (codes " " ++ name x) ++ l) (first_names name n xs)
    ∙ sym (flat_map-cons (λ x. codes " " ++ name x) x (take n xs))

pub map_some : {X Y : Type 0} (f : X → Y) (xs : List X) → xs ≢ [] → map f xs ≢ []
map_some f [] some is = some refl
map_some f (x ∷ xs) some is = absurd cc
