-- The items of an array as a list.
use Rattle.std.proofs.Common.{◌≡◌, ℕ, ◌<◌, ◌≤◌, true, false, leb, List, [], ◌∷◌, length, map, Some, refl, ap, arith}
use Rattle.std.proofs.lemmas.Bool.{le-leb, lt-leb}
use Rattle.std.proofs.lemmas.List.{append-nil, length-map}
use Rattle.toml.specs.{declared.value.Value.Value, View.{view, items_view}, Data.array}
use Rattle.cl_model.specs.{declared.{place.Place.Place, refusal.Code.TheVariants.M10}, Refusals.{first, each_from}, Reading.Checks.{Check, members_of, an_array}}

pub members_of-items : (vs : List Value) → members_of (items_view vs) ≡ map view vs
members_of-items [] = refl
members_of-items (v ∷ vs) = ap (λ ds. view v ∷ ds) (members_of-items vs)

-- an array with too many members is refused
pub array_too_long : (limit : ℕ) (place_in : ℕ → Place → Place) (check : Check) (place : Place) (vs : List Value) → limit < length vs
    → first (an_array limit place_in check place (array (items_view vs))) ≡ Some (record { code = M10; place = place })
array_too_long limit place_in check place vs lt =
    let long : leb (length (map view vs)) limit ≡ false = lt-leb _ _ (omega (arith, length-map vs view)) in
    rw (members_of-items vs, long) refl

-- and in one that fits its members are checked
pub array_fits : (limit : ℕ) (place_in : ℕ → Place → Place) (check : Check) (place : Place) (vs : List Value) → length vs ≤ limit
    → an_array limit place_in check place (array (items_view vs)) ≡ each_from 0 (λ n. check (place_in n place)) (map view vs)
array_fits limit place_in check place vs le =
    let short : leb (length (map view vs)) limit ≡ true = le-leb _ _ (omega (arith, length-map vs view)) in
    rw (members_of-items vs, short) (append-nil (each_from 0 (λ n. check (place_in n place)) (map view vs)))
