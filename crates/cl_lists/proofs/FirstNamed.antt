-- The first of some entries whose name passes a test.
use Rattle.std.proofs.Common.{◌≡◌, ℕ, Bool, true, false, cond, List, [], ◌∷◌, map, Option, Some, refl}
use Rattle.std.specs.List.{find}
use Rattle.std.specs.Option.{option_map}

first_if : {A : Type 0} (name_of : A → List ℕ) (passes : Bool) (entry : A) (rest : Option (List ℕ)) (other : Option A) → rest ≡ option_map name_of other
    → cond passes (Some (name_of entry)) rest ≡ option_map name_of (cond passes (Some entry) other)
first_if name_of true entry rest other is = refl
first_if name_of false entry rest other is = is

pub first_named : {A : Type 0} (name_of : A → List ℕ) (test : List ℕ → Bool) (entries : List A)
    → find test (map name_of entries) ≡ option_map name_of (find (λ entry. test (name_of entry)) entries)
first_named name_of test [] = refl
first_named name_of test (entry ∷ entries) =
    first_if name_of (test (name_of entry)) entry (find test (map name_of entries)) (find (λ entry. test (name_of entry)) entries) (first_named name_of test entries)
