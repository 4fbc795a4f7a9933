-- Adding to names without repeats.
use Rattle.std.specs.Prelude.{◌≡◌, ℕ, false, if◌then◌else◌, List, [], ◌∷◌, ◌++◌, take, slice_index_or, EachIndex}
use Rattle.cl_model.specs.Named.{has_name}

-- the names with one more, unless it is there already
abbrev pub names_with : List ℕ → List (List ℕ) → List (List ℕ)
names_with name names = if has_name name names then names else names ++ name ∷ []

-- no name stands earlier in the list
abbrev pub AreDistinctNames : List (List ℕ) → Type 0
AreDistinctNames names = EachIndex names (λ n. has_name (slice_index_or names n []) (take n names) ≡ false)

-- no name of the list is among the others or stands earlier in the list
abbrev pub AreNew : List (List ℕ) → List (List ℕ) → Type 0
AreNew others names = EachIndex names (λ n. has_name (slice_index_or names n []) (others ++ take n names) ≡ false)
