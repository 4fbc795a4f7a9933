-- Of a table that has another key than it may have, such a key is found.
use Rattle.std.proofs.Common.{◌≡◌, ℕ, Bool, true, false, ◌&&◌, cond, List, Option, Some, None, Ordering, Less, Equal, Greater, refl}
use Rattle.std.proofs.lemmas.Cmp.{nat_list_cmp_total, tied_itself}
use Rattle.std.specs.Cmp.Lexicographic.{slice_cmp}
use Rattle.std.specs.Ordering.{nat_cmp, match_ordering}
use Rattle.std.specs.Prelude.{IsSome, IsSomeAnd}
use Rattle.toml.specs.Data.{Data, Members, no_members, member, get_member}
use Rattle.cl_model.specs.{declared.place.Key.Key, Reading.Checks.has_only}
use Rattle.cl_advice.specs.Keys.{is_listed, unknown_among}

-- a key that isn't among these, and stands in the table
abbrev pub IsUnknown : List Key → Members → List ℕ → Type 0
IsUnknown keys ms word = (is_listed keys word ≡ false) × IsSome (get_member word ms)

there_or_later : (o : Ordering) (d : Data) (rest : Option Data) → IsSome rest → IsSome (match_ordering o rest (Some d) rest)
there_or_later Less d rest h = h
there_or_later Equal d rest h = refl
there_or_later Greater d rest h = h

own_value : (word : List ℕ) (d : Data) (ms : Members) → IsSome (get_member word (member word d ms))
own_value word d ms = rw (tied_itself nat_list_cmp_total word) refl

one_more : (keys : List Key) (k : List ℕ) (d : Data) (ms : Members) (o : Option (List ℕ)) → IsSomeAnd o (IsUnknown keys ms) → IsSomeAnd o (IsUnknown keys (member k d ms))
one_more keys k d ms None h = h
one_more keys k d ms (Some word) h = (h.0, there_or_later (slice_cmp nat_cmp word k) d (get_member word ms) h.1)

own_or_later : (keys : List Key) (k : List ℕ) (d : Data) (ms : Members) (t : Bool) → is_listed keys k ≡ t → (t && has_only keys ms) ≡ false
    → (has_only keys ms ≡ false → IsSomeAnd (unknown_among keys ms) (IsUnknown keys ms))
    → IsSomeAnd (cond t (unknown_among keys ms) (Some k)) (IsUnknown keys (member k d ms))
own_or_later keys k d ms true is h rest = one_more keys k d ms (unknown_among keys ms) (rest h)
own_or_later keys k d ms false is h rest = (is, own_value k d ms)

pub unknown_is_found : (keys : List Key) (ms : Members) → has_only keys ms ≡ false → IsSomeAnd (unknown_among keys ms) (IsUnknown keys ms)
unknown_is_found keys no_members h = absurd cc
unknown_is_found keys (member k d ms) h = own_or_later keys k d ms (is_listed keys k) refl h (unknown_is_found keys ms)
