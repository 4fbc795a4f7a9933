-- The members of a table as the entries of a map, and those of an array as its items.
use Rattle.std.proofs.Common.{◌≡◌, ℕ, suc, ap, length, Bool, true, false, not, cond, List, [], ◌∷◌, map, Option, Some, None, String, Global, string_bytes, refl}
use Rattle.std.proofs.lemmas.Str.{IsUtf8-from_is_utf8}
use Rattle.std.specs.List.{find}
use Rattle.std.specs.Str.{IsUtf8, is_utf8}
use Rattle.toml.specs.{Data.Members, Parse.parse_document, declared.value.Value.Value, View.{items_view, members_view}}
use Rattle.cl_model.specs.{Reading.{document_of, Checks.members_of}, declared.place.Key.Key}
use Rattle.std.specs.Option.{option_map}
use Rattle.cl_advice.specs.Keys.{is_listed, unknown_among}

-- whether a word is none of the keys
abbrev pub is_other : List Key → String Global → Bool
is_other keys word = not (is_listed keys (string_bytes word))

chosen : (b : Bool) (word : String Global) (rest : Option (List ℕ)) (found : Option (String Global)) → rest ≡ option_map string_bytes found
    → cond b rest (Some (string_bytes word)) ≡ option_map string_bytes (cond (not b) (Some word) found)
chosen true word rest found is = is
chosen false word rest found is = refl

pub unknown_word : (keys : List Key) (es : List (String Global × Value)) → unknown_among keys (members_view es) ≡ option_map string_bytes (find (is_other keys) (map (λ e. e.0) es))
unknown_word keys [] = refl
unknown_word keys (e ∷ es) = chosen (is_listed keys (string_bytes e.0)) e.0 (unknown_among keys (members_view es)) (find (is_other keys) (map (λ e. e.0) es)) (unknown_word keys es)

-- an array has as many members as it has items
pub count_items : (vs : List Value) → length (members_of (items_view vs)) ≡ length vs
count_items [] = refl
count_items (v ∷ vs) = ap suc (count_items vs)

chosen_text : (t : Bool) (found : Option Members) → (t ≡ true → ⊥) → cond t found None ≡ None
chosen_text true found denied = absurd (denied refl)
chosen_text false found denied = refl

-- bytes that are no text are no document
pub no_document : (bytes : List ℕ) → (IsUtf8 bytes → ⊥) → document_of bytes ≡ None
unfolding document_of
no_document bytes denied = chosen_text (is_utf8 bytes) (parse_document bytes) (λ yes. denied (IsUtf8-from_is_utf8 bytes yes))
