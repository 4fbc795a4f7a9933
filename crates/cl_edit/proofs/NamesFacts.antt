-- Lists of names in one word, and bytes that a word lacks.
use Rattle.std.proofs.Common.{◌≡◌, ◌≢◌, ℕ, ◌≤◌, Bool, true, false, Some, None, List, [], ◌∷◌, length, get_or, refl, sym, ap, ◌∙◌, subst, arith}
use Rattle.std.specs.Prelude.{All, codes, nat_le, ◌&&◌, if◌then◌else◌}
use Rattle.std.specs.List.{list_all, join_with_byte}
use Rattle.std.specs.Str.{bytes_eq}
use Rattle.std.proofs.lemmas.Bool.{false_from_ne_true, eqb-true}
use Rattle.std.proofs.lemmas.List.Elements.{All-nil, All-cons, All-head, All-tail}
use Rattle.std.proofs.lemmas.List.Folds.{list_all-append}
use Rattle.std.proofs.lemmas.List.Sums.{AllPass-from_list_all, list_all-from_AllPass}
use Rattle.cl_text.specs.Line.{is_graphic}
use Rattle.cl_model.proofs.{Names.name_bytes, ListFacts.both_pass}
use Rattle.cl_model.specs.Name.{is_name_byte, is_name, IsName}
use Rattle.cl_edit.specs.{Said.has_bytes, Lines.names_word, Inner.{Parts.parts, Fields.names_in}}
use Rattle.cl_edit.proofs.{PartFacts.{Lacks, some_part, joined_parts, parts_joined}, FieldFacts.{IsField, is_word, both_true, name_field, choose, chosen, some_same, of_word, le_of, names_read}}

-- what passes a test that a byte fails lacks the byte
pub lacks_of : (c : ℕ) (p : ℕ → Bool) (word : List ℕ) → p c ≡ false → list_all p word ≡ true → Lacks c word
lacks_of c p word fails passes = λ k d within. false_from_ne_true _ (λ same.
    let here : get_or word k d ≡ c = eqb-true _ _ same in
    let passes_here : p (get_or word k d) ≡ true = AllPass-from_list_all p word passes k d within in
    let passes_c : p c ≡ true = sym (ap p here) ∙ passes_here in
    cc)

-- words, joined, are of graphic bytes
pub graphic_joined : (s : ℕ) (words : List (List ℕ)) → is_graphic s ≡ true → list_all (list_all is_graphic) words ≡ true
    → list_all is_graphic (join_with_byte s words) ≡ true
graphic_joined s [] graphic all = refl
graphic_joined s (word ∷ []) graphic all = (both_pass (list_all is_graphic word) true all).0
graphic_joined s (word ∷ next ∷ words) graphic all =
    let two = both_pass (list_all is_graphic word) (list_all (list_all is_graphic) (next ∷ words)) all in
    list_all-append is_graphic word (s ∷ join_with_byte s (next ∷ words)) ∙ rw (two.0, graphic, graphic_joined s (next ∷ words) graphic two.1) refl

-- words have bytes, all of them graphic
pub words_parts : (words : List (List ℕ)) → list_all is_word words ≡ true → (list_all has_bytes words ≡ true) × (list_all (list_all is_graphic) words ≡ true)
words_parts [] all = (refl, refl)
words_parts (word ∷ words) all =
    let two = both_pass (is_word word) (list_all is_word words) all in
    let one = both_pass (has_bytes word) (list_all is_graphic word) two.0 in
    let more = words_parts words two.1 in
    (both_true (has_bytes word) (list_all has_bytes words) one.0 more.0, both_true (list_all is_graphic word) (list_all (list_all is_graphic) words) one.1 more.1)

-- so words, joined, have bytes
pub some_joined : (s : ℕ) (word : List ℕ) (words : List (List ℕ)) → list_all has_bytes (word ∷ words) ≡ true → has_bytes (join_with_byte s (word ∷ words)) ≡ true
some_joined s [] words all = absurd (cc)
some_joined s (byte ∷ bytes) [] all = refl
some_joined s (byte ∷ bytes) (next ∷ words) all = refl

-- ---- names

word_of_names : (names : List (List ℕ)) → names ≢ [] → names_word names ≡ join_with_byte 0x2C names
word_of_names [] some = absurd (some refl)
word_of_names (name ∷ names) some = refl

names_said : (most : ℕ) (word : List ℕ) (names : List (List ℕ)) → names_in most word ≡ Some names → (word ≡ names_word names) × ((length names ≤ most) × All IsName names)
names_said most word names is =
    let split = parts 0x2C word in
    choose (bytes_eq word (codes "*")) (Some []) (if nat_le (length split) most && list_all is_name split then Some split else None) (Some names)
    ((word ≡ names_word names) × ((length names ≤ most) × All IsName names)) is
    (λ here yes. subst (λ ns. (word ≡ names_word ns) × ((length ns ≤ most) × All IsName ns)) (some_same [] names yes) (of_word word (codes "*") here, (omega arith, All-nil IsName)))
    (λ other.
    let said = chosen (nat_le (length split) most && list_all is_name split) split names other in
    let tests = both_pass (nat_le (length split) most) (list_all is_name split) said.0 in
    subst (λ ns. (word ≡ names_word ns) × ((length ns ≤ most) × All IsName ns)) said.1
    (sym (joined_parts 0x2C word) ∙ sym (word_of_names split (some_part 0x2C word)), (le_of (length split) most tests.0, AllPass-from_list_all is_name split tests.1)))

comma_free : (names : List (List ℕ)) → All IsName names → All (Lacks 0x2C) names
comma_free [] named = All-nil (Lacks 0x2C)
comma_free (name ∷ names) named =
    All-cons (Lacks 0x2C) name names (lacks_of 0x2C is_name_byte name refl (name_bytes name (All-head IsName name names named))) (comma_free names (All-tail IsName name names named))

star_parts : parts 0x2C (codes "*") ≡ codes "*" ∷ []
unfolding parts
star_parts = refl

no_star : (name : List ℕ) (names : List (List ℕ)) → All IsName (name ∷ names) → bytes_eq (join_with_byte 0x2C (name ∷ names)) (codes "*") ≡ false
no_star name names named = false_from_ne_true _ (λ same.
    let star : join_with_byte 0x2C (name ∷ names) ≡ codes "*" = of_word (join_with_byte 0x2C (name ∷ names)) (codes "*") same in
    let one : name ∷ names ≡ codes "*" ∷ [] = sym (parts_joined 0x2C name names (comma_free (name ∷ names) named)) ∙ ap (parts 0x2C) star ∙ star_parts in
    let is : name ≡ codes "*" = cc in
    star_name (subst IsName is (All-head IsName name names named)))
  where
    star_name : IsName (codes "*") → ⊥
    star_name named = cc

names_back : (most : ℕ) (names : List (List ℕ)) → (length names ≤ most) × All IsName names → names_in most (names_word names) ≡ Some names
names_back most [] good = refl
names_back most (name ∷ names) good =
    names_read most (join_with_byte 0x2C (name ∷ names)) (name ∷ names) (no_star name names good.1) (parts_joined 0x2C name names (comma_free (name ∷ names) good.1))
    (list_all-from_AllPass is_name (name ∷ names) good.1) good.0

names_are_words : (names : List (List ℕ)) → All IsName names → list_all is_word names ≡ true
names_are_words [] named = refl
names_are_words (name ∷ names) named =
    both_true (is_word name) (list_all is_word names) (name_field.word name (All-head IsName name names named)) (names_are_words names (All-tail IsName name names named))

names_are_word : (most : ℕ) (names : List (List ℕ)) → (length names ≤ most) × All IsName names → is_word (names_word names) ≡ true
names_are_word most [] good = refl
names_are_word most (name ∷ names) good =
    let words = names_are_words (name ∷ names) good.1 in
    both_true (has_bytes (join_with_byte 0x2C (name ∷ names))) (list_all is_graphic (join_with_byte 0x2C (name ∷ names)))
    (some_joined 0x2C name names (words_parts (name ∷ names) words).0) (graphic_joined 0x2C (name ∷ names) refl (words_parts (name ∷ names) words).1)

pub names_field : (most : ℕ) → IsField (names_in most) names_word (λ names. (length names ≤ most) × All IsName names)
names_field most = record { said = names_said most; back = names_back most; word = names_are_word most }
