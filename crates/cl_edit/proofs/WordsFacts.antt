-- Words that are read one after another: what was read of them, and that what was written is read again.
use Rattle.std.proofs.Common.{◌≡◌, Option, Some, None, List, ℕ, ◌∷◌, [], refl, ap, ◌∙◌}
use Rattle.cl_edit.specs.Inner.Parts.{with_left, first_read, then_read}
use Rattle.cl_edit.proofs.FieldFacts.{IsField}

-- the first word is that of a good value, and the rest was read of the words behind it
pub took : {X Y : Type 0} {read : List ℕ → Option X} {write : X → List ℕ} {Good : X → Type 0} → IsField read write Good
    → (words : List (List ℕ)) (next : X → List (List ℕ) → Option Y) (y : Y) → then_read (first_read read words) next ≡ Some y
    → (x : X) × (left : List (List ℕ)) × (words ≡ write x ∷ left) × Good x × (next x left ≡ Some y)
took field [] next y is = absurd (cc)
took {X} {Y} {read} {write} {Good} field (word ∷ words) next y is = of_word (read word) refl is
  where
    of_word : (o : Option X) → read word ≡ o → then_read (with_left words o) next ≡ Some y
        → (x : X) × (left : List (List ℕ)) × (word ∷ words ≡ write x ∷ left) × Good x × (next x left ≡ Some y)
    of_word None at is = absurd (cc)
    of_word (Some x) at is = let said = field.said word x at in (x, words, ap (λ w. w ∷ words) said.0, said.1, is)

-- the word of a good value is read as that value
pub gave : {X Y : Type 0} {read : List ℕ → Option X} {write : X → List ℕ} {Good : X → Type 0} → IsField read write Good
    → (x : X) (left : List (List ℕ)) (next : X → List (List ℕ) → Option Y) → Good x → then_read (first_read read (write x ∷ left)) next ≡ next x left
gave field x left next good = ap (λ o. then_read (with_left left o) next) (field.back x good)

-- three words in front of others
pub three_words : (words more rest left : List (List ℕ)) (one two three : List ℕ) → words ≡ one ∷ more → more ≡ two ∷ rest → rest ≡ three ∷ left
    → words ≡ one ∷ two ∷ three ∷ left
three_words words more rest left one two three first second third = first ∙ ap (λ w. one ∷ w) (second ∙ ap (λ w. two ∷ w) third)
