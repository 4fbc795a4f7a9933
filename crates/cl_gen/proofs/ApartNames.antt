-- The names in a generated model are apart.
use Rattle.std.proofs.Common.{◌≡◌, ℕ, ◌/◌, ◌%◌, ◌<◌, ◌^◌, inl, inr, List, [], ◌∷◌, ◌++◌, length, get_or, refl, sym, ap, ◌∙◌, arith, length-append}
use Rattle.std.specs.Prelude.{codes, if◌then◌else◌}
use Rattle.std.proofs.lemmas.Bool.{cases_eq, eq-eqb, ne_eqb}
use Rattle.std.proofs.lemmas.Fmt.{decimal_injective}
use Rattle.std.proofs.lemmas.List.{append_cancel_left, append_cancel_right}
use Rattle.cl_gen.specs.Generated.{numbered, label_name, runnable_name}

pub numbered_apart : (letter : List ℕ) (i j : ℕ) → i < 2 ^ 64 → j < 2 ^ 64 → numbered letter i ≡ numbered letter j → i ≡ j
numbered_apart letter i j i_fits j_fits same = decimal_injective i j i_fits j_fits (append_cancel_left letter _ _ same)

-- ---- labels

even_label : (k : ℕ) → k % 2 ≡ 0 → label_name k ≡ numbered (codes "m") (k / 2)
unfolding label_name
even_label k even = ap (λ b. numbered (if b then codes "m" else codes "l") (k / 2)) (eq-eqb (k % 2) 0 even)

odd_label : (k : ℕ) → (k % 2 ≡ 0 → ⊥) → label_name k ≡ numbered (codes "l") (k / 2)
unfolding label_name
odd_label k odd = ap (λ b. numbered (if b then codes "m" else codes "l") (k / 2)) (ne_eqb (k % 2) 0 odd)

-- the two letters differ
heads_differ : (x y : List ℕ) → x ≡ y → get_or x 0 0 ≡ 109 → get_or y 0 0 ≡ 108 → ⊥
heads_differ x y same first second = omega (arith, ap (λ l. get_or l 0 0) same, first, second)

pub labels_apart : (k j : ℕ) → k < 2 ^ 64 → j < 2 ^ 64 → label_name k ≡ label_name j → k ≡ j
labels_apart k j k_fits j_fits same = elim (cases_eq (k % 2) 0) [
  | inl k_even ↦ elim (cases_eq (j % 2) 0) [
    | inl j_even ↦ let halves : k / 2 ≡ j / 2
        = numbered_apart (codes "m") (k / 2) (j / 2) (omega arith) (omega arith) (sym (even_label k k_even) ∙ same ∙ even_label j j_even) in
        omega arith
    | inr j_odd ↦ absurd (heads_differ _ _ (sym (even_label k k_even) ∙ same ∙ odd_label j j_odd) refl refl)
  ]
  | inr k_odd ↦ elim (cases_eq (j % 2) 0) [
    | inl j_even ↦ absurd (heads_differ _ _ (sym (even_label j j_even) ∙ sym same ∙ odd_label k k_odd) refl refl)
    | inr j_odd ↦ let halves : k / 2 ≡ j / 2
        = numbered_apart (codes "l") (k / 2) (j / 2) (omega arith) (omega arith) (sym (odd_label k k_odd) ∙ same ∙ odd_label j j_odd) in
        omega arith
  ]
]

-- ---- runnables

even_runnable : (k : ℕ) → k % 2 ≡ 0 → runnable_name k ≡ numbered (codes "t") (k / 2) ++ codes "a"
unfolding runnable_name
even_runnable k even = ap (λ b. numbered (codes "t") (k / 2) ++ (if b then codes "a" else codes "b")) (eq-eqb (k % 2) 0 even)

odd_runnable : (k : ℕ) → (k % 2 ≡ 0 → ⊥) → runnable_name k ≡ numbered (codes "t") (k / 2) ++ codes "b"
unfolding runnable_name
odd_runnable k odd = ap (λ b. numbered (codes "t") (k / 2) ++ (if b then codes "a" else codes "b")) (ne_eqb (k % 2) 0 odd)

-- two texts of one last byte
last_byte : (xs : List ℕ) (a : ℕ) → get_or (xs ++ a ∷ []) (length xs) 0 ≡ a
last_byte [] a = refl
last_byte (x ∷ xs) a = last_byte xs a

same_length : (xs ys : List ℕ) (a b : ℕ) → xs ++ a ∷ [] ≡ ys ++ b ∷ [] → length xs ≡ length ys
same_length xs ys a b same = omega (arith, ap length same, length-append xs (a ∷ []), length-append ys (b ∷ []))

same_last : (xs ys : List ℕ) (a b : ℕ) → xs ++ a ∷ [] ≡ ys ++ b ∷ [] → a ≡ b
same_last xs ys a b same = sym (last_byte xs a) ∙ ap (λ l. get_or l (length xs) 0) same
    ∙ ap (λ n. get_or (ys ++ b ∷ []) n 0) (same_length xs ys a b same) ∙ last_byte ys b

ends_differ : (xs ys : List ℕ) → xs ++ codes "a" ≡ ys ++ codes "b" → ⊥
ends_differ xs ys same = omega (arith, same_last xs ys 97 98 same)

pub runnables_apart : (k j : ℕ) → k < 2 ^ 64 → j < 2 ^ 64 → runnable_name k ≡ runnable_name j → k ≡ j
runnables_apart k j k_fits j_fits same = elim (cases_eq (k % 2) 0) [
  | inl k_even ↦ elim (cases_eq (j % 2) 0) [
    | inl j_even ↦ let halves : k / 2 ≡ j / 2
        = numbered_apart (codes "t") (k / 2) (j / 2) (omega arith) (omega arith)
        (append_cancel_right _ _ _ (sym (even_runnable k k_even) ∙ same ∙ even_runnable j j_even)) in
        omega arith
    | inr j_odd ↦ absurd (ends_differ (numbered (codes "t") (k / 2)) (numbered (codes "t") (j / 2)) (sym (even_runnable k k_even) ∙ same ∙ odd_runnable j j_odd))
  ]
  | inr k_odd ↦ elim (cases_eq (j % 2) 0) [
    | inl j_even ↦ absurd (ends_differ (numbered (codes "t") (j / 2)) (numbered (codes "t") (k / 2)) (sym (even_runnable j j_even) ∙ sym same ∙ odd_runnable k k_odd))
    | inr j_odd ↦ let halves : k / 2 ≡ j / 2
        = numbered_apart (codes "t") (k / 2) (j / 2) (omega arith) (omega arith)
        (append_cancel_right _ _ _ (sym (odd_runnable k k_odd) ∙ same ∙ odd_runnable j j_odd)) in
        omega arith
  ]
]
