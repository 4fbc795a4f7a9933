-- Checks of lists, item by item.
use Rattle.std.proofs.Common.{◌≡◌, ℕ, zero, suc, ◌+◌, ◌<◌, List, [], ◌∷◌, ◌++◌, length, get_or, refl, sym, ap, ◌∙◌, arith}
use Rattle.std.proofs.lemmas.List.{append-nil}
use Rattle.cl_model.specs.{declared.refusal.Refusal.Refusal, Refusals.{each_from, each}}

-- checks that agree item by item agree on the whole lists
each_from_alike : {X Y : Type 0} (f : ℕ → X → List Refusal) (g : ℕ → Y → List Refusal) (xs : List X) (ys : List Y) (n : ℕ) (c : X) (d : Y) → length xs ≡ length ys
    → ((k j : ℕ) → j ≡ n + k → k < length xs → f j (get_or xs k c) ≡ g j (get_or ys k d)) → each_from n f xs ≡ each_from n g ys
each_from_alike f g [] [] n c d long same = refl
each_from_alike f g [] (y ∷ ys) n c d long same = absurd (omega arith)
each_from_alike f g (x ∷ xs) [] n c d long same = absurd (omega arith)
each_from_alike f g (x ∷ xs) (y ∷ ys) n c d long same =
    ap (λ l. l ++ each_from (n + 1) f xs) (same 0 n (omega arith) (omega arith))
    ∙ ap (λ l. g n y ++ l) (each_from_alike f g xs ys (n + 1) c d (omega arith) (λ k j at lt. same (suc k) j (omega arith) (omega arith)))

pub each_alike : {X Y : Type 0} (f : ℕ → X → List Refusal) (g : ℕ → Y → List Refusal) (xs : List X) (ys : List Y) (c : X) (d : Y) → length xs ≡ length ys
    → ((k : ℕ) → k < length xs → f k (get_or xs k c) ≡ g k (get_or ys k d)) → each f xs ≡ each g ys
each_alike f g xs ys c d long same =
    each_from_alike f g xs ys 0 c d long (λ k j at lt. let e : j ≡ k = omega arith in rw e (same k lt))

-- nothing is refused of all where nothing is refused of each
each_of_none : {X : Type 0} (n : ℕ) (xs : List X) → each_from n (λ k x. []) xs ≡ []
each_of_none n [] = refl
each_of_none n (x ∷ xs) = each_of_none (n + 1) xs

each_from_nothing : {X : Type 0} (check : ℕ → X → List Refusal) (xs : List X) (n : ℕ) (d : X) → ((k j : ℕ) → j ≡ n + k → k < length xs → check j (get_or xs k d) ≡ []) → each_from n check xs ≡ []
each_from_nothing check xs n d none = each_from_alike check (λ k x. []) xs xs n d d refl none ∙ each_of_none n xs

pub each_nothing : {X : Type 0} (check : ℕ → X → List Refusal) (xs : List X) (d : X) → ((k : ℕ) → k < length xs → check k (get_or xs k d) ≡ []) → each check xs ≡ []
each_nothing check xs d none = each_alike check (λ k x. []) xs xs d d refl none ∙ each_of_none 0 xs

-- what is refused of one item alone
each_from_only : {X : Type 0} (check : ℕ → X → List Refusal) (xs : List X) (i : ℕ) (n m : ℕ) (d : X) → m ≡ n + i → i < length xs
    → ((k j : ℕ) → j ≡ n + k → k < length xs → (k ≡ i → ⊥) → check j (get_or xs k d) ≡ []) → each_from n check xs ≡ check m (get_or xs i d)
each_from_only check [] i n m d at lt none = absurd (omega arith)
each_from_only check (x ∷ xs) zero n m d at lt none =
    let here : m ≡ n = omega arith in
    ap (λ l. check n x ++ l) (each_from_nothing check xs (n + 1) d (λ k j e k_lt. none (suc k) j (omega arith) (omega arith) (λ is. omega arith)))
    ∙ append-nil (check n x) ∙ ap (λ k. check k x) (sym here)
each_from_only check (x ∷ xs) (suc i) n m d at lt none =
    ap (λ l. l ++ each_from (n + 1) check xs) (none 0 n (omega arith) (omega arith) (λ is. omega arith))
    ∙ each_from_only check xs i (n + 1) m d (omega arith) (omega arith) (λ k j e k_lt apart. none (suc k) j (omega arith) (omega arith) (λ is. apart (omega arith)))

pub each_only : {X : Type 0} (check : ℕ → X → List Refusal) (xs : List X) (i : ℕ) (d : X) → i < length xs
    → ((k : ℕ) → k < length xs → (k ≡ i → ⊥) → check k (get_or xs k d) ≡ []) → each check xs ≡ check i (get_or xs i d)
each_only check xs i d lt none =
    each_from_only check xs i 0 i d (omega arith) lt (λ k j at k_lt apart. let e : j ≡ k = omega arith in rw e (none k k_lt apart))
