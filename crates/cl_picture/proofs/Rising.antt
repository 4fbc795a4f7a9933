-- Lists of numbers that rise, by a test.
use Rattle.std.proofs.Common.{◌≡◌, ℕ, zero, suc, ◌+◌, ◌<◌, Bool, true, false, ◌&&◌, nat_lt, List, [], ◌∷◌, length, get_or, subst, arith}
use Rattle.std.proofs.lemmas.Bool.Decides.{nat_tests}

-- each number is less than the next, from one on
abbrev pub rises_from : ℕ → List ℕ → Bool
rises_from x [] = true
rises_from x (y ∷ ys) = nat_lt x y && rises_from y ys

less_first : (x y : ℕ) (rest : Bool) → (nat_lt x y && rest) ≡ true → x < y
less_first x y rest is = grind (arith, nat_tests, is)

rest_rises : (first rest : Bool) → (first && rest) ≡ true → rest ≡ true
rest_rises true rest is = is
rest_rises false rest is = absurd (cc)

behind_less : (x : ℕ) (ys : List ℕ) → rises_from x ys ≡ true → (k : ℕ) → k < length ys → get_or (x ∷ ys) k 0 < get_or ys k 0
behind_less x [] is k lt = absurd (omega (arith, lt))
behind_less x (y ∷ ys) is zero lt = less_first x y (rises_from y ys) is
behind_less x (y ∷ ys) is (suc k) lt = behind_less y ys (rest_rises (nat_lt x y) (rises_from y ys) is) k (omega (arith, lt))

-- and in a whole list
abbrev pub rises : List ℕ → Bool
rises [] = true
rises (x ∷ xs) = rises_from x xs

pub each_less : (xs : List ℕ) → rises xs ≡ true → (k : ℕ) → k + 1 < length xs → get_or xs k 0 < get_or xs (k + 1) 0
each_less [] is k lt = absurd (omega (arith, lt))
each_less (x ∷ xs) is k lt =
    let next : suc k ≡ k + 1 = omega arith in
    subst (λ n. get_or (x ∷ xs) k 0 < get_or (x ∷ xs) n 0) next (behind_less x xs is k (omega (arith, lt)))
