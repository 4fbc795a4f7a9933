-- What is said of the numbers of jobs is one thing, and what is so of one kind of number is so of a like one.
use Rattle.std.proofs.Common.{◌≡◌, ℕ, zero, suc, ◌+◌, ◌<◌, ◌≤◌, ℤ, inl, inr, Option, Some, None, refl, sym, ap, subst, ◌∙◌, arith}
use Rattle.std.proofs.lemmas.Int.{ints}
use Rattle.cl_observe.specs.{declared.values.{GreatestResponse.GreatestResponse, Spread.Spread}, Values.{CountsBelow, IsGreatestResponseOf, IsSpreadOf}}

-- ---- once

module _ (Is : ℕ → Type 0) where
  pub counts_once : (n a b : ℕ) → CountsBelow Is n a → CountsBelow Is n b → a ≡ b
  counts_once zero a b one other = one ∙ sym other
  counts_once (suc n) a b (inl (m, is, counts, more)) (inl (k, also, again, most)) = more ∙ ap (λ c. c + 1) (counts_once n m k counts again) ∙ sym most
  counts_once (suc n) a b (inl (m, is, counts, more)) (inr (never, again)) = absurd (never is)
  counts_once (suc n) a b (inr (never, counts)) (inl (k, also, again, most)) = absurd (never also)
  counts_once (suc n) a b (inr (never, counts)) (inr (not, again)) = counts_once n a b counts again

  -- no more are counted than there are
  pub counts_few : (n count : ℕ) → CountsBelow Is n count → count ≤ n
  counts_few zero count counts = omega (arith, counts)
  counts_few (suc n) count (inl (m, is, counts, more)) = omega (arith, counts_few n m counts, more)
  counts_few (suc n) count (inr (never, counts)) = omega (arith, counts_few n count counts)

module _ (Has : ℕ → ℤ → Type 0) where
  same_greatest : (a b : GreatestResponse) → a.response ≡ b.response → a.job ≡ b.job → a ≡ b
  same_greatest a b response job = λ i. record { response = response i; job = job i }

  pub greatest_once : (a b : Option GreatestResponse) → IsGreatestResponseOf Has a → IsGreatestResponseOf Has b → a ≡ b
  greatest_once None None one other = refl
  greatest_once None (Some b) one other = absurd (one b.job b.response other.has)
  greatest_once (Some a) None one other = absurd (other a.job a.response one.has)
  greatest_once (Some a) (Some b) one other =
      let same : a.response ≡ b.response = omega (arith, ints, one.greatest b.job b.response other.has, other.greatest a.job a.response one.has) in
      ap Some (same_greatest a b same
      (omega (arith, one.least b.job (subst (Has b.job) (sym same) other.has), other.least a.job (subst (Has a.job) same one.has))))

  same_spread : (a b : Spread) → a.least ≡ b.least → a.greatest ≡ b.greatest → a ≡ b
  same_spread a b least greatest = λ i. record { least = least i; greatest = greatest i }

  pub spread_once : (a b : Option Spread) → IsSpreadOf Has a → IsSpreadOf Has b → a ≡ b
  spread_once None None one other = refl
  spread_once None (Some b) one other = absurd (one other.at_least.0 b.least other.at_least.1)
  spread_once (Some a) None one other = absurd (other one.at_least.0 a.least one.at_least.1)
  spread_once (Some a) (Some b) one other = ap Some (same_spread a b
      (omega (arith, ints, one.above other.at_least.0 b.least other.at_least.1, other.above one.at_least.0 a.least one.at_least.1))
      (omega (arith, ints, one.below other.at_greatest.0 b.greatest other.at_greatest.1, other.below one.at_greatest.0 a.greatest one.at_greatest.1)))

-- ---- of like numbers

-- what counts below a number as the one kind counts as the other
pub counts_as : (A B : ℕ → Type 0) (n : ℕ) → ((k : ℕ) → k < n → A k → B k) → ((k : ℕ) → k < n → B k → A k) → (count : ℕ) → CountsBelow A n count → CountsBelow B n count
counts_as A B zero to from count counts = counts
counts_as A B (suc n) to from count (inl (m, is, counts, more)) =
    inl (m, to n (omega arith) is, counts_as A B n (λ k below. to k (omega (arith, below))) (λ k below. from k (omega (arith, below))) m counts, more)
counts_as A B (suc n) to from count (inr (never, counts)) =
    inr ((λ is. never (from n (omega arith) is)), counts_as A B n (λ k below. to k (omega (arith, below))) (λ k below. from k (omega (arith, below))) count counts)

module _ (A B : ℕ → ℤ → Type 0) (to : (job : ℕ) (number : ℤ) → A job number → B job number) (from : (job : ℕ) (number : ℤ) → B job number → A job number) where
  pub greatest_as : (found : Option GreatestResponse) → IsGreatestResponseOf A found → IsGreatestResponseOf B found
  greatest_as None none = λ job number has. none job number (from job number has)
  greatest_as (Some found) is = record {
    has = to found.job found.response is.has;
    greatest = λ job number has. is.greatest job number (from job number has);
    least = λ job has. is.least job (from job found.response has);
  }

  pub spread_as : (found : Option Spread) → IsSpreadOf A found → IsSpreadOf B found
  spread_as None none = λ job number has. none job number (from job number has)
  spread_as (Some found) is = record {
    at_least = (is.at_least.0, to is.at_least.0 found.least is.at_least.1);
    at_greatest = (is.at_greatest.0, to is.at_greatest.0 found.greatest is.at_greatest.1);
    above = λ job number has. is.above job number (from job number has);
    below = λ job number has. is.below job number (from job number has);
  }
