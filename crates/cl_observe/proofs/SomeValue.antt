-- Of jobs of which it is decided what they have, there are so many of a kind, and there is a greatest number, and a least and
-- a greatest one, or none.
use Rattle.std.proofs.Common.{◌≡◌, ℕ, zero, suc, ◌+◌, ◌<◌, ℤ, inl, inr, Option, Some, None, refl, subst}
use Rattle.std.proofs.Math.Numerals.{add-one}
use Rattle.cl_chain.proofs.DecidedMoments.{Decided}
use Rattle.cl_observe.specs.{declared.values.{GreatestResponse.GreatestResponse, Spread.Spread}, Values.{CountsBelow, IsGreatestResponseOf, IsSpreadOf}, Inner.{Choices.{or_response, or_number}, JobLists.HasBelow}}
use Rattle.cl_observe.proofs.{OneValue.{greatest_as, spread_as}, ListedJobs.{greatest_kept, greatest_more, spread_kept, spread_more, none_below}}

-- ---- counts

pub some_count : (Is : ℕ → Type 0) → ((k : ℕ) → Decided (Is k)) → (n : ℕ) → (count : ℕ) × CountsBelow Is n count
some_count Is decided zero = (0, refl)
some_count Is decided (suc n) = by_last (some_count Is decided n) (decided n)
  where
    by_last : (before : ℕ) × CountsBelow Is n before → Decided (Is n) → (count : ℕ) × CountsBelow Is (suc n) count
    by_last (before, counts) (inl is) = (before + 1, inl (before, is, counts, refl))
    by_last (before, counts) (inr not) = (before, inr (not, counts))

-- ---- numbers, of which each job below a bound may have one

pub record AreNumbers (Has : ℕ → ℤ → Type 0) (bound : ℕ) : Type 0 where
  pub decided : (job : ℕ) → Decided ((number : ℤ) × Has job number)
  pub once : (job : ℕ) (one other : ℤ) → Has job one → Has job other → one ≡ other
  pub few : (job : ℕ) (number : ℤ) → Has job number → job < bound

module _ (Has : ℕ → ℤ → Type 0) (bound : ℕ) (are : AreNumbers Has bound) where
  all_below : (job : ℕ) (number : ℤ) → Has job number → HasBelow bound Has job number
  all_below job number has = record { below = are.few job number has; has = has }

  -- ---- the greatest

  greatest_below : (n : ℕ) → (found : Option GreatestResponse) × IsGreatestResponseOf (HasBelow n Has) found
  greatest_below zero = (None, none_below Has)
  greatest_below (suc n) = by_last (greatest_below n) (are.decided n)
    where
      by_last : (found : Option GreatestResponse) × IsGreatestResponseOf (HasBelow n Has) found → Decided ((number : ℤ) × Has n number)
          → (more : Option GreatestResponse) × IsGreatestResponseOf (HasBelow (suc n) Has) more
      by_last before (inl own) = (
        Some (or_response before.0 n own.0),
        subst (λ k. IsGreatestResponseOf (HasBelow k Has) (Some (or_response before.0 n own.0))) (add-one n)
            (greatest_more Has n own.0 own.1 (λ number has. are.once n number own.0 has own.1) before.0 before.1),
      )
      by_last before (inr none) = (
        before.0,
        subst (λ k. IsGreatestResponseOf (HasBelow k Has) before.0) (add-one n) (greatest_kept Has n (λ number has. none (number, has)) before.0 before.1),
      )

  pub some_greatest : (found : Option GreatestResponse) × IsGreatestResponseOf Has found
  some_greatest =
      let all = greatest_below bound in
      (all.0, greatest_as (HasBelow bound Has) Has (λ job number has. has.has) all_below all.0 all.1)

  -- ---- the least and the greatest

  spread_below : (n : ℕ) → (found : Option Spread) × IsSpreadOf (HasBelow n Has) found
  spread_below zero = (None, none_below Has)
  spread_below (suc n) = by_last (spread_below n) (are.decided n)
    where
      by_last : (found : Option Spread) × IsSpreadOf (HasBelow n Has) found → Decided ((number : ℤ) × Has n number)
          → (more : Option Spread) × IsSpreadOf (HasBelow (suc n) Has) more
      by_last before (inl own) = (
        Some (or_number before.0 own.0),
        subst (λ k. IsSpreadOf (HasBelow k Has) (Some (or_number before.0 own.0))) (add-one n)
            (spread_more Has n own.0 own.1 (λ number has. are.once n number own.0 has own.1) before.0 before.1),
      )
      by_last before (inr none) = (
        before.0,
        subst (λ k. IsSpreadOf (HasBelow k Has) before.0) (add-one n) (spread_kept Has n (λ number has. none (number, has)) before.0 before.1),
      )

  pub some_spread : (found : Option Spread) × IsSpreadOf Has found
  some_spread =
      let all = spread_below bound in
      (all.0, spread_as (HasBelow bound Has) Has (λ job number has. has.has) all_below all.0 all.1)
