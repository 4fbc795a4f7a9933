-- Where walks start: at the arrivals of a phase in so many ticks, and at no other moment.
use Rattle.std.proofs.Common.{◌≡◌, ℕ, ◌<◌, ◌≤◌, ◌⊎◌, inl, inr, Bool, true, false, cond, max, pos, All, List, [], ◌∷◌, get_or, filter, refl, sym, subst, arith}
use Rattle.std.specs.Prelude.{fold}
use Rattle.std.specs.List.{range_with_len}
use Rattle.std.proofs.lemmas.Bool.{cases_lt}
use Rattle.std.proofs.lemmas.List.FromFn.{length-range_with_len, get_or-range_with_len}
use Rattle.std.proofs.lemmas.List.Elements.{All-head, All-tail, All-cons, All-nil, All-from_get_or, All-weaker}
use Rattle.cl_model.specs.Holds.{greatest_by}
use Rattle.cl_model.proofs.Greatest.{greatest_filtered, greatest_within}
use Rattle.cl_stim.specs.{declared.phase.Phase.Phase, Phase.{IsPhase, IsArrivalOf, arrives_at}}
use Rattle.cl_stim.proofs.ArrivalTests.{arrives_from_test, test_from_arrival}
use Rattle.cl_phase.specs.{declared.pace.Pace.TheVariants.Kept, TightBounds.starts}

-- an element of which something holds has a number
pub record IsReached {X : Type 0} (P : X → Type 0) (f : X → ℕ) (value : ℕ) : Type 0 where
  pub at : X
  pub holds : P at
  pub is : f at ≡ value

-- the greatest number of elements is that of one of them, or 0
module _ {X : Type 0} (P : X → Type 0) (f : X → ℕ) where
  reached_from : (xs : List X) (a : ℕ) → All P xs → IsReached P f (fold (λ greatest x. max greatest (f x)) a xs) ⊎ (fold (λ greatest x. max greatest (f x)) a xs ≡ a)
  reached_from [] a all = inr refl
  reached_from (x ∷ xs) a all = elim (reached_from xs (max a (f x)) (All-tail P x xs all)) [
    | inl reached ↦ inl reached
    | inr same ↦ elim (cases_lt a (f x)) [
      | inl more ↦ inl (record { at = x; holds = All-head P x xs all; is = greater a (f x) _ more same })
      | inr not ↦ inr (no_greater a (f x) _ not same)
    ]
  ]
    where
      greater : (a n r : ℕ) → a < n → r ≡ max a n → n ≡ r
      greater a n r more same = omega (arith, more, same)

      no_greater : (a n r : ℕ) → n ≤ a → r ≡ max a n → r ≡ a
      no_greater a n r not same = omega (arith, not, same)

  pub greatest_reached : (xs : List X) → All P xs → IsReached P f (greatest_by f xs) ⊎ (greatest_by f xs ≡ 0)
  greatest_reached xs all = reached_from xs 0 all

-- what holds of the elements that pass a test
kept_all : {X : Type 0} (test : X → Bool) (P : X → Type 0) (xs : List X) → All (λ x. test x ≡ true → P x) xs → All P (filter test xs)
kept_all test P [] all = All-nil P
kept_all test P (x ∷ xs) all =
    let rest = kept_all test P xs (All-tail (λ y. test y ≡ true → P y) x xs all) in
    elim (test x) as (λ b. (b ≡ true → P x) → All P (cond b (x ∷ filter test xs) (filter test xs))) [
      | true ↦ λ holds. All-cons P x (filter test xs) (holds refl) rest
      | false ↦ λ holds. rest
    ] (All-head (λ y. test y ≡ true → P y) x xs all)

-- an arrival of a phase in the first ticks
pub record IsStart (phase : Phase) (ticks start : ℕ) : Type 0 where
  pub within : start < ticks
  pub arrives : IsArrivalOf phase (pos start)

module _ (phase : Phase) (is : IsPhase phase) (ticks : ℕ) where
  -- each start is one
  pub all_start : All (IsStart phase ticks) (starts (Kept phase) ticks)
  all_start = kept_all (λ moment. arrives_at phase (pos moment)) (IsStart phase ticks) (range_with_len 0 ticks)
      (All-from_get_or (λ moment. arrives_at phase (pos moment) ≡ true → IsStart phase ticks moment) (range_with_len 0 ticks) 0
      (λ place within.
      let below : place < ticks = omega (arith, within, length-range_with_len 0 ticks) in
      let at : get_or (range_with_len 0 ticks) place 0 ≡ place = omega (arith, get_or-range_with_len 0 ticks place 0 below) in
      λ passes. record { within = omega (arith, at, below); arrives = arrives_from_test phase is _ passes }))

  module _ (f : ℕ → ℕ) where
    -- the greatest is at least that of each arrival
    pub start_within : (start : ℕ) → IsStart phase ticks start → f start ≤ greatest_by f (starts (Kept phase) ticks)
    start_within start at =
        let place : get_or (range_with_len 0 ticks) start 0 ≡ start = omega (arith, get_or-range_with_len 0 ticks start 0 at.within) in
        subst (λ n. f n ≤ greatest_by f (starts (Kept phase) ticks)) place
        (greatest_filtered f (λ moment. arrives_at phase (pos moment)) (range_with_len 0 ticks) start 0
        (omega (arith, at.within, length-range_with_len 0 ticks))
        (subst (λ n. arrives_at phase (pos n) ≡ true) (sym place) (test_from_arrival phase is (pos start) at.arrives)))

    -- it is that of one of them, or 0
    pub start_reached : IsReached (IsStart phase ticks) f (greatest_by f (starts (Kept phase) ticks)) ⊎ (greatest_by f (starts (Kept phase) ticks) ≡ 0)
    start_reached = greatest_reached (IsStart phase ticks) f (starts (Kept phase) ticks) all_start

    -- and within each bound on all of them
    pub starts_within : (most : ℕ) → ((start : ℕ) → IsStart phase ticks start → f start ≤ most) → greatest_by f (starts (Kept phase) ticks) ≤ most
    starts_within most within = greatest_within f (starts (Kept phase) ticks) most
        (All-weaker (IsStart phase ticks) (λ start. f start ≤ most) within (starts (Kept phase) ticks) all_start)
