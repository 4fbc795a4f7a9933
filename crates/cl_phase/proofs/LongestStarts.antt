-- The walks from the first start from which they last as long as the longest do so, and it is an arrival. Times are in ticks.
use Rattle.std.proofs.Common.{◌≡◌, ℕ, ◌<◌, ◌≤◌, true, false, cond, max, pos, negsuc, ℤ, All, List, [], ◌∷◌, refl, sym, ap, ◌∙◌, arith}
use Rattle.std.specs.Prelude.{◌==◌, find, fold, Some, unwrap_or}
use Rattle.std.proofs.lemmas.Bool.{eqb-true, eq-eqb, false≢true}
use Rattle.std.proofs.lemmas.List.Elements.{All-head, All-tail, All-cons, All-nil}
use Rattle.cl_model.specs.{Holds.greatest_by, declared.chain.RequirementKind.RequirementKind}
use Rattle.cl_phase.specs.{declared.{pace.Pace.{Pace, TheVariants.{Kept, Free}}, stop.Stop.Stop}, Pace.IsPace, Walks.pace_at, TightBounds.{hyperperiod_in, starts, ticks_or_none}, Walked.{lasts_from, start_among, walk_start}}
use Rattle.cl_phase.proofs.{StartFacts.all_start, WalkStarts.IsArrivalAt}

-- ---- the greatest is found

module _ (P : ℕ → Type 0) (f : ℕ → ℕ) (greatest : ℕ) where
  abbrev greatest_from : ℕ → List ℕ → ℕ
  greatest_from a xs = fold (λ so_far x. max so_far (f x)) a xs

  rises : (a : ℕ) (xs : List ℕ) → a ≤ greatest_from a xs
  rises a [] = omega arith
  rises a (x ∷ xs) = omega (arith, rises (max a (f x)) xs)

  lesser : (a n : ℕ) → a < greatest → max a n ≤ greatest → (n ≡ greatest → ⊥) → max a n < greatest
  lesser a n below up differ = omega (arith, below, up, differ)

  -- the first number that has it, of those of which something holds
  attained : (a : ℕ) (xs : List ℕ) → All P xs → a < greatest → greatest_from a xs ≡ greatest
      → (f (unwrap_or (find (λ x. f x == greatest) xs) 0) ≡ greatest) × P (unwrap_or (find (λ x. f x == greatest) xs) 0)
  attained a [] all below is = absurd (omega (arith, below, is))
  attained a (x ∷ xs) all below is =
      let up : max a (f x) ≤ greatest = omega (arith, rises (max a (f x)) xs, is) in
      let found : ℕ → Type 0 = λ y. (f y ≡ greatest) × P y in
      elim (f x == greatest) as (λ b. (f x == greatest) ≡ b → found (unwrap_or (cond b (Some x) (find (λ y. f y == greatest) xs)) 0)) [
        | true ↦ λ here. (eqb-true _ _ here, All-head P x xs all)
        | false ↦ λ none.
            let differ : f x ≡ greatest → ⊥ = λ same. false≢true (sym none ∙ eq-eqb _ _ same) in
            attained (max a (f x)) xs (All-tail P x xs all) (lesser a (f x) below up differ) is
      ] refl

-- ---- of walks

-- where walks start there are arrivals
starts_arrive : (pace : Pace) → IsPace pace → (ticks : ℕ) → All (λ start. IsArrivalAt pace (pos start)) (starts pace ticks)
starts_arrive (Kept phase) is ticks = λ place d within. (all_start phase is ticks place d within).arrives
starts_arrive (Free greatest) is ticks = All-cons (λ start. IsArrivalAt (Free greatest) (pos start)) 0 [] tt (All-nil (λ start. IsArrivalAt (Free greatest) (pos start)))

long_as : (z : ℤ) (ticks : ℕ) → 1 ≤ ticks → ticks_or_none z ≡ ticks → z ≡ pos ticks
long_as (pos n) ticks some is = ap pos is
long_as (negsuc n) ticks some is = absurd (omega (arith, some, is))

-- the first start from which walks last so long is an arrival from which they do
pub record LastsFromStart (kind : RequirementKind) (stops : List Stop) (span : ℤ) (write place bound : ℕ) : Type 0 where
  pub lasts : lasts_from kind stops span write place (pos (walk_start kind stops span write place bound)) ≡ pos bound
  pub arrives : IsArrivalAt (pace_at stops place) (pos (walk_start kind stops span write place bound))

-- so it is where that is the longest, a tick or more
pub longest_from_start : (kind : RequirementKind) (stops : List Stop) (span : ℤ) (write place bound : ℕ) → IsPace (pace_at stops place) → 1 ≤ bound
    → greatest_by (λ arrival. ticks_or_none (lasts_from kind stops span write place (pos arrival))) (starts (pace_at stops place) (hyperperiod_in stops)) ≡ bound
    → LastsFromStart kind stops span write place bound
unfolding start_among
longest_from_start kind stops span write place bound is_pace some is =
    let from : List ℕ = starts (pace_at stops place) (hyperperiod_in stops) in
    let ticks : ℕ → ℕ = λ arrival. ticks_or_none (lasts_from kind stops span write place (pos arrival)) in
    let (long, arrives) = attained (λ start. IsArrivalAt (pace_at stops place) (pos start)) ticks bound 0 from
    (starts_arrive (pace_at stops place) is_pace (hyperperiod_in stops)) some is in
    record {
      lasts = long_as (lasts_from kind stops span write place (pos (walk_start kind stops span write place bound))) bound some long;
      arrives = arrives;
    }
