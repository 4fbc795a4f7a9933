-- The loops over rear parts: what is best so far is best among the cuts that were looked at.
use Rattle.std.proofs.Common.{◌≡◌, ℕ, ◌+◌, ◌-◌, ◌^◌, ◌<◌, ◌≤◌, min, cond, inl, inr, List, [], ◌∷◌, ◌++◌, length, sym, ap, ◌∙◌, subst, arith}
use Rattle.std.specs.Prelude.{slice_index, slice_index_or}
use Rattle.std.proofs.lemmas.Bool.{cases_lt, lt-ltb, le-ltb}
use Rattle.std.proofs.lemmas.List.{get_or_append_left, length_push, get_or_push, get_or_default}
use Rattle.cl_model.specs.declared.group.Group.{Group}
use Rattle.cl_runs.specs.TaskTiming.{System}
use Rattle.cl_cut.specs.{Values.{part, IsValue}, Cuts.{IsBestCutFrom, IsBestCut}, declared.rears.{Front.Front, Rear.Rear}, Inner.Rears.{no_rear, rear_at, AreRears, AreValuesFrom, ArePositive, CostSome, pieces_behind}}
use Rattle.cl_cut.proofs.BestCuts.{IsBestBelow, best_alone, best_there, best_before, best_at_end}

-- the best of the first pieces that were looked at, from the whole rear part on
pub record IsBestFront (rears : List Rear) (values : List ℕ) (looked size cost : ℕ) : Type 0 where
  pub best : (system : System) (groups : List Group) (first : ℕ) → ArePositive system groups
      → AreValuesFrom system groups first values → AreRears system groups rears
      → IsBestBelow system groups first (first + 1 + looked) (pieces_behind rears first size) cost

-- what the loop keeps of it
pub record IsFrontSoFar (rears : List Rear) (values : List ℕ) (looked : ℕ) (front : Front) : Type 0 where
  pub within : front.size ≤ length rears
  pub some : 1 ≤ front.cost
  pub fits : front.cost < 2 ^ 64
  pub best : IsBestFront rears values looked front.size front.cost

module _ (rears : List Rear) (values : List ℕ) (as_many : length values ≡ length rears + 1) where
  behind_none : (first : ℕ) → first ∷ [] ≡ pieces_behind rears first (length rears)
  behind_none first = ap (λ b. first ∷ cond b (slice_index_or rears (length rears - 1 - length rears) no_rear).pieces [])
      (sym (le-ltb (length rears) (length rears) (omega arith)))

  behind_some : (first size : ℕ) → size < length rears → first ∷ (slice_index_or rears (length rears - 1 - size) no_rear).pieces ≡ pieces_behind rears first size
  behind_some first size lt = ap (λ b. first ∷ cond b (slice_index_or rears (length rears - 1 - size) no_rear).pieces []) (sym (lt-ltb size (length rears) lt))

  pub front_alone : IsBestFront rears values 0 (length rears) (slice_index values (length rears))
  front_alone = record {
    best = λ system groups first positive are rear.
        let end : first + 1 + length rears ≡ length groups = omega (arith, are.one_a_piece, as_many) in
        let value = subst (λ n. IsValue system (part groups first n) (slice_index values (length rears))) end (are.each (length rears) (omega (arith, as_many))) in
        let bound : first + 1 ≡ first + 1 + 0 = omega arith in
        subst (λ n. IsBestBelow system groups first n (pieces_behind rears first (length rears)) (slice_index values (length rears))) bound
        (subst (λ (list : List ℕ). IsBestBelow system groups first (first + 1) list (slice_index values (length rears))) (behind_none first)
        (best_alone system groups positive first (slice_index values (length rears)) (omega (arith, end)) value));
  }

  module _ (looked size cost : ℕ) (old : IsBestFront rears values looked size cost) (lt : looked < length rears) where
    abbrev rear : Rear
    rear = slice_index_or rears (length rears - 1 - looked) no_rear

    abbrev there : ℕ
    there = slice_index values looked + (rear.cost - 1)

    module _ (system : System) (groups : List Group) (first : ℕ) (positive : ArePositive system groups) (are : AreValuesFrom system groups first values)
        (known : AreRears system groups rears) where
      best_rear : IsBestCutFrom system groups (first + 1 + looked) rear.pieces rear.cost
      best_rear =
          let place : length groups - 1 - (first + 1 + looked) ≡ length rears - 1 - looked = omega (arith, are.one_a_piece, as_many) in
          subst (λ n. IsBestCutFrom system groups (first + 1 + looked) (slice_index_or rears n no_rear).pieces (slice_index_or rears n no_rear).cost) place
          (known.each (first + 1 + looked) (omega (arith, lt, are.one_a_piece, as_many)) (omega (arith, are.one_a_piece, as_many)))

      next : first + 1 + looked + 1 ≡ first + 1 + (looked + 1)
      next = omega arith

      value : IsValue system (part groups first (first + 1 + looked)) (slice_index values looked)
      value = are.each looked (omega (arith, lt, as_many))

      there_best : there < cost → IsBestBelow system groups first (first + 1 + (looked + 1)) (pieces_behind rears first looked) there
      there_best less =
          subst (λ n. IsBestBelow system groups first n (pieces_behind rears first looked) there) next
          (subst (λ (list : List ℕ). IsBestBelow system groups first (first + 1 + looked + 1) list there) (behind_some first looked lt)
          (best_there system groups positive first (first + 1 + looked) (slice_index values looked) value rear.pieces rear.cost best_rear (omega arith)
          (pieces_behind rears first size) cost (old.best system groups first positive are known) less))

      before_best : cost ≤ there → IsBestBelow system groups first (first + 1 + (looked + 1)) (pieces_behind rears first size) cost
      before_best within =
          subst (λ n. IsBestBelow system groups first n (pieces_behind rears first size) cost) next
          (best_before system groups positive first (first + 1 + looked) (slice_index values looked) value rear.pieces rear.cost best_rear (omega arith)
          (pieces_behind rears first size) cost (old.best system groups first positive are known) within)

    pub front_there : there < cost → IsBestFront rears values (looked + 1) looked there
    front_there less = record { best = λ system groups first positive are known. there_best system groups first positive are known less }

    pub front_before : cost ≤ there → IsBestFront rears values (looked + 1) size cost
    front_before within = record { best = λ system groups first positive are known. before_best system groups first positive are known within }

  module _ (looked : ℕ) (old new : Front) (kept : IsFrontSoFar rears values looked old) (lt : looked < length rears) (rest cost : ℕ)
      (rest_is : rest ≡ (slice_index_or rears (length rears - 1 - looked) no_rear).cost) (some : 1 ≤ slice_index values looked)
      (cost_is : cost ≡ min (slice_index values looked + (rest - 1)) 18446744073709551615) where
    -- a lesser cost isn't cut off at the end of 64 bits
    pub front_taken : cost < old.cost → new ≡ record { size = looked; cost = cost } → IsFrontSoFar rears values (looked + 1) new
    front_taken less is =
        let exact : slice_index values looked + ((slice_index_or rears (length rears - 1 - looked) no_rear).cost - 1) ≡ cost
        = omega (arith, cost_is, rest_is, less, kept.fits) in
        subst (IsFrontSoFar rears values (looked + 1)) (sym is) (record {
          within = omega (arith, lt);
          some = omega (arith, exact, some);
          fits = omega (arith, less, kept.fits);
          best = subst (λ n. IsBestFront rears values (looked + 1) looked n) exact
              (front_there looked old.size old.cost kept.best lt (omega (arith, exact, less)));
        })

    pub front_kept : old.cost ≤ cost → new ≡ old → IsFrontSoFar rears values (looked + 1) new
    front_kept within is = subst (IsFrontSoFar rears values (looked + 1)) (sym is) (record {
      within = kept.within;
      some = kept.some;
      fits = kept.fits;
      best = front_before looked old.size old.cost kept.best lt (omega (arith, within, cost_is, rest_is));
    })

  pub front_best : (size cost : ℕ) → IsBestFront rears values (length rears) size cost
      → (system : System) (groups : List Group) (first : ℕ) → ArePositive system groups → AreValuesFrom system groups first values → AreRears system groups rears
      → IsBestCutFrom system groups first (pieces_behind rears first size) cost
  front_best size cost old system groups first positive are known =
      let end : first + 1 + length rears ≡ length groups = omega (arith, are.one_a_piece, as_many) in
      best_at_end system groups positive first (pieces_behind rears first size) cost
      (subst (λ n. IsBestBelow system groups first n (pieces_behind rears first size) cost) end (old.best system groups first positive are known))

-- ---- all rear parts

-- the best cuts of the last rear parts with one more
module _ (system : System) (groups : List Group) (rears : List Rear) (rear : Rear) (fewer : length rears < length groups) where
  more_costs : CostSome rears → 1 ≤ rear.cost → CostSome (rears ++ rear ∷ [])
  more_costs costs some k lt = elim (cases_lt k (length rears)) [
    | inl before ↦ subst (λ (r : Rear). 1 ≤ r.cost) (sym (get_or_append_left rears (rear ∷ []) no_rear k before)) (costs k before)
    | inr not ↦
        let last : length rears ≡ k = omega (arith, not, lt, length_push rears rear) in
        subst (λ (r : Rear). 1 ≤ r.cost) (sym (get_or_push rears rear no_rear k last)) some
  ]

  pub pushed_costs : (pushed : List Rear) → pushed ≡ rears ++ rear ∷ [] → CostSome rears → 1 ≤ rear.cost → CostSome pushed
  pushed_costs pushed is costs some = subst CostSome (sym is) (more_costs costs some)

  abbrev IsBest : ℕ → Rear → Type 0
  IsBest first r = IsBestCutFrom system groups first r.pieces r.cost

  -- as the code reads the list
  pub best_by_slice : (slice : List Rear) → slice ≡ rears → IsBest (length groups - 1 - length slice) rear → IsBest (length groups - 1 - length rears) rear
  best_by_slice slice is = subst (λ (list : List Rear). IsBest (length groups - 1 - length list) rear) is

  more_rears : AreRears system groups rears → IsBest (length groups - 1 - length rears) rear → AreRears system groups (rears ++ rear ∷ [])
  more_rears known best = record { few = omega (arith, length_push rears rear, fewer); each = each }
    where
      each : (first : ℕ) → first < length groups → length groups ≤ first + length (rears ++ rear ∷ []) → IsBest first (rear_at (rears ++ rear ∷ []) (length groups) first)
      each first lt within = elim (cases_lt (length groups - 1 - length rears) first) [
        | inl after ↦
            let before : length groups - 1 - first < length rears = omega (arith, fewer, after, lt) in
            subst (IsBest first) (sym (get_or_append_left rears (rear ∷ []) no_rear (length groups - 1 - first) before))
            (known.each first lt (omega (arith, fewer, after)))
        | inr not ↦
            let same : length groups - 1 - length rears ≡ first = omega (arith, not, within, length_push rears rear, fewer) in
            let last : length rears ≡ length groups - 1 - first = omega (arith, same, fewer) in
            subst (IsBest first) (sym (get_or_push rears rear no_rear (length groups - 1 - first) last)) (subst (λ n. IsBest n rear) same best)
      ]

  pub pushed_rears : (pushed : List Rear) → pushed ≡ rears ++ rear ∷ [] → AreRears system groups rears
      → IsBest (length groups - 1 - length rears) rear → AreRears system groups pushed
  pushed_rears pushed is known best = subst (AreRears system groups) (sym is) (more_rears known best)

-- the last that was found is the best cut of the whole chain
pub all_rears : (system : System) (groups : List Group) (rears : List Rear) → AreRears system groups rears → length groups ≤ length rears
    → 0 < length groups → (rear : Rear) → rear ≡ slice_index_or rears (length rears - 1) rear → IsBestCut system groups rear.pieces rear.cost
all_rears system groups rears known all some rear at =
    let within : length rears - 1 < length rears = omega (arith, all, some) in
    let place : length groups - 1 - 0 ≡ length rears - 1 = omega (arith, known.few, all) in
    let found : rear_at rears (length groups) 0 ≡ rear
    = ap (λ n. slice_index_or rears n no_rear) place ∙ get_or_default rears (length rears - 1) no_rear rear within ∙ sym at in
    subst (λ (r : Rear). IsBestCut system groups r.pieces r.cost) found (known.each 0 some (omega (arith, all)))
