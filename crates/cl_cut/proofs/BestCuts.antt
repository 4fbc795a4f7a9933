-- The best cuts of rear parts, found one first piece after the other.
use Rattle.std.proofs.Common.{◌≡◌, ℕ, ◌+◌, ◌-◌, ◌<◌, ◌≤◌, inl, inr, List, [], ◌∷◌, length, sym, subst, arith}
use Rattle.std.specs.Prelude.{slice_index}
use Rattle.std.proofs.lemmas.Bool.{cases_lt}
use Rattle.cl_model.specs.declared.group.Group.{Group}
use Rattle.cl_runs.specs.TaskTiming.{System}
use Rattle.cl_cut.specs.{Values.{part, IsValue}, Cuts.{IsCutFrom, IsCost, IsNotAfter, IsBestCutFrom, IsBestCut}, Inner.Rears.ArePositive}
use Rattle.cl_cut.proofs.{Dictionary.{not_after_rest, not_after_less, not_after_empty, same_list}, SafeCuts.{cut_rest, cut_begins}, CutCosts.{value_once, cost_some, cost_parts, cut_joined, cost_joined, cut_alone, cost_alone, alone_costs}}

-- the first group of the second piece, or 0 where there is none
abbrev pub second : List ℕ → ℕ
second pieces = slice_index pieces 1

-- a best cut from a group on, of those whose second piece begins before a group or that have none
pub record IsBestBelow (system : System) (groups : List Group) (first bound : ℕ) (pieces : List ℕ) (cost : ℕ) : Type 0 where
  pub is_cut : IsCutFrom groups first pieces
  pub costs : IsCost system groups pieces cost
  pub below : second pieces < bound
  pub least : (others : List ℕ) (other : ℕ) → IsCutFrom groups first others → IsCost system groups others other → second others < bound → cost ≤ other
  pub first_of : (others : List ℕ) → IsCutFrom groups first others → IsCost system groups others cost → second others < bound → IsNotAfter pieces others

module _ (system : System) (groups : List Group) (positive : ArePositive system groups) (first : ℕ) where
  -- at the start: the whole part as one piece
  alone_only : (f cost value : ℕ) → f ≡ first → IsCost system groups (f ∷ []) cost → IsValue system (part groups first (length groups)) value → cost ≡ value
  alone_only f cost value same costs is_value = value_once system (part groups first (length groups)) cost value
      (subst (λ n. IsValue system (part groups n (length groups)) cost) same (alone_costs system groups f cost costs)) is_value

  pub best_alone : (value : ℕ) → first < length groups → IsValue system (part groups first (length groups)) value
      → IsBestBelow system groups first (first + 1) (first ∷ []) value
  best_alone value within is_value = record {
    is_cut = cut_alone groups first within;
    costs = cost_alone system groups first value is_value;
    below = omega arith;
    least = least;
    first_of = first_of;
  }
    where
      least : (others : List ℕ) (other : ℕ) → IsCutFrom groups first others → IsCost system groups others other → second others < first + 1 → value ≤ other
      least [] other cut costs below = absurd (omega (arith, cut.some))
      least (f ∷ []) other cut costs below = omega (arith, alone_only f other value cut.begins costs is_value)
      least (f ∷ g ∷ others) other cut costs below = absurd (omega (arith, below, cut.begins, cut.rising 0 (omega arith)))

      first_of : (others : List ℕ) → IsCutFrom groups first others → IsCost system groups others value → second others < first + 1 → IsNotAfter (first ∷ []) others
      first_of [] cut costs below = absurd (omega (arith, cut.some))
      first_of (f ∷ others) cut costs below =
          subst (λ n. IsNotAfter (first ∷ []) (n ∷ others)) (sym cut.begins) (not_after_rest first [] others (not_after_empty others))

  -- one more group at which the second piece may begin
  module _ (bound value : ℕ) (is_value : IsValue system (part groups first bound) value) (rear : List ℕ) (rest : ℕ)
      (best : IsBestCutFrom system groups bound rear rest) (after : first < bound) where
    some : 1 ≤ rest
    some = cost_some system groups positive bound rear rest best.is_cut best.costs

    -- what a cut with its second piece there costs
    at_least : (f g : ℕ) (others : List ℕ) (other : ℕ) → g ≡ bound → IsCutFrom groups first (f ∷ g ∷ others) → IsCost system groups (f ∷ g ∷ others) other
        → value + (rest - 1) ≤ other
    at_least f g others other same cut costs =
        let parts = cost_parts system groups positive first f g others other cut costs in
        let same_value = value_once system (part groups first bound) parts.value value
        (subst (λ n. IsValue system (part groups n bound) parts.value) cut.begins (subst (λ n. IsValue system (part groups f n) parts.value) same parts.is_value)) is_value in
        omega (
          arith,
          some,
          same_value,
          parts.sum_is,
          best.least (g ∷ others) parts.rest (subst (λ n. IsCutFrom groups n (g ∷ others)) same (cut_rest groups first f g others cut)) parts.rest_costs,
        )

    least_rest : (f g : ℕ) (others : List ℕ) → g ≡ bound → IsCutFrom groups first (f ∷ g ∷ others) → IsCost system groups (f ∷ g ∷ others) (value + (rest - 1))
        → IsNotAfter rear (g ∷ others)
    least_rest f g others same cut costs =
        let parts = cost_parts system groups positive first f g others (value + (rest - 1)) cut costs in
        let same_value = value_once system (part groups first bound) parts.value value
        (subst (λ n. IsValue system (part groups n bound) parts.value) cut.begins (subst (λ n. IsValue system (part groups f n) parts.value) same parts.is_value)) is_value in
        let same_rest : parts.rest ≡ rest = omega (arith, some, same_value, parts.sum_is) in
        best.first_of (g ∷ others) (subst (λ n. IsCutFrom groups n (g ∷ others)) same (cut_rest groups first f g others cut))
        (subst (λ n. IsCost system groups (g ∷ others) n) same_rest parts.rest_costs)

    -- it is better
    pub best_there : (pieces : List ℕ) (cost : ℕ) → IsBestBelow system groups first bound pieces cost → value + (rest - 1) < cost
        → IsBestBelow system groups first (bound + 1) (first ∷ rear) (value + (rest - 1))
    best_there pieces cost old less = record {
      is_cut = cut_joined groups first bound rear after best.is_cut;
      costs = cost_joined system groups first bound rear value rest is_value best.is_cut best.costs some;
      below = omega (arith, best.is_cut.begins);
      least = least;
      first_of = first_of;
    }
      where
        least : (others : List ℕ) (other : ℕ) → IsCutFrom groups first others → IsCost system groups others other → second others < bound + 1
            → value + (rest - 1) ≤ other
        least [] other cut costs below = absurd (omega (arith, cut.some))
        least (f ∷ []) other cut costs below = omega (arith, less, old.least (f ∷ []) other cut costs (omega (arith, after)))
        least (f ∷ g ∷ others) other cut costs below = elim (cases_lt g bound) [
          | inl before ↦ omega (arith, less, old.least (f ∷ g ∷ others) other cut costs before)
          | inr not ↦ at_least f g others other (omega (arith, not, below)) cut costs
        ]

        first_of : (others : List ℕ) → IsCutFrom groups first others → IsCost system groups others (value + (rest - 1)) → second others < bound + 1
            → IsNotAfter (first ∷ rear) others
        first_of [] cut costs below = absurd (omega (arith, cut.some))
        first_of (f ∷ []) cut costs below = absurd (omega (arith, less, old.least (f ∷ []) (value + (rest - 1)) cut costs (omega (arith, after))))
        first_of (f ∷ g ∷ others) cut costs below = elim (cases_lt g bound) [
          | inl before ↦ absurd (omega (arith, less, old.least (f ∷ g ∷ others) (value + (rest - 1)) cut costs before))
          | inr not ↦ subst (λ n. IsNotAfter (first ∷ rear) (n ∷ g ∷ others)) (sym cut.begins)
              (not_after_rest first rear (g ∷ others) (least_rest f g others (omega (arith, not, below)) cut costs))
        ]

    -- it isn't
    comes_first : (pieces : List ℕ) (f g : ℕ) (others : List ℕ) → IsCutFrom groups first pieces → second pieces < bound → f ≡ first → bound ≤ g
        → IsNotAfter pieces (f ∷ g ∷ others)
    comes_first [] f g others cut below same not = not_after_empty (f ∷ g ∷ others)
    comes_first (p ∷ []) f g others cut below same not =
        let one : f ≡ p = omega (arith, same, cut.begins) in
        subst (λ n. IsNotAfter (p ∷ []) (n ∷ g ∷ others)) (sym one) (not_after_rest p [] (g ∷ others) (not_after_empty (g ∷ others)))
    comes_first (p ∷ q ∷ pieces) f g others cut below same not =
        let one : f ≡ p = omega (arith, same, cut.begins) in
        subst (λ n. IsNotAfter (p ∷ q ∷ pieces) (n ∷ g ∷ others)) (sym one)
        (not_after_rest p (q ∷ pieces) (g ∷ others) (not_after_less q g pieces others (omega (arith, below, not))))

    pub best_before : (pieces : List ℕ) (cost : ℕ) → IsBestBelow system groups first bound pieces cost → cost ≤ value + (rest - 1)
        → IsBestBelow system groups first (bound + 1) pieces cost
    best_before pieces cost old within = record {
      is_cut = old.is_cut;
      costs = old.costs;
      below = omega (arith, old.below);
      least = least;
      first_of = first_of;
    }
      where
        least : (others : List ℕ) (other : ℕ) → IsCutFrom groups first others → IsCost system groups others other → second others < bound + 1 → cost ≤ other
        least [] other cut costs below = absurd (omega (arith, cut.some))
        least (f ∷ []) other cut costs below = old.least (f ∷ []) other cut costs (omega (arith, after))
        least (f ∷ g ∷ others) other cut costs below = elim (cases_lt g bound) [
          | inl before ↦ old.least (f ∷ g ∷ others) other cut costs before
          | inr not ↦ omega (arith, within, at_least f g others other (omega (arith, not, below)) cut costs)
        ]

        first_of : (others : List ℕ) → IsCutFrom groups first others → IsCost system groups others cost → second others < bound + 1 → IsNotAfter pieces others
        first_of [] cut costs below = absurd (omega (arith, cut.some))
        first_of (f ∷ []) cut costs below = old.first_of (f ∷ []) cut costs (omega (arith, after))
        first_of (f ∷ g ∷ others) cut costs below = elim (cases_lt g bound) [
          | inl before ↦ old.first_of (f ∷ g ∷ others) cut costs before
          | inr not ↦ comes_first pieces f g others old.is_cut old.below cut.begins not
        ]

  -- when all groups were looked at
  pub best_at_end : (pieces : List ℕ) (cost : ℕ) → IsBestBelow system groups first (length groups) pieces cost → IsBestCutFrom system groups first pieces cost
  best_at_end pieces cost old = record {
    is_cut = old.is_cut;
    costs = old.costs;
    least = λ others other cut costs. old.least others other cut costs (all_below others cut);
    first_of = λ others cut costs. old.first_of others cut costs (all_below others cut);
  }
    where
      all_below : (others : List ℕ) → IsCutFrom groups first others → second others < length groups
      all_below [] cut = absurd (omega (arith, cut.some))
      all_below (f ∷ []) cut = omega (arith, cut_begins groups first (f ∷ []) cut)
      all_below (f ∷ g ∷ others) cut = cut_begins groups g (g ∷ others) (cut_rest groups first f g others cut)

-- there is but one best cut
module _ (system : System) (groups : List Group) (one other : List ℕ) (cost less : ℕ) (first : IsBestCut system groups one cost)
    (second_one : IsBestCut system groups other less) where
  pub one_cost : cost ≡ less
  one_cost = omega (arith, first.least other less second_one.is_cut second_one.costs, second_one.least one cost first.is_cut first.costs)

  pub one_best : one ≡ other
  one_best = same_list one other
      (first.first_of other second_one.is_cut (subst (λ n. IsCost system groups other n) (sym one_cost) second_one.costs))
      (second_one.first_of one first.is_cut (subst (λ n. IsCost system groups one n) one_cost first.costs))
