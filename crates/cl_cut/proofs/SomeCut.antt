-- Each chain of a valid model that isn't late has a best cut.
use Rattle.std.proofs.Common.{◌≡◌, ℕ, zero, suc, ◌+◌, ◌-◌, ◌<◌, ◌≤◌, Bool, true, false, inl, inr, None, List, [], ◌∷◌, length, refl, sym, ◌∙◌, subst, arith}
use Rattle.std.proofs.lemmas.Bool.{cases_lt, false≢true}
use Rattle.std.specs.Prelude.{All}
use Rattle.cl_model.specs.{declared.{limits.TheConstants.MOST_STEPS, group.Group.Group, model.SystemModel.SystemModel}, Groups.{groups_at, IsGroupOf}, Validity.IsValid}
use Rattle.cl_model.proofs.GroupFacts.{groups_at_are, groups_at_few, groups_at_some}
use Rattle.cl_runs.specs.{TaskTiming.System, SystemOf.system_of}
use Rattle.cl_runs.proofs.ModelSystem.{system_sound}
use Rattle.cl_bound.specs.Bounds.{bounds_of}
use Rattle.cl_exact.specs.TimedPeriodic.{are_timed_periodic}
use Rattle.cl_exact.proofs.SomeExact.{exact_of_groups_exist}
use Rattle.cl_analyse.proofs.SafeFindings.{chain_settled}
use Rattle.cl_cut.specs.{Values.{part, IsValue}, Cuts.{IsBestCutFrom, HasBestCut}, CutAnswers.late_task_of, Inner.Rears.ArePositive}
use Rattle.cl_cut.proofs.{BestCuts.{IsBestBelow, best_alone, best_there, best_before, best_at_end}, ChainValues.positive, Parts.{length-part, All-part}, ValueFacts.past_value}

-- groups have a value
record HasValue (system : System) (groups : List Group) : Type 0 where
  value : ℕ
  is_value : IsValue system groups value

-- ---- the best of all

record HasBestFrom (system : System) (groups : List Group) (first : ℕ) : Type 0 where
  pieces : List ℕ
  cost : ℕ
  best : IsBestCutFrom system groups first pieces cost

record HasBestBelow (system : System) (groups : List Group) (first bound : ℕ) : Type 0 where
  pieces : List ℕ
  cost : ℕ
  best : IsBestBelow system groups first bound pieces cost

module _ (system : System) (groups : List Group) (all_positive : ArePositive system groups)
    (valued : (first next : ℕ) → first < next → next ≤ length groups → HasValue system (part groups first next)) where
  abbrev end : ℕ
  end = length groups

  better : (first bound : ℕ) → first < bound → bound < end → HasBestFrom system groups bound → HasBestBelow system groups first bound
      → HasBestBelow system groups first (bound + 1)
  better first bound after within rear old =
      let piece = valued first bound after (omega arith) in
      elim (cases_lt (piece.value + (rear.cost - 1)) old.cost) [
        | inl less ↦ record {
          pieces = first ∷ rear.pieces;
          cost = piece.value + (rear.cost - 1);
          best = best_there system groups all_positive first bound piece.value piece.is_value rear.pieces rear.cost rear.best after
              old.pieces old.cost old.best less;
        }
        | inr not ↦ record {
          pieces = old.pieces;
          cost = old.cost;
          best = best_before system groups all_positive first bound piece.value piece.is_value rear.pieces rear.cost rear.best after
              old.pieces old.cost old.best not;
        }
      ]

  looked : (first : ℕ) → first < end → ((bound : ℕ) → first < bound → bound < end → HasBestFrom system groups bound)
      → (k : ℕ) → first + 1 + k ≤ end → HasBestBelow system groups first (first + 1 + k)
  looked first within rears zero le =
      let whole = valued first end within (omega arith) in
      let same : first + 1 ≡ first + 1 + 0 = omega arith in
      record {
        pieces = first ∷ [];
        cost = whole.value;
        best = subst (λ n. IsBestBelow system groups first n (first ∷ []) whole.value) same
            (best_alone system groups all_positive first whole.value within whole.is_value);
      }
  looked first within rears (suc k) le =
      let next : first + 1 + k + 1 ≡ first + 1 + suc k = omega arith in
      subst (HasBestBelow system groups first) next
      (better first (first + 1 + k) (omega arith) (omega arith) (rears (first + 1 + k) (omega arith) (omega arith)) (looked first within rears k (omega arith)))

  rears : (fuel first : ℕ) → end ≤ first + fuel → first < end → HasBestFrom system groups first
  rears zero first enough within = absurd (omega arith)
  rears (suc fuel) first enough within =
      let found = looked first within (λ bound after lt. rears fuel bound (omega arith) lt) (end - first - 1) (omega arith) in
      let all : first + 1 + (end - first - 1) ≡ end = omega arith in
      record {
        pieces = found.pieces;
        cost = found.cost;
        best = best_at_end system groups all_positive first found.pieces found.cost
            (subst (λ n. IsBestBelow system groups first n found.pieces found.cost) all found.best);
      }

  some_best : 0 < end → HasBestCut system groups
  some_best some =
      let found = rears end 0 (omega arith) some in
      record { pieces = found.pieces; cost = found.cost; is_best = found.best }

-- ---- the values of pieces

module _ (model : SystemModel) (valid : IsValid model) (groups : List Group) (of_tasks : All (IsGroupOf model) groups) (some : 0 < length groups)
    (few : length groups ≤ MOST_STEPS) where
  some_value : HasValue (system_of model) groups
  some_value = by_kind (are_timed_periodic (system_of model) groups) refl
    where
      by_kind : (timed : Bool) → are_timed_periodic (system_of model) groups ≡ timed → HasValue (system_of model) groups
      by_kind false is = record {
        value = (bounds_of (system_of model) groups).reaction;
        is_value = inr (record { not_exact = λ timed within. absurd (false≢true (sym is ∙ timed)); value_is = refl });
      }
      by_kind true is = elim (exact_of_groups_exist model valid groups (record { some = some; few = few; of_tasks = of_tasks; timed_periodic = is })) [
        | inl (exact, are, within) ↦ record {
          value = exact.reaction.length;
          is_value = inl (record { timed = is; within = within; exact = exact; are_exact = are; reaction_is = refl });
        }
        | inr past ↦ record {
          value = (bounds_of (system_of model) groups).reaction;
          is_value = past_value (system_of model) groups (bounds_of (system_of model) groups).reaction past refl;
        }
      ]

module _ (model : SystemModel) (valid : IsValid model) (chain : ℕ) (is_chain : chain < length model.chains) where
  abbrev groups : List Group
  groups = groups_at model chain

  piece_value : (first next : ℕ) → first < next → next ≤ length groups → HasValue (system_of model) (part groups first next)
  piece_value first next up within =
      let count = length-part groups first next within in
      some_value model valid (part groups first next) (All-part groups first next (IsGroupOf model) (groups_at_are model valid chain))
      (omega (arith, count, up)) (omega (arith, count, within, groups_at_few model valid chain is_chain))

  pub best_exists : late_task_of model chain ≡ None → HasBestCut (system_of model) groups
  best_exists none =
      some_best (system_of model) groups
      (positive (system_of model) (system_sound model valid) groups (chain_settled model valid chain none)) piece_value
      (groups_at_some model valid chain is_chain)
