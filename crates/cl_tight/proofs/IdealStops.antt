-- All timed periodic groups of a chain keep their phase, where the hyperperiod has few arrivals of the first of them: it
-- stands among the phases that are kept so far, whose hyperperiod is no greater.
use Rattle.std.proofs.Common.{◌≡◌, ℕ, zero, suc, ◌*◌, ◌/◌, ◌<◌, ◌≤◌, Bool, true, false, cond, ◌&&◌, not, List, [], ◌∷◌, length, refl, sym, ap, subst, ◌∙◌, arith, inl, inr}
use Rattle.std.specs.Prelude.{pos, ◌-ℤ◌, ◌==◌, nat_le, All, Any, Option, Some, None}
use Rattle.std.specs.Int.{◌∣◌}
use Rattle.std.proofs.Math.Nat.{mul-le-mul_right}
use Rattle.std.proofs.lemmas.Bool.{cases_lt, cond_both, eqb-true, le-leb}
use Rattle.std.proofs.lemmas.Int.{ints}
use Rattle.std.proofs.lemmas.List.Elements.{All-head, All-tail, All-cons, All-nil}
use Rattle.std.proofs.lemmas.List.Folds.{list_any-from_Any}
use Rattle.std.proofs.lemmas.Nat.Gcd.{le_of_dvd}
use Rattle.cl_model.specs.{declared.group.Group.Group, Groups.group_at, Kinds.is_timed, Timing.greatest_distance}
use Rattle.cl_runs.specs.TaskTiming.{System, timing_at}
use Rattle.cl_stim.specs.{declared.phase.Phase.Phase, Phase.{arrivals_in, phase_of}, Multiples.hyperperiod_of}
use Rattle.cl_stim.proofs.Hyperperiods.{HasPeriod, Divides, hyperperiod_least}
use Rattle.cl_hop.specs.{Hops.{saves, lag}, declared.group_timing.GroupTiming.GroupTiming}
use Rattle.cl_exact.specs.Hyperperiod.{period_of}
use Rattle.cl_phase.specs.{declared.{pace.{TheConstants.MOST_ARRIVALS, Pace.TheVariants.Kept}, stop.Stop.Stop}, Kept.{come_round_soon, phase_beside, kept_with, pace_with}, Walks.pace_at, TightBounds.{lag_to_next, stops_beside, stops_of}}
use Rattle.cl_tight.specs.ExactBounds.{IsTimedTiming}
use Rattle.cl_tight.proofs.{IdealSteps.{ideal_phase, IsIdealLag}, IdealWalks.IsPeriodicGroup}

-- a timed periodic group whose period divides so many ticks
pub record IsTurning (system : System) (ticks : ℕ) (group : Group) : Type 0 where
  pub periodic : IsPeriodicGroup system group
  pub timed : is_timed (timing_at system group.task).access ≡ true
  pub divides : period_of system group ∣ ticks

-- the stops of periodic groups that all keep their phase
stop_of : System → (timing : Group → GroupTiming) → Group → List Group → Stop
stop_of system timing group later = record { pace = Kept (ideal_phase system group); lag = lag_to_next timing group later }

pub ideal_stops : System → (timing : Group → GroupTiming) → List Group → List Stop
ideal_stops system timing [] = []
ideal_stops system timing (group ∷ later) = stop_of system timing group later ∷ ideal_stops system timing later

module _ (system : System) (timing : Group → GroupTiming) where
  pub paces : (groups : List Group) (place : ℕ) → place < length groups
      → pace_at (ideal_stops system timing groups) place ≡ Kept (ideal_phase system (group_at groups place))
  unfolding ideal_stops stop_of
  paces [] place within = absurd (omega (arith, within))
  paces (group ∷ later) zero within = refl
  paces (group ∷ later) (suc place) within = paces later place (omega (arith, within))

-- ---- the lags of timed groups

-- a timed writer saves nothing
saves_nothing : (same higher timed other : Bool) → timed ≡ true → (same && (higher && (not timed && not other))) ≡ false
saves_nothing same higher true other is = both same (both higher refl)
  where
    both : (b : Bool) {c : Bool} → c ≡ false → (b && c) ≡ false
    both true is = is
    both false is = refl
saves_nothing same higher false other is = cc

module _ (system : System) (writer reader : Group) (one other : GroupTiming) (is_one : IsTimedTiming system writer one)
    (is_other : IsTimedTiming system reader other) (timed : is_timed (timing_at system writer.task).access ≡ true) where
  never_saves : saves one other ≡ false
  never_saves = saves_nothing _ _ _ _ (is_one.of_group.is_timed ∙ timed)

  same_task : one.task ≡ other.task → writer.task ≡ reader.task
  same_task same = sym is_one.of_group.task ∙ same ∙ is_other.of_group.task

  pub timed_lag : IsIdealLag system writer reader (lag one other)
  timed_lag =
      cond_both (one.task == other.task) (pos 1)
      (cond (saves one other) (pos one.jitter -ℤ pos other.read) (pos one.write -ℤ pos other.read)) (IsIdealLag system writer reader)
      (λ same. inr (same_task (eqb-true one.task other.task same), refl))
      (λ _. inl (ap (λ b. cond b (pos one.jitter -ℤ pos other.read) (pos one.write -ℤ pos other.read)) never_saves ∙ whole))
    where
      whole : (pos one.write -ℤ pos other.read) ≡ pos (timing_at system writer.task).deadline
      whole = omega (arith, ints, is_one.write, is_other.read)

-- ---- which groups keep their phase

-- few of what is so many times within a limit
few_within : (ticks period arrivals most : ℕ) → arrivals * period ≡ ticks → ticks ≤ most * period → 1 ≤ period → arrivals ≤ most
few_within ticks period arrivals most whole within some = elim (cases_lt most arrivals) [
  | inl more ↦
      let far : suc most * period ≤ arrivals * period = mul-le-mul_right period more in
      absurd (omega (arith, far, whole, within, some))
  | inr le ↦ le
]

module _ (system : System) (ticks : ℕ) (some : 1 ≤ ticks) (first : Group) (turning : IsTurning system ticks first)
    (within : ticks ≤ MOST_ARRIVALS * period_of system first) where
  -- phases that turn in these ticks, the first group's among them
  record AreTurning (phases : List Phase) : Type 0 where
    positive : All HasPeriod phases
    divide : All (Divides ticks) phases
    has_first : Any (λ phase. phase ≡ ideal_phase system first) phases

  some_period : (group : Group) → IsTurning system ticks group → 1 ≤ period_of system group
  some_period group is = omega (arith, is.periodic.some_deadline, is.periodic.soon)

  -- come round soon: their hyperperiod has few arrivals of the first
  soon : (phases : List Phase) → AreTurning phases → come_round_soon phases ≡ true
  soon phases are =
      let place = are.has_first in
      let period : ℕ = period_of system first in
      let hyper : ℕ = hyperperiod_of phases in
      let least = le_of_dvd some (hyperperiod_least phases are.positive ticks are.divide) in
      let few : hyper / period * 1 ≤ MOST_ARRIVALS = few_of hyper (omega (arith, least)) in
      list_any-from_Any (λ phase. nat_le (arrivals_in hyper phase) MOST_ARRIVALS) phases
      (place.0, place.1, place.2, place.3, subst (λ phase. nat_le (arrivals_in hyper phase) MOST_ARRIVALS ≡ true) (sym place.4) (le-leb (hyper / period * 1) MOST_ARRIVALS few))
    where
      few_of : (hyper : ℕ) → hyper ≤ ticks → hyper / period_of system first * 1 ≤ MOST_ARRIVALS
      few_of hyper le =
          let rest : hyper / period_of system first * period_of system first ≤ hyper = omega arith in
          omega (
            arith,
            few_within (hyper / period_of system first * period_of system first) (period_of system first) (hyper / period_of system first) MOST_ARRIVALS refl
                (omega (arith, rest, le, within)) (some_period first turning),
          )

  -- what is kept with one more group
  more_turning : (phases : List Phase) (group : Group) → IsTurning system ticks group → All HasPeriod phases → All (Divides ticks) phases
      → Any (λ phase. phase ≡ ideal_phase system first) (ideal_phase system group ∷ phases) → AreTurning (ideal_phase system group ∷ phases)
  more_turning phases group is positive divide has = record {
    positive = All-cons HasPeriod (ideal_phase system group) phases (some_period group is) positive;
    divide = All-cons (Divides ticks) (ideal_phase system group) phases is.divides divide;
    has_first = has;
  }

  module _ (timing : Group → GroupTiming) where
    -- so a group keeps its phase beside them
    keeps : (phases : List Phase) (group : Group) (later : List Group) → IsTurning system ticks group → AreTurning (ideal_phase system group ∷ phases)
        → stops_beside system timing phases (group ∷ later)
        ≡ stop_of system timing group later ∷ stops_beside system timing (ideal_phase system group ∷ phases) later
    unfolding stops_beside stop_of
    keeps phases group later is are =
        let kind = (timing_at system group.task).pattern in
        let phase : phase_of kind ≡ Some (ideal_phase system group) = ap phase_of is.periodic.periodic in
        let kept : phase_beside phases (phase_of kind) ≡ Some (ideal_phase system group) = ap (phase_beside phases) phase
        ∙ ap (λ b. cond b (Some (ideal_phase system group)) None) (soon (ideal_phase system group ∷ phases) are) in
        ap (λ (phase : Option Phase).
        record { pace = pace_with (greatest_distance kind) phase; lag = lag_to_next timing group later }
        ∷ stops_beside system timing (kept_with phases phase) later) kept

    all_keep : (phases : List Phase) (groups : List Group) → AreTurning phases → All (IsTurning system ticks) groups
        → stops_beside system timing phases groups ≡ ideal_stops system timing groups
    unfolding stops_beside ideal_stops
    all_keep phases [] are all = refl
    all_keep phases (group ∷ later) are all =
        let is = All-head (IsTurning system ticks) group later all in
        let place = are.has_first in
        let more = more_turning phases group is are.positive are.divide (suc place.0, place.1, omega (arith, place.2), place.3, place.4) in
        keeps phases group later is more
        ∙ ap (λ rest. stop_of system timing group later ∷ rest) (all_keep (ideal_phase system group ∷ phases) later more (All-tail (IsTurning system ticks) group later all))

    pub all_keep_phase : (later : List Group) → All (IsTurning system ticks) (first ∷ later) → stops_of system timing (first ∷ later) ≡ ideal_stops system timing (first ∷ later)
    unfolding ideal_stops
    all_keep_phase later all =
        let one = more_turning [] first turning (All-nil HasPeriod) (All-nil (Divides ticks)) (0, ideal_phase system first, omega arith, refl, refl) in
        keeps [] first later turning one
        ∙ ap (λ rest. stop_of system timing first later ∷ rest) (all_keep (ideal_phase system first ∷ []) later one (All-tail (IsTurning system ticks) first later all))
