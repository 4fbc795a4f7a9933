-- The tight bounds of a chain are its exact lengths, by a rule, exactly where its tasks are all timed and periodic and
-- its hyperperiod is within the limit: the common period is the hyperperiod.
use Rattle.std.proofs.Common.{◌≡◌, ℕ, ◌≤◌, Bool, true, false, true≢false, ◌&&◌, nat_le, List, [], ◌∷◌, fold, refl, sym, ap, ◌∙◌, arith}
use Rattle.std.specs.Prelude.{All, IsTrue, ◌↔◌}
use Rattle.std.specs.Int.{◌∣◌}
use Rattle.std.proofs.Math.Nat.{dvd_trans, dvd_refl, one-dvd}
use Rattle.std.proofs.lemmas.Bool.{and_parts}
use Rattle.std.proofs.lemmas.Bool.Decides.{nat_tests}
use Rattle.std.proofs.lemmas.List.Elements.{All-head, All-tail, All-cons, All-nil, All-weaker}
use Rattle.cl_model.specs.{declared.{model.SystemModel.SystemModel, group.Group.Group}, Groups.{groups_at, IsGroupOf}, Validity.IsValid}
use Rattle.cl_model.proofs.GroupFacts.{groups_at_are}
use Rattle.cl_runs.specs.{TaskTiming.{System, IsSound}, SystemOf.system_of}
use Rattle.cl_runs.proofs.ModelSystem.{system_sound}
use Rattle.cl_stim.specs.Multiples.{common_multiple}
use Rattle.cl_stim.proofs.Multiples.{common_positive, common_is_least}
use Rattle.cl_hop.specs.Timings.{IsGroupOfTask}
use Rattle.cl_hop.proofs.ModelGroups.{group_of_system}
use Rattle.cl_exact.specs.{TimedPeriodic.is_timed_periodic_chain, Hyperperiod.{period_of, hyper_limit, IsMultipleOfPeriods, IsHyperperiod, IsWithinLimit}}
use Rattle.cl_exact.proofs.ExactOnce.{hyperperiod_once}
use Rattle.cl_tight.specs.TightFindings.{common_period, has_exact_bounds}

-- ---- the common period is the hyperperiod

module _ (system : System) where
  -- a group whose period isn't 0
  abbrev HasPeriod : Group → Type 0
  HasPeriod group = 1 ≤ period_of system group

  abbrev with_period : (ticks : ℕ) → Group → ℕ
  with_period ticks group = common_multiple (period_of system group) ticks

  -- the least common multiple of some ticks and of the periods of groups
  record IsCommonWith (ticks : ℕ) (groups : List Group) (common : ℕ) : Type 0 where
    before : ticks ∣ common
    multiple : IsMultipleOfPeriods system groups common
    least : (other : ℕ) → ticks ∣ other → IsMultipleOfPeriods system groups other → common ∣ other

  common_with : (groups : List Group) → All HasPeriod groups → (ticks : ℕ) → 1 ≤ ticks → IsCommonWith ticks groups (fold with_period ticks groups)
  common_with [] all ticks some = record {
    before = dvd_refl ticks;
    multiple = All-nil (λ (group : Group). period_of system group ∣ ticks);
    least = λ other first none. first;
  }
  common_with (group ∷ later) all ticks some =
      let period : ℕ = period_of system group in
      let here : 1 ≤ period = All-head HasPeriod group later all in
      let common : ℕ = fold with_period (with_period ticks group) later in
      let is = common_is_least period ticks here some in
      let rest = common_with later (All-tail HasPeriod group later all) (with_period ticks group) (common_positive period ticks here some) in
      record {
        before = dvd_trans ticks is.second rest.before;
        multiple = All-cons (λ (each : Group). period_of system each ∣ common) group later (dvd_trans period is.first rest.before) rest.multiple;
        least = λ other first multiple.
            let Divides : Group → Type 0 = λ (each : Group). period_of system each ∣ other in
            rest.least other (is.least other (All-head Divides group later multiple) first) (All-tail Divides group later multiple);
      }

  common_is_hyperperiod : (groups : List Group) → All HasPeriod groups → IsHyperperiod system groups (common_period system groups)
  unfolding common_period
  common_is_hyperperiod groups all =
      let is = common_with groups all 1 (omega arith) in
      record { multiple = is.multiple; least = λ other multiple. is.least other (one-dvd other) multiple }

  -- groups of a sound system have periods
  has_period : IsSound system → (group : Group) → IsGroupOfTask system group → HasPeriod group
  has_period sound group is =
      let task = sound.tasks group.task is.is_task in omega (arith, task.above_jitter, task.within_distance)

-- ---- the rule

module _ (model : SystemModel) (valid : IsValid model) (chain : ℕ) where
  abbrev system : System
  system = system_of model

  abbrev groups : List Group
  groups = groups_at model chain

  is_hyperperiod : IsHyperperiod system groups (common_period system groups)
  is_hyperperiod = common_is_hyperperiod system groups
      (All-weaker (IsGroupOf model) (HasPeriod system) (λ group is. has_period system (system_sound model valid) group (group_of_system model group is))
      groups (groups_at_are model valid chain))

  within_where : nat_le (common_period system groups) (hyper_limit system groups) ≡ true → IsWithinLimit system groups
  within_where test = record { hyperperiod = common_period system groups; is_hyperperiod = is_hyperperiod; within = grind (arith, nat_tests) }

  le_test : (m n : ℕ) → m ≤ n → nat_le m n ≡ true
  le_test m n le = grind (arith, nat_tests)

  where_within : IsWithinLimit system groups → nat_le (common_period system groups) (hyper_limit system groups) ≡ true
  where_within within =
      let same = hyperperiod_once system groups (common_period system groups) within.hyperperiod is_hyperperiod within.is_hyperperiod in
      le_test (common_period system groups) (hyper_limit system groups) (omega (arith, same, within.within))

  pub exact_where : has_exact_bounds model chain ≡ true → (is_timed_periodic_chain model chain ≡ true) × IsWithinLimit system groups
  unfolding has_exact_bounds
  exact_where is =
      let both = and_parts (is_timed_periodic_chain model chain) (nat_le (common_period system groups) (hyper_limit system groups)) is in
      (both.0, within_where both.1)

  -- by the two tests that tell it
  untrue : (test : Bool) → (test ≡ true → ⊥) → test ≡ false
  untrue true not = absurd (not refl)
  untrue false not = refl

  same_test : (test own : Bool) → IsTrue test ↔ IsWithinLimit system groups → own ≡ nat_le (common_period system groups) (hyper_limit system groups) → test ≡ own
  same_test true own is same = sym (same ∙ where_within (is.0 refl))
  same_test false own is same = sym (untrue own (λ passes. true≢false (sym (is.1 (within_where (sym same ∙ passes))))))

  pub rule_timed : is_timed_periodic_chain model chain ≡ true → (test : Bool) → IsTrue test ↔ IsWithinLimit system groups → test ≡ has_exact_bounds model chain
  unfolding has_exact_bounds
  rule_timed timed test is =
      same_test test (has_exact_bounds model chain) is (ap (λ b. b && nat_le (common_period system groups) (hyper_limit system groups)) timed)

pub rule_other : (model : SystemModel) (chain : ℕ) → is_timed_periodic_chain model chain ≡ false → has_exact_bounds model chain ≡ false
unfolding has_exact_bounds
rule_other model chain timed =
    ap (λ b. b && nat_le (common_period (system_of model) (groups_at model chain)) (hyper_limit (system_of model) (groups_at model chain))) timed
