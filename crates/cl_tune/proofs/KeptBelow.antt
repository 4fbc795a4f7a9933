-- What a percentage keeps, each smaller one keeps: no task is later, no bound greater, and exact lengths are the same.
use Rattle.std.proofs.Common.{◌≡◌, ℕ, ◌<◌, ◌≤◌, inl, inr, Bool, true, false, cond, nat_le, Some, None, List, [], ◌∷◌, length, get_or, map, refl, sym, ap, ◌∙◌, subst, arith}
use Rattle.std.specs.Prelude.{All}
use Rattle.std.proofs.lemmas.Bool.{true≢false, false≢true, cases_lt, leb-true, le-leb}
use Rattle.std.proofs.lemmas.List.{length-map, get_or_past}
use Rattle.std.proofs.lemmas.List.Elements.{All-nil, All-cons, All-head, All-tail}
use Rattle.cl_model.specs.{declared.{chain.{LengthKind.TheVariants.{Reaction, Age, Reduced}, RequirementKind.{RequirementKind, TheVariants.{Length, Delay}}, RequirementDef.RequirementDef}, group.Group.Group, model.SystemModel.SystemModel}, ByNumber.chain_at, Groups.{steps_of, groups_at}}
use Rattle.cl_model.specs.{Ranges.IsInRange, Validity.IsValid}
use Rattle.cl_model.proofs.GroupFacts.{groups_at_are, groups_at_some}
use Rattle.cl_runs.specs.{SystemOf.system_of, Requirements.required_chain}
use Rattle.cl_runs.proofs.ModelSystem.{count_is, system_sound}
use Rattle.cl_hop.specs.{Bounds.{Lengths, AreBoundsOf}, NoGreater.AreNoGreater}
use Rattle.cl_bound.specs.{declared.answer.TaskAnswer.TaskAnswer, Answers.{answer_to, answers_of, is_late, NoneIsLate}, Bounds.{settled_timings, bounds_of}}
use Rattle.cl_bound.specs.declared.answer.TaskAnswer.TheVariants as answers
use Rattle.cl_bound.proofs.SettledChains.{settled_sums}
use Rattle.cl_exact.specs.{TimedPeriodic.is_timed_periodic_chain, ExactLengths.{Witnesses, AreExactLengths}, Hyperperiod.{IsWithinLimit, IsPastLimit}, Rhythms.{rhythm_of, rhythms}}
use Rattle.cl_exact.proofs.{ExactOnce.{exact_unique, within_or_past}, SameRhythms.{same_timed, within_also, past_also, lengths_also}}
use Rattle.cl_analyse.specs.{declared.findings.{ChainAnswer.ChainAnswer, ExactAnswer.{ExactAnswer, TheVariants.{Exact, Past, NotTimed, ChainLate}}, Findings.Findings, Verdict.{Verdict, TheVariants.{Met, Unshown}}}, ChainAnswers.{first_late, chain_answer, chain_answer_of, chain_answers_of}}
use Rattle.cl_analyse.specs.{ChainAnswers.{chain_answer_at, exact_answer_at, IsTimelyAnswer, IsExactAnswer}, Findings.AreFindings, Verdicts.{bound_of_kind, witness_of_kind, limited_bound, limited_length, required_bound, required_exact, verdict_on, verdict_of, is_met}}
use Rattle.cl_analyse.specs.declared.findings.ChainAnswer.TheVariants as bounded
use Rattle.cl_analyse.proofs.{FirstLate.none_late, SafeFindings.{answer_of_chain, chain_settled}, SomeFindings.some_findings}
use Rattle.cl_scale.specs.Scaled.{scaled}
use Rattle.cl_scale.proofs.{BareChains.groups_alike, ScaledValid.{scaled_alike, scaled_valid}}
use Rattle.cl_tune.specs.Headroom.{Keeps}
use Rattle.cl_tune.proofs.{ScaledAnswers.{all_in_time, range_stays}, ScaledBounds.{patterns_same, deadlines_same, accesses_same, bounds_sooner}}

-- ---- groups

groups_kept : (model : SystemModel) (percent c : ℕ) → groups_at (scaled model percent) c ≡ groups_at model c
groups_kept model percent = groups_alike model (scaled model percent) (scaled_alike model percent)

-- ---- verdicts

met_where : (b : Bool) (value : ℕ) → is_met (cond b (Met value) (Unshown (Some value))) ≡ true → b ≡ true
met_where true value is = refl
met_where false value is = absurd (false≢true is)

-- what is met by a bound is met by one that is no greater
bound_met : (most less more : ℕ) → less ≤ more → is_met (verdict_on most None (Some more)) ≡ true → is_met (verdict_on most None (Some less)) ≡ true
bound_met most less more le is =
    let within = leb-true more most (met_where (nat_le more most) more is) in
    ap (λ b. is_met (cond b (Met less) (Unshown (Some less)))) (le-leb less most (omega (arith, le, within)))

kind_less : (kind : RequirementKind) (one other : Lengths) → AreNoGreater one other → limited_bound kind one ≤ limited_bound kind other
kind_less (Length Reaction) one other less = less.reaction
kind_less (Length Age) one other less = less.age
kind_less (Length Reduced) one other less = less.reduced
kind_less Delay one other less = less.delay

-- what is met by exact lengths, or where none is found by a bound, is met by the same ones and a bound that is no greater
both_exact : (kind : RequirementKind) (most : ℕ) (lengths others : Witnesses) (one other : Lengths) → AreNoGreater one other → others ≡ lengths
    → is_met (verdict_on most (limited_length kind lengths) (Some (limited_bound kind other))) ≡ true
    → is_met (verdict_on most (limited_length kind others) (Some (limited_bound kind one))) ≡ true
both_exact (Length kind) most lengths others one other less same met =
    ap (λ (l : Witnesses). is_met (verdict_on most (Some (witness_of_kind kind l).length) (Some (bound_of_kind kind one)))) same ∙ met
both_exact Delay most lengths others one other less same met = bound_met most one.delay other.delay less.delay met

all_met : (one other : RequirementDef → Verdict) → ((r : RequirementDef) → is_met (one r) ≡ true → is_met (other r) ≡ true) → (rs : List RequirementDef)
    → All (λ (verdict : Verdict). is_met verdict ≡ true) (map one rs) → All (λ (verdict : Verdict). is_met verdict ≡ true) (map other rs)
all_met one other kept [] met = All-nil (λ (verdict : Verdict). is_met verdict ≡ true)
all_met one other kept (r ∷ rs) met = All-cons (λ (verdict : Verdict). is_met verdict ≡ true) (other r) (map other rs)
    (kept r (All-head (λ (verdict : Verdict). is_met verdict ≡ true) (one r) (map one rs) met))
    (all_met one other kept rs (All-tail (λ (verdict : Verdict). is_met verdict ≡ true) (one r) (map one rs) met))

maps_agree : {X Y : Type 0} (f g : X → Y) → ((x : X) → f x ≡ g x) → (xs : List X) → map f xs ≡ map g xs
maps_agree f g same [] = refl
maps_agree f g same (x ∷ xs) = ap (λ y. y ∷ map f xs) (same x) ∙ ap (λ ys. g x ∷ ys) (maps_agree f g same xs)

-- ---- a scaled model none of whose tasks is late

module _ (model : SystemModel) (valid : IsValid model) (timely : All (λ (answer : TaskAnswer). is_late answer ≡ false) (answers_of (system_of model))) where
  answers_count : length (answers_of (system_of model)) ≡ length model.tasks
  unfolding answers_of
  answers_count = length-map (system_of model).tasks (answer_to (system_of model)) ∙ count_is model

  pub groups_timely : (c : ℕ) → NoneIsLate (answers_of (system_of model)) (groups_at model c)
  groups_timely c k d lt =
      let is = groups_at_are model valid c k d lt in
      timely (get_or (groups_at model c) k d).task answers.Late (omega (arith, is.known, answers_count))

  pub nothing_late : (c : ℕ) → first_late (answers_of (system_of model)) (steps_of model (chain_at model c)) ≡ None
  nothing_late c = none_late (answers_of (system_of model)) model (chain_at model c) (groups_timely c)

  pub answer_is : (c : ℕ) → chain_answer_of model (chain_at model c) ≡ bounded.Bounds (bounds_of (system_of model) (groups_at model c))
  unfolding chain_answer_of
  answer_is c = ap (λ first. chain_answer first (bounds_of (system_of model) (groups_at model c))) (nothing_late c)

  pub sums_are : (c : ℕ) → AreBoundsOf (settled_timings (system_of model) (groups_at model c)) (bounds_of (system_of model) (groups_at model c))
  sums_are c = settled_sums (system_of model) (system_sound model valid) (groups_at model c) (chain_settled model valid c (nothing_late c))

-- ---- two percentages

module _ (model : SystemModel) (valid : IsValid model) (less more : ℕ) (le : less ≤ more) (kept : Keeps model more) where
  abbrev lesser : SystemModel
  lesser = scaled model less

  abbrev greater : SystemModel
  greater = scaled model more

  range_below : IsInRange lesser
  range_below = range_stays model less more le kept.in_range

  valid_greater : IsValid greater
  valid_greater = scaled_valid model more valid kept.in_range

  valid_lesser : IsValid lesser
  valid_lesser = scaled_valid model less valid range_below

  timely_greater : All (λ (answer : TaskAnswer). is_late answer ≡ false) (answers_of (system_of greater))
  timely_greater = subst (λ (list : List TaskAnswer). All (λ (answer : TaskAnswer). is_late answer ≡ false) list) kept.found.tasks kept.in_time

  timely_lesser : All (λ (answer : TaskAnswer). is_late answer ≡ false) (answers_of (system_of lesser))
  timely_lesser = all_in_time model less more le timely_greater

  groups_same : (c : ℕ) → groups_at lesser c ≡ groups_at greater c
  groups_same c = groups_kept model less c ∙ sym (groups_kept model more c)

  rhythm_same : (group : Group) → rhythm_of (system_of lesser) group ≡ rhythm_of (system_of greater) group
  rhythm_same group = λ i. record {
    pattern = patterns_same model less more le group.task i;
    access = accesses_same model less more le group.task i;
    deadline = deadlines_same model less more le group.task i;
  }

  rhythms_same : (c : ℕ) → rhythms (system_of lesser) (groups_at lesser c) ≡ rhythms (system_of greater) (groups_at greater c)
  rhythms_same c =
      ap (rhythms (system_of lesser)) (groups_same c)
      ∙ maps_agree (rhythm_of (system_of lesser)) (rhythm_of (system_of greater)) rhythm_same (groups_at greater c)

  bounds_below : (c : ℕ) → AreNoGreater (bounds_of (system_of lesser) (groups_at lesser c)) (bounds_of (system_of greater) (groups_at greater c))
  bounds_below c = bounds_sooner model less more le (groups_at greater c) (bounds_of (system_of lesser) (groups_at lesser c)) (bounds_of (system_of greater) (groups_at greater c))
      (groups_timely greater valid_greater timely_greater c)
      (subst (λ (list : List Group). AreBoundsOf (settled_timings (system_of lesser) list) (bounds_of (system_of lesser) (groups_at lesser c))) (groups_same c)
      (sums_are lesser valid_lesser timely_lesser c))
      (sums_are greater valid_greater timely_greater c)

  timed_same : (c : ℕ) → is_timed_periodic_chain lesser c ≡ is_timed_periodic_chain greater c
  timed_same c = same_timed (system_of lesser) (system_of greater) (groups_at lesser c) (groups_at greater c) (rhythms_same c)

  -- what is met by what is found of a chain is met by what is found of it at the smaller percentage
  module _ (c : ℕ) (some : 0 < length (groups_at lesser c)) (kind : RequirementKind) (most : ℕ) where
    abbrev one : Lengths
    one = bounds_of (system_of lesser) (groups_at lesser c)

    abbrev other : Lengths
    other = bounds_of (system_of greater) (groups_at greater c)

    by_bounds : is_met (verdict_on most None (Some (limited_bound kind other))) ≡ true → is_met (verdict_on most None (Some (limited_bound kind one))) ≡ true
    by_bounds = bound_met most (limited_bound kind one) (limited_bound kind other) (kind_less kind one other (bounds_below c))

    within_greater : IsWithinLimit (system_of lesser) (groups_at lesser c) → IsWithinLimit (system_of greater) (groups_at greater c)
    within_greater = within_also (system_of lesser) (system_of greater) (groups_at lesser c) (groups_at greater c) (rhythms_same c) some

    past_greater : IsPastLimit (system_of lesser) (groups_at lesser c) → IsPastLimit (system_of greater) (groups_at greater c)
    past_greater = past_also (system_of lesser) (system_of greater) (groups_at lesser c) (groups_at greater c) (rhythms_same c) some

    exact_greater : (lengths : Witnesses) → AreExactLengths (system_of lesser) (groups_at lesser c) lengths → AreExactLengths (system_of greater) (groups_at greater c) lengths
    exact_greater = lengths_also (system_of lesser) (system_of greater) (groups_at lesser c) (groups_at greater c) (rhythms_same c)

    by_timed : (timed : Bool) (found below : ExactAnswer) → IsTimelyAnswer greater c timed found → IsTimelyAnswer lesser c timed below
        → is_met (verdict_on most (required_exact kind found) (Some (limited_bound kind other))) ≡ true
        → is_met (verdict_on most (required_exact kind below) (Some (limited_bound kind one))) ≡ true
    by_timed false found below is is_below met =
        ap (λ answer. is_met (verdict_on most (required_exact kind answer) (Some (limited_bound kind one)))) is_below
        ∙ by_bounds (sym (ap (λ answer. is_met (verdict_on most (required_exact kind answer) (Some (limited_bound kind other)))) is) ∙ met)
    by_timed true (Exact lengths) (Exact others) is is_below met =
        let same : others ≡ lengths = exact_unique (system_of greater) (groups_at greater c) others lengths (exact_greater others is_below.1) is.1 in
        both_exact kind most lengths others one other (bounds_below c) same met
    by_timed true (Exact lengths) (Past limit) is is_below met = absurd (within_or_past (system_of greater) (groups_at greater c) is.0 (past_greater is_below.0))
    by_timed true (Exact lengths) NotTimed is is_below met = absurd is_below
    by_timed true (Exact lengths) ChainLate is is_below met = absurd is_below
    by_timed true (Past limit) (Exact others) is is_below met = absurd (within_or_past (system_of greater) (groups_at greater c) (within_greater is_below.0) is.0)
    by_timed true (Past limit) (Past limit') is is_below met = by_bounds met
    by_timed true (Past limit) NotTimed is is_below met = absurd is_below
    by_timed true (Past limit) ChainLate is is_below met = absurd is_below
    by_timed true NotTimed below is is_below met = absurd is
    by_timed true ChainLate below is is_below met = absurd is

  found_below : (findings : Findings) × AreFindings lesser findings
  found_below = some_findings lesser valid_lesser

  chains_lesser : lesser.chains ≡ model.chains
  unfolding scaled
  chains_lesser = refl

  chains_greater : greater.chains ≡ model.chains
  unfolding scaled
  chains_greater = refl

  module _ (r : RequirementDef) where
    abbrev c : ℕ
    c = required_chain model r

    required_lesser : required_chain lesser r ≡ c
    unfolding scaled
    required_lesser = refl

    required_greater : required_chain greater r ≡ c
    unfolding scaled
    required_greater = refl

    verdict_greater : verdict_of greater kept.findings.chains kept.findings.exacts r
        ≡ verdict_on r.most (required_exact r.kind (exact_answer_at kept.findings.exacts c)) (required_bound r.kind (chain_answer_at kept.findings.chains c))
    unfolding verdict_of
    verdict_greater = ap (λ n. verdict_on r.most (required_exact r.kind (exact_answer_at kept.findings.exacts n)) (required_bound r.kind (chain_answer_at kept.findings.chains n))) required_greater

    verdict_lesser : verdict_of lesser found_below.0.chains found_below.0.exacts r
        ≡ verdict_on r.most (required_exact r.kind (exact_answer_at found_below.0.exacts c)) (required_bound r.kind (chain_answer_at found_below.0.chains c))
    unfolding verdict_of
    verdict_lesser = ap (λ n. verdict_on r.most (required_exact r.kind (exact_answer_at found_below.0.exacts n)) (required_bound r.kind (chain_answer_at found_below.0.chains n))) required_lesser

    -- a chain that isn't there has no value
    unknown : length model.chains ≤ c → is_met (verdict_of greater kept.findings.chains kept.findings.exacts r) ≡ true → ⊥
    unknown past met =
        let no_chain : chain_answer_at kept.findings.chains c ≡ bounded.Late 0 =
        ap (λ list. chain_answer_at list c) kept.found.chains
        ∙ get_or_past (chain_answers_of greater) c (bounded.Late 0) (omega (arith, past, length-map greater.chains (chain_answer_of greater), ap length chains_greater)) in
        let no_exact : exact_answer_at kept.findings.exacts c ≡ ChainLate =
        get_or_past kept.findings.exacts c ChainLate (omega (arith, past, kept.found.exacts.one_a_chain, ap length chains_greater)) in
        true≢false (sym met ∙ ap is_met verdict_greater
        ∙ ap (λ answer. is_met (verdict_on r.most (required_exact r.kind answer) (required_bound r.kind (chain_answer_at kept.findings.chains c)))) no_exact
        ∙ ap (λ answer. is_met (verdict_on r.most None (required_bound r.kind answer))) no_chain)

    known : c < length model.chains → is_met (verdict_of greater kept.findings.chains kept.findings.exacts r) ≡ true
        → is_met (verdict_of lesser found_below.0.chains found_below.0.exacts r) ≡ true
    known within met =
        let in_greater : c < length greater.chains = omega (arith, within, ap length chains_greater) in
        let in_lesser : c < length lesser.chains = omega (arith, within, ap length chains_lesser) in
        let chain_greater : chain_answer_at kept.findings.chains c ≡ bounded.Bounds (bounds_of (system_of greater) (groups_at greater c)) =
        ap (λ list. chain_answer_at list c) kept.found.chains ∙ answer_of_chain greater c in_greater ∙ answer_is greater valid_greater timely_greater c in
        let chain_lesser : chain_answer_at found_below.0.chains c ≡ bounded.Bounds (bounds_of (system_of lesser) (groups_at lesser c)) =
        ap (λ list. chain_answer_at list c) found_below.1.chains ∙ answer_of_chain lesser c in_lesser ∙ answer_is lesser valid_lesser timely_lesser c in
        let exact_more : IsTimelyAnswer greater c (is_timed_periodic_chain greater c) (exact_answer_at kept.findings.exacts c) =
        subst (λ (answer : ChainAnswer). IsExactAnswer greater c answer (exact_answer_at kept.findings.exacts c)) (answer_is greater valid_greater timely_greater c)
        (kept.found.exacts.each c in_greater) in
        let exact_less : IsTimelyAnswer lesser c (is_timed_periodic_chain lesser c) (exact_answer_at found_below.0.exacts c) =
        subst (λ (answer : ChainAnswer). IsExactAnswer lesser c answer (exact_answer_at found_below.0.exacts c)) (answer_is lesser valid_lesser timely_lesser c)
        (found_below.1.exacts.each c in_lesser) in
        ap is_met verdict_lesser
        ∙ ap (λ answer. is_met (verdict_on r.most (required_exact r.kind (exact_answer_at found_below.0.exacts c)) (required_bound r.kind answer))) chain_lesser
        ∙ by_timed c (groups_at_some lesser valid_lesser c in_lesser) r.kind r.most (is_timed_periodic_chain greater c) (exact_answer_at kept.findings.exacts c) (exact_answer_at found_below.0.exacts c) exact_more
        (subst (λ (timed : Bool). IsTimelyAnswer lesser c timed (exact_answer_at found_below.0.exacts c)) (timed_same c) exact_less)
        (sym (ap is_met verdict_greater
        ∙ ap (λ answer. is_met (verdict_on r.most (required_exact r.kind (exact_answer_at kept.findings.exacts c)) (required_bound r.kind answer))) chain_greater) ∙ met)

    requirement_kept : is_met (verdict_of greater kept.findings.chains kept.findings.exacts r) ≡ true
        → is_met (verdict_of lesser found_below.0.chains found_below.0.exacts r) ≡ true
    requirement_kept met = elim (cases_lt c (length model.chains)) [
      | inl within ↦ known within met
      | inr past ↦ absurd (unknown past met)
    ]

  requirements_same : lesser.requirements ≡ greater.requirements
  unfolding scaled
  requirements_same = refl

  pub kept_below : Keeps model less
  kept_below = record {
    in_range = range_below;
    findings = found_below.0;
    found = found_below.1;
    in_time = subst (λ (list : List TaskAnswer). All (λ (answer : TaskAnswer). is_late answer ≡ false) list) (sym found_below.1.tasks) timely_lesser;
    met = subst (λ (list : List Verdict). All (λ (verdict : Verdict). is_met verdict ≡ true) list)
        (sym (found_below.1.verdicts ∙ ap (map (verdict_of lesser found_below.0.chains found_below.0.exacts)) requirements_same))
        (all_met (verdict_of greater kept.findings.chains kept.findings.exacts) (verdict_of lesser found_below.0.chains found_below.0.exacts) requirement_kept greater.requirements
        (subst (λ (list : List Verdict). All (λ (verdict : Verdict). is_met verdict ≡ true) list) kept.found.verdicts kept.met));
  }
