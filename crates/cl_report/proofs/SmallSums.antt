-- The sums of the bounds of a valid model are small.
use Rattle.std.proofs.Common.{◌≡◌, ℕ, suc, ◌*◌, ◌^◌, ◌<◌, ◌≤◌, Some, None, Option, List, [], ◌∷◌, length, get_or, map, refl, ap, subst, arith}
use Rattle.std.specs.Prelude.{All, unwrap_or, sum_by}
use Rattle.std.proofs.Math.ListN.{length-map}
use Rattle.std.proofs.lemmas.List.{get_or_default}
use Rattle.std.proofs.lemmas.List.Elements.{All-map}
use Rattle.std.proofs.lemmas.List.Sums.{sum_by-cons}
use Rattle.cl_model.specs.{declared.{limits.TheConstants.{MOST_TICKS, MOST_STEPS}, chain.{ChainDef.ChainDef, LengthKind.{LengthKind, TheVariants.{Reaction, Age, Reduced}}}, model.SystemModel.SystemModel}, ByNumber.{no_chain, chain_at}, Groups.{steps_of, groups_at}}
use Rattle.cl_model.specs.{Timing.greatest_distance, Validity.IsValid}
use Rattle.cl_model.proofs.GroupFacts.{groups_at_are, groups_at_few}
use Rattle.cl_runs.specs.{TaskTiming.Timing, SystemOf.system_of}
use Rattle.cl_runs.proofs.ModelSystem.{timing_is, system_sound}
use Rattle.cl_stim.proofs.{ValidStimuli.has_stimulus, StimulusKinds.greatest_few}
use Rattle.cl_hop.specs.{Hops.group_timing, Bounds.Lengths}
use Rattle.cl_bound.specs.{Answers.answers_of, Bounds.bounds_of, SettledChains.AreWithin}
use Rattle.cl_bound.proofs.SettledChains.{limited}
use Rattle.cl_analyse.specs.{declared.findings.{ChainAnswer.ChainAnswer, Findings.Findings}, ChainAnswers.{first_late, chain_answer, chain_answer_of}, Findings.AreFindings, Verdicts.{bound_of_kind, bound_value}}
use Rattle.cl_analyse.proofs.SafeFindings.{chain_settled}
use Rattle.cl_report.specs.Survey.{bound_sum}

-- the bound of a kind, or nothing
abbrev value_or_none : LengthKind → ChainAnswer → ℕ
value_or_none kind answer = unwrap_or (bound_value kind answer) 0

-- the most that a bound can be
abbrev most_bound : ℕ
most_bound = 2 * MOST_STEPS * MOST_TICKS

module _ (model : SystemModel) (valid : IsValid model) (kind : LengthKind) (chain : ℕ) (within : chain < length model.chains) where
  are_near : AreWithin (system_of model) MOST_TICKS (groups_at model chain)
  unfolding group_timing
  are_near i d h =
      let known = (groups_at_are model valid chain i d h).known in
      rw (ap (λ (t : Timing). greatest_distance t.pattern) (timing_is model (get_or (groups_at model chain) i d).task known))
      (greatest_few _ (has_stimulus model valid (get_or (groups_at model chain) i d).task known).0)

  of_kind : (k : LengthKind) (bounds : Lengths) (count : ℕ) → bounds.reaction ≤ 2 * count * MOST_TICKS → bounds.age ≤ 2 * count * MOST_TICKS
      → bounds.reduced ≤ 2 * count * MOST_TICKS → count ≤ MOST_STEPS → bound_of_kind k bounds ≤ most_bound
  of_kind Reaction bounds count reaction age reduced few = omega arith
  of_kind Age bounds count reaction age reduced few = omega arith
  of_kind Reduced bounds count reaction age reduced few = omega arith

  by_late : (first : Option ℕ) → first_late (answers_of (system_of model)) (steps_of model (chain_at model chain)) ≡ first
      → value_or_none kind (chain_answer first (bounds_of (system_of model) (groups_at model chain))) ≤ most_bound
  by_late None is =
      let few = limited (system_of model) (system_sound model valid) (groups_at model chain) (chain_settled model valid chain is) MOST_TICKS are_near in
      of_kind kind (bounds_of (system_of model) (groups_at model chain)) (length (groups_at model chain)) few.reaction few.age few.reduced
      (groups_at_few model valid chain within)
  by_late (Some task) is = omega arith

  answer_few : value_or_none kind (chain_answer_of model (chain_at model chain)) ≤ most_bound
  unfolding chain_answer_of
  answer_few = by_late (first_late (answers_of (system_of model)) (steps_of model (chain_at model chain))) refl

sum_few : (value : ChainAnswer → ℕ) (most : ℕ) (answers : List ChainAnswer) → All (λ answer. value answer ≤ most) answers → sum_by value answers ≤ length answers * most
sum_few value most [] all = omega arith
sum_few value most (answer ∷ answers) all =
    omega (arith, sum_by-cons value answer answers, all 0 answer (omega arith), sum_few value most answers (λ k d lt. all (suc k) d (omega arith)))

pub sums_fit : (model : SystemModel) (findings : Findings) (kind : LengthKind) → IsValid model → AreFindings model findings → bound_sum kind findings.chains < 2 ^ 64
sums_fit model findings kind valid found =
    let each : All (λ answer. value_or_none kind answer ≤ most_bound) (map (chain_answer_of model) model.chains)
    = All-map (λ answer. value_or_none kind answer ≤ most_bound) (chain_answer_of model) model.chains
    (λ k d lt. subst (λ (chain : ChainDef). value_or_none kind (chain_answer_of model chain) ≤ most_bound) (get_or_default model.chains k no_chain d lt)
    (answer_few model valid kind k lt)) in
    omega (
      arith,
      sum_few (value_or_none kind) most_bound (map (chain_answer_of model) model.chains) each,
      length-map model.chains (chain_answer_of model),
      valid.in_range.counts.chains,
      ap (bound_sum kind) found.chains,
    )
