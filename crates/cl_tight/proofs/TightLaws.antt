-- Tight findings are safe, as tight as the report's, and verify what they say.
use Rattle.std.proofs.Common.{◌≡◌, ℕ, ◌<◌, true, false, not, None, List, length, map, refl, sym, ap, ◌∙◌, arith}
use Rattle.std.specs.List.{list_all}
use Rattle.std.proofs.Math.ListN.{length-map}
use Rattle.std.proofs.lemmas.Bool.{and_parts}
use Rattle.std.proofs.lemmas.List.{get_or-map}
use Rattle.std.proofs.lemmas.List.Sums.{AllPass-from_list_all}
use Rattle.cl_model.specs.{declared.model.SystemModel.SystemModel, Validity.IsValid, ByNumber.{no_requirement, requirement_at}}
use Rattle.cl_runs.specs.{TaskTiming.System, SystemOf.system_of, Requirements.{IsKept, IsInTime}}
use Rattle.cl_runs.proofs.TimelyTasks.{meets_deadlines}
use Rattle.cl_bound.specs.{declared.answer.TaskAnswer.TaskAnswer, Answers.{answer_at, is_late}}
use Rattle.cl_bound.specs.declared.answer.TaskAnswer.TheVariants as answer
use Rattle.cl_tight.specs.{TightAnswers.{tight_answers_of, tight_response}, TightFindings.{tight_chain_answers_of, tight_verdict_of, tight_findings_of, is_verified}, Promises.{AreSafeTightFindings, AreAsTight}}
use Rattle.cl_tight.proofs.{TightTimings.answer_count, TightChains.{timely_task, tight_responses_hold, tight_where_settled, own_bounds, tight_bounds_hold, tight_bounds_some, tight_where_bounded, tight_where_exact}, TightRequirements.{met_kept, broken_is}}
use Rattle.cl_analyse.specs.{declared.findings.{ChainAnswer.ChainAnswer, Verdict.{Verdict, TheVariants.{Met, Unshown}}, Findings.Findings}, ChainAnswers.chain_answer_at, Findings.AreFindings, Verdicts.{verdict_at, is_met}}
use Rattle.cl_analyse.proofs.InTime.{met_value}

-- an answer that passes isn't late
passes : (answer : TaskAnswer) → not (is_late answer) ≡ true → is_late answer ≡ false
passes (answer.Settled response) is = refl
passes answer.Late is = absurd cc

module _ (model : SystemModel) (valid : IsValid model) where
  abbrev system : System
  system = system_of model

  abbrev verdicts : List Verdict
  verdicts = map (tight_verdict_of model (tight_chain_answers_of model)) model.requirements

  -- the verdict on the requirement of a number
  verdict_is : (i : ℕ) → i < length model.requirements → verdict_at verdicts i ≡ tight_verdict_of model (tight_chain_answers_of model) (requirement_at model i)
  verdict_is i within = get_or-map (tight_verdict_of model (tight_chain_answers_of model)) model.requirements i no_requirement (Unshown None) within

  met_found : (i value : ℕ) → i < length model.requirements → verdict_at verdicts i ≡ Met value → IsKept model (requirement_at model i)
  met_found i value within is = met_kept model valid (requirement_at model i) value (sym (verdict_is i within) ∙ is)

  -- ---- safe

  pub tight_findings_safe : AreSafeTightFindings model (tight_findings_of model)
  unfolding tight_findings_of
  tight_findings_safe = record {
    responses = tight_responses_hold model valid;
    bounds = λ chain bounds within. tight_bounds_hold model valid chain within bounds;
    some = λ chain bounds within. tight_bounds_some model valid chain within bounds;
    met = met_found;
    broken = λ i value within is. broken_is model valid (requirement_at model i) value (sym (verdict_is i within) ∙ is);
  }

  -- ---- as tight as the report's

  pub tight_findings_as_tight : (report : Findings) → AreFindings model report → AreAsTight model (tight_findings_of model) report
  unfolding tight_findings_of
  tight_findings_as_tight report found = record {
    responses = λ task response within is.
        let (tight, settled, no_later) = tight_where_settled model valid task response within
        (sym (ap (λ (answers : List TaskAnswer). answer_at answers task) found.tasks) ∙ is) in
        record { tight = tight; settled = settled; no_later = no_later };
    bounds = λ chain bounds within is.
        let (bounded, no_greater) = tight_where_bounded model valid chain within bounds
        (sym (ap (λ (answers : List ChainAnswer). chain_answer_at answers chain) found.chains) ∙ is) in
        record { tight = own_bounds model valid chain; bounded = bounded; no_greater = no_greater };
    exact = λ chain lengths within is.
        let (bounded, exact) = tight_where_exact model valid chain within lengths report.exacts found.exacts is in
        record { tight = own_bounds model valid chain; bounded = bounded; exact = exact };
  }

  -- ---- verified

  each_timely : list_all (λ (answer : TaskAnswer). not (is_late answer)) (tight_answers_of system) ≡ true
      → (task : ℕ) → task < length model.tasks → is_late (answer_at (tight_answers_of system) task) ≡ false
  each_timely all task within =
      passes (answer_at (tight_answers_of system) task)
      (AllPass-from_list_all (λ (answer : TaskAnswer). not (is_late answer)) (tight_answers_of system) all task answer.Late
      (omega (arith, within, answer_count model (tight_answers_of system) refl)))

  each_kept : list_all is_met verdicts ≡ true → (i : ℕ) → i < length model.requirements → IsKept model (requirement_at model i)
  each_kept all i within =
      let (value, is) = met_value (verdict_at verdicts i) (AllPass-from_list_all is_met verdicts all i (Unshown None)
      (omega (arith, within, length-map model.requirements (tight_verdict_of model (tight_chain_answers_of model))))) in
      met_found i value within is

  pub verified_in_time : is_verified (tight_findings_of model) ≡ true → IsInTime model
  unfolding is_verified tight_findings_of
  verified_in_time is =
      let both = and_parts (list_all (λ (answer : TaskAnswer). not (is_late answer)) (tight_answers_of system)) (list_all is_met verdicts) is in
      record {
        deadlines = meets_deadlines model (tight_response system) (λ task within. timely_task model valid task within (each_timely both.0 task within));
        requirements = each_kept both.1;
      }
