-- Decisions on a model: what is met holds, what is broken is so, and a model is verified exactly where all is met.
use Rattle.std.proofs.Common.{◌≡◌, ◌↔◌, ℕ, ◌<◌, true, false, not, ◌&&◌, None, List, length, refl, ap, ◌∙◌, subst, arith}
use Rattle.std.specs.List.{list_all, count_by, AllPass}
use Rattle.std.proofs.lemmas.Bool.{and_parts}
use Rattle.std.proofs.lemmas.List.{get_or_default}
use Rattle.std.proofs.lemmas.List.Sums.{AllPass-from_list_all, list_all-from_AllPass}
use Rattle.cl_model.specs.{declared.model.SystemModel.SystemModel, Validity.IsValid, ByNumber.requirement_at}
use Rattle.cl_runs.specs.{SystemOf.system_of, Requirements.{IsKept, IsBroken}, Responses.AlwaysFinishesWithin}
use Rattle.cl_bound.specs.{declared.answer.TaskAnswer.TaskAnswer, Answers.{answer_at, is_late}}
use Rattle.cl_bound.specs.declared.answer.TaskAnswer.TheVariants as answer
use Rattle.cl_analyse.specs.{declared.findings.Verdict.Verdict, Verdicts.{verdict_at, is_met}}
use Rattle.cl_analyse.specs.declared.findings.Verdict.TheVariants as verdict
use Rattle.cl_tight.specs.TightFindings.{tight_findings_of, is_verified}
use Rattle.cl_tight.proofs.{TightLaws.tight_findings_safe, TightLengths.{tight_tasks_found, tight_verdicts_found}}
use Rattle.cl_near.specs.Seen.{MissesDeadline}
use Rattle.cl_verify.specs.declared.decision.TaskDecision.TheVariants as task
use Rattle.cl_verify.specs.declared.decision.Decision.TheVariants as requirement
use Rattle.cl_verify.specs.{declared.decision.Decisions.Decisions, Decisions.{AreDecisionsOf, task_decision_at, decision_at}, VerifyText.{is_task_broken, is_task_unshown, is_requirement_broken, is_requirement_unshown, broken_count, unshown_count}}
use Rattle.cl_verify.proofs.Decided.{met_settled, broken_missed, timely_passes, passing_timely, met_verdict, broken_seen, is_broken, met_passes, passing_met, none_counted, counted_none}

module _ (model : SystemModel) (decisions : Decisions) (are : AreDecisionsOf model decisions) where
  abbrev answers : List TaskAnswer
  answers = (tight_findings_of model).tasks

  abbrev verdicts : List Verdict
  verdicts = (tight_findings_of model).verdicts

  -- ---- what is met

  pub met_finishes : IsValid model → (i response : ℕ) → i < length model.tasks → task_decision_at decisions.tasks i ≡ task.Met response
      → AlwaysFinishesWithin (system_of model) i response
  met_finishes valid i response within named =
      let (settled, found, same) = met_settled model i (answer_at answers i) (task_decision_at decisions.tasks i) response (are.tasks.each i within) named in
      subst (AlwaysFinishesWithin (system_of model) i) same ((tight_findings_safe model valid).responses i settled within found)

  pub met_is_kept : IsValid model → (i bound : ℕ) → i < length model.requirements → decision_at decisions.requirements i ≡ requirement.Met bound
      → IsKept model (requirement_at model i)
  met_is_kept valid i bound within named =
      (tight_findings_safe model valid).met i bound within
      (met_verdict model (requirement_at model i) (verdict_at verdicts i) (decision_at decisions.requirements i) bound (are.requirements.each i within) named)

  -- ---- what is broken

  pub broken_misses : (i : ℕ) → i < length model.tasks → task_decision_at decisions.tasks i ≡ task.Broken → MissesDeadline model i
  broken_misses i within = broken_missed model i (answer_at answers i) (task_decision_at decisions.tasks i) (are.tasks.each i within)

  pub broken_breaks : (i bound seen : ℕ) → i < length model.requirements → decision_at decisions.requirements i ≡ requirement.Broken bound seen
      → IsBroken model (requirement_at model i)
  broken_breaks i bound seen within named =
      is_broken model (requirement_at model i) seen
      (broken_seen model (requirement_at model i) (verdict_at verdicts i) (decision_at decisions.requirements i) bound seen (are.requirements.each i within) named)

  -- ---- verified

  answer_for : (i : ℕ) → i < length model.tasks → i < length answers
  answer_for i within = omega (arith, within, tight_tasks_found model (tight_findings_of model) refl)

  verdict_for : (i : ℕ) → i < length model.requirements → i < length verdicts
  verdict_for i within = omega (arith, within, tight_verdicts_found model (tight_findings_of model) refl)

  task_passes : list_all (λ (a : TaskAnswer). not (is_late a)) answers ≡ true → (k : ℕ) → k < length decisions.tasks
      → (is_task_broken (task_decision_at decisions.tasks k) ≡ false) × (is_task_unshown (task_decision_at decisions.tasks k) ≡ false)
  task_passes timely k h =
      let within : k < length model.tasks = omega (arith, h, are.tasks.as_many) in
      timely_passes model k (answer_at answers k) (task_decision_at decisions.tasks k) (are.tasks.each k within)
      (AllPass-from_list_all (λ (a : TaskAnswer). not (is_late a)) answers timely k answer.Late (answer_for k within))

  requirement_passes : list_all is_met verdicts ≡ true → (k : ℕ) → k < length decisions.requirements
      → (is_requirement_broken (decision_at decisions.requirements k) ≡ false) × (is_requirement_unshown (decision_at decisions.requirements k) ≡ false)
  requirement_passes met k h =
      let within : k < length model.requirements = omega (arith, h, are.requirements.as_many) in
      met_passes model (requirement_at model k) (verdict_at verdicts k) (decision_at decisions.requirements k) (are.requirements.each k within)
      (AllPass-from_list_all is_met verdicts met k (verdict.Unshown None) (verdict_for k within))

  verified_counts : is_verified (tight_findings_of model) ≡ true → (broken_count decisions ≡ 0) × (unshown_count decisions ≡ 0)
  unfolding is_verified
  verified_counts is =
      let both = and_parts (list_all (λ (a : TaskAnswer). not (is_late a)) answers) (list_all is_met verdicts) is in
      let tasks = task_passes both.0 in
      let requirements = requirement_passes both.1 in (
        omega (
          arith,
          none_counted is_task_broken task.Broken decisions.tasks (λ k h. (tasks k h).0),
          none_counted is_requirement_broken (requirement.Late 0) decisions.requirements (λ k h. (requirements k h).0),
        ),
        omega (
          arith,
          none_counted is_task_unshown task.Broken decisions.tasks (λ k h. (tasks k h).1),
          none_counted is_requirement_unshown (requirement.Late 0) decisions.requirements (λ k h. (requirements k h).1),
        ),
      )

  counts_timely : count_by is_task_broken decisions.tasks ≡ 0 → count_by is_task_unshown decisions.tasks ≡ 0
      → AllPass (λ (a : TaskAnswer). not (is_late a)) answers
  counts_timely broken unshown k d h =
      let within : k < length model.tasks = omega (arith, h, tight_tasks_found model (tight_findings_of model) refl) in
      let decided : k < length decisions.tasks = omega (arith, within, are.tasks.as_many) in
      ap (λ (a : TaskAnswer). not (is_late a)) (get_or_default answers k d answer.Late h)
      ∙ passing_timely model k (answer_at answers k) (task_decision_at decisions.tasks k) (are.tasks.each k within)
      (counted_none is_task_broken task.Broken decisions.tasks broken k decided) (counted_none is_task_unshown task.Broken decisions.tasks unshown k decided)

  counts_met : count_by is_requirement_broken decisions.requirements ≡ 0 → count_by is_requirement_unshown decisions.requirements ≡ 0
      → AllPass is_met verdicts
  counts_met broken unshown k d h =
      let within : k < length model.requirements = omega (arith, h, tight_verdicts_found model (tight_findings_of model) refl) in
      let decided : k < length decisions.requirements = omega (arith, within, are.requirements.as_many) in
      ap is_met (get_or_default verdicts k d (verdict.Unshown None) h)
      ∙ passing_met model (requirement_at model k) (verdict_at verdicts k) (decision_at decisions.requirements k) (are.requirements.each k within)
      (counted_none is_requirement_broken (requirement.Late 0) decisions.requirements broken k decided)
      (counted_none is_requirement_unshown (requirement.Late 0) decisions.requirements unshown k decided)

  counts_verified : (broken_count decisions ≡ 0) × (unshown_count decisions ≡ 0) → is_verified (tight_findings_of model) ≡ true
  unfolding is_verified
  counts_verified none =
      let timely = list_all-from_AllPass (λ (a : TaskAnswer). not (is_late a)) answers
      (counts_timely (omega (arith, none.0)) (omega (arith, none.1))) in
      let met = list_all-from_AllPass is_met verdicts (counts_met (omega (arith, none.0)) (omega (arith, none.1))) in
      ap (λ b. b && list_all is_met verdicts) timely ∙ met

  pub verified_where_met : (is_verified (tight_findings_of model) ≡ true) ↔ ((broken_count decisions ≡ 0) × (unshown_count decisions ≡ 0))
  verified_where_met = (verified_counts, counts_verified)
