-- A valid model none of whose tasks is late meets its deadlines, and is in time where each requirement is met.
use Rattle.std.proofs.Common.{◌≡◌, ℕ, ◌<◌, true, false, None, length, refl, ap, ◌∙◌, subst, arith}
use Rattle.std.specs.Prelude.{All}
use Rattle.std.proofs.Math.ListN.{length-map}
use Rattle.cl_model.specs.{declared.model.SystemModel.SystemModel, Validity.IsValid, ByNumber.requirement_at}
use Rattle.cl_runs.specs.{SystemOf.system_of, Responses.IsTimely, Requirements.{MeetsDeadlines, IsKept, IsInTime}}
use Rattle.cl_runs.proofs.{ModelSystem.{count_is, system_sound}, TimelyTasks.meets_deadlines}
use Rattle.cl_resp.proofs.BusyWindowTask.{settled_timely}
use Rattle.cl_bound.specs.{declared.answer.TaskAnswer.{TaskAnswer, TheVariants.Late}, Answers.{answer_to, answers_of, answer_at, is_late, response_in}}
use Rattle.cl_bound.proofs.SettledTasks.{settled_task}
use Rattle.cl_analyse.specs.{declared.findings.{Findings.Findings, Verdict.{Verdict, TheVariants.{Met, Broken, Unshown}}}, Findings.AreFindings, Verdicts.{verdict_of, verdict_at, is_met}}
use Rattle.cl_analyse.proofs.SafeFindings.{met_found}

-- a verdict that says so is met
pub met_value : (verdict : Verdict) → is_met verdict ≡ true → (value : ℕ) × (verdict ≡ Met value)
met_value (Met value) is = (value, refl)
met_value (Broken value) is = absurd cc
met_value (Unshown value) is = absurd cc

module _ (model : SystemModel) (valid : IsValid model) where
  -- a task that isn't late is timely
  pub timely_task : (task : ℕ) → task < length model.tasks → is_late (answer_at (answers_of (system_of model)) task) ≡ false
      → IsTimely (system_of model) task (response_in (answer_at (answers_of (system_of model)) task))
  timely_task task within timely =
      settled_timely (system_of model) (system_sound model valid) task _ (settled_task (system_of model) task (omega (arith, within, count_is model)) timely)

  each_timely : All (λ (answer : TaskAnswer). is_late answer ≡ false) (answers_of (system_of model)) → (task : ℕ) → task < length model.tasks
      → is_late (answer_at (answers_of (system_of model)) task) ≡ false
  unfolding answers_of
  each_timely all task within = all task Late (omega (arith, within, count_is model, length-map (system_of model).tasks (answer_to (system_of model))))

  pub deadlines_met : All (λ (answer : TaskAnswer). is_late answer ≡ false) (answers_of (system_of model)) → MeetsDeadlines model
  deadlines_met all = meets_deadlines model (λ task. response_in (answer_at (answers_of (system_of model)) task)) (λ task within. timely_task task within (each_timely all task within))

  module _ (findings : Findings) (found : AreFindings model findings) where
    each_kept : All (λ (verdict : Verdict). is_met verdict ≡ true) findings.verdicts → (i : ℕ) → i < length model.requirements → IsKept model (requirement_at model i)
    each_kept all i within =
        let count : length findings.verdicts ≡ length model.requirements =
        ap length found.verdicts ∙ length-map model.requirements (verdict_of model findings.chains findings.exacts) in
        let (value, is) = met_value (verdict_at findings.verdicts i) (all i (Unshown None) (omega (arith, within, count))) in
        met_found model valid findings found i value within is

    pub in_time : All (λ (answer : TaskAnswer). is_late answer ≡ false) findings.tasks → All (λ (verdict : Verdict). is_met verdict ≡ true) findings.verdicts → IsInTime model
    in_time timely met = record {
      deadlines = deadlines_met (subst (All (λ (answer : TaskAnswer). is_late answer ≡ false)) found.tasks timely);
      requirements = each_kept met;
    }
