-- What is asked of scaled times is what keeping asks.
use Rattle.std.proofs.Common.{◌≡◌, ℕ, ◌<◌, true, false, List, [], length, map, sym, ap, ◌∙◌, subst}
use Rattle.std.specs.Prelude.{All}
use Rattle.std.specs.List.{list_all}
use Rattle.std.proofs.lemmas.Bool.{true≢false}
use Rattle.std.proofs.lemmas.List.{length-map}
use Rattle.cl_model.specs.{declared.{model.SystemModel.SystemModel, task.TaskDef.TaskDef}, Ranges.{IsTaskInRange, IsInRange}, Validity.IsValid}
use Rattle.cl_resp.specs.Question.{IsQuestionInRange}
use Rattle.cl_scale.specs.Scaled.{scaled}
use Rattle.cl_scale.proofs.ScaledValid.{scaled_valid}
use Rattle.cl_tune.specs.{declared.times.TaskTimes.TaskTimes, Headroom.Keeps, Inner.Times.{are_within, scaled_times, question_with, AreTimely}}
use Rattle.cl_tune.proofs.{ScaledQuestions.{question_in_range, kept_timely, timely_keeps}, ScaledTimes.{scaled_in_range, scaled_within}}

-- of a valid model, these tasks
module _ (model : SystemModel) (percent : ℕ) (valid : IsValid model) (tasks : List TaskDef) (same : tasks ≡ model.tasks) where
  pub tasks_in_range : All IsTaskInRange tasks
  tasks_in_range = subst (λ (list : List TaskDef). All IsTaskInRange list) (sym same) valid.in_range.tasks

  -- past the range nothing keeps
  pub past_range : list_all (are_within percent) tasks ≡ false → Keeps model percent → ⊥
  past_range past keeps = true≢false (sym (scaled_within model percent keeps.in_range) ∙ ap (list_all (are_within percent)) (sym same) ∙ past)

  module _ (within : list_all (are_within percent) tasks ≡ true) where
    pub in_range : IsInRange (scaled model percent)
    in_range = scaled_in_range model percent valid.in_range (ap (list_all (are_within percent)) (sym same) ∙ within)

    -- these times of them
    module _ (times : List TaskTimes) (are : times ≡ map (scaled_times percent) tasks) where
      times_are : times ≡ map (scaled_times percent) model.tasks
      times_are = are ∙ ap (map (scaled_times percent)) same

      pub one_a_task : length times ≡ length model.tasks
      one_a_task = ap length times_are ∙ length-map model.tasks (scaled_times percent)

      pub questions_in_range : (task : ℕ) → task < length model.tasks → IsQuestionInRange (question_with model times task)
      questions_in_range task h =
          subst (λ (list : List TaskTimes). IsQuestionInRange (question_with model list task)) (sym times_are)
          (question_in_range model percent (scaled_valid model percent valid in_range) task h)

      pub late_fails : (AreTimely model times → ⊥) → Keeps model percent → ⊥
      late_fails late keeps = late (subst (λ (list : List TaskTimes). AreTimely model list) (sym times_are) (kept_timely model percent keeps))

      pub timely_passes : model.requirements ≡ [] → AreTimely model times → Keeps model percent
      timely_passes none timely = timely_keeps model percent valid in_range none (subst (λ (list : List TaskTimes). AreTimely model list) times_are timely)
