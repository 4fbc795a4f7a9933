-- No task of a model with the best priorities on all its cores is late.
use Rattle.std.proofs.Common.{◌≡◌, ℕ, false, List, arith}
use Rattle.std.specs.Prelude.{All, slice_index}
use Rattle.std.proofs.lemmas.List.Elements.{All-map, All-from_get_or}
use Rattle.cl_model.specs.{declared.model.SystemModel.SystemModel, Validity.IsValid}
use Rattle.cl_runs.specs.{SystemOf.system_of, TaskTiming.{Timing, no_timing}}
use Rattle.cl_runs.proofs.ModelSystem.{count_is}
use Rattle.cl_bound.specs.{declared.answer.TaskAnswer.TaskAnswer, Answers.{answer_to, answers_of, is_late}}
use Rattle.cl_tune.specs.{BestOrders.AreBestPriorities, Priorities.with_all_priorities}
use Rattle.cl_tune.proofs.{NewPriorities.count_made, OrdersTogether.pass_together}

module _ (model : SystemModel) (valid : IsValid model) (priorities : List ℕ) (best : AreBestPriorities model priorities) where
  abbrev made : SystemModel
  made = with_all_priorities model (slice_index priorities)

  pub all_in_time : All (λ (answer : TaskAnswer). is_late answer ≡ false) (answers_of (system_of made))
  unfolding answers_of
  all_in_time =
      let system = system_of made in
      All-map (λ (answer : TaskAnswer). is_late answer ≡ false) (answer_to system) system.tasks
      (All-from_get_or (λ (t : Timing). is_late (answer_to system t) ≡ false) system.tasks no_timing
      (λ i lt. (pass_together model valid priorities best i
      (omega (arith, lt, count_is made, count_made model (slice_index priorities)))).in_time))
