-- The shares of the worst window of a task add up to the window, and those of a late task to more.
use Rattle.std.proofs.Common.{◌≡◌, ℕ, ◌-◌, ◌<◌, ◌≤◌, Option, Some, None, ℤ, pos, ◌+ℤ◌, ◌-ℤ◌, length, refl, sym, ap, ◌∙◌, subst, arith}
use Rattle.std.specs.Option.{option_map}
use Rattle.std.proofs.lemmas.Int.{ints}
use Rattle.cl_model.specs.{declared.model.SystemModel.SystemModel, Validity.IsValid}
use Rattle.cl_runs.specs.{TaskTiming.{System, timing_at, IsSound}, SystemOf.system_of, ExecutionTimes.greatest_execution}
use Rattle.cl_runs.proofs.ModelSystem.{count_is, system_sound}
use Rattle.cl_resp.specs.{declared.worst.WorstWindow.WorstWindow, Asked.Asked, ByPhase.{demand_by, asked_by_phase, response_by_phase}, Response.Response, Worst.{less_than, within_of}}
use Rattle.cl_resp.proofs.LeastParts.{settled_least}
use Rattle.cl_bound.specs.{declared.answer.TaskAnswer.{TaskAnswer, TheVariants.{Settled, Late}}, Answers.{answer_at, answer_with, is_late, response_in}}
use Rattle.cl_phase.specs.TightBounds.{ticks_or_none}
use Rattle.cl_tight.specs.TightAnswers.{tight_answers_of, tight_response}
use Rattle.cl_tight.proofs.TightTasks.{phased_answer, tight_task}
use Rattle.cl_near.specs.Plans.{IsWindowOfRun}
use Rattle.cl_why.specs.{Promises.{AddUpToWindow, AddUpPastWindow, AddUpInWindows}, Windows.{reach_of, end_of, width_of, sum_of_shares}}
use Rattle.cl_why.proofs.WindowDemand.{IsUnended, window_unended, asks_all, asks_more}

-- the shares are what is asked of the window
pub sum_is : (model : SystemModel) (task : ℕ) (window : WorstWindow) → sum_of_shares model task window
    ≡ (asked_by_phase (system_of model) task (greatest_execution (timing_at (system_of model) task))).demand window.start (width_of model task window)
unfolding sum_of_shares demand_by
sum_is model task window = refl

not_settled : (found : Option Response) → answer_with found ≡ Late → found ≡ None
not_settled None is = refl
not_settled (Some response) is = absurd cc

module _ (model : SystemModel) (valid : IsValid model) (task : ℕ) (window : WorstWindow) (in_model : task < length model.tasks)
    (of_run : IsWindowOfRun (system_of model) task window) where
  abbrev system : System
  system = system_of model

  abbrev asked : Asked
  asked = asked_by_phase (system_of model) task (greatest_execution (timing_at (system_of model) task))

  abbrev sound : IsSound (system_of model)
  sound = system_sound model valid

  abbrev known : task < length (system_of model).tasks
  known = subst (λ n. task < n) (sym (count_is model)) in_model

  unended : IsUnended (system_of model) sound task known (within_of (system_of model) task) window
  unended = window_unended (system_of model) sound task known window of_run

  -- ---- of a task that isn't late

  module _ (response : Response) (given : answer_at (tight_answers_of (system_of model)) task ≡ Settled response) where
    ends : end_of model task window ≡ (window.arrival +ℤ pos response.response)
    ends = ap (λ (answer : TaskAnswer). window.arrival +ℤ pos (reach_of answer (timing_at system task).deadline)) given

    pub in_time : AddUpToWindow model task window response.response
    in_time =
        let settled = tight_task system task known (ap is_late given) in
        let least = settled_least system sound task (tight_response system task) settled in
        let same : tight_response system task ≡ response.response = ap response_in given in
        let within : within_of system task ≡ tight_response system task - 1 =
        ap (λ (found : Option Response). less_than (option_map (λ (settled : Response). settled.response) found) (timing_at system task).deadline) settled.answered in
        let all = asks_all system sound task known window (tight_response system task) least.some least.answers
        (subst (λ n. IsUnended system sound task known n window) within unended) in
        record {
          sum = ap (λ asks. window.start +ℤ pos asks) (sum_is model task window)
              ∙ ap (λ (end : ℤ). window.start +ℤ pos (asked.demand window.start (ticks_or_none (end -ℤ window.start))))
              (ends ∙ ap (λ n. window.arrival +ℤ pos n) (sym same))
              ∙ all ∙ ap (λ n. window.arrival +ℤ pos n) same ∙ sym ends;
          ends = ends;
        }

  -- ---- of a late task

  module _ (given : answer_at (tight_answers_of (system_of model)) task ≡ Late) where
    ends_late : end_of model task window ≡ (window.arrival +ℤ pos (timing_at (system_of model) task).deadline)
    ends_late = ap (λ (answer : TaskAnswer). window.arrival +ℤ pos (reach_of answer (timing_at system task).deadline)) given

    pub late : AddUpPastWindow model task window
    late =
        let none : response_by_phase system task ≡ None = not_settled (response_by_phase system task) (sym (phased_answer system task known) ∙ given) in
        let within : within_of system task ≡ (timing_at system task).deadline =
        ap (λ (found : Option Response). less_than (option_map (λ (settled : Response). settled.response) found) (timing_at system task).deadline) none in
        let width = width_of model task window in
        let (more, there) = asks_more system sound task known window (timing_at system task).deadline (sound.tasks task known).above_jitter
        (subst (λ n. IsUnended system sound task known n window) within unended) width
        (ap (λ (end : ℤ). ticks_or_none (end -ℤ window.start)) (sym ends_late)) in
        let lacks : width_of model task window < sum_of_shares model task window = subst (λ n. width < n) (sym (sum_is model task window)) more in
        record {
          some = some_over (sum_of_shares model task window) width lacks;
          sum = past window.start (end_of model task window) (sum_of_shares model task window) width lacks (there ∙ sym ends_late);
        }
      where
        some_over : (sum width : ℕ) → width < sum → 1 ≤ sum - width
        some_over sum width more = omega (arith, more)

        past : (start end : ℤ) (sum width : ℕ) → width < sum → (start +ℤ pos width) ≡ end → (start +ℤ pos sum) ≡ (end +ℤ pos (sum - width))
        past start end sum width more is = omega (arith, ints, more, is)

pub shares_add_up : (model : SystemModel) → IsValid model → AddUpInWindows model
shares_add_up model valid = record {
  in_time = λ task window response in_model given of_run. in_time model valid task window in_model of_run response given;
  late = λ task window in_model given of_run. late model valid task window in_model of_run given;
}
