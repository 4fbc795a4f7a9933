-- How wide the worst window of a task is, and how near to 0 it lies.
use Rattle.std.proofs.Common.{◌≡◌, ℕ, ◌+◌, ◌<◌, ◌≤◌, Option, Some, None, ℤ, pos, negsuc, ◌+ℤ◌, ◌-ℤ◌, ◌≤ℤ◌, length, sym, ap, ◌∙◌, subst, arith}
use Rattle.std.specs.Option.{option_map}
use Rattle.std.proofs.lemmas.Int.{ints}
use Rattle.cl_model.specs.{declared.{model.SystemModel.SystemModel, stimulus.StimulusKind.{StimulusKind, TheVariants.{Periodic, Sporadic, Burst}}}, Ranges.IsKindInRange, Validity.IsValid}
use Rattle.cl_model.proofs.ValidTasks.{kind_in_range}
use Rattle.cl_runs.specs.{TaskTiming.{System, Timing, timing_at}, SystemOf.system_of}
use Rattle.cl_runs.proofs.ModelSystem.{count_is, system_sound, timing_is}
use Rattle.cl_cycle.specs.Counts.{arrivals_of}
use Rattle.cl_resp.specs.{declared.{question.Block.TheVariants.OfLower, worst.WorstWindow.WorstWindow}, ByPhase.response_by_phase, Question.tight_question_of, Response.Response, Worst.less_than}
use Rattle.cl_resp.proofs.{Questions.questions_in_range, WorstTasks.within_below}
use Rattle.cl_bound.specs.{declared.answer.TaskAnswer.TaskAnswer, Answers.{answer_at, answer_with}}
use Rattle.cl_phase.specs.TightBounds.{ticks_or_none}
use Rattle.cl_tight.specs.TightAnswers.{tight_answers_of}
use Rattle.cl_tight.proofs.TightTasks.{phased_answer}
use Rattle.cl_near.specs.Plans.{IsWindowOfRun}
use Rattle.cl_why.specs.Windows.{reach_of, end_of, width_of}
use Rattle.cl_why.proofs.WindowDemand.{window_unended}

-- ---- where it ends

reach_near : (found : Option Response) (deadline : ℕ) → less_than (option_map (λ (settled : Response). settled.response) found) deadline ≤ deadline
    → reach_of (answer_with found) deadline ≤ deadline + 1
reach_near (Some response) deadline within = omega (arith, within)
reach_near None deadline within = omega arith

-- a window ends no later than a tick after the deadline
pub reach_within : (system : System) (task : ℕ) → task < length system.tasks
    → reach_of (answer_at (tight_answers_of system) task) (timing_at system task).deadline ≤ (timing_at system task).deadline + 1
reach_within system task known =
    subst (λ (answer : TaskAnswer). reach_of answer (timing_at system task).deadline ≤ (timing_at system task).deadline + 1) (sym (phased_answer system task known))
    (reach_near (response_by_phase system task) (timing_at system task).deadline (within_below system task))

-- ---- how wide it is

period_few : (kind : StimulusKind) → IsKindInRange kind → (arrivals_of kind).period ≤ 1000000000000
period_few (Periodic period offset jitter) range = range.0.1
period_few (Sporadic least greatest) range = omega arith
period_few (Burst period offset count distance) range = range.0.1

ticks_few : (ticks : ℤ) (most : ℕ) → ticks ≤ℤ pos most → ticks_or_none ticks ≤ most
ticks_few (pos ticks) most few = omega (arith, ints, few)
ticks_few (negsuc lacking) most few = omega arith

module _ (model : SystemModel) (valid : IsValid model) (task : ℕ) (in_model : task < length model.tasks) where
  abbrev system : System
  system = system_of model

  abbrev timing : Timing
  timing = timing_at (system_of model) task

  known : task < length (system_of model).tasks
  known = subst (λ n. task < n) (sym (count_is model)) in_model

  short_period : (arrivals_of timing.pattern).period ≤ 1000000000000
  short_period =
      subst (λ (kind : StimulusKind). (arrivals_of kind).period ≤ 1000000000000) (sym (ap (λ (t : Timing). t.pattern) (timing_is model task in_model)))
      (period_few _ (kind_in_range model valid task in_model))

  pub short_deadline : timing.deadline ≤ 1000000000000
  unfolding tight_question_of
  short_deadline = (questions_in_range OfLower model valid task in_model).deadline

  pub narrow : (window : WorstWindow) → IsWindowOfRun (system_of model) task window → width_of model task window ≤ 2000000000000
  narrow window is =
      let near = (window_unended system (system_sound model valid) task known window is).near in
      ticks_few (end_of model task window -ℤ window.start) 2000000000000
      (apart window.arrival window.start (arrivals_of timing.pattern).period (reach_of (answer_at (tight_answers_of (system_of model)) task) timing.deadline) timing.deadline
      near short_period (reach_within system task known) short_deadline)
    where
      apart : (arrival start : ℤ) (period reach deadline : ℕ) → (arrival +ℤ pos 1) ≤ℤ (start +ℤ pos period) → period ≤ 1000000000000
          → reach ≤ deadline + 1 → deadline ≤ 1000000000000 → ((arrival +ℤ pos reach) -ℤ start) ≤ℤ pos 2000000000000
      apart arrival start period reach deadline near short within few = omega (arith, ints, near, short, within, few)

-- ---- where the code finds it to end

module _ (model : SystemModel) (task : ℕ) (in_model : task < length model.tasks) (answer : TaskAnswer) (reach deadline : ℕ)
    (given : answer ≡ answer_at (tight_answers_of (system_of model)) task) (is : reach ≡ reach_of answer deadline)
    (in_time : deadline ≡ (timing_at (system_of model) task).deadline) where
  reach_is : reach ≡ reach_of (answer_at (tight_answers_of (system_of model)) task) (timing_at (system_of model) task).deadline
  reach_is = is ∙ ap (λ (a : TaskAnswer). reach_of a deadline) given ∙ ap (reach_of (answer_at (tight_answers_of (system_of model)) task)) in_time

  pub reach_few : deadline ≤ 1000000000000 → reach ≤ 1000000000001
  reach_few few =
      let within = reach_within (system_of model) task (subst (λ n. task < n) (sym (count_is model)) in_model) in
      omega (arith, few, in_time, reach_is, within)

  pub ends_there : (window : WorstWindow) → (window.arrival +ℤ pos reach) ≡ end_of model task window
  ends_there window = ap (λ n. window.arrival +ℤ pos n) reach_is
