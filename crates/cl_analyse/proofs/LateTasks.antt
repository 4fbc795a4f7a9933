-- A task is late exactly where it has no fixpoint within its deadline.
use Rattle.std.proofs.Common.{◌≡◌, ℕ, ◌+◌, ◌<◌, Bool, true, false, Option, Some, None, length, refl, sym, ap, ◌∙◌}
use Rattle.std.specs.Option.{option_map}
use Rattle.std.proofs.lemmas.Bool.{true≢false}
use Rattle.std.proofs.lemmas.List.{get_or-map}
use Rattle.cl_runs.specs.TaskTiming.{System, timing_at, no_timing, IsSound}
use Rattle.cl_resp.specs.{declared.question.Question.Question, Question.question_of, Response.{busy_window, response_to, HasNoFixpoint}}
use Rattle.cl_resp.proofs.{SettledTasks.tasks_take_time, Windows.{no_window_no_fixpoint, no_fixpoint_no_window}}
use Rattle.cl_bound.specs.declared.answer.TaskAnswer.TheVariants as answer
use Rattle.cl_bound.specs.Answers.{answer_with, answer_to, answers_of, answer_at, is_late}

-- the answer for a task of the system
answer_of_task : (system : System) (i : ℕ) → i < length system.tasks → answer_at (answers_of system) i ≡ answer_to system (timing_at system i)
unfolding answers_of
answer_of_task system i within = get_or-map (answer_to system) system.tasks i no_timing answer.Late within

module _ (jitter : ℕ) where
  -- whether a task with this window, or none, is late
  abbrev late_with : Option ℕ → Bool
  late_with found = is_late (answer_with (option_map (λ (window : ℕ). record { window = window; response = jitter + window }) found))

  no_window : (found : Option ℕ) → late_with found ≡ true → found ≡ None
  no_window None late = refl
  no_window (Some window) late = absurd (true≢false (sym late))

-- a question without an answer has no fixpoint
pub late_question : (question : Question) → is_late (answer_with (response_to question)) ≡ true → HasNoFixpoint question
late_question question late = no_window_no_fixpoint question (no_window question.jitter (busy_window question) late)

module _ (system : System) (i : ℕ) (within : i < length system.tasks) where
  -- the question of the task
  abbrev question : Question
  question = question_of system (timing_at system i)

  late_is : is_late (answer_at (answers_of system) i) ≡ late_with question.jitter (busy_window question)
  late_is = ap is_late (answer_of_task system i within)

  pub late_without : is_late (answer_at (answers_of system) i) ≡ true → HasNoFixpoint question
  late_without late = no_window_no_fixpoint question (no_window question.jitter (busy_window question) (sym late_is ∙ late))

  pub timely_with : IsSound system → is_late (answer_at (answers_of system) i) ≡ false → HasNoFixpoint question → ⊥
  timely_with sound timely none =
      let no_window : busy_window question ≡ None = no_fixpoint_no_window question (tasks_take_time system sound i within) none in
      true≢false (sym (late_is ∙ ap (late_with question.jitter) no_window) ∙ timely)
