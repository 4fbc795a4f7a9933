-- A task without a response by phases has none by its tight question either.
use Rattle.std.proofs.Common.{◌≡◌, ℕ, ◌<◌, true, Option, Some, None, length, refl, sym, ap, ◌∙◌}
use Rattle.cl_runs.specs.TaskTiming.{System, timing_at, IsSound}
use Rattle.cl_resp.specs.{declared.question.Question.Question, ByPhase.response_by_phase, Question.tight_question_of, Response.{Response, response_to}}
use Rattle.cl_resp.proofs.{LeastAnswers.least_is_found, LeastRound.asked_comes_round, AnsweredSooner.tight_by_phase}
use Rattle.cl_bound.specs.Answers.{answer_with, answer_at, is_late}
use Rattle.cl_tight.specs.TightAnswers.{tight_answers_of}
use Rattle.cl_tight.proofs.TightTasks.{phased_answer}
use Rattle.cl_analyse.proofs.LateTasks.{late_question}
use Rattle.cl_explain.specs.Promises.{HasNoResponse}
use Rattle.cl_explain.proofs.Unanswered.{not_some, unanswered}

none_answered : (found : Option Response) → is_late (answer_with found) ≡ true → found ≡ None
none_answered None late = refl
none_answered (Some response) late = absurd cc

module _ (system : System) (sound : IsSound system) (task : ℕ) (is : task < length system.tasks) (none : response_by_phase system task ≡ None) where
  abbrev question : Question
  question = tight_question_of system (timing_at system task)

  tight_is_late : (answer : Option Response) → response_to question ≡ answer → is_late (answer_with answer) ≡ true
  tight_is_late None given = refl
  tight_is_late (Some response) given =
      let (by_phase, settled, no_later) = tight_by_phase system sound task response.response
      (record { is_task = is; window = response.window; answered = given }) in
      absurd (not_some _ (sym settled.answered ∙ none))

  no_response : HasNoResponse system task
  no_response = record {
    by_phase = none;
    unanswered = unanswered least_is_found asked_comes_round system sound task is none;
    no_fixpoint = late_question question (tight_is_late (response_to question) refl);
  }

-- a task that is late by phases
pub late_by_phase : (system : System) → IsSound system → (task : ℕ) → task < length system.tasks
    → is_late (answer_at (tight_answers_of system) task) ≡ true → HasNoResponse system task
late_by_phase system sound task is late =
    no_response system sound task is (none_answered (response_by_phase system task) (sym (ap is_late (phased_answer system task is)) ∙ late))
