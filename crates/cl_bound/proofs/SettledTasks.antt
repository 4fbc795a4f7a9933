-- A task that isn't late is settled.
use Rattle.std.proofs.Common.{◌≡◌, ℕ, ◌<◌, ◌≤◌, false, Option, Some, None, length, refl, sym, ap, ◌∙◌, subst, arith}
use Rattle.std.proofs.lemmas.Bool.{true≢false}
use Rattle.std.proofs.lemmas.List.{get_or-map}
use Rattle.cl_runs.specs.TaskTiming.{System, timing_at, no_timing}
use Rattle.cl_resp.specs.{Question.question_of, Response.{Response, response_to, IsSettled}}
use Rattle.cl_resp.proofs.SettledTasks.{settled_answer, answered_window, answered_response}
use Rattle.cl_bound.specs.{declared.answer.TaskAnswer.{TaskAnswer, TheVariants.Late}, Answers.{answer_with, answer_to, answers_of, is_late, response_in, answer_at}}

-- the response in an answer that isn't late is the one that it was made with
answered : (response : Option Response) (answer : TaskAnswer) → answer ≡ answer_with response → is_late answer ≡ false
    → (window : ℕ) × (response ≡ Some (record { window = window; response = response_in answer }))
answered (Some response) answer is timely = (
  response.window,
  subst (λ (a : TaskAnswer). Some response ≡ Some (record { window = response.window; response = response_in a })) (sym is) refl,
)
answered None answer is timely = absurd (true≢false (sym (ap is_late is) ∙ timely))

-- a task that isn't late is settled
pub settled_task : (system : System) (i : ℕ) → i < length system.tasks → is_late (answer_at (answers_of system) i) ≡ false
    → IsSettled system i (response_in (answer_at (answers_of system) i))
unfolding answers_of
settled_task system i is timely =
    let (window, found) = answered (response_to (question_of system (timing_at system i))) (answer_at (answers_of system) i)
    (get_or-map (answer_to system) system.tasks i no_timing Late is) timely in
    record { is_task = is; window = window; answered = found }

-- its response is within its deadline, in a sound system and any other
pub in_deadline : (system : System) (i response : ℕ) → IsSettled system i response → response ≤ (timing_at system i).deadline
in_deadline system i response settled =
    let answer = settled_answer system i response settled in
    let window = answered_window system i response answer in
    omega (arith, answered_response system i response answer, window.some, window.within, answer.asks.deadline, answer.asks.jitter)
