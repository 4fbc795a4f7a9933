-- The window and the response of a task that is settled, by its question or its tight one: the response is the jitter
-- and the window, and lies between the greatest execution time and the deadline.
use Rattle.std.proofs.Common.{◌≡◌, ℕ, ◌+◌, ◌<◌, ◌≤◌, Option, Some, None, List, [], ◌∷◌, length, ap, arith}
use Rattle.std.specs.Prelude.{sum_by, All}
use Rattle.std.specs.Option.{option_map}
use Rattle.std.proofs.lemmas.Option.{same_Some}
use Rattle.std.proofs.lemmas.List.Elements.{All-head}
use Rattle.std.proofs.lemmas.List.Sums.{sum_by-cons}
use Rattle.cl_model.specs.Timing.{greatest_jitter}
use Rattle.cl_runs.specs.{TaskTiming.{TimeRange, System, timing_at, IsSound}, ExecutionTimes.greatest_execution}
use Rattle.cl_resp.specs.{declared.question.Question.Question, Question.{question_of, tight_question_of, AsksEnough}, Response.{Response, demand, busy_window, response_to, IsWindow, IsSettled, IsTightlySettled}}
use Rattle.cl_resp.proofs.{EnoughAsked.{asks_plain, asks_tight}, Windows.window_is_least}

-- the answer of a window, and what an answer says of the window
abbrev pub answer_of : (jitter width : ℕ) → Response
answer_of jitter width = record { window = width; response = jitter + width }

abbrev answer_in : (window response : ℕ) → Response
answer_in window response = record { window = window; response = response }

pub answer_parts : (jitter : ℕ) (answer : Response) (found : Option ℕ) → option_map (answer_of jitter) found ≡ Some answer
    → (found ≡ Some answer.window) × (answer.response ≡ jitter + answer.window)
answer_parts jitter answer None answered = cc
answer_parts jitter answer (Some width) answered =
    let same : answer_of jitter width ≡ answer = same_Some _ _ answered in
    let window : width ≡ answer.window = ap (λ (r : Response). r.window) same in
    (ap Some window, omega (arith, window, ap (λ (r : Response). r.response) same))

-- a question that asks enough of a task of the system has this response
pub record IsAnswered (system : System) (task response : ℕ) : Type 0 where
  pub is_task : task < length system.tasks
  pub question : Question
  pub asks : AsksEnough system (timing_at system task) question
  pub window : ℕ
  pub answered : response_to question ≡ Some (answer_in window response)

module _ (system : System) (task response : ℕ) (answer : IsAnswered system task response) where
  parts : (busy_window answer.question ≡ Some answer.window) × (response ≡ answer.question.jitter + answer.window)
  parts = answer_parts answer.question.jitter (answer_in answer.window response) (busy_window answer.question) answer.answered

  pub answered_window : IsWindow answer.question answer.window
  answered_window = window_is_least answer.question answer.window parts.0

  -- the response is the jitter and the window
  pub answered_response : response ≡ greatest_jitter (timing_at system task).pattern + answer.window
  answered_response = omega (arith, parts.1, answer.asks.jitter)

  -- it holds the jitter and the greatest execution time
  execution_in_answer : greatest_jitter (timing_at system task).pattern + greatest_execution (timing_at system task) ≤ response
  unfolding demand
  execution_in_answer = omega (arith, answered_response, answered_window.enough, answer.asks.time)

  -- and it is within the deadline
  answer_in_deadline : IsSound system → response ≤ (timing_at system task).deadline
  answer_in_deadline sound = omega (
    arith,
    answered_response,
    answered_window.within,
    answer.asks.deadline,
    answer.asks.jitter,
    (sound.tasks task answer.is_task).above_jitter,
  )

module _ (system : System) (task response : ℕ) (settled : IsSettled system task response) where
  pub settled_answer : IsAnswered system task response
  settled_answer = record {
    is_task = settled.is_task;
    question = question_of system (timing_at system task);
    asks = asks_plain system (timing_at system task);
    window = settled.window;
    answered = settled.answered;
  }

  pub execution_in_response : greatest_jitter (timing_at system task).pattern + greatest_execution (timing_at system task) ≤ response
  execution_in_response = execution_in_answer system task response settled_answer

  pub response_in_deadline : IsSound system → response ≤ (timing_at system task).deadline
  response_in_deadline = answer_in_deadline system task response settled_answer

module _ (system : System) (task response : ℕ) (settled : IsTightlySettled system task response) where
  pub tight_answer : IsAnswered system task response
  tight_answer = record {
    is_task = settled.is_task;
    question = tight_question_of system (timing_at system task);
    asks = asks_tight system (timing_at system task);
    window = settled.window;
    answered = settled.answered;
  }

  pub execution_in_tight : greatest_jitter (timing_at system task).pattern + greatest_execution (timing_at system task) ≤ response
  execution_in_tight = execution_in_answer system task response tight_answer

  pub tight_in_deadline : IsSound system → response ≤ (timing_at system task).deadline
  tight_in_deadline = answer_in_deadline system task response tight_answer

some_execution : (ranges : List TimeRange) → 0 < length ranges → All (λ (range : TimeRange). (1 ≤ range.least) × (range.least ≤ range.greatest)) ranges
    → 1 ≤ sum_by (λ (range : TimeRange). range.greatest) ranges
some_execution [] some times = absurd (omega (arith, some))
some_execution (range ∷ ranges) some times =
    let first = All-head (λ (r : TimeRange). (1 ≤ r.least) × (r.least ≤ r.greatest)) range ranges times in
    omega (arith, first.0, first.1, sum_by-cons (λ (r : TimeRange). r.greatest) range ranges)

-- each task of a sound system takes 1 tick or more
pub tasks_take_time : (system : System) → IsSound system → (task : ℕ) → task < length system.tasks → 1 ≤ (question_of system (timing_at system task)).time
unfolding question_of greatest_execution
tasks_take_time system sound task is =
    some_execution (timing_at system task).ranges (sound.tasks task is).some_runnable (sound.tasks task is).times
