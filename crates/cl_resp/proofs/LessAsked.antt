-- A question that asks no more than another is answered no later: a window of the other holds its demand, too.
use Rattle.std.proofs.Common.{◌≡◌, ℕ, ◌+◌, ◌≤◌, Option, Some, None, refl, ap, arith}
use Rattle.std.specs.Option.{option_map}
use Rattle.cl_runs.specs.TaskTiming.{System, timing_at}
use Rattle.cl_resp.specs.{declared.question.Question.Question, Question.{question_of, tight_question_of}, Response.{Response, busy_window, response_to, IsSettled, IsTightlySettled, AsksNoMore, IsAnsweredBy}}
use Rattle.cl_resp.proofs.{EnoughAsked.tight_asks_no_more, SettledTasks.{answer_of, answer_parts}, Windows.{window_is_least, no_window_holds}}

pub answered_no_later : (question other : Question) → AsksNoMore question other
    → (latest : Response) → response_to other ≡ Some latest → IsAnsweredBy question latest
answered_no_later question other less latest answered = go (busy_window question) refl
  where
    parts : (busy_window other ≡ Some latest.window) × (latest.response ≡ other.jitter + latest.window)
    parts = answer_parts other.jitter latest (busy_window other) answered

    go : (found : Option ℕ) → busy_window question ≡ found → IsAnsweredBy question latest
    go None none =
        let window = window_is_least other latest.window parts.0 in
        absurd (omega (
          arith,
          no_window_holds question none latest.window window.some (omega (arith, window.within, less.deadline, less.jitter)),
          less.needs latest.window window.some,
          window.enough,
        ))
    go (Some width) found =
        let window = window_is_least other latest.window parts.0 in
        let least : width ≤ latest.window = (window_is_least question width found).least latest.window window.some
        (omega (arith, less.needs latest.window window.some, window.enough)) in
        record {
          answer = answer_of question.jitter width;
          answered = ap (λ (window : Option ℕ). option_map (answer_of question.jitter) window) found;
          no_wider = least;
          no_later = omega (arith, least, parts.1, less.jitter);
        }

-- so a task that is settled is settled by its tight question, too, and no later
pub tight_no_later : (system : System) (task response : ℕ) → IsSettled system task response
    → (tight : ℕ) × IsTightlySettled system task tight × (tight ≤ response)
tight_no_later system task response settled =
    let less = answered_no_later (tight_question_of system (timing_at system task)) (question_of system (timing_at system task))
    (tight_asks_no_more system (timing_at system task)) (record { window = settled.window; response = response }) settled.answered in (
      less.answer.response,
      record { is_task = settled.is_task; window = less.answer.window; answered = less.answered },
      less.no_later,
    )
