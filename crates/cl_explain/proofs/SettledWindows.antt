-- The windows of answers, and what their questions' demands add up to.
use Rattle.std.proofs.Common.{◌≡◌, ℕ, ◌+◌, ◌≤◌, refl, sym, ap, ◌∙◌, arith}
use Rattle.std.specs.Prelude.{Option, Some, None}
use Rattle.std.specs.Option.{option_map}
use Rattle.cl_stim.specs.declared.arrivals.TheConstants.{MOST_WIDTH}
use Rattle.cl_resp.specs.{declared.question.Question.Question, Question.IsQuestionInRange, Response.{Response, busy_window, response_to}}
use Rattle.cl_resp.proofs.Windows.{window_is_least}
use Rattle.cl_bound.specs.{declared.answer.TaskAnswer.TheVariants.{Settled, Late}, Answers.answer_with}

-- the answer of a window, where there is one
abbrev pub response_with : Question → Option ℕ → Option Response
response_with question window = option_map (λ (width : ℕ). record { window = width; response = question.jitter + width }) window

settled_with : (question : Question) (answer : Response) (window : Option ℕ) → Settled answer ≡ answer_with (response_with question window) → window ≡ Some answer.window
settled_with question answer None is = cc
settled_with question answer (Some width) is =
    let same : answer ≡ record { window = width; response = question.jitter + width } = cc in
    sym (ap (λ (a : Response). Some a.window) same)

-- the window of an answer is the window of its question
pub settled_window : (question : Question) (answer : Response) → Settled answer ≡ answer_with (response_to question) → busy_window question ≡ Some answer.window
settled_window question answer is = settled_with question answer (busy_window question) is

response_of : (question : Question) (answer : Response) (window : Option ℕ) → Settled answer ≡ answer_with (response_with question window) → answer.response ≡ question.jitter + answer.window
response_of question answer None is = cc
response_of question answer (Some width) is =
    let same : answer ≡ record { window = width; response = question.jitter + width } = cc in
    ap (λ (a : Response). a.response) same ∙ ap (λ n. question.jitter + n) (sym (ap (λ (a : Response). a.window) same))

-- its response counts from arrival
pub settled_response : (question : Question) (answer : Response) → Settled answer ≡ answer_with (response_to question) → answer.response ≡ question.jitter + answer.window
settled_response question answer is = response_of question answer (busy_window question) is

none_with : (question : Question) (window : Option ℕ) → Late ≡ answer_with (response_with question window) → window ≡ None
none_with question None is = refl
none_with question (Some width) is = cc

-- a late task has no window
pub late_window : (question : Question) → Late ≡ answer_with (response_to question) → busy_window question ≡ None
late_window question is = none_with question (busy_window question) is

pub narrow_window : (question : Question) → IsQuestionInRange question → (answer : Response) → Settled answer ≡ answer_with (response_to question) → answer.window ≤ MOST_WIDTH
narrow_window question in_range answer is =
    let window = window_is_least question answer.window (settled_window question answer is) in
    omega (arith, window.within, in_range.deadline)
