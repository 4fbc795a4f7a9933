-- The windows of the tight questions of tasks, as their answers have them.
use Rattle.std.proofs.Common.{◌≡◌, ℕ, ◌+◌, ◌<◌, Option, Some, None, List, length, get_or, map, refl, ap, ◌∙◌}
use Rattle.std.specs.Option.{option_map}
use Rattle.std.proofs.lemmas.List.{get_or-map}
use Rattle.std.proofs.Math.ListN.{length-map}
use Rattle.cl_runs.specs.TaskTiming.{Timing, System, timing_at, no_timing}
use Rattle.cl_resp.specs.{Question.tight_question_of, Response.{busy_window, response_to}}
use Rattle.cl_bound.specs.{declared.answer.TaskAnswer.TaskAnswer, Answers.answer_with}
use Rattle.cl_tight.specs.Inner.Windows.{window_in}

-- an answer has the window that it was made with
window_is : (jitter : ℕ) (found : Option ℕ) → window_in (answer_with (option_map (λ window. record { window = window; response = jitter + window }) found)) ≡ found
window_is jitter None = refl
window_is jitter (Some window) = refl

-- the answer to a tight question
abbrev plain_answer : System → Timing → TaskAnswer
plain_answer system timing = answer_with (response_to (tight_question_of system timing))

-- and so have those of all tasks
pub plain_window : (system : System) (answers : List TaskAnswer) → answers ≡ map (plain_answer system) system.tasks
    → (task : ℕ) (d : TaskAnswer) → task < length system.tasks
    → window_in (get_or answers task d) ≡ busy_window (tight_question_of system (timing_at system task))
plain_window system answers are task d within =
    let question = tight_question_of system (timing_at system task) in
    ap (λ (list : List TaskAnswer). window_in (get_or list task d)) are
    ∙ ap window_in (get_or-map (plain_answer system) system.tasks task no_timing d within)
    ∙ window_is question.jitter (busy_window question)

pub plain_count : (system : System) (answers : List TaskAnswer) → answers ≡ map (plain_answer system) system.tasks → length answers ≡ length system.tasks
plain_count system answers are = ap (λ (list : List TaskAnswer). length list) are ∙ length-map system.tasks (plain_answer system)
