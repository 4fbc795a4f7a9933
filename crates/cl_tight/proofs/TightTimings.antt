-- The response by phases of a task that isn't late, by which what the bounds know of its groups is made.
use Rattle.std.proofs.Common.{◌≡◌, ℕ, ◌<◌, ◌≤◌, false, List, length, get_or, map, take, ap, ◌∙◌, arith}
use Rattle.std.proofs.lemmas.List.{get_or_default, length-take}
use Rattle.std.proofs.Math.ListN.{length-map}
use Rattle.std.proofs.lemmas.List.FromFn.{length-map-range_with_len}
use Rattle.cl_model.specs.declared.{group.Group.Group, model.SystemModel.SystemModel}
use Rattle.cl_runs.specs.{TaskTiming.{System, timing_at, IsSound}, SystemOf.system_of, ExecutionTimes.greatest_execution}
use Rattle.cl_runs.proofs.ModelSystem.{count_is}
use Rattle.cl_hop.specs.declared.group_timing.GroupTiming.{GroupTiming}
use Rattle.cl_resp.specs.ByPhase.{IsSettledByPhase}
use Rattle.cl_resp.proofs.LeastParts.{settled_timely, execution_in_response}
use Rattle.cl_bound.specs.{declared.answer.TaskAnswer.{TaskAnswer, TheVariants.Late}, Answers.{is_late, response_in, answer_at}}
use Rattle.cl_tight.specs.TightAnswers.{tight_answer_to, tight_answers_of, tight_response}
use Rattle.cl_tight.proofs.TightTasks.{tight_task}

-- a response by phases holds the greatest execution time of its task and is within the deadline
module _ (system : System) (sound : IsSound system) (i response : ℕ) (settled : IsSettledByPhase system i response) where
  pub holds_execution : greatest_execution (timing_at system i) ≤ response
  holds_execution = omega (arith, execution_in_response system sound i response settled)

  pub by_deadline : response ≤ (timing_at system i).deadline
  by_deadline = (settled_timely system sound i response settled).by_deadline

-- there is an answer for each task of a model
pub answer_count : (model : SystemModel) (answers : List TaskAnswer) → answers ≡ tight_answers_of (system_of model) → length answers ≡ length model.tasks
unfolding tight_answers_of
answer_count model answers are =
    ap length are ∙ length-map-range_with_len (tight_answer_to (system_of model)) 0 (length (system_of model).tasks) ∙ count_is model

-- the response of a task of a model, from its answer in the list of all answers
pub tight_found : (model : SystemModel) (answers : List TaskAnswer) (i : ℕ) (answer : TaskAnswer) (response : ℕ) → i < length model.tasks
    → answers ≡ tight_answers_of (system_of model) → answer ≡ get_or answers i answer → response ≡ response_in answer
    → response ≡ tight_response (system_of model) i
tight_found model answers i answer response lt are at is =
    let within : i < length answers = omega (arith, lt, answer_count model answers are) in
    is ∙ ap response_in (at ∙ get_or_default answers i answer Late within ∙ ap (λ (list : List TaskAnswer). answer_at list i) are)

pub tight_of_model : (model : SystemModel) (answers : List TaskAnswer) (i : ℕ) (answer : TaskAnswer) (response : ℕ) → i < length model.tasks
    → answers ≡ tight_answers_of (system_of model) → is_late (answer_at answers i) ≡ false → answer ≡ get_or answers i answer → response ≡ response_in answer
    → IsSettledByPhase (system_of model) i response
tight_of_model model answers i answer response lt are timely at is =
    rw (tight_found model answers i answer response lt are at is)
    (tight_task (system_of model) i (omega (arith, lt, count_is model)) (rw are at timely))

-- what is known of the first so many groups is of as many
pub count_of_first : (timing : Group → GroupTiming) (groups : List Group) (count : ℕ) → count < length groups
    → length (map timing (take count groups)) ≡ count
count_of_first timing groups count within = length-map (take count groups) timing ∙ omega (arith, within, length-take count groups)
