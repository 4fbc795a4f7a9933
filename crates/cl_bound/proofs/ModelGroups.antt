-- The chains of a model whose tasks aren't late, and the responses of these tasks, in the model's system.
use Rattle.std.proofs.Common.{◌≡◌, ℕ, ◌<◌, false, List, length, get_or, ap, ◌∙◌, arith}
use Rattle.std.specs.Prelude.{All}
use Rattle.std.proofs.lemmas.List.{get_or_default}
use Rattle.std.proofs.lemmas.List.Elements.{All-weaker}
use Rattle.std.proofs.Math.ListN.{length-map}
use Rattle.cl_model.specs.{declared.{model.SystemModel.SystemModel, group.Group.Group}, Groups.IsGroupOf}
use Rattle.cl_runs.specs.SystemOf.{system_of}
use Rattle.cl_runs.proofs.ModelSystem.{count_is}
use Rattle.cl_hop.specs.Timings.{IsGroupOfTask}
use Rattle.cl_hop.proofs.ModelGroups.{group_of_system}
use Rattle.cl_resp.specs.Response.{IsSettled}
use Rattle.cl_bound.specs.{declared.answer.TaskAnswer.{TaskAnswer, TheVariants.Late}, Answers.{answers_of, answer_to, answer_at, is_late, response_in, NoneIsLate}, SettledChains.IsSettledChain}
use Rattle.cl_bound.proofs.SettledTasks.{settled_task}

-- a chain of a model, none of whose tasks is late
pub settled_chain : (model : SystemModel) (chain : List Group) → All (IsGroupOf model) chain → NoneIsLate (answers_of (system_of model)) chain
    → IsSettledChain (system_of model) chain
settled_chain model chain are timely =
    record { groups_of = All-weaker (IsGroupOf model) (IsGroupOfTask (system_of model)) (group_of_system model) chain are; settled = timely }

-- the response of a task, from its answer in the list of all answers
pub response_found : (model : SystemModel) (answers : List TaskAnswer) (i : ℕ) (answer : TaskAnswer) (response : ℕ) → i < length model.tasks
    → answers ≡ answers_of (system_of model) → answer ≡ get_or answers i answer → response ≡ response_in answer
    → response ≡ response_in (answer_at (answers_of (system_of model)) i)
unfolding answers_of
response_found model answers i answer response lt are at is =
    let within : i < length answers = omega (arith, lt, count_is model, ap length are, length-map (system_of model).tasks (answer_to (system_of model))) in
    is ∙ ap response_in (at ∙ get_or_default answers i answer Late within ∙ ap (λ (list : List TaskAnswer). answer_at list i) are)

pub settled_response : (model : SystemModel) (answers : List TaskAnswer) (i : ℕ) (answer : TaskAnswer) (response : ℕ) → i < length model.tasks
    → answers ≡ answers_of (system_of model) → is_late (answer_at answers i) ≡ false → answer ≡ get_or answers i answer → response ≡ response_in answer
    → IsSettled (system_of model) i response
settled_response model answers i answer response lt are timely at is =
    rw (response_found model answers i answer response lt are at is)
    (settled_task (system_of model) i (omega (arith, lt, count_is model)) (rw are at timely))
