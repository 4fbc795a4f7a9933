-- The text of what is decided of a model: how many lines say what, and then a line for each task and each requirement.
use Rattle.std.specs.Prelude.{◌≡◌, ℕ, ◌+◌, Bool, true, false, List, [], ◌++◌, length, count_by, codes, decimal, Option, Some, None}
use Rattle.std.specs.List.{flat_map, range_with_len}
use Rattle.cl_text.specs.Line.{line}
use Rattle.cl_model.specs.{declared.{model.SystemModel.SystemModel, chain.RequirementDef.RequirementDef}, Kinds.requirement_word, ByNumber.{task_at, deadline_of, requirement_at}}
use Rattle.cl_verify.specs.{declared.decision.{TaskDecision.TaskDecision, Decision.Decision, Decisions.Decisions}, Decisions.{task_decision_at, decision_at, AreDecisionsOf}}
use Rattle.cl_verify.specs.declared.decision.TaskDecision.TheVariants as task
use Rattle.cl_verify.specs.declared.decision.Decision.TheVariants as requirement

-- ---- the sum

abbrev pub is_task_met : TaskDecision → Bool
is_task_met (task.Met response) = true
is_task_met task.Broken = false
is_task_met (task.Unshown seen) = false

abbrev pub is_task_broken : TaskDecision → Bool
is_task_broken (task.Met response) = false
is_task_broken task.Broken = true
is_task_broken (task.Unshown seen) = false

abbrev pub is_task_unshown : TaskDecision → Bool
is_task_unshown (task.Met response) = false
is_task_unshown task.Broken = false
is_task_unshown (task.Unshown seen) = true

abbrev pub is_requirement_met : Decision → Bool
is_requirement_met (requirement.Met bound) = true
is_requirement_met (requirement.Broken bound seen) = false
is_requirement_met (requirement.Unshown bound seen) = false
is_requirement_met (requirement.Late task) = false

abbrev pub is_requirement_broken : Decision → Bool
is_requirement_broken (requirement.Met bound) = false
is_requirement_broken (requirement.Broken bound seen) = true
is_requirement_broken (requirement.Unshown bound seen) = false
is_requirement_broken (requirement.Late task) = false

abbrev pub is_requirement_unshown : Decision → Bool
is_requirement_unshown (requirement.Met bound) = false
is_requirement_unshown (requirement.Broken bound seen) = false
is_requirement_unshown (requirement.Unshown bound seen) = true
is_requirement_unshown (requirement.Late task) = true

-- how many lines say met, how many broken, and how many unshown
abbrev pub met_count : Decisions → ℕ
met_count decisions = count_by is_task_met decisions.tasks + count_by is_requirement_met decisions.requirements

abbrev pub broken_count : Decisions → ℕ
broken_count decisions = count_by is_task_broken decisions.tasks + count_by is_requirement_broken decisions.requirements

abbrev pub unshown_count : Decisions → ℕ
unshown_count decisions = count_by is_task_unshown decisions.tasks + count_by is_requirement_unshown decisions.requirements

unfoldable pub sum_line : Decisions → List ℕ
sum_line decisions =
    line (codes "sum met " ++ decimal (met_count decisions) ++ codes " broken " ++ decimal (broken_count decisions)
    ++ codes " unshown " ++ decimal (unshown_count decisions))

-- ---- lines

-- what a run shows, if it shows anything
abbrev pub seen_words : Option ℕ → List ℕ
seen_words None = []
seen_words (Some ticks) = codes " seen " ++ decimal ticks

-- a number and what is allowed, or that there is no number
abbrev pub value_of_words : (value most : ℕ) → List ℕ
value_of_words value most = decimal value ++ codes " of " ++ decimal most

abbrev pub none_of_words : (most : ℕ) → List ℕ
none_of_words most = codes "none of " ++ decimal most

-- what a line says of a task that is to finish by this deadline
unfoldable pub task_decision_words : (deadline : ℕ) → TaskDecision → List ℕ
task_decision_words deadline (task.Met response) = value_of_words response deadline ++ codes " met"
task_decision_words deadline task.Broken = none_of_words deadline ++ codes " broken"
task_decision_words deadline (task.Unshown seen) = none_of_words deadline ++ codes " unshown" ++ seen_words seen

-- the line of a task
unfoldable pub task_decision_line : SystemModel → TaskDecision → (task : ℕ) → List ℕ
task_decision_line model decision task =
    line (codes "task " ++ (task_at model task).name ++ codes " response " ++ task_decision_words (deadline_of model task) decision)

-- what a line says of a requirement of at most so much
unfoldable pub decision_words : SystemModel → (most : ℕ) → Decision → List ℕ
decision_words model most (requirement.Met bound) = value_of_words bound most ++ codes " met"
decision_words model most (requirement.Broken bound seen) = value_of_words bound most ++ codes " broken" ++ seen_words (Some seen)
decision_words model most (requirement.Unshown bound seen) = value_of_words bound most ++ codes " unshown" ++ seen_words seen
decision_words model most (requirement.Late task) = none_of_words most ++ codes " unshown by " ++ (task_at model task).name

-- the line of a requirement
unfoldable pub decision_line : SystemModel → RequirementDef → Decision → List ℕ
decision_line model required decision =
    line (codes "requirement " ++ required.name ++ codes " " ++ required.chain ++ codes " " ++ requirement_word required.kind ++ codes " "
    ++ decision_words model required.most decision)

-- ---- the text

-- the lines of all tasks, in file order
abbrev pub task_decision_lines : SystemModel → List TaskDecision → List ℕ
task_decision_lines model decisions =
    flat_map (λ task. task_decision_line model (task_decision_at decisions task) task) (range_with_len 0 (length model.tasks))

-- the lines of all requirements, in file order
abbrev pub decision_lines : SystemModel → List Decision → List ℕ
decision_lines model decisions =
    flat_map (λ i. decision_line model (requirement_at model i) (decision_at decisions i)) (range_with_len 0 (length model.requirements))

-- the text of decisions on a model
unfoldable pub verify_text : SystemModel → Decisions → List ℕ
verify_text model decisions =
    line (codes "chainlat verify 2")
    ++ sum_line decisions
    ++ task_decision_lines model decisions.tasks
    ++ decision_lines model decisions.requirements

-- the text says what is decided of the model
pub record IsVerifyTextOf (model : SystemModel) (text : List ℕ) : Type 0 where
  pub decisions : Decisions
  pub decided : AreDecisionsOf model decisions
  pub printed : text ≡ verify_text model decisions
