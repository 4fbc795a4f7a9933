-- How each edit is written: its words, separated by one blank, on a line of its own. Times are in ticks.
use Rattle.std.specs.Prelude.{ℕ, Bool, true, false, Option, Some, None, List, [], ◌∷◌, codes, decimal}
use Rattle.std.specs.List.{flat_map, join_with_byte}
use Rattle.cl_model.specs.{declared.{task.{RunnableDef.RunnableDef, TaskDef.TaskDef}, chain.{ChainDef.ChainDef, RequirementDef.RequirementDef}}, Kinds.{access_word, requirement_word}}
use Rattle.cl_edit.specs.declared.edit.{NamedPriority.NamedPriority, Edit.{Edit, TheVariants.{Range, Whole, Period, Offset, Jitter, Distances, Burst, Deadline, Swap, Priorities, Move, Kind, AddTask, DropTask, AddChain, DropChain, Requirement, DropRequirement, Report, Tighten, Verify}}}

-- ---- single words: a name is its bytes, and a number its decimal

-- whether a runnable is whole
abbrev pub flag_word : Bool → List ℕ
flag_word true = codes "yes"
flag_word false = codes "no"

-- a deadline, or that there is none
abbrev pub deadline_word : Option ℕ → List ℕ
deadline_word (Some ticks) = decimal ticks
deadline_word None = codes "*"

-- names with a comma between each two, or that there is none
abbrev pub names_word : List (List ℕ) → List ℕ
names_word [] = codes "*"
names_word (name ∷ names) = join_with_byte 0x2C (name ∷ names)

-- ---- the words of an edit

-- a runnable of a new task
abbrev pub runnable_words : RunnableDef → List (List ℕ)
runnable_words r = r.name ∷ decimal r.least ∷ decimal r.greatest ∷ names_word r.reads ∷ names_word r.writes ∷ []

-- a new task and its runnables
abbrev pub task_edit_words : TaskDef → List (List ℕ)
task_edit_words t = t.name ∷ t.core ∷ t.stimulus ∷ decimal t.priority ∷ access_word t.access ∷ deadline_word t.deadline
    ∷ flat_map runnable_words t.runnables

-- a new chain
abbrev pub chain_edit_words : ChainDef → List (List ℕ)
chain_edit_words c = c.name ∷ names_word c.runnables ∷ names_word c.labels ∷ []

-- a task and the priority that it gets
abbrev pub priority_words : NamedPriority → List (List ℕ)
priority_words p = p.task ∷ decimal p.priority ∷ []

-- a requirement
abbrev pub requirement_words : RequirementDef → List (List ℕ)
requirement_words r = r.name ∷ r.chain ∷ requirement_word r.kind ∷ decimal r.most ∷ []

abbrev pub edit_words : Edit → List (List ℕ)
edit_words (Range runnable least greatest) = codes "range" ∷ runnable ∷ decimal least ∷ decimal greatest ∷ []
edit_words (Whole runnable whole) = codes "whole" ∷ runnable ∷ flag_word whole ∷ []
edit_words (Period stimulus period) = codes "period" ∷ stimulus ∷ decimal period ∷ []
edit_words (Offset stimulus offset) = codes "offset" ∷ stimulus ∷ decimal offset ∷ []
edit_words (Jitter stimulus jitter) = codes "jitter" ∷ stimulus ∷ decimal jitter ∷ []
edit_words (Distances stimulus least greatest) = codes "distances" ∷ stimulus ∷ decimal least ∷ decimal greatest ∷ []
edit_words (Burst stimulus period count distance) = codes "burst" ∷ stimulus ∷ decimal period ∷ decimal count ∷ decimal distance ∷ []
edit_words (Deadline task deadline) = codes "deadline" ∷ task ∷ deadline_word deadline ∷ []
edit_words (Swap one other) = codes "swap" ∷ one ∷ other ∷ []
edit_words (Priorities priorities) = codes "priorities" ∷ flat_map priority_words priorities
edit_words (Move task core priority) = codes "move" ∷ task ∷ core ∷ decimal priority ∷ []
edit_words (Kind task access) = codes "access" ∷ task ∷ access_word access ∷ []
edit_words (AddTask task) = codes "task" ∷ task_edit_words task
edit_words (DropTask task) = codes "drop-task" ∷ task ∷ []
edit_words (AddChain chain) = codes "chain" ∷ chain_edit_words chain
edit_words (DropChain chain) = codes "drop-chain" ∷ chain ∷ []
edit_words (Requirement requirement) = codes "requirement" ∷ requirement_words requirement
edit_words (DropRequirement requirement) = codes "drop-requirement" ∷ requirement ∷ []
edit_words Report = codes "report" ∷ []
edit_words Tighten = codes "tighten" ∷ []
edit_words Verify = codes "verify" ∷ []

-- the line of an edit, without its end
unfoldable pub edit_text : Edit → List ℕ
edit_text edit = join_with_byte 0x20 (edit_words edit)
