-- What an edit makes of a model: the changed model, or the first refusal.
use Rattle.std.specs.Prelude.{Bool, true, false, ◌||◌, nat_lt, List, [], ◌∷◌, ◌++◌, length, Option, Some, None, Result, Ok, Err, ℕ}
use Rattle.std.specs.List.{flat_map}
use Rattle.cl_model.specs.{declared.{limits.TheConstants.{MOST_TASKS, MOST_CHAINS, MOST_REQUIREMENTS}, refusal.{Code.TheVariants.{M10, E2, E3}, Refusal.Refusal}, model.SystemModel.SystemModel, stimulus.StimulusKind.StimulusKind}, Named.{has_name, task_names, chain_names}}
use Rattle.cl_model.specs.{Named.{requirement_names, runnable_names, all_runnables, kind_named}, Place.{top, section_place}, Refusals.{refuse, unless, answer}, Validity.refusals_of, Kinds.is_periodic}
use Rattle.cl_model.specs.declared.place.Part.TheVariants as part
use Rattle.cl_model.specs.declared.stimulus.StimulusKind.TheVariants as pattern
use Rattle.cl_edit.specs.declared.edit.{NamedPriority.NamedPriority, Edit.{Edit, TheVariants.{Range, Whole, Period, Offset, Jitter, Distances, Burst, Deadline, Swap, Priorities, Move, Kind, AddTask, DropTask, AddChain, DropChain, Requirement, DropRequirement, Report, Tighten, Verify}}}
use Rattle.cl_edit.specs.Changing.{with_change, change_of}

-- ---- what an edit looks up

-- E2: a name that is looked up is there
abbrev pub found : (name : List ℕ) → (names : List (List ℕ)) → List Refusal
found name names = unless (has_name name names) E2 top

-- the names of the runnables of all tasks
abbrev pub all_names : SystemModel → List (List ℕ)
all_names model = runnable_names (all_runnables model.tasks)

-- E2, and E3: the stimulus is of a kind that the edit sets
abbrev pub kind_found : Option StimulusKind → (sets : StimulusKind → Bool) → List Refusal
kind_found None sets = refuse E2 top
kind_found (Some kind) sets = unless (sets kind) E3 top

-- sporadic, a burst
abbrev pub is_sporadic : StimulusKind → Bool
is_sporadic (pattern.Sporadic least greatest) = true
is_sporadic _ = false

abbrev pub is_burst : StimulusKind → Bool
is_burst (pattern.Burst period offset count distance) = true
is_burst _ = false

-- a kind that has an offset
abbrev pub has_offset : StimulusKind → Bool
has_offset (pattern.Sporadic least greatest) = false
has_offset _ = true

-- ---- the first checks: E2, E3 and M10

unfoldable pub edit_checks : SystemModel → Edit → List Refusal
edit_checks model (Range runnable least greatest) = found runnable (all_names model)
edit_checks model (Whole runnable whole) = found runnable (all_names model)
edit_checks model (Period stimulus period) = kind_found (kind_named model stimulus) is_periodic
edit_checks model (Offset stimulus offset) = kind_found (kind_named model stimulus) has_offset
edit_checks model (Jitter stimulus jitter) = kind_found (kind_named model stimulus) is_periodic
edit_checks model (Distances stimulus least greatest) = kind_found (kind_named model stimulus) is_sporadic
edit_checks model (Burst stimulus period count distance) = kind_found (kind_named model stimulus) is_burst
edit_checks model (Deadline task deadline) = found task (task_names model)
edit_checks model (Swap one other) = found one (task_names model) ++ found other (task_names model)
edit_checks model (Priorities priorities) = flat_map (λ (p : NamedPriority). found p.task (task_names model)) priorities
edit_checks model (Move task core priority) = found task (task_names model)
edit_checks model (Kind task access) = found task (task_names model)
edit_checks model (AddTask task) = unless (nat_lt (length model.tasks) MOST_TASKS) M10 (section_place part.Task)
edit_checks model (DropTask task) = found task (task_names model)
edit_checks model (AddChain chain) = unless (nat_lt (length model.chains) MOST_CHAINS) M10 (section_place part.Chain)
edit_checks model (DropChain chain) = found chain (chain_names model)
edit_checks model (Requirement requirement) = unless (has_name requirement.name (requirement_names model) || nat_lt (length model.requirements) MOST_REQUIREMENTS) M10 (section_place part.Requirement)
edit_checks model (DropRequirement requirement) = found requirement (requirement_names model)
edit_checks model Report = []
edit_checks model Tighten = []
edit_checks model Verify = []

-- ---- the change

-- the model with the change that an edit is which passes the first checks
unfoldable pub with_edit : SystemModel → Edit → SystemModel
with_edit model edit = with_change model (change_of model edit)

-- ---- the edited model

-- the first refusal of the checks of the edit and then of the changed model, or that model where nothing is refused
unfoldable pub edited : SystemModel → Edit → Result SystemModel Refusal
edited model edit = answer (edit_checks model edit ++ refusals_of (with_edit model edit)) (with_edit model edit)

-- the same of what is a model already, or refused
abbrev pub then_edited : Result SystemModel Refusal → Edit → Result SystemModel Refusal
then_edited (Ok model) edit = edited model edit
then_edited (Err refusal) edit = Err refusal

-- a list of edits in order, while none is refused
abbrev pub after_from : Result SystemModel Refusal → List Edit → Result SystemModel Refusal
after_from answer [] = answer
after_from answer (edit ∷ edits) = after_from (then_edited answer edit) edits

unfoldable pub after : SystemModel → List Edit → Result SystemModel Refusal
after model edits = after_from (Ok model) edits
