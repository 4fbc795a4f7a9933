-- The other entries of a model that a refused one clashes with.
use Rattle.std.specs.Prelude.{ℕ, ◌+◌, Bool, ◌&&◌, ◌==◌, List, [], ◌++◌, slice_get, Option, Some, None, codes}
use Rattle.std.specs.List.{find}
use Rattle.std.specs.Option.{option_map, option_and_then}
use Rattle.cl_text.specs.Line.{line}
use Rattle.cl_model.specs.{declared.{place.{Part.Part, Key.Key, Place.Place}, refusal.{Code.Code, Refusal.Refusal}, task.{RunnableDef.RunnableDef, TaskDef.TaskDef}, model.SystemModel.SystemModel}, Named.{same_name, has_name, all_runnables}, Place.part_text}
use Rattle.cl_model.specs.declared.place.Part.TheVariants as part
use Rattle.cl_model.specs.declared.place.Key.TheVariants as key
use Rattle.cl_model.specs.declared.refusal.Code.TheVariants as code
use Rattle.cl_advice.specs.declared.with.Sought.{Sought, TheVariants.{Writer, Named}}

-- the item of a list at a number, where there are both
abbrev pub item_if : {X : Type 0} → List X → Option ℕ → Option X
item_if items n = option_and_then (slice_get items) n

-- the line of one, where there is one
abbrev pub with_line : (section : List ℕ) → Option (List ℕ) → List ℕ
with_line section None = []
with_line section (Some name) = line (codes "with " ++ section ++ codes " " ++ name)

-- M20 to M23, M25, M26: the earlier entry has the name of the refused one
abbrev pub namesake_line : {X : Type 0} → Part → (X → List ℕ) → List X → Place → List ℕ
namesake_line p name items place = with_line (part_text p) (option_map name (item_if items place.item))

-- the task and the runnable of a model that a place lies in
abbrev pub task_of_place : SystemModel → Place → Option TaskDef
task_of_place model place = item_if model.tasks place.item

abbrev pub runnable_of_place : SystemModel → Place → Option RunnableDef
runnable_of_place model place = option_and_then (λ task. item_if task.runnables place.sub) (task_of_place model place)

-- a label that a runnable reads or writes, by the key and the spot of a place
abbrev pub labels_under : Option Key → RunnableDef → List (List ℕ)
labels_under (Some key.Reads) runnable = runnable.reads
labels_under _ runnable = runnable.writes

abbrev pub label_of_place : SystemModel → Place → Option (List ℕ)
label_of_place model place = option_and_then (λ runnable. item_if (labels_under place.key runnable) place.spot) (runnable_of_place model place)

-- M31: the first task of the same core and priority
abbrev pub shares_priority : TaskDef → TaskDef → Bool
shares_priority task other = same_name task.core other.core && (other.priority == task.priority)

abbrev pub rival_of : SystemModel → TaskDef → Option TaskDef
rival_of model task = find (shares_priority task) model.tasks

abbrev pub rival_line : SystemModel → Place → List ℕ
rival_line model place = with_line (codes "task") (option_map (λ other. other.name) (option_and_then (rival_of model) (task_of_place model place)))

-- whether a runnable writes the label of a name, or has the name
abbrev pub is_sought : Sought → (name : List ℕ) → RunnableDef → Bool
is_sought Writer name runnable = has_name name runnable.writes
is_sought Named name runnable = same_name name runnable.name

-- the first runnable of a model that does
abbrev pub found_by : SystemModel → Sought → (name : List ℕ) → Option RunnableDef
found_by model sought name = find (is_sought sought name) (all_runnables model.tasks)

-- M40: the first runnable that writes the label
abbrev pub writer_of : SystemModel → List ℕ → Option RunnableDef
writer_of model label = found_by model Writer label

abbrev pub writer_line : SystemModel → Place → List ℕ
writer_line model place =
    with_line (codes "runnable") (option_map (λ writer. writer.name) (option_and_then (writer_of model) (label_of_place model place)))

-- M45: the runnables of a hop of a chain, the writer and the reader
abbrev pub step_name : SystemModel → Place → (behind : ℕ) → Option (List ℕ)
step_name model place behind =
    option_and_then (λ chain. item_if chain.runnables (option_map (λ k. k + behind) place.spot)) (item_if model.chains place.item)

abbrev pub handed_lines : SystemModel → Place → List ℕ
handed_lines model place = with_line (codes "runnable") (step_name model place 0) ++ with_line (codes "runnable") (step_name model place 1)

-- the lines by the code of a refusal
abbrev pub lines_with : SystemModel → Place → Code → List ℕ
lines_with model place code.M20 = namesake_line part.Core (λ core. core.name) model.cores place
lines_with model place code.M21 = namesake_line part.Stimulus (λ stimulus. stimulus.name) model.stimuli place
lines_with model place code.M22 = namesake_line part.Label (λ label. label.name) model.labels place
lines_with model place code.M23 = namesake_line part.Task (λ task. task.name) model.tasks place
lines_with model place code.M24 = with_line (codes "runnable") (option_map (λ runnable. runnable.name) (runnable_of_place model place))
lines_with model place code.M25 = namesake_line part.Chain (λ chain. chain.name) model.chains place
lines_with model place code.M26 = namesake_line part.Requirement (λ requirement. requirement.name) model.requirements place
lines_with model place code.M31 = rival_line model place
lines_with model place code.M33 = with_line (codes "stimulus") (option_map (λ task. task.stimulus) (task_of_place model place))
lines_with model place code.M39 = with_line (codes "label") (label_of_place model place)
lines_with model place code.M40 = writer_line model place
lines_with model place code.M45 = handed_lines model place
lines_with model place _ = []

-- no lines where there is no model
abbrev pub with_lines : Option SystemModel → Refusal → List ℕ
with_lines None refusal = []
with_lines (Some model) refusal = lines_with model refusal.place refusal.code
