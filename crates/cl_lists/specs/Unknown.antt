-- What is said of an edit that names what isn't there: which name, and which names there are.
use Rattle.std.specs.Prelude.{ℕ, not, List, [], ◌∷◌, ◌++◌, map, codes}
use Rattle.std.specs.List.{find}
use Rattle.std.specs.Option.{option_map_or}
use Rattle.cl_text.specs.Line.{line}
use Rattle.cl_model.specs.{declared.model.SystemModel.SystemModel, Named.{has_name, all_runnables, runnable_names, stimulus_names, task_names, chain_names, requirement_names}}
use Rattle.cl_edit.specs.declared.edit.{NamedPriority.NamedPriority, Edit.{Edit, TheVariants.{Range, Whole, Period, Offset, Jitter, Distances, Burst, Deadline, Swap, Priorities, Move, Kind, DropTask, DropChain, DropRequirement}}}
use Rattle.cl_advice.specs.Known.{known_names}

-- a name of some kind that isn't among those that there are, and these
unfoldable pub unknown_lines : (kind : List ℕ) → (there : List (List ℕ)) → (name : List ℕ) → List ℕ
unknown_lines kind there name = line (codes "unknown " ++ kind ++ codes " " ++ name) ++ known_names there

-- of the first name that isn't among them, and nothing where all are
abbrev pub first_unknown : (kind : List ℕ) → (there : List (List ℕ)) → (asked : List (List ℕ)) → List ℕ
first_unknown kind there asked = option_map_or (unknown_lines kind there) (find (λ name. not (has_name name there)) asked) []

-- what an edit asks for by name
abbrev pub unknown_text : SystemModel → Edit → List ℕ
unknown_text model (Range runnable least greatest) = first_unknown (codes "runnable") (runnable_names (all_runnables model.tasks)) (runnable ∷ [])
unknown_text model (Whole runnable whole) = first_unknown (codes "runnable") (runnable_names (all_runnables model.tasks)) (runnable ∷ [])
unknown_text model (Period stimulus period) = first_unknown (codes "stimulus") (stimulus_names model) (stimulus ∷ [])
unknown_text model (Offset stimulus offset) = first_unknown (codes "stimulus") (stimulus_names model) (stimulus ∷ [])
unknown_text model (Jitter stimulus jitter) = first_unknown (codes "stimulus") (stimulus_names model) (stimulus ∷ [])
unknown_text model (Distances stimulus least greatest) = first_unknown (codes "stimulus") (stimulus_names model) (stimulus ∷ [])
unknown_text model (Burst stimulus period count distance) = first_unknown (codes "stimulus") (stimulus_names model) (stimulus ∷ [])
unknown_text model (Deadline task deadline) = first_unknown (codes "task") (task_names model) (task ∷ [])
unknown_text model (Swap one other) = first_unknown (codes "task") (task_names model) (one ∷ other ∷ [])
unknown_text model (Priorities priorities) = first_unknown (codes "task") (task_names model) (map (λ (p : NamedPriority). p.task) priorities)
unknown_text model (Move task core priority) = first_unknown (codes "task") (task_names model) (task ∷ [])
unknown_text model (Kind task access) = first_unknown (codes "task") (task_names model) (task ∷ [])
unknown_text model (DropTask task) = first_unknown (codes "task") (task_names model) (task ∷ [])
unknown_text model (DropChain chain) = first_unknown (codes "chain") (chain_names model) (chain ∷ [])
unknown_text model (DropRequirement requirement) = first_unknown (codes "requirement") (requirement_names model) (requirement ∷ [])
unknown_text model edit = []
