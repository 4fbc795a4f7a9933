-- Which models are valid, and the first refusal of one that isn't.
use Rattle.std.specs.Prelude.{◌≡◌, ℕ, ◌+◌, Bool, ◌||◌, ◌==◌, not, List, [], ◌∷◌, length, slice_get, Option}
use Rattle.std.specs.Option.{option_and_then}
use Rattle.cl_model.specs.declared.place.Part.TheVariants as part
use Rattle.cl_model.specs.declared.place.Key.TheVariants as key
use Rattle.cl_model.specs.{declared.{place.Place.Place, refusal.{Code.TheVariants.{M43, M44, M45, M46}, Refusal.Refusal}, task.RunnableDef.RunnableDef, chain.{ChainDef.ChainDef, RequirementDef.RequirementDef}, model.SystemModel.SystemModel}, Named.{has_name, is_some_and, chain_names}}
use Rattle.cl_model.specs.{Named.{runnable_names, runnable_named, all_runnables}, Place.{entry_of, at_key, at_spot}, Ranges.IsInRange, Refusals.{when, unless, in_order, each, first}, ValidNames.{name_checks, stimulus_checks}, ValidTasks.{task_checks, deadline_checks}}

-- ---- chains and requirements

-- M44: step k of a chain is a known runnable
abbrev pub step_check : SystemModel → Place → ℕ → List ℕ → List Refusal
step_check model place k name = unless (has_name name (runnable_names (all_runnables model.tasks))) M44 (at_spot k place)

-- the runnable of step k of a chain
abbrev pub step_of : SystemModel → ChainDef → ℕ → Option RunnableDef
step_of model chain k = option_and_then (runnable_named model) (slice_get chain.runnables k)

-- whether the label isn't written by step k of a chain, or isn't read by the next step
abbrev pub misses_label : SystemModel → ChainDef → ℕ → List ℕ → Bool
misses_label model chain k label =
    is_some_and (step_of model chain k) (λ writer. not (has_name label writer.writes))
    || is_some_and (step_of model chain (k + 1)) (λ reader. not (has_name label reader.reads))

-- M45: label k of a chain is handed over
abbrev pub hop_check : SystemModel → ChainDef → Place → ℕ → List ℕ → List Refusal
hop_check model chain place k label = when (misses_label model chain k label) M45 (at_spot k place)

-- M43: a chain has one label fewer than runnables
abbrev pub lengths_check : ℕ → ChainDef → List Refusal
lengths_check i chain = unless (length chain.labels + 1 == length chain.runnables) M43 (at_key key.Labels (entry_of part.Chain i))

-- M43 to M45, for chain i
unfoldable pub chain_check : SystemModel → ℕ → ChainDef → List Refusal
chain_check model i chain =
    in_order (lengths_check i chain
    ∷ each (step_check model (at_key key.Runnables (entry_of part.Chain i))) chain.runnables
    ∷ each (hop_check model chain (at_key key.Labels (entry_of part.Chain i))) chain.labels
    ∷ [])

-- M46: requirement i names a chain
abbrev pub requirement_check : SystemModel → ℕ → RequirementDef → List Refusal
requirement_check model i requirement =
    unless (has_name requirement.chain (chain_names model)) M46 (at_key key.Chain (entry_of part.Requirement i))

-- ---- the whole model

-- all refusals of a model, in order
unfoldable pub refusals_of : SystemModel → List Refusal
refusals_of model =
    in_order (name_checks model
    ∷ stimulus_checks model
    ∷ task_checks model
    ∷ deadline_checks model
    ∷ each (chain_check model) model.chains
    ∷ each (requirement_check model) model.requirements
    ∷ [])

-- the first refusal of a model, if there is one
abbrev pub refusal_of : SystemModel → Option Refusal
refusal_of model = first (refusals_of model)

-- all counts and numbers are in range, and nothing is refused
pub record IsValid (model : SystemModel) : Type 0 where
  pub in_range : IsInRange model
  pub accepted : refusals_of model ≡ []
