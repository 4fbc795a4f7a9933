-- The names of the entries of a section are apart, and so are those of all runnables.
use Rattle.std.proofs.Common.{◌≡◌, ℕ, List, [], ◌∷◌, get_or, take}
use Rattle.cl_model.specs.{declared.{model.SystemModel.SystemModel, place.Place.Place, refusal.{Code.{Code, TheVariants.{M20, M21, M22, M23, M25, M26}}, Refusal.Refusal}}, Named.{has_name, core_names, stimulus_names, label_names, task_names, chain_names, requirement_names}}
use Rattle.cl_model.specs.{NameSets.AreDistinctNames, Place.{entry_of, at_key}, Refusals.each, ValidNames.{repeat_check, repeats, section_repeats, runnable_repeats, name_checks}, Validity.IsValid}
use Rattle.cl_model.specs.declared.place.Part.TheVariants as part
use Rattle.cl_model.specs.declared.place.Key.TheVariants as key
use Rattle.cl_model.proofs.{NoRefusals.{AllNone, all_none}, PassedChecks.names_pass, Refused.{when_none, each_none}}

-- names that don't repeat are apart
pub repeats_none : (code : Code) (place : ℕ → Place) (names : List (List ℕ)) → repeats code place [] names ≡ [] → AreDistinctNames names
repeats_none code place names none i lt =
    when_none (has_name (get_or names i []) (take i names)) code (place i) (each_none (repeat_check code place [] names) names i [] none lt)

-- M20 to M26, one by one
abbrev name_lists : SystemModel → List (List Refusal)
name_lists model =
    section_repeats M20 part.Core (core_names model)
    ∷ section_repeats M21 part.Stimulus (stimulus_names model)
    ∷ section_repeats M22 part.Label (label_names model)
    ∷ section_repeats M23 part.Task (task_names model)
    ∷ each (runnable_repeats model.tasks) model.tasks
    ∷ section_repeats M25 part.Chain (chain_names model)
    ∷ section_repeats M26 part.Requirement (requirement_names model)
    ∷ []

parts : (model : SystemModel) → name_checks model ≡ [] → AllNone (name_lists model)
unfolding name_checks
parts model none = all_none (name_lists model) none

pub cores_differ : (model : SystemModel) → name_checks model ≡ [] → AreDistinctNames (core_names model)
cores_differ model none = repeats_none M20 (λ i. at_key key.Name (entry_of part.Core i)) (core_names model) (parts model none).0

module _ (model : SystemModel) (valid : IsValid model) where
  pub cores_apart : AreDistinctNames (core_names model)
  cores_apart = cores_differ model (names_pass model valid)

  pub stimuli_apart : AreDistinctNames (stimulus_names model)
  stimuli_apart = repeats_none M21 (λ i. at_key key.Name (entry_of part.Stimulus i)) (stimulus_names model) (parts model (names_pass model valid)).1.0

  pub labels_apart : AreDistinctNames (label_names model)
  labels_apart = repeats_none M22 (λ i. at_key key.Name (entry_of part.Label i)) (label_names model) (parts model (names_pass model valid)).1.1.0

  pub tasks_apart : AreDistinctNames (task_names model)
  tasks_apart = repeats_none M23 (λ i. at_key key.Name (entry_of part.Task i)) (task_names model) (parts model (names_pass model valid)).1.1.1.0

  pub chains_apart : AreDistinctNames (chain_names model)
  chains_apart = repeats_none M25 (λ i. at_key key.Name (entry_of part.Chain i)) (chain_names model) (parts model (names_pass model valid)).1.1.1.1.1.0

  pub requirements_apart : AreDistinctNames (requirement_names model)
  requirements_apart = repeats_none M26 (λ i. at_key key.Name (entry_of part.Requirement i)) (requirement_names model) (parts model (names_pass model valid)).1.1.1.1.1.1.0

  -- M24
  pub runnables_pass : each (runnable_repeats model.tasks) model.tasks ≡ []
  runnables_pass = (parts model (names_pass model valid)).1.1.1.1.0
