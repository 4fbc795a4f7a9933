-- The checks of the names and of the stimuli of a model.
use Rattle.std.specs.Prelude.{ℕ, ◌*◌, Bool, false, nat_lt, nat_le, List, [], ◌∷◌, ◌++◌, take}
use Rattle.cl_model.specs.declared.{place.{Part.Part, Place.Place}, refusal.{Code.{Code, TheVariants.{M20, M21, M22, M23, M24, M25, M26, M27, M28, M47}}, Refusal.Refusal}, stimulus.{StimulusDef.StimulusDef, StimulusKind.{StimulusKind, TheVariants.{Periodic, Sporadic, Burst}}}}
use Rattle.cl_model.specs.{declared.{task.TaskDef.TaskDef, model.SystemModel.SystemModel}, Named.{has_name, core_names, stimulus_names, label_names, task_names, chain_names, requirement_names, runnable_names, all_runnables}, Place.{entry_of, at_key, at_sub}, Refusals.{when, in_order}}
use Rattle.cl_model.specs.Refusals.{each}
use Rattle.cl_model.specs.declared.place.Part.TheVariants as part
use Rattle.cl_model.specs.declared.place.Key.TheVariants as key

-- ---- names

-- name n stands neither before the list nor earlier in it
abbrev pub repeat_check : Code → (ℕ → Place) → List (List ℕ) → List (List ℕ) → ℕ → List ℕ → List Refusal
repeat_check code place before names n name = when (has_name name (before ++ take n names)) code (place n)

-- no name of the list stands before it or earlier in it
abbrev pub repeats : Code → (ℕ → Place) → List (List ℕ) → List (List ℕ) → List Refusal
repeats code place before names = each (repeat_check code place before names) names

-- M20 to M23, M25, M26: no entry of a section has the name of an earlier one
abbrev pub section_repeats : Code → Part → List (List ℕ) → List Refusal
section_repeats code section names = repeats code (λ i. at_key key.Name (entry_of section i)) [] names

-- M24: no runnable of task i has the name of an earlier one, of any task
abbrev pub runnable_repeats : List TaskDef → ℕ → TaskDef → List Refusal
runnable_repeats tasks i task =
    repeats M24 (λ p. at_key key.Name (at_sub p (entry_of part.Task i))) (runnable_names (all_runnables (take i tasks))) (runnable_names task.runnables)

-- M20 to M26: names are apart by section
unfoldable pub name_checks : SystemModel → List Refusal
name_checks model =
    in_order (section_repeats M20 part.Core (core_names model)
    ∷ section_repeats M21 part.Stimulus (stimulus_names model)
    ∷ section_repeats M22 part.Label (label_names model)
    ∷ section_repeats M23 part.Task (task_names model)
    ∷ each (runnable_repeats model.tasks) model.tasks
    ∷ section_repeats M25 part.Chain (chain_names model)
    ∷ section_repeats M26 part.Requirement (requirement_names model)
    ∷ [])

-- ---- stimuli

-- whether the offset isn't below the period
abbrev pub has_late_offset : StimulusKind → Bool
has_late_offset (Periodic period offset jitter) = nat_le period offset
has_late_offset (Sporadic least greatest) = false
has_late_offset (Burst period offset count distance) = nat_le period offset

-- whether the least distance exceeds the greatest
abbrev pub has_no_distance : StimulusKind → Bool
has_no_distance (Periodic period offset jitter) = false
has_no_distance (Sporadic least greatest) = nat_lt greatest least
has_no_distance (Burst period offset count distance) = false

-- whether a burst doesn't fit its period
abbrev pub has_long_burst : StimulusKind → Bool
has_long_burst (Periodic period offset jitter) = false
has_long_burst (Sporadic least greatest) = false
has_long_burst (Burst period offset count distance) = nat_lt period (count * distance)

-- M27, for stimulus i
abbrev pub offset_check : ℕ → StimulusDef → List Refusal
offset_check i stimulus = when (has_late_offset stimulus.kind) M27 (at_key key.Offset (entry_of part.Stimulus i))

-- M28, for stimulus i
abbrev pub distance_check : ℕ → StimulusDef → List Refusal
distance_check i stimulus = when (has_no_distance stimulus.kind) M28 (at_key key.Greatest (entry_of part.Stimulus i))

-- M47, for stimulus i
abbrev pub burst_check : ℕ → StimulusDef → List Refusal
burst_check i stimulus = when (has_long_burst stimulus.kind) M47 (at_key key.Distance (entry_of part.Stimulus i))

-- M27 for each stimulus, then M28 for each, and then M47 for each
unfoldable pub stimulus_checks : SystemModel → List Refusal
stimulus_checks model = in_order (each offset_check model.stimuli ∷ each distance_check model.stimuli ∷ each burst_check model.stimuli ∷ [])
