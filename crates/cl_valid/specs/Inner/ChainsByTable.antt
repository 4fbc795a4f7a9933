-- The checks of chains and requirements over tables: the names of the runnables and of the chains, and what each
-- runnable reads and writes.
use Rattle.std.specs.Prelude.{◌≡◌, ℕ, List, [], Bool, ◌||◌, not, ◌∷◌, ◌+◌, map, slice_get, Option, Some}
use Rattle.std.specs.Option.{option_and_then}
use Rattle.cl_model.specs.{declared.{chain.{ChainDef.ChainDef, RequirementDef.RequirementDef}, place.Place.Place, refusal.{Code.TheVariants.{M44, M45, M46}, Refusal.Refusal}}, Named.{has_name, is_some_and, index_of, entry_named}, Place.{entry_of, at_key, at_spot}, Refusals.{when, unless}}
use Rattle.cl_model.specs.{Refusals.{in_order, each}, Validity.lengths_check}
use Rattle.cl_model.specs.declared.place.Part.TheVariants as part
use Rattle.cl_model.specs.declared.place.Key.TheVariants as key
use Rattle.cl_valid.specs.declared.runnables.LabelUse.{LabelUse}

-- what step k of a chain reads and writes
abbrev pub use_of_step : List (List ℕ) → List LabelUse → ChainDef → ℕ → Option LabelUse
use_of_step runnables uses chain k = option_and_then (λ name. entry_named name runnables uses) (slice_get chain.runnables k)

-- these are the numbers of the runnables of these names
abbrev pub AreNumbersOf : (runnables names : List (List ℕ)) → List ℕ → Type 0
AreNumbersOf runnables names numbers = map (λ number. Some number) numbers ≡ map (λ name. index_of name runnables) names

-- what step k reads and writes, where the steps have these numbers
abbrev pub use_of_number : List LabelUse → List ℕ → ℕ → Option LabelUse
use_of_number uses numbers k = option_and_then (slice_get uses) (slice_get numbers k)

-- whether the label isn't written by a step, or isn't read by the next one
abbrev pub misses_use : Option LabelUse → Option LabelUse → List ℕ → Bool
misses_use writer reader label =
    is_some_and writer (λ writer. not (has_name label writer.writes)) || is_some_and reader (λ reader. not (has_name label reader.reads))

-- M44
abbrev pub known_step_check : List (List ℕ) → Place → ℕ → List ℕ → List Refusal
known_step_check runnables place k name = unless (has_name name runnables) M44 (at_spot k place)

abbrev pub known_steps_check : List (List ℕ) → ℕ → ChainDef → List Refusal
known_steps_check runnables i chain = each (known_step_check runnables (at_key key.Runnables (entry_of part.Chain i))) chain.runnables

-- M45
unfoldable pub use_hop_check : List (List ℕ) → List LabelUse → ChainDef → Place → ℕ → List ℕ → List Refusal
use_hop_check runnables uses chain place k label =
    when (misses_use (use_of_step runnables uses chain k) (use_of_step runnables uses chain (k + 1)) label) M45 (at_spot k place)

-- the same, where the steps have these numbers
unfoldable pub number_hop_check : List LabelUse → List ℕ → Place → ℕ → List ℕ → List Refusal
number_hop_check uses numbers place k label = when (misses_use (use_of_number uses numbers k) (use_of_number uses numbers (k + 1)) label) M45 (at_spot k place)

abbrev pub use_hops_check : List (List ℕ) → List LabelUse → ℕ → ChainDef → List Refusal
use_hops_check runnables uses i chain = each (use_hop_check runnables uses chain (at_key key.Labels (entry_of part.Chain i))) chain.labels

-- M43 to M45
unfoldable pub use_chain_check : List (List ℕ) → List LabelUse → ℕ → ChainDef → List Refusal
use_chain_check runnables uses i chain =
    in_order (lengths_check i chain ∷ known_steps_check runnables i chain ∷ use_hops_check runnables uses i chain ∷ [])

-- M46
abbrev pub known_chain_check : List (List ℕ) → ℕ → RequirementDef → List Refusal
known_chain_check chains i requirement = unless (has_name requirement.chain chains) M46 (at_key key.Chain (entry_of part.Requirement i))
