-- The document that is written of a model means the model.
use Rattle.std.proofs.Common.{◌≡◌, ℕ, ◌<◌, ◌≤◌, Bool, true, false, cond, leb, List, [], length, get_or, map, All, Some, Ok, refl, ap, ◌∙◌}
use Rattle.std.proofs.lemmas.List.Folds.{list_any_at}
use Rattle.toml.specs.Data.{table, Members}
use Rattle.cl_model.specs.declared.{limits.TheConstants.{MOST_CORES, MOST_STIMULI, MOST_LABELS, MOST_TASKS, MOST_CHAINS, MOST_REQUIREMENTS}, chain.RequirementDef.RequirementDef, model.SystemModel.SystemModel, place.{Key.Key, Part.Part, Place.Place}, refusal.Refusal.Refusal}
use Rattle.cl_model.specs.{AreNamed.AreNamed, Kinds.is_delay, Place.{section_place, at_item}, Ranges.IsInRange, Reading.{sections, section_checks, top_keys, is_version, model_checks, model_meaning, model_in, document_of, model_of, version_of, Checks.{an_array, a_table, found_or}}}
use Rattle.cl_model.specs.Reading.{Checks.{value_at, fields_checks}, Meanings.{list_of, table_of, number_in}, Tables.{core_meaning, stimulus_meaning, label_meaning, task_meaning, chain_meaning, requirement_meaning, core_fields, stimulus_entry_checks, label_fields, task_fields}}
use Rattle.cl_model.specs.{Reading.Tables.{chain_fields, requirement_fields}, Refusals.answer}
use Rattle.cl_model.specs.declared.place.Key.TheVariants as key
use Rattle.cl_model.specs.declared.place.Part.TheVariants as part
use Rattle.cl_model.proofs.NoRefusals.{AllNone, none_in_order}
use Rattle.cl_write.specs.{Entries.{Entry, number, tables, members_with}, Writing.{has_delay, version_for, core_table_entries, label_entries, stimulus_entries, task_entries, chain_entries, requirement_entries, model_entries, document}}
use Rattle.cl_write.proofs.{Found.{entry_at, found, only}, Passing.{unless_empty_passes, unless_empty_means}, ReadTables.{core_passes, core_means, label_passes, label_means, stimulus_passes, stimulus_means, task_passes, task_means, chain_passes, chain_means, Says, requirement_passes}}
use Rattle.cl_write.proofs.ReadTables.{requirement_means}

-- what stands at a key of the document
at : (model : SystemModel) (k : Key) → value_at k (members_with (model_entries model)) ≡ entry_at k (model_entries model)
at model k = found k (model_entries model) refl

-- a section passes where each of its tables does
section_passes : {X : Type 0} (entries : X → List Entry) (limit : ℕ) (asked : Place → Members → List Refusal) (p : Part) (xs : List X) → length xs ≤ limit
    → All (λ x. (place : Place) → asked place (members_with (entries x)) ≡ []) xs → found_or [] (an_array limit at_item (a_table asked) (section_place p)) (tables entries xs) ≡ []
section_passes entries limit asked p xs short all = unless_empty_passes (λ x. table (members_with (entries x))) limit at_item (a_table asked) (section_place p) xs short all

-- and means its items where each of its tables means its item
section_means : {X : Type 0} (entries : X → List Entry) (meaning : Members → X) (xs : List X) → All (λ x. meaning (members_with (entries x)) ≡ x) xs
    → found_or [] (λ d. map (λ entry. meaning (table_of entry)) (list_of d)) (tables entries xs) ≡ xs
section_means entries meaning xs means = unless_empty_means (λ x. table (members_with (entries x))) (λ d. meaning (table_of d)) xs means

-- ---- the version that is written

-- it is known
known_version : (late : Bool) → is_version (Some (number (cond late 3 2))) ≡ true
known_version true = refl
known_version false = refl

-- it has bursts
bursts_from_2 : (late : Bool) → leb 2 (cond late 3 2) ≡ true
bursts_from_2 true = refl
bursts_from_2 false = refl

has_bursts : (model : SystemModel) → leb 2 (version_for model) ≡ true
has_bursts model = bursts_from_2 (has_delay model)

-- and the kind of each requirement of the model
says_kinds : (model : SystemModel) (k : ℕ) (d : RequirementDef) → k < length model.requirements → Says (version_for model) (get_or model.requirements k d).kind
says_kinds model k d lt is =
    let late : has_delay model ≡ true = list_any_at (λ (r : RequirementDef). is_delay r.kind) model.requirements k d lt is in
    ap (λ (late : Bool). leb 3 (cond late 3 2)) late

-- ---- the document

module _ (model : SystemModel) (in_range : IsInRange model) (named : AreNamed model) where
  sections_pass : AllNone (map (section_checks (version_for model) (members_with (model_entries model))) sections)
  sections_pass = (
    rw (at model key.Core) (section_passes core_table_entries MOST_CORES (fields_checks core_fields) part.Core model.cores in_range.counts.cores
        (λ k d lt. core_passes (get_or model.cores k d) (named.cores k d lt))),
    (
      rw (at model key.Stimulus) (section_passes stimulus_entries MOST_STIMULI (stimulus_entry_checks (version_for model)) part.Stimulus model.stimuli in_range.counts.stimuli
          (λ k d lt. stimulus_passes (version_for model) (has_bursts model) (get_or model.stimuli k d) (in_range.stimuli k d lt) (named.stimuli k d lt))),
      (
        rw (at model key.Label) (section_passes label_entries MOST_LABELS (fields_checks label_fields) part.Label model.labels in_range.counts.labels
            (λ k d lt. label_passes (get_or model.labels k d) (named.labels k d lt))),
        (
          rw (at model key.Task) (section_passes task_entries MOST_TASKS (fields_checks task_fields) part.Task model.tasks in_range.counts.tasks
              (λ k d lt. task_passes (get_or model.tasks k d) (in_range.tasks k d lt) (named.tasks k d lt))),
          (
            rw (at model key.Chain) (section_passes chain_entries MOST_CHAINS (fields_checks chain_fields) part.Chain model.chains in_range.counts.chains
                (λ k d lt. chain_passes (get_or model.chains k d) (in_range.chains k d lt) (named.chains k d lt))),
            (
              rw (at model key.Requirement) (section_passes requirement_entries MOST_REQUIREMENTS (fields_checks (requirement_fields (version_for model))) part.Requirement model.requirements in_range.counts.requirements
                  (λ k d lt. requirement_passes (version_for model) (get_or model.requirements k d) (says_kinds model k d lt) (in_range.requirements k d lt) (named.requirements k d lt))),
              tt,
            ),
          ),
        ),
      ),
    ),
  )

  document_passes : model_checks (members_with (model_entries model)) ≡ []
  unfolding model_checks
  document_passes =
      rw (at model key.Format, at model key.Version, known_version (has_delay model), only top_keys (model_entries model) refl)
      (none_in_order (map (section_checks (version_for model) (members_with (model_entries model))) sections) sections_pass)

document_means : (model : SystemModel) → model_meaning (members_with (model_entries model)) ≡ model
unfolding model_meaning
document_means model =
    rw (
      at model key.Version,
      at model key.Core,
      at model key.Stimulus,
      at model key.Label,
      at model key.Task,
      at model key.Chain,
      at model key.Requirement,
      section_means core_table_entries core_meaning model.cores (λ k d lt. core_means (get_or model.cores k d)),
      section_means stimulus_entries (stimulus_meaning (version_for model)) model.stimuli (λ k d lt. stimulus_means (version_for model) (has_bursts model) (get_or model.stimuli k d)),
      section_means label_entries label_meaning model.labels (λ k d lt. label_means (get_or model.labels k d)),
      section_means task_entries task_meaning model.tasks (λ k d lt. task_means (get_or model.tasks k d)),
      section_means chain_entries chain_meaning model.chains (λ k d lt. chain_means (get_or model.chains k d)),
      section_means requirement_entries (requirement_meaning (version_for model)) model.requirements
          (λ k d lt. requirement_means (version_for model) (get_or model.requirements k d) (says_kinds model k d lt)),
    ) refl

-- bytes that write the document are read as the model
pub reads_as_model : (bytes : List ℕ) (model : SystemModel) → IsInRange model → AreNamed model → document_of bytes ≡ Some (document model) → model_of bytes ≡ Ok model
unfolding model_of document
reads_as_model bytes model in_range named is =
    ap model_in is ∙ ap (λ checks. answer checks (model_meaning (document model))) (document_passes model in_range named) ∙ ap (λ m. Ok m) (document_means model)

-- and their version is the one that is written
pub reads_as_version : (bytes : List ℕ) (model : SystemModel) → document_of bytes ≡ Some (document model) → version_of bytes ≡ version_for model
unfolding version_of document
reads_as_version bytes model is = rw is (ap (λ v. found_or 0 number_in v) (at model key.Version))
