-- The reading of a model file: the model that its bytes write, or the first refusal.
-- Source: TOML 1.1, as the crate `toml` defines it.
pub mod Checks
pub mod Meanings
pub mod Tables
use Rattle.std.specs.Prelude.{ℕ, Bool, false, ◌==◌, ◌||◌, if◌then◌else◌, pos, List, [], ◌∷◌, map, Option, Some, None, Result, Err, codes}
use Rattle.std.specs.Str.{is_utf8, bytes_eq}
use Rattle.std.specs.Option.{option_map_or}
use Rattle.toml.specs.{Data.{Data, string, integer, Members}, Parse.parse_document}
use Rattle.cl_model.specs.{declared.{limits.TheConstants.{MOST_CORES, MOST_STIMULI, MOST_LABELS, MOST_TASKS, MOST_CHAINS, MOST_REQUIREMENTS}, place.{Part.Part, Key.Key}, refusal.{Code.TheVariants.{M1, M2, M3, M4}, Refusal.Refusal}, model.SystemModel.SystemModel}, Place.section_place}
use Rattle.cl_model.specs.{Place.{top, at_key, at_item}, Refusals.{unless, in_order, answer}, Reading.{Checks.{Check, a_table, a_table_of, an_array, value_at, found_or, has_only}, Meanings.{number_at, tables_at}, Tables.{core_fields, core_meaning, stimulus_entry_checks, stimulus_meaning}}}
use Rattle.cl_model.specs.Reading.Tables.{label_fields, label_meaning, task_fields, task_meaning, chain_fields, chain_meaning, requirement_fields, requirement_meaning}
use Rattle.cl_model.specs.declared.place.Part.TheVariants as part
use Rattle.cl_model.specs.declared.place.Key.TheVariants as key

-- a section of the file: an array of tables, whose entries are checked by the version of the file
pub record Section : Type 0 where
  pub key : Key
  pub part : Part
  pub limit : ℕ
  pub entry : (version : ℕ) → Check

-- the sections in reading order
abbrev pub sections : List Section
sections =
    record { key = key.Core; part = part.Core; limit = MOST_CORES; entry = λ version. a_table_of core_fields }
    ∷ record { key = key.Stimulus; part = part.Stimulus; limit = MOST_STIMULI; entry = λ version. a_table (stimulus_entry_checks version) }
    ∷ record { key = key.Label; part = part.Label; limit = MOST_LABELS; entry = λ version. a_table_of label_fields }
    ∷ record { key = key.Task; part = part.Task; limit = MOST_TASKS; entry = λ version. a_table_of task_fields }
    ∷ record { key = key.Chain; part = part.Chain; limit = MOST_CHAINS; entry = λ version. a_table_of chain_fields }
    ∷ record { key = key.Requirement; part = part.Requirement; limit = MOST_REQUIREMENTS; entry = λ version. a_table_of (requirement_fields version) }
    ∷ []

-- nothing where a section is absent, and else the checks of its array
abbrev pub section_checks : (version : ℕ) → Members → Section → List Refusal
section_checks version ms section =
    found_or [] (an_array section.limit at_item (section.entry version) (section_place section.part)) (value_at section.key ms)

-- the keys of the top level
abbrev pub top_keys : List Key
top_keys = key.Format ∷ key.Version ∷ map (λ section. section.key) sections

-- the string `chainlat`
abbrev pub is_format : Option Data → Bool
is_format (Some (string word)) = bytes_eq word (codes "chainlat")
is_format _ = false

-- the whole number 1, 2 or 3
abbrev pub is_version : Option Data → Bool
is_version (Some (integer (pos n))) = (n == 1) || (n == 2) || (n == 3)
is_version _ = false

-- the version of a document: the whole number at the key `version`, 0 where none is there
abbrev pub version_in : Members → ℕ
version_in = number_at key.Version

-- M2, M3, M4 at the top, and then the sections in order
unfoldable pub model_checks : Members → List Refusal
model_checks ms =
    in_order (unless (is_format (value_at key.Format ms)) M2 (at_key key.Format top)
    ∷ unless (is_version (value_at key.Version ms)) M3 (at_key key.Version top)
    ∷ unless (has_only top_keys ms) M4 top
    ∷ map (section_checks (version_in ms) ms) sections)

-- what the document means where nothing is refused
unfoldable pub model_meaning : Members → SystemModel
model_meaning ms = record {
  cores = tables_at core_meaning key.Core ms;
  stimuli = tables_at (stimulus_meaning (version_in ms)) key.Stimulus ms;
  labels = tables_at label_meaning key.Label ms;
  tasks = tables_at task_meaning key.Task ms;
  chains = tables_at chain_meaning key.Chain ms;
  requirements = tables_at (requirement_meaning (version_in ms)) key.Requirement ms;
}

-- the document that the bytes write, if they are UTF-8 and write one
unfoldable pub document_of : List ℕ → Option Members
document_of bytes = if is_utf8 bytes then parse_document bytes else None

-- the version that the bytes write, 0 where they write none
unfoldable pub version_of : List ℕ → ℕ
version_of bytes = option_map_or version_in (document_of bytes) 0

-- M1 where there is no document, and else the first refusal of its checks or its meaning
abbrev pub model_in : Option Members → Result SystemModel Refusal
model_in None = Err (record { code = M1; place = top })
model_in (Some ms) = answer (model_checks ms) (model_meaning ms)

-- the model that the bytes write, or the first refusal
unfoldable pub model_of : List ℕ → Result SystemModel Refusal
model_of bytes = model_in (document_of bytes)
