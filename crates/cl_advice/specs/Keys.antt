-- The keys of a table, and the first that the reader doesn't know.
use Rattle.std.specs.Prelude.{ℕ, Bool, if◌then◌else◌, List, [], ◌∷◌, Option, Some, None, is_some}
use Rattle.std.specs.List.{list_any}
use Rattle.std.specs.Option.{option_map, option_and_then}
use Rattle.std.specs.Str.{bytes_eq}
use Rattle.toml.specs.Data.{Data, Members, no_members, member, get_member}
use Rattle.cl_model.specs.{declared.{place.{Part.Part, Key.Key, Place.Place}, refusal.Code.Code}, Place.key_text, Reading.{top_keys, version_in, Checks.keys_of, Meanings.word_if, Tables.{StimulusForm, stimulus_forms, core_fields, label_fields, task_fields, runnable_fields, chain_fields}}}
use Rattle.cl_model.specs.Reading.Tables.{requirement_fields}
use Rattle.cl_model.specs.declared.place.Part.TheVariants as part
use Rattle.cl_model.specs.declared.place.Key.TheVariants as key
use Rattle.cl_model.specs.declared.refusal.Code.TheVariants as code
use Rattle.cl_advice.specs.Sites.{table_around, value_in}

-- the keys that a kind of stimulus adds to `name` and `kind`, none where the kind isn't known
abbrev pub form_keys : Option StimulusForm → List Key
form_keys None = []
form_keys (Some form) = keys_of form.fields

-- the keys that a table of a part may have, by the version of the file
abbrev pub part_keys : (version : ℕ) → Part → Members → List Key
part_keys version part.Top ms = top_keys
part_keys version part.Core ms = keys_of core_fields
part_keys version part.Stimulus ms = key.Name ∷ key.Kind ∷ form_keys (word_if (stimulus_forms version) key.Kind ms)
part_keys version part.Label ms = keys_of label_fields
part_keys version part.Task ms = keys_of task_fields
part_keys version part.Chain ms = keys_of chain_fields
part_keys version part.Requirement ms = keys_of (requirement_fields version)

-- the keys that the table around a place may have
abbrev pub known_keys : (version : ℕ) → Place → Members → List Key
known_keys version place ms = if is_some place.sub then keys_of runnable_fields else part_keys version place.part ms

-- whether a word is one of the keys
abbrev pub is_listed : List Key → List ℕ → Bool
is_listed keys word = list_any (λ key. bytes_eq (key_text key) word) keys

-- the first key of a table that is none of these
abbrev pub unknown_among : List Key → Members → Option (List ℕ)
unknown_among keys no_members = None
unknown_among keys (member word d ms) = if is_listed keys word then unknown_among keys ms else Some word

-- the first key of the table around a place that the reader doesn't know there
abbrev pub unknown_key : Members → Place → Option (List ℕ)
unknown_key ms place = option_and_then (λ table. unknown_among (known_keys (version_in ms) place table) table) (table_around ms place)

-- what stands at that key
abbrev pub unknown_value : Members → Place → Option Data
unknown_value ms place =
    option_and_then (λ table. option_and_then (λ word. get_member word table) (unknown_among (known_keys (version_in ms) place table) table))
    (table_around ms place)

-- the key that a refusal is about: that of its place, and of M4 the unknown one
abbrev pub refused_key : Members → Place → Code → Option (List ℕ)
refused_key ms place code.M4 = unknown_key ms place
refused_key ms place _ = option_map key_text place.key

-- what stands there
abbrev pub refused_value : Members → Place → Code → Option Data
refused_value ms place code.M4 = unknown_value ms place
refused_value ms place _ = value_in ms place
