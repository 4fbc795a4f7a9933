-- What a key asks for by its field's check.
use Rattle.std.specs.Prelude.{◌≡◌, ℕ, List}
use Rattle.toml.specs.Data.{Members}
use Rattle.cl_model.specs.{declared.{place.{Part.Part, Place.Place}, refusal.Refusal.Refusal}, Reading.{Checks.{Check, Field, a_name, a_number, a_boolean, a_word, an_array, a_table}, Tables.{access_words, stimulus_forms, requirement_kind_words}}}
use Rattle.cl_advice.specs.{declared.want.Want.Want, Wanted.key_want}
use Rattle.cl_advice.specs.declared.want.Want.TheVariants as want

-- the check is that of a kind of value: its range, its words or its limit; the word of the format has no field
abbrev pub IsCheckOf : Want → Check → Type 0
IsCheckOf want.Name check = check ≡ a_name
IsCheckOf (want.Number low high) check = check ≡ a_number low high
IsCheckOf want.Format check = ⊥
IsCheckOf want.Access check = check ≡ a_word access_words
IsCheckOf (want.Kind version) check = check ≡ a_word (stimulus_forms version)
IsCheckOf (want.RequirementKind version) check = check ≡ a_word (requirement_kind_words version)
IsCheckOf want.Boolean check = check ≡ a_boolean
IsCheckOf (want.Array limit) check = (place_in : ℕ → Place → Place) × (member : Check) × (check ≡ an_array limit place_in member)
IsCheckOf want.Table check = (asked : Place → Members → List Refusal) × (check ≡ a_table asked)

-- the key of a field asks for what its check wants
abbrev pub AsksByCheck : (version : ℕ) → Part → Field → Type 0
AsksByCheck version part field = IsCheckOf (key_want version part field.key) field.check
