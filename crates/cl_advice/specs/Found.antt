-- The key that a refusal is about, and what stands there.
use Rattle.std.specs.Prelude.{ℕ, if◌then◌else◌, List, [], ◌++◌, length, Option, Some, None, codes, decimal}
use Rattle.std.specs.Fmt.{signed_decimal}
use Rattle.toml.specs.Data.{Data, string, integer, float, boolean, datetime, array, table, Members}
use Rattle.cl_text.specs.Line.{line}
use Rattle.cl_model.specs.{declared.{place.Place.Place, refusal.{Code.Code, Refusal.Refusal}, model.SystemModel.SystemModel}, Reading.Checks.members_of}
use Rattle.cl_model.specs.declared.refusal.Code.TheVariants as code
use Rattle.cl_advice.specs.{Shown.{shown, quoted}, Measured.jitter_found, Keys.{refused_key, refused_value}}

-- a value of a document
abbrev pub value_text : Data → List ℕ
value_text (string word) = quoted word
value_text (integer z) = signed_decimal z
value_text (float x) = codes "float"
value_text (boolean b) = if b then codes "true" else codes "false"
value_text (datetime d) = codes "date"
value_text (array items) = codes "array of " ++ decimal (length (members_of items))
value_text (table ms) = codes "table"

-- the line of a key, where there is one
abbrev pub shown_key_line : Option (List ℕ) → List ℕ
shown_key_line None = []
shown_key_line (Some word) = line (codes "key " ++ shown word)

-- the line of a value, where there is one
abbrev pub value_line : Option Data → List ℕ
value_line None = []
value_line (Some d) = line (codes "found " ++ value_text d)

-- the line of the key of a refusal, and of what stands there
abbrev pub key_line : Members → Refusal → List ℕ
key_line ms refusal = shown_key_line (refused_key ms refusal.place refusal.code)

-- of M33 the jitter of the model that was read
abbrev pub found_by_code : Members → Option SystemModel → Place → Code → List ℕ
found_by_code ms model place code.M33 = jitter_found model place
found_by_code ms model place code = value_line (refused_value ms place code)

abbrev pub found_line : Members → Option SystemModel → Refusal → List ℕ
found_line ms model refusal = found_by_code ms model refusal.place refusal.code
