-- What is wanted where a model file is refused: a kind of value, a range, words, keys or fewer entries.
use Rattle.std.specs.Prelude.{ℕ, if◌then◌else◌, List, [], ◌∷◌, ◌++◌, map, flat_map, Option, Some, None, is_some, codes, decimal}
use Rattle.std.specs.Option.{option_map}
use Rattle.toml.specs.Data.{Members}
use Rattle.cl_text.specs.Line.{line}
use Rattle.cl_model.specs.declared.limits.TheConstants.{MOST_TICKS, MOST_REQUIRED, MOST_PRIORITY, MOST_CORES, MOST_STIMULI, MOST_LABELS, MOST_TASKS, MOST_RUNNABLES, MOST_ACCESSES, MOST_CHAINS, MOST_STEPS, MOST_HOPS, MOST_REQUIREMENTS, LEAST_JOBS_OF_BURST, MOST_JOBS_OF_BURST}
use Rattle.cl_model.specs.{declared.{place.{Part.Part, Key.Key, Place.Place}, refusal.{Code.Code, Refusal.Refusal}}, Place.key_text, Reading.{version_in, Tables.{access_words, stimulus_forms, requirement_kind_words}}}
use Rattle.cl_model.specs.declared.place.Part.TheVariants as part
use Rattle.cl_model.specs.declared.place.Key.TheVariants as key
use Rattle.cl_model.specs.declared.refusal.Code.TheVariants as code
use Rattle.cl_advice.specs.{declared.want.Want.Want, Sites.table_around, Keys.known_keys}
use Rattle.cl_advice.specs.declared.want.Want.TheVariants as want

-- ---- what a place asks for

-- a time from 1 up, and one from 0 up
abbrev pub time_want : Want
time_want = want.Number 1 MOST_TICKS

abbrev pub zero_time_want : Want
zero_time_want = want.Number 0 MOST_TICKS

-- what a key `kind` asks for: that of a requirement, and that of a stimulus
abbrev pub kind_want : (version : ℕ) → Part → Want
kind_want version part.Requirement = want.RequirementKind version
kind_want version _ = want.Kind version

-- what a key asks for, in a table of a part
abbrev pub key_want : (version : ℕ) → Part → Key → Want
key_want version p key.Format = want.Format
key_want version p key.Version = want.Number 1 3
key_want version p key.Core = want.Name
key_want version p key.Stimulus = want.Name
key_want version p key.Label = want.Array MOST_LABELS
key_want version p key.Task = want.Array MOST_TASKS
key_want version p key.Chain = want.Name
key_want version p key.Requirement = want.Array MOST_REQUIREMENTS
key_want version p key.Name = want.Name
key_want version p key.Kind = kind_want version p
key_want version p key.Period = time_want
key_want version p key.Offset = zero_time_want
key_want version p key.Jitter = zero_time_want
key_want version p key.Count = want.Number LEAST_JOBS_OF_BURST MOST_JOBS_OF_BURST
key_want version p key.Distance = time_want
key_want version p key.Least = time_want
key_want version p key.Greatest = time_want
key_want version p key.Whole = want.Boolean
key_want version p key.Priority = want.Number 0 MOST_PRIORITY
key_want version p key.Access = want.Access
key_want version p key.Deadline = time_want
key_want version p key.Runnable = want.Array MOST_RUNNABLES
key_want version p key.Reads = want.Array MOST_ACCESSES
key_want version p key.Writes = want.Array MOST_ACCESSES
key_want version p key.Runnables = want.Array MOST_STEPS
key_want version p key.Labels = want.Array MOST_HOPS
key_want version p key.Most = want.Number 0 MOST_REQUIRED

-- what a section asks for; the whole document is a table
abbrev pub section_want : Part → Want
section_want part.Top = want.Table
section_want part.Core = want.Array MOST_CORES
section_want part.Stimulus = want.Array MOST_STIMULI
section_want part.Label = want.Array MOST_LABELS
section_want part.Task = want.Array MOST_TASKS
section_want part.Chain = want.Array MOST_CHAINS
section_want part.Requirement = want.Array MOST_REQUIREMENTS

-- what a place without a key asks for: an entry is a table
abbrev pub keyless_want : Place → Want
keyless_want place = if is_some place.item then want.Table else section_want place.part

-- what a place asks for: a member of an array under a key is a name
abbrev pub want_with : (version : ℕ) → Place → Option Key → Want
want_with version place None = keyless_want place
want_with version place (Some key) = if is_some place.spot then want.Name else key_want version place.part key

abbrev pub want_at : (version : ℕ) → Place → Want
want_at version place = want_with version place place.key

-- ---- how it is said

-- words with a comma between two
abbrev pub joined : List (List ℕ) → List ℕ
joined [] = []
joined (word ∷ words) = word ++ flat_map (λ other. codes ", " ++ other) words

abbrev pub one_of : List (List ℕ) → List ℕ
one_of words = codes "one of " ++ joined words

-- the words of a list of words with what they stand for
abbrev pub listed_words : {X : Type 0} → List (List ℕ × X) → List (List ℕ)
listed_words words = map (λ word. word.0) words

-- a range of whole numbers
unfoldable pub range_text : (low high : ℕ) → List ℕ
range_text low high = codes "a whole number from " ++ decimal low ++ codes " to " ++ decimal high

-- a kind of value
abbrev pub want_text : Want → List ℕ
want_text want.Name = codes "a name: 1 to 64 of letters, digits, _ . -"
want_text (want.Number low high) = range_text low high
want_text want.Format = one_of (codes "chainlat" ∷ [])
want_text want.Access = one_of (listed_words access_words)
want_text (want.Kind version) = one_of (listed_words (stimulus_forms version))
want_text (want.RequirementKind version) = one_of (listed_words (requirement_kind_words version))
want_text want.Boolean = codes "true or false"
want_text (want.Array limit) = codes "an array"
want_text want.Table = codes "a table"

-- an array with fewer entries
abbrev pub limit_text : Want → List ℕ
limit_text (want.Array limit) = codes "at most " ++ decimal limit ++ codes " entries"
limit_text other = want_text other

-- the keys of a table
abbrev pub keys_text : (version : ℕ) → Place → Members → List ℕ
keys_text version place table = one_of (map key_text (known_keys version place table))

-- what is wanted, by the code of a refusal; nothing of a value that passes its field's check
abbrev pub wanted_text : Members → Place → Code → Option (List ℕ)
wanted_text ms place code.M2 = Some (want_text (want_at (version_in ms) place))
wanted_text ms place code.M3 = Some (want_text (want_at (version_in ms) place))
wanted_text ms place code.M4 = option_map (keys_text (version_in ms) place) (table_around ms place)
wanted_text ms place code.M5 = Some (want_text (want_at (version_in ms) place))
wanted_text ms place code.M6 = Some (want_text (want_at (version_in ms) place))
wanted_text ms place code.M7 = Some (want_text (want_at (version_in ms) place))
wanted_text ms place code.M8 = Some (want_text (want_at (version_in ms) place))
wanted_text ms place code.M9 = Some (want_text (want_at (version_in ms) place))
wanted_text ms place code.M10 = Some (limit_text (want_at (version_in ms) place))
wanted_text ms place _ = None

-- the line of what is wanted, where something is
abbrev pub want_line : Option (List ℕ) → List ℕ
want_line None = []
want_line (Some words) = line (codes "wanted " ++ words)

abbrev pub wanted_line : Members → Refusal → List ℕ
wanted_line ms refusal = want_line (wanted_text ms refusal.place refusal.code)
