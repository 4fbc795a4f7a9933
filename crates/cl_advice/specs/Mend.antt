-- What to write instead.
use Rattle.std.specs.Prelude.{ℕ, ◌&&◌, ◌==◌, nat_le, Bool, false, if◌then◌else◌, List, ◌++◌, [], Option, Some, None, is_some, unwrap_or, codes}
use Rattle.std.specs.Option.{option_map, option_and_then, option_or}
use Rattle.std.specs.Str.{bytes_eq}
use Rattle.toml.specs.Data.{Data, string, Members}
use Rattle.cl_text.specs.Line.{line}
use Rattle.cl_model.specs.{declared.{place.{Part.Part, Key.Key, Place.Place}, refusal.{Code.Code, Refusal.Refusal}, model.SystemModel.SystemModel}, Place.key_text, Reading.{version_in, Checks.keys_of, Tables.{task_fields, runnable_fields}}}
use Rattle.cl_model.specs.declared.place.Part.TheVariants as part
use Rattle.cl_model.specs.declared.place.Key.TheVariants as key
use Rattle.cl_model.specs.declared.refusal.Code.TheVariants as code
use Rattle.cl_advice.specs.{declared.want.Want.Want, Sites.value_in, Keys.{is_listed, unknown_key}, Hop.lacking_text, Unread.unread_mend, Wanted.want_at}
use Rattle.cl_advice.specs.declared.want.Want.TheVariants as want

-- ---- an unknown key

-- of a runnable, where a task may have the key
abbrev pub runnable_key_mend : List ℕ → List ℕ
runnable_key_mend word =
    if is_listed (keys_of task_fields) word then codes "keys of a task stand before its [[task.runnable]]" else codes "take the key out, or write one of these"

-- of a task, where a runnable may have the key
abbrev pub task_key_mend : List ℕ → List ℕ
task_key_mend word =
    if is_listed (keys_of runnable_fields) word then codes "keys of a runnable stand in its [[task.runnable]]" else codes "take the key out, or write one of these"

-- at the top, the name of a section with an `s` behind it
abbrev pub plural_mend : List ℕ → Option (List ℕ)
plural_mend word =
    if bytes_eq word (codes "cores") then Some (codes "[[core]]")
    else if bytes_eq word (codes "stimuluss") then Some (codes "[[stimulus]]")
    else if bytes_eq word (codes "labels") then Some (codes "[[label]]")
    else if bytes_eq word (codes "tasks") then Some (codes "[[task]]")
    else if bytes_eq word (codes "chains") then Some (codes "[[chain]]")
    else if bytes_eq word (codes "requirements") then Some (codes "[[requirement]]")
    else None

-- at the top, where it is that of the runnables of a task, or nearly that of a section
abbrev pub top_key_mend : List ℕ → List ℕ
top_key_mend word =
    if bytes_eq (key_text key.Runnable) word then codes "a runnable begins with [[task.runnable]], after its [[task]]"
    else unwrap_or (plural_mend word) (codes "take the key out, or write one of these")

abbrev pub part_key_mend : Part → List ℕ → List ℕ
part_key_mend part.Top word = top_key_mend word
part_key_mend part.Task word = task_key_mend word
part_key_mend _ word = codes "take the key out, or write one of these"

abbrev pub unknown_mend : Place → List ℕ → List ℕ
unknown_mend place word = if is_some place.sub then runnable_key_mend word else part_key_mend place.part word

-- ---- a value of another kind

-- where an array is wanted: at a key, and else in a section
abbrev pub section_mend : Part → List ℕ
section_mend part.Top = codes "write each entry with its header in double brackets"
section_mend part.Core = codes "each core begins with [[core]]"
section_mend part.Stimulus = codes "each stimulus begins with [[stimulus]]"
section_mend part.Label = codes "each label begins with [[label]]"
section_mend part.Task = codes "each task begins with [[task]], and its runnables come after that"
section_mend part.Chain = codes "each chain begins with [[chain]]"
section_mend part.Requirement = codes "each requirement begins with [[requirement]]"

abbrev pub array_mend : Part → Option Key → List ℕ
array_mend p None = section_mend p
array_mend p (Some key.Runnable) = codes "each runnable begins with [[task.runnable]]"
array_mend p (Some _) = codes "write names in brackets, each in quotes, with commas between them"

abbrev pub kind_mend : Place → Want → List ℕ
kind_mend place want.Name = codes "write a name in quotes"
kind_mend place (want.Number low high) = codes "write a whole number, without quotes, point or unit"
kind_mend place want.Format = codes "write one of these words in quotes"
kind_mend place want.Access = codes "write one of these words in quotes"
kind_mend place (want.Kind version) = codes "write one of these words in quotes"
kind_mend place (want.RequirementKind version) = codes "write one of these words in quotes"
kind_mend place want.Boolean = codes "write true or false, without quotes"
kind_mend place (want.Array limit) = array_mend place.part place.key
kind_mend place want.Table = codes "begin each entry with its header in double brackets"

-- ---- another word

-- whether a word stands there
abbrev pub says_word : List ℕ → Option Data → Bool
says_word word (Some (string found)) = bytes_eq word found
says_word word _ = false

-- a word that a later version has: `burst` in a file of version 1, and `delay` before version 3; and any other word
abbrev pub word_mend : Members → Place → Part → List ℕ
word_mend ms place part.Stimulus =
    if says_word (codes "burst") (value_in ms place) && (version_in ms == 1) then codes "version = 2 has bursts" else codes "write one of these words in quotes"
word_mend ms place part.Requirement =
    if says_word (codes "delay") (value_in ms place) && nat_le (version_in ms) 2 then codes "version = 3 has delay" else codes "write one of these words in quotes"
word_mend ms place _ = codes "write one of these words in quotes"

-- ---- by the code

-- a code that says it alone
abbrev pub code_mend : Code → Option (List ℕ)
code_mend code.M1 = Some unread_mend
code_mend code.M2 = Some (codes "format = \"chainlat\"")
code_mend code.M3 = Some (codes "version = 1, version = 2 or version = 3")
code_mend code.M5 = Some (codes "add the key")
code_mend code.M7 = Some (codes "write 1 to 64 letters, digits, _ . - and nothing else")
code_mend code.M8 = Some (codes "write a number of this range")
code_mend code.M10 = Some (codes "take entries out")
code_mend code.M20 = Some (codes "give one of the two cores another name")
code_mend code.M21 = Some (codes "give one of the two stimuli another name")
code_mend code.M22 = Some (codes "give one of the two labels another name")
code_mend code.M23 = Some (codes "give one of the two tasks another name")
code_mend code.M24 = Some (codes "give one of the two runnables another name")
code_mend code.M25 = Some (codes "give one of the two chains another name")
code_mend code.M26 = Some (codes "give one of the two requirements another name")
code_mend code.M27 = Some (codes "write an offset below the period")
code_mend code.M28 = Some (codes "write a greatest distance that isn't below the least")
code_mend code.M29 = Some (codes "write the name of a [[core]]")
code_mend code.M30 = Some (codes "write the name of a [[stimulus]]")
code_mend code.M31 = Some (codes "give one of the two tasks another priority or another core")
code_mend code.M32 = Some (codes "write a deadline of at most the least distance of the stimulus")
code_mend code.M33 = Some (codes "write a jitter below the deadline")
code_mend code.M34 = Some (codes "put at most 128 tasks on a core")
code_mend code.M35 = Some (codes "add a [[task.runnable]] after the keys of the task")
code_mend code.M36 = Some (codes "write a greatest time that isn't below the least")
code_mend code.M37 = Some (codes "write the name of a [[label]]")
code_mend code.M38 = Some (codes "write the name of a [[label]]")
code_mend code.M39 = Some (codes "write the label once in this list")
code_mend code.M40 = Some (codes "let one runnable write the label")
code_mend code.M41 = Some (codes "write at most 8192 runnables in all")
code_mend code.M42 = Some (codes "write a deadline of at most 1000000 least distances of each task of higher priority on the core, less its jitter")
code_mend code.M43 = Some (codes "write one runnable at least, and one label fewer than runnables")
code_mend code.M44 = Some (codes "write the name of a [[task.runnable]]")
code_mend code.M45 = Some (codes "name a label that the first runnable writes and the second reads")
code_mend code.M46 = Some (codes "write the name of a [[chain]]")
code_mend code.M47 = Some (codes "write a distance of which count fit the period")
code_mend _ = None

-- what to write, by the code of a refusal; nothing of an edit
abbrev pub mend_text : Members → Place → Code → Option (List ℕ)
mend_text ms place code.M4 = option_map (unknown_mend place) (unknown_key ms place)
mend_text ms place code.M6 = Some (kind_mend place (want_at (version_in ms) place))
mend_text ms place code.M9 = Some (word_mend ms place place.part)
mend_text ms place other = code_mend other

-- the line of what to write, where there is one
abbrev pub mended_line : Option (List ℕ) → List ℕ
mended_line None = []
mended_line (Some words) = line (codes "mend " ++ words)

-- what to write where a label isn't handed over
abbrev pub handed_or_both : Option SystemModel → Place → Option (List ℕ)
handed_or_both model place = option_or (option_and_then (λ (model : SystemModel). lacking_text model place) model) (code_mend code.M45)

-- what to write, of the model that was read where there is one
abbrev pub mend_by : Members → Option SystemModel → Place → Code → Option (List ℕ)
mend_by ms model place code.M45 = handed_or_both model place
mend_by ms model place code = mend_text ms place code

abbrev pub mend_line : Members → Option SystemModel → Refusal → List ℕ
mend_line ms model refusal = mended_line (mend_by ms model refusal.place refusal.code)
