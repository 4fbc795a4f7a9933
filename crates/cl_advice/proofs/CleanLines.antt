-- The lines that stand for a document are printable ASCII.
use Rattle.std.proofs.Common.{ℕ, ◌+◌, Bool, true, false, leb, cond, List, [], ◌∷◌, ◌++◌, length, Option, Some, None, refl}
use Rattle.std.specs.Fmt.{decimal}
use Rattle.std.specs.Prelude.{codes, IfSome}
use Rattle.std.specs.Option.{option_map, option_and_then}
use Rattle.toml.specs.Data.{Data, string, integer, float, boolean, datetime, array, table, Members, get}
use Rattle.cl_model.specs.{declared.{chain.{LengthKind.TheVariants.{Reaction, Age, Reduced}, RequirementKind.TheVariants.{Length, Delay}}, place.Place.Place, refusal.Code.Code}, Name.is_name, Place.key_text, Reading.{version_in, Checks.members_of, Tables.{periodic_form, sporadic_form}}}
use Rattle.cl_model.specs.Reading.Tables.{burst_form}
use Rattle.cl_model.specs.declared.place.Key.TheVariants as key
use Rattle.cl_model.specs.declared.refusal.Code.TheVariants as code
use Rattle.cl_advice.specs.{declared.want.Want.Want, Shown.shown, Sites.table_around, Keys.known_keys, Entry.{name_or_dash, table_name, numbered_words, numbered_line}, Found.{value_text, shown_key_line, value_line}, Wanted.{one_of, listed_words, range_text, want_text, limit_text}}
use Rattle.cl_advice.specs.Wanted.{keys_text, wanted_text, want_at, want_line}
use Rattle.cl_advice.specs.declared.want.Want.TheVariants as want
use Rattle.cl_advice.proofs.CleanWords.{Printed, printed_both, printed_line, printed_shown, printed_quoted, printed_decimal, printed_signed, printed_name_or_dash, printed_keys}

-- ---- entries

printed_dash : (d : Option Data) → Printed (name_or_dash d)
printed_dash None = refl
printed_dash (Some (string word)) = printed_name_or_dash word (is_name word) refl
printed_dash (Some (integer z)) = refl
printed_dash (Some (float x)) = refl
printed_dash (Some (boolean b)) = refl
printed_dash (Some (datetime d)) = refl
printed_dash (Some (array items)) = refl
printed_dash (Some (table ms)) = refl

printed_numbered : (d : Option Data) (n : ℕ) → Printed (numbered_words d n)
printed_numbered d n =
    let name = printed_both (codes " ") (table_name d) refl (printed_dash (option_and_then (get (key_text key.Name)) d)) in
    let space = printed_both (codes " " ++ table_name d) (codes " ") name refl in
    printed_line (codes " " ++ table_name d ++ codes " " ++ decimal (n + 1))
    (printed_both (codes " " ++ table_name d ++ codes " ") (decimal (n + 1)) space (printed_decimal (n + 1)))

pub printed_numbered_line : (title : List ℕ) (d : Option Data) (n : Option ℕ) → Printed title → Printed (numbered_line title d n)
printed_numbered_line title d None h = refl
printed_numbered_line title d (Some n) h = printed_both title (numbered_words d n) h (printed_numbered d n)

-- ---- what was found

pub printed_key_line : (word : Option (List ℕ)) → Printed (shown_key_line word)
printed_key_line None = refl
printed_key_line (Some word) = printed_line (codes "key " ++ shown word) (printed_both (codes "key ") (shown word) refl (printed_shown word))

printed_boolean : (b : Bool) → Printed (cond b (codes "true") (codes "false"))
printed_boolean true = refl
printed_boolean false = refl

printed_value : (d : Data) → Printed (value_text d)
printed_value (string word) = printed_quoted word
printed_value (integer z) = printed_signed z
printed_value (float x) = refl
printed_value (boolean b) = printed_boolean b
printed_value (datetime d) = refl
printed_value (array items) = printed_both (codes "array of ") (decimal (length (members_of items))) refl (printed_decimal (length (members_of items)))
printed_value (table ms) = refl

pub printed_value_line : (d : Option Data) → Printed (value_line d)
printed_value_line None = refl
printed_value_line (Some d) = printed_line (codes "found " ++ value_text d) (printed_both (codes "found ") (value_text d) refl (printed_value d))

-- ---- what is wanted

printed_range : (low high : ℕ) → Printed (range_text low high)
unfolding range_text
printed_range low high =
    let first = printed_both (codes "a whole number from ") (decimal low) refl (printed_decimal low) in
    let next = printed_both (codes "a whole number from " ++ decimal low) (codes " to ") first refl in
    printed_both (codes "a whole number from " ++ decimal low ++ codes " to ") (decimal high) next (printed_decimal high)

-- the kinds of stimuli, with bursts or without them
printed_kinds : (bursts : Bool)
    → Printed (one_of (listed_words ((codes "periodic", periodic_form) ∷ (codes "sporadic", sporadic_form) ∷ cond bursts ((codes "burst", burst_form) ∷ []) [])))
printed_kinds true = refl
printed_kinds false = refl

-- the kinds of requirements, with delays or without them
printed_requirements : (delays : Bool)
    → Printed (one_of (listed_words ((codes "reaction", Length Reaction) ∷ (codes "age", Length Age) ∷ (codes "reduced", Length Reduced) ∷ cond delays ((codes "delay", Delay) ∷ []) [])))
printed_requirements true = refl
printed_requirements false = refl

printed_want : (w : Want) → Printed (want_text w)
printed_want want.Name = refl
printed_want (want.Number low high) = printed_range low high
printed_want want.Format = refl
printed_want want.Access = refl
printed_want (want.Kind version) = printed_kinds (leb 2 version)
printed_want (want.RequirementKind version) = printed_requirements (leb 3 version)
printed_want want.Boolean = refl
printed_want (want.Array limit) = refl
printed_want want.Table = refl

pub printed_limit : (w : Want) → Printed (limit_text w)
printed_limit (want.Array limit) =
    printed_both (codes "at most " ++ decimal limit) (codes " entries") (printed_both (codes "at most ") (decimal limit) refl (printed_decimal limit)) refl
printed_limit other = printed_want other

printed_known : (version : ℕ) (place : Place) (around : Option Members) → IfSome (option_map (keys_text version place) around) Printed
printed_known version place None = tt
printed_known version place (Some ms) = printed_keys (known_keys version place ms)

printed_wanted : (ms : Members) (place : Place) (c : Code) → IfSome (wanted_text ms place c) Printed
printed_wanted ms place code.M2 = printed_want (want_at (version_in ms) place)
printed_wanted ms place code.M3 = printed_want (want_at (version_in ms) place)
printed_wanted ms place code.M4 = printed_known (version_in ms) place (table_around ms place)
printed_wanted ms place code.M5 = printed_want (want_at (version_in ms) place)
printed_wanted ms place code.M6 = printed_want (want_at (version_in ms) place)
printed_wanted ms place code.M7 = printed_want (want_at (version_in ms) place)
printed_wanted ms place code.M8 = printed_want (want_at (version_in ms) place)
printed_wanted ms place code.M9 = printed_want (want_at (version_in ms) place)
printed_wanted ms place code.M10 = printed_limit (want_at (version_in ms) place)
printed_wanted ms place _ = tt

pub printed_want_if : (words : Option (List ℕ)) → IfSome words Printed → Printed (want_line words)
printed_want_if None h = refl
printed_want_if (Some words) h = printed_line (codes "wanted " ++ words) (printed_both (codes "wanted ") words refl h)

pub printed_want_line : (ms : Members) (place : Place) (c : Code) → Printed (want_line (wanted_text ms place c))
printed_want_line ms place c = printed_want_if (wanted_text ms place c) (printed_wanted ms place c)
