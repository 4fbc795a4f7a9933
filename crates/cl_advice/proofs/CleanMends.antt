-- What an advice says to write is printable ASCII, and so is the whole.
use Rattle.std.proofs.Common.{ℕ, Bool, ◌&&◌, ◌==◌, leb, cond, List, ◌++◌, Option, Some, None, true, false, is_some, refl}
use Rattle.std.proofs.lemmas.List.Sums.{AllPass-from_list_all}
use Rattle.std.specs.List.{AllPass}
use Rattle.std.specs.Option.{option_map, option_or}
use Rattle.std.specs.Prelude.{codes, IfSome, unwrap_or}
use Rattle.std.specs.Str.{bytes_eq}
use Rattle.toml.specs.Data.{Members}
use Rattle.cl_model.specs.{declared.{model.SystemModel.SystemModel, place.{Key.Key, Part.Part, Place.Place}, refusal.{Code.Code, Refusal.Refusal}}, AreNamed.AreNamed, Place.{part_text, key_text}, Reading.{version_in, Checks.keys_of, Tables.{task_fields, runnable_fields}}}
use Rattle.cl_model.specs.declared.place.Key.TheVariants as key
use Rattle.cl_model.specs.declared.place.Part.TheVariants as part
use Rattle.cl_model.specs.declared.refusal.Code.TheVariants as code
use Rattle.cl_advice.specs.{declared.want.Want.Want, Shown.is_printed, Sites.{entry_in, runnable_around, value_in}, Keys.{is_listed, unknown_key, refused_key, refused_value}, Entry.{entry_line, runnable_line}, Found.{key_line, found_by_code, found_line}, Hop.lacking_text, Known.known_line}
use Rattle.cl_advice.specs.{Measured.measured_line, Wanted.{want_at, wanted_line}, With.with_lines, Mend.{plural_mend, runnable_key_mend, part_key_mend, unknown_mend, section_mend, array_mend, kind_mend, says_word, word_mend, code_mend, mend_text, mended_line, handed_or_both, mend_by}}
use Rattle.cl_advice.specs.{Mend.mend_line, Advice.advice_text}
use Rattle.cl_advice.specs.declared.want.Want.TheVariants as want
use Rattle.cl_advice.proofs.{CleanWords.{Printed, printed_both, printed_chosen, printed_line, printed_part}, CleanLines.{printed_numbered_line, printed_key_line, printed_value_line, printed_want_line}, CleanMeasured.{printed_measured_line, printed_jitter_found, printed_known_line}}
use Rattle.cl_advice.proofs.{CleanMeasured.printed_lacking_text, CleanNames.printed_with_lines}

-- one of two fixed texts
one_of_two : (t : Bool) (a b : List ℕ) → Printed a → Printed b → Printed (cond t a b)
one_of_two = printed_chosen

-- the first words whose test holds, or others
printed_or : (t : Bool) (words : List ℕ) (rest : Option (List ℕ)) (other : List ℕ) → Printed words → Printed (unwrap_or rest other)
    → Printed (unwrap_or (cond t (Some words) rest) other)
printed_or true words rest other h r = h
printed_or false words rest other h r = r

printed_plural : (word other : List ℕ) → Printed other → Printed (unwrap_or (plural_mend word) other)
printed_plural word other h =
    printed_or (bytes_eq word (codes "cores")) _ _ other refl (printed_or (bytes_eq word (codes "stimuluss")) _ _ other refl
    (printed_or (bytes_eq word (codes "labels")) _ _ other refl (printed_or (bytes_eq word (codes "tasks")) _ _ other refl
    (printed_or (bytes_eq word (codes "chains")) _ _ other refl (printed_or (bytes_eq word (codes "requirements")) _ _ other refl h)))))

printed_part_key : (p : Part) (word : List ℕ) → Printed (part_key_mend p word)
printed_part_key part.Top word =
    printed_chosen (bytes_eq (key_text key.Runnable) word) _ _ refl (printed_plural word (codes "take the key out, or write one of these") refl)
printed_part_key part.Task word = one_of_two (is_listed (keys_of runnable_fields) word) _ _ refl refl
printed_part_key _ word = refl

printed_unknown : (place : Place) (word : List ℕ) → Printed (unknown_mend place word)
printed_unknown place word =
    printed_chosen (is_some place.sub) (runnable_key_mend word) (part_key_mend place.part word)
    (one_of_two (is_listed (keys_of task_fields) word) _ _ refl refl) (printed_part_key place.part word)

printed_section : (p : Part) → Printed (section_mend p)
printed_section part.Top = refl
printed_section _ = refl

printed_array : (p : Part) (k : Option Key) → Printed (array_mend p k)
printed_array p None = printed_section p
printed_array p (Some key.Runnable) = refl
printed_array p (Some _) = refl

printed_kind : (place : Place) (w : Want) → Printed (kind_mend place w)
printed_kind place (want.Array limit) = printed_array place.part place.key
printed_kind place _ = refl

printed_word : (ms : Members) (place : Place) (p : Part) → Printed (word_mend ms place p)
printed_word ms place part.Stimulus = one_of_two (says_word (codes "burst") (value_in ms place) && (version_in ms == 1)) _ _ refl refl
printed_word ms place part.Requirement = one_of_two (says_word (codes "delay") (value_in ms place) && leb (version_in ms) 2) _ _ refl refl
printed_word ms place _ = refl

printed_unknown_if : (place : Place) (word : Option (List ℕ)) → IfSome (option_map (unknown_mend place) word) Printed
printed_unknown_if place None = tt
printed_unknown_if place (Some word) = printed_unknown place word

pub printed_code : (c : Code) → IfSome (code_mend c) Printed
printed_code code.E1 = tt
printed_code code.E2 = tt
printed_code code.E3 = tt
printed_code code.M4 = tt
printed_code code.M6 = tt
printed_code code.M9 = tt
printed_code _ = refl

printed_mend : (ms : Members) (place : Place) (c : Code) → IfSome (mend_text ms place c) Printed
printed_mend ms place code.M4 = printed_unknown_if place (unknown_key ms place)
printed_mend ms place code.M6 = printed_kind place (want_at (version_in ms) place)
printed_mend ms place code.M9 = printed_word ms place place.part
printed_mend ms place other = printed_code other

pub printed_mend_if : (words : Option (List ℕ)) → IfSome words Printed → Printed (mended_line words)
printed_mend_if None h = refl
printed_mend_if (Some words) h = printed_line (codes "mend " ++ words) (printed_both (codes "mend ") words refl h)

-- ---- what isn't handed over

either_printed : (one other : Option (List ℕ)) → IfSome one Printed → IfSome other Printed → IfSome (option_or one other) Printed
either_printed None other h o = o
either_printed (Some words) other h o = h

pub printed_handed : (model : Option SystemModel) (place : Place) → IfSome model AreNamed → IfSome (handed_or_both model place) Printed
printed_handed None place named = refl
printed_handed (Some model) place named =
    either_printed (lacking_text model place) (code_mend code.M45) (printed_lacking_text model place named) refl

printed_mend_by : (ms : Members) (model : Option SystemModel) (place : Place) (c : Code) → IfSome model AreNamed → IfSome (mend_by ms model place c) Printed
printed_mend_by ms model place code.M45 named = printed_handed model place named
printed_mend_by ms model place c named = printed_mend ms place c

printed_found_by : (ms : Members) (model : Option SystemModel) (place : Place) (c : Code) → IfSome model AreNamed → Printed (found_by_code ms model place c)
printed_found_by ms model place code.M33 named = printed_jitter_found model place named
printed_found_by ms model place c named = printed_value_line (refused_value ms place c)

-- ---- the whole

nine : (a b c d e f g h i : List ℕ) → Printed a → Printed b → Printed c → Printed d → Printed e → Printed f → Printed g → Printed h → Printed i
    → Printed (a ++ b ++ c ++ d ++ e ++ f ++ g ++ h ++ i)
nine a b c d e f g h i ha hb hc hd he hf hg hh hi =
    let h2 = printed_both a b ha hb in
    let h3 = printed_both (a ++ b) c h2 hc in
    let h4 = printed_both (a ++ b ++ c) d h3 hd in
    let h5 = printed_both (a ++ b ++ c ++ d) e h4 he in
    let h6 = printed_both (a ++ b ++ c ++ d ++ e) f h5 hf in
    let h7 = printed_both (a ++ b ++ c ++ d ++ e ++ f) g h6 hg in
    let h8 = printed_both (a ++ b ++ c ++ d ++ e ++ f ++ g) h h7 hh in
    printed_both (a ++ b ++ c ++ d ++ e ++ f ++ g ++ h) i h8 hi

printed_advice : (ms : Members) (model : Option SystemModel) (refusal : Refusal) → IfSome model AreNamed → Printed (advice_text ms model refusal)
unfolding advice_text
printed_advice ms model refusal named =
    let place = refusal.place in
    nine (entry_line ms place) (runnable_line ms place) (key_line ms refusal) (found_line ms model refusal) (wanted_line ms refusal)
    (measured_line model refusal) (known_line model refusal) (with_lines model refusal) (mend_line ms model refusal)
    (printed_numbered_line (codes "entry " ++ part_text place.part) (entry_in ms place) place.item (printed_both (codes "entry ") (part_text place.part) refl (printed_part place.part)))
    (printed_numbered_line (codes "runnable") (runnable_around ms place) place.sub refl)
    (printed_key_line (refused_key ms place refusal.code))
    (printed_found_by ms model place refusal.code named)
    (printed_want_line ms place refusal.code)
    (printed_measured_line model refusal named)
    (printed_known_line model refusal named)
    (printed_with_lines model refusal named)
    (printed_mend_if (mend_by ms model place refusal.code) (printed_mend_by ms model place refusal.code named))

pub clean_advice : (ms : Members) (model : Option SystemModel) (refusal : Refusal) → IfSome model AreNamed → AllPass is_printed (advice_text ms model refusal)
clean_advice ms model refusal named = AllPass-from_list_all is_printed (advice_text ms model refusal) (printed_advice ms model refusal named)
