-- The advice on an edit is printable ASCII.
use Rattle.std.proofs.Common.{ℕ, ◌+◌, List, ◌++◌, All, Option, Some, None, refl}
use Rattle.std.specs.Fmt.{decimal}
use Rattle.std.specs.List.{AllPass}
use Rattle.std.specs.Option.{option_map}
use Rattle.std.specs.Prelude.{codes, IfSome}
use Rattle.std.proofs.lemmas.List.Sums.{AllPass-from_list_all}
use Rattle.cl_model.specs.{declared.{model.SystemModel.SystemModel, place.{Part.Part, Place.Place}, refusal.{Code.Code, Refusal.Refusal}}, AreNamed.AreNamed, Name.IsName, Place.{part_text, key_text}}
use Rattle.cl_model.specs.declared.place.Part.TheVariants as part
use Rattle.cl_model.specs.declared.refusal.Code.TheVariants as code
use Rattle.cl_advice.specs.{Found.shown_key_line, Known.known_line, Measured.{said_if, measured_line}, Mend.mended_line, OfEdits.{entry_name, named_words, named_line, named_entry_line, named_runnable_line, named_lines, full_line, edit_mend, edit_advice_text}, Shown.is_printed}
use Rattle.cl_advice.specs.{Wanted.{limit_text, section_want}, With.{item_if, runnable_of_place, with_lines}}
use Rattle.cl_advice.proofs.{CleanLines.{printed_key_line, printed_limit, printed_want_if}, CleanMeasured.{printed_measured_line, printed_known_line}, CleanMends.{printed_code, printed_handed, printed_mend_if}, CleanNames.{item, mapped, runnable_named_at, name_of_runnable, tasks_alone}}
use Rattle.cl_advice.proofs.{CleanNames.{chains_alone, printed_with_lines}, CleanWords.{Printed, printed_both, printed_line, printed_decimal, printed_name, printed_part}}

-- ---- names

-- the name of an item of a list
name_at : {X : Type 0} (name : X → List ℕ) (items : List X) (n : Option ℕ) → All (λ x. IsName (name x)) items → IfSome (option_map name (item_if items n)) IsName
name_at name items n named = mapped (λ x. IsName (name x)) IsName name (item_if items n) (λ x h. h) (item (λ x. IsName (name x)) items n named)

entry_named : (model : SystemModel) (p : Part) (n : Option ℕ) → AreNamed model → IfSome (entry_name model p n) IsName
entry_named model part.Top n named = tt
entry_named model part.Core n named = name_at (λ core. core.name) model.cores n named.cores
entry_named model part.Stimulus n named = name_at (λ stimulus. stimulus.name) model.stimuli n named.stimuli
entry_named model part.Label n named = name_at (λ label. label.name) model.labels n named.labels
entry_named model part.Task n named = name_at (λ task. task.name) model.tasks n (tasks_alone model.tasks named.tasks)
entry_named model part.Chain n named = name_at (λ chain. chain.name) model.chains n (chains_alone model.chains named.chains)
entry_named model part.Requirement n named = name_at (λ requirement. requirement.name) model.requirements n (λ i d lt. (named.requirements i d lt).name)

printed_named : (name : List ℕ) (n : ℕ) → IsName name → Printed (named_words name n)
printed_named name n named =
    let first = printed_both (codes " ") name refl (printed_name name named) in
    let space = printed_both (codes " " ++ name) (codes " ") first refl in
    printed_line (codes " " ++ name ++ codes " " ++ decimal (n + 1)) (printed_both (codes " " ++ name ++ codes " ") (decimal (n + 1)) space (printed_decimal (n + 1)))

printed_named_line : (title : List ℕ) (name : Option (List ℕ)) (n : Option ℕ) → Printed title → IfSome name IsName → Printed (named_line title name n)
printed_named_line title None n h named = refl
printed_named_line title (Some name) None h named = refl
printed_named_line title (Some name) (Some n) h named = printed_both title (named_words name n) h (printed_named name n named)

printed_names : (model : Option SystemModel) (place : Place) → IfSome model AreNamed → Printed (said_if (λ (it : SystemModel). named_lines it place) model)
printed_names None place named = refl
printed_names (Some model) place named =
    printed_both (named_entry_line model place) (named_runnable_line model place)
    (printed_named_line (codes "entry " ++ part_text place.part) (entry_name model place.part place.item) place.item
    (printed_both (codes "entry ") (part_text place.part) refl (printed_part place.part)) (entry_named model place.part place.item named))
    (printed_named_line (codes "runnable") _ place.sub refl (name_of_runnable (runnable_of_place model place) (runnable_named_at model place named)))

-- ---- by the code

printed_full : (p : Part) (c : Code) → Printed (full_line p c)
printed_full p code.M10 = printed_want_if (Some (limit_text (section_want p))) (printed_limit (section_want p))
printed_full p _ = refl

printed_edit_mend : (model : Option SystemModel) (place : Place) (c : Code) → IfSome model AreNamed → IfSome (edit_mend model place c) Printed
printed_edit_mend model place code.M45 named = printed_handed model place named
printed_edit_mend model place c named = printed_code c

-- ---- the whole

seven : (a b c d e f g : List ℕ) → Printed a → Printed b → Printed c → Printed d → Printed e → Printed f → Printed g → Printed (a ++ b ++ c ++ d ++ e ++ f ++ g)
seven a b c d e f g ha hb hc hd he hf hg =
    let h2 = printed_both a b ha hb in
    let h3 = printed_both (a ++ b) c h2 hc in
    let h4 = printed_both (a ++ b ++ c) d h3 hd in
    let h5 = printed_both (a ++ b ++ c ++ d) e h4 he in
    let h6 = printed_both (a ++ b ++ c ++ d ++ e) f h5 hf in
    printed_both (a ++ b ++ c ++ d ++ e ++ f) g h6 hg

printed_edit_advice : (model : Option SystemModel) (refusal : Refusal) → IfSome model AreNamed → Printed (edit_advice_text model refusal)
unfolding edit_advice_text
printed_edit_advice model refusal named =
    let place = refusal.place in
    seven (said_if (λ (it : SystemModel). named_lines it place) model) (shown_key_line (option_map key_text place.key)) (full_line place.part refusal.code)
    (measured_line model refusal) (known_line model refusal) (with_lines model refusal) (mended_line (edit_mend model place refusal.code))
    (printed_names model place named)
    (printed_key_line (option_map key_text place.key))
    (printed_full place.part refusal.code)
    (printed_measured_line model refusal named)
    (printed_known_line model refusal named)
    (printed_with_lines model refusal named)
    (printed_mend_if (edit_mend model place refusal.code) (printed_edit_mend model place refusal.code named))

pub clean_edit_advice : (model : Option SystemModel) (refusal : Refusal) → IfSome model AreNamed → AllPass is_printed (edit_advice_text model refusal)
clean_edit_advice model refusal named = AllPass-from_list_all is_printed (edit_advice_text model refusal) (printed_edit_advice model refusal named)
