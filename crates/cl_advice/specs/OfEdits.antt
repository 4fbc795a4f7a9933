-- The lines after that of a refused edit: what is said of the model that the edit makes, for which there is no document.
use Rattle.std.specs.Prelude.{ℕ, ◌+◌, List, [], ◌++◌, Option, Some, None, codes, decimal}
use Rattle.std.specs.Option.{option_map}
use Rattle.cl_text.specs.Line.{line}
use Rattle.cl_model.specs.{declared.{place.{Part.Part, Place.Place}, refusal.{Code.Code, Refusal.Refusal}, model.SystemModel.SystemModel}, Place.{part_text, key_text}}
use Rattle.cl_model.specs.declared.place.Part.TheVariants as part
use Rattle.cl_model.specs.declared.refusal.Code.TheVariants as code
use Rattle.cl_advice.specs.{Found.shown_key_line, Known.known_line, Measured.{said_if, measured_line}, Mend.{code_mend, mended_line, handed_or_both}, Wanted.{limit_text, section_want, want_line}, With.{item_if, runnable_of_place, with_lines}}

-- ---- names

-- the name of the entry of a section at a number
abbrev pub entry_name : SystemModel → Part → Option ℕ → Option (List ℕ)
entry_name model part.Top n = None
entry_name model part.Core n = option_map (λ core. core.name) (item_if model.cores n)
entry_name model part.Stimulus n = option_map (λ stimulus. stimulus.name) (item_if model.stimuli n)
entry_name model part.Label n = option_map (λ label. label.name) (item_if model.labels n)
entry_name model part.Task n = option_map (λ task. task.name) (item_if model.tasks n)
entry_name model part.Chain n = option_map (λ chain. chain.name) (item_if model.chains n)
entry_name model part.Requirement n = option_map (λ requirement. requirement.name) (item_if model.requirements n)

-- what follows a title: a name and its number, counted from 1
abbrev pub named_words : (name : List ℕ) → (n : ℕ) → List ℕ
named_words name n = line (codes " " ++ name ++ codes " " ++ decimal (n + 1))

-- a title with them, where there are both
abbrev pub named_line : (title : List ℕ) → Option (List ℕ) → Option ℕ → List ℕ
named_line title (Some name) (Some n) = title ++ named_words name n
named_line title _ _ = []

-- the line of the entry of a section, and the line of the runnable
abbrev pub named_entry_line : SystemModel → Place → List ℕ
named_entry_line model place = named_line (codes "entry " ++ part_text place.part) (entry_name model place.part place.item) place.item

abbrev pub named_runnable_line : SystemModel → Place → List ℕ
named_runnable_line model place = named_line (codes "runnable") (option_map (λ runnable. runnable.name) (runnable_of_place model place)) place.sub

abbrev pub named_lines : SystemModel → Place → List ℕ
named_lines model place = named_entry_line model place ++ named_runnable_line model place

-- ---- by the code

-- M10: an edit adds an entry to a full section
abbrev pub full_line : Part → Code → List ℕ
full_line p code.M10 = want_line (Some (limit_text (section_want p)))
full_line p _ = []

-- what to write, of the model where there is one
abbrev pub edit_mend : Option SystemModel → Place → Code → Option (List ℕ)
edit_mend model place code.M45 = handed_or_both model place
edit_mend model place code = code_mend code

-- ---- the lines

-- what is said of the refusal of an edit; of the model that it makes, where there is one
unfoldable pub edit_advice_text : Option SystemModel → Refusal → List ℕ
edit_advice_text model refusal =
    said_if (λ (model : SystemModel). named_lines model refusal.place) model
    ++ shown_key_line (option_map key_text refusal.place.key)
    ++ full_line refusal.place.part refusal.code
    ++ measured_line model refusal
    ++ known_line model refusal
    ++ with_lines model refusal
    ++ mended_line (edit_mend model refusal.place refusal.code)
