-- What keys ask for, field by field.
use Rattle.std.proofs.Common.{◌≡◌, ℕ, List, [], ◌∷◌, refl}
use Rattle.std.specs.List.{All}
use Rattle.std.proofs.lemmas.List.Elements.{All-cons, All-nil}
use Rattle.cl_model.specs.declared.place.Part.TheVariants as part
use Rattle.cl_model.specs.{Place.{at_sub, at_spot}, Reading.{Section, sections, Checks.{a_name, a_table_of}, Tables.{core_fields, stimulus_fields, periodic_form, sporadic_form, burst_form, label_fields, task_fields, runnable_fields, chain_fields, requirement_fields}}}
use Rattle.cl_advice.specs.declared.want.Want.TheVariants as want
use Rattle.cl_advice.specs.{Wanted.section_want, WantsOfFields.AsksByCheck}

-- it holds of the one item and of the others
abbrev pub Each : {X : Type 0} → (X → Type 0) → List X → Type 0
Each P [] = Unit {0}
Each P (x ∷ xs) = P x × Each P xs

pub all_of : {X : Type 0} (P : X → Type 0) (xs : List X) → Each P xs → All P xs
all_of P [] each = All-nil P
all_of P (x ∷ xs) each = All-cons P x xs each.0 (all_of P xs each.1)

pub asks_core : (version : ℕ) → All (AsksByCheck version part.Core) core_fields
asks_core version = all_of (AsksByCheck version part.Core) core_fields (refl, tt)

pub asks_stimulus : (version : ℕ) → All (AsksByCheck version part.Stimulus) (stimulus_fields version)
asks_stimulus version = all_of (AsksByCheck version part.Stimulus) (stimulus_fields version) (refl, (refl, tt))

pub asks_periodic : (version : ℕ) → All (AsksByCheck version part.Stimulus) periodic_form.fields
asks_periodic version = all_of (AsksByCheck version part.Stimulus) periodic_form.fields (refl, (refl, (refl, tt)))

pub asks_sporadic : (version : ℕ) → All (AsksByCheck version part.Stimulus) sporadic_form.fields
asks_sporadic version = all_of (AsksByCheck version part.Stimulus) sporadic_form.fields (refl, (refl, tt))

pub asks_burst : (version : ℕ) → All (AsksByCheck version part.Stimulus) burst_form.fields
asks_burst version = all_of (AsksByCheck version part.Stimulus) burst_form.fields (refl, (refl, (refl, (refl, tt))))

pub asks_label : (version : ℕ) → All (AsksByCheck version part.Label) label_fields
asks_label version = all_of (AsksByCheck version part.Label) label_fields (refl, tt)

pub asks_task : (version : ℕ) → All (AsksByCheck version part.Task) task_fields
asks_task version =
    all_of (AsksByCheck version part.Task) task_fields
    (refl, (refl, (refl, (refl, (refl, (refl, ((at_sub, a_table_of runnable_fields, refl), tt)))))))

pub asks_runnable : (version : ℕ) → All (AsksByCheck version part.Task) runnable_fields
asks_runnable version =
    all_of (AsksByCheck version part.Task) runnable_fields
    (refl, (refl, (refl, (refl, ((at_spot, a_name, refl), ((at_spot, a_name, refl), tt))))))

pub asks_chain : (version : ℕ) → All (AsksByCheck version part.Chain) chain_fields
asks_chain version =
    all_of (AsksByCheck version part.Chain) chain_fields (refl, ((at_spot, a_name, refl), ((at_spot, a_name, refl), tt)))

pub asks_requirement : (version : ℕ) → All (AsksByCheck version part.Requirement) (requirement_fields version)
asks_requirement version = all_of (AsksByCheck version part.Requirement) (requirement_fields version) (refl, (refl, (refl, (refl, tt))))

-- a section asks for an array of its limit
abbrev pub AsksByLimit : Section → Type 0
AsksByLimit section = section_want section.part ≡ want.Array section.limit

pub asks_section : All AsksByLimit sections
asks_section = all_of AsksByLimit sections (refl, (refl, (refl, (refl, (refl, (refl, tt))))))
