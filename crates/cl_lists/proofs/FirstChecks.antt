-- The first checks of an edit refuse with codes of edits alone.
use Rattle.std.proofs.Common.{◌≡◌, ◌||◌, ℕ, Bool, true, false, List, [], ◌∷◌, ◌++◌, length, All, refl, sym, ap, ◌∙◌}
use Rattle.std.specs.Prelude.{nat_lt, Option, Some, None, Err}
use Rattle.std.specs.List.{flat_map}
use Rattle.std.proofs.lemmas.List.Elements.{All-nil, All-cons, All-head, All-append}
use Rattle.cl_model.specs.{declared.{limits.TheConstants.{MOST_TASKS, MOST_CHAINS, MOST_REQUIREMENTS}, model.SystemModel.SystemModel, place.Place.Place, refusal.{Code.{Code, TheVariants.{M10, E2, E3}}, Refusal.Refusal}, stimulus.StimulusKind.StimulusKind}, Kinds.is_periodic}
use Rattle.cl_model.specs.{Named.{has_name, task_names, chain_names, requirement_names, kind_named}, Place.{top, section_place}, Refusals.{unless, answer}, Validity.refusals_of}
use Rattle.cl_model.specs.declared.place.Part.TheVariants as part
use Rattle.cl_edit.specs.declared.edit.{NamedPriority.NamedPriority, Edit.{Edit, TheVariants.{Range, Whole, Period, Offset, Jitter, Distances, Burst, Deadline, Swap, Priorities, Move, Kind, AddTask, DropTask, AddChain, DropChain, Requirement, DropRequirement, Report, Tighten, Verify}}}
use Rattle.cl_edit.specs.Edited.{found, all_names, kind_found, has_offset, is_sporadic, is_burst, edit_checks, with_edit, edited}
use Rattle.cl_lists.specs.{RefusedEdits.{model_unless, model_made}, Refusers.is_of_edit}

-- all refusals are of an edit itself
abbrev AreOfEdit : List Refusal → Type 0
AreOfEdit refusals = All (λ (refusal : Refusal). is_of_edit refusal.code ≡ true) refusals

of_none : AreOfEdit []
of_none = All-nil (λ (refusal : Refusal). is_of_edit refusal.code ≡ true)

of_both : (some others : List Refusal) → AreOfEdit some → AreOfEdit others → AreOfEdit (some ++ others)
of_both some others h rest = All-append (λ (refusal : Refusal). is_of_edit refusal.code ≡ true) some others h rest

of_one : (test : Bool) (code : Code) (place : Place) → is_of_edit code ≡ true → AreOfEdit (unless test code place)
of_one true code place is = of_none
of_one false code place is = All-cons (λ (refusal : Refusal). is_of_edit refusal.code ≡ true) (record { code = code; place = place }) [] is of_none

of_name : (name : List ℕ) (names : List (List ℕ)) → AreOfEdit (found name names)
of_name name names = of_one (has_name name names) E2 top refl

of_kind : (kind : Option StimulusKind) (sets : StimulusKind → Bool) → AreOfEdit (kind_found kind sets)
of_kind None sets = of_one false E2 top refl
of_kind (Some kind) sets = of_one (sets kind) E3 top refl

of_priorities : (names : List (List ℕ)) (priorities : List NamedPriority) → AreOfEdit (flat_map (λ (p : NamedPriority). found p.task names) priorities)
of_priorities names [] = of_none
of_priorities names (p ∷ priorities) = of_both (found p.task names) _ (of_name p.task names) (of_priorities names priorities)

of_checks : (model : SystemModel) (edit : Edit) → AreOfEdit (edit_checks model edit)
unfolding edit_checks
of_checks model (Range runnable least greatest) = of_name runnable (all_names model)
of_checks model (Whole runnable whole) = of_name runnable (all_names model)
of_checks model (Period stimulus period) = of_kind (kind_named model stimulus) is_periodic
of_checks model (Offset stimulus offset) = of_kind (kind_named model stimulus) has_offset
of_checks model (Jitter stimulus jitter) = of_kind (kind_named model stimulus) is_periodic
of_checks model (Distances stimulus least greatest) = of_kind (kind_named model stimulus) is_sporadic
of_checks model (Burst stimulus period count distance) = of_kind (kind_named model stimulus) is_burst
of_checks model (Deadline task deadline) = of_name task (task_names model)
of_checks model (Swap one other) = of_both (found one (task_names model)) (found other (task_names model)) (of_name one (task_names model)) (of_name other (task_names model))
of_checks model (Priorities priorities) = of_priorities (task_names model) priorities
of_checks model (Move task core priority) = of_name task (task_names model)
of_checks model (Kind task access) = of_name task (task_names model)
of_checks model (AddTask task) = of_one (nat_lt (length model.tasks) MOST_TASKS) M10 (section_place part.Task) refl
of_checks model (DropTask task) = of_name task (task_names model)
of_checks model (AddChain chain) = of_one (nat_lt (length model.chains) MOST_CHAINS) M10 (section_place part.Chain) refl
of_checks model (DropChain chain) = of_name chain (chain_names model)
of_checks model (Requirement requirement) =
    of_one (has_name requirement.name (requirement_names model) || nat_lt (length model.requirements) MOST_REQUIREMENTS) M10 (section_place part.Requirement) refl
of_checks model (DropRequirement requirement) = of_name requirement (requirement_names model)
of_checks model Report = of_none
of_checks model Tighten = of_none
of_checks model Verify = of_none

-- a refusal that isn't of the edit itself comes behind checks that pass
made_by_others : (checks others : List Refusal) (made : SystemModel) (refusal : Refusal) → AreOfEdit checks → answer (checks ++ others) made ≡ Err refusal
    → is_of_edit refusal.code ≡ false → model_unless checks made ≡ Some made
made_by_others [] others made refusal are is other = refl
made_by_others (first ∷ checks) others made refusal are is other =
    let same : first ≡ refusal = cc in
    let here = All-head (λ (it : Refusal). is_of_edit it.code ≡ true) first checks are in
    let both : true ≡ false = sym here ∙ ap (λ (it : Refusal). is_of_edit it.code) same ∙ other in
    absurd (cc)

pub made_unless_refused : (model : SystemModel) (edit : Edit) (refusal : Refusal) → edited model edit ≡ Err refusal → is_of_edit refusal.code ≡ false
    → model_made model edit ≡ Some (with_edit model edit)
unfolding edited
made_unless_refused model edit refusal is other =
    made_by_others (edit_checks model edit) (refusals_of (with_edit model edit)) (with_edit model edit) refusal (of_checks model edit) is other
