-- What is answered of priorities whose tasks are looked up one by one, and of a requirement that is looked up.
use Rattle.std.proofs.Common.{◌≡◌, ℕ, ◌+◌, ◌<◌, ◌≤◌, ◌||◌, List, [], ◌∷◌, ◌++◌, length, map, get_or, take, drop, sym, ap, ◌∙◌, subst, nat_lt}
use Rattle.std.specs.Prelude.{Result, Some, None}
use Rattle.std.specs.List.{flat_map}
use Rattle.std.proofs.lemmas.List.{map_more, drop_more, drop_all, take_all}
use Rattle.cl_model.specs.{declared.{changes.TaskPriority.TaskPriority, chain.RequirementDef.RequirementDef, limits.TheConstants.MOST_REQUIREMENTS, model.SystemModel.SystemModel, model_fault.ModelFault.ModelFault, refusal.{Code.TheVariants.M10, Refusal.Refusal}}, Answers.Answers}
use Rattle.cl_model.specs.{Answers.IsFaultOf, ByNumber.requirement_named, Named.{has_name, task_names, requirement_names}, Place.section_place, Refusals.unless}
use Rattle.cl_model.specs.declared.place.Part.TheVariants as part
use Rattle.cl_model.proofs.FirstRefusals.{fault_of_front}
use Rattle.cl_edit.specs.{declared.{change.Change.Change, edit.NamedPriority.NamedPriority}, Changing.{by_number, requirement_change}, Edited.found}
use Rattle.cl_edit.specs.declared.change.Change.TheVariants as changes
use Rattle.cl_edit.proofs.FoundFacts.{missing_unknown, found_known}

-- ---- priorities

-- what is refused of a priority
abbrev pub missed : SystemModel → NamedPriority → List Refusal
missed model p = found p.task (task_names model)

-- a priority is refused
abbrev pub IsMissed : SystemModel → List NamedPriority → ModelFault → Type 0
IsMissed model all fault = IsFaultOf (flat_map (missed model) all) fault

-- none is, and these are the priorities by number
abbrev pub ArePriorities : SystemModel → List NamedPriority → List TaskPriority → Type 0
ArePriorities model all priorities = (flat_map (missed model) all ≡ []) × (changes.Priorities priorities ≡ changes.Priorities (map (by_number model) all))

-- what is refused in all is what is refused of the rest, and those so far are found
pub record AreFoundSoFar (model : SystemModel) (all : List NamedPriority) (n : ℕ) (priorities : List TaskPriority) : Type 0 where
  pub rest : flat_map (missed model) all ≡ flat_map (missed model) (drop n all)
  pub numbers : priorities ≡ map (by_number model) (take n all)

module _ (model : SystemModel) (all : List NamedPriority) (n : ℕ) (priorities : List TaskPriority) (so_far : AreFoundSoFar model all n priorities) where
  module _ (it d : NamedPriority) (lt : n < length all) (at : it ≡ get_or all n d) where
    here : flat_map (missed model) all ≡ missed model it ++ flat_map (missed model) (drop (n + 1) all)
    here = so_far.rest ∙ ap (flat_map (missed model)) (drop_more all n d lt) ∙ ap (λ p. missed model p ++ flat_map (missed model) (drop (n + 1) all)) (sym at)

    -- the next one is found
    pub found_more : (priority : TaskPriority) → missed model it ≡ [] → priority ≡ by_number model it → AreFoundSoFar model all (n + 1) (priorities ++ priority ∷ [])
    found_more priority none is = record {
      rest = here ∙ ap (λ l. l ++ flat_map (missed model) (drop (n + 1) all)) none;
      numbers = ap (λ l. l ++ priority ∷ []) so_far.numbers ∙ ap (λ p. map (by_number model) (take n all) ++ p ∷ []) (is ∙ ap (by_number model) at) ∙ sym (map_more (by_number model) all n d lt);
    }

    -- it isn't
    pub missed_here : (fault : ModelFault) → IsFaultOf (missed model it) fault → IsMissed model all fault
    missed_here fault is =
        subst (λ (refusals : List Refusal). IsFaultOf refusals fault) (sym here) (fault_of_front (missed model it) (flat_map (missed model) (drop (n + 1) all)) fault is)

  -- all are found
  pub all_found : length all ≤ n → ArePriorities model all priorities
  all_found end =
      (so_far.rest ∙ ap (flat_map (missed model)) (drop_all n all end), ap changes.Priorities (so_far.numbers ∙ ap (map (by_number model)) (take_all n all end)))

-- ---- a requirement

-- there is one of its name, or room
abbrev pub room_checks : SystemModel → RequirementDef → List Refusal
room_checks model requirement = unless (has_name requirement.name (requirement_names model) || nat_lt (length model.requirements) MOST_REQUIREMENTS) M10 (section_place part.Requirement)

module _ (model : SystemModel) (requirement to : RequirementDef) (same : to ≡ requirement) where
  -- the one of its name
  pub requirement_there : (r : ℕ) → Some r ≡ requirement_named model to.name → (room_checks model requirement ≡ []) × (changes.Requirement r to ≡ requirement_change (requirement_named model requirement.name) requirement)
  requirement_there r is =
      let named : requirement_named model requirement.name ≡ Some r = sym (is ∙ ap (λ (x : RequirementDef). requirement_named model x.name) same) in (
        ap (λ b. unless (b || nat_lt (length model.requirements) MOST_REQUIREMENTS) M10 (section_place part.Requirement)) (found_known requirement.name (requirement_names model) r named),
        ap (changes.Requirement r) same ∙ ap (λ o. requirement_change o requirement) (sym named),
      )

  -- there is none
  pub requirement_missing : (result : Result Change ModelFault) → None ≡ requirement_named model to.name
      → Answers result (unless (nat_lt (length model.requirements) MOST_REQUIREMENTS) M10 (section_place part.Requirement)) (changes.AddRequirement to)
      → Answers result (room_checks model requirement) (requirement_change (requirement_named model requirement.name) requirement)
  requirement_missing result is added =
      let named : requirement_named model requirement.name ≡ None = sym (is ∙ ap (λ (x : RequirementDef). requirement_named model x.name) same) in
      let room : room_checks model requirement ≡ unless (nat_lt (length model.requirements) MOST_REQUIREMENTS) M10 (section_place part.Requirement)
      = ap (λ b. unless (b || nat_lt (length model.requirements) MOST_REQUIREMENTS) M10 (section_place part.Requirement)) (missing_unknown requirement.name (requirement_names model) named) in
      let change : changes.AddRequirement to ≡ requirement_change (requirement_named model requirement.name) requirement
      = ap changes.AddRequirement same ∙ ap (λ o. requirement_change o requirement) (sym named) in
      subst (λ (refusals : List Refusal). Answers result refusals (requirement_change (requirement_named model requirement.name) requirement)) (sym room)
      (subst (λ (c : Change). Answers result (unless (nat_lt (length model.requirements) MOST_REQUIREMENTS) M10 (section_place part.Requirement)) c) change added)
