-- A valid model with another requirement, with one more, or without one: what is refused of it.
use Rattle.std.proofs.Common.{◌≡◌, ℕ, suc, ◌<◌, ◌≤◌, true, false, List, [], ◌∷◌, ◌++◌, length, get_or, set, drop, refl, ap, ◌∙◌, arith, nat_lt}
use Rattle.std.specs.List.{remove}
use Rattle.std.proofs.lemmas.Bool.{ltb-true, ltb-false}
use Rattle.std.proofs.lemmas.List.{append-nil, take_all, drop_all, map-append, length-map, length-set, get_or-set_same, get_or-set_other}
use Rattle.cl_model.specs.{declared.{chain.RequirementDef.RequirementDef, model.SystemModel.SystemModel, place.Place.Place, refusal.Code.TheVariants.{M26, M46}}, ByNumber.{no_requirement, requirement_at}, Named.{has_name, requirement_names}, Place.{entry_of, at_key}, Refusals.each}
use Rattle.cl_model.specs.{ValidNames.{section_repeats, stimulus_checks}, ValidTasks.{naming_checks, task_check, task_checks}, Validity.{IsValid, chain_check, requirement_check, refusals_of}, Changes.{with_requirement, with_new_requirement, without_requirement}}
use Rattle.cl_model.specs.declared.place.Part.TheVariants as part
use Rattle.cl_model.specs.declared.place.Key.TheVariants as key
use Rattle.cl_model.proofs.{EachFacts.each_only, NamesApart.requirements_apart, PassedChecks.{stimuli_pass, tasks_pass, deadlines_pass, chains_pass, requirements_pass}, Refused.each_none, Removals.{stood_at, apart_removed}}
use Rattle.cl_edit.proofs.{CheckParts.{name_parts, none_of_names, requirements_left}, EachChecked.{each_more, none_of_each, unless_moves, when_false}, NameChecks.{apart_pass, repeats_more, map-remove}, TaskSetters.map_set_same}

abbrev place : ℕ → Place
place i = at_key key.Name (entry_of part.Requirement i)

none_removed : {X : Type 0} (xs : List X) (i : ℕ) → length xs ≤ i → remove xs i ≡ xs
none_removed xs i le = ap (λ l. l ++ drop (suc i) xs) (take_all i xs le) ∙ ap (λ l. xs ++ l) (drop_all (suc i) xs (omega arith)) ∙ append-nil xs

-- ---- other requirements

module _ (model : SystemModel) (valid : IsValid model) (requirements : List RequirementDef) where
  abbrev changed : SystemModel
  changed = record model { requirements = requirements }

  stimuli_stay : stimulus_checks changed ≡ []
  unfolding stimulus_checks
  stimuli_stay = stimuli_pass model valid

  tasks_stay : task_checks changed ≡ []
  unfolding task_check naming_checks
  tasks_stay = tasks_pass model valid

  chains_stay : each (chain_check changed) model.chains ≡ []
  unfolding chain_check
  chains_stay = chains_pass model valid

  -- where their names are apart, they alone are checked
  they_alone : section_repeats M26 part.Requirement (requirement_names changed) ≡ [] → refusals_of changed ≡ each (requirement_check model) requirements
  they_alone apart =
      let parts = name_parts model valid in
      requirements_left changed (none_of_names changed parts.0 parts.1.0 parts.1.1.0 parts.1.1.1.0 parts.1.1.1.1.0 parts.1.1.1.1.1.0 apart)
      stimuli_stay tasks_stay (deadlines_pass model valid) chains_stay

-- ---- one of them

module _ (model : SystemModel) (valid : IsValid model) where
  names_apart : section_repeats M26 part.Requirement (requirement_names model) ≡ []
  names_apart = apart_pass M26 place (requirement_names model) (requirements_apart model valid)

  -- one that stands passes, under each number
  stands : (r i : ℕ) (d : RequirementDef) → r < length model.requirements → requirement_check model i (get_or model.requirements r d) ≡ []
  stands r i d lt = unless_moves _ M46 _ _ (each_none (requirement_check model) model.requirements r d (requirements_pass model valid) lt)

  pub requirement_set : (r : ℕ) (to : RequirementDef) → r < length model.requirements → to.name ≡ (requirement_at model r).name → refusals_of (with_requirement model r to) ≡ requirement_check model r to
  requirement_set r to lt named =
      let requirements : List RequirementDef = set model.requirements r to in
      let long = length-set model.requirements r to in
      they_alone model valid requirements
      (ap (section_repeats M26 part.Requirement) (map_set_same (λ (x : RequirementDef). x.name) model.requirements r to no_requirement named) ∙ names_apart)
      ∙ each_only (requirement_check model) requirements r no_requirement (omega (arith, lt, long))
      (λ k k_lt apart. ap (requirement_check model k) (get_or-set_other model.requirements r k to no_requirement apart) ∙ stands k k no_requirement (omega (arith, k_lt, long)))
      ∙ ap (requirement_check model r) (get_or-set_same model.requirements r to no_requirement lt)

  pub requirement_added : (requirement : RequirementDef) → has_name requirement.name (requirement_names model) ≡ false
      → refusals_of (with_new_requirement model requirement) ≡ requirement_check model (length model.requirements) requirement
  requirement_added requirement new =
      let names : List (List ℕ) = requirement_names model in
      they_alone model valid (model.requirements ++ requirement ∷ [])
      (ap (section_repeats M26 part.Requirement) (map-append (λ (x : RequirementDef). x.name) model.requirements (requirement ∷ []))
      ∙ repeats_more M26 place [] names requirement.name
      ∙ ap (λ l. section_repeats M26 part.Requirement names ++ l) (when_false _ M26 (place (length names)) new)
      ∙ ap (λ l. l ++ []) names_apart)
      ∙ each_more (requirement_check model) model.requirements requirement
      ∙ ap (λ l. l ++ requirement_check model (length model.requirements) requirement) (requirements_pass model valid)

  one_less : (r : ℕ) → r < length model.requirements → refusals_of (without_requirement model r) ≡ []
  one_less r lt =
      let names : List (List ℕ) = requirement_names model in
      they_alone model valid (remove model.requirements r)
      (ap (section_repeats M26 part.Requirement) (map-remove (λ (x : RequirementDef). x.name) model.requirements r)
      ∙ apart_pass M26 place (remove names r) (apart_removed names r (omega (arith, lt, length-map model.requirements (λ (x : RequirementDef). x.name))) (requirements_apart model valid)))
      ∙ none_of_each (requirement_check model) (remove model.requirements r)
      (λ k d k_lt. let stood = stood_at model.requirements r k d lt k_lt in ap (requirement_check model k) stood.same ∙ stands stood.at k d stood.within)

  pub requirement_dropped : (r : ℕ) → refusals_of (without_requirement model r) ≡ []
  requirement_dropped r = elim (nat_lt r (length model.requirements)) as (λ b. nat_lt r (length model.requirements) ≡ b → refusals_of (without_requirement model r) ≡ []) [
    | true ↦ λ e. one_less r (ltb-true r (length model.requirements) e)
    | false ↦ λ e.
        ap (λ (requirements : List RequirementDef). refusals_of (record model { requirements = requirements })) (none_removed model.requirements r (ltb-false r (length model.requirements) e))
        ∙ valid.accepted
  ] refl
