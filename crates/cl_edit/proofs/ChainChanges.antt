-- A valid model with one more chain, or without one of its chains: what is refused of it.
use Rattle.std.proofs.Common.{◌≡◌, ℕ, ◌<◌, List, [], ◌∷◌, ◌++◌, length, get_or, refl, ap, ◌∙◌}
use Rattle.std.specs.Prelude.{Some}
use Rattle.std.specs.List.{remove}
use Rattle.std.proofs.lemmas.List.{map-append, length-map}
use Rattle.cl_model.specs.{declared.{chain.{ChainDef.ChainDef, RequirementDef.RequirementDef}, model.SystemModel.SystemModel, place.Place.Place, refusal.Code.TheVariants.{M25, M46}}, ByNumber.{no_chain, chain_at}, Named.{same_name, has_name, index_of, chain_names}, Place.entry_of}
use Rattle.cl_model.specs.{Place.at_key, Refusals.{when, unless, each}, ValidNames.{section_repeats, stimulus_checks, name_checks}, ValidTasks.{naming_checks, task_check, task_checks, deadline_checks}, Validity.{IsValid, chain_check, requirement_check, refusals_of}, Changes.with_new_chain}
use Rattle.cl_model.specs.Changes.{without_chain}
use Rattle.cl_model.specs.declared.place.Part.TheVariants as part
use Rattle.cl_model.specs.declared.place.Key.TheVariants as key
use Rattle.cl_model.proofs.{NamePlaces.{found_below, own_entry}, NamesApart.chains_apart, PassedChecks.{stimuli_pass, tasks_pass, deadlines_pass, chains_pass, requirements_pass}, Refused.{unless_none, each_none}, Removals.{stood_at, apart_removed}}
use Rattle.cl_edit.specs.FewListChecks.{new_chain_name_check, new_chain_checks, kept_chain_check, dropped_chain_checks}
use Rattle.cl_edit.proofs.{CheckParts.{name_parts, chain_names_left, names_and_chains_left, requirements_left, chain_moves}, EachChecked.{each_more, each_same, none_of_each, each_moves, unless_true, unless_not}, NameChecks.{apart_pass, repeats_more, map-remove, left_names, known_longer}}

-- ---- chains change nothing of the parts before them

module _ (model : SystemModel) (chains : List ChainDef) where
  stimuli_stay : stimulus_checks (record model { chains = chains }) ≡ stimulus_checks model
  unfolding stimulus_checks
  stimuli_stay = refl

  tasks_stay : task_checks (record model { chains = chains }) ≡ task_checks model
  unfolding task_check naming_checks
  tasks_stay = refl

  deadlines_stay : deadline_checks (record model { chains = chains }) ≡ deadline_checks model
  deadlines_stay = refl

  checks_stay : chain_check (record model { chains = chains }) ≡ chain_check model
  unfolding chain_check
  checks_stay = refl

-- ---- one more chain

module _ (model : SystemModel) (valid : IsValid model) (chain : ChainDef) where
  abbrev place : ℕ → Place
  place i = at_key key.Name (entry_of part.Chain i)

  names_new : section_repeats M25 part.Chain (chain_names (with_new_chain model chain)) ≡ new_chain_name_check model chain
  names_new =
      let names : List (List ℕ) = chain_names model in
      ap (section_repeats M25 part.Chain) (map-append (λ (c : ChainDef). c.name) model.chains (chain ∷ []))
      ∙ repeats_more M25 place [] names chain.name
      ∙ ap (λ l. l ++ when (has_name chain.name names) M25 (place (length names))) (apart_pass M25 place names (chains_apart model valid))
      ∙ ap (λ n. when (has_name chain.name names) M25 (place n)) (length-map model.chains (λ (c : ChainDef). c.name))

  chains_new : each (chain_check (with_new_chain model chain)) (model.chains ++ chain ∷ []) ≡ chain_check model (length model.chains) chain
  chains_new =
      ap (λ check. each check (model.chains ++ chain ∷ [])) (checks_stay model (model.chains ++ chain ∷ []))
      ∙ each_more (chain_check model) model.chains chain
      ∙ ap (λ l. l ++ chain_check model (length model.chains) chain) (chains_pass model valid)

  requirement_stays : (i : ℕ) (requirement : RequirementDef) → requirement_check model i requirement ≡ [] → requirement_check (with_new_chain model chain) i requirement ≡ []
  requirement_stays i requirement none =
      unless_true _ M46 (at_key key.Chain (entry_of part.Requirement i))
      (ap (has_name requirement.chain) (map-append (λ (c : ChainDef). c.name) model.chains (chain ∷ []))
      ∙ known_longer requirement.chain (chain_names model) (chain.name ∷ []) (unless_none _ _ _ none))

  names_alone : name_checks (with_new_chain model chain) ≡ new_chain_name_check model chain
  names_alone =
      let parts = name_parts model valid in
      chain_names_left (with_new_chain model chain) parts.0 parts.1.0 parts.1.1.0 parts.1.1.1.0 parts.1.1.1.1.0 parts.1.1.1.1.1.1.0 ∙ names_new

  pub new_chain_refused : refusals_of (with_new_chain model chain) ≡ new_chain_checks model chain
  new_chain_refused =
      let changed : SystemModel = with_new_chain model chain in
      let chains : List ChainDef = model.chains ++ chain ∷ [] in
      names_and_chains_left changed (stimuli_stay model chains ∙ stimuli_pass model valid) (tasks_stay model chains ∙ tasks_pass model valid)
      (deadlines_stay model chains ∙ deadlines_pass model valid)
      (each_moves (requirement_check model) (requirement_check changed) model.requirements requirement_stays (requirements_pass model valid))
      ∙ ap (λ l. l ++ (each (chain_check changed) chains ++ [])) names_alone
      ∙ ap (λ l. new_chain_name_check model chain ++ (l ++ [])) chains_new

-- ---- one chain less

module _ (model : SystemModel) (valid : IsValid model) (c : ℕ) (within : c < length model.chains) where
  abbrev name : List ℕ
  name = (chain_at model c).name

  found : index_of name (chain_names model) ≡ Some c
  found = own_entry (λ (chain : ChainDef). chain.name) model.chains (chains_apart model valid) c no_chain within

  names_left : chain_names (without_chain model c) ≡ remove (chain_names model) c
  names_left = map-remove (λ (chain : ChainDef). chain.name) model.chains c

  names_apart : section_repeats M25 part.Chain (chain_names (without_chain model c)) ≡ []
  names_apart =
      ap (section_repeats M25 part.Chain) names_left
      ∙ apart_pass M25 (λ i. at_key key.Name (entry_of part.Chain i)) (remove (chain_names model) c)
      (apart_removed (chain_names model) c (found_below name (chain_names model) c found) (chains_apart model valid))

  chain_stays : (k : ℕ) (d : ChainDef) → k < length (remove model.chains c) → chain_check model k (get_or (remove model.chains c) k d) ≡ []
  chain_stays k d k_lt =
      let stood = stood_at model.chains c k d within k_lt in
      ap (chain_check model k) stood.same
      ∙ chain_moves model stood.at k (get_or model.chains stood.at d) (each_none (chain_check model) model.chains stood.at d (chains_pass model valid) stood.within)

  chains_stay : each (chain_check (without_chain model c)) (remove model.chains c) ≡ []
  chains_stay =
      ap (λ check. each check (remove model.chains c)) (checks_stay model (remove model.chains c))
      ∙ none_of_each (chain_check model) (remove model.chains c) chain_stays

  requirement_left : (k : ℕ) (d : RequirementDef) → k < length model.requirements
      → requirement_check (without_chain model c) k (get_or model.requirements k d) ≡ kept_chain_check name k (get_or model.requirements k d)
  requirement_left k d lt =
      let requirement = get_or model.requirements k d in
      let place : Place = at_key key.Chain (entry_of part.Requirement k) in
      let known = unless_none _ _ _ (each_none (requirement_check model) model.requirements k d (requirements_pass model valid) lt) in
      ap (λ b. unless b M46 place)
      (ap (has_name requirement.chain) names_left ∙ left_names (chain_names model) name requirement.chain c (chains_apart model valid) found known)
      ∙ unless_not (same_name name requirement.chain) M46 place

  names_none : name_checks (without_chain model c) ≡ []
  names_none =
      let parts = name_parts model valid in
      chain_names_left (without_chain model c) parts.0 parts.1.0 parts.1.1.0 parts.1.1.1.0 parts.1.1.1.1.0 parts.1.1.1.1.1.1.0 ∙ names_apart

  pub dropped_chain_refused : refusals_of (without_chain model c) ≡ dropped_chain_checks model c
  dropped_chain_refused =
      let left : SystemModel = without_chain model c in
      let chains : List ChainDef = remove model.chains c in
      requirements_left left names_none (stimuli_stay model chains ∙ stimuli_pass model valid) (tasks_stay model chains ∙ tasks_pass model valid)
      (deadlines_stay model chains ∙ deadlines_pass model valid) chains_stay
      ∙ each_same (requirement_check left) (kept_chain_check name) model.requirements requirement_left
