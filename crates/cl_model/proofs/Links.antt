-- What the names in a valid model stand for: parts of tasks, the runnables and labels of chains, the chains of
-- requirements.
use Rattle.std.proofs.Common.{◌≡◌, ℕ, ◌+◌, ◌<◌, Bool, true, false, not, ◌||◌, Option, Some, None, List, [], ◌∷◌, length, get_or, refl, sym, ap, ◌∙◌, arith}
use Rattle.std.specs.Prelude.{All, Contains, is_some, slice_get, unwrap_or}
use Rattle.std.specs.Option.{option_map, option_and_then}
use Rattle.std.proofs.lemmas.Bool.{false≢true}
use Rattle.std.proofs.lemmas.Option.{slice_get-get_or}
use Rattle.std.proofs.Math.ListN.{length-map}
use Rattle.cl_model.specs.{declared.{chain.{ChainDef.ChainDef, RequirementDef.RequirementDef}, model.SystemModel.SystemModel, stimulus.{StimulusDef.StimulusDef, StimulusKind.StimulusKind}, task.{RunnableDef.RunnableDef, TaskDef.TaskDef}}, ByNumber.{no_task, no_chain, no_stimulus, task_at}}
use Rattle.cl_model.specs.{ByNumber.{chain_at, core_of, stimulus_of, task_named, chain_named}, KnownNames.{AreFound, HasKnownParts, runnable_of_step, IsLinked}, Named.{has_name, index_of, is_some_and, core_names, stimulus_names, label_names, chain_names, kind_named, runnable_named}}
use Rattle.cl_model.specs.{Named.{runnable_names, all_runnables}, Place.{entry_of, at_key}, Refusals.each, Validity.{IsValid, step_of, hop_check, lengths_check, step_check, chain_check, requirement_check}}
use Rattle.cl_model.specs.declared.place.Key.TheVariants as key
use Rattle.cl_model.specs.declared.place.Part.TheVariants as part
use Rattle.cl_model.proofs.{NamePlaces.{known_stands, found_stands, found_below, known_named, names_found, entry_found, own_entry}, NamesApart.{cores_apart, labels_apart, stimuli_apart, tasks_apart, chains_apart}, NamesKnown.{chain_lengths, steps_known, core_known, stimulus_known}}
use Rattle.cl_model.proofs.{NoRefusals.all_none, PassedChecks.{chains_pass, requirements_pass}, Refused.{when_none, unless_none, each_none}, StepFacts.runnable_found}

-- ---- stimuli

module _ (model : SystemModel) where
  -- a kind that is found is that of a stimulus of the name
  kind_at : (name : List ℕ) (found : Option ℕ) → index_of name (stimulus_names model) ≡ found
      → is_some (option_map (λ (s : StimulusDef). s.kind) (option_and_then (slice_get model.stimuli) found)) ≡ true → Contains (stimulus_names model) name
  kind_at name None at is = absurd (false≢true is)
  kind_at name (Some k) at is = found_stands name (stimulus_names model) k at

  pub stimulus_found : (name : List ℕ) → is_some (kind_named model name) ≡ true → Contains (stimulus_names model) name
  stimulus_found name is = kind_at name (index_of name (stimulus_names model)) refl is

  found_kind : (name : List ℕ) (kind : StimulusKind) (found : Option ℕ) → index_of name (stimulus_names model) ≡ found
      → option_map (λ (s : StimulusDef). s.kind) (option_and_then (slice_get model.stimuli) found) ≡ Some kind → Contains model.stimuli (record { name = name; kind = kind })
  found_kind name kind None at is = absurd cc
  found_kind name kind (Some k) at is =
      let wanted : StimulusDef = record { name = name; kind = kind } in
      let stimulus = get_or model.stimuli k wanted in
      let within : k < length model.stimuli = omega (arith, found_below name (stimulus_names model) k at, length-map model.stimuli (λ (s : StimulusDef). s.name)) in
      let same_name : stimulus.name ≡ name = entry_found (λ (s : StimulusDef). s.name) model.stimuli name k wanted at in
      let same_kind : stimulus.kind ≡ kind
      = ap (λ o. unwrap_or o kind) (sym (ap (option_map (λ (s : StimulusDef). s.kind)) (slice_get-get_or model.stimuli k wanted within)) ∙ is) in
      (k, within, ap (λ n. record { name = n; kind = stimulus.kind }) same_name ∙ ap (λ k. record { name = name; kind = k }) same_kind)

  pub kind_found : (name : List ℕ) (kind : StimulusKind) → kind_named model name ≡ Some kind → Contains model.stimuli (record { name = name; kind = kind })
  kind_found name kind is = found_kind name kind (index_of name (stimulus_names model)) refl is

-- ---- entries by their names

module _ (model : SystemModel) where
  pub task_found : (name : List ℕ) (i : ℕ) → task_named model name ≡ Some i → (task_at model i).name ≡ name
  task_found name i = entry_found (λ (t : TaskDef). t.name) model.tasks name i no_task

  pub chain_found : (name : List ℕ) (chain : ℕ) → chain_named model name ≡ Some chain → (chain_at model chain).name ≡ name
  chain_found name chain = entry_found (λ (c : ChainDef). c.name) model.chains name chain no_chain

module _ (model : SystemModel) (valid : IsValid model) where
  pub own_task : (i : ℕ) → i < length model.tasks → task_named model (task_at model i).name ≡ Some i
  own_task i = own_entry (λ (t : TaskDef). t.name) model.tasks (tasks_apart model valid) i no_task

  pub own_chain : (chain : ℕ) → chain < length model.chains → chain_named model (chain_at model chain).name ≡ Some chain
  own_chain chain = own_entry (λ (c : ChainDef). c.name) model.chains (chains_apart model valid) chain no_chain

  pub own_kinds : All (λ (s : StimulusDef). kind_named model s.name ≡ Some s.kind) model.stimuli
  own_kinds k d within =
      ap (λ o. option_map (λ (s : StimulusDef). s.kind) (option_and_then (slice_get model.stimuli) o)) (own_entry (λ (s : StimulusDef). s.name) model.stimuli (stimuli_apart model valid) k d within)
      ∙ ap (option_map (λ (s : StimulusDef). s.kind)) (slice_get-get_or model.stimuli k d within)

  -- the number of a task's core is that of the core that it names
  pub core_named : (i : ℕ) → i < length model.tasks → get_or (core_names model) (core_of model i) [] ≡ (task_at model i).core
  core_named i within = known_named _ (core_names model) (core_known model valid i no_task within)

  -- the kind of a task's stimulus is that of the stimulus that it names
  pub stimulus_named : (i : ℕ) → i < length model.tasks → Contains model.stimuli (record { name = (task_at model i).stimulus; kind = stimulus_of model i })
  stimulus_named i within = kind_found model (task_at model i).stimulus (stimulus_of model i)
      (some_value (kind_named model (task_at model i).stimulus) (stimulus_known model valid i no_task within))
    where
      some_value : (found : Option StimulusKind) → is_some found ≡ true → found ≡ Some (unwrap_or found no_stimulus)
      some_value None is = absurd (false≢true is)
      some_value (Some kind) is = refl

  -- cores, stimuli and labels are found by their names
  pub cores_found : AreFound (core_names model)
  cores_found = names_found (core_names model) (cores_apart model valid)

  pub stimuli_found : AreFound (stimulus_names model)
  stimuli_found = names_found (stimulus_names model) (stimuli_apart model valid)

  pub labels_found : AreFound (label_names model)
  labels_found = names_found (label_names model) (labels_apart model valid)

  -- ---- what is known

  pub parts_known : All (HasKnownParts model) model.tasks
  parts_known i d within = record {
    core = known_stands _ (core_names model) (core_known model valid i d within);
    stimulus = stimulus_found model _ (stimulus_known model valid i d within);
  }

  pub chains_known : All (λ (r : RequirementDef). Contains (chain_names model) r.chain) model.requirements
  chains_known i d within = known_stands _ (chain_names model) (unless_none _ _ _ (each_none (requirement_check model) model.requirements i d (requirements_pass model valid) within))

  -- ---- chains

  -- the runnable of a known step is found
  step_is : (chain : ChainDef) (k : ℕ) → k < length chain.runnables → has_name (get_or chain.runnables k []) (runnable_names (all_runnables model.tasks)) ≡ true
      → step_of model chain k ≡ Some (runnable_of_step model chain k)
  step_is chain k within known =
      ap (option_and_then (runnable_named model)) (slice_get-get_or chain.runnables k [] within) ∙ runnable_found model (get_or chain.runnables k []) known

  -- a label that a known step isn't refused is in its list
  in_list : (step : Option RunnableDef) (runnable : RunnableDef) (label : List ℕ) (list : RunnableDef → List (List ℕ)) → step ≡ Some runnable
      → is_some_and step (λ r. not (has_name label (list r))) ≡ false → Contains (list runnable) label
  in_list step runnable label list is kept =
      known_stands label (list runnable) (not_not (has_name label (list runnable)) (sym (ap (λ s. is_some_and s (λ r. not (has_name label (list r)))) is) ∙ kept))
    where
      not_not : (b : Bool) → not b ≡ false → b ≡ true
      not_not true e = refl
      not_not false e = sym e

  neither : (a b : Bool) → (a || b) ≡ false → (a ≡ false) × (b ≡ false)
  neither true b e = absurd cc
  neither false b e = (refl, e)

  pub chains_linked : All (IsLinked model) model.chains
  unfolding chain_check
  chains_linked i d within =
      let chain = get_or model.chains i d in
      let long = chain_lengths model valid i d within in
      let known = steps_known model valid i d within in
      let steps_place = at_key key.Runnables (entry_of part.Chain i) in
      let labels_place = at_key key.Labels (entry_of part.Chain i) in
      let hops = (all_none (lengths_check i chain ∷ each (step_check model steps_place) chain.runnables ∷ each (hop_check model chain labels_place) chain.labels ∷ [])
      (each_none (chain_check model) model.chains i d (chains_pass model valid) within)).1.1.0 in
      record {
        some = omega (arith, long);
        labels = long;
        known = λ k e k_lt. known_stands _ _ (known k e k_lt);
        handed = λ hop hop_lt.
            let label = get_or chain.labels hop [] in
            let writer : hop < length chain.runnables = omega (arith, long, hop_lt) in
            let reader : hop + 1 < length chain.runnables = omega (arith, long, hop_lt) in
            let kept = neither _ _ (when_none _ _ _ (each_none (hop_check model chain labels_place) chain.labels hop [] hops hop_lt)) in
            record {
              written = in_list _ _ label (λ r. r.writes) (step_is chain hop writer (known hop [] writer)) kept.0;
              read = in_list _ _ label (λ r. r.reads) (step_is chain (hop + 1) reader (known (hop + 1) [] reader)) kept.1;
            };
      }
