-- The chains of a valid model without one of its tasks: a step is missing where it is a runnable of that task, and
-- each other step stays what it is.
use Rattle.std.proofs.Common.{◌≡◌, ℕ, ◌+◌, ◌<◌, Bool, true, false, not, ◌⊎◌, inl, inr, List, [], ◌++◌, length, get_or, refl, sym, ap, ◌∙◌, arith}
use Rattle.std.specs.Prelude.{Option, Some, None, slice_get}
use Rattle.std.specs.Option.{option_and_then}
use Rattle.std.proofs.lemmas.Bool.{false_from_ne_true, or_parts, or_from, or_right}
use Rattle.std.proofs.lemmas.List.{length-map, get_or-map, append-nil}
use Rattle.cl_model.specs.{declared.{chain.ChainDef.ChainDef, group.Step.Step, model.SystemModel.SystemModel, place.Place.Place, refusal.{Code.TheVariants.{M44, M45}, Refusal.Refusal}, task.{RunnableDef.RunnableDef, TaskDef.TaskDef}}, ByNumber.{no_task, task_at, runnable_at, no_runnable}}
use Rattle.cl_model.specs.{Groups.step_named, Named.{has_name, index_of, is_some_and, runnable_names, runnable_named, all_runnables}, Place.{entry_of, at_key, at_spot}, Refusals.{unless, each}, Validity.{IsValid, misses_label, lengths_check, step_check, hop_check, chain_check}}
use Rattle.cl_model.specs.Changes.{without_task}
use Rattle.cl_model.specs.declared.place.Part.TheVariants as part
use Rattle.cl_model.specs.declared.place.Key.TheVariants as key
use Rattle.cl_model.proofs.{DroppedTasks.was_step, NamePlaces.known_stands, NoRefusals.all_none, PassedChecks.chains_pass, Refused.{unless_none, each_none}, StepFacts.runnable_found, StepsApart.{one_of_name, own_step}}
use Rattle.cl_edit.specs.FewListChecks.{kept_step_check, kept_steps_check}
use Rattle.cl_edit.proofs.{CheckParts.chain_lists, EachChecked.{each_same, each_moves, when_fewer, unless_not}, FoundFacts.found_known, NameChecks.{any_removed, only_other}, TaskLists.name_among}

-- of three lists where the middle one is left
middle_left : (a b c : List Refusal) → a ≡ [] → c ≡ [] → a ++ (b ++ (c ++ [])) ≡ b
middle_left a b c a_is c_is = rw (a_is, c_is) (append-nil b)

module _ (model : SystemModel) (valid : IsValid model) (t : ℕ) (known : t < length model.tasks) where
  abbrev left : SystemModel
  left = without_task model t

  -- a name that is left isn't one of the dropped task
  not_dropped : (name : List ℕ) → has_name name (runnable_names (all_runnables left.tasks)) ≡ true → has_name name (runnable_names (task_at model t).runnables) ≡ true → ⊥
  not_dropped name still dropped =
      let (p, p_lt, p_is) = known_stands name (runnable_names (task_at model t).runnables) dropped in
      let within : p < length (task_at model t).runnables = omega (arith, p_lt, length-map (task_at model t).runnables (λ (r : RunnableDef). r.name)) in
      let own : Step = record { task = t; place = p } in
      let own_name : (runnable_at model own).name ≡ name = sym (get_or-map (λ (r : RunnableDef). r.name) (task_at model t).runnables p no_runnable name within) ∙ p_is in
      let was = was_step model t known name still in
      was.other (ap (λ (s : Step). s.task) (one_of_name model valid was.step own was.is (record { known = known; place = within }) (was.named ∙ sym own_name)))

  -- a name that is left was there
  still_there : (name : List ℕ) → has_name name (runnable_names (all_runnables left.tasks)) ≡ true → has_name name (runnable_names (all_runnables model.tasks)) ≡ true
  still_there name still =
      name_among name model.tasks ∙ any_removed (λ (task : TaskDef). has_name name (runnable_names task.runnables)) model.tasks t no_task known
      ∙ or_right _ _ (sym (name_among name left.tasks) ∙ still)

  -- so a known name is left where it isn't one of the dropped task
  left_where : (name : List ℕ) → has_name name (runnable_names (all_runnables model.tasks)) ≡ true
      → has_name name (runnable_names (all_runnables left.tasks)) ≡ not (has_name name (runnable_names (task_at model t).runnables))
  left_where name there =
      elim (has_name name (runnable_names (task_at model t).runnables)) as (λ b. has_name name (runnable_names (task_at model t).runnables) ≡ b
      → has_name name (runnable_names (all_runnables left.tasks)) ≡ not b) [
        | true ↦ λ dropped. false_from_ne_true _ (λ still. not_dropped name still dropped)
        | false ↦ λ kept.
            let either = sym (any_removed (λ (task : TaskDef). has_name name (runnable_names task.runnables)) model.tasks t no_task known) ∙ sym (name_among name model.tasks) ∙ there in
            name_among name left.tasks ∙ only_other _ _ either kept ∙ ap not kept
      ] refl

  -- what a name stands for: nothing more, or what it stood for
  runnable_left : (name : List ℕ) → (runnable_named left name ≡ None) ⊎ (runnable_named left name ≡ runnable_named model name)
  runnable_left name = by (index_of name (runnable_names (all_runnables left.tasks))) refl
    where
      by : (place : Option ℕ) → index_of name (runnable_names (all_runnables left.tasks)) ≡ place → (runnable_named left name ≡ None) ⊎ (runnable_named left name ≡ runnable_named model name)
      by None is = inl (ap (option_and_then (slice_get (all_runnables left.tasks))) is)
      by (Some n) is =
          let still = found_known name (runnable_names (all_runnables left.tasks)) n is in
          let was = was_step model t known name still in
          let step : step_named model name ≡ was.step = ap (step_named model) (sym was.named) ∙ own_step model valid was.step was.is in
          inr (runnable_found left name still ∙ ap Some (sym was.same) ∙ ap (λ (s : Step). Some (runnable_at model s)) (sym step) ∙ sym (runnable_found model name (still_there name still)))

  -- a step that misses no label misses none
  fewer_missed : (name : Option (List ℕ)) (test : RunnableDef → Bool) → is_some_and (option_and_then (runnable_named model) name) test ≡ false
      → is_some_and (option_and_then (runnable_named left) name) test ≡ false
  fewer_missed None test none = refl
  fewer_missed (Some name) test none =
      elim (runnable_left name) [
        | inl gone ↦ ap (λ r. is_some_and r test) gone
        | inr same ↦ ap (λ r. is_some_and r test) same ∙ none
      ]

  hop_stays : (chain : ChainDef) (place : Place) (k : ℕ) (label : List ℕ) → hop_check model chain place k label ≡ [] → hop_check left chain place k label ≡ []
  hop_stays chain place k label none =
      when_fewer (misses_label model chain k label) (misses_label left chain k label) M45 _ _
      (λ none.
      let parts = or_parts _ _ none in
      or_from _ _ (fewer_missed (slice_get chain.runnables k) (λ (writer : RunnableDef). not (has_name label writer.writes)) parts.0)
      (fewer_missed (slice_get chain.runnables (k + 1)) (λ (reader : RunnableDef). not (has_name label reader.reads)) parts.1)) none

  -- M43 to M45 of a chain
  chain_left : (c : ℕ) (chain : ChainDef) → chain_check model c chain ≡ [] → chain_check left c chain ≡ kept_steps_check (task_at model t) c chain
  unfolding chain_check
  chain_left c chain none =
      let parts = all_none (chain_lists model c chain) none in
      let steps : Place = at_key key.Runnables (entry_of part.Chain c) in
      let labels : Place = at_key key.Labels (entry_of part.Chain c) in
      middle_left (lengths_check c chain) (each (step_check left steps) chain.runnables) (each (hop_check left chain labels) chain.labels) parts.0
      (each_moves (hop_check model chain labels) (hop_check left chain labels) chain.labels (hop_stays chain labels) parts.1.1.0)
      ∙ each_same (step_check left steps) (kept_step_check (task_at model t) steps) chain.runnables
      (λ k d lt.
      let name = get_or chain.runnables k d in
      ap (λ b. unless b M44 (at_spot k steps)) (left_where name (unless_none _ _ _ (each_none (step_check model steps) chain.runnables k d parts.1.0 lt)))
      ∙ unless_not (has_name name (runnable_names (task_at model t).runnables)) M44 (at_spot k steps))

  pub chains_without : each (chain_check left) model.chains ≡ each (kept_steps_check (task_at model t)) model.chains
  chains_without =
      each_same (chain_check left) (kept_steps_check (task_at model t)) model.chains
      (λ c d lt. chain_left c (get_or model.chains c d) (each_none (chain_check model) model.chains c d (chains_pass model valid) lt))
