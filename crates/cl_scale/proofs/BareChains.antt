-- Models that differ in greatest times alone have the same steps and groups of their chains.
use Rattle.std.proofs.Common.{◌≡◌, ℕ, List, get_or, map, ap, ◌∙◌}
use Rattle.std.proofs.lemmas.Simd.{map-map}
use Rattle.cl_model.specs.{declared.{chain.ChainDef.ChainDef, model.SystemModel.SystemModel, task.RunnableDef.RunnableDef}, ByNumber.{no_chain, chain_at}, Groups.{step_named, steps_of, groups, groups_of, groups_at}}
use Rattle.cl_model.proofs.{KeptLookUps.{names_in, same_step}, ListFacts.maps_agree, NamedAlike.maps_through}
use Rattle.cl_scale.proofs.BareModels.{bare_runnable, bare_task, bare_model}

module _ (model other : SystemModel) (alike : bare_model other ≡ bare_model model) where
  named_alike : map names_in other.tasks ≡ map names_in model.tasks
  unfolding bare_model
  named_alike =
      maps_through names_in bare_task names_in (λ task. map-map (λ (runnable : RunnableDef). runnable.name) bare_runnable task.runnables) other.tasks model.tasks
      (ap (λ (m : SystemModel). m.tasks) alike)

  pub chains_alike : other.chains ≡ model.chains
  unfolding bare_model
  chains_alike = ap (λ (m : SystemModel). m.chains) alike

  pub steps_alike : (chain : ChainDef) → steps_of other chain ≡ steps_of model chain
  steps_alike chain = maps_agree (step_named other) (step_named model) (same_step model other named_alike) chain.runnables

  pub groups_alike : (c : ℕ) → groups_at other c ≡ groups_at model c
  unfolding groups_of
  groups_alike c = ap groups (steps_alike (chain_at other c)) ∙ ap (λ (chains : List ChainDef). groups (steps_of model (get_or chains c no_chain))) chains_alike
