-- The groups of the chains of a valid model.
use Rattle.std.proofs.Common.{◌≡◌, ℕ, suc, ◌+◌, ◌<◌, ◌≤◌, true, false, cond, ◌==◌, List, [], ◌∷◌, ◌++◌, length, get_or, take, map, refl, sym, ap, ◌∙◌, arith, nat_lt}
use Rattle.std.specs.Prelude.{All}
use Rattle.std.proofs.lemmas.Bool.{ltb-true, ltb-false, eqb-true}
use Rattle.std.proofs.lemmas.List.{take_more, map-append, length-map, get_or_past}
use Rattle.std.proofs.lemmas.List.Elements.{All-nil, All-cons, All-map, All-same}
use Rattle.cl_model.specs.{declared.{chain.ChainDef.ChainDef, group.{Group.Group, Step.Step}, groups.StepTable.StepTable, limits.TheConstants.MOST_STEPS, model.SystemModel.SystemModel}, Groups.{step_named, steps_of, is_inner, group_of_step, groups_from, groups, groups_of, groups_at}}
use Rattle.cl_model.specs.{Groups.{IsGroupOf, IsStepOf}, Named.{has_name, runnable_names, all_runnables}, ByNumber.{no_chain, chain_at}, Inner.StepTable.{step_in, AreStepsOf}, Validity.IsValid}
use Rattle.cl_model.proofs.{ListFacts.both_pass, StepFacts.{step_in_is, step_stands_in}, NamesKnown.{chain_lengths, steps_known}}

-- ---- what is kept for a chain

-- the steps of a chain that stands in the list are in the table
pub steps_known_at : (model : SystemModel) → IsValid model → (table : StepTable) → AreStepsOf model.tasks table
    → (chains : List ChainDef) (i : ℕ) (chain : ChainDef) → chains ≡ model.chains → i < length chains → chain ≡ get_or chains i chain
    → All (λ name. has_name name table.names ≡ true) chain.runnables
steps_known_at model valid table kept chains i chain same lt at =
    let here : chain.runnables ≡ (get_or model.chains i chain).runnables = ap (λ (c : ChainDef). c.runnables) at ∙ ap (λ cs. (get_or cs i chain).runnables) same in
    rw (here, kept.names) (steps_known model valid i chain (rw same at lt))

-- the look-up of each name in the table
steps_are : (model : SystemModel) (table : StepTable) → AreStepsOf model.tasks table → (names : List (List ℕ))
    → All (λ name. has_name name (runnable_names (all_runnables model.tasks)) ≡ true) names → map (step_in table) names ≡ map (step_named model) names
steps_are model table kept [] known = refl
steps_are model table kept (name ∷ names) known =
    ap (λ s. s ∷ map (step_in table) names) (step_in_is model table name kept (known 0 name (omega arith)))
    ∙ ap (λ l. step_named model name ∷ l) (steps_are model table kept names (λ k d lt. known (suc k) d (omega arith)))

-- the groups that the table gives of a chain
pub groups_found : (model : SystemModel) (table : StepTable) → AreStepsOf model.tasks table → (chain : ChainDef) → All (λ name. has_name name table.names ≡ true) chain.runnables
    → groups (map (step_in table) chain.runnables) ≡ groups_of model chain
unfolding groups_of
groups_found model table kept chain known = ap groups (steps_are model table kept chain.runnables (rw kept.names at known))

-- the groups of one more chain
pub groups_more : (model : SystemModel) → IsValid model → (table : StepTable) → AreStepsOf model.tasks table
    → (chains : List ChainDef) (i : ℕ) (chain : ChainDef) (made : List Group) (old new : List (List Group))
    → chains ≡ model.chains → i < length chains → chain ≡ get_or chains i chain → made ≡ groups (map (step_in table) chain.runnables)
    → old ≡ map (groups_of model) (take i chains) → new ≡ old ++ made ∷ [] → new ≡ map (groups_of model) (take (i + 1) chains)
groups_more model valid table kept chains i chain made old new same lt at makes so_far pushed =
    let value : made ≡ groups_of model (get_or chains i chain)
    = makes ∙ groups_found model table kept chain (steps_known_at model valid table kept chains i chain same lt at) ∙ ap (groups_of model) at in
    pushed ∙ ap (λ o. o ++ made ∷ []) so_far ∙ ap (λ m. map (groups_of model) (take i chains) ++ m ∷ []) value
    ∙ sym (ap (map (groups_of model)) (take_more chains i chain lt) ∙ map-append (groups_of model) (take i chains) (get_or chains i chain ∷ []))

-- ---- how many groups there are

groups_from_few : (steps : List Step) (group : Group) → (0 < length (groups_from group steps)) × (length (groups_from group steps) ≤ length steps + 1)
groups_from_few [] group = (omega arith, omega arith)
groups_from_few (step ∷ steps) group =
    elim (is_inner group step) as (λ b.
    (0 < length (cond b (groups_from (record { task = group.task; first = group.first; last = step.place }) steps) (group ∷ groups_from (group_of_step step) steps)))
    × (length (cond b (groups_from (record { task = group.task; first = group.first; last = step.place }) steps) (group ∷ groups_from (group_of_step step) steps)) ≤ length (step ∷ steps) + 1)) [
      | true ↦ let rest = groups_from_few steps (record { task = group.task; first = group.first; last = step.place }) in (rest.0, omega arith)
      | false ↦ let rest = groups_from_few steps (group_of_step step) in (omega arith, omega arith)
    ]

-- no more groups than steps, and one at least where there is a step
pub groups_few : (steps : List Step) → length (groups steps) ≤ length steps
groups_few [] = omega arith
groups_few (step ∷ steps) = let rest = groups_from_few steps (group_of_step step) in omega arith

pub groups_some : (steps : List Step) → 0 < length steps → 0 < length (groups steps)
groups_some [] lt = absurd (omega arith)
groups_some (step ∷ steps) lt = (groups_from_few steps (group_of_step step)).0

-- ---- what groups are

groups_from_are : (model : SystemModel) (steps : List Step) (group : Group) → IsGroupOf model group → All (IsStepOf model) steps → All (IsGroupOf model) (groups_from group steps)
groups_from_are model [] group is each = All-cons (IsGroupOf model) group [] is (All-nil (IsGroupOf model))
groups_from_are model (step ∷ steps) group is each =
    let here : IsStepOf model step = each 0 step (omega arith) in
    let rest : All (IsStepOf model) steps = λ k d lt. each (suc k) d (omega arith) in
    elim (is_inner group step) as (λ b. is_inner group step ≡ b
    → All (IsGroupOf model) (cond b (groups_from (record { task = group.task; first = group.first; last = step.place }) steps) (group ∷ groups_from (group_of_step step) steps))) [
      | true ↦ λ e.
          let inner = both_pass (group.task == step.task) (nat_lt group.last step.place) e in
          let same : group.task ≡ step.task = eqb-true group.task step.task inner.0 in
          let behind = ltb-true group.last step.place inner.1 in
          groups_from_are model steps (record { task = group.task; first = group.first; last = step.place })
          (record { known = is.known; ordered = omega (arith, is.ordered); within = rw same here.place }) rest
      | false ↦ λ e.
          All-cons (IsGroupOf model) group (groups_from (group_of_step step) steps) is
          (groups_from_are model steps (group_of_step step) (record { known = here.known; ordered = omega arith; within = here.place }) rest)
    ] refl

groups_are : (model : SystemModel) (steps : List Step) → All (IsStepOf model) steps → All (IsGroupOf model) (groups steps)
groups_are model [] each = All-nil (IsGroupOf model)
groups_are model (step ∷ steps) each =
    let here : IsStepOf model step = each 0 step (omega arith) in
    groups_from_are model steps (group_of_step step) (record { known = here.known; ordered = omega arith; within = here.place }) (λ k d lt. each (suc k) d (omega arith))

module _ (model : SystemModel) (valid : IsValid model) where
  steps_stand : (chain : ℕ) → chain < length model.chains → All (IsStepOf model) (steps_of model (chain_at model chain))
  steps_stand chain lt = All-map (IsStepOf model) (step_named model) (chain_at model chain).runnables
      (λ k d k_lt. step_stands_in model _ (steps_known model valid chain no_chain lt k d k_lt))

  -- past the last chain there are no groups
  none_past : (chain : ℕ) → length model.chains ≤ chain → groups_at model chain ≡ []
  unfolding groups_of no_chain
  none_past chain past = ap (groups_of model) (get_or_past model.chains chain no_chain past)

  within : (chain : ℕ) → chain < length model.chains → All (IsGroupOf model) (groups_at model chain)
  unfolding groups_of
  within chain lt = groups_are model (steps_of model (chain_at model chain)) (steps_stand chain lt)

  pub groups_at_are : (chain : ℕ) → All (IsGroupOf model) (groups_at model chain)
  groups_at_are chain = elim (nat_lt chain (length model.chains)) as (λ b. nat_lt chain (length model.chains) ≡ b → All (IsGroupOf model) (groups_at model chain)) [
    | true ↦ λ e. within chain (ltb-true chain (length model.chains) e)
    | false ↦ λ e. All-same (IsGroupOf model) (groups_at model chain) [] (none_past chain (ltb-false chain (length model.chains) e)) (All-nil (IsGroupOf model))
  ] refl

  pub groups_at_some : (chain : ℕ) → chain < length model.chains → 0 < length (groups_at model chain)
  unfolding groups_of
  groups_at_some chain lt = groups_some (steps_of model (chain_at model chain))
      (omega (arith, chain_lengths model valid chain no_chain lt, length-map (chain_at model chain).runnables (step_named model)))

  pub groups_at_few : (chain : ℕ) → chain < length model.chains → length (groups_at model chain) ≤ MOST_STEPS
  unfolding groups_of
  groups_at_few chain lt =
      let few = groups_few (steps_of model (chain_at model chain)) in
      let steps = (valid.in_range.chains chain no_chain lt).runnables in
      omega (arith, few, steps, length-map (chain_at model chain).runnables (step_named model))
