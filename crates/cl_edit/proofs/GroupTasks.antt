-- The tasks that the groups of a chain stand in are those of its steps.
use Rattle.std.proofs.Common.{◌≡◌, ℕ, ◌<◌, Bool, true, false, cond, ◌==◌, ◌||◌, List, [], ◌∷◌, length, get_or, refl, sym, ap, ◌∙◌, arith}
use Rattle.std.specs.List.{list_any}
use Rattle.std.proofs.lemmas.Bool.{false≢true, false_from_ne_true, eqb-true, eq-eqb}
use Rattle.std.proofs.lemmas.List.{length-map, get_or-map}
use Rattle.std.proofs.lemmas.List.Folds.{list_any_at}
use Rattle.cl_model.specs.{declared.{chain.ChainDef.ChainDef, group.{Group.Group, Step.Step}, model.SystemModel.SystemModel, place.Place.Place, task.RunnableDef.RunnableDef}, ByNumber.{task_at, runnable_at, no_runnable}, Groups.{is_inner, group_of_step, groups_from, groups, groups_of}}
use Rattle.cl_model.specs.{Groups.{steps_of, step_named}, Named.runnable_names, Refusals.each, Validity.IsValid}
use Rattle.cl_model.proofs.{ListFacts.{both_pass, list_any-map}, NamePlaces.known_stands, StepsApart.own_step}
use Rattle.cl_edit.specs.FewListChecks.{kept_step_check}
use Rattle.cl_edit.proofs.EachChecked.{none_of_each, when_false}

twice : (a b : Bool) → (a || b) ≡ (a || (a || b))
twice true b = refl
twice false b = refl

from_is : (t : ℕ) (group : Group) (steps : List Step)
    → list_any (λ (g : Group). g.task == t) (groups_from group steps) ≡ ((group.task == t) || list_any (λ (s : Step). s.task == t) steps)
from_is t group [] = refl
from_is t group (step ∷ steps) =
    elim (is_inner group step) as (λ b. is_inner group step ≡ b
    → list_any (λ (g : Group). g.task == t) (cond b (groups_from (record { task = group.task; first = group.first; last = step.place }) steps) (group ∷ groups_from (group_of_step step) steps))
    ≡ ((group.task == t) || ((step.task == t) || list_any (λ (s : Step). s.task == t) steps))) [
      | true ↦ λ inner.
          let same : group.task ≡ step.task = eqb-true group.task step.task (both_pass _ _ inner).0 in
          from_is t (record { task = group.task; first = group.first; last = step.place }) steps
          ∙ twice (group.task == t) (list_any (λ (s : Step). s.task == t) steps)
          ∙ ap (λ n. (group.task == t) || ((n == t) || list_any (λ (s : Step). s.task == t) steps)) same
      | false ↦ λ outer. ap (λ b. (group.task == t) || b) (from_is t (group_of_step step) steps)
    ] refl

groups_pass : (t : ℕ) (steps : List Step) → list_any (λ (g : Group). g.task == t) (groups steps) ≡ list_any (λ (s : Step). s.task == t) steps
groups_pass t [] = refl
groups_pass t (step ∷ steps) = from_is t (group_of_step step) steps

-- a chain without a group of a task has no runnable of it
pub none_of_task : (model : SystemModel) → IsValid model → (t : ℕ) → t < length model.tasks → (chain : ChainDef) (place : Place)
    → list_any (λ (g : Group). g.task == t) (groups_of model chain) ≡ false → each (kept_step_check (task_at model t) place) chain.runnables ≡ []
unfolding groups_of
none_of_task model valid t known chain place none =
    none_of_each (kept_step_check (task_at model t) place) chain.runnables
    (λ k d lt.
    let name = get_or chain.runnables k d in
    when_false _ _ _ (false_from_ne_true _ (λ in_task.
    let (p, p_lt, p_is) = known_stands name (runnable_names (task_at model t).runnables) in_task in
    let within : p < length (task_at model t).runnables = omega (arith, p_lt, length-map (task_at model t).runnables (λ (r : RunnableDef). r.name)) in
    let own : Step = record { task = t; place = p } in
    let named : (runnable_at model own).name ≡ name = sym (get_or-map (λ (r : RunnableDef). r.name) (task_at model t).runnables p no_runnable name within) ∙ p_is in
    let step : step_named model name ≡ own = ap (step_named model) (sym named) ∙ own_step model valid own (record { known = known; place = within }) in
    let there : list_any (λ (s : Step). s.task == t) (steps_of model chain) ≡ true
    = list_any-map (λ (s : Step). s.task == t) (step_named model) chain.runnables
    ∙ list_any_at (λ n. (step_named model n).task == t) chain.runnables k d lt (eq-eqb _ _ (ap (λ (s : Step). s.task) step)) in
    false≢true (sym none ∙ groups_pass t (steps_of model chain) ∙ there))))
