-- The first late task along a chain is the same along its steps and along its groups, since an inner hop stays in one
-- task.
use Rattle.std.proofs.Common.{◌≡◌, ℕ, ◌+◌, ◌<◌, ◌≤◌, Bool, true, false, cond, ◌==◌, Option, Some, None, List, [], ◌∷◌, length, get_or, take, refl, sym, ap, ◌∙◌, subst, nat_lt}
use Rattle.std.specs.Prelude.{find}
use Rattle.std.specs.Option.{option_map}
use Rattle.std.proofs.lemmas.Bool.{and_parts, eqb-true}
use Rattle.std.proofs.lemmas.List.{take_all}
use Rattle.std.proofs.lemmas.List.Elements.{All-more}
use Rattle.cl_model.specs.{declared.{model.SystemModel.SystemModel, chain.ChainDef.ChainDef, group.{Group.Group, Step.Step}}, Groups.{is_inner, group_of_step, groups_from, groups, steps_of, groups_of}}
use Rattle.cl_runs.proofs.FirstFound.{none_passes, finds_none, finds_first}
use Rattle.cl_bound.specs.{declared.answer.TaskAnswer.TaskAnswer, Answers.{answer_at, is_late, NoneIsLate}}
use Rattle.cl_analyse.specs.ChainAnswers.{first_late}

-- the first task along groups that is late, if there is one
abbrev pub first_late_group : List TaskAnswer → List Group → Option ℕ
first_late_group answers groups = option_map (λ (group : Group). group.task) (find (λ (group : Group). is_late (answer_at answers group.task)) groups)

-- ---- along steps and along groups

map_cond : {X : Type 0} (b : Bool) (f : X → ℕ) (x : X) (rest : Option X) → option_map f (cond b (Some x) rest) ≡ cond b (Some (f x)) (option_map f rest)
map_cond true f x rest = refl
map_cond false f x rest = refl

nothing_mapped : {X : Type 0} (f : X → ℕ) (found : Option X) → option_map f found ≡ None → found ≡ None
nothing_mapped f None is = refl
nothing_mapped f (Some x) is = cc

-- what was found first stays
same_twice : (b : Bool) (n : ℕ) (rest : Option ℕ) → cond b (Some n) (cond b (Some n) rest) ≡ cond b (Some n) rest
same_twice true n rest = refl
same_twice false n rest = refl

module _ (answers : List TaskAnswer) where
  -- whether a task is late
  abbrev late : ℕ → Bool
  late task = is_late (answer_at answers task)

  late_step : (step : Step) (steps : List Step) → first_late answers (step ∷ steps) ≡ cond (late step.task) (Some step.task) (first_late answers steps)
  late_step step steps = map_cond (late step.task) (λ (s : Step). s.task) step (find (λ (s : Step). late s.task) steps)

  late_group : (group : Group) (groups : List Group)
      → first_late_group answers (group ∷ groups) ≡ cond (late group.task) (Some group.task) (first_late_group answers groups)
  late_group group groups = map_cond (late group.task) (λ (g : Group). g.task) group (find (λ (g : Group). late g.task) groups)

  -- from a group so far on: it is the task of the group, or the first along the steps
  late_from : (steps : List Step) (group : Group)
      → first_late_group answers (groups_from group steps) ≡ cond (late group.task) (Some group.task) (first_late answers steps)
  late_from [] group = late_group group []
  late_from (step ∷ steps) group =
      let longer : Group = record { task = group.task; first = group.first; last = step.place } in
      elim (is_inner group step) as (λ b. is_inner group step ≡ b
      → first_late_group answers (cond b (groups_from longer steps) (group ∷ groups_from (group_of_step step) steps))
      ≡ cond (late group.task) (Some group.task) (first_late answers (step ∷ steps))) [
        | true ↦ λ inner.
            let same : group.task ≡ step.task = eqb-true group.task step.task (and_parts (group.task == step.task) (nat_lt group.last step.place) inner).0 in
            late_from steps longer
            ∙ sym (same_twice (late group.task) group.task (first_late answers steps))
            ∙ ap (λ (n : ℕ). cond (late group.task) (Some group.task) (cond (late n) (Some n) (first_late answers steps))) same
            ∙ sym (ap (cond (late group.task) (Some group.task)) (late_step step steps))
        | false ↦ λ _.
            late_group group (groups_from (group_of_step step) steps)
            ∙ ap (cond (late group.task) (Some group.task)) (late_from steps (group_of_step step) ∙ sym (late_step step steps))
      ] refl

  late_along : (steps : List Step) → first_late answers steps ≡ first_late_group answers (groups steps)
  late_along [] = refl
  late_along (step ∷ steps) = late_step step steps ∙ sym (late_from steps (group_of_step step))

module _ (answers : List TaskAnswer) (model : SystemModel) (chain : ChainDef) where
  pub first_late_of_groups : first_late answers (steps_of model chain) ≡ first_late_group answers (groups_of model chain)
  unfolding groups_of
  first_late_of_groups = late_along answers (steps_of model chain)

  -- ---- no task of the chain is late

  pub settled_groups : first_late answers (steps_of model chain) ≡ None → NoneIsLate answers (groups_of model chain)
  settled_groups none = none_passes (λ (group : Group). late answers group.task) (groups_of model chain)
      (nothing_mapped (λ (group : Group). group.task) (find (λ (group : Group). late answers group.task) (groups_of model chain)) (sym first_late_of_groups ∙ none))

  pub none_late : NoneIsLate answers (groups_of model chain) → first_late answers (steps_of model chain) ≡ None
  none_late timely =
      first_late_of_groups ∙ ap (option_map (λ (group : Group). group.task)) (finds_none (λ (group : Group). late answers group.task) (groups_of model chain) timely)

  -- ---- the groups from the front on

  -- one is late, and none before it
  pub late_found : (i : ℕ) (group d : Group) → i < length (groups_of model chain) → group ≡ get_or (groups_of model chain) i d
      → NoneIsLate answers (take i (groups_of model chain)) → is_late (answer_at answers group.task) ≡ true
      → first_late answers (steps_of model chain) ≡ Some group.task
  late_found i group d within at before is =
      first_late_of_groups
      ∙ ap (option_map (λ (g : Group). g.task))
      (finds_first (λ (g : Group). late answers g.task) (groups_of model chain) i d within before (subst (λ (g : Group). late answers g.task ≡ true) at is))
      ∙ sym (ap (λ (g : Group). Some g.task) at)

  -- one more isn't late
  pub timely_more : (i : ℕ) (group d : Group) → i < length (groups_of model chain) → group ≡ get_or (groups_of model chain) i d
      → NoneIsLate answers (take i (groups_of model chain)) → is_late (answer_at answers group.task) ≡ false
      → NoneIsLate answers (take (i + 1) (groups_of model chain))
  timely_more i group d within at before is =
      All-more (λ (g : Group). late answers g.task ≡ false) (groups_of model chain) i d within before (subst (λ (g : Group). late answers g.task ≡ false) at is)

  -- all were looked at, and none is late
  pub timely_all : (i : ℕ) → length (groups_of model chain) ≤ i → NoneIsLate answers (take i (groups_of model chain)) → NoneIsLate answers (groups_of model chain)
  timely_all i all timely = subst (NoneIsLate answers) (take_all i (groups_of model chain) all) timely
