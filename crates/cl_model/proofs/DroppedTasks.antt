-- What stands beside a valid model without one of its tasks.
use Rattle.std.proofs.Common.{◌≡◌, ℕ, zero, suc, ◌+◌, ◌-◌, ◌<◌, ◌≤◌, Bool, true, false, cond, List, [], ◌∷◌, ◌++◌, length, get_or, take, drop, map, refl, sym, subst, ap, ◌∙◌, append_assoc, arith, nat_lt, drop-cons}
use Rattle.std.specs.Prelude.{All, filter, sum_by, ◌==◌, ◌&&◌}
use Rattle.std.specs.List.{range_with_len, remove, remove_range}
use Rattle.indexmap.proofs.SetLemmas.{map-remove}
use Rattle.std.proofs.lemmas.List.{length-map, map-append, map-id, take-map, drop-map, take-append-drop, take-append-le, take_all, length-take-le}
use Rattle.std.proofs.lemmas.List.Concat.{flat_map-append, length-flat_map}
use Rattle.std.proofs.lemmas.List.Edits.{length-remove, get_or-remove_below, get_or-remove_above}
use Rattle.std.proofs.lemmas.List.Elements.{All-nil, All-cons, All-map, filter-append}
use Rattle.std.proofs.lemmas.List.Folds.{length-flat_map-take}
use Rattle.std.proofs.lemmas.List.FromFn.{length-map-range_with_len}
use Rattle.std.proofs.lemmas.Simd.{map-map}
use Rattle.cl_model.specs.{declared.{group.{Group.Group, Step.Step}, limits.TheConstants.MOST_RUNNABLES_OF_MODEL, look_ups.LookUps.LookUps, model.SystemModel.SystemModel, task.{RunnableDef.RunnableDef, TaskDef.TaskDef}, valid_model.ValidModel.TheInside.Inside}, ByNumber.no_task}
use Rattle.cl_model.specs.{ByNumber.{no_runnable, no_chain, chain_at, task_at, runnable_at, core_number, core_of, stimulus_number, greatest_time, tasks_of_core_below, tasks_of_core}, Changes.without_task, Groups.{step_named, is_inner, group_of_step, groups_from, groups, groups_of}}
use Rattle.cl_model.specs.{Groups.{groups_at, IsStepOf}, Inner.{LookUps.{AreNamesOf, HasItsLookUps, HasRow, TaskDropped}, StepTable.{steps_in, steps_from, HasSteps}}, TaskNumbers.{number_without, step_without, group_without}, Named.{has_name, runnable_names, all_runnables}}
use Rattle.cl_model.specs.Validity.{IsValid}
use Rattle.cl_model.proofs.{AddedTasks.maps_agree_on, CoreTasks.below_known, ListFacts.maps_agree, MovedTasks.{filter_range, above, others, lists_of_others, is_listed, lists_out}, NamesKnown.steps_known, NumberFacts.{kept_number, moved_number, same_numbers}, Removals.stood_at}
use Rattle.cl_model.proofs.{StepFacts.{step_stands_in, step_has_name, length-steps_from}, StepsApart.own_step, ValidTasks.few_runnables}

-- ---- lists without a range of their items

-- what stands between two parts
taken_out : {X : Type 0} (before range behind : List X) (first last : ℕ) → first ≡ length before → last ≡ first + length range → remove_range (before ++ (range ++ behind)) first last ≡ before ++ behind
taken_out before range behind first last first_is last_is =
    let in_front : take first (before ++ (range ++ behind)) ≡ before
    = take-append-le first before (range ++ behind) (omega (arith, first_is)) ∙ take_all first before (omega (arith, first_is)) in
    let left : drop last (before ++ (range ++ behind)) ≡ behind
    = ap (λ n. drop n (before ++ (range ++ behind))) (last_is ∙ ap (λ n. n + length range) first_is) ∙ past before range behind in
    ap (λ xs. xs ++ drop last (before ++ (range ++ behind))) in_front ∙ ap (λ xs. before ++ xs) left
  where
    behind_all : {X : Type 0} (xs ys : List X) → drop (length xs) (xs ++ ys) ≡ ys
    behind_all [] ys = refl
    behind_all (x ∷ xs) ys = behind_all xs ys

    past : {X : Type 0} (before range behind : List X) → drop (length before + length range) (before ++ (range ++ behind)) ≡ behind
    past [] range behind =
        let same : 0 + length range ≡ length range = omega arith in
        ap (λ n. drop n (range ++ behind)) same ∙ behind_all range behind
    past (x ∷ before) range behind =
        let same : suc (length before) + length range ≡ suc (length before + length range) = omega arith in
        ap (λ n. drop n (x ∷ (before ++ (range ++ behind)))) same ∙ past before range behind

-- tasks around one of them
tasks_around : (tasks : List TaskDef) (t : ℕ) (d : TaskDef) → t < length tasks → take t tasks ++ (get_or tasks t d ∷ drop (suc t) tasks) ≡ tasks
tasks_around tasks t d lt = ap (λ xs. take t tasks ++ xs) (sym (drop-cons tasks t d lt)) ∙ take-append-drop t tasks

-- the runnables of the other tasks
runnables_left : (tasks : List TaskDef) (t first last : ℕ) (d : TaskDef) → t < length tasks
    → first ≡ length (all_runnables (take t tasks)) → last ≡ first + length (get_or tasks t d).runnables
    → remove_range (all_runnables tasks) first last ≡ all_runnables (remove tasks t)
runnables_left tasks t first last d lt first_is last_is =
    let f : TaskDef → List RunnableDef = λ task. task.runnables in
    let split : all_runnables tasks ≡ all_runnables (take t tasks) ++ ((get_or tasks t d).runnables ++ all_runnables (drop (suc t) tasks))
    = ap all_runnables (sym (tasks_around tasks t d lt)) ∙ flat_map-append f (take t tasks) (get_or tasks t d ∷ drop (suc t) tasks) in
    ap (λ rs. remove_range rs first last) split
    ∙ taken_out (all_runnables (take t tasks)) (get_or tasks t d).runnables (all_runnables (drop (suc t) tasks)) first last first_is last_is
    ∙ sym (flat_map-append f (take t tasks) (drop (suc t) tasks))

-- their names
names_left : (tasks : List TaskDef) (t first last : ℕ) (d : TaskDef) → t < length tasks
    → first ≡ length (all_runnables (take t tasks)) → last ≡ first + length (get_or tasks t d).runnables
    → remove_range (runnable_names (all_runnables tasks)) first last ≡ runnable_names (all_runnables (remove tasks t))
names_left tasks t first last d lt first_is last_is =
    let f : RunnableDef → List ℕ = λ runnable. runnable.name in
    let all = all_runnables tasks in
    ap (λ xs. xs ++ drop last (map f all)) (take-map f first all) ∙ ap (λ xs. map f (take first all) ++ xs) (drop-map f last all)
    ∙ sym (map-append f (take first all) (drop last all)) ∙ ap runnable_names (runnables_left tasks t first last d lt first_is last_is)

-- there are few of them
pub runnables_few : (model : SystemModel) → IsValid model → (t : ℕ) → t < length model.tasks
    → sum_by (λ (task : TaskDef). length task.runnables) (take t model.tasks) + length (task_at model t).runnables ≤ MOST_RUNNABLES_OF_MODEL
runnables_few model valid t lt =
    let f : TaskDef → List RunnableDef = λ task. task.runnables in
    omega (arith, length-flat_map f (take t model.tasks), length-flat_map-take f model.tasks t no_task lt, few_runnables model valid)

-- ---- their steps

steps_joined : (tasks others : List TaskDef) (i j : ℕ) → j ≡ i + length tasks → steps_from i (tasks ++ others) ≡ steps_from i tasks ++ steps_from j others
steps_joined [] others i j j_is =
    let same : i ≡ j = omega (arith, j_is) in
    ap (λ n. steps_from n others) same
steps_joined (task ∷ tasks) others i j j_is =
    ap (λ steps. steps_in i (length task.runnables) ++ steps) (steps_joined tasks others (i + 1) j (omega (arith, j_is)))
    ∙ sym (append_assoc (steps_in i (length task.runnables)) (steps_from (i + 1) tasks) (steps_from j others))

module _ (t : ℕ) where
  -- the steps of one task
  steps_renumbered : (i j count : ℕ) → number_without t i ≡ j → map (step_without t) (steps_in i count) ≡ steps_in j count
  steps_renumbered i j count is =
      let in_task : ℕ → ℕ → Step = λ task place. record { task = task; place = place } in
      map-map (step_without t) (in_task i) (range_with_len 0 count) ∙ maps_agree (λ place. step_without t (in_task i place)) (in_task j) (λ place. ap (λ task. in_task task place) is) (range_with_len 0 count)

  -- those in front of it
  steps_in_front : (tasks : List TaskDef) (i : ℕ) → i + length tasks ≤ t → map (step_without t) (steps_from i tasks) ≡ steps_from i tasks
  steps_in_front [] i le = refl
  steps_in_front (task ∷ tasks) i le =
      map-append (step_without t) (steps_in i (length task.runnables)) (steps_from (i + 1) tasks)
      ∙ ap (λ steps. steps ++ map (step_without t) (steps_from (i + 1) tasks)) (steps_renumbered i i (length task.runnables) (kept_number t i (omega (arith, le))))
      ∙ ap (λ steps. steps_in i (length task.runnables) ++ steps) (steps_in_front tasks (i + 1) (omega (arith, le)))

  -- those behind it
  steps_behind : (tasks : List TaskDef) (i : ℕ) → t ≤ i → map (step_without t) (steps_from (i + 1) tasks) ≡ steps_from i tasks
  steps_behind [] i le = refl
  steps_behind (task ∷ tasks) i le =
      map-append (step_without t) (steps_in (i + 1) (length task.runnables)) (steps_from ((i + 1) + 1) tasks)
      ∙ ap (λ steps. steps ++ map (step_without t) (steps_from ((i + 1) + 1) tasks)) (steps_renumbered (i + 1) i (length task.runnables) (moved_number t i le))
      ∙ ap (λ steps. steps_in i (length task.runnables) ++ steps) (steps_behind tasks (i + 1) (omega (arith, le)))

steps_left : (tasks : List TaskDef) (t first last : ℕ) (d : TaskDef) → t < length tasks
    → first ≡ length (all_runnables (take t tasks)) → last ≡ first + length (get_or tasks t d).runnables
    → map (step_without t) (remove_range (steps_from 0 tasks) first last) ≡ steps_from 0 (remove tasks t)
steps_left tasks t first last d lt first_is last_is =
    let before = take t tasks in
    let behind = drop (suc t) tasks in
    let count = length (get_or tasks t d).runnables in
    let up_to : length (take t tasks) ≡ t = length-take-le t tasks (omega (arith, lt)) in
    let at : t ≡ 0 + length (take t tasks) = omega (arith, up_to) in
    let split : steps_from 0 tasks ≡ steps_from 0 (take t tasks) ++ (steps_in t (length (get_or tasks t d).runnables) ++ steps_from (t + 1) (drop (suc t) tasks))
    = ap (steps_from 0) (sym (tasks_around tasks t d lt)) ∙ steps_joined before (get_or tasks t d ∷ behind) 0 t at in
    let long : length (steps_in t (length (get_or tasks t d).runnables)) ≡ length (get_or tasks t d).runnables = length-map-range_with_len {X = Step} (λ place. record { task = t; place = place }) 0 count in
    let left = taken_out (steps_from 0 before) (steps_in t count) (steps_from (t + 1) behind) first last (first_is ∙ sym (length-steps_from before 0)) (last_is ∙ ap (λ n. first + n) (sym long)) in
    ap (λ steps. map (step_without t) (remove_range steps first last)) split ∙ ap (map (step_without t)) left
    ∙ map-append (step_without t) (steps_from 0 before) (steps_from (t + 1) behind)
    ∙ ap (λ steps. steps ++ map (step_without t) (steps_from (t + 1) behind)) (steps_in_front t before 0 (omega (arith, up_to)))
    ∙ ap (λ steps. steps_from 0 before ++ steps) (steps_behind t behind t (omega arith)) ∙ sym (steps_joined before behind 0 t at)

-- ---- groups of steps of the other tasks

module _ (t : ℕ) where
  groups_from_renumbered : (steps : List Step) (group : Group) → (group.task ≡ t → ⊥) → All (λ (step : Step). step.task ≡ t → ⊥) steps
      → groups_from (group_without t group) (map (step_without t) steps) ≡ map (group_without t) (groups_from group steps)
  groups_from_renumbered [] group other each = refl
  groups_from_renumbered (step ∷ steps) group other each =
      let here : step.task ≡ t → ⊥ = each 0 step (omega arith) in
      let rest : All (λ (s : Step). s.task ≡ t → ⊥) steps = λ k d lt. each (suc k) d (omega (arith, lt)) in
      let longer : Group = record { task = group.task; first = group.first; last = step.place } in
      let more = map (step_without t) steps in
      ap (λ b. cond (b && nat_lt group.last step.place) (groups_from (group_without t longer) more) (group_without t group ∷ groups_from (group_without t (group_of_step step)) more))
      (same_numbers t group.task step.task other here)
      ∙ elim (is_inner group step) as (λ b.
      cond b (groups_from (group_without t longer) more) (group_without t group ∷ groups_from (group_without t (group_of_step step)) more)
      ≡ map (group_without t) (cond b (groups_from longer steps) (group ∷ groups_from (group_of_step step) steps))) [
        | true ↦ groups_from_renumbered steps longer other rest
        | false ↦ ap (λ gs. group_without t group ∷ gs) (groups_from_renumbered steps (group_of_step step) here rest)
      ]

  groups_renumbered : (steps : List Step) → All (λ (step : Step). step.task ≡ t → ⊥) steps → groups (map (step_without t) steps) ≡ map (group_without t) (groups steps)
  groups_renumbered [] each = refl
  groups_renumbered (step ∷ steps) each =
      groups_from_renumbered steps (group_of_step step) (each 0 step (omega arith)) (λ k d lt. each (suc k) d (omega (arith, lt)))

  abbrev is_of_another : Group → Type 0
  is_of_another group = group.task ≡ t → ⊥

  -- and none of them is of the task
  groups_from_others : (steps : List Step) (group : Group) → is_of_another group → All (λ (step : Step). step.task ≡ t → ⊥) steps
      → All is_of_another (groups_from group steps)
  groups_from_others [] group other each = All-cons is_of_another group [] other (All-nil is_of_another)
  groups_from_others (step ∷ steps) group other each =
      let longer : Group = record { task = group.task; first = group.first; last = step.place } in
      let rest : All (λ (step : Step). step.task ≡ t → ⊥) steps = λ k d lt. each (suc k) d (omega (arith, lt)) in
      elim (is_inner group step) as (λ b. All is_of_another (cond b (groups_from longer steps) (group ∷ groups_from (group_of_step step) steps))) [
        | true ↦ groups_from_others steps longer other rest
        | false ↦
            All-cons is_of_another group (groups_from (group_of_step step) steps) other
            (groups_from_others steps (group_of_step step) (each 0 step (omega arith)) rest)
      ]

  groups_of_others : (steps : List Step) → All (λ (step : Step). step.task ≡ t → ⊥) steps → All is_of_another (groups steps)
  groups_of_others [] each = All-nil is_of_another
  groups_of_others (step ∷ steps) each =
      groups_from_others steps (group_of_step step) (each 0 step (omega arith)) (λ k d lt. each (suc k) d (omega (arith, lt)))

-- ---- tasks of cores

-- what a test keeps of a range, one lower
shifted : (p q : ℕ → Bool) (t a n : ℕ) → t ≤ a → ((i : ℕ) → a ≤ i → i < a + n → p (i + 1) ≡ q i)
    → map (number_without t) (filter p (range_with_len (a + 1) n)) ≡ filter q (range_with_len a n)
shifted p q t a zero le same = refl
shifted p q t a (suc n) le same =
    let behind = filter p (range_with_len ((a + 1) + 1) n) in
    let rest : map (number_without t) (filter p (range_with_len ((a + 1) + 1) n)) ≡ filter q (range_with_len (a + 1) n)
    = shifted p q t (a + 1) n (omega (arith, le)) (λ i from to. same i (omega (arith, from)) (omega (arith, to))) in
    ap (λ b. map (number_without t) (cond b ((a + 1) ∷ behind) behind)) (same a (omega arith) (omega arith))
    ∙ elim (q a) as (λ b. map (number_without t) (cond b ((a + 1) ∷ behind) behind) ≡ cond b (a ∷ filter q (range_with_len (a + 1) n)) (filter q (range_with_len (a + 1) n))) [
      | true ↦ ap (λ k. k ∷ map (number_without t) behind) (moved_number t a le) ∙ ap (λ ks. a ∷ ks) rest
      | false ↦ rest
    ]

ranges_joined : (a m k n : ℕ) → n ≡ m + k → range_with_len a n ≡ range_with_len a m ++ range_with_len (a + m) k
ranges_joined a zero k n count =
    let n_is : n ≡ k = omega (arith, count) in
    let at : a ≡ a + 0 = omega arith in
    ap (range_with_len a) n_is ∙ ap (λ b. range_with_len b k) at
ranges_joined a (suc m) k n count =
    let n_is : n ≡ suc (m + k) = omega (arith, count) in
    let at : (a + 1) + m ≡ a + suc m = omega arith in
    ap (range_with_len a) n_is ∙ ap (λ numbers. a ∷ numbers) (ranges_joined (a + 1) m k (m + k) refl) ∙ ap (λ b. a ∷ (range_with_len (a + 1) m ++ range_with_len b k)) at

module _ (model : SystemModel) (t : ℕ) (lt : t < length model.tasks) where
  abbrev left : SystemModel
  left = without_task model t

  core_in_front : (i : ℕ) → i < t → core_of left i ≡ core_of model i
  core_in_front i i_lt = ap (core_number model) (get_or-remove_below model.tasks t no_task i i_lt lt)

  core_behind : (i : ℕ) → t ≤ i → core_of left i ≡ core_of model (i + 1)
  core_behind i le = ap (core_number model) (get_or-remove_above model.tasks t no_task i le lt)

  front_stays : (core : ℕ) → map (number_without t) (tasks_of_core_below model t core) ≡ tasks_of_core_below left t core
  front_stays core =
      maps_agree_on (number_without t) (λ i. i) (tasks_of_core_below model t core) (λ k d k_lt. kept_number t (get_or (tasks_of_core_below model t core) k d) (omega (arith, below_known model t core k d k_lt)))
      ∙ map-id (tasks_of_core_below model t core)
      ∙ filter_range (λ i. core_of model i == core) (λ i. core_of left i == core) 0 t (λ i from to. ap (λ c. c == core) (sym (core_in_front i (omega (arith, to)))))

  tasks_left : (core : ℕ) → map (number_without t) (others model t core) ≡ tasks_of_core left core
  tasks_left core =
      let on_core : ℕ → Bool = λ i. core_of left i == core in
      let behind = length model.tasks - (t + 1) in
      let fewer : length left.tasks ≡ t + (length model.tasks - (t + 1)) = omega (arith, length-remove model.tasks t lt, lt) in
      let from : 0 + t ≡ t = omega arith in
      map-append (number_without t) (tasks_of_core_below model t core) (above model t core)
      ∙ ap (λ tasks. tasks ++ map (number_without t) (above model t core)) (front_stays core)
      ∙ ap (λ tasks. tasks_of_core_below left t core ++ tasks)
      (shifted (λ i. core_of model i == core) on_core t t behind (omega arith) (λ i le i_lt. ap (λ c. c == core) (sym (core_behind i le))))
      ∙ sym (ap (filter on_core) (ranges_joined 0 t behind (length left.tasks) fewer) ∙ filter-append on_core (range_with_len 0 t) (range_with_len (0 + t) behind)
      ∙ ap (λ a. tasks_of_core_below left t core ++ filter on_core (range_with_len a behind)) from)

  lists_left : map (map (number_without t)) (lists_of_others model t) ≡ map (tasks_of_core left) (range_with_len 0 (length left.cores))
  lists_left =
      map-map (map (number_without t)) (others model t) (range_with_len 0 (length model.cores))
      ∙ maps_agree (λ core. map (number_without t) (others model t core)) (tasks_of_core left) tasks_left (range_with_len 0 (length model.cores))

-- ---- the runnables that are left

module _ (model : SystemModel) (t : ℕ) (lt : t < length model.tasks) where
  -- a runnable of the changed model is one of another task of the model
  pub record WasStep (name : List ℕ) : Type 0 where
    pub step : Step
    pub is : IsStepOf model step
    pub other : step.task ≡ t → ⊥
    pub moved : step_without t step ≡ step_named (without_task model t) name
    pub same : runnable_at model step ≡ runnable_at (without_task model t) (step_named (without_task model t) name)
    pub named : (runnable_at model step).name ≡ name

  pub was_step : (name : List ℕ) → has_name name (runnable_names (all_runnables (without_task model t).tasks)) ≡ true → WasStep name
  was_step name still =
      let left = without_task model t in
      let now = step_named left name in
      let is = step_stands_in left name still in
      let was = stood_at model.tasks t now.task no_task lt is.known in
      let runnable : runnable_at model (record { task = was.at; place = now.place }) ≡ runnable_at left now
      = ap (λ (task : TaskDef). get_or task.runnables now.place no_runnable) (sym was.same) in
      record {
        step = record { task = was.at; place = now.place };
        is = record { known = was.within; place = subst (λ (task : TaskDef). now.place < length task.runnables) was.same is.place };
        other = was.other;
        moved = ap (λ (i : ℕ). let step : Step = record { task = i; place = now.place } in step) was.moved;
        same = runnable;
        named = ap (λ (r : RunnableDef). r.name) runnable ∙ step_has_name left name still;
      }

module _ (model : SystemModel) (valid : IsValid model) (t : ℕ) (lt : t < length model.tasks) (still_valid : IsValid (without_task model t)) where
  -- the step of a name that is left
  own : (name : List ℕ) (was : WasStep model t lt name) → step_named model name ≡ was.step
  own name was = ap (step_named model) (sym was.named) ∙ own_step model valid was.step was.is

  steps_of_others : (names : List (List ℕ)) → All (λ name. has_name name (runnable_names (all_runnables (without_task model t).tasks)) ≡ true) names
      → All (λ (step : Step). step.task ≡ t → ⊥) (map (step_named model) names)
  steps_of_others names known =
      All-map (λ (step : Step). step.task ≡ t → ⊥) (step_named model) names
      (λ k d k_lt. let was = was_step model t lt (get_or names k d) (known k d k_lt) in subst (λ (step : Step). step.task ≡ t → ⊥) (sym (own (get_or names k d) was)) was.other)

  -- no chain has a step of the task
  chain_left : (names : List (List ℕ)) → All (λ name. has_name name (runnable_names (all_runnables (without_task model t).tasks)) ≡ true) names
      → groups (map (step_named (without_task model t)) names) ≡ map (group_without t) (groups (map (step_named model) names))
  chain_left names known =
      ap groups (maps_agree_on (step_named (without_task model t)) (λ name. step_without t (step_named model name)) names
      (λ k d k_lt. let was = was_step model t lt (get_or names k d) (known k d k_lt) in sym was.moved ∙ ap (step_without t) (sym (own (get_or names k d) was)))
      ∙ sym (map-map (step_without t) (step_named model) names))
      ∙ groups_renumbered t (map (step_named model) names) (steps_of_others names known)

  groups_left : map (map (group_without t)) (map (groups_of model) model.chains) ≡ map (groups_of (without_task model t)) model.chains
  unfolding groups_of
  groups_left =
      map-map (map (group_without t)) (groups_of model) model.chains
      ∙ sym (maps_agree_on (groups_of (without_task model t)) (λ chain. map (group_without t) (groups_of model chain)) model.chains
      (λ c d c_lt. chain_left (get_or model.chains c d).runnables (steps_known (without_task model t) still_valid c d c_lt)))

  -- the groups of one chain
  pub groups_moved : (chain : ℕ) → chain < length model.chains → groups_at (without_task model t) chain ≡ map (group_without t) (groups_at model chain)
  unfolding groups_of
  groups_moved chain within = chain_left (chain_at model chain).runnables (steps_known (without_task model t) still_valid chain no_chain within)

  pub groups_of_others_at : (chain : ℕ) → chain < length model.chains → All (is_of_another t) (groups_at model chain)
  unfolding groups_of
  groups_of_others_at chain within =
      groups_of_others t (map (step_named model) (chain_at model chain).runnables)
      (steps_of_others (chain_at model chain).runnables (steps_known (without_task model t) still_valid chain no_chain within))

-- ---- valid models

module _ (old : Inside) (has : HasItsLookUps old) (t : ℕ) (lt : t < length old.model.tasks) where
  -- what is kept of the task
  pub its_row : HasRow old.look_ups.tasks t
  its_row =
      let tasks = has.look_ups.tasks in
      record {
        core = omega (arith, lt, ap length tasks.cores, length-map old.model.tasks (core_number old.model));
        stimulus = omega (arith, lt, ap length tasks.stimuli, length-map old.model.tasks (λ (task : TaskDef). stimulus_number old.model task.stimulus));
        time = omega (arith, lt, ap length tasks.times, length-map old.model.tasks greatest_time);
        listed = is_listed old.model has.valid t lt old.look_ups.tasks has.look_ups.tasks;
      }

  module _ (first last : ℕ) (first_is : first ≡ length (all_runnables (take t old.model.tasks))) (last_is : last ≡ first + length (task_at old.model t).runnables) where
    pub its_steps : HasSteps old.look_ups.steps first last
    its_steps =
        let few = length-flat_map-take (λ (task : TaskDef). task.runnables) old.model.tasks t no_task lt in
        let steps = has.look_ups.steps in
        record {
          ordered = omega (arith, last_is);
          names = omega (arith, last_is, first_is, few, ap length steps.names, length-map (all_runnables old.model.tasks) (λ (r : RunnableDef). r.name));
          steps = omega (arith, last_is, first_is, few, ap length steps.steps, length-steps_from old.model.tasks 0);
        }

    -- the tables of the model without the task
    pub task_dropped : IsValid (without_task old.model t) → (new : LookUps) → TaskDropped t first last old.look_ups new → HasItsLookUps (record { model = without_task old.model t; look_ups = new })
    task_dropped valid new is =
        let model = old.model in
        let left = without_task model t in
        let kept = has.look_ups in
        record {
          valid = valid;
          look_ups = record {
            names = subst (AreNamesOf (without_task old.model t)) (sym is.names) (record {
              cores = kept.names.cores;
              stimuli = kept.names.stimuli;
              tasks = ap (λ names. remove names t) kept.names.tasks ∙ sym (map-remove (λ (task : TaskDef). task.name) model.tasks t);
              chains = kept.names.chains;
              requirements = kept.names.requirements;
            });
            tasks = record {
              cores = is.tasks.cores ∙ ap (λ numbers. remove numbers t) kept.tasks.cores ∙ sym (map-remove (core_number model) model.tasks t);
              stimuli =
                  is.tasks.stimuli ∙ ap (λ numbers. remove numbers t) kept.tasks.stimuli ∙ sym (map-remove (λ (task : TaskDef). stimulus_number model task.stimulus) model.tasks t);
              times = is.tasks.times ∙ ap (λ times. remove times t) kept.tasks.times ∙ sym (map-remove greatest_time model.tasks t);
              on_cores =
                  is.tasks.on_cores ∙ ap (map (map (number_without t))) (lists_out model has.valid t lt old.look_ups.tasks kept.tasks) ∙ lists_left model t lt;
            };
            steps = record {
              names = is.steps.names ∙ ap (λ names. remove_range names first last) kept.steps.names ∙ names_left model.tasks t first last no_task lt first_is last_is;
              steps =
                  is.steps.steps ∙ ap (λ steps. map (step_without t) (remove_range steps first last)) kept.steps.steps ∙ steps_left model.tasks t first last no_task lt first_is last_is;
            };
            groups = is.groups ∙ ap (map (map (group_without t))) kept.groups ∙ groups_left model has.valid t lt valid;
          };
        }
