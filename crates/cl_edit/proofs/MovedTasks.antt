-- What is answered of a task that is moved, from its name and that of the core.
use Rattle.std.proofs.Common.{◌≡◌, ℕ, ◌<◌, List, [], ◌∷◌, ◌++◌, length, get_or, set, take, refl, sym, ap, ◌∙◌, subst, arith}
use Rattle.std.specs.Prelude.{Some, None, Result}
use Rattle.std.proofs.lemmas.List.{append-nil, length-set, get_or-set_same, get_or-set_other, take-set-le}
use Rattle.cl_model.specs.{declared.{model.{CoreDef.CoreDef, SystemModel.SystemModel}, model_fault.ModelFault.{ModelFault, TheVariants.Refused}, refusal.{Code.TheVariants.M29, Refusal.Refusal}, task.TaskDef.TaskDef}, Answers.{Passes, IsFaultOf}, ByNumber.{no_core, no_task, task_at}}
use Rattle.cl_model.specs.{ByNumber.core_at, Changes.with_place, Named.{index_of, core_names, tasks_on}, Refusals.{unless, in_order, first}, ValidTasks.{task_key, core_check, priority_check, room_check, deadline_checks}, Validity.{IsValid, refusals_of}}
use Rattle.cl_model.specs.declared.place.Key.TheVariants as key
use Rattle.cl_model.proofs.{NamePlaces.entry_found, Refused.first_with_more, ChecksLeft.task_passes}
use Rattle.cl_edit.specs.declared.pace.Retiming.TheVariants as change
use Rattle.cl_edit.specs.{FewChecks.place_refusals, Inner.{Paces.with_retiming, Places.place_checks}}
use Rattle.cl_edit.proofs.{FoundFacts.missing_unknown, RefusedTasks.each_first, PlaceLaws.move_needs_few}

move_left : (model : SystemModel) → IsValid model → (i : ℕ) (core : List ℕ) (priority : ℕ)
    → refusals_of (with_place model i core priority) ≡ place_checks (with_place model i core priority) ++ deadline_checks (with_place model i core priority)
move_left model valid i core priority =
    move_needs_few model valid i core priority ∙ ap (λ deadlines. place_checks (with_place model i core priority) ++ deadlines) (append-nil (deadline_checks (with_place model i core priority)))

-- where the core is there, M31, M34 and M42 are left
pub move_passes : (model : SystemModel) → IsValid model → (core : List ℕ) (i c priority : ℕ) (result : Result (Unit {0}) ModelFault) → Some c ≡ index_of core (core_names model)
    → Passes result (place_checks (with_retiming model (change.Move i c priority)) ++ deadline_checks (with_retiming model (change.Move i c priority)))
    → Passes result (refusals_of (with_place model i core priority))
move_passes model valid core i c priority result is_c passes =
    let named : (core_at model c).name ≡ core = entry_found (λ (x : CoreDef). x.name) model.cores core c no_core (sym is_c) in
    subst (λ (refusals : List Refusal). Passes result refusals)
    (sym (move_left model valid i (core_at model c).name priority) ∙ ap (λ name. refusals_of (with_place model i name priority)) named) passes

-- ---- a core that isn't there

no_refusals : (core priority room : List Refusal) → core ≡ [] → priority ≡ [] → room ≡ [] → in_order (core ∷ priority ∷ room ∷ []) ≡ []
no_refusals core priority room nc np nr = rw (nc, np, nr) refl

module _ (model : SystemModel) (valid : IsValid model) (i : ℕ) (core : List ℕ) (priority : ℕ) (known : i < length model.tasks) where
  moved : TaskDef
  moved = record (task_at model i) { core = core; priority = priority }

  -- the tasks before it stand as they did
  passes_before : (j : ℕ) → j < i → place_refusals (with_place model i core priority) j (get_or (with_place model i core priority).tasks j no_task) ≡ []
  unfolding moved
  passes_before j lt =
      let passes = task_passes model valid j (omega (arith, lt, known)) in
      let task = task_at model j in
      let checks : TaskDef → List TaskDef → List Refusal
      = λ t earlier. in_order (core_check (core_names model) j t ∷ priority_check (tasks_on t.core earlier) j t ∷ room_check (length (tasks_on t.core earlier)) j ∷ []) in
      ap (λ t. checks t (take j (set model.tasks i moved))) (get_or-set_other model.tasks i j moved no_task (λ same. omega (arith, same, lt)))
      ∙ ap (checks task) (take-set-le j model.tasks i moved (omega (arith, lt)))
      ∙ no_refusals (core_check (core_names model) j task) (priority_check (tasks_on task.core (take j model.tasks)) j task) (room_check (length (tasks_on task.core (take j model.tasks))) j)
      passes.core passes.priority passes.room

  unknown_first : index_of core (core_names model) ≡ None → first (place_checks (with_place model i core priority)) ≡ Some (record { code = M29; place = task_key i key.Core })
  unfolding moved
  unknown_first missing =
      let new = with_place model i core priority in
      let earlier = take i new.tasks in
      each_first (place_refusals new) new.tasks i no_task (record { code = M29; place = task_key i key.Core }) (omega (arith, known, length-set model.tasks i moved)) passes_before
      (ap (λ t. first (place_refusals new i t)) (get_or-set_same model.tasks i moved no_task known)
      ∙ ap (λ b. first (unless b M29 (task_key i key.Core) ++ (priority_check (tasks_on core earlier) i moved ++ (room_check (length (tasks_on core earlier)) i ++ [])))) (missing_unknown core (core_names model) missing))

-- where the core isn't there, M29 refuses
pub move_nowhere : (model : SystemModel) → IsValid model → (core : List ℕ) (i priority : ℕ) (fault : ModelFault) → i < length model.tasks → None ≡ index_of core (core_names model)
    → fault ≡ Refused (record { code = M29; place = task_key i key.Core }) → IsFaultOf (refusals_of (with_place model i core priority)) fault
move_nowhere model valid core i priority fault within missing is_fault =
    let new = with_place model i core priority in
    let refusal : Refusal = record { code = M29; place = task_key i key.Core } in
    subst (λ (f : ModelFault). IsFaultOf (refusals_of (with_place model i core priority)) f) (sym is_fault)
    (ap first (move_left model valid i core priority) ∙ first_with_more (place_checks new) (deadline_checks new) refusal (unknown_first model valid i core priority within (sym missing)))
