-- Past the last task or core there is no name.
use Rattle.std.proofs.Common.{◌≡◌, ℕ, ◌≤◌, inl, inr, Some, None, List, [], length, get_or, sym, ap, ◌∙◌, arith}
use Rattle.std.specs.List.{slice_get}
use Rattle.std.proofs.Math.ListN.{length-map}
use Rattle.std.proofs.lemmas.List.{get_or_past}
use Rattle.std.proofs.lemmas.Option.{slice_get_cases}
use Rattle.cl_model.specs.{declared.{model.{SystemModel.SystemModel, CoreDef.CoreDef}, task.TaskDef.TaskDef}, ByNumber.{no_task, task_at}, Named.core_names}

-- nothing is found past the last one
none_at : {X : Type 0} (xs : List X) (i : ℕ) → None ≡ slice_get xs i → length xs ≤ i
none_at xs i none = elim (slice_get_cases xs i).1 [
  | inl found ↦ absurd (some_is_none found.0 (sym found.2 ∙ sym none))
  | inr past ↦ past.0
]
  where
    some_is_none : {X : Type 0} (x : X) → Some x ≡ None → ⊥
    some_is_none x is = cc

pub no_task_name : (model : SystemModel) (i : ℕ) → None ≡ slice_get model.tasks i → [] ≡ (task_at model i).name
unfolding no_task
no_task_name model i none = sym (ap (λ (task : TaskDef). task.name) (get_or_past model.tasks i no_task (none_at model.tasks i none)))

pub no_core_name : (model : SystemModel) (i : ℕ) → None ≡ slice_get model.cores i → [] ≡ get_or (core_names model) i []
no_core_name model i none =
    let past : length (core_names model) ≤ i = omega (arith, none_at model.cores i none, length-map model.cores (λ (core : CoreDef). core.name)) in
    sym (get_or_past (core_names model) i [] past)
