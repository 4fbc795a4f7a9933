-- Models in which tasks get priorities, one after the other.
use Rattle.std.proofs.Common.{◌≡◌, ◌≢◌, ℕ, ◌+◌, ◌<◌, ◌≤◌, Bool, true, false, ◌||◌, List, [], ◌∷◌, ◌++◌, length, map, get_or, set, take, refl, sym, ap, ◌∙◌}
use Rattle.std.specs.Prelude.{◌==◌}
use Rattle.std.specs.List.{list_any}
use Rattle.std.proofs.lemmas.Bool.{eqb-false}
use Rattle.std.proofs.lemmas.List.{length-set, length-map, get_or-map, get_or-set_other, map-set, take_more, take_all}
use Rattle.cl_model.specs.{declared.{changes.TaskPriority.TaskPriority, model.SystemModel.SystemModel, task.TaskDef.TaskDef}, ByNumber.{no_task, task_at}, Changes.{with_priority, with_priorities}, Named.stimulus_names, NamedAlike.{named_task, AreNamedAlike}}
use Rattle.cl_edit.specs.Inner.Paces.{priorities_of}
use Rattle.cl_edit.proofs.TaskSetters.{map_set_same}

-- nothing but the tasks is changed
pub only_tasks : (model : SystemModel) (priorities : List TaskPriority) → with_priorities model priorities ≡ record model { tasks = (with_priorities model priorities).tasks }
only_tasks model [] = refl
only_tasks model (it ∷ priorities) = only_tasks (with_priority model it.task it.priority) priorities

-- and nothing of a task but its priority
pub unranked_same : {Y : Type 0} (f : TaskDef → Y) → ((t : TaskDef) (p : ℕ) → f (record t { priority = p }) ≡ f t) → (model : SystemModel) (priorities : List TaskPriority)
    → map f (with_priorities model priorities).tasks ≡ map f model.tasks
unranked_same f same model [] = refl
unranked_same f same model (it ∷ priorities) =
    unranked_same f same (with_priority model it.task it.priority) priorities
    ∙ map_set_same f model.tasks it.task (record (task_at model it.task) { priority = it.priority }) no_task (same (task_at model it.task) it.priority)

pub ranked_long : (model : SystemModel) (priorities : List TaskPriority) → length (with_priorities model priorities).tasks ≡ length model.tasks
ranked_long model [] = refl
ranked_long model (it ∷ priorities) =
    ranked_long (with_priority model it.task it.priority) priorities ∙ length-set model.tasks it.task (record (task_at model it.task) { priority = it.priority })

pub priorities_alike : (model : SystemModel) (priorities : List TaskPriority) → AreNamedAlike model (with_priorities model priorities)
priorities_alike model priorities =
    let same = only_tasks model priorities in
    record {
      cores = ap (λ (m : SystemModel). m.cores) same;
      stimuli = ap stimulus_names same;
      labels = ap (λ (m : SystemModel). m.labels) same;
      tasks = unranked_same named_task (λ t p. refl) model priorities;
      chains = ap (λ (m : SystemModel). m.chains) same;
      requirements = ap (λ (m : SystemModel). m.requirements) same;
    }

neither : (a b : Bool) → (a || b) ≡ false → (a ≡ false) × (b ≡ false)
neither false b h = (refl, h)
neither true b h = absurd cc

-- a task that gets no priority stays
pub unset_stays : (model : SystemModel) (priorities : List TaskPriority) (k : ℕ) → list_any (λ (it : TaskPriority). it.task == k) priorities ≡ false → task_at (with_priorities model priorities) k ≡ task_at model k
unset_stays model [] k none = refl
unset_stays model (it ∷ priorities) k none =
    let parts = neither (it.task == k) (list_any (λ (other : TaskPriority). other.task == k) priorities) none in
    let apart : it.task ≢ k = eqb-false it.task k parts.0 in
    unset_stays (with_priority model it.task it.priority) priorities k parts.1
    ∙ get_or-set_other model.tasks it.task k (record (task_at model it.task) { priority = it.priority }) no_task (λ e. apart (sym e))

-- the priority of a task, from those of all
pub priority_at : (model : SystemModel) (k : ℕ) → k < length model.tasks → get_or (priorities_of model) k 0 ≡ (task_at model k).priority
priority_at model k lt = get_or-map (λ (t : TaskDef). t.priority) model.tasks k no_task 0 lt

-- ---- the priorities of all tasks, after those of a list so far

ranks_append : (model : SystemModel) (some others : List TaskPriority) → with_priorities model (some ++ others) ≡ with_priorities (with_priorities model some) others
ranks_append model [] others = refl
ranks_append model (it ∷ some) others = ranks_append (with_priority model it.task it.priority) some others

-- there is one of each task
pub ranks_count : (model : SystemModel) (priorities : List TaskPriority) (ranks : List ℕ) → ranks ≡ priorities_of (with_priorities model priorities) → length ranks ≡ length model.tasks
ranks_count model priorities ranks is =
    ap length is ∙ length-map (with_priorities model priorities).tasks (λ (t : TaskDef). t.priority) ∙ ranked_long model priorities

module _ (model : SystemModel) (priorities : List TaskPriority) (n : ℕ) where
  abbrev so_far : SystemModel
  so_far = with_priorities model (take n priorities)

  pub ranks_long : length (priorities_of so_far) ≡ length model.tasks
  ranks_long = ranks_count model (take n priorities) (priorities_of so_far) refl

  -- the next one is set
  pub ranks_more : (d : TaskPriority) → n < length priorities
      → set (priorities_of so_far) (get_or priorities n d).task (get_or priorities n d).priority ≡ priorities_of (with_priorities model (take (n + 1) priorities))
  ranks_more d lt =
      let it = get_or priorities n d in
      sym (ap (λ l. priorities_of (with_priorities model l)) (take_more priorities n d lt)
      ∙ ap priorities_of (ranks_append model (take n priorities) (it ∷ []))
      ∙ map-set (λ (t : TaskDef). t.priority) so_far.tasks it.task (record (task_at so_far it.task) { priority = it.priority }))

  -- all are set
  pub ranks_all : length priorities ≤ n → priorities_of so_far ≡ priorities_of (with_priorities model priorities)
  ranks_all end = ap (λ l. priorities_of (with_priorities model l)) (take_all n priorities end)
