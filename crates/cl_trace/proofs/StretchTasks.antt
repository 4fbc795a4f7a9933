-- The stretches of a run in form are of tasks of its model.
use Rattle.std.proofs.Common.{◌≡◌, ℕ, suc, ◌-◌, ◌<◌, Option, Some, None, List, [], ◌∷◌, ◌++◌, length, replicate, sym, ◌∙◌, subst, arith}
use Rattle.std.specs.List.{All}
use Rattle.std.proofs.lemmas.List.Elements.{All-nil, All-cons, All-head, All-drop}
use Rattle.std.proofs.lemmas.List.{length-replicate, drop_at, get_or_default}
use Rattle.std.proofs.Math.ListN.{length-map}
use Rattle.cl_model.specs.declared.model.SystemModel.{SystemModel}
use Rattle.cl_runs.specs.{Run.{Run, core_entries, entry_at, IsInForm, IsEntryOf}, SystemOf.{system_of, timing_of}}
use Rattle.cl_run_data.specs.{declared.stretches.Stretch.Stretch, Stretches.{entries_from, AreLongest, AreStretchesOf}}
use Rattle.cl_run_data.proofs.StretchFacts.{head_of, tail_of}
use Rattle.cl_trace.specs.Inner.TaskStretches.{IsTaskOrNone, IsOfTask}

-- what holds of all entries holds of the stretches
pub of_stretches : (P : Option ℕ → Type 0) (stretches : List Stretch) (from : ℕ) → AreLongest from stretches
    → All P (entries_from from stretches) → All (λ (s : Stretch). P s.who) stretches
of_stretches P [] from longest all = All-nil (λ (s : Stretch). P s.who)
of_stretches P (s ∷ ss) from longest all =
    All-cons (λ (s : Stretch). P s.who) s ss here
    (of_stretches P ss s.end (tail_of from s ss longest) rest)
  where
    some : from < s.end
    some = head_of from s ss longest

    size : s.end - from ≡ suc (s.end - suc from)
    size = omega (arith, some)

    here : P s.who
    here = All-head P s.who (replicate (s.end - suc from) s.who ++ entries_from s.end ss)
        (subst (λ n. All P (replicate n s.who ++ entries_from s.end ss)) size all)

    rest : All P (entries_from s.end ss)
    rest = subst (All P) (drop_at (replicate (s.end - from) s.who) (entries_from s.end ss) (s.end - from) (length-replicate (s.end - from) s.who))
        (All-drop P (s.end - from) (entries_from from (s ∷ ss)) all)

pub cores_are : (model : SystemModel) (run : Run) → IsInForm (system_of model) run → length run.entries ≡ length model.cores
unfolding system_of
cores_are model run form = form.cores

pub tasks_are : (model : SystemModel) (run : Run) → IsInForm (system_of model) run → length run.table.jobs ≡ length model.tasks
unfolding system_of
tasks_are model run form = form.tasks ∙ length-map model.tasks (timing_of model)

pub cores_of : (model : SystemModel) (core : ℕ) → core < length model.cores → core < (system_of model).cores
unfolding system_of
cores_of model core within = within

pub core_within : (model : SystemModel) (run : Run) (core : ℕ) → IsInForm (system_of model) run → core < length model.cores → core < length run.entries
core_within model run core form within = rw (cores_are model run form) within

pub task_within : (model : SystemModel) (run : Run) (task : ℕ) → IsInForm (system_of model) run → task < length model.tasks → task < length run.table.jobs
task_within model run task form within = rw (tasks_are model run form) within

task_of_entry : (model : SystemModel) (core : ℕ) (who : Option ℕ) → IsEntryOf (system_of model) core who → IsTaskOrNone model who
unfolding system_of
task_of_entry model core None is = tt
task_of_entry model core (Some task) is = rw (sym (length-map model.tasks (timing_of model))) is.0

pub stretches_of_tasks : (model : SystemModel) (run : Run) (core : ℕ) (stretches : List Stretch) → IsInForm (system_of model) run → core < length model.cores
    → AreStretchesOf (core_entries run core) stretches → All (IsOfTask model) stretches
stretches_of_tasks model run core stretches form within are =
    of_stretches (IsTaskOrNone model) stretches 0 are.longest (subst (All (IsTaskOrNone model)) (sym are.entries_are) entries)
  where
    is_core : core < (system_of model).cores
    is_core = cores_of model core within

    entries : All (IsTaskOrNone model) (core_entries run core)
    entries tick d lt = subst (IsTaskOrNone model) (get_or_default (core_entries run core) tick None d lt)
        (task_of_entry model core (entry_at run core tick) (form.entries core tick is_core (rw (sym (form.ticks core is_core)) lt)))
