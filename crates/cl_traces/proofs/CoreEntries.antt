-- The entries of a run in form: each core of the model has one for each tick, and it is a task of the model or none.
use Rattle.std.proofs.Common.{◌≡◌, ℕ, ◌<◌, Option, Some, None, length, arith}
use Rattle.std.specs.Prelude.{IfSome}
use Rattle.cl_model.specs.declared.model.SystemModel.{SystemModel}
use Rattle.cl_runs.specs.{Run.{Run, core_entries, entry_at, IsEntryOf, IsInForm}, SystemOf.system_of, TaskTiming.System}
use Rattle.cl_runs.proofs.ModelSystem.{count_is, cores_are}

task_within : (system : System) (core n : ℕ) → length system.tasks ≡ n → (entry : Option ℕ) → IsEntryOf system core entry
    → IfSome entry (λ task. task < n)
task_within system core n count None is = tt
task_within system core n count (Some task) is = omega (arith, is.0, count)

module _ (model : SystemModel) (run : Run) (in_form : IsInForm (system_of model) run) (core tick : ℕ) (on : core < length model.cores)
    (below : tick < run.table.ticks) where
  is_core : core < (system_of model).cores
  is_core = omega (arith, on, cores_are model)

  pub has_entries : core < length run.entries
  has_entries = omega (arith, is_core, in_form.cores)

  pub has_entry : tick < length (core_entries run core)
  has_entry = omega (arith, below, in_form.ticks core is_core)

  pub entry_within : IfSome (entry_at run core tick) (λ task. task < length model.tasks)
  entry_within = task_within (system_of model) core (length model.tasks) (count_is model) (entry_at run core tick)
      (in_form.entries core tick is_core below)
