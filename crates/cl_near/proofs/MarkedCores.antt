-- What is marked by a model's numbers of cores is among the cores of its runs.
use Rattle.std.proofs.Common.{◌≡◌, ℕ, ◌<◌, Bool, true, List, length, ap, ◌∙◌}
use Rattle.cl_model.specs.{declared.model.SystemModel.SystemModel, ByNumber.core_of}
use Rattle.cl_runs.specs.{SystemOf.system_of, TaskTiming.{Timing, timing_at}}
use Rattle.cl_runs.proofs.ModelSystem.{timing_is}
use Rattle.cl_run_data.specs.Parts.{is_among}

-- where the core of a task is marked, it is among those of a run
pub marked_is_among : (model : SystemModel) (cores : List Bool) (task : ℕ) → task < length model.tasks
    → is_among cores (core_of model task) ≡ true → is_among cores (timing_at (system_of model) task).core ≡ true
marked_is_among model cores task known marked =
    ap (λ (timing : Timing). is_among cores timing.core) (timing_is model task known) ∙ marked
