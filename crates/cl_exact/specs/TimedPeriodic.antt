-- Which chains have fixed moments: those whose tasks are all timed and periodic.
use Rattle.std.specs.Prelude.{ℕ, Bool, ◌&&◌, List}
use Rattle.std.specs.List.{list_all}
use Rattle.cl_model.specs.{declared.{group.Group.Group, model.SystemModel.SystemModel}, Groups.groups_at, Kinds.{is_timed, is_periodic}}
use Rattle.cl_runs.specs.{TaskTiming.{Timing, System, timing_at}, SystemOf.system_of}

-- whether a task is timed and periodic
abbrev pub is_timed_periodic_task : Timing → Bool
is_timed_periodic_task task = is_timed task.access && is_periodic task.pattern

-- whether the tasks of all groups of a chain are
unfoldable pub are_timed_periodic : System → List Group → Bool
are_timed_periodic system groups = list_all (λ (group : Group). is_timed_periodic_task (timing_at system group.task)) groups

-- whether those of the chain of a number of a model are
abbrev pub is_timed_periodic_chain : SystemModel → (chain : ℕ) → Bool
is_timed_periodic_chain model chain = are_timed_periodic (system_of model) (groups_at model chain)
