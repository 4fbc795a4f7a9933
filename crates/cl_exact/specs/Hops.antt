-- Where a job has no writer.
use Rattle.std.specs.Prelude.{ℕ, ◌≤◌}
use Rattle.cl_model.specs.declared.group.Group.{Group}
use Rattle.cl_runs.specs.Chains.{Moments}

-- a job of the reader's group reads, and no job of the writer's group writes at or before that
pub record HasNoWriter (moments : Moments) (writer reader : Group) (reading : ℕ) : Type 0 where
  pub read : ℕ
  pub reads : moments.reads reader reading read
  pub none : (other write : ℕ) → moments.writes writer other write → write ≤ read → ⊥
