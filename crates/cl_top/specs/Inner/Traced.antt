-- What the simulation of a drawn table comes to.
use Rattle.std.specs.Prelude.{◌≡◌}
use Rattle.cl_model.specs.declared.model.SystemModel.{SystemModel}
use Rattle.cl_runs.specs.{declared.job.JobTable.JobTable, Run.Run, SystemOf.system_of, Legal.IsLegal}
use Rattle.cl_engine.specs.declared.outcome.Outcome.{Outcome}
use Rattle.cl_top.specs.Commands.Simulate.{traced}

-- the trace of the legal run of a table
pub record IsTraceOfTable (model : SystemModel) (table : JobTable) (found : Outcome) : Type 0 where
  pub run : Run
  pub of_table : run.table ≡ table
  pub legal : IsLegal (system_of model) run
  pub printed : found ≡ traced model run
