-- A model each task of which is timely meets its deadlines.
use Rattle.std.proofs.Common.{ℕ, ◌<◌, length, arith}
use Rattle.cl_model.specs.declared.model.SystemModel.{SystemModel}
use Rattle.cl_runs.specs.{SystemOf.system_of, Responses.IsTimely, Requirements.MeetsDeadlines}

module _ (model : SystemModel) (response : ℕ → ℕ) (timely : (task : ℕ) → task < length model.tasks → IsTimely (system_of model) task (response task)) where
  pub meets_deadlines : MeetsDeadlines model
  meets_deadlines run legal task job within known lasts =
      let is = timely task within in
      let early = is.by_deadline in
      let (finish, finishes, soon) = (is.always run legal).each job known (omega (arith, early, lasts)) in
      (finish, finishes, omega (arith, early, soon))
