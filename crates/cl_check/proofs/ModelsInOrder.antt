-- The tasks of a valid model and of the groups of its chains are in order, in a run that is in order, is legal or shows them.
use Rattle.std.proofs.Common.{ℕ, ◌<◌, length, arith}
use Rattle.std.proofs.lemmas.List.Elements.{All-weaker}
use Rattle.cl_model.specs.{declared.{model.SystemModel.SystemModel, group.Group.Group}, Groups.{IsGroupOf, groups_at}, Validity.IsValid}
use Rattle.cl_model.proofs.GroupFacts.{groups_at_are}
use Rattle.cl_runs.specs.{SystemOf.system_of, Run.{Run, jobs_of}, Legal.IsLegal, MomentOrder.AreGroupsOf}
use Rattle.cl_runs.proofs.ModelSystem.{count_is, system_sound}
use Rattle.cl_run_data.specs.Parts.{ShowsTask, ShowsGroups}
use Rattle.cl_check.specs.InOrder.{AreJobsInOrder, IsRunInOrder, AreGroupsInOrder}
use Rattle.cl_check.proofs.JobsInOrder.{legal_in_order, shown_in_order, shown_groups_in_order, groups_in_order}

module _ (model : SystemModel) (valid : IsValid model) where
  -- ---- tasks

  known : (task : ℕ) → task < length model.tasks → task < length (system_of model).tasks
  known task is = omega (arith, is, count_is model)

  pub legal_task_in_order : (run : Run) → IsLegal (system_of model) run → (task : ℕ) → task < length model.tasks → AreJobsInOrder (jobs_of run task)
  legal_task_in_order run legal task is = legal_in_order (system_of model) (system_sound model valid) run legal task (known task is)

  pub shown_task_in_order : (run : Run) (task : ℕ) → ShowsTask (system_of model) task run → task < length model.tasks → AreJobsInOrder (jobs_of run task)
  shown_task_in_order run task shows is = shown_in_order (system_of model) (system_sound model valid) task run shows (known task is)

  -- ---- chains

  group_known : (group : Group) → IsGroupOf model group → group.task < length (system_of model).tasks
  group_known group is = known group.task is.known

  groups_known : (chain : ℕ) → AreGroupsOf (system_of model) (groups_at model chain)
  groups_known chain = All-weaker (IsGroupOf model) (λ (group : Group). group.task < length (system_of model).tasks) group_known (groups_at model chain)
      (groups_at_are model valid chain)

  pub chain_in_order : (run : Run) → IsRunInOrder (system_of model) run → (chain : ℕ) → AreGroupsInOrder (groups_at model chain) run
  chain_in_order run ordered chain = groups_in_order (system_of model) (groups_at model chain) (groups_known chain) run ordered

  pub legal_chain_in_order : (run : Run) → IsLegal (system_of model) run → (chain : ℕ) → AreGroupsInOrder (groups_at model chain) run
  legal_chain_in_order run legal chain = chain_in_order run (legal_in_order (system_of model) (system_sound model valid) run legal) chain

  pub shown_chain_in_order : (run : Run) (chain : ℕ) → ShowsGroups (system_of model) (groups_at model chain) run → AreGroupsInOrder (groups_at model chain) run
  shown_chain_in_order run chain shows =
      shown_groups_in_order (system_of model) (system_sound model valid) (groups_at model chain) (groups_known chain) run shows
