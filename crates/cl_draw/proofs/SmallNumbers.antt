-- How long names are, and how great the numbers of a picture.
use Rattle.std.proofs.Common.{ℕ, zero, suc, ◌+◌, ◌<◌, ◌≤◌, List, [], length, arith}
use Rattle.std.specs.Prelude.{slice_index_or}
use Rattle.std.proofs.lemmas.Bool.Decides.{nat_tests}
use Rattle.cl_model.specs.{declared.model.SystemModel.SystemModel, AreNamed.AreNamed, ByNumber.{no_runnable, task_at, chain_at, core_at, core_of}, Name.IsName, Validity.IsValid}
use Rattle.cl_model.proofs.NamesKnown.{core_within}
use Rattle.cl_runs.specs.{Table.job_at, TaskTiming.IsSound, Run.{Run, jobs_of}, SystemOf.system_of}
use Rattle.cl_runs.proofs.{ModelSystem.{count_is, system_sound}, RunArrivals.{arrives_below, arrivals_rise}}
use Rattle.cl_picture.proofs.TextLengths.{HasDigits, IsShortName, digits}
use Rattle.cl_draw.specs.{Places.{core_top, row_top, chain_top, bottom, end_of_chains}, Inner.TaskRuns.IsTaskRun}
use Rattle.cl_draw.proofs.{NamesOf.{of_core, of_task, of_chain, of_runnable}, PlaceFacts.{top_most, below_few}}

-- ---- names

short_name : (name : List ℕ) → IsName name → length name ≤ 64
short_name name is = grind (arith, nat_tests, is)

is_short : (name : List ℕ) → IsName name → IsShortName name
is_short name is = record { within = short_name name is }

no_name_short : IsShortName []
no_name_short = record { within = omega arith }

module _ (model : SystemModel) (named : AreNamed model) where
  pub core_short : (core : ℕ) → IsShortName (core_at model core).name
  core_short = of_core IsShortName no_name_short is_short model named

  pub task_short : (task : ℕ) → IsShortName (task_at model task).name
  task_short = of_task IsShortName no_name_short is_short model named

  pub chain_short : (chain : ℕ) → IsShortName (chain_at model chain).name
  chain_short = of_chain IsShortName no_name_short is_short model named

  pub runnable_short : (task place : ℕ) → IsShortName (slice_index_or (task_at model task).runnables place no_runnable).name
  runnable_short = of_runnable IsShortName no_name_short is_short model named

-- ---- heights

-- a height that has room for some more
pub record IsHeight (height : ℕ) : Type 0 where
  pub most : height ≤ 9000000

pub height_digits : (height more : ℕ) → IsHeight height → more ≤ 900000 → HasDigits (height + more) 7
height_digits height more is few = digits 7 (height + more) (omega arith) (omega (arith, is.most, few)) (omega (arith, is.most, few))

pub own_digits : (height : ℕ) → IsHeight height → HasDigits height 7
own_digits height is = digits 7 height (omega arith) (omega (arith, is.most)) (omega (arith, is.most))

module _ (model : SystemModel) (valid : IsValid model) where
  pub core_height_is : (core : ℕ) → core ≤ length model.cores → IsHeight (core_top model core)
  core_height_is core within = record { most = omega (arith, top_most model valid core, within, valid.in_range.counts.cores) }

  pub row_height_is : (task : ℕ) → task < length model.tasks → IsHeight (row_top model task)
  row_height_is task known = record {
    most = omega (
      arith,
      top_most model valid (core_of model task),
      core_within model valid task known,
      valid.in_range.counts.cores,
      valid.in_range.counts.tasks,
      below_few model task (core_of model task),
      known,
    );
  }

  pub chain_height_is : (chain : ℕ) → chain ≤ length model.chains → IsHeight (chain_top model chain)
  chain_height_is chain within = record {
    most = omega (arith, top_most model valid (length model.cores), valid.in_range.counts.cores, valid.in_range.counts.chains, within);
  }

  pub bottom_is : IsHeight (bottom model)
  bottom_is = of_chains (length model.chains) (omega arith)
    where
      of_chains : (chains : ℕ) → chains ≤ length model.chains → IsHeight (end_of_chains model chains)
      of_chains zero within = core_height_is (length model.cores) (omega arith)
      of_chains (suc chains) within = chain_height_is (suc chains) within

-- ---- jobs

module _ (model : SystemModel) (run : Run) (task : ℕ) (of : IsTaskRun model run task) where
  sound : IsSound (system_of model)
  sound = system_sound model of.valid

  is_task : task < length (system_of model).tasks
  is_task = omega (arith, of.is_task, count_is model)

  -- a job has no greater number than its arrival
  number_within : (job : ℕ) → job < length (jobs_of run task) → job ≤ (job_at (jobs_of run task) job).arrival
  number_within zero within = omega arith
  number_within (suc job) within = omega (
    arith,
    number_within job (omega (arith, within)),
    arrivals_rise (system_of model) sound run of.legal task is_task job (suc job) (omega arith) within,
  )

  pub job_below : (job : ℕ) → job < length (jobs_of run task) → job < run.table.ticks
  job_below job within = omega (arith, number_within job within, arrives_below (system_of model) sound run of.legal task is_task job within)
