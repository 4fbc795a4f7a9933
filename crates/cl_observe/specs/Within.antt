-- What a legal run shows lies within what is found of its model. Times are in ticks.
use Rattle.std.specs.Prelude.{◌≡◌, ℕ, ℤ, pos, ◌≤ℤ◌, ◌<◌, length, Option, Some}
use Rattle.cl_model.specs.{declared.{model.SystemModel.SystemModel, chain.{LengthKind.TheVariants.{Reaction, Age, Reduced}, RequirementKind.{RequirementKind, TheVariants.{Length, Delay}}}}, ByNumber.{task_at, runnable_at, jitter_of}, Groups.groups_at}
use Rattle.cl_runs.specs.{Run.Run, SystemOf.system_of, Chains.JobChain, RunChains.run_moments, Delays.IsDelayChain, Measured.{Measured, IsMeasured}}
use Rattle.cl_bound.specs.{declared.answer.TaskAnswer.TaskAnswer, Answers.answer_at}
use Rattle.cl_analyse.specs.{declared.findings.ChainAnswer.ChainAnswer, ChainAnswers.chain_answer_at, Verdicts.required_bound}
use Rattle.cl_chain.specs.GreatestDelays.{IsGreatestDelayBy}
use Rattle.cl_tight.specs.TightFindings.{tight_findings_of}
use Rattle.cl_observe.specs.{declared.{values.Spread.Spread, task_shown.ShownTask.ShownTask}, Shown.{IsShownTask, IsShownTime}, Observed.{response_number, response_bound, length_of}}

-- a number that is shown isn't above its bound, where it has one
abbrev pub IsNotAbove : Option ℤ → (bound : Option ℕ) → Type 0
IsNotAbove shown bound = (number : ℤ) (most : ℕ) → shown ≡ Some number → bound ≡ Some most → number ≤ℤ pos most

-- the numbers that are shown are in a range
abbrev pub AreInside : Option Spread → (least greatest : ℕ) → Type 0
AreInside shown least greatest = (spread : Spread) → shown ≡ Some spread → (pos least ≤ℤ spread.least) × (spread.greatest ≤ℤ pos greatest)

-- what is shown of a task that has this answer: its responses, its jitters, and the times of its runnables
pub record IsTaskWithin (model : SystemModel) (run : Run) (answer : TaskAnswer) (task : ℕ) : Type 0 where
  pub response : (shown : ShownTask) → IsShownTask (system_of model) run task shown
      → IsNotAbove (response_number shown.response) (response_bound answer)
  pub jitter : (shown : ShownTask) → IsShownTask (system_of model) run task shown → AreInside shown.jitter 0 (jitter_of model task)
  pub times : (place : ℕ) → place < length (task_at model task).runnables → (time : Option Spread)
      → IsShownTime (system_of model) run task place time
      → AreInside time (runnable_at model (record { task = task; place = place })).least (runnable_at model (record { task = task; place = place })).greatest

-- the longest chain of a kind, of a chain that has this answer
abbrev pub IsLengthWithin : ChainAnswer → RequirementKind → Option JobChain → Type 0
IsLengthWithin answer kind longest = IsNotAbove (length_of longest) (required_bound kind answer)

-- what is shown of a chain that has this answer: its length of each kind
pub record IsChainWithin (model : SystemModel) (run : Run) (answer : ChainAnswer) (chain : ℕ) : Type 0 where
  pub reaction : (measured : Measured) → IsMeasured (run_moments (system_of model) run) (groups_at model chain) measured
      → IsLengthWithin answer (Length Reaction) measured.reaction
  pub age : (measured : Measured) → IsMeasured (run_moments (system_of model) run) (groups_at model chain) measured
      → IsLengthWithin answer (Length Age) measured.age
  pub reduced : (measured : Measured) → IsMeasured (run_moments (system_of model) run) (groups_at model chain) measured
      → IsLengthWithin answer (Length Reduced) measured.reduced
  pub delay : (delay : Option JobChain) → IsGreatestDelayBy (IsDelayChain (system_of model) run (groups_at model chain)) delay
      → IsLengthWithin answer Delay delay

-- what a run shows of each task and each chain
pub record IsWithinFindings (model : SystemModel) (run : Run) : Type 0 where
  pub tasks : (task : ℕ) → task < length model.tasks → IsTaskWithin model run (answer_at (tight_findings_of model).tasks task) task
  pub chains : (chain : ℕ) → chain < length model.chains → IsChainWithin model run (chain_answer_at (tight_findings_of model).chains chain) chain
