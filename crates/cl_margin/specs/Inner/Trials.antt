-- A model whose times have grown, and what has been found of it.
use Rattle.std.specs.Prelude.{◌≡◌, ℕ, ◌==◌, ◌&&◌, Bool, true, false, nat_lt, if◌then◌else◌, List, length, IsPermutation, slice_get, slice_index_or, slice_set, Option, Some, None}
use Rattle.std.specs.List.{range_with_len}
use Rattle.cl_model.specs.{declared.{group.Group.Group, model.SystemModel.SystemModel}, Validity.IsValid}
use Rattle.cl_runs.specs.{SystemOf.system_of, TaskTiming.System}
use Rattle.cl_cycle.specs.{declared.cycle.Cycle.Cycle, Promises.IsCycleOf}
use Rattle.cl_hop.specs.{declared.group_timing.GroupTiming.GroupTiming, Hops.IsNear}
use Rattle.cl_bound.specs.{declared.answer.TaskAnswer.TaskAnswer, Answers.{answer_at, is_late}}
use Rattle.cl_tight.specs.{declared.findings.TightFindings.TightFindings, Found.{number_found, AreWindowsOf}, TightAnswers.tight_answers_of, TightFindings.tight_findings_of, TightTimings.tight_timing}
use Rattle.cl_margin.specs.{declared.{allowed.Allowed.Allowed, trial.Trial.Trial, whose.Whose.Whose}, Grown.grown, Inner.{Allowing.AreAllowed, Touched.touches}}

-- each answer that has been found of a task is the one by phases
abbrev pub AreFoundAnswers : System → List (Option TaskAnswer) → Type 0
AreFoundAnswers system answers = (task : ℕ) (answer : TaskAnswer)
    → slice_index_or answers task None ≡ Some answer → answer ≡ answer_at (tight_answers_of system) task

-- there is a cycle for each task, and each is that of its task
pub record AreCyclesOf (system : System) (cycles : List Cycle) : Type 0 where
  pub one_a_task : length cycles ≡ length system.tasks
  pub each : (task : ℕ) (cycle : Cycle) → slice_get cycles task ≡ Some cycle → IsCycleOf system task cycle

-- a trial has this model, and what has been found of it is so
pub record IsTrialOf (model : SystemModel) (trial : Trial) : Type 0 where
  pub is : trial.model ≡ model
  pub one_a_task : length trial.answers ≡ length model.tasks
  pub answers : AreFoundAnswers (system_of model) trial.answers
  pub windows : AreWindowsOf (system_of model) trial.windows
  pub cycles : AreCyclesOf (system_of model) trial.cycles

-- the percentages where that of one task is another
abbrev pub with_percent : (percents : ℕ → ℕ) → (one percent : ℕ) → (task : ℕ) → ℕ
with_percent percents one percent task = if task == one then percent else percents task

-- a trial that has this answer for a task
abbrev pub with_answer : Trial → (task : ℕ) → TaskAnswer → Trial
with_answer trial task answer = record trial { answers = slice_set trial.answers task (Some answer) }

-- a trial of the model with these times at a percentage
abbrev pub IsTrialAt : SystemModel → Whose → (percent : ℕ) → Trial → Type 0
IsTrialAt model whose percent trial = IsTrialOf (grown model whose percent) trial

-- what tight bounds know of a group, whose task isn't late
pub record IsTimingAt (model : SystemModel) (group : Group) (timing : GroupTiming) : Type 0 where
  pub timely : is_late (answer_at (tight_answers_of (system_of model)) group.task) ≡ false
  pub is : timing ≡ tight_timing (system_of model) group
  pub near : IsNear timing

-- how a valid model stands: what is found of it, its tasks in some order, and what is allowed of its chains
pub record IsStanding (model : SystemModel) (findings : TightFindings) (tasks : List ℕ) (most : List Allowed) : Type 0 where
  pub valid : IsValid model
  pub found : findings ≡ tight_findings_of model
  pub order : IsPermutation (range_with_len 0 (length model.tasks)) tasks
  pub allowed : AreAllowed model findings.verdicts most

-- ---- what is forgotten

-- a trial is another of which what has been found of some tasks is forgotten: all else stays
pub record Forgets (is_forgotten : ℕ → Bool) (before after : Trial) : Type 0 where
  pub model : after.model ≡ before.model
  pub as_many : length after.answers ≡ length before.answers
  pub answers : (task : ℕ) → is_forgotten task ≡ true → slice_index_or after.answers task None ≡ None
  pub other_answers : (task : ℕ) → is_forgotten task ≡ false → slice_index_or after.answers task None ≡ slice_index_or before.answers task None
  pub parts : (task place : ℕ) → is_forgotten task ≡ true → number_found after.windows.parts task place ≡ None
  pub other_parts : (task place : ℕ) → is_forgotten task ≡ false
      → number_found after.windows.parts task place ≡ number_found before.windows.parts task place
  pub leads : after.windows.leads ≡ before.windows.leads
  pub cycles : after.cycles ≡ before.cycles

-- a task of the model may be answered otherwise as these times grow
abbrev pub is_touched_task : SystemModel → Whose → (task : ℕ) → Bool
is_touched_task model whose task = nat_lt task (length model.tasks) && touches model whose task
