-- What is decided of tasks and requirements: what is met holds in every legal run, and what is broken is so in some legal
-- run. Times are in ticks.
use Rattle.std.specs.Prelude.{◌≡◌, ℕ, ◌<◌, ◌≤◌, List, length, Option, Some, None, IfSome, slice_index_or}
use Rattle.cl_model.specs.{declared.{model.SystemModel.SystemModel, chain.RequirementDef.RequirementDef}, ByNumber.requirement_at}
use Rattle.cl_runs.specs.Requirements.{required_chain, HasLength, IsBrokenBy}
use Rattle.cl_bound.specs.{declared.answer.TaskAnswer.TaskAnswer, Answers.answer_at}
use Rattle.cl_bound.specs.declared.answer.TaskAnswer.TheVariants as answer
use Rattle.cl_analyse.specs.declared.findings.ChainAnswer.TheVariants as chain
use Rattle.cl_analyse.specs.{declared.findings.Verdict.Verdict, ChainAnswers.chain_answer_at, Verdicts.{required_bound, verdict_at}}
use Rattle.cl_analyse.specs.declared.findings.Verdict.TheVariants as verdict
use Rattle.cl_tight.specs.TightFindings.{tight_chain_answers_of, tight_findings_of}
use Rattle.cl_near.specs.Seen.{MissesDeadline, TakesSoLong}
use Rattle.cl_verify.specs.declared.decision.{TaskDecision.TaskDecision, Decision.Decision, Decisions.Decisions}
use Rattle.cl_verify.specs.declared.decision.TaskDecision.TheVariants as task
use Rattle.cl_verify.specs.declared.decision.Decision.TheVariants as requirement

-- ---- tasks

-- what may be decided of a late task: broken only where a job of it misses its deadline in some legal run, and else what is
-- seen is a response in some legal run
abbrev pub IsDecisionOnLate : SystemModel → (i : ℕ) → TaskDecision → Type 0
IsDecisionOnLate model i (task.Met response) = ⊥
IsDecisionOnLate model i task.Broken = MissesDeadline model i
IsDecisionOnLate model i (task.Unshown seen) = IfSome seen (TakesSoLong model i)

-- what may be decided of a task with this answer by phases: met, with its response, exactly where it isn't late
abbrev pub IsDecisionOnTask : SystemModel → (i : ℕ) → TaskAnswer → TaskDecision → Type 0
IsDecisionOnTask model i (answer.Settled settled) decision = decision ≡ task.Met settled.response
IsDecisionOnTask model i answer.Late decision = IsDecisionOnLate model i decision

-- ---- requirements

-- the tight bound on what a requirement limits, where its chain has bounds
abbrev pub tight_bound : SystemModel → RequirementDef → Option ℕ
tight_bound model required = required_bound required.kind (chain_answer_at (tight_chain_answers_of model) (required_chain model required))

-- a length that is seen of a requirement and isn't longer than it says
pub record IsSeenWithin (model : SystemModel) (required : RequirementDef) (ticks : ℕ) : Type 0 where
  pub within : ticks ≤ required.most
  pub occurs : HasLength model (required_chain model required) required.kind ticks

-- what runs may decide of a requirement with this bound, which is greater than it says: broken only by a length that is
-- longer than it says and that some legal run has, and else what is seen is a length of some legal run
abbrev pub IsDecisionByRuns : SystemModel → RequirementDef → (bound : ℕ) → Decision → Type 0
IsDecisionByRuns model required bound (requirement.Met value) = ⊥
IsDecisionByRuns model required bound (requirement.Broken value seen) = (value ≡ bound) × IsBrokenBy model required seen
IsDecisionByRuns model required bound (requirement.Unshown value seen) = (value ≡ bound) × IfSome seen (IsSeenWithin model required)
IsDecisionByRuns model required bound (requirement.Late task) = ⊥

-- a requirement without a bound: its chain is late by this task
pub record IsLateBy (model : SystemModel) (required : RequirementDef) (decision : Decision) : Type 0 where
  pub late : ℕ
  pub is_late : chain_answer_at (tight_findings_of model).chains (required_chain model required) ≡ chain.Late late
  pub decided : decision ≡ requirement.Late late

-- what may be decided of a requirement with this verdict of its bound: met exactly where that is, and broken, by the bound
-- itself, always where that is
abbrev pub IsDecisionOn : SystemModel → RequirementDef → Verdict → Decision → Type 0
IsDecisionOn model required (verdict.Met bound) decision = decision ≡ requirement.Met bound
IsDecisionOn model required (verdict.Broken bound) decision = (decision ≡ requirement.Broken bound bound) × IsBrokenBy model required bound
IsDecisionOn model required (verdict.Unshown (Some bound)) decision = IsDecisionByRuns model required bound decision
IsDecisionOn model required (verdict.Unshown None) decision = IsLateBy model required decision

-- ---- all of a model

-- the decision on the task of a number
abbrev pub task_decision_at : List TaskDecision → (i : ℕ) → TaskDecision
task_decision_at decisions i = slice_index_or decisions i task.Broken

-- the decision on the requirement of a number
abbrev pub decision_at : List Decision → (i : ℕ) → Decision
decision_at decisions i = slice_index_or decisions i (requirement.Late 0)

-- decisions on all tasks, in file order
pub record AreTaskDecisions (model : SystemModel) (decisions : List TaskDecision) : Type 0 where
  pub as_many : length decisions ≡ length model.tasks
  pub each : (i : ℕ) → i < length model.tasks
      → IsDecisionOnTask model i (answer_at (tight_findings_of model).tasks i) (task_decision_at decisions i)

-- decisions on all requirements, in file order
pub record AreRequirementDecisions (model : SystemModel) (decisions : List Decision) : Type 0 where
  pub as_many : length decisions ≡ length model.requirements
  pub each : (i : ℕ) → i < length model.requirements
      → IsDecisionOn model (requirement_at model i) (verdict_at (tight_findings_of model).verdicts i) (decision_at decisions i)

-- decisions on a model
pub record AreDecisionsOf (model : SystemModel) (decisions : Decisions) : Type 0 where
  pub tasks : AreTaskDecisions model decisions.tasks
  pub requirements : AreRequirementDecisions model decisions.requirements
