-- The text of why a task is answered, or a chain or a requirement bounded, as the decisions on a model say.
use Rattle.std.specs.Prelude.{◌≡◌, ℕ, List, ◌++◌, Option, IfSome, codes, decimal}
use Rattle.cl_text.specs.Line.{line}
use Rattle.cl_model.specs.{declared.{chain.RequirementKind.RequirementKind, model.SystemModel.SystemModel}, Kinds.requirement_word, ByNumber.{chain_at, requirement_at}, Groups.groups_at}
use Rattle.cl_runs.specs.{SystemOf.system_of, Requirements.{required_chain, HasLength}}
use Rattle.cl_resp.specs.declared.worst.WorstWindow.{WorstWindow}
use Rattle.cl_bound.specs.Answers.{answer_at}
use Rattle.cl_phase.specs.{declared.whole.WholeWalk.WholeWalk, Whole.IsWholeWalkOf}
use Rattle.cl_analyse.specs.{declared.findings.ChainAnswer.{ChainAnswer, TheVariants.{Bounds, Late}}, Verdicts.{limited_bound, verdict_at}}
use Rattle.cl_tight.specs.{TightTimings.tight_timing, TightFindings.{tight_chain_answer_of, tight_findings_of}}
use Rattle.cl_near.specs.Plans.{IsWindowOfRun}
use Rattle.cl_report.specs.Report.{chain_line}
use Rattle.cl_verify.specs.{declared.decision.{TaskDecision.TaskDecision, Decision.Decision}, Decisions.{IsDecisionOnTask, IsDecisionOn}, VerifyText.{seen_words, task_decision_line, decision_line}}
use Rattle.cl_why.specs.{Shares.window_lines, Hops.why_group_lines, Walks.why_walk_lines}

-- a text goes on with lines of which this holds
pub record Appends (each : List ℕ → Type 0) (old new : List ℕ) : Type 0 where
  pub lines : List ℕ
  pub holds : each lines
  pub joined : new ≡ old ++ lines

unfoldable pub title : List ℕ
title = line (codes "chainlat why 1")

-- ---- tasks

-- what is decided of a task, and its worst window
pub record IsReasonOfTask (model : SystemModel) (task : ℕ) (text : List ℕ) : Type 0 where
  pub decision : TaskDecision
  pub decided : IsDecisionOnTask model task (answer_at (tight_findings_of model).tasks task) decision
  pub window : WorstWindow
  pub is_worst : IsWindowOfRun (system_of model) task window
  pub printed : text ≡ task_decision_line model decision task ++ window_lines model task window

-- ---- chains

-- the line of a bound of a chain, with the length that a run shows
unfoldable pub bound_line : SystemModel → (chain : ℕ) → RequirementKind → (bound : ℕ) → (seen : Option ℕ) → List ℕ
bound_line model chain kind bound seen =
    line (codes "chain " ++ (chain_at model chain).name ++ codes " " ++ requirement_word kind ++ codes " " ++ decimal bound ++ seen_words seen)

-- what a run shows of a bound of a chain, which some legal run does, and a walk that lasts as long as the bound
pub record IsReasonOfBound (model : SystemModel) (chain : ℕ) (kind : RequirementKind) (bound : ℕ) (text : List ℕ) : Type 0 where
  pub seen : Option ℕ
  pub occurs : IfSome seen (HasLength model chain kind)
  pub walk : WholeWalk
  pub is_walk : IsWholeWalkOf (system_of model) (tight_timing (system_of model)) (groups_at model chain) kind bound walk
  pub printed : text ≡ bound_line model chain kind bound seen ++ why_group_lines model chain walk ++ why_walk_lines model chain walk kind

-- by the answer for a chain: its bound of a kind or, where a task of it is late, the first such
abbrev pub IsReasonBy : SystemModel → (chain : ℕ) → RequirementKind → ChainAnswer → (text : List ℕ) → Type 0
IsReasonBy model chain kind (Bounds bounds) text = IsReasonOfBound model chain kind (limited_bound kind bounds) text
IsReasonBy model chain kind (Late task) text = Appends (IsReasonOfTask model task) (chain_line model (Late task) chain) text

abbrev pub IsReasonOfChain : SystemModel → (chain : ℕ) → RequirementKind → (text : List ℕ) → Type 0
IsReasonOfChain model chain kind text = IsReasonBy model chain kind (tight_chain_answer_of model (chain_at model chain)) text

-- ---- whole texts

abbrev pub IsWhyOfTask : SystemModel → (task : ℕ) → (text : List ℕ) → Type 0
IsWhyOfTask model task text = Appends (IsReasonOfTask model task) title text

abbrev pub IsWhyOfChain : SystemModel → (chain : ℕ) → RequirementKind → (text : List ℕ) → Type 0
IsWhyOfChain model chain kind text = Appends (IsReasonOfChain model chain kind) title text

-- what is decided of a requirement, and why of its chain and kind
pub record IsWhyOfRequirement (model : SystemModel) (i : ℕ) (text : List ℕ) : Type 0 where
  pub decision : Decision
  pub decided : IsDecisionOn model (requirement_at model i) (verdict_at (tight_findings_of model).verdicts i) decision
  pub printed : Appends (IsReasonOfChain model (required_chain model (requirement_at model i)) (requirement_at model i).kind)
      (title ++ decision_line model (requirement_at model i) decision) text
