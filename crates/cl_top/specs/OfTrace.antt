-- Commands on a model and a trace: the first bad line of the trace, or the first rule that its run breaks, or what comes
-- of a legal run, which each command says.
use Rattle.std.specs.Prelude.{◌≡◌, ◌⊎◌, ℕ, List, ◌++◌, codes, decimal}
use Rattle.cl_text.specs.Line.{line}
use Rattle.cl_model.specs.declared.model.SystemModel.{SystemModel}
use Rattle.cl_runs.specs.{Run.Run, SystemOf.system_of, Legal.IsLegal}
use Rattle.cl_check.specs.{declared.run_fault.{Rule.Rule, RunFault.TheVariants.Illegal}, Legality.IsFirstBroken}
use Rattle.cl_observe.specs.Rules.{rule_words, breaker}
use Rattle.cl_trace.specs.Rules.{IsTraceOf, IsBadTraceLine}
use Rattle.cl_engine.specs.declared.{outcome.Outcome.Outcome, status.TheConstants.TRACE_REFUSED}

-- ---- a trace without a run

-- the text is no trace: this is its first bad line, counted from 1
abbrev pub trace_refused : (number : ℕ) → Outcome
trace_refused number = record { status = TRACE_REFUSED; text = line (codes "trace refused line " ++ decimal number) }

-- ---- a run that isn't legal

-- this rule is the first that the run breaks
abbrev pub trace_illegal : SystemModel → Rule → (place tick : ℕ) → Outcome
trace_illegal model rule place tick = record {
  status = TRACE_REFUSED;
  text = line (codes "trace illegal " ++ rule_words rule ++ breaker model rule place ++ codes " tick " ++ decimal tick);
}

pub record IsIllegal (model : SystemModel) (run : Run) (found : Outcome) : Type 0 where
  pub rule : Rule
  pub place : ℕ
  pub tick : ℕ
  pub broken : IsFirstBroken (system_of model) run (Illegal rule place tick)
  pub printed : found ≡ trace_illegal model rule place tick

-- ---- the outcome

-- the run is legal, and the outcome is what comes of it
pub record IsOfLegal (model : SystemModel) (next : Run → Outcome → Type 0) (run : Run) (found : Outcome) : Type 0 where
  pub legal : IsLegal (system_of model) run
  pub outcome : next run found

-- the outcome of a run: what comes of it where it is legal, else the first rule that it breaks
abbrev pub IsOfRun : SystemModel → (next : Run → Outcome → Type 0) → Run → Outcome → Type 0
IsOfRun model next run found = IsOfLegal model next run found ⊎ IsIllegal model run found

-- the text is the trace of a run, of which the outcome is
pub record HasRun (model : SystemModel) (next : Run → Outcome → Type 0) (text : List ℕ) (found : Outcome) : Type 0 where
  pub run : Run
  pub trace : IsTraceOf model text run
  pub of_run : IsOfRun model next run found

-- the text is no trace
pub record HasBadTraceLine (model : SystemModel) (text : List ℕ) (found : Outcome) : Type 0 where
  pub number : ℕ
  pub bad : IsBadTraceLine model text number
  pub printed : found ≡ trace_refused number

-- the outcome of a text, for a valid model
abbrev pub IsOfTrace : SystemModel → (next : Run → Outcome → Type 0) → (text : List ℕ) → Outcome → Type 0
IsOfTrace model next text found = HasRun model next text found ⊎ HasBadTraceLine model text found
