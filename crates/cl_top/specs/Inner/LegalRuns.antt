-- What the reading of a trace gives: a legal run, or the outcome that stands in the place of what comes of one.
use Rattle.std.specs.Prelude.{◌≡◌, ℕ, List}
use Rattle.cl_model.specs.declared.model.SystemModel.{SystemModel}
use Rattle.cl_runs.specs.{Legal.IsLegal, Run.Run, SystemOf.system_of}
use Rattle.cl_trace.specs.Rules.{IsTraceOf}
use Rattle.cl_top.specs.{declared.commands.legal_run.LegalRun.LegalRun, OfTrace.{IsOfRun, IsOfTrace}}
use Rattle.cl_top.specs.declared.commands.legal_run.LegalRun.TheVariants as legal_run
use Rattle.cl_engine.specs.declared.outcome.Outcome.{Outcome}

-- nothing comes of it
abbrev pub NothingOf : Run → Outcome → Type 0
NothingOf run found = ⊥

-- the run is legal, or stops the command with this outcome
abbrev pub IsCheckedAs : SystemModel → Run → LegalRun → Type 0
IsCheckedAs model run (legal_run.Legal legal) = (legal ≡ run) × IsLegal (system_of model) legal
IsCheckedAs model run (legal_run.Stopped found) = IsOfRun model NothingOf run found

-- the text is the trace of this legal run, or stops the command with this outcome
abbrev pub IsTracedAs : SystemModel → (text : List ℕ) → LegalRun → Type 0
IsTracedAs model text (legal_run.Legal run) = IsTraceOf model text run × IsLegal (system_of model) run
IsTracedAs model text (legal_run.Stopped found) = IsOfTrace model NothingOf text found
