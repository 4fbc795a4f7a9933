-- `observe MODEL TRACE`: what the run of a trace shows, legal or not.
use Rattle.std.specs.Prelude.{◌⊎◌, ℕ, ◌+◌, ◌≤◌, List}
use Rattle.cl_model.specs.declared.model.SystemModel.{SystemModel}
use Rattle.cl_runs.specs.{Legal.IsLegal, Run.Run, SystemOf.system_of}
use Rattle.cl_trace.specs.Rules.{IsTraceOf}
use Rattle.cl_observe.specs.{Observed.IsObservationOf, Within.IsWithinFindings}
use Rattle.cl_engine.specs.{declared.outcome.Outcome.Outcome, Content.of_both, Done.IsDone}
use Rattle.cl_top.specs.{OfTrace.HasBadTraceLine, Meaning.{Meaning, on_both, task_steps, promises_of_both, equal}}

-- the text is the trace of a run, of which the outcome says what it shows
pub record HasObserved (model : SystemModel) (text : List ℕ) (found : Outcome) : Type 0 where
  pub run : Run
  pub trace : IsTraceOf model text run
  pub outcome : IsDone (IsObservationOf model run) found

-- the outcome of a text, for a valid model
abbrev pub IsOfObserve : SystemModel → (text : List ℕ) → Outcome → Type 0
IsOfObserve model text found = HasObserved model text found ⊎ HasBadTraceLine model text found

-- The text says what the run of the trace shows; where the run is legal, all that it shows lies within what is found of
-- the model.
pub record IsSafeObservation (model : SystemModel) (trace text : List ℕ) : Type 0 where
  pub run : Run
  pub is_trace : IsTraceOf model trace run
  pub observed : IsObservationOf model run text
  pub within : IsLegal (system_of model) run → IsWithinFindings model run

-- what `observe` means
abbrev pub observing : Meaning
observing = record {
  comes_to = on_both IsOfObserve;
  takes = of_both (λ model trace before after. after ≤ before + task_steps model) (λ before after. ⊥);
  safe = promises_of_both IsSafeObservation;
  same = equal;
}
