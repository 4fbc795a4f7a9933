-- `draw MODEL TRACE FROM TO`: the picture of the run of a trace, from one tick to another.
use Rattle.std.specs.Prelude.{◌≡◌, ◌⊎◌, ℕ, ◌<◌, ◌≤◌, List, ◌++◌, codes, decimal}
use Rattle.cl_text.specs.Line.{line}
use Rattle.cl_model.specs.declared.model.SystemModel.{SystemModel}
use Rattle.cl_runs.specs.{Run.Run, SystemOf.system_of, Legal.IsLegal}
use Rattle.cl_trace.specs.Rules.{IsTraceOf}
use Rattle.cl_draw.specs.Picture.{IsPictureOf}
use Rattle.cl_engine.specs.{declared.{outcome.Outcome.Outcome, status.TheConstants.WINDOW_REFUSED}, Done.IsDone}
use Rattle.cl_top.specs.{OfTrace.IsOfTrace, Meaning.{Meaning, on_both, takes_no_step, promises_of_both, equal}}

-- ---- the window

-- a window lies within a run of so many ticks: it begins before it ends, and ends no later than the run
pub record LiesWithin (from to ticks : ℕ) : Type 0 where
  pub ordered : from < to
  pub within : to ≤ ticks

-- it doesn't
abbrev pub window_refused : (from to ticks : ℕ) → Outcome
window_refused from to ticks = record {
  status = WINDOW_REFUSED;
  text = line (codes "window refused " ++ decimal from ++ codes " " ++ decimal to ++ codes " of " ++ decimal ticks);
}

-- ---- what comes of a legal run

-- its picture
pub record IsPictured (from to : ℕ) (model : SystemModel) (run : Run) (found : Outcome) : Type 0 where
  pub window : LiesWithin from to run.table.ticks
  pub outcome : IsDone (IsPictureOf model run from to) found

-- the refusal of the window
pub record IsOutside (from to : ℕ) (run : Run) (found : Outcome) : Type 0 where
  pub outside : ¬ LiesWithin from to run.table.ticks
  pub printed : found ≡ window_refused from to run.table.ticks

-- its picture where the window lies within it, else the refusal of the window
abbrev pub IsDrawn : (from to : ℕ) → SystemModel → Run → Outcome → Type 0
IsDrawn from to model run found = IsPictured from to model run found ⊎ IsOutside from to run found

-- the outcome of a text, for a valid model
abbrev pub IsOfDraw : (from to : ℕ) → SystemModel → (text : List ℕ) → Outcome → Type 0
IsOfDraw from to model text found = IsOfTrace model (IsDrawn from to model) text found

-- ---- what is promised

-- The text is the picture of the legal run of the trace, from one tick to another, and the window lies within the run.
pub record IsSafePicture (from to : ℕ) (model : SystemModel) (trace text : List ℕ) : Type 0 where
  pub run : Run
  pub is_trace : IsTraceOf model trace run
  pub legal : IsLegal (system_of model) run
  pub window : LiesWithin from to run.table.ticks
  pub picture : IsPictureOf model run from to text

-- what `draw` means
abbrev pub drawing : (from to : ℕ) → Meaning
drawing from to = record { comes_to = on_both (IsOfDraw from to); takes = takes_no_step; safe = promises_of_both (IsSafePicture from to); same = equal }
