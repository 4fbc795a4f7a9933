-- `replay MODEL TRACE`: the replay of the run of a trace.
use Rattle.std.specs.Prelude.{ℕ, ◌+◌, ◌≤◌, List}
use Rattle.cl_model.specs.declared.model.SystemModel.{SystemModel}
use Rattle.cl_runs.specs.{Run.Run, SystemOf.system_of, Legal.IsLegal}
use Rattle.cl_trace.specs.Rules.{IsTraceOf}
use Rattle.cl_replay.specs.{Margins.IsReplayWithMargins, Replay.IsReplayOf}
use Rattle.cl_engine.specs.{declared.outcome.Outcome.Outcome, Content.of_both, Done.IsDone}
use Rattle.cl_top.specs.{OfTrace.IsOfTrace, Meaning.{Meaning, on_both, model_steps, promises_of_both, equal}}

-- what comes of a legal run: its replay
abbrev pub IsReplayed : SystemModel → Run → Outcome → Type 0
IsReplayed model run found = IsDone (IsReplayOf model run) found

-- the outcome of a text, for a valid model
abbrev pub IsOfReplay : SystemModel → (text : List ℕ) → Outcome → Type 0
IsOfReplay model text found = IsOfTrace model (IsReplayed model) text found

-- The text is the replay of the legal run of the trace: each length and its margin make the bound.
pub record IsSafeReplay (model : SystemModel) (trace text : List ℕ) : Type 0 where
  pub run : Run
  pub is_trace : IsTraceOf model trace run
  pub legal : IsLegal (system_of model) run
  pub replay : IsReplayWithMargins model run text

-- what `replay` means
abbrev pub replaying : Meaning
replaying = record {
  comes_to = on_both IsOfReplay;
  takes = of_both (λ model trace before after. after ≤ before + model_steps model) (λ before after. ⊥);
  safe = promises_of_both IsSafeReplay;
  same = equal;
}
