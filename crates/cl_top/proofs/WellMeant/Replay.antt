-- `replay`: the replay of the run of a trace.
use Rattle.std.proofs.Common.{◌≡◌, ℕ, ◌+◌, ◌≤◌, inl, List, arith}
use Rattle.cl_model.specs.{declared.model.SystemModel.SystemModel, Validity.IsValid}
use Rattle.cl_runs.specs.{Legal.IsLegal, Run.Run, SystemOf.system_of}
use Rattle.cl_replay.specs.Replay.{IsReplayOf}
use Rattle.cl_replay.proofs.{OneReplay.one_replay, SafeMargins.with_margins, SomeReplay.some_replay}
use Rattle.cl_engine.specs.declared.files.Files.TheVariants as files
use Rattle.cl_engine.specs.{declared.{outcome.Outcome.Outcome, status.TheConstants.DONE}, Content.of_both}
use Rattle.cl_engine.proofs.Outcomes.{SomeOutcome}
use Rattle.cl_top.specs.{declared.command.TheConstants.TRACE_LIMIT, Commands.Replay.{IsReplayed, IsOfReplay, IsSafeReplay, replaying}, Meaning.{model_steps, promises_of_both, equal}}
use Rattle.cl_top.proofs.{Meanings.{IsMeantWell, done_some, done_once, both_well}, OfTrace.{traced_content, done_trace}, TracesOnce.{trace_some, one_traced}}

module _ (model : SystemModel) where
  some_replayed : IsValid model → (run : Run) → IsLegal (system_of model) run → SomeOutcome (IsReplayed model run)
  some_replayed valid run legal = let replay = some_replay model valid run in done_some (IsReplayOf model run) replay.0 replay.1

  pub replayed_once : (run : Run) → IsLegal (system_of model) run → (one other : Outcome) → IsReplayed model run one → IsReplayed model run other → one ≡ other
  replayed_once run legal one other is also = done_once (IsReplayOf model run) (one_replay model run) one other is also

  safe_replay : IsValid model → (text : List ℕ) (found : Outcome) → IsOfReplay model text found → found.status ≡ DONE → IsSafeReplay model text found.text
  safe_replay valid text found is done =
      let (run, trace, legal) = done_trace model (IsReplayed model) text found done is in
      record { run = run; is_trace = trace; legal = legal.legal; replay = with_margins model valid run legal.legal found.text legal.outcome.text_is }

pub replaying_well : IsMeantWell (files.ModelAnd TRACE_LIMIT) replaying (Unit {0})
replaying_well = both_well (of_both (λ model trace before after. after ≤ before + model_steps model) (λ before after. ⊥)) (promises_of_both IsSafeReplay) equal (Unit {0})
    (λ one other is. is) TRACE_LIMIT IsOfReplay
    (λ model valid named text. trace_some model valid (IsReplayed model) (some_replayed model valid) named text)
    (λ model valid named text one other is also. one_traced model valid (IsReplayed model) (replayed_once model) named text one other is also)
    (λ model text found is. traced_content model (IsReplayed model) (λ run other replayed. inl replayed.status_is) text found is)
    (λ model text steps. omega arith) safe_replay
