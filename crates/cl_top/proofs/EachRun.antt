-- A run has one answer to each command on it.
use Rattle.std.proofs.Common.{◌≡◌}
use Rattle.cl_model.specs.{declared.model.SystemModel.SystemModel, Validity.IsValid}
use Rattle.cl_runs.specs.Run.{Run}
use Rattle.cl_engine.specs.declared.outcome.Outcome.{Outcome}
use Rattle.cl_top.specs.{declared.command.Command.Command, Commands.{of_run, Replay.IsReplayed}, OfTrace.IsOfRun}
use Rattle.cl_top.proofs.{AnswersOfRuns.of_run_once, WellMeant.{of_run_same, Replay.replayed_once}}

pub replayed_in_one_way : (model : SystemModel) (run : Run) (one other : Outcome) → IsOfRun model (IsReplayed model) run one → IsOfRun model (IsReplayed model) run other → one ≡ other
replayed_in_one_way model run one other is also = of_run_once model run (IsReplayed model) (replayed_once model run) one other is also

pub answered_in_one_way : (asked : Command) (model : SystemModel) → IsValid model → (run : Run) (one other : Outcome)
    → IsOfRun model (of_run asked model) run one → IsOfRun model (of_run asked model) run other → one ≡ other
answered_in_one_way asked model valid run one other is also = of_run_once model run (of_run asked model) (of_run_same asked model valid run) one other is also
