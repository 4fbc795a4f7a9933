-- A run has one replay, since a model has one findings and but one thing is measured.
use Rattle.std.proofs.Common.{◌≡◌, ℕ, List, ap, sym, ◌∙◌}
use Rattle.cl_model.specs.declared.model.SystemModel.{SystemModel}
use Rattle.cl_runs.specs.Run.{Run}
use Rattle.cl_analyse.specs.declared.findings.Findings.{Findings}
use Rattle.cl_analyse.proofs.SafeFindings.{one_findings}
use Rattle.cl_replay.specs.Replay.{replay_text, IsReplayOf}
use Rattle.cl_replay.proofs.MeasuredChains.{one_measured}

pub one_replay : (model : SystemModel) (run : Run) (one other : List ℕ) → IsReplayOf model run one → IsReplayOf model run other → one ≡ other
one_replay model run one other first second =
    first.printed
    ∙ ap (λ (findings : Findings). replay_text model findings first.measured) (one_findings model first.findings second.findings first.found second.found)
    ∙ ap (replay_text model second.findings) (one_measured model run first.measured second.measured first.are_measured second.are_measured)
    ∙ sym second.printed
