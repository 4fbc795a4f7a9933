use Rattle.cl_model.specs.ByNumber.{requirement_at}
use Rattle.cl_analyse.specs.Verdicts.{verdict_at}
use Rattle.cl_tight.specs.TightFindings.{tight_findings_of}
use Rattle.cl_verify.specs.{declared.decision.Decision.TheVariants.Late, Decisions.IsDecisionOn, KnownLengths.AreRunsOf}
use Rattle.cl_verify.proofs.Made.{AreMade}
use Rattle.cl_verify.proofs.deciding.decide_requirements.Given as goal

abbrev pub invariant-loop-place : goal.invariant-loop-place
invariant-loop-place l = record {
  decided : AreMade (λ i. IsDecisionOn l.model (requirement_at l.model i) (verdict_at (tight_findings_of l.model).verdicts i)) (Late 0) l.place l.decisions;
  runs : AreRunsOf l.model l.runs;
}
