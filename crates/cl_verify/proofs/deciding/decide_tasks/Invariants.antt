use Rattle.cl_bound.specs.Answers.{answer_at}
use Rattle.cl_tight.specs.TightFindings.{tight_findings_of}
use Rattle.cl_verify.specs.{declared.decision.TaskDecision.TheVariants.Broken, Decisions.IsDecisionOnTask, KnownLengths.AreRunsOf}
use Rattle.cl_verify.proofs.Made.{AreMade}
use Rattle.cl_verify.proofs.deciding.decide_tasks.Given as goal

abbrev pub invariant-loop-task : goal.invariant-loop-task
invariant-loop-task l = record {
  decided : AreMade (λ i. IsDecisionOnTask l.model i (answer_at (tight_findings_of l.model).tasks i)) Broken l.task l.decisions;
  runs : AreRunsOf l.model l.runs;
}
