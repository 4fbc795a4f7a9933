use Rattle.std.proofs.Common.{ℕ, sym, subst}
use Rattle.std.proofs.lemmas.Result.{on_ok_weaker}
use Rattle.cl_verify.proofs.ByFindings.{tasks_of_findings}
use Rattle.cl_why.specs.Inner.{IsWindowOf}
use Rattle.cl_why.proofs.ReasonTexts.{reason_of_task}
use Rattle.cl_why.proofs.reasons.put_reason_of_task.Goals as goal

pub of-requires-clause-answers : goal.of-requires-clause-answers
of-requires-clause-answers c = tasks_of_findings c.args.model.now c.args.findings.now c.requires.findings

pub put_shares-requires : goal.put_shares-requires
put_shares-requires c =
    subst (λ (n : ℕ). IsWindowOf c.args.model.now n c.in_ok-window.window) (sym c.in_ok-window.ensures.of_task) c.in_ok-window.ensures

pub returns-clause-text : goal.returns-clause-text
returns-clause-text c = on_ok_weaker c.put_shares.result (λ last.
    reason_of_task c.args.model.now c.args.task c.in_ok-decision.decision c.in_ok-window.window
    c.args.text.now c.put_task.new.text c.put_shares.new.text c.in_ok-decision.ensures.decision c.in_ok-window.ensures c.in_ok-put_task.ensures last) c.put_shares.ensures
