use Rattle.std.proofs.Common.{sym, subst}
use Rattle.cl_tight.specs.Promises.{AreSafeTightFindings}
use Rattle.cl_tight.proofs.{TightLaws.tight_findings_safe, TightLists.findings_are}
use Rattle.cl_tight.proofs.tightening.tighten.Goals as goal

pub returns-clause-findings : goal.returns-clause-findings
returns-clause-findings g c = findings_are c.args.model.now _ c.in_ok-tasks.ensures.answers c.in_ok-chains.ensures c.in_ok-verdicts.ensures

pub returns-clause-safe : goal.returns-clause-safe
returns-clause-safe g c =
    subst (AreSafeTightFindings c.args.model.now) (sym (returns-clause-findings g c)) (tight_findings_safe c.args.model.now c.in_ok-tasks.ensures.valid)
