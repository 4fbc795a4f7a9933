use Rattle.cl_analyse.proofs.SafeFindings.{findings_safe}
use Rattle.cl_analyse.proofs.analysing.analyse.Goals as goal

pub returns-clause-findings : goal.returns-clause-findings
returns-clause-findings g c = record {
  tasks = c.in_ok-tasks.ensures.answers;
  chains = c.in_ok-chains.ensures.answers;
  exacts = c.in_ok-exacts.ensures.answers;
  verdicts = c.in_ok-verdicts.ensures;
}

pub returns-clause-safe : goal.returns-clause-safe
returns-clause-safe g c = findings_safe c.args.model.now c.in_ok-tasks.ensures.valid _ (returns-clause-findings g c)
