use Rattle.std.proofs.Common.{rules}
use Rattle.std.proofs.lemmas.List.{append_assoc}
use Rattle.cl_tight.proofs.TightLengths.{tight_tasks_found, tight_chains_found}
use Rattle.cl_tighten.specs.Tight.{tight_text}
use Rattle.cl_tighten.proofs.tight.tight_report.Goals as goal

pub put_tasks-requires : goal.put_tasks-requires
put_tasks-requires c = tight_tasks_found c.args.model.now c.args.findings.now c.requires

pub put_bounded-requires : goal.put_bounded-requires
put_bounded-requires c = tight_chains_found c.args.model.now c.args.findings.now c.requires

pub returns : goal.returns
unfolding tight_text
returns c = search (rules, append_assoc)
