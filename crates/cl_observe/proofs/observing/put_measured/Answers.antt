use Rattle.std.proofs.Common.{length, ap, ◌∙◌}
use Rattle.std.proofs.Math.ListN.{length-map}
use Rattle.std.proofs.lemmas.Result.{on_ok_weaker}
use Rattle.cl_tight.specs.TightFindings.{tight_chain_answer_of}
use Rattle.cl_tight.proofs.TightLengths.{tight_tasks_found, tight_chains_found}
use Rattle.cl_observe.proofs.PutTexts.{all_put}
use Rattle.cl_observe.proofs.observing.put_measured.Goals as goal

pub put_tasks-requires-clause-answers : goal.put_tasks-requires-clause-answers
put_tasks-requires-clause-answers c = ap length c.as_slice.ensures ∙ tight_tasks_found c.args.model.now c.args.findings.now c.requires.found

pub put_chains-requires-clause-answers : goal.put_chains-requires-clause-answers
put_chains-requires-clause-answers c =
    ap length (c.as_slice-2.ensures ∙ tight_chains_found c.args.model.now c.args.findings.now c.requires.found)
    ∙ length-map c.args.model.now.chains (tight_chain_answer_of c.args.model.now)

pub returns : goal.returns
returns c = on_ok_weaker c.put_chains.result (λ last.
    all_put c.args.model.now c.args.run.now c.args.findings.now c.requires.found c.as_slice.result.now c.as_slice.ensures c.as_slice-2.result.now c.as_slice-2.ensures
    c.requires.in_order c.args.text.now c.put_tasks.new.text c.put_chains.new.text c.in_ok-put_tasks.ensures last) c.put_chains.ensures
