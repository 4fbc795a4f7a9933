use Rattle.cl_incr.proofs.KeptAnswers.{anew_steps}
use Rattle.cl_incr.proofs.chains.find_chain.Goals as goal

pub returns-in-None-clause-steps : goal.returns-in-None-clause-steps
returns-in-None-clause-steps g c =
    anew_steps c.args.old.now c.args.new.now c.args.chain c.answer_chain-bounds.result c.args.steps.now c.answer_chain-bounds.new.steps c.answer_exact-exact.new.steps
    c.answer_chain-bounds.ensures.answer c.answer_chain-bounds.ensures.steps c.answer_exact-exact.ensures.steps c.answer_chain-bounds.ensures.late
    c.answer_exact-exact.ensures.late c.in-None.ensures
