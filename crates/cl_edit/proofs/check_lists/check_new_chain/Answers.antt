use Rattle.cl_edit.proofs.{ChainChanges.new_chain_refused, FewAnswers.passes_as}
use Rattle.cl_edit.proofs.check_lists.check_new_chain.Goals as goal

pub returns : goal.returns
returns c = passes_as c.check_parts_of_chain.result _ _ (new_chain_refused c.args.model.now c.requires.valid c.args.chain.now) c.check_parts_of_chain.ensures
