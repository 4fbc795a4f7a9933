use Rattle.std.proofs.Common.{subst, ap, ◌∙◌}
use Rattle.cl_model.specs.{Answers.Answers, Refusals.each}
use Rattle.cl_valid.specs.Inner.ChainsByTable.{use_chain_check}
use Rattle.cl_valid.proofs.ChainsByTable.{chains_are}
use Rattle.cl_valid.proofs.chains.check_chains.Goals as goal

pub returns : goal.returns
returns c =
    subst (λ refusals. Answers c.check_all_chains.result refusals tt)
    (ap (each (use_chain_check c.args.names.now.runnables c.args.uses.now)) c.as_slice.ensures ∙ chains_are c.args.model.now c.args.names.now c.args.uses.now c.requires.names c.requires.uses)
    c.check_all_chains.ensures
