use Rattle.std.proofs.Common.{subst, ap, ◌∙◌}
use Rattle.cl_model.specs.{Answers.Answers, Refusals.each}
use Rattle.cl_valid.specs.{Inner.ChainsByTable.known_chain_check, declared.names.Names.Names}
use Rattle.cl_valid.proofs.chains.check_requirements.Goals as goal

pub returns : goal.returns
returns c =
    subst (λ refusals. Answers c.check_all_requirements.result refusals tt)
    (ap (each (known_chain_check c.args.names.now.chains)) c.as_slice.ensures ∙ ap (λ (n : Names). each (known_chain_check n.chains) c.args.model.now.requirements) c.requires.names)
    c.check_all_requirements.ensures
