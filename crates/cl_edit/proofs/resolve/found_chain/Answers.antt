use Rattle.cl_model.specs.Named.{chain_names}
use Rattle.cl_edit.proofs.FoundFacts.{number_answers, missing_answers}
use Rattle.cl_edit.proofs.resolve.found_chain.Goals as goal

pub returns-in-Some : goal.returns-in-Some
returns-in-Some c = number_answers c.args.name.now (chain_names c.args.model.now) c.in-Some.number c.in-Some.ensures.number

pub returns-in-None : goal.returns-in-None
returns-in-None c = missing_answers c.args.name.now (chain_names c.args.model.now) c.not_found.result c.in-None.ensures.number c.not_found.ensures
