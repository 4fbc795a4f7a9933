use Rattle.std.proofs.Common.{ap, ◌∙◌}
use Rattle.std.specs.Prelude.{is_some}
use Rattle.cl_model.specs.Named.{chain_names}
use Rattle.cl_edit.proofs.KnownSteps.{place_known}
use Rattle.cl_edit.proofs.check_lists.has_chain.Goals as goal

pub returns : goal.returns
returns c = c.is_some.ensures ∙ ap is_some c.chain_named.ensures.number ∙ place_known c.args.name.now (chain_names c.args.model.now)
