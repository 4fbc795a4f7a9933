use Rattle.std.proofs.Common.{◌<◌, ℕ, List, Option, length, get_or, ap, ◌∙◌, subst, arith}
use Rattle.std.specs.Prelude.{unwrap_or}
use Rattle.std.proofs.Math.ListN.{length-map}
use Rattle.cl_model.specs.declared.{chain.RequirementDef.RequirementDef, model.SystemModel.SystemModel}
use Rattle.cl_runs.specs.Requirements.{required_chain}
use Rattle.cl_tight.proofs.TightLists.{required_known}
use Rattle.cl_top.specs.{declared.subject.What.What, Subject.names_asked}
use Rattle.cl_top.proofs.commands.witness.witness_of.Goals as goal

pub witness_of_chain-requires-in-Requirement-clause-chain : goal.witness_of_chain-requires-in-Requirement-clause-chain
witness_of_chain-requires-in-Requirement-clause-chain c =
    let model = c.args.model.now in
    let number = c.args.number in
    let found = c.index-as_slice-number.result in
    let named = subst (λ (what : What). number < length (names_asked what model)) c.in-Requirement.is c.requires.number in
    let within : number < length model.requirements = omega (arith, named, length-map model.requirements (λ (requirement : RequirementDef). requirement.name)) in
    let items = c.as_slice.ensures ∙ ap (λ (plain : SystemModel). plain.requirements) c.plain.ensures.plain in
    let at = c.index-as_slice-number.is ∙ ap (λ (list : List RequirementDef). get_or list number found) items in
    let own = c.unwrap_or-chain.ensures ∙ ap (λ (chain : Option ℕ). unwrap_or chain 0) c.chain_named.ensures.number in
    omega (arith, own, ap (required_chain model) at, required_known model c.plain.ensures.valid number found within)
