use Rattle.std.proofs.Common.{◌≡◌, ◌++◌}
use Rattle.std.specs.Prelude.{codes}
use Rattle.std.proofs.lemmas.Result.{on_ok_weaker}
use Rattle.cl_designs.specs.Margins.{requirement_name}
use Rattle.cl_designs.proofs.MarginLines.{two_pieces}
use Rattle.cl_designs.proofs.margins.put_broken_requirement.Goals as goal

pub returns : goal.returns
returns c =
    let model = c.args.model.now in
    let requirement = c.args.requirement in
    on_ok_weaker c.put_requirement_name.result
    (λ (is : c.put_requirement_name.new.text ≡ c.put.new.self ++ requirement_name model requirement).
    two_pieces (codes " then requirement ") (requirement_name model requirement) c.args.text.now c.put.new.self c.put_requirement_name.new.text c.in_ok-put.ensures.ok is)
    c.put_requirement_name.ensures
