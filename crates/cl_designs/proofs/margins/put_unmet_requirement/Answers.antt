use Rattle.std.proofs.Common.{◌≡◌, [], ◌∷◌, ◌++◌}
use Rattle.std.specs.Prelude.{codes}
use Rattle.std.proofs.lemmas.Result.{on_ok_weaker}
use Rattle.cl_designs.specs.Margins.{requirement_name}
use Rattle.cl_designs.proofs.MarginLines.{three_pieces}
use Rattle.cl_designs.proofs.margins.put_unmet_requirement.Goals as goal

pub returns : goal.returns
returns c =
    let name = requirement_name c.args.model.now c.args.requirement in
    on_ok_weaker c.put-2.result
    (λ (ended : c.put-2.new.self ≡ c.put_requirement_name.new.text ++ 0x0A ∷ []).
    three_pieces (codes "unmet requirement ") name (0x0A ∷ []) c.args.text.now c.put.new.self c.put_requirement_name.new.text c.put-2.new.self
    c.in_ok-put.ensures.ok c.in_ok-put_requirement_name.ensures ended)
    c.put-2.ensures.ok
