use Rattle.std.proofs.Common.{◌≡◌, [], ◌∷◌, ◌++◌}
use Rattle.std.specs.Prelude.{codes, decimal}
use Rattle.std.proofs.lemmas.Result.{on_ok_weaker}
use Rattle.cl_designs.specs.Margins.{breaks_words, all_line}
use Rattle.cl_designs.proofs.MarginLines.{four_pieces}
use Rattle.cl_designs.proofs.margins.put_all.Goals as goal

pub returns : goal.returns
unfolding all_line
returns c =
    let margin = c.args.margin.now in
    on_ok_weaker c.put-2.result
    (λ (ended : c.put-2.new.self ≡ c.put_then.new.text ++ 0x0A ∷ []).
    four_pieces (codes "all percent ") (decimal margin.percent) (breaks_words c.args.model.now margin.breaks) (0x0A ∷ []) c.args.text.now
    c.put.new.self c.put_number.new.self c.put_then.new.text c.put-2.new.self
    c.in_ok-put.ensures.ok c.in_ok-put_number.ensures.ok c.in_ok-put_then.ensures ended)
    c.put-2.ensures.ok
