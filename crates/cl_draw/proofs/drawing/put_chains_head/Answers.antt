use Rattle.std.proofs.Common.{length, ap, sym, ◌∙◌, ◌++◌, List, arith}
use Rattle.cl_picture.specs.Pieces.{Element, print}
use Rattle.cl_picture.proofs.Printing.{no_elements}
use Rattle.cl_draw.proofs.HeadFacts.{no_head, some_head}
use Rattle.cl_draw.proofs.drawing.put_chains_head.Goals as goal

pub returns-then-chains-eq0 : goal.returns-then-chains-eq0
returns-then-chains-eq0 c = no_elements c.args.text.now
    ∙ ap (λ (es : List Element). c.args.text.now ++ print es) (sym (no_head c.args.model.now (length c.args.model.now.chains) (omega (arith, c.if-chains-eq0.true, c.chains.ensures.count))))

pub returns : goal.returns
returns c =
    rw (some_head c.args.model.now (length c.args.model.now.chains) (omega (arith, c.if-chains-eq0.false, c.chains.ensures.count)), ← c.cores.ensures.count, ← c.head.ensures.head)
    c.put_line.ensures.ok
