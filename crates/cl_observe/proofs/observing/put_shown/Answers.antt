use Rattle.std.proofs.Common.{inl, inr, refl, sym, ◌∙◌}
use Rattle.std.specs.Prelude.{codes}
use Rattle.std.proofs.lemmas.Bool.{false≢true}
use Rattle.std.proofs.lemmas.Result.{on_ok_weaker}
use Rattle.cl_text.specs.Line.{line}
use Rattle.cl_observe.proofs.observing.put_shown.Goals as goal

pub put_measured-requires-clause-in_order : goal.put_measured-requires-clause-in_order
put_measured-requires-clause-in_order c = c.is_in_order.ensures.0 c.if-is_in_order.true

pub returns-then-is_in_order : goal.returns-then-is_in_order
returns-then-is_in_order c = on_ok_weaker c.put_measured.result (λ goes. record {
  piece = goes.piece;
  is = inl goes.is;
  joined = goes.joined;
}) c.put_measured.ensures

pub returns-else-is_in_order : goal.returns-else-is_in_order
returns-else-is_in_order c = on_ok_weaker c.put.result (λ put. record {
  piece = line (codes "unordered");
  is = inr (record {
    out_of_order = λ ordered. absurd (false≢true (sym c.if-is_in_order.false ∙ c.is_in_order.ensures.1 ordered));
    printed = refl;
  });
  joined = put;
}) c.put.ensures.ok
