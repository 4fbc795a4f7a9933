use Rattle.std.proofs.Common.{ℕ, List, subst}
use Rattle.cl_advice.specs.Advice.{AddsPlace}
use Rattle.cl_advice.proofs.advice.put_of_document.Goals as goal

pub returns : goal.returns
returns c = record {
  place = c.in_ok-place.place;
  between = c.put_position.new.text;
  apt = c.in_ok-place.ensures;
  placed = subst (λ (bytes : List ℕ). AddsPlace bytes c.in_ok-place.place c.args.text.now c.put_position.new.text) c.as_bytes.ensures.value c.in_ok-put_position.ensures;
  added = c.in_ok-put_of_table.ensures;
}
