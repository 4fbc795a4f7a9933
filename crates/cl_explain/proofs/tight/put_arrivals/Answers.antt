use Rattle.std.proofs.Common.{ℕ, ◌+◌, ◌++◌, pos, slice_index_or, ap, ◌∙◌, arith}
use Rattle.cl_text.proofs.MoreLines.{line_more}
use Rattle.cl_explain.specs.Explanation.{arrival_line}
use Rattle.cl_explain.proofs.tight.put_arrivals.Goals as goal

pub loop-arrival-preserved : goal.loop-arrival-preserved
loop-arrival-preserved c =
    let arrivals = c.args.arrivals.now in
    let i = c.loop-arrival.arrival-index in (
      omega (arith, c.loop-arrival.invariant.0),
      line_more (λ (n : ℕ). arrival_line c.args.word.now c.args.model.now c.args.chain (c.args.from + n) (slice_index_or arrivals n (pos 0)))
          c.args.text.now c.loop-arrival.text c.put_arrival.new.text i c.loop-arrival.invariant.1
          (c.in_ok-put_arrival.ensures
          ∙ ap (λ (place : ℕ). c.loop-arrival.text ++ arrival_line c.args.word.now c.args.model.now c.args.chain place (slice_index_or arrivals i (pos 0))) c.loop-arrival.invariant.0),
    )

pub put_arrival-requires-clause-place : goal.put_arrival-requires-clause-place
put_arrival-requires-clause-place c = omega (arith, c.loop-arrival.invariant.0, c.loop-arrival-test.true, c.requires.within)

pub overflow_add-place : goal.overflow_add-place
overflow_add-place c = omega (arith, c.loop-arrival.invariant.0, c.loop-arrival-test.true, c.requires.few)
