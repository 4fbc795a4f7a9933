use Rattle.std.proofs.Common.{ℕ, ◌+◌, ◌++◌, ap, ◌∙◌}
use Rattle.std.specs.Prelude.{codes, decimal}
use Rattle.cl_model.specs.Timing.{greatest_jitter}
use Rattle.cl_traces.specs.SaidOfRules.{found_and_wanted, span_words}
use Rattle.cl_traces.proofs.MorePieces.{two_lines}
use Rattle.cl_traces.proofs.releases.put_ill_released.Goals as goal

pub returns : goal.returns
unfolding found_and_wanted
returns c =
    let arrival = c.args.job.now.arrival in
    two_lines (codes "found release ") (decimal c.args.job.now.release) (codes "wanted release ")
    (span_words arrival (arrival + greatest_jitter c.args.kind))
    c.args.text.now c.put.new.self c.put_number.new.self c.put-2.new.self c.put_span.new.text c.put-3.new.self
    c.in_ok-put.ensures.ok c.in_ok-put_number.ensures.ok c.in_ok-put-2.ensures.ok
    (c.in_ok-put_span.ensures
    ∙ ap (λ (a : ℕ). c.put-2.new.self ++ span_words a (a + c.from.result)) c.from-arrival.ensures
    ∙ ap (λ (j : ℕ). c.put-2.new.self ++ span_words arrival (arrival + j)) (c.from.ensures ∙ c.greatest_jitter.ensures))
    c.in_ok-put-3.ensures.ok
