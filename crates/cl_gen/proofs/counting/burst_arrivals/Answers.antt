use Rattle.std.proofs.Common.{◌+◌, ◌*◌, ◌/◌, ◌%◌, min, ap, ◌∙◌}
use Rattle.std.specs.Int.{div_ceil}
use Rattle.cl_model.specs.declared.stimulus.StimulusKind.TheVariants.{Burst}
use Rattle.cl_runs.proofs.ModelSystem.{well_formed}
use Rattle.cl_gen.proofs.BurstCount.{burst_count}
use Rattle.cl_gen.proofs.counting.burst_arrivals.Goals as goal

pub returns-clause-count : goal.returns-clause-count
returns-clause-count c =
    let whole = c.saturating_sub-width.result / c.args.period * c.args.count in
    ap (λ m. whole + m) (c.min.ensures ∙ ap (λ n. min c.args.count n) c.div_ceil.ensures)
    ∙ ap (λ w. w / c.args.period * c.args.count + min c.args.count (div_ceil (w % c.args.period) c.args.distance)) c.saturating_sub-width.ensures
    ∙ burst_count c.args.period c.args.offset c.args.count c.args.distance
    (well_formed (Burst c.args.period c.args.offset c.args.count c.args.distance) c.requires.range c.requires.ordered) c.args.ticks
