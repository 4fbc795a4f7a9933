use Rattle.std.proofs.Common.{◌+◌, ◌*◌, ap, ◌∙◌}
use Rattle.cl_exact.specs.Inner.Beats.{beat_in}
use Rattle.cl_exact.proofs.BlockFacts.{steps_of_starts}
use Rattle.cl_exact.proofs.block.fill_starts.Goals as goal

pub returns : goal.returns
returns c = λ i below.
    let beat = beat_in c.args.beats.now 0 in
    c.fill_steps.ensures i below ∙ ap (λ from. from + i * beat.period) c.read.ensures
    ∙ steps_of_starts beat c.args.first i c.requires.some
