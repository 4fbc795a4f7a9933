use Rattle.std.proofs.Common.{sym, ◌∙◌}
use Rattle.cl_explain.proofs.LateChains.{timely_chain}
use Rattle.cl_explain.proofs.explaining.put_if_bounded.Goals as goal

pub put_groups-requires-clause-not_late : goal.put_groups-requires-clause-not_late
put_groups-requires-clause-not_late c =
    timely_chain c.args.model.now c.args.chain c.in-Bounds.field-0 (sym c.requires.answer ∙ c.in-Bounds.is) c.args.settled.now c.requires.answers
