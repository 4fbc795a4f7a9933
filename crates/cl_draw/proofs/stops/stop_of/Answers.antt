use Rattle.std.proofs.Common.{refl}
use Rattle.cl_draw.proofs.StopFacts.{is_stop}
use Rattle.cl_draw.proofs.stops.stop_of.Goals as goal

pub returns : goal.returns
returns c = is_stop c.args.model.now c.args.run.now c.args.group c.args.job _ refl refl c.in_ok-read_of.ensures c.in_ok-write_of.ensures
