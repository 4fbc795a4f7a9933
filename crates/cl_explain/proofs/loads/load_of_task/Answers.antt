use Rattle.std.proofs.Common.{ap, arith}
use Rattle.cl_model.specs.ByNumber.{stimulus_of}
use Rattle.cl_model.proofs.ValidTasks.{kind_in_range}
use Rattle.cl_explain.specs.Loads.{ticks_of_round}
use Rattle.cl_explain.proofs.LoadsByNumber.{some_ticks}
use Rattle.cl_explain.proofs.loads.load_of_task.Goals as goal

pub div_ceil-requires : goal.div_ceil-requires
div_ceil-requires c = omega (
  arith,
  c.from-ticks.ensures,
  c.ticks_of_round.ensures,
  ap ticks_of_round c.stimulus_of.ensures,
  some_ticks (stimulus_of c.args.model.now c.args.task) (kind_in_range c.args.model.now c.requires.valid c.args.task c.requires.task),
)

pub nonzero_div-result : goal.nonzero_div-result
nonzero_div-result c = omega (
  arith,
  c.from-ticks.ensures,
  c.ticks_of_round.ensures,
  ap ticks_of_round c.stimulus_of.ensures,
  some_ticks (stimulus_of c.args.model.now c.args.task) (kind_in_range c.args.model.now c.requires.valid c.args.task c.requires.task),
)
