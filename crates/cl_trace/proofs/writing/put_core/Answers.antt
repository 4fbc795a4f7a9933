use Rattle.std.proofs.Common.{sym}
use Rattle.cl_trace.proofs.{LongestStretches.only_stretches, StretchTasks.{core_within, stretches_of_tasks}}
use Rattle.cl_trace.proofs.writing.put_core.Goals as goal

pub stretches-requires : goal.stretches-requires
stretches-requires c = core_within c.args.model.now c.args.run.now c.args.core c.requires.in_form c.requires.within

pub put_stretches-requires : goal.put_stretches-requires
put_stretches-requires c = stretches_of_tasks c.args.model.now c.args.run.now c.args.core c.stretches.result.now c.requires.in_form c.requires.within c.stretches.ensures

pub returns : goal.returns
returns c =
    let is = only_stretches _ c.stretches.result.now c.stretches.ensures in
    rw (sym is) c.put_stretches.ensures
