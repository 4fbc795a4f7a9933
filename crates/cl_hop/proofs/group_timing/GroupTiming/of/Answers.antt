use Rattle.cl_runs.specs.SystemOf.{system_of}
use Rattle.cl_hop.proofs.ModelGroups.{timing_by_windows, timing_near}
use Rattle.cl_hop.proofs.group_timing.GroupTiming.of.Goals as goal

pub returns-clause-timing : goal.returns-clause-timing
returns-clause-timing c =
    timing_by_windows (system_of c.args.model.now) c.args.group c.args.response c.access_window-read.result c.access_window-write.result c.in_window.result
    c.access_window-read.ensures c.access_window-write.ensures c.in_window.ensures.timing

pub returns-clause-near : goal.returns-clause-near
returns-clause-near c = rw (returns-clause-timing c)
    (timing_near c.args.model.now c.in_window.ensures.valid c.args.group c.args.response c.requires.group c.requires.holds_execution c.requires.by_deadline)
