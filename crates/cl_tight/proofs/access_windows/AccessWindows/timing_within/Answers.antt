use Rattle.std.proofs.Common.{ap, ◌∙◌}
use Rattle.cl_runs.specs.SystemOf.{system_of}
use Rattle.cl_hop.specs.Hops.{timing_in}
use Rattle.cl_tight.specs.TightTimings.{earliest_read, tight_timing}
use Rattle.cl_tight.proofs.{NearTimings.tight_near, TightTasks.timely_by_phase}
use Rattle.cl_tight.proofs.access_windows.AccessWindows.timing_within.Goals as goal

pub returns-clause-timing : goal.returns-clause-timing
unfolding tight_timing
returns-clause-timing c =
    let system = system_of c.args.model.now in
    c.in_window.ensures.timing
    ∙ ap (λ read. timing_in system c.args.group read c.in_ok-write.write) c.read-read.ensures.read
    ∙ ap (timing_in system c.args.group (earliest_read system c.args.group)) c.in_ok-write.ensures.write

pub returns-clause-near : goal.returns-clause-near
returns-clause-near c = rw (returns-clause-timing c)
    (tight_near c.args.model.now c.in_window.ensures.valid c.args.group c.requires.group
    (timely_by_phase (system_of c.args.model.now) c.args.group.task c.requires.settled.is_task c.args.response c.requires.settled))
