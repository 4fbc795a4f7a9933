use Rattle.std.proofs.Common.{arith, ap, sym, ◌∙◌}
use Rattle.cl_model.specs.declared.task.TaskDef.{TaskDef}
use Rattle.cl_runs.specs.{TaskTiming.{Timing, timing_at}, SystemOf.system_of}
use Rattle.cl_runs.proofs.ModelSystem.{timing_is, count_is, range_count_is, system_sound}
use Rattle.cl_comm.specs.Windows.{window_of}
use Rattle.cl_hop.proofs.GroupWindows.{spot_fits, spot_in_time}
use Rattle.cl_hop.proofs.group_timing.access_window.Goals as goal

pub window-requires-clause-least_times : goal.window-requires-clause-least_times
window-requires-clause-least_times c =
    let model = c.args.model.now in
    rw c.spot_of.ensures (spot_fits (system_of model) (system_sound model c.task.ensures.valid) c.args.task c.args.place c.args.response
    (omega (arith, c.requires.is_task, count_is model)) c.requires.holds_execution
    (omega (arith, c.requires.is_runnable, range_count_is model c.args.task c.requires.is_task)))

pub window-requires-clause-in_time : goal.window-requires-clause-in_time
window-requires-clause-in_time c =
    rw c.spot_of.ensures (spot_in_time (system_of c.args.model.now) c.args.task c.args.place c.args.response c.requires.by_deadline)

pub returns : goal.returns
returns c =
    let access = c.of.ensures ∙ ap (λ (t : TaskDef). t.access) c.task.ensures.task
    ∙ ap (λ (t : Timing). t.access) (sym (timing_is c.args.model.now c.args.task c.requires.is_task)) in
    c.window.ensures.window ∙ ap (λ kind. window_of kind c.spot_of.result c.args.response) access
    ∙ ap (λ spot. window_of (timing_at (system_of c.args.model.now) c.args.task).access spot c.args.response) c.spot_of.ensures
