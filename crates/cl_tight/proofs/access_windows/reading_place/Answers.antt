use Rattle.std.proofs.Common.{sym, ap, ◌∙◌}
use Rattle.cl_model.specs.declared.task.{TaskDef.TaskDef, AccessKind.TheVariants.{Implicit, Timed}}
use Rattle.cl_runs.specs.SystemOf.{system_of}
use Rattle.cl_tight.proofs.AccessTimes.{access_is, implicit_alike, timed_alike}
use Rattle.cl_tight.proofs.access_windows.reading_place.Goals as goal

pub returns-in-Implicit-clause-read : goal.returns-in-Implicit-clause-read
returns-in-Implicit-clause-read c =
    implicit_alike (system_of c.args.model.now) c.args.group.task 0 c.args.group.first
    (access_is c.args.model.now c.args.group c.requires.known Implicit (ap (λ (t : TaskDef). t.access) (sym c.task.ensures.task) ∙ c.in-Implicit.is))

pub returns-in-Timed-clause-read : goal.returns-in-Timed-clause-read
returns-in-Timed-clause-read c =
    timed_alike (system_of c.args.model.now) c.args.group.task 0 c.args.group.first
    (access_is c.args.model.now c.args.group c.requires.known Timed (ap (λ (t : TaskDef). t.access) (sym c.task.ensures.task) ∙ c.in-Timed.is))
