use Rattle.std.proofs.Common.{◌≡◌, ℕ, sym, ap, ◌∙◌, subst, arith}
use Rattle.std.specs.Prelude.{IfOk}
use Rattle.cl_model.specs.declared.task.{TaskDef.TaskDef, AccessKind.TheVariants.{Explicit, Implicit, Timed}}
use Rattle.cl_runs.proofs.ModelSystem.{range_count_is}
use Rattle.cl_tight.proofs.AccessTimes.{write_is}
use Rattle.cl_tight.proofs.access_windows.AccessWindows.write.Goals as goal

pub part-requires-clause-place : goal.part-requires-clause-place
part-requires-clause-place c = omega (arith, c.requires.group.within, range_count_is c.args.model.now c.args.group.task c.requires.group.known)

pub returns-in-Explicit-clause-write : goal.returns-in-Explicit-clause-write
returns-in-Explicit-clause-write c =
    let is = write_is c.args.model.now c.args.group c.requires.group.known Explicit (ap (λ (t : TaskDef). t.access) (sym c.task.ensures.task) ∙ c.in-Explicit.is) in
    subst (λ (latest : ℕ). IfOk c.part.result (λ write. write ≡ latest)) (sym is) c.part.ensures.part

pub returns-in-Implicit-clause-write : goal.returns-in-Implicit-clause-write
returns-in-Implicit-clause-write c =
    c.requires.response
    ∙ sym (write_is c.args.model.now c.args.group c.requires.group.known Implicit (ap (λ (t : TaskDef). t.access) (sym c.task.ensures.task) ∙ c.in-Implicit.is))

pub returns-in-Timed-clause-write : goal.returns-in-Timed-clause-write
returns-in-Timed-clause-write c =
    c.deadline_of.ensures
    ∙ sym (write_is c.args.model.now c.args.group c.requires.group.known Timed (ap (λ (t : TaskDef). t.access) (sym c.task.ensures.task) ∙ c.in-Timed.is))
