use Rattle.std.proofs.Common.{◌≡◌, not, sym, ap, ◌∙◌, arith}
use Rattle.cl_model.specs.{declared.task.TaskDef.TaskDef, ByNumber.task_at, Kinds.is_timed}
use Rattle.cl_incr.proofs.SameQuestions.{saves_not_across, saves_not_upward, saves_not_timed, saves_where_untimed}
use Rattle.cl_incr.proofs.comparing.saves.Goals as goal

pub returns-then-core_of : goal.returns-then-core_of
returns-then-core_of c =
    sym (saves_not_across c.args.model.now c.args.writer c.args.reader c.requires.writer.known c.requires.reader.known
    (λ same. c.if-core_of.true (c.core_of.ensures.core ∙ same ∙ sym c.core_of-2.ensures.core)))

pub returns-then-from-to : goal.returns-then-from-to
returns-then-from-to c =
    sym (saves_not_upward c.args.model.now c.args.writer c.args.reader c.requires.writer.known c.requires.reader.known
    (omega (arith, c.if-from-to.true, ap (λ (t : TaskDef). t.priority) c.task-from.ensures.task, ap (λ (t : TaskDef). t.priority) c.task-to.ensures.task)))

pub returns-then-not-is_timed : goal.returns-then-not-is_timed
returns-then-not-is_timed c =
    let from : c.task-from.result.now.access ≡ (task_at c.args.model.now c.args.writer.task).access = ap (λ (t : TaskDef). t.access) c.task-from.ensures.task in
    let to : c.task-to.result.now.access ≡ (task_at c.args.model.now c.args.reader.task).access = ap (λ (t : TaskDef). t.access) c.task-to.ensures.task in
    ap not (c.is_timed-then-not-is_timed.ensures ∙ ap is_timed to)
    ∙ sym (saves_where_untimed c.args.model.now c.args.writer c.args.reader c.requires.writer.known c.requires.reader.known
    (sym c.core_of.ensures.core ∙ c.if-core_of.false ∙ c.core_of-2.ensures.core)
    (omega (arith, c.if-from-to.false, ap (λ (t : TaskDef). t.priority) c.task-from.ensures.task, ap (λ (t : TaskDef). t.priority) c.task-to.ensures.task))
    (ap is_timed (sym from) ∙ sym c.is_timed.ensures ∙ c.if-not-is_timed.true))

pub returns-else-not-is_timed : goal.returns-else-not-is_timed
returns-else-not-is_timed c =
    let from : c.task-from.result.now.access ≡ (task_at c.args.model.now c.args.writer.task).access = ap (λ (t : TaskDef). t.access) c.task-from.ensures.task in
    ap not c.if-not-is_timed.false
    ∙ sym (saves_not_timed c.args.model.now c.args.writer c.args.reader c.requires.writer.known c.requires.reader.known
    (ap is_timed (sym from) ∙ sym c.is_timed.ensures ∙ c.if-not-is_timed.false))
