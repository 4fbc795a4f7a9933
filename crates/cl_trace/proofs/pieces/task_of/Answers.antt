use Rattle.std.proofs.Common.{◌≡◌, ◌<◌, length, ap, sym, ◌∙◌, arith}
use Rattle.std.proofs.lemmas.Bool.Decides.{Decides-eqb}
use Rattle.std.proofs.lemmas.Slice.Eq.{slice_eq-Decides}
use Rattle.cl_model.specs.{declared.task.TaskDef.TaskDef, ByNumber.{task_at, task_named}}
use Rattle.cl_model.proofs.Links.{own_task}
use Rattle.cl_trace.proofs.pieces.task_of.Goals as goal

pub returns-then-eq-clause-found : goal.returns-then-eq-clause-found
returns-then-eq-clause-found c =
    let guess = c.at-guess.result in
    let within : guess < length c.args.model.now.tasks = omega (arith, c.if-guess-tasks.true, c.tasks.ensures.count) in
    let same : c.as_slice.result.now ≡ c.args.word.now = (slice_eq-Decides Decides-eqb _ _ _ c.eq.ensures).0 c.if-eq.true in
    let name : (task_at c.args.model.now guess).name ≡ c.args.word.now
    = ap (λ (task : TaskDef). task.name) (sym c.task.ensures.task) ∙ sym c.as_slice.ensures.bytes ∙ same in
    ap (task_named c.args.model.now) (sym name) ∙ own_task c.args.model.now c.requires guess within
