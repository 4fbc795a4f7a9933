use Rattle.std.proofs.Common.{subst, sym, ap, ◌∙◌, arith}
use Rattle.std.specs.Prelude.{Option, IfSome}
use Rattle.cl_runs.specs.SystemOf.{system_of}
use Rattle.cl_runs.proofs.ModelSystem.{count_is, system_sound}
use Rattle.cl_resp.specs.{declared.{question.Question.Question, reached.Reached.Reached}, Reached.HasReached, Response.NoneServesBelow}
use Rattle.cl_resp.proofs.Descending.{none_descends}
use Rattle.cl_resp.proofs.reached.start_of.Goals as goal

pub is_above-requires-clause-other : goal.is_above-requires-clause-other
is_above-requires-clause-other c =
    let reached : HasReached c.args.blocking (system_of c.args.model.now) c.in-Some.last =
    subst (λ (o : Option Reached). IfSome o (HasReached c.args.blocking (system_of c.args.model.now))) c.in-Some.is c.requires.last in
    omega (arith, reached.is_task, count_is c.args.model.now)

pub returns : goal.returns
returns c =
    let system = system_of c.args.model.now in
    let reached : HasReached c.args.blocking system c.in-Some.last = subst (λ (o : Option Reached). IfSome o (HasReached c.args.blocking system)) c.in-Some.is c.requires.last in
    subst (λ (q : Question). NoneServesBelow q c.in-Some.last.width) (sym c.requires.question)
    (none_descends system (system_sound c.args.model.now c.is_above.ensures.valid) c.args.task c.in-Some.last.task reached.is_task (sym c.is_above.ensures.above ∙ c.if-not-is_above.false)
    c.args.blocking
    (omega (arith, reached.block, c.if-longer.false, ap (λ (q : Question). q.block) c.requires.question, ap (λ (q : Question). q.time) c.requires.question))
    (omega (arith, c.requires.in_range.some_time, ap (λ (q : Question). q.time) c.requires.question))
    c.in-Some.last.width reached.none)
