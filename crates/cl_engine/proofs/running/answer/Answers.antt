use Rattle.std.proofs.lemmas.Result.{IfOk-weaker}
use Rattle.cl_engine.proofs.Answered.{given_comes, given_fits, given_caused, given_steps, stopped_comes, stopped_caused, rest_left}
use Rattle.cl_engine.proofs.running.answer.Goals as goal

pub answer-requires-clause-fits : goal.answer-requires-clause-fits
answer-requires-clause-fits g c =
    given_fits g.C.Command.language _ _ _ c.requires.spelled _ c.files.ensures _ c.in_ok-given.ensures.opened _ c.in-Held.is

pub returns-in-Held-clause-comes : goal.returns-in-Held-clause-comes
returns-in-Held-clause-comes g c = IfOk-weaker c.answer.result _ _ (λ found is.
    given_comes g.C.Command.language _ _ _ c.requires.spelled _ c.files.ensures _ c.in_ok-given.ensures.opened _ c.in-Held.is found is) c.answer.ensures.outcome

pub returns-in-Held-clause-caused : goal.returns-in-Held-clause-caused
returns-in-Held-clause-caused g c = IfOk-weaker c.answer.result _ _ (λ found may.
    given_caused g.C.Command.language _ _ _ c.requires.spelled _ c.files.ensures _ c.in_ok-given.ensures.opened _ c.in-Held.is found may) c.answer.ensures.status

pub returns-in-Held-clause-leaves : goal.returns-in-Held-clause-leaves
returns-in-Held-clause-leaves g c =
    rest_left g.C.Command.language _ _ _ c.requires.spelled _ c.files.ensures c.in_ok-given.ensures.leaves _ _
    (given_steps g.C.Command.language _ _ _ c.requires.spelled _ c.files.ensures _ c.in_ok-given.ensures.opened _ c.in-Held.is _ _ c.answer.ensures.steps)

pub returns-in-Stopped-clause-comes : goal.returns-in-Stopped-clause-comes
returns-in-Stopped-clause-comes g c =
    stopped_comes g.C.Command.language _ _ _ c.requires.spelled _ c.files.ensures _ c.in_ok-given.ensures.opened _ c.in-Stopped.is

pub returns-in-Stopped-clause-caused : goal.returns-in-Stopped-clause-caused
returns-in-Stopped-clause-caused g c =
    stopped_caused g.C.Command.language _ _ _ c.requires.spelled _ c.files.ensures _ c.in_ok-given.ensures.opened _ c.in-Stopped.is
