use Rattle.std.proofs.Common.{subst, sym, ap}
use Rattle.cl_resp.specs.Response.{Response, NoneServesBelow}
use Rattle.cl_resp.proofs.SearchesOfCores.{none_below_settled, none_below_late}
use Rattle.cl_resp.proofs.reached.width_reached.Goals as goal

pub returns-in-Ok : goal.returns-in-Ok
returns-in-Ok c =
    let answered = rw c.in-Ok.is at c.requires.response in
    subst (λ width. NoneServesBelow c.args.question.now width) (sym (ap (λ (r : Response). r.window) c.settled.view_is))
    (none_below_settled c.args.question.now c.requires.in_range.some_time c.in-Ok.settled answered)

pub returns-in-Err : goal.returns-in-Err
returns-in-Err c =
    let answered = rw c.in-Err.is at c.requires.response in
    none_below_late c.args.question.now c.requires.in_range.some_time answered
