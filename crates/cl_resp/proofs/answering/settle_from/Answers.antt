use Rattle.std.proofs.Common.{sym, arith}
use Rattle.cl_resp.proofs.{Windows.window_is_least, BusyWindowTask.answers_for}
use Rattle.cl_resp.proofs.answering.settle_from.Goals as goal

pub overflow_add-result : goal.overflow_add-result
overflow_add-result c =
    let window = window_is_least c.args.question.now c.in-Some.window (sym c.in-Some.ensures) in
    omega (arith, window.within, c.requires.in_range.deadline, c.requires.in_range.released_before)

pub returns-in-Some-clause-finishing : goal.returns-in-Some-clause-finishing
returns-in-Some-clause-finishing c = answers_for c.args.question.now c.in-Some.window (sym c.in-Some.ensures)
