use Rattle.std.proofs.Common.{◌≡◌, subst}
use Rattle.cl_trace.specs.{Rules.IsBadTraceLine, Trace.item_text}
use Rattle.cl_trace.proofs.{BadCases.cases_of, BadLines.{no_title, no_ticks, read_up_to}, OneTrace.{behind_title, behind_ticks, title_stands, ticks_stand}}
use Rattle.cl_trace.proofs.reading.read_trace.Goals as goal

pub returns-in_default-clause-bad_line : goal.returns-in_default-clause-bad_line
unfolding item_text
returns-in_default-clause-bad_line c = λ line is.
    let same : 1 ≡ line = cc in
    subst (IsBadTraceLine c.args.model.now c.args.text.now) same
    (cases_of c.args.model.now c.args.text.now 1 (no_title c.args.model.now c.args.text.now c.in_default.ensures.none))

pub returns-in_default-clause-only : goal.returns-in_default-clause-only
unfolding item_text
returns-in_default-clause-only c = λ run trace.
    absurd (c.in_default.ensures.none (behind_title c.args.model.now run) (title_stands c.args.model.now c.args.text.now run trace))

pub returns-in_default-ticks_after-clause-bad_line : goal.returns-in_default-ticks_after-clause-bad_line
unfolding item_text
returns-in_default-ticks_after-clause-bad_line c = λ line is.
    let same : 2 ≡ line = cc in
    subst (IsBadTraceLine c.args.model.now c.args.text.now) same
    (cases_of c.args.model.now c.args.text.now 2
    (no_ticks c.args.model.now c.args.text.now c.in-Some.behind_title.now c.in-Some.ensures.some c.in_default-ticks_after.ensures.none))

pub returns-in_default-ticks_after-clause-only : goal.returns-in_default-ticks_after-clause-only
unfolding item_text
returns-in_default-ticks_after-clause-only c = λ run trace.
    absurd (c.in_default-ticks_after.ensures.none run.table.ticks (behind_ticks c.args.model.now run) trace.within.ticks
    (ticks_stand c.args.model.now c.args.text.now c.in-Some.behind_title.now run trace c.in-Some.ensures.some))

pub ended-requires-clause-body : goal.ended-requires-clause-body
unfolding item_text
ended-requires-clause-body c =
    read_up_to c.args.model.now c.args.text.now c.in-Some.behind_title.now c.in-Some-ticks_after.behind_ticks.now c.in-Some-ticks_after.ticks c.in-Ok.run' c.in-Ok.left.now
    c.in-Some-ticks_after.ensures.some.1 c.in-Some.ensures.some c.in-Some-ticks_after.ensures.some.0 c.in-Ok.ensures.body
