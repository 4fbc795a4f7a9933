use Rattle.std.proofs.Common.{◌≡◌, ◌≢◌, [], length, ap, arith}
use Rattle.std.specs.Prelude.{Err}
use Rattle.cl_edit.specs.{declared.version.Version.TheVariants.One, Inner.Left.said_in}
use Rattle.cl_edit.proofs.{FirstLists.said_at, CursorFacts.{none_left, taken_ended, taken_last, reads_first, says_none, last_says_none, last_says_nothing, nothing}, Unreads.kept_fault}
use Rattle.cl_edit.proofs.cursor.Cursor.next_ended.Goals as goal

pub returns-in_default-clause-next : goal.returns-in_default-clause-next
returns-in_default-clause-next c = none_left One c.args.self.now c.next_line.new.self c.in_default.ensures.line

pub returns-in_err-read_said-in-Some-default-clause-bad_line : goal.returns-in_err-read_said-in-Some-default-clause-bad_line
returns-in_err-read_said-in-Some-default-clause-bad_line c = λ line is.
    let before = c.args.self.now in
    let after = c.next_line.new.self in
    let are = taken_ended c.in-Some.number c.in-Some.line.now before after c.in-Some.ensures.line c.in-Some-default.field-0-0 c.in-Some-default.is-0 in
    let fault = kept_fault c.from_residual.result c.in_err-read_said-in-Some-default.field-0.0 line c.from_residual.ensures is in
    let bad = c.in_err-read_said-in-Some-default.ensures.bad_line line (ap Err fault) in
    says_none One (said_in One before) (said_in One after) c.in-Some.number c.in-Some.line.now line are bad.0 bad.1

pub returns-in_ok-read_said-in-Some-default-clause-next : goal.returns-in_ok-read_said-in-Some-default-clause-next
returns-in_ok-read_said-in-Some-default-clause-next c =
    let before = c.args.self.now in
    let after = c.next_line.new.self in
    let are = taken_ended c.in-Some.number c.in-Some.line.now before after c.in-Some.ensures.line c.in-Some-default.field-0-0 c.in-Some-default.is-0 in
    reads_first One (said_in One before) (said_in One after) (said_at c.in-Some.number c.in-Some.line.now) c.in_ok-read_said-in-Some-default.field-0
    are c.in_ok-read_said-in-Some-default.ensures.says

pub returns-in-None-empty-clause-next : goal.returns-in-None-empty-clause-next
returns-in-None-empty-clause-next c =
    let before = c.args.self.now in
    let after = c.next_line.new.self in
    let last = taken_last c.in-Some.number c.in-Some.line.now before after c.in-Some.ensures.line c.in-None-empty.is-0 in
    let none : length c.in-Some.line.now ≡ 0 = omega (arith, c.in-None-empty.len_below) in
    last_says_nothing (said_in One before) (said_in One after) c.in-Some.number c.in-Some.line.now last.0 (nothing c.in-Some.line.now none) last.1

pub returns-in-None-default-clause-bad_line : goal.returns-in-None-default-clause-bad_line
returns-in-None-default-clause-bad_line c = λ line is.
    let before = c.args.self.now in
    let after = c.next_line.new.self in
    let last = taken_last c.in-Some.number c.in-Some.line.now before after c.in-Some.ensures.line c.in-None-default.is-0 in
    let some : c.in-Some.line.now ≢ [] = λ none. absurd (omega (arith, ap length none, c.in-None-default.len_at_least)) in
    let number : line ≡ c.in-Some.number = cc in
    last_says_none (said_in One before) c.in-Some.number c.in-Some.line.now line last.0 some number
