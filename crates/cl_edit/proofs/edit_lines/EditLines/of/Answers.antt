use Rattle.std.proofs.Common.{◌≡◌, [], ap}
use Rattle.std.specs.Prelude.{Err}
use Rattle.cl_edit.specs.Inner.Left.{said_left}
use Rattle.cl_edit.proofs.{ReadLines.{one_read, stuck_read, full_read, all_read, all_left, none_next}, Unreads.kept_fault}
use Rattle.cl_edit.proofs.edit_lines.EditLines.of.Goals as goal

pub returns-in_err-listed-clause-bad_line : goal.returns-in_err-listed-clause-bad_line
returns-in_err-listed-clause-bad_line c = λ line is.
    let fault = kept_fault c.from_residual-in_err-listed.result c.in_err-listed.field-0.0 line c.from_residual-in_err-listed.ensures is in
    stuck_read c.args.text.now c.in_ok-left.left c.loop-listed.lines c.loop-listed.counted c.loop-listed.invariant.read line (c.in_err-listed.ensures.bad_line line (ap Err fault))

pub returns-in_err-counted-clause-bad_line : goal.returns-in_err-counted-clause-bad_line
returns-in_err-counted-clause-bad_line c = λ line is.
    let fault = kept_fault c.from_residual-in_err-counted.result c.in_err-counted.field-0.0 line c.from_residual-in_err-counted.ensures is in
    full_read c.args.text.now c.in_ok-left.left c.loop-listed.lines c.loop-listed.counted c.loop-listed.invariant.read c.next.new.self
    c.in_ok-listed.field-0 c.in-Some.listed c.in-Some.is c.in_ok-listed.ensures.next c.in_err-counted.field-0.0 line c.in_err-counted.ensures fault

pub loop-listed-preserved-in_ok-counted : goal.loop-listed-preserved-in_ok-counted
loop-listed-preserved-in_ok-counted c = record {
  read = one_read c.args.text.now c.in_ok-left.left c.loop-listed.lines c.loop-listed.counted c.loop-listed.invariant.read c.next.new.self
      c.in_ok-listed.field-0 c.in-Some.listed c.in-Some.is c.in_ok-listed.ensures.next c.in_ok-counted.counted c.in_ok-listed.ensures.version c.in_ok-counted.ensures;
  numbers = c.in_ok-listed.ensures.numbers;
}

pub loop-listed-preserved-in_ok-counted-2 : goal.loop-listed-preserved-in_ok-counted-2
loop-listed-preserved-in_ok-counted-2 c = record {
  read = one_read c.args.text.now c.in_ok-left.left c.loop-listed.lines c.loop-listed.counted c.loop-listed.invariant.read c.next.new.self
      c.in_ok-listed.field-0 c.in-Some.listed c.in-Some.is c.in_ok-listed.ensures.next c.in_ok-counted.counted c.in_ok-listed.ensures.version c.in_ok-counted.ensures;
  numbers = c.in_ok-listed.ensures.numbers;
}

pub loop-listed-preserved-in_ok-counted-3 : goal.loop-listed-preserved-in_ok-counted-3
loop-listed-preserved-in_ok-counted-3 c = record {
  read = one_read c.args.text.now c.in_ok-left.left c.loop-listed.lines c.loop-listed.counted c.loop-listed.invariant.read c.next.new.self
      c.in_ok-listed.field-0 c.in-Some.listed c.in-Some.is c.in_ok-listed.ensures.next c.in_ok-counted.counted c.in_ok-listed.ensures.version c.in_ok-counted.ensures;
  numbers = c.in_ok-listed.ensures.numbers;
}

pub loop-listed-preserved : goal.loop-listed-preserved
loop-listed-preserved c = record {
  read = one_read c.args.text.now c.in_ok-left.left c.loop-listed.lines c.loop-listed.counted c.loop-listed.invariant.read c.next.new.self
      c.in_ok-listed.field-0 c.in-Some.listed c.in-Some.is c.in_ok-listed.ensures.next c.in_ok-counted.counted c.in_ok-listed.ensures.version c.in_ok-counted.ensures;
  numbers = c.in_ok-listed.ensures.numbers;
}

pub invariant_of-result : goal.invariant_of-result
invariant_of-result c =
    let lines = c.loop-listed.lines in
    let none : said_left lines ≡ [] = none_next lines.version c.in_ok-listed.field-0 (said_left lines) (said_left c.next.new.self) c.in_default.is c.in_ok-listed.ensures.next in
    all_left c.args.text.now c.in_ok-left.left lines c.loop-listed.counted c.loop-listed.invariant.read none

pub returns-clause-lines : goal.returns-clause-lines
returns-clause-lines c =
    let lines = c.loop-listed.lines in
    let none : said_left lines ≡ [] = none_next lines.version c.in_ok-listed.field-0 (said_left lines) (said_left c.next.new.self) c.in_default.is c.in_ok-listed.ensures.next in
    all_read c.args.text.now c.in_ok-left.left lines c.loop-listed.counted c.loop-listed.invariant.read none
