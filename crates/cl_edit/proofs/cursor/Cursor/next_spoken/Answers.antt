use Rattle.std.proofs.Common.{◌≡◌, true, false, ap, sym, ◌∙◌}
use Rattle.std.specs.Prelude.{Err}
use Rattle.cl_edit.specs.{declared.version.Version.TheVariants.Two, Said.{plain, says}, Inner.Left.said_in}
use Rattle.cl_edit.proofs.{FirstLists.said_at, CursorFacts.{none_left, taken_spoken, taken_unspoken, reads_first, says_none}, Unreads.kept_fault}
use Rattle.cl_edit.proofs.cursor.Cursor.next_spoken.Goals as goal

pub returns-in_err-read_said-clause-bad_line : goal.returns-in_err-read_said-clause-bad_line
returns-in_err-read_said-clause-bad_line c = λ line is.
    let before = c.loop-number.self in
    let after = c.next_line.new.self in
    let form = c.as_slice-then-says.result.now in
    let own : form ≡ plain c.in-Some.line.now = c.as_slice-then-says.ensures.value ∙ c.in_ok-plain.ensures in
    let spoken : says form ≡ true = ap says (c.as_slice-then-says.ensures.value ∙ sym c.as_slice.ensures.value) ∙ sym c.says.ensures ∙ c.if-says.true in
    let are = c.loop-number.invariant.said ∙ taken_spoken c.in-Some.number c.in-Some.line.now before after c.in-Some.ensures.line form own spoken in
    let fault = kept_fault c.from_residual-in_err-read_said.result c.in_err-read_said.field-0.0 line c.from_residual-in_err-read_said.ensures is in
    let bad = c.in_err-read_said.ensures.bad_line line (ap Err fault) in
    says_none Two (said_in Two c.args.self.now) (said_in Two after) c.in-Some.number form line are bad.0 bad.1

pub returns-then-says-clause-next : goal.returns-then-says-clause-next
returns-then-says-clause-next c =
    let before = c.loop-number.self in
    let after = c.next_line.new.self in
    let form = c.as_slice-then-says.result.now in
    let own : form ≡ plain c.in-Some.line.now = c.as_slice-then-says.ensures.value ∙ c.in_ok-plain.ensures in
    let spoken : says form ≡ true = ap says (c.as_slice-then-says.ensures.value ∙ sym c.as_slice.ensures.value) ∙ sym c.says.ensures ∙ c.if-says.true in
    let are = c.loop-number.invariant.said ∙ taken_spoken c.in-Some.number c.in-Some.line.now before after c.in-Some.ensures.line form own spoken in
    reads_first Two (said_in Two c.args.self.now) (said_in Two after) (said_at c.in-Some.number form) c.in_ok-read_said.field-0 are c.in_ok-read_said.ensures.says

pub loop-number-preserved : goal.loop-number-preserved
loop-number-preserved c =
    let taken = c.in-Some.ensures.line in
    let form = c.as_slice.result.now in
    let own : form ≡ plain c.in-Some.line.now = c.as_slice.ensures.value ∙ c.in_ok-plain.ensures in
    let unspoken : says form ≡ false = sym c.says.ensures ∙ c.if-says.false in
    record {
      said = c.loop-number.invariant.said ∙ taken_unspoken c.in-Some.number c.in-Some.line.now c.loop-number.self c.next_line.new.self taken form own unspoken;
      version = taken.same ∙ c.loop-number.invariant.version;
      numbers = c.in-Some.ensures.numbers;
    }

pub returns-clause-next : goal.returns-clause-next
returns-clause-next c =
    let none = none_left Two c.loop-number.self c.next_line.new.self c.in_default.ensures.line in
    (c.loop-number.invariant.said ∙ none.0, none.1)
