use Rattle.std.proofs.Common.{◌≡◌, ℕ, ◌+◌, ◌-◌, Some, None, drop, ap, ◌∙◌, arith}
use Rattle.std.specs.Prelude.{option_map}
use Rattle.cl_text.proofs.LineLemmas.{first_of_rest, line_end_of_first, none_before, none_at_all}
use Rattle.cl_text.proofs.line.next_line.Goals as goal

pub returns-in_err-length-clause-place : goal.returns-in_err-length-clause-place
returns-in_err-length-clause-place c =
    let rest = drop c.args.from c.args.text.now in
    let first = first_of_rest c.args.text.now c.args.from None c.in_err-length.ensures in
    c.from_residual.ensures ∙ ap (option_map (λ (k : ℕ). c.args.from + k)) (line_end_of_first rest None first)

pub returns-in_err-length-clause-none : goal.returns-in_err-length-clause-none
returns-in_err-length-clause-none c =
    let rest = drop c.args.from c.args.text.now in
    let first = first_of_rest c.args.text.now c.args.from None c.in_err-length.ensures in
    rw c.from_residual.ensures (none_at_all rest first)

pub returns-clause-place : goal.returns-clause-place
returns-clause-place c =
    let rest = drop c.args.from c.args.text.now in
    let first = first_of_rest c.args.text.now c.args.from (Some c.in_ok-length.length) c.in_ok-length.ensures in
    ap (option_map (λ (k : ℕ). c.args.from + k)) (line_end_of_first rest (Some c.in_ok-length.length) first)

pub returns-clause-first : goal.returns-clause-first
returns-clause-first c =
    let rest = drop c.args.from c.args.text.now in
    let first = first_of_rest c.args.text.now c.args.from (Some c.in_ok-length.length) c.in_ok-length.ensures in
    let same : c.args.from + c.in_ok-length.length - c.args.from ≡ c.in_ok-length.length = omega arith in
    rw same (none_before rest c.in_ok-length.length first)
