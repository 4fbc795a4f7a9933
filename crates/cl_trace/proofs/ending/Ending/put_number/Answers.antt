use Rattle.std.proofs.Common.{rules, ◌≤◌, length, decimal, drop, ap, arith, length-append}
use Rattle.std.proofs.lemmas.Fmt.{length-decimal-le}
use Rattle.std.proofs.lemmas.List.{length-drop}
use Rattle.cl_trace.proofs.ending.Ending.put_number.Goals as goal

pub write_digits-self-inside-requires : goal.write_digits-self-inside-requires
write_digits-self-inside-requires c =
    let short : length (decimal c.args.number) ≤ 20 = length-decimal-le 20 c.args.number (omega arith) (omega (arith, c.ranges.number.fits)) c.ranges.number.fits in
    let left = length-drop c.self.inside.start c.self.inside.bytes in
    (omega (arith, short, left, ap length c.self.view_is, c.requires, c.self.invariant), search rules)

pub returns-clause-short : goal.returns-clause-short
returns-clause-short c = omega (
  arith,
  ap length c.write_digits-self-inside.ensures.written,
  length-append (decimal c.args.number) (drop c.self.inside.start c.self.inside.bytes),
  ap length c.self.view_is,
  length-decimal-le 20 c.args.number (omega arith) (omega (arith, c.ranges.number.fits)) c.ranges.number.fits,
)
