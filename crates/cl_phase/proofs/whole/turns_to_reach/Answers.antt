use Rattle.std.proofs.Common.{◌≡◌, ℤ, pos, ◌-ℤ◌, to_z, of_z, w64, arith}
use Rattle.std.proofs.lemmas.Int.{ints}
use Rattle.cl_phase.proofs.WholeWalks.{turns_reach, turns_none}
use Rattle.cl_phase.proofs.whole.turns_to_reach.Goals as goal

-- a number as code holds it
abbrev passed : ℤ → ℤ
passed z = to_z w64 (of_z w64 z)

pub returns-then-goal-moment : goal.returns-then-goal-moment
returns-then-goal-moment c = record {
  least = λ some short fits. turns_none c.args.moment c.args.goal _ c.args.turn
      (omega (arith, ints, c.if-goal-moment.true, c.ranges.moment, c.ranges.goal)) (omega (arith, ints));
}

pub returns : goal.returns
returns c = record {
  least = λ some short fits.
      let later : pos c.abs_diff-missing.result ≡ (c.args.goal -ℤ c.args.moment) =
      omega (arith, ints, c.abs_diff-missing.ensures, c.if-goal-moment.false, c.ranges.moment, c.ranges.goal) in
      turns_reach c.args.moment c.args.goal (passed c.signed_ticks.result) c.args.turn c.abs_diff-missing.result c.max.result c.div_ceil.result
      c.saturating_mul.result some short fits later c.max.ensures c.div_ceil.ensures c.saturating_mul.ensures
      (λ few. let is = c.signed_ticks.ensures few in omega (arith, ints, is, few));
}
