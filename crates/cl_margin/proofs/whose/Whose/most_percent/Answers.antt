use Rattle.std.proofs.Common.{sym, subst, arith}
use Rattle.cl_model.specs.{declared.model.SystemModel.SystemModel, Ranges.IsInRange}
use Rattle.cl_margin.proofs.{GrownRange.range_stays, GrownValid.grown_same}
use Rattle.cl_margin.proofs.whose.Whose.most_percent.Goals as goal

pub loop-end-init : goal.loop-end-init
loop-end-init c =
    let model = c.args.model.now in
    let valid = c.plain-valid.ensures.valid in
    record {
      some = omega arith;
      apart = omega arith;
      few = omega arith;
      in_range = subst (λ (m : SystemModel). IsInRange m) (sym (grown_same model valid c.args.self)) valid.in_range;
      out = c.if-stays_within.ensures;
    }

pub returns : goal.returns
returns c =
    let is = c.loop-end.invariant in
    record {
      some = is.some;
      few = omega (arith, is.apart, is.few);
      in_range = is.in_range;
      greatest = λ other above few in_range.
          is.out (range_stays c.args.model.now c.plain-valid.ensures.valid.in_range c.args.self c.loop-end.end other (omega (arith, above, c.loop-end-test.false)) in_range);
    }
