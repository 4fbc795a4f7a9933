use Rattle.std.proofs.Common.{◌+◌, ◌/◌, arith}
use Rattle.std.proofs.lemmas.Bool.{MatchBool-at_false}
use Rattle.cl_tune.specs.Headroom.{Keeps}
use Rattle.cl_tune.proofs.KeptBelow.{kept_below}
use Rattle.cl_tune.proofs.room.greatest_kept.Goals as goal

pub loop-end-preserved : goal.loop-end-preserved
loop-end-preserved g c =
    let model = c.args.model.now in
    let is = c.loop-end.invariant in
    let middle = (c.loop-end.kept + c.loop-end.end) / 2 in
    let not_kept = MatchBool-at_false (Keeps model middle) (Keeps model middle → ⊥) c.if-branch.false c.in_ok-keeps.ensures in
    record {
      apart = omega (arith, c.loop-end-test.true);
      within = omega (arith, is.within, is.apart);
      keeps = is.keeps;
      fails = λ other from few keeps. not_kept (kept_below model c.requires middle other from keeps);
    }

pub returns : goal.returns
returns g c =
    let is = c.loop-end.invariant in
    record {
      some = omega (arith, c.if-kept-eq0.false);
      few = omega (arith, is.apart, is.within);
      kept = is.keeps (omega (arith, c.if-kept-eq0.false));
      greatest = λ other above few keeps. is.fails other (omega (arith, above, c.loop-end-test.false)) few keeps;
    }
