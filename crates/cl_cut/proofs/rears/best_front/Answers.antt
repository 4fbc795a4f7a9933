use Rattle.std.proofs.Common.{◌≡◌, ◌-◌, ◌<◌, length, ap, subst, arith}
use Rattle.std.proofs.lemmas.List.{get_or_default}
use Rattle.cl_cut.specs.{declared.rears.Rear.Rear, Inner.Rears.no_rear}
use Rattle.cl_cut.proofs.{RearFacts.{IsBestFront, front_alone, front_taken, front_kept, front_best}, rears.best_front.Goals.{then-cost-best, else-cost-best}}
use Rattle.cl_cut.proofs.rears.best_front.Goals as goal

pub loop-size-init : goal.loop-size-init
loop-size-init c =
    let place : length c.args.rears.now < length c.args.values.now = omega (arith, c.requires.as_many) in
    record {
      within = omega arith;
      some = c.requires.values (length c.args.rears.now) place;
      fits = omega (arith, c.type_inv.values (length c.args.rears.now));
      best = front_alone c.args.rears.now c.args.values.now c.requires.as_many;
    }

pub overflow_sub-rears : goal.overflow_sub-rears
overflow_sub-rears c =
    let rears = c.args.rears.now in
    let place : length rears - 1 - c.loop-size.size < length rears = omega (arith, c.loop-size-test.true) in
    let same = get_or_default rears (length rears - 1 - c.loop-size.size) no_rear c.index-rears-last.result place in
    omega (arith, ap (λ (r : Rear). r.cost) same, c.requires.costs (length rears - 1 - c.loop-size.size) place)

pub loop-size-preserved : goal.loop-size-preserved
loop-size-preserved c =
    let rears = c.args.rears.now in
    let looked = c.loop-size.size in
    let lt : looked < length rears = omega (arith, c.loop-size-test.true) in
    let place : length rears - 1 - looked < length rears = omega (arith, lt) in
    let rest = ap (λ (r : Rear). r.cost) (get_or_default rears (length rears - 1 - looked) c.index-rears-last.result no_rear place) in
    let some = c.requires.values looked (omega (arith, lt, c.requires.as_many)) in
    elim c.if-cost-best.branch [
      | then-cost-best w ↦
          front_taken rears c.args.values.now c.requires.as_many looked c.loop-size.best c.if-cost-best.best c.loop-size.invariant lt
          _ _ rest some c.saturating_add-cost.ensures w.if-cost-best.true w.best-is
      | else-cost-best w ↦
          front_kept rears c.args.values.now c.requires.as_many looked c.loop-size.best c.if-cost-best.best c.loop-size.invariant lt
          _ _ rest some c.saturating_add-cost.ensures w.if-cost-best.false w.best-is
    ]

pub returns-clause-best : goal.returns-clause-best
returns-clause-best c =
    let end : c.loop-size.size ≡ length c.args.rears.now = omega (arith, c.loop-size-test.false, c.loop-size.auto.size-end) in
    front_best c.args.rears.now c.args.values.now c.requires.as_many c.loop-size.best.size c.loop-size.best.cost
    (subst (λ n. IsBestFront c.args.rears.now c.args.values.now n c.loop-size.best.size c.loop-size.best.cost) end c.loop-size.invariant.best)
