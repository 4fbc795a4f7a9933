use Rattle.std.proofs.Common.{[]}
use Rattle.std.proofs.lemmas.Result.{err_from_is_err_and}
use Rattle.cl_model.specs.{declared.refusal.Code.TheVariants.M39, Place.at_spot}
use Rattle.cl_valid.proofs.AddedNames.{none_added, one_added, one_refused, all_pass, all_added}
use Rattle.cl_valid.proofs.runnables.distinct_many.Goals as goal

pub loop-k-init : goal.loop-k-init
loop-k-init c = none_added M39 (λ k. at_spot k c.args.place) [] c.args.labels.now c.new-set.result c.new-set.ensures

pub loop-k-preserved : goal.loop-k-preserved
loop-k-preserved c =
    one_added M39 (λ k. at_spot k c.args.place) [] c.args.labels.now c.loop-k.k c.loop-k.set c.loop-k.invariant c.index-labels-k.result c.at_spot.result c.loop-k-test.true c.index-labels-k.is c.at_spot.ensures c.add_new.new.names
    c.in_ok-add_new.ensures.checked.0 c.in_ok-add_new.ensures.names

pub returns-in_err-add_new : goal.returns-in_err-add_new
returns-in_err-add_new c =
    let p = err_from_is_err_and c.from_residual.result c.from_residual.ensures.1 in rw (p.1, p.2)
    (one_refused M39 (λ k. at_spot k c.args.place) [] c.args.labels.now c.loop-k.k c.loop-k.set c.loop-k.invariant c.index-labels-k.result c.at_spot.result c.loop-k-test.true c.index-labels-k.is c.at_spot.ensures c.in_err-add_new.field-0.0
    c.in_err-add_new.ensures.checked)

pub returns : goal.returns
returns c = (all_pass M39 (λ k. at_spot k c.args.place) [] c.args.labels.now c.loop-k.k c.loop-k.set c.loop-k.invariant c.loop-k-test.false, all_added M39 (λ k. at_spot k c.args.place) [] c.args.labels.now c.loop-k.k c.loop-k.set c.loop-k.invariant c.loop-k-test.false)
