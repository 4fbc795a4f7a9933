use Rattle.std.proofs.Common.{List, refl, subst}
use Rattle.std.proofs.lemmas.Result.{err_from_is_err_and}
use Rattle.cl_edit.specs.declared.edit.NamedPriority.{NamedPriority}
use Rattle.cl_edit.proofs.FoundPriorities.{ArePriorities, IsMissed, found_more, missed_here, all_found}
use Rattle.cl_edit.proofs.resolve.priorities.Goals as goal

pub loop-one-init : goal.loop-one-init
loop-one-init c = record { rest = refl; numbers = c.new-priorities.ensures }

-- a task that isn't there is refused
pub returns-in_err-it : goal.returns-in_err-it
returns-in_err-it c =
    let failed = err_from_is_err_and c.from_residual.result c.from_residual.ensures.1 in
    rw (failed.1, failed.2) (subst (λ (all : List NamedPriority). IsMissed c.args.model.now all c.in_err-it.field-0.0) c.as_slice-all.ensures
    (missed_here c.args.model.now c.as_slice-all.result.now c.loop-one.one-index c.loop-one.priorities c.loop-one.invariant c.one-item.result c.one-item.result c.loop-one-test.true c.one-item.is
    c.in_err-it.field-0.0 c.in_err-it.ensures))

pub loop-one-preserved : goal.loop-one-preserved
loop-one-preserved c =
    rw c.in_ok-push.ensures.ok (found_more c.args.model.now c.as_slice-all.result.now c.loop-one.one-index c.loop-one.priorities c.loop-one.invariant c.one-item.result c.one-item.result c.loop-one-test.true c.one-item.is
    c.in_ok-it.it c.in_ok-it.ensures.0 c.in_ok-it.ensures.1)

pub returns : goal.returns
returns c =
    subst (λ (all : List NamedPriority). ArePriorities c.args.model.now all c.loop-one.priorities) c.as_slice-all.ensures
    (all_found c.args.model.now c.as_slice-all.result.now c.loop-one.one-index c.loop-one.priorities c.loop-one.invariant c.loop-one-test.false)
