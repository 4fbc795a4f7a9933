use Rattle.std.proofs.Common.{refl, ap, ◌∙◌}
use Rattle.std.proofs.lemmas.List.{take_all}
use Rattle.std.proofs.lemmas.Result.{err_from_is_err_and}
use Rattle.cl_model.specs.{Named.{runnable_names, all_runnables}, ValidNames.runnable_repeats}
use Rattle.cl_model.proofs.{FirstRefusals.{all_checked, next_passes, next_refused}, RunnableNames.runnable_names_more}
use Rattle.cl_valid.proofs.AddedNames.{runnables_fit}
use Rattle.cl_valid.proofs.names.add_all_runnables.Goals as goal

pub loop-i-init : goal.loop-i-init
loop-i-init c = record { names = c.requires.empty; rest = refl }

pub add_runnables-requires-clause-count : goal.add_runnables-requires-clause-count
add_runnables-requires-clause-count c = rw c.as_slice.ensures (runnables_fit c.args.tasks.now c.requires.runnables c.loop-i.i c.index-tasks-i.result c.loop-i-test.true c.index-tasks-i.is)

pub loop-i-preserved : goal.loop-i-preserved
loop-i-preserved c = record {
  names =
      runnable_names_more c.args.tasks.now c.loop-i.i c.index-tasks-i.result c.as_slice.result.now c.loop-i.names c.add_runnables.new.names c.loop-i-test.true c.index-tasks-i.is c.as_slice.ensures c.loop-i.invariant.names c.in_ok-add_runnables.ensures.names;
  rest =
      next_passes (runnable_repeats c.args.tasks.now) c.args.tasks.now c.loop-i.i c.index-tasks-i.result c.loop-i-test.true c.index-tasks-i.is c.loop-i.invariant.rest (rw (c.loop-i.invariant.names, c.as_slice.ensures) at c.in_ok-add_runnables.ensures.checked.0);
}

pub returns-in_err-add_runnables-clause-checked : goal.returns-in_err-add_runnables-clause-checked
returns-in_err-add_runnables-clause-checked c =
    let p = err_from_is_err_and c.from_residual.result c.from_residual.ensures.1 in rw (p.1, p.2)
    (next_refused (runnable_repeats c.args.tasks.now) c.args.tasks.now c.loop-i.i c.index-tasks-i.result c.loop-i-test.true c.index-tasks-i.is c.in_err-add_runnables.field-0.0 c.loop-i.invariant.rest (rw (c.loop-i.invariant.names, c.as_slice.ensures) at c.in_err-add_runnables.ensures.checked))

pub returns-clause-checked : goal.returns-clause-checked
returns-clause-checked c = (all_checked (runnable_repeats c.args.tasks.now) c.args.tasks.now c.loop-i.i c.loop-i.invariant.rest c.loop-i-test.false, refl)

pub returns-clause-names : goal.returns-clause-names
returns-clause-names c = c.loop-i.invariant.names ∙ ap (λ tasks. runnable_names (all_runnables tasks)) (take_all c.loop-i.i c.args.tasks.now c.loop-i-test.false)
