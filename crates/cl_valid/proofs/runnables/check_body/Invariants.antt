use Rattle.std.proofs.Common.{◌≡◌, ◌++◌, take, drop}
use Rattle.cl_model.specs.{Named.labels_written, Refusals.each_from, ValidTasks.{body_check, body_checks}}
use Rattle.cl_valid.specs.Inner.Tables.{uses_of}
use Rattle.cl_valid.proofs.runnables.check_body.Given as goal

-- what the runnables so far read and write is kept, and what is refused of all is what is refused of the rest
abbrev pub invariant-loop-p : goal.invariant-loop-p
invariant-loop-p l = record {
  rest : body_checks l.known l.fn.uses.written l.place l.task ≡ each_from l.p (body_check l.known l.fn.uses.written l.place l.task) (drop l.p l.task.runnables);
  written : l.uses.written ≡ l.fn.uses.written ++ labels_written (take l.p l.runnables);
  each : l.uses.each ≡ l.fn.uses.each ++ uses_of (take l.p l.runnables);
}
