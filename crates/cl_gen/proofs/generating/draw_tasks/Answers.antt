use Rattle.std.proofs.Common.{◌+◌, ◌*◌, ap, ◌∙◌, arith}
use Rattle.cl_gen.specs.{Words.{Taken, word_of}, Generated.generated_task}
use Rattle.cl_gen.proofs.MappedRanges.{mapped_more}
use Rattle.cl_gen.proofs.generating.draw_tasks.Goals as goal

pub loop-number-preserved : goal.loop-number-preserved
loop-number-preserved c = record {
  tasks = mapped_more (generated_task (word_of c.args.draws.now.seed)) 0 c.loop-number.number c.loop-number.number _ _ _ (omega arith)
      c.loop-number.invariant.tasks
      (c.in_ok-draw_task.ensures.task
      ∙ ap (λ (t : Taken). generated_task (word_of t.seed) c.loop-number.number) c.loop-number.invariant.taken)
      c.in_ok-push.ensures.ok;
  taken = c.in_ok-draw_task.ensures.taken
      ∙ ap (λ (t : Taken). record t { words = 6 * c.loop-number.number + 6 }) c.loop-number.invariant.taken
      ∙ ap (λ n. record c.args.draws.now { words = n }) (omega arith);
}
