use Rattle.std.proofs.Common.{◌≡◌, ◌*◌, map}
use Rattle.std.specs.List.{range_with_len}
use Rattle.cl_gen.specs.{Words.word_of, Generated.generated_task}
use Rattle.cl_gen.proofs.generating.draw_tasks.Given as goal

abbrev pub invariant-loop-number : goal.invariant-loop-number
invariant-loop-number l = record {
  tasks : l.tasks ≡ map (generated_task (word_of l.fn.draws.seed)) (range_with_len 0 l.number);
  taken : l.draws ≡ record l.fn.draws { words = 6 * l.number };
}
