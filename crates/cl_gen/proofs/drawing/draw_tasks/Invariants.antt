use Rattle.std.proofs.Common.{◌≡◌, ◌*◌, ◌^◌, ◌≤◌, ◌++◌, drop}
use Rattle.cl_runs.specs.SystemOf.{system_of}
use Rattle.cl_gen.specs.{Words.word_of, Drawn.drawn_tasks}
use Rattle.cl_gen.proofs.drawing.draw_tasks.Given as goal

-- the jobs of the tasks so far and those of the rest are those of all, and few words are taken
abbrev pub invariant-loop-task : goal.invariant-loop-task
invariant-loop-task l = record {
  rest : l.jobs ++ drawn_tasks (word_of l.fn.draws.seed) l.ticks l.draws.words (drop l.task (system_of l.model).tasks)
      ≡ drawn_tasks (word_of l.fn.draws.seed) l.ticks 0 (system_of l.model).tasks;
  seed : l.draws.seed ≡ l.fn.draws.seed;
  few : l.draws.words ≤ l.task * 2 ^ 40;
}
