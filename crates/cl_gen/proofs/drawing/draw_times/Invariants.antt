use Rattle.std.proofs.Common.{◌≡◌, ◌+◌, ◌++◌, drop, map}
use Rattle.cl_runs.specs.SystemOf.{range_of}
use Rattle.cl_gen.specs.{Words.word_of, Drawn.drawn_times}
use Rattle.cl_gen.proofs.drawing.draw_times.Given as goal

-- the times so far and those of the rest are those of all, and each has taken a word
abbrev pub invariant-loop-runnable : goal.invariant-loop-runnable
invariant-loop-runnable l = record {
  rest : l.times ++ drawn_times (word_of l.fn.draws.seed) (l.fn.draws.words + l.runnable-index) (map range_of (drop l.runnable-index l.runnables))
      ≡ drawn_times (word_of l.fn.draws.seed) l.fn.draws.words (map range_of l.runnables);
  taken : l.draws ≡ record l.fn.draws { words = l.fn.draws.words + l.runnable-index };
}
