use Rattle.std.proofs.Common.{◌≡◌, ◌+◌, ◌-◌, length, map}
use Rattle.cl_runs.specs.SystemOf.{range_of}
use Rattle.cl_gen.specs.{Words.word_of, Drawn.{arrival_words, job_word}}
use Rattle.cl_gen.proofs.DrawnSoFar.{AreDrawnSoFar}
use Rattle.cl_gen.proofs.drawing.draw_jobs.Given as goal

-- the first jobs are drawn, and when the next one arrives
abbrev pub invariant-loop-arrival : goal.invariant-loop-arrival
invariant-loop-arrival l = record {
  drawn : AreDrawnSoFar (word_of l.fn.draws.seed) l.fn.draws.words l.pattern (map range_of l.runnables) l.ticks l.jobs l.arrival;
  taken : l.draws
      ≡ record l.fn.draws { words = job_word l.fn.draws.words l.pattern (map range_of l.runnables) (length l.jobs) + arrival_words l.pattern };
}

abbrev pub decreases-loop-arrival : goal.decreases-loop-arrival
decreases-loop-arrival l = l.ticks - l.arrival
