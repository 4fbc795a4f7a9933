use Rattle.std.proofs.Common.{◌≡◌, length, map, drop}
use Rattle.cl_runs.specs.SystemOf.{range_of}
use Rattle.cl_check.specs.Legality.{are_in_range}
use Rattle.cl_check.proofs.table_check.are_in_range.Given as goal

-- the answer for what is left is the answer for all
abbrev pub invariant-loop-place : goal.invariant-loop-place
invariant-loop-place l = record {
  as_many : length l.runnables ≡ length l.times;
  left : are_in_range (map range_of l.runnables) l.times ≡ are_in_range (drop l.place (map range_of l.runnables)) (drop l.place l.times);
}
