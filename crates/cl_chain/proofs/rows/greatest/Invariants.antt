use Rattle.std.proofs.Common.{ℕ, ◌+◌, ◌<◌, ◌≤◌}
use Rattle.std.specs.Prelude.{slice_index}
use Rattle.cl_chain.specs.Inner.Rows.{LastsLonger}
use Rattle.cl_chain.proofs.rows.greatest.Given as goal

abbrev pub invariant-loop-place : goal.invariant-loop-place
invariant-loop-place l = record {
  within : l.best < l.place;
  longest : (i : ℕ) → i < l.place
      → slice_index l.rows.ends i + slice_index l.rows.starts l.best ≤ slice_index l.rows.ends l.best + slice_index l.rows.starts i;
  first : (i : ℕ) → i < l.best → LastsLonger l.rows l.best i;
}
