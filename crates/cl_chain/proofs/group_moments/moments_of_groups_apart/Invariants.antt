use Rattle.std.proofs.Common.{◌≡◌, ℕ, ◌<◌, length}
use Rattle.cl_model.specs.Groups.{groups_at, group_at}
use Rattle.cl_runs.specs.{SystemOf.system_of, Moments.{Reads, Writes}}
use Rattle.cl_chain.specs.Inner.GroupTables.{AreMomentsAt, reads_in, writes_in}
use Rattle.cl_chain.proofs.group_moments.moments_of_groups_apart.Given as goal

abbrev pub invariant-loop-place : goal.invariant-loop-place
invariant-loop-place l = record {
  one_a_group : length l.tables ≡ l.place;
  reads : (i : ℕ) → i < length l.tables
      → AreMomentsAt (λ job t. Reads (system_of l.model) l.run (group_at (groups_at l.model l.chain) i).task job (group_at (groups_at l.model l.chain) i).first t)
      (reads_in l.tables i);
  writes : (i : ℕ) → i < length l.tables
      → AreMomentsAt (λ job t. Writes (system_of l.model) l.run (group_at (groups_at l.model l.chain) i).task job (group_at (groups_at l.model l.chain) i).last t)
      (writes_in l.tables i);
}
