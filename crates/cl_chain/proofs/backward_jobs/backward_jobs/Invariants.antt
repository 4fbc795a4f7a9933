use Rattle.std.proofs.Common.{◌≡◌, ◌-◌, ◌<◌, length}
use Rattle.std.specs.Prelude.{slice_index}
use Rattle.cl_chain.specs.Inner.ChainsOver.{AreBackwardFrom}
use Rattle.cl_chain.proofs.backward_jobs.backward_jobs.Given as goal

abbrev pub invariant-loop-place : goal.invariant-loop-place
invariant-loop-place l = record {
  within : l.place < length l.groups;
  linked : AreBackwardFrom l.groups l.place l.jobs.items;
  last : slice_index l.jobs.items (length l.groups - 1) ≡ l.last;
  is_job : slice_index l.jobs.items l.place ≡ l.job;
}

abbrev pub decreases-loop-place : goal.decreases-loop-place
decreases-loop-place l = l.place
