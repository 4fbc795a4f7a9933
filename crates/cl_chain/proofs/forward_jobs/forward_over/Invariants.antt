use Rattle.std.proofs.Common.{◌≡◌}
use Rattle.std.specs.Prelude.{slice_index}
use Rattle.cl_chain.specs.Inner.ChainsOver.{AreForwardJobs}
use Rattle.cl_chain.proofs.forward_jobs.forward_over.Given as goal

abbrev pub invariant-loop-place : goal.invariant-loop-place
invariant-loop-place l = record {
  linked : AreForwardJobs l.groups l.place l.jobs l.write;
  first : slice_index l.jobs 0 ≡ l.fn.first;
}
