use Rattle.std.proofs.Common.{◌≡◌, ◌++◌, drop}
use Rattle.cl_traces.specs.SaidOfRules.{release_text}
use Rattle.cl_traces.proofs.releases.put_release.Given as goal

-- what is said of the jobs that are left is what is said of all
abbrev pub invariant-loop-job : goal.invariant-loop-job
invariant-loop-job l = l.initial.text ++ release_text l.kind l.jobs ≡ l.text ++ release_text l.kind (drop l.job-index l.jobs)
