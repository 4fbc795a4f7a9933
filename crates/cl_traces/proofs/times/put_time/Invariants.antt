use Rattle.std.proofs.Common.{◌≡◌, ◌++◌, drop}
use Rattle.cl_traces.specs.SaidOfRules.{time_text}
use Rattle.cl_traces.proofs.times.put_time.Given as goal

-- what is said of the jobs that are left is what is said of all
abbrev pub invariant-loop-job : goal.invariant-loop-job
invariant-loop-job l = l.initial.text ++ time_text l.runnables l.jobs ≡ l.text ++ time_text l.runnables (drop l.job-index l.jobs)
