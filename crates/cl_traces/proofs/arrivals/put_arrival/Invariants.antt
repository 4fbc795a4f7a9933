use Rattle.std.proofs.Common.{◌≡◌, ◌++◌, drop}
use Rattle.cl_runs.specs.Pattern.{first_least, first_greatest}
use Rattle.cl_traces.specs.SaidOfRules.{arrival_text}
use Rattle.cl_traces.proofs.arrivals.put_arrival.Given as goal

-- what is said of the jobs that are left is what is said of all
abbrev pub invariant-loop-number : goal.invariant-loop-number
invariant-loop-number l = l.initial.text ++ arrival_text l.name l.kind l.ticks 0 (first_least l.kind) (first_greatest l.kind) l.jobs
    ≡ l.text ++ arrival_text l.name l.kind l.ticks l.number l.due.low l.due.high (drop l.number l.jobs)
