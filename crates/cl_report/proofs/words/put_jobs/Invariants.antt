use Rattle.std.proofs.Common.{◌≡◌, ◌++◌}
use Rattle.std.specs.List.{flat_map, range_with_len}
use Rattle.cl_report.specs.Report.{job_words}
use Rattle.cl_report.proofs.words.put_jobs.Given as goal

abbrev pub invariant-loop-place : goal.invariant-loop-place
invariant-loop-place l = l.text ≡ l.initial.text ++ flat_map (job_words l.model l.chain l.jobs) (range_with_len 0 l.place)
