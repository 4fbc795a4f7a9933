use Rattle.std.proofs.Common.{◌++◌, map, ap, ◌∙◌, arith, Option}
use Rattle.std.specs.Prelude.{filter}
use Rattle.std.specs.Option.{option_to_list}
use Rattle.std.specs.List.{range_with_len}
use Rattle.cl_draw.specs.{declared.marks.Arrival.Arrival, Marks.{is_seen, arrival_of}}
use Rattle.cl_draw.proofs.Filtered.{kept_number}
use Rattle.cl_draw.proofs.marks.arrivals_in.Goals as goal

pub loop-job-preserved : goal.loop-job-preserved
loop-job-preserved c = kept_number (is_seen c.args.window) (arrival_of c.args.jobs.now) _ _ c.loop-job.job c.loop-job.invariant (c.in_ok-keep.ensures ∙ ap (λ (o : Option Arrival). c.loop-job.found ++ option_to_list o) c.arrival_in.ensures)

pub returns : goal.returns
returns c = c.loop-job.invariant ∙ ap (λ n. filter (is_seen c.args.window) (map (arrival_of c.args.jobs.now) (range_with_len 0 n))) (omega (arith, c.loop-job-test.false, c.loop-job.auto.job-end))
