use Rattle.std.proofs.Common.{◌++◌, ap, ◌∙◌, arith, Option}
use Rattle.std.specs.Option.{option_to_list}
use Rattle.cl_draw.specs.{declared.spans.Span.Span, Marks.{is_wait, wait_of}}
use Rattle.cl_draw.proofs.Filtered.{kept_item, kept_all}
use Rattle.cl_draw.proofs.marks.waits_in.Goals as goal

pub loop-job-preserved : goal.loop-job-preserved
loop-job-preserved c = kept_item (is_wait c.args.window) (wait_of) c.args.jobs.now _ _ _ _ c.loop-job.job-index (omega arith) c.job-item.is c.loop-job.invariant (c.in_ok-keep.ensures ∙ ap (λ (o : Option Span). c.loop-job.found ++ option_to_list o) c.wait_in.ensures)

pub returns : goal.returns
returns c = kept_all (is_wait c.args.window) (wait_of) c.args.jobs.now _ c.loop-job.job-index (omega arith) c.loop-job.invariant
