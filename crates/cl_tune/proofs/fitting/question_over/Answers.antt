use Rattle.std.proofs.Common.{◌≡◌, max, sym, ap, ◌∙◌}
use Rattle.cl_model.specs.{declared.stimulus.StimulusKind.StimulusKind, Timing.greatest_jitter}
use Rattle.cl_runs.specs.{SystemOf.system_of, TaskTiming.timing_at, ExecutionTimes.greatest_execution}
use Rattle.cl_resp.specs.Question.{longest_hold}
use Rattle.cl_tune.proofs.Timings.{pattern_is, deadline_is, time_is}
use Rattle.cl_tune.proofs.fitting.question_over.Goals as goal

pub returns : goal.returns
returns c =
    let model = c.args.model.now in
    let task = c.args.task in
    let time : c.time_of.result ≡ greatest_execution (timing_at (system_of model) task) = c.time_of.ensures ∙ sym (time_is model task c.requires) in
    let block : c.max.result ≡ max c.args.block (longest_hold (timing_at (system_of model) task)) = c.max.ensures ∙ ap (max c.args.block) c.longest_hold.ensures.hold in
    let jitter : c.jitter_of.result ≡ greatest_jitter (timing_at (system_of model) task).pattern =
    c.jitter_of.ensures ∙ ap (λ (k : StimulusKind). greatest_jitter k) (sym (pattern_is model task c.requires)) in
    let deadline : c.deadline_of.result ≡ (timing_at (system_of model) task).deadline = c.deadline_of.ensures ∙ sym (deadline_is model task c.requires) in
    cc
