use Rattle.std.proofs.Common.{List, ◌++◌, ap, ◌∙◌}
use Rattle.cl_model.specs.{declared.stimulus.StimulusKind.StimulusKind, ByNumber.stimulus_of}
use Rattle.cl_runs.specs.{declared.job.{Job.Job, JobTable.JobTable}, Table.table_jobs}
use Rattle.cl_traces.specs.SaidOfRules.{release_text}
use Rattle.cl_traces.proofs.broken.put_release_of.Goals as goal

pub returns : goal.returns
returns c =
    let old = c.args.text.now in
    let kind = stimulus_of c.args.model.now c.args.task in
    c.in_ok-put_release.ensures
    ∙ ap (λ (kind : StimulusKind). old ++ release_text kind c.jobs_of.result.now) c.stimulus_of.ensures
    ∙ ap (λ (jobs : List Job). old ++ release_text kind jobs) c.jobs_of.ensures
    ∙ ap (λ (t : JobTable). old ++ release_text kind (table_jobs t c.args.task)) c.table.ensures
