use Rattle.std.proofs.Common.{List, map, ap, ◌∙◌}
use Rattle.std.proofs.lemmas.Result.{on_ok_weaker}
use Rattle.cl_model.specs.declared.group.Group.{Group}
use Rattle.cl_runs.specs.SystemOf.{system_of}
use Rattle.cl_tight.specs.TightTimings.{tight_timing}
use Rattle.cl_verify.proofs.ByFindings.{tasks_of_findings}
use Rattle.cl_why.proofs.ReasonTexts.{jobs_of_groups, reason_of_bound}
use Rattle.cl_why.proofs.reasons.put_reason_of_bound.Goals as goal

pub see_chain-requires-clause-answers : goal.see_chain-requires-clause-answers
see_chain-requires-clause-answers c = tasks_of_findings c.args.model.now c.args.findings.now c.requires.findings

pub timings-requires-clause-answers : goal.timings-requires-clause-answers
timings-requires-clause-answers c = tasks_of_findings c.args.model.now c.args.findings.now c.requires.findings

pub put_groups-requires-clause-walk : goal.put_groups-requires-clause-walk
put_groups-requires-clause-walk c =
    jobs_of_groups c.args.model.now c.args.chain c.groups-groups.result.now c.in_ok-walk.walk c.groups-groups.ensures.groups
    c.in_ok-walk.ensures.kept c.in_ok-walk.ensures.missed c.in_ok-walk.ensures.taken

pub put_walk-requires-clause-walk : goal.put_walk-requires-clause-walk
put_walk-requires-clause-walk c =
    jobs_of_groups c.args.model.now c.args.chain c.groups-groups.result.now c.in_ok-walk.walk c.groups-groups.ensures.groups
    c.in_ok-walk.ensures.kept c.in_ok-walk.ensures.missed c.in_ok-walk.ensures.taken

pub returns-clause-text : goal.returns-clause-text
returns-clause-text c =
    let model = c.args.model.now in
    let chain = c.args.chain in
    let are = c.as_slice-timings.ensures.value ∙ c.in_ok-timings.ensures.timings
    ∙ ap (λ (list : List Group). map (tight_timing (system_of model)) list) c.groups-groups.ensures.groups in
    on_ok_weaker c.put_walk.result (λ last.
    reason_of_bound model chain c.args.kind c.args.bound c.in_ok-seen.seen c.in_ok-walk.walk c.groups-groups.result.now c.as_slice-timings.result.now
    c.args.text.now c.put_bound.new.text c.put_groups.new.text c.put_walk.new.text c.in_ok-seen.ensures.seen c.groups-groups.ensures.groups are
    c.in_ok-walk.ensures.walk c.in_ok-put_bound.ensures c.in_ok-put_groups.ensures last) c.put_walk.ensures
