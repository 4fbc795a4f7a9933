use Rattle.cl_exact.proofs.{WholeScan.{first_some, scan_early, some_count}, StartUps.steady_late, FrontParts.greatest_steady}
use Rattle.cl_exact.proofs.fronts.reaction_alone.Goals as goal

pub greatest_reaction-requires-clause-some : goal.greatest_reaction-requires-clause-some
greatest_reaction-requires-clause-some c =
    let steady = c.first_steady_job.ensures in
    first_some c.args.beats.now c.requires.beats c.args.hyperperiod c.requires.hyperperiod c.requires.few c.first_steady_job.result steady.0 steady.1 steady.2

pub greatest_reaction-requires-clause-early : goal.greatest_reaction-requires-clause-early
greatest_reaction-requires-clause-early c =
    let steady = c.first_steady_job.ensures in
    scan_early c.args.beats.now c.requires.beats c.args.hyperperiod c.requires.hyperperiod c.requires.few c.first_steady_job.result steady.0 steady.1 steady.2

pub returns : goal.returns
returns c =
    let beats = c.args.beats.now in
    let steady = c.first_steady_job.ensures in
    let some = some_count beats c.requires.beats c.args.hyperperiod c.requires.hyperperiod c.requires.few c.first_steady_job.result steady.0 steady.1 steady.2 in
    let scan = c.greatest_reaction.ensures in
    greatest_steady beats c.requires.beats c.args.hyperperiod c.requires.hyperperiod.multiple c.requires.hyperperiod.some
    c.first_steady_job.result c.greatest_reaction.result.reaction c.greatest_reaction.result.job steady.0 steady.1
    (steady_late beats c.requires.beats c.first_steady_job.result steady.0 steady.2)
    scan.above_all scan.not_before (scan.attained some)
