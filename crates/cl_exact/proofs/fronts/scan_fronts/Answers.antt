use Rattle.std.specs.Prelude.{slice_index}
use Rattle.cl_exact.proofs.FrontParts.{shared_scan, shared_some, shared_early}
use Rattle.cl_exact.proofs.fronts.scan_fronts.Goals as goal

pub greatest_of_fronts-requires-clause-some : goal.greatest_of_fronts-requires-clause-some
greatest_of_fronts-requires-clause-some c =
    let steady = c.first_steady_job.ensures in
    shared_some c.args.beats.now c.requires c.in-Some.front c.in-Some.ensures c.first_steady_job.result steady.0 steady.1 steady.2

pub greatest_of_fronts-requires-clause-early : goal.greatest_of_fronts-requires-clause-early
greatest_of_fronts-requires-clause-early c =
    let steady = c.first_steady_job.ensures in
    shared_early c.args.beats.now c.requires c.in-Some.front c.in-Some.ensures c.first_steady_job.result steady.0 steady.1 steady.2

pub returns-in-Some : goal.returns-in-Some
returns-in-Some c = λ place below within.
    let steady = c.first_steady_job.ensures in
    shared_scan c.args.beats.now c.requires c.in-Some.front c.in-Some.ensures c.first_steady_job.result steady.0 steady.1 steady.2
    place (slice_index c.greatest_of_fronts.result place) below (c.greatest_of_fronts.ensures place below)
