use Rattle.cl_tight.proofs.TightTimings.{tight_found, tight_of_model}
use Rattle.cl_tight.proofs.access_windows.AccessWindows.timing.Goals as goal

pub timing_within-requires-clause-response : goal.timing_within-requires-clause-response
timing_within-requires-clause-response c =
    tight_found c.args.model.now c.args.settled.now c.args.group.task c.index-as_slice-group.result c.response_in-response.result
    c.requires.group.known c.requires.answers (rw c.as_slice.ensures at c.index-as_slice-group.is) c.response_in-response.ensures

pub timing_within-requires-clause-settled : goal.timing_within-requires-clause-settled
timing_within-requires-clause-settled c =
    tight_of_model c.args.model.now c.args.settled.now c.args.group.task c.index-as_slice-group.result c.response_in-response.result
    c.requires.group.known c.requires.answers c.requires.not_late (rw c.as_slice.ensures at c.index-as_slice-group.is) c.response_in-response.ensures
