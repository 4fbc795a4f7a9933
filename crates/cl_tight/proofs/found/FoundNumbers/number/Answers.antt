use Rattle.std.proofs.Common.{sym}
use Rattle.cl_tight.proofs.FoundNumbers.{number_kept, found_number_is}
use Rattle.cl_tight.proofs.found.FoundNumbers.number.Goals as goal

pub returns : goal.returns
returns c = λ number_of are.
    found_number_is number_of c.args.self.now are c.args.task c.args.place c.in_ok-at-2.field-0.now
    (number_kept c.args.self.now c.args.task c.args.place c.in_ok-at.field-0.now c.in_ok-at-2.field-0.now (sym c.in_ok-at.ensures) (sym c.in_ok-at-2.ensures))
