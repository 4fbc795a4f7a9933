use Rattle.cl_verify.proofs.KnownFacts.{none_is_known}
use Rattle.cl_verify.proofs.known_lengths.KnownLengths.new.Goals as goal

pub returns : goal.returns
returns c = none_is_known c.args.model.now c.loop.of_chains c.loop.invariant
