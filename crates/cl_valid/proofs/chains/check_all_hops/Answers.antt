use Rattle.cl_model.specs.declared.place.Part.TheVariants as part
use Rattle.cl_model.specs.declared.place.Key.TheVariants as key
use Rattle.cl_model.specs.Place.{entry_of, at_key}
use Rattle.cl_valid.proofs.ChainsByTable.{hops_by_number}
use Rattle.cl_valid.proofs.chains.check_all_hops.Goals as goal

pub returns : goal.returns
returns c runnables are =
    rw (← hops_by_number runnables c.args.uses.now c.args.chain.now c.args.numbers.now (at_key key.Labels (entry_of part.Chain c.args.i)) are)
    (rw (c.at_key-place.ensures, c.entry_of.ensures, c.as_slice.ensures) at c.check_hops.ensures)
