use Rattle.cl_margin.proofs.StaysMet.{kept_below}
use Rattle.cl_margin.proofs.laws.smaller_percentages_keep_what_is_met.Goals as goal

pub returns : goal.returns
returns c = λ model valid whose is percent kept. kept_below model valid whose percent kept
