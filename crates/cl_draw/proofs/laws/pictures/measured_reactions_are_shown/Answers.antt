use Rattle.cl_draw.specs.Reactions.{reaction_at}
use Rattle.cl_draw.proofs.OneRow.{shown_of_measured}
use Rattle.cl_draw.proofs.laws.pictures.measured_reactions_are_shown.Goals as goal

pub returns : goal.returns
returns c = λ model run from to text picture chain known measured is.
    shown_of_measured model run chain (reaction_at picture.reactions chain) (picture.are_reactions chain known) measured is
