use Rattle.std.proofs.Common.{List, subst, ◌∙◌}
use Rattle.cl_hop.specs.{declared.group_timing.GroupTiming.GroupTiming, Bounds.AreBoundsOf}
use Rattle.cl_analyse.proofs.SafeFindings.{bounds_found, answer_of_chain}
use Rattle.cl_explain.proofs.AddedUp.{groups_sum}
use Rattle.cl_explain.proofs.laws.groups_add_up_to_bounds.Goals as goal

pub returns : goal.returns
returns c = λ model valid chain bounds h is first later are.
    groups_sum first later bounds (subst (λ (timings : List GroupTiming). AreBoundsOf timings bounds) are (bounds_found model valid chain bounds h (answer_of_chain model chain h ∙ is)))
