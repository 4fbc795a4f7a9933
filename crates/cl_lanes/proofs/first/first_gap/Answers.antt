use Rattle.std.proofs.Common.{Some}
use Rattle.cl_lanes.proofs.FirstPlaces.{position_of}
use Rattle.cl_lanes.proofs.first.first_gap.Goals as goal

pub returns-in-Some-clause-first : goal.returns-in-Some-clause-first
returns-in-Some-clause-first c =
    position_of _ _ _ (Some c.in-Some.place) (record { as_many = c.requires.as_many; in_order = c.requires.in_order }) c.in-Some.ensures

pub returns-in-None-clause-first : goal.returns-in-None-clause-first
returns-in-None-clause-first c =
    position_of _ _ _ _ (record { as_many = c.requires.as_many; in_order = c.requires.in_order }) c.first_in_rest.ensures
