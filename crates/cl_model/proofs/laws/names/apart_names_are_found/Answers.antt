use Rattle.cl_model.proofs.NamePlaces.{one_place, names_found}
use Rattle.cl_model.proofs.laws.names.apart_names_are_found.Goals as goal

pub returns-clause-one_place : goal.returns-clause-one_place
returns-clause-one_place c = one_place

pub returns-clause-found : goal.returns-clause-found
returns-clause-found c = names_found
