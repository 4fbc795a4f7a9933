use Rattle.cl_runs.specs.SystemOf.{system_of}
use Rattle.cl_runs.proofs.ModelSystem.{system_sound}
use Rattle.cl_hop.proofs.ModelGroups.{group_of_system}
use Rattle.cl_tight.proofs.PhasedTimings.{stays_by_phase, stays_by_report}
use Rattle.cl_tight.proofs.laws.timings.timings_by_phases_stay_within.Goals as goal

pub returns-clause-response : goal.returns-clause-response
returns-clause-response c = λ model valid group is. stays_by_phase (system_of model) (system_sound model valid) group (group_of_system model group is)

pub returns-clause-report : goal.returns-clause-report
returns-clause-report c = λ model valid group is. stays_by_report (system_of model) (system_sound model valid) group (group_of_system model group is)
