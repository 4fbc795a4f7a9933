-- Of each first broken rule of a run in form something is said.
use Rattle.std.proofs.Common.{ℕ, List, refl}
use Rattle.cl_model.specs.{declared.model.SystemModel.SystemModel, ByNumber.task_at, Validity.IsValid}
use Rattle.cl_runs.specs.{Run.{Run, entry_at, IsInForm}, SystemOf.system_of}
use Rattle.cl_runs.proofs.{Filling.legal_of_table, ModelSystem.system_sound}
use Rattle.cl_check.specs.{declared.run_fault.{Rule.{Rule, TheVariants.{Arrival, Release, Time, Missing, Schedule}}, RunFault.TheVariants.Illegal}, Legality.IsFirstBroken}
use Rattle.cl_traces.specs.SaidOfRules.{found_and_wanted, missing_text, entry_words, said_of_arrival, said_of_release, said_of_time, IsSaidOfRule}
use Rattle.cl_traces.proofs.BrokenPlaces.{broken_core}

module _ (model : SystemModel) (valid : IsValid model) (run : Run) (in_form : IsInForm (system_of model) run) where
  pub some_said : (rule : Rule) (place tick : ℕ) → IsFirstBroken (system_of model) run (Illegal rule place tick) → (said : List ℕ) × IsSaidOfRule model run rule place tick said
  some_said Arrival task tick broken = (said_of_arrival model run task, refl)
  some_said Release task tick broken = (said_of_release model run task, refl)
  some_said Time task tick broken = (said_of_time model run task, refl)
  some_said Missing task tick broken = (missing_text (task_at model task).name tick, refl)
  some_said Schedule core tick broken =
      let legal = legal_of_table (system_of model) (system_sound model valid) run.table (broken_core model run core tick in_form broken).lawful in (
        found_and_wanted (entry_words model (entry_at run core tick)) (entry_words model (entry_at legal.0 core tick)),
        record { legal = legal.0; is_legal = legal.2; same_table = legal.1; text_is = refl },
      )
