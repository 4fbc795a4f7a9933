-- A table that is lawful on all cores of a model is lawful.
use Rattle.std.proofs.Common.{◌≡◌, List, Bool, true, false, length, replicate, ap, ◌∙◌, arith}
use Rattle.std.proofs.lemmas.List.{get_or-replicate}
use Rattle.cl_model.specs.{declared.model.SystemModel.SystemModel, Validity.IsValid}
use Rattle.cl_runs.specs.{declared.job.JobTable.JobTable, SystemOf.system_of, Table.IsLawful}
use Rattle.cl_runs.proofs.ModelSystem.{cores_are, system_sound}
use Rattle.cl_run_data.specs.Parts.{is_among, IsLawfulOn}
use Rattle.cl_gen.proofs.WishedTables.{lawful_on_all}

pub lawful_of_all : (model : SystemModel) → IsValid model → (cores : List Bool) → cores ≡ replicate (length model.cores) true → (table : JobTable)
    → IsLawfulOn (system_of model) cores table → IsLawful (system_of model) table
lawful_of_all model valid cores all table lawful = lawful_on_all (system_of model) cores
    (λ core within. ap (λ (marked : List Bool). is_among marked core) all
    ∙ get_or-replicate (length model.cores) core true false (omega (arith, within, cores_are model)))
    (system_sound model valid) table lawful
