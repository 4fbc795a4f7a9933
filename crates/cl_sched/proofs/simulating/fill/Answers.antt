use Rattle.std.proofs.Common.{◌≡◌, ◌∙◌, ap, sym, subst, length, arith}
use Rattle.std.proofs.lemmas.List.{length-replicate}
use Rattle.cl_runs.specs.{declared.job.JobTable.JobTable, SystemOf.system_of, Table.IsLawful}
use Rattle.cl_runs.proofs.ModelSystem.{cores_are, system_sound}
use Rattle.cl_sched.specs.CoreProgress.{IsLawfulAt}
use Rattle.cl_sched.proofs.{LawfulTables.lawful_at, FullCores.legal_of_cores}
use Rattle.cl_sched.proofs.simulating.fill.Goals as goal

pub fill_core-requires-clause-sound : goal.fill_core-requires-clause-sound
fill_core-requires-clause-sound c = system_sound c.args.model.now c.cores-core-end.ensures.valid

pub fill_core-requires-clause-lawful : goal.fill_core-requires-clause-lawful
fill_core-requires-clause-lawful c =
    subst (λ (t : JobTable). IsLawfulAt (system_of c.args.model.now) c.loop-core.core t) (sym c.loop-core.invariant.table)
    (lawful_at (system_of c.args.model.now) c.loop-core.core c.args.run.now.table c.requires.lawful)

pub returns-clause-legal : goal.returns-clause-legal
returns-clause-legal c =
    let model = c.args.model.now in
    let below = c.loop-core.invariant in
    let all : c.cores-core-end.result ≡ length model.cores = c.cores-core-end.ensures.count in
    legal_of_cores (system_of model) c.loop-core.run
    (subst (λ (t : JobTable). IsLawful (system_of model) t) (sym below.table) c.requires.lawful)
    (below.cores ∙ ap length c.requires.empty ∙ length-replicate (length model.cores) _ ∙ sym (cores_are model))
    (λ core on. below.filled core (omega (arith, on, all, cores_are model, c.loop-core-test.false)))
