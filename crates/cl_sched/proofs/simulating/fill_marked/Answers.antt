use Rattle.std.proofs.Common.{◌≡◌, ◌∙◌, ap, sym, subst, length, arith}
use Rattle.std.proofs.lemmas.List.{length-replicate}
use Rattle.cl_runs.specs.{declared.job.JobTable.JobTable, SystemOf.system_of}
use Rattle.cl_runs.proofs.ModelSystem.{cores_are, system_sound}
use Rattle.cl_run_data.specs.Parts.{IsLawfulOn}
use Rattle.cl_sched.specs.{CoreTables.HaveTimes, CoreProgress.IsLawfulAt}
use Rattle.cl_sched.proofs.{LawfulTables.lawful_at_among, FilledCores.legal_on_cores}
use Rattle.cl_sched.proofs.simulating.fill_marked.Goals as goal

pub fill_if-requires-clause-sound : goal.fill_if-requires-clause-sound
fill_if-requires-clause-sound c = system_sound c.args.model.now c.cores-core-end.ensures.valid

pub fill_if-requires-clause-lawful : goal.fill_if-requires-clause-lawful
fill_if-requires-clause-lawful c = λ fills.
    let system = system_of c.args.model.now in
    subst (λ (t : JobTable). IsLawfulAt system c.loop-core.core t) (sym c.loop-core.invariant.table)
    (lawful_at_among system c.args.cores.now c.loop-core.core c.args.run.now.table c.requires.lawful (sym c.is_marked-fills.ensures ∙ fills))

pub returns-clause-legal : goal.returns-clause-legal
returns-clause-legal c =
    let model = c.args.model.now in
    let below = c.loop-core.invariant in
    let all : c.cores-core-end.result ≡ length model.cores = c.cores-core-end.ensures.count in
    legal_on_cores (system_of model) c.args.cores.now c.loop-core.run
    (subst (λ (t : JobTable). IsLawfulOn (system_of model) c.args.cores.now t) (sym below.table) c.requires.lawful)
    (subst (λ (t : JobTable). HaveTimes (system_of model) t) (sym below.table) c.requires.times)
    (below.as_many ∙ ap length c.requires.empty ∙ length-replicate (length model.cores) _ ∙ sym (cores_are model))
    (λ core on. below.filled core (omega (arith, on, all, cores_are model, c.loop-core-test.false)))
