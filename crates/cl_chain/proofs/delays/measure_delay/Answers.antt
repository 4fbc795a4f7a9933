use Rattle.cl_model.specs.Groups.{groups_at}
use Rattle.cl_runs.specs.SystemOf.{system_of}
use Rattle.cl_run_data.proofs.ShownTasks.{legal_shows_groups}
use Rattle.cl_chain.proofs.delays.measure_delay.Goals as goal

pub returns-clause-legal : goal.returns-clause-legal
returns-clause-legal c = λ legal. c.measure_delay_apart.ensures.shown (legal_shows_groups (system_of c.args.model.now) (groups_at c.args.model.now c.args.chain) c.args.run.now legal)
