use Rattle.cl_runs.specs.SystemOf.{system_of}
use Rattle.cl_runs.proofs.ModelSystem.{system_sound}
use Rattle.cl_check.proofs.BrokenRules.{ok_legal, err_first, err_illegal, ok_continues}
use Rattle.cl_check.proofs.checking.check_run.Goals as goal

pub returns-clause-legal : goal.returns-clause-legal
returns-clause-legal c = ok_legal (system_of c.args.model.now) c.args.run.now c.requires c.check_rules.result c.check_rules.ensures.rules

pub returns-clause-first : goal.returns-clause-first
returns-clause-first c = err_first (system_of c.args.model.now) c.args.run.now c.requires c.check_rules.result c.check_rules.ensures.rules

pub returns-clause-illegal : goal.returns-clause-illegal
returns-clause-illegal c = err_illegal (system_of c.args.model.now) c.args.run.now c.requires c.check_rules.result c.check_rules.ensures.rules

pub returns-clause-continuation : goal.returns-clause-continuation
returns-clause-continuation c = ok_continues (system_of c.args.model.now) c.args.run.now c.requires
    (system_sound c.args.model.now c.check_rules.ensures.valid) c.check_rules.result c.check_rules.ensures.rules
