use Rattle.cl_edit.specs.Edited.{edited}
use Rattle.cl_edit.proofs.EditedValid.{made_is}
use Rattle.cl_top.proofs.{EditSteps.{made_asked, unmade_asked}, PutByEdits.written_before}
use Rattle.cl_top.proofs.commands.edit.make_edit.Goals as goal

pub returns-in_err-apply-clause-steps : goal.returns-in_err-apply-clause-steps
returns-in_err-apply-clause-steps g c =
    unmade_asked c.args.edit.now c.args.session.now.model (edited c.args.session.now.model c.args.edit.now) c.args.steps.now c.apply.new.steps
    c.apply.ensures.steps c.apply.ensures.refused_steps

pub returns-in_err-put_written-clause-steps : goal.returns-in_err-put_written-clause-steps
returns-in_err-put_written-clause-steps g c =
    made_asked c.args.edit.now c.args.session.now.model c.apply.new.self.model (edited c.args.session.now.model c.args.edit.now) c.args.steps.now
    c.apply.new.steps c.put_written.new.steps c.in_ok-apply.ensures.model c.apply.ensures.steps c.put_written.ensures.steps

pub returns-clause-made : goal.returns-clause-made
returns-clause-made g c =
    let old = c.args.session.now.model in
    let new = c.apply.new.self.model in
    let made = c.in_ok-apply.ensures.model in
    let put = c.in_ok-put_written.ensures.written in
    record {
      made = made;
      written = put.0;
      writes = written_before old new c.args.edit.now (made_is old c.args.edit.now new made) put.0 put.1;
      put = put.2;
    }

pub returns-clause-steps : goal.returns-clause-steps
returns-clause-steps g c =
    made_asked c.args.edit.now c.args.session.now.model c.apply.new.self.model (edited c.args.session.now.model c.args.edit.now) c.args.steps.now
    c.apply.new.steps c.put_written.new.steps c.in_ok-apply.ensures.model c.apply.ensures.steps c.put_written.ensures.steps
