use Rattle.std.proofs.Common.{subst}
use Rattle.cl_model.specs.declared.model.SystemModel.{SystemModel}
use Rattle.cl_edit.specs.Reading.{edits_of}
use Rattle.std.specs.Prelude.{IfOk}
use Rattle.cl_top.specs.{Commands.Edit.AreEditedTo, Steps.AskForChanges}
use Rattle.cl_top.proofs.EditSteps.{nothing_asked}
use Rattle.cl_top.proofs.commands.edit.write_edited.Goals as goal

pub returns-in_err-session-clause-steps : goal.returns-in_err-session-clause-steps
returns-in_err-session-clause-steps g c = record {
  started = c.start.new.steps;
  start = c.start.ensures.steps;
  ask = nothing_asked (edits_of c.args.lines) c.args.model c.start.new.steps;
}

pub returns-clause-steps : goal.returns-clause-steps
returns-clause-steps g c = record {
  started = c.start.new.steps;
  start = c.start.ensures.steps;
  ask = subst (λ (m : SystemModel). AskForChanges (edits_of c.args.lines) m c.start.new.steps c.write_lines-outcome.new.steps) c.in_ok-session.ensures.model c.write_lines-outcome.ensures.steps;
}

pub returns-clause-outcome : goal.returns-clause-outcome
returns-clause-outcome g c =
    subst (λ (m : SystemModel). IfOk c.write_lines-outcome.result (AreEditedTo m c.args.lines)) c.in_ok-session.ensures.model c.write_lines-outcome.ensures.outcome

pub write_lines-outcome-requires : goal.write_lines-outcome-requires
write_lines-outcome-requires g c = c.requires
