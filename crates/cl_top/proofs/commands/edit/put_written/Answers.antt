use Rattle.std.proofs.Common.{◌+◌, ◌≤◌, ap, subst, arith}
use Rattle.std.specs.Prelude.{OnOk}
use Rattle.cl_model.specs.declared.model.SystemModel.{SystemModel}
use Rattle.cl_edit.specs.declared.edit.Edit.TheVariants.{Report, Tighten, Verify}
use Rattle.cl_report.specs.Report.{report_text}
use Rattle.cl_tighten.specs.Tight.{tight_text}
use Rattle.cl_top.specs.Steps.{written_steps}
use Rattle.cl_top.proofs.PutByEdits.{IsPutBy, put_by, put_verified_by, nothing_put, steps_by}
use Rattle.cl_top.proofs.commands.edit.put_written.Goals as goal

pub returns-in_default-clause-written : goal.returns-in_default-clause-written
returns-in_default-clause-written g c =
    nothing_put c.args.session.now.model c.args.edit.now c.args.text.now c.in_default.not-Report c.in_default.not-Tighten c.in_default.not-Verify

pub returns-in_default-clause-steps : goal.returns-in_default-clause-steps
returns-in_default-clause-steps g c = omega arith

pub returns-in-Report-clause-written : goal.returns-in-Report-clause-written
returns-in-Report-clause-written g c =
    put_by c.args.session.now.model c.args.edit.now Report c.in-Report.is c.put_report.result c.args.text.now c.put_report.new.text
    (report_text c.model.result.now c.findings.result.now)
    (record { findings = c.findings.result.now; found = c.findings.ensures.found; printed = ap (λ (m : SystemModel). report_text m c.findings.result.now) c.model.ensures })
    c.put_report.ensures.ok

pub returns-in-Report-clause-steps : goal.returns-in-Report-clause-steps
returns-in-Report-clause-steps g c = omega arith

pub returns-in-Tighten-clause-written : goal.returns-in-Tighten-clause-written
returns-in-Tighten-clause-written g c =
    put_by c.args.session.now.model c.args.edit.now Tighten c.in-Tighten.is c.put_tight.result c.args.text.now c.put_tight.new.text
    (tight_text c.model-in-Tighten.result.now) (ap tight_text c.model-in-Tighten.ensures) c.put_tight.ensures.written

pub returns-in-Tighten-clause-steps : goal.returns-in-Tighten-clause-steps
returns-in-Tighten-clause-steps g c =
    steps_by c.args.session.now.model c.args.edit.now Tighten c.in-Tighten.is c.args.steps.now c.put_tight.new.steps
    (subst (λ (m : SystemModel). c.put_tight.new.steps ≤ c.args.steps.now + written_steps Tighten m) c.model-in-Tighten.ensures c.put_tight.ensures.steps)

pub returns-in-Verify-clause-written : goal.returns-in-Verify-clause-written
returns-in-Verify-clause-written g c =
    put_verified_by c.args.session.now.model c.args.edit.now c.in-Verify.is c.put_verified.result c.args.text.now c.put_verified.new.text
    (subst (λ (m : SystemModel). OnOk c.put_verified.result (IsPutBy m Verify c.args.text.now c.put_verified.new.text)) c.model-in-Verify.ensures c.put_verified.ensures.written)

pub returns-in-Verify-clause-steps : goal.returns-in-Verify-clause-steps
returns-in-Verify-clause-steps g c =
    steps_by c.args.session.now.model c.args.edit.now Verify c.in-Verify.is c.args.steps.now c.put_verified.new.steps
    (subst (λ (m : SystemModel). c.put_verified.new.steps ≤ c.args.steps.now + written_steps Verify m) c.model-in-Verify.ensures c.put_verified.ensures.steps)
