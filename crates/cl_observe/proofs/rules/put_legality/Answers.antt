use Rattle.std.proofs.Common.{inl, inr, refl, subst}
use Rattle.std.specs.Prelude.{codes}
use Rattle.std.proofs.lemmas.Result.{on_ok_weaker}
use Rattle.cl_text.specs.Line.{line}
use Rattle.cl_runs.specs.SystemOf.{system_of}
use Rattle.cl_check.specs.{declared.run_fault.RunFault.RunFault, Legality.IsRunFaultOf}
use Rattle.cl_observe.specs.Rules.{illegal_line}
use Rattle.cl_observe.proofs.rules.put_legality.Goals as goal

pub returns-in-Ok : goal.returns-in-Ok
returns-in-Ok c = on_ok_weaker c.put.result (λ put. record {
  piece = line (codes "legal");
  is = inl (record { legal = c.in-Ok.ensures.legal; printed = refl });
  joined = put;
}) c.put.ensures.ok

pub returns-in-Err-Illegal : goal.returns-in-Err-Illegal
returns-in-Err-Illegal c = on_ok_weaker c.put_illegal.result (λ put. record {
  piece = illegal_line c.args.model.now c.in-Err-Illegal.rule c.in-Err-Illegal.place c.in-Err-Illegal.tick;
  is = inr (record {
    rule = c.in-Err-Illegal.rule;
    place = c.in-Err-Illegal.place;
    tick = c.in-Err-Illegal.tick;
    broken = subst (λ (fault : RunFault). IsRunFaultOf (system_of c.args.model.now) c.args.run.now fault) c.in-Err-Illegal.field-0-is c.in-Err-Illegal.ensures.first;
    printed = refl;
  });
  joined = put;
}) c.put_illegal.ensures
