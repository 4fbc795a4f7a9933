use Rattle.std.proofs.Common.{List, map, sym, subst}
use Rattle.std.proofs.lemmas.Result.{IfOk-weaker}
use Rattle.cl_chain.specs.declared.job_chain.Measured as own
use Rattle.cl_chain.specs.JobChains.{measured_of}
use Rattle.cl_replay.specs.{Margins.HaveMargins, Replay.AreMeasured}
use Rattle.cl_replay.proofs.replaying.replay.Goals as goal

pub text_of-requires-clause-margins : goal.text_of-requires-clause-margins
text_of-requires-clause-margins c =
    subst (λ (l : List own.Measured). HaveMargins c.args.model.now c.args.findings.now (map measured_of l)) (sym c.as_slice.ensures)
    (c.in_ok-measured.ensures.margins c.args.findings.now c.requires.found)

pub returns-clause-text : goal.returns-clause-text
returns-clause-text c =
    let are = subst (λ (l : List own.Measured). AreMeasured c.args.model.now c.args.run.now (map measured_of l)) (sym c.as_slice.ensures)
    c.in_ok-measured.ensures.measured in
    IfOk-weaker c.text_of.result _ _ (λ text is. record {
      findings = c.args.findings.now;
      found = c.requires.found;
      measured = map measured_of c.as_slice.result.now;
      are_measured = are;
      printed = is;
    }) c.text_of.ensures

pub returns-clause-margins : goal.returns-clause-margins
returns-clause-margins c =
    IfOk-weaker c.text_of.result _ _ (λ text is. record {
      is_replay = record {
        findings = c.args.findings.now;
        found = c.requires.found;
        measured = map measured_of c.as_slice.result.now;
        are_measured = subst (λ (l : List own.Measured). AreMeasured c.args.model.now c.args.run.now (map measured_of l)) (sym c.as_slice.ensures)
            c.in_ok-measured.ensures.measured;
        printed = is;
      };
      margins = subst (λ (l : List own.Measured). HaveMargins c.args.model.now c.args.findings.now (map measured_of l)) (sym c.as_slice.ensures)
          (c.in_ok-measured.ensures.margins c.args.findings.now c.requires.found);
    }) c.text_of.ensures
