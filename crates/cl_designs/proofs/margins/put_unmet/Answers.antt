use Rattle.std.proofs.Common.{length, ap, arith}
use Rattle.cl_text.proofs.MoreLines.{line_more}
use Rattle.cl_model.specs.declared.model.SystemModel.{SystemModel}
use Rattle.cl_tight.proofs.TightLengths.{tight_verdicts_found}
use Rattle.cl_designs.specs.Margins.{unmet_line}
use Rattle.cl_designs.proofs.margins.put_unmet.Goals as goal

pub put_if_unmet-requires-clause-found : goal.put_if_unmet-requires-clause-found
put_if_unmet-requires-clause-found c =
    omega (
      arith,
      tight_verdicts_found c.args.model.now c.args.found.now c.requires.findings,
      c.loop-requirement-test.true,
      c.len-requirement-end.ensures,
      ap (λ (m : SystemModel). length m.requirements) c.plain.ensures.plain,
    )

pub loop-requirement-preserved : goal.loop-requirement-preserved
loop-requirement-preserved c =
    line_more (unmet_line c.args.model.now c.args.found.now) c.args.text.now c.loop-requirement.text c.put_if_unmet.new.text c.loop-requirement.requirement c.loop-requirement.invariant c.in_ok-put_if_unmet.ensures
