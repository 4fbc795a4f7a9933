use Rattle.std.proofs.Common.{sym, ap, ◌∙◌}
use Rattle.cl_tight.specs.TightFindings.{is_verified}
use Rattle.cl_top.proofs.VerifyStatus.{verified_ends, unverified_ends}
use Rattle.cl_top.proofs.commands.verify.status_of.Goals as goal

pub returns-then-is_verified : goal.returns-then-is_verified
returns-then-is_verified c = verified_ends c.args.model.now (sym (ap is_verified c.requires) ∙ sym c.is_verified.ensures.verified ∙ c.if-is_verified.true)

pub returns-else-is_verified : goal.returns-else-is_verified
returns-else-is_verified c = unverified_ends c.args.model.now (sym (ap is_verified c.requires) ∙ sym c.is_verified.ensures.verified ∙ c.if-is_verified.false)
