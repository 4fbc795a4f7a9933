use Rattle.std.proofs.Common.{◌≡◌, true, sym, ap, ◌∙◌, subst}
use Rattle.cl_tight.specs.{declared.findings.TightFindings.TightFindings, TightFindings.{tight_findings_of, is_verified}}
use Rattle.cl_tight.proofs.{TightLaws.verified_in_time, Verified.{verified_where, not_verified}}
use Rattle.cl_tight.proofs.tightening.is_verified.Goals as goal

pub are_in_time-requires : goal.are_in_time-requires
unfolding tight_findings_of
are_in_time-requires c = c.as_slice.ensures ∙ ap (λ (findings : TightFindings). findings.tasks) c.requires

pub returns-then-are_in_time-clause-verified : goal.returns-then-are_in_time-clause-verified
returns-then-are_in_time-clause-verified c =
    verified_where c.args.findings.now c.as_slice.result.now c.are_in_time.result c.as_slice.ensures c.are_in_time.ensures.timely
    c.as_slice-then-are_in_time.result.now c.are_met.result c.as_slice-then-are_in_time.ensures c.are_met.ensures c.if-are_in_time.true

pub returns-then-are_in_time-clause-in_time : goal.returns-then-are_in_time-clause-in_time
returns-then-are_in_time-clause-in_time c = λ passes.
    verified_in_time c.args.model.now c.are_in_time.ensures.valid
    (subst (λ (findings : TightFindings). is_verified findings ≡ true) c.requires (sym (returns-then-are_in_time-clause-verified c) ∙ passes))

pub returns-else-are_in_time-clause-verified : goal.returns-else-are_in_time-clause-verified
returns-else-are_in_time-clause-verified c =
    not_verified c.args.findings.now c.as_slice.result.now c.are_in_time.result c.as_slice.ensures c.are_in_time.ensures.timely c.if-are_in_time.false
