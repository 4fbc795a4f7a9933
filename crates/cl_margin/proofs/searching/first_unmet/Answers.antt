use Rattle.std.proofs.Common.{ℕ, length, sym, ap, subst, arith}
use Rattle.cl_model.specs.{declared.model.SystemModel.SystemModel, Ranges.IsInRange}
use Rattle.cl_tight.specs.{declared.findings.TightFindings.TightFindings, TightFindings.tight_findings_of}
use Rattle.cl_margin.specs.{Grown.grown, Margins.is_met_requirement}
use Rattle.cl_margin.proofs.{AskedItems.{trial_itself, trial_kept}, MetByBounds.verdicts_found, NewlyBroken.{first_where, broken_in}}
use Rattle.cl_margin.proofs.searching.first_unmet.Goals as goal

pub loop-requirement-init : goal.loop-requirement-init
loop-requirement-init g c = record { is = trial_itself _ c.args.trial.now c.requires.percent.1; none = λ requirement lt. absurd (omega (arith, lt)) }

pub is_newly_over-requires-clause-requirement : goal.is_newly_over-requires-clause-requirement
is_newly_over-requires-clause-requirement g c =
    let found = ap (λ (f : TightFindings). length f.verdicts) c.requires.standing.found in
    omega (arith, c.loop-requirement-test.true, c.len-requirement-end.ensures, found, verdicts_found c.args.standing.now.model.now)

pub is_newly_over-requires-clause-percent : goal.is_newly_over-requires-clause-percent
is_newly_over-requires-clause-percent g c =
    let first = grown c.args.standing.now.model.now c.args.whose c.requires.percent.0 in
    (c.requires.percent.0, trial_kept first c.args.trial.now c.loop-requirement.trial c.requires.percent.1 c.loop-requirement.invariant.is)

pub is_newly_over-requires-clause-in_range : goal.is_newly_over-requires-clause-in_range
is_newly_over-requires-clause-in_range g c = subst (λ (m : SystemModel). IsInRange m) (sym c.loop-requirement.invariant.is.is) c.requires.in_range

pub overflow_cast-result : goal.overflow_cast-result
overflow_cast-result g c =
    let model = c.args.standing.now.model.now in
    let found = ap (λ (f : TightFindings). length f.verdicts) c.requires.standing.found in
    let few = c.requires.standing.valid.in_range.counts.requirements in
    omega (arith, c.loop-requirement-test.true, c.len-requirement-end.ensures, found, verdicts_found model, few)

pub returns-then-branch-clause-some : goal.returns-then-branch-clause-some
returns-then-branch-clause-some g c =
    let model = c.args.standing.now.model.now in
    let other = c.args.trial.now.model in
    let i : ℕ = c.loop-requirement.requirement in
    let found = ap (λ (f : TightFindings). length f.verdicts) c.requires.standing.found in
    let met = is_met_requirement (tight_findings_of model) in
    let broken = broken_in other c.loop-requirement.trial c.loop-requirement.invariant.is.is c.in_ok-is_newly_over.field-0 (met i)
    (λ (m : SystemModel). is_met_requirement (tight_findings_of m) i) c.in_ok-is_newly_over.ensures.over in
    record {
      in_range = c.requires.in_range;
      tasks = c.requires.tasks;
      is_requirement = omega (arith, c.loop-requirement-test.true, c.len-requirement-end.ensures, found, verdicts_found model);
      first = first_where met (is_met_requirement (tight_findings_of other)) i c.loop-requirement.invariant.none
          c.in_ok-is_newly_over.field-0 broken c.if-branch.true;
    }
