use Rattle.std.proofs.Common.{◌≡◌, ℕ, ◌<◌, true}
use Rattle.cl_model.specs.declared.model.SystemModel.{SystemModel}
use Rattle.cl_tight.specs.TightFindings.{tight_findings_of}
use Rattle.cl_margin.specs.{declared.trial.Trial.Trial, Margins.is_met_requirement, Inner.Trials.IsTrialOf}
use Rattle.cl_margin.proofs.searching.first_unmet.Given as goal

-- no requirement below a number is newly unmet
pub record NoneNewlyUnmet (model other : SystemModel) (looked_at : ℕ) (trial : Trial) : Type 0 where
  pub is : IsTrialOf other trial
  pub none : (requirement : ℕ) → requirement < looked_at → is_met_requirement (tight_findings_of model) requirement ≡ true
      → is_met_requirement (tight_findings_of other) requirement ≡ true

abbrev pub invariant-loop-requirement : goal.invariant-loop-requirement
invariant-loop-requirement g l = NoneNewlyUnmet l.standing.model.now l.fn.trial.model l.requirement l.trial
