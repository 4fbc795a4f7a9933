-- A run is answered in one way: by what comes of it where it is legal, or by the first rule that it breaks.
use Rattle.std.proofs.Common.{◌≡◌, ℕ, inl, inr, sym, ap, ◌∙◌}
use Rattle.cl_model.specs.declared.model.SystemModel.{SystemModel}
use Rattle.cl_runs.specs.{Run.Run, SystemOf.system_of, Legal.IsLegal}
use Rattle.cl_check.specs.{declared.run_fault.{Rule.Rule, RunFault.{RunFault, TheVariants.{Illegal, NoMemory}}}, Legality.IsFirstBroken}
use Rattle.cl_check.proofs.BrokenRules.{illegal}
use Rattle.cl_observe.proofs.OneRule.{not_memory, fault_once}
use Rattle.cl_engine.specs.declared.outcome.Outcome.{Outcome}
use Rattle.cl_top.specs.OfTrace.{trace_refused, trace_illegal, IsIllegal, IsOfRun}

-- what a fault is answered by
abbrev answered : SystemModel → RunFault → Outcome
answered model (Illegal rule place tick) = trace_illegal model rule place tick
answered model NoMemory = trace_refused 0

module _ (model : SystemModel) (run : Run) where
  -- a legal run breaks no rule
  pub none_broken : {X : Type 0} (rule : Rule) (place tick : ℕ) → IsLegal (system_of model) run → IsFirstBroken (system_of model) run (Illegal rule place tick) → X
  none_broken rule place tick legal broken = absurd (illegal (system_of model) run (Illegal rule place tick) legal.in_form (inr broken) (not_memory rule place tick) legal)

  pub breaks_none : {X : Type 0} (found : Outcome) → IsLegal (system_of model) run → IsIllegal model run found → X
  breaks_none found legal is = none_broken is.rule is.place is.tick legal is.broken

  -- where a legal run has one outcome, each run has
  pub of_run_once : (next : Run → Outcome → Type 0) → (IsLegal (system_of model) run → (one other : Outcome) → next run one → next run other → one ≡ other)
      → (one other : Outcome) → IsOfRun model next run one → IsOfRun model next run other → one ≡ other
  of_run_once next once one other (inl is) (inl also) = once is.legal one other is.outcome also.outcome
  of_run_once next once one other (inl is) (inr also) = breaks_none other is.legal also
  of_run_once next once one other (inr is) (inl also) = breaks_none one also.legal is
  of_run_once next once one other (inr is) (inr also) =
      is.printed
      ∙ ap (answered model) (fault_once (system_of model) run (Illegal is.rule is.place is.tick) (Illegal also.rule also.place also.tick) is.broken also.broken)
      ∙ sym also.printed
