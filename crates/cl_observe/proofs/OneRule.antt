-- A run is legal, or it breaks one rule first: never both.
use Rattle.std.proofs.Common.{◌≡◌, ◌≢◌, ℕ, inl, inr, Some, None, List, [], sym, ap, subst, ◌∙◌, arith}
use Rattle.std.proofs.lemmas.Bool.{cases_lt}
use Rattle.cl_model.specs.declared.model.SystemModel.{SystemModel}
use Rattle.cl_runs.specs.{TaskTiming.System, Run.Run, SystemOf.system_of, Legal.IsLegal}
use Rattle.cl_check.specs.{declared.run_fault.{Rule.{Rule, TheVariants.Schedule}, RunFault.{RunFault, TheVariants.{Illegal, NoMemory}}}, Legality.{first_fault, table_faults, IsFirstOnCore, BreaksSchedule, IsFirstBroken}}
use Rattle.cl_check.proofs.BrokenRules.{illegal}
use Rattle.cl_observe.specs.Rules.{illegal_line, IsSaidIllegal, IsLegalityLine}

module _ (system : System) (run : Run) where
  tick_once : (core s t : ℕ) → IsFirstOnCore system run core s → IsFirstOnCore system run core t → s ≡ t
  tick_once core s t one other = elim (cases_lt s t) [
    | inl less ↦ absurd (one.broken (other.earlier s less))
    | inr most ↦ elim (cases_lt t s) [
      | inl less ↦ absurd (other.broken (one.earlier t less))
      | inr least ↦ omega (arith, most, least)
    ]
  ]

  module _ (one other : RunFault) (is : BreaksSchedule system run one) (also : BreaksSchedule system run other) where
    core_once : is.core ≡ also.core
    core_once = elim (cases_lt is.core also.core) [
      | inl less ↦ absurd (is.breaks.first_there.broken (also.before is.core is.breaks.tick less is.breaks.first_there.is_tick))
      | inr most ↦ elim (cases_lt also.core is.core) [
        | inl less ↦ absurd (also.breaks.first_there.broken (is.before also.core also.breaks.tick less also.breaks.first_there.is_tick))
        | inr least ↦ omega (arith, most, least)
      ]
    ]

    schedule_once : one ≡ other
    schedule_once =
        let there = subst (λ core. IsFirstOnCore system run core is.breaks.tick) core_once is.breaks.first_there in
        is.breaks.fault_is ∙ ap (λ core. Illegal Schedule core is.breaks.tick) core_once
        ∙ ap (λ tick. Illegal Schedule also.core tick) (tick_once also.core is.breaks.tick also.breaks.tick there also.breaks.first_there)
        ∙ sym also.breaks.fault_is

  fault_same : (one other : RunFault) → Some one ≡ Some other → one ≡ other
  fault_same one other is = cc

  none_first : {X : Type 0} (fault : RunFault) → first_fault (table_faults system run.table) ≡ Some fault → table_faults system run.table ≡ [] → X
  none_first fault found none = let is : None ≡ Some fault = sym (ap first_fault none) ∙ found in absurd cc

  -- the first broken rule is one
  pub fault_once : (one other : RunFault) → IsFirstBroken system run one → IsFirstBroken system run other → one ≡ other
  fault_once one other (inl found) (inl also) = fault_same one other (sym found ∙ also)
  fault_once one other (inl found) (inr breaks) = none_first one found breaks.0
  fault_once one other (inr breaks) (inl found) = none_first other found breaks.0
  fault_once one other (inr breaks) (inr also) = schedule_once one other breaks.1 also.1

pub not_memory : (rule : Rule) (place tick : ℕ) → Illegal rule place tick ≢ NoMemory
not_memory rule place tick is = cc

-- the line of a fault
abbrev said : SystemModel → RunFault → List ℕ
said model (Illegal rule place tick) = illegal_line model rule place tick
said model NoMemory = []

module _ (model : SystemModel) (run : Run) where
  -- a legal run breaks no rule
  breaks_none : {X : Type 0} (text : List ℕ) → IsLegal (system_of model) run → IsSaidIllegal model run text → X
  breaks_none text legal is =
      absurd (illegal (system_of model) run (Illegal is.rule is.place is.tick) legal.in_form (inr is.broken) (not_memory is.rule is.place is.tick) legal)

  pub one_legality : (one other : List ℕ) → IsLegalityLine model run one → IsLegalityLine model run other → one ≡ other
  one_legality one other (inl is) (inl also) = is.printed ∙ sym also.printed
  one_legality one other (inl is) (inr also) = breaks_none other is.legal also
  one_legality one other (inr is) (inl also) = breaks_none one also.legal is
  one_legality one other (inr is) (inr also) =
      is.printed
      ∙ ap (said model) (fault_once (system_of model) run (Illegal is.rule is.place is.tick) (Illegal also.rule also.place also.tick) is.broken also.broken)
      ∙ sym also.printed
