-- What is checked of a run is whether it is legal.
use Rattle.std.proofs.Common.{◌≡◌, ◌≢◌, ℕ, ◌+◌, ◌<◌, ◌≤◌, ◌⊎◌, inl, inr, Some, [], sym, ap, ◌∙◌, subst, arith}
use Rattle.std.proofs.lemmas.Bool.{cases_eq}
use Rattle.std.specs.Prelude.{Result, Ok, Err, IfOk, IfErr}
use Rattle.cl_runs.specs.{Continuation.HasContinuation, declared.job.JobTable.JobTable, TaskTiming.{System, IsSound}, Run.{Run, IsInForm}, Legal.IsLegal}
use Rattle.cl_runs.proofs.Continuing.{has_continuation}
use Rattle.cl_check.specs.{declared.run_fault.RunFault.{RunFault, TheVariants.{Illegal, NoMemory}}, Legality.{first_fault, table_faults, IsScheduleKept, BreaksCore, BreaksSchedule, IsFirstBroken, IsRunFaultOf}, Inner.Following.ChecksRun}
use Rattle.cl_check.proofs.LawfulFaults.{faultless_lawful, lawful_faultless}

-- the tasks of one more core
pub kept_more : (system : System) (run : Run) (n next : ℕ) → next ≡ n + 1
    → ((other t : ℕ) → other < n → t < run.table.ticks → IsScheduleKept system run other t)
    → ((t : ℕ) → t < run.table.ticks → IsScheduleKept system run n t)
    → (other t : ℕ) → other < next → t < run.table.ticks → IsScheduleKept system run other t
kept_more system run n next is before here other t h below = elim (cases_eq other n) [
  | inl same ↦ subst (λ c. IsScheduleKept system run c t) (sym same) (here t below)
  | inr apart ↦ before other t (omega (arith, h, is, apart)) below
]

-- the first core that breaks the schedule
pub breaks_first : (system : System) (run : Run) (core : ℕ) (fault : RunFault) → core < system.cores
    → ((other t : ℕ) → other < core → t < run.table.ticks → IsScheduleKept system run other t)
    → (fault ≡ NoMemory) ⊎ BreaksCore system run core fault → (fault ≡ NoMemory) ⊎ BreaksSchedule system run fault
breaks_first system run core fault is before (inl none) = inl none
breaks_first system run core fault is before (inr breaks) = inr (record { core = core; is_core = is; breaks = breaks; before = before })

-- ---- the first broken rule

pub fault_of : (system : System) (run : Run) (fault : RunFault) → (fault ≡ NoMemory) ⊎ IsFirstBroken system run fault → IsRunFaultOf system run fault
fault_of system run (Illegal rule place tick) (inl none) = cc
fault_of system run (Illegal rule place tick) (inr broken) = broken
fault_of system run NoMemory either = tt

pub broken_schedule : (system : System) (run : Run) (fault : RunFault) → table_faults system run.table ≡ []
    → (fault ≡ NoMemory) ⊎ BreaksSchedule system run fault → (fault ≡ NoMemory) ⊎ IsFirstBroken system run fault
broken_schedule system run fault none (inl no_memory) = inl no_memory
broken_schedule system run fault none (inr breaks) = inr (inr (none, breaks))

pub broken_table : (system : System) (run : Run) (table : JobTable) (fault : RunFault) → table ≡ run.table
    → first_fault (table_faults system table) ≡ Some fault → (fault ≡ NoMemory) ⊎ IsFirstBroken system run fault
broken_table system run table fault is found = inr (inl (ap (λ (t : JobTable). first_fault (table_faults system t)) (sym is) ∙ found))

module _ (system : System) (run : Run) (fault : RunFault) (in_form : IsInForm system run) where
  some_first : first_fault (table_faults system run.table) ≡ Some fault → table_faults system run.table ≡ [] → ⊥
  some_first found none = let e = sym found ∙ ap first_fault none in cc

  broken_illegal : IsFirstBroken system run fault → IsLegal system run → ⊥
  broken_illegal (inl found) legal = some_first found (lawful_faultless system run.table in_form.tasks legal.lawful)
  broken_illegal (inr breaks) legal =
      let there = breaks.1.breaks in
      there.first_there.broken (legal.scheduled breaks.1.core there.tick breaks.1.is_core there.first_there.is_tick)

  pub illegal : (fault ≡ NoMemory) ⊎ IsFirstBroken system run fault → fault ≢ NoMemory → IsLegal system run → ⊥
  illegal (inl none) some legal = some none
  illegal (inr broken) some legal = broken_illegal broken legal

pub checked_legal : (system : System) (run : Run) → IsInForm system run → table_faults system run.table ≡ []
    → ((core t : ℕ) → core < system.cores → t < run.table.ticks → IsScheduleKept system run core t) → IsLegal system run
checked_legal system run in_form none kept = record {
  in_form = in_form;
  lawful = faultless_lawful system run.table in_form.tasks none;
  scheduled = kept;
}

-- ---- what the answer says

module _ {X : Type 0} (system : System) (run : Run) (in_form : IsInForm system run) where
  pub ok_legal : (answer : Result X RunFault) → ChecksRun system run answer → IfOk answer (λ _. IsLegal system run)
  ok_legal (Ok done) legal = legal
  ok_legal (Err fault) broken = tt

  pub err_first : (answer : Result X RunFault) → ChecksRun system run answer → IfErr answer (IsRunFaultOf system run)
  err_first (Ok done) legal = tt
  err_first (Err fault) broken = fault_of system run fault broken

  pub err_illegal : (answer : Result X RunFault) → ChecksRun system run answer
      → IfErr answer (λ fault. fault ≢ NoMemory → IsLegal system run → ⊥)
  err_illegal (Ok done) legal = tt
  err_illegal (Err fault) broken = illegal system run fault in_form broken

  pub ok_continues : IsSound system → (answer : Result X RunFault) → ChecksRun system run answer
      → IfOk answer (λ _. (ticks : ℕ) → run.table.ticks ≤ ticks → HasContinuation system run ticks)
  ok_continues sound (Ok done) legal = has_continuation system sound run legal
  ok_continues sound (Err fault) broken = tt
