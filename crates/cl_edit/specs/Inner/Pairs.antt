-- Tasks that are refused beside another one of their core, and the first one that is. Times are in ticks.
use Rattle.std.specs.Prelude.{◌≡◌, ℕ, ◌<◌, ◌≤◌, Bool, true, ◌&&◌, ◌==◌, nat_lt, if◌then◌else◌, List, Option, Some, None, length, take}
use Rattle.std.specs.List.{list_any}
use Rattle.cl_model.specs.{declared.{model.SystemModel.SystemModel, refusal.{Code.TheVariants.{M31, M42}, Refusal.Refusal}, task.TaskDef.TaskDef}, ByNumber.{task_at, core_of}, Named.tasks_on, Refusals.each, ValidTasks.{task_key, priority_check, spans_too_many, is_outpaced_by}}
use Rattle.cl_model.specs.ValidTasks.{deadline_check}
use Rattle.cl_model.specs.declared.place.Key.TheVariants as key
use Rattle.cl_edit.specs.{declared.{pace.Pace.Pace, pairs.PairFault.{PairFault, TheVariants.{Clash, Outpaced}}}, Inner.Paces.pace_of}

-- ---- pairs

-- whether task k is refused beside task j: it has the priority of an earlier one, or its deadline spans too many least
-- distances of one above
abbrev pub is_refused_beside : PairFault → (k : ℕ) → Pace → (j : ℕ) → Pace → Bool
is_refused_beside Clash k own j its = nat_lt j k && (its.priority == own.priority)
is_refused_beside Outpaced k own j its = nat_lt own.priority its.priority && spans_too_many own.deadline its.kind

-- task k is refused beside task j of its core
pub record IsPair (fault : PairFault) (model : SystemModel) (k j : ℕ) : Type 0 where
  pub known : k < length model.tasks
  pub other : j < length model.tasks
  pub core : core_of model k ≡ core_of model j
  pub refused : is_refused_beside fault k (pace_of model k) j (pace_of model j) ≡ true

-- ---- tasks

-- whether task k is refused, by M31 or by M42
abbrev pub is_refused : PairFault → SystemModel → (k : ℕ) → Bool
is_refused Clash model k = list_any (λ other. other.priority == (task_at model k).priority) (tasks_on (task_at model k).core (take k model.tasks))
is_refused Outpaced model k = list_any (is_outpaced_by model (task_at model k)) (tasks_on (task_at model k).core model.tasks)

-- the check, and the refusal
abbrev pub pair_check : PairFault → SystemModel → (k : ℕ) → TaskDef → List Refusal
pair_check Clash model k task = priority_check (tasks_on task.core (take k model.tasks)) k task
pair_check Outpaced model k task = deadline_check model k task

abbrev pub refusal_at : PairFault → (k : ℕ) → Refusal
refusal_at Clash k = record { code = M31; place = task_key k key.Priority }
refusal_at Outpaced k = record { code = M42; place = task_key k key.Deadline }

-- the checks of all tasks
abbrev pub pair_checks : PairFault → SystemModel → List Refusal
pair_checks fault model = each (pair_check fault model) model.tasks

-- ---- the first task that is refused

-- the lesser of a number, if there is one, and this one
abbrev pub least_of : Option ℕ → ℕ → Option ℕ
least_of None k = Some k
least_of (Some first) k = (if nat_lt k first then Some k else Some first)

-- the same, where a test passes
abbrev pub noted : Option ℕ → Bool → ℕ → Option ℕ
noted first test k = if test then least_of first k else first

-- there is a number, and it is this one or a lesser one
abbrev pub IsAtMost : Option ℕ → ℕ → Type 0
IsAtMost None k = ⊥
IsAtMost (Some first) k = first ≤ k

-- a number, if there is one, is that of a task that is refused
abbrev pub IsRefused : PairFault → SystemModel → Option ℕ → Type 0
IsRefused fault model None = Unit {0}
IsRefused fault model (Some k) = (k < length model.tasks) × (is_refused fault model k ≡ true)

-- where one of two tasks is refused beside the other, the number is at most that of the one
pub record HasSeen (fault : PairFault) (model : SystemModel) (first : Option ℕ) (k j : ℕ) : Type 0 where
  pub one : IsPair fault model k j → IsAtMost first k
  pub other : IsPair fault model j k → IsAtMost first j

-- the number is that of the first task that is refused, if there is one
pub record IsFirstRefused (fault : PairFault) (model : SystemModel) (first : Option ℕ) : Type 0 where
  pub refused : IsRefused fault model first
  pub least : (k : ℕ) → k < length model.tasks → is_refused fault model k ≡ true → IsAtMost first k
