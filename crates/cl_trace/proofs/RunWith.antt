-- Runs whose entries of one core are replaced.
use Rattle.std.proofs.Common.{◌≡◌, ℕ, ◌<◌, Option, List, [], ◌++◌, length, get_or, set, refl, sym, ap, ◌∙◌, subst}
use Rattle.std.proofs.lemmas.List.{get_or-set_same, set-get_or, set-set, length-set}
use Rattle.cl_runs.specs.{declared.job.JobTable.JobTable, Run.{Run, core_entries}}
use Rattle.cl_trace.specs.Inner.Bodies.{IsRunWith}

pub with_same : (run : Run) (core : ℕ) → IsRunWith run run core (core_entries run core)
with_same run core = record { table = refl; entries_are = sym (set-get_or run.entries core []) }

module _ (old mid new : Run) (core : ℕ) (first second : List (Option ℕ)) where
  pub with_next : IsRunWith old mid core first → IsRunWith mid new core second → IsRunWith old new core second
  with_next one two = record {
    table = two.table ∙ one.table;
    entries_are = two.entries_are ∙ ap (λ es. set es core second) one.entries_are ∙ set-set old.entries core first second;
  }

module _ (old new : Run) (core : ℕ) (entries : List (Option ℕ)) (is : IsRunWith old new core entries) where
  pub entries_of_core : core < length old.entries → core_entries new core ≡ entries
  entries_of_core lt = ap (λ es. get_or es core []) is.entries_are ∙ get_or-set_same old.entries core entries [] lt

  pub cores_same : length new.entries ≡ length old.entries
  cores_same = ap length is.entries_are ∙ length-set old.entries core entries

  pub ticks_same : new.table.ticks ≡ old.table.ticks
  ticks_same = ap (λ (t : JobTable). t.ticks) is.table

-- what a push makes
pub with_pushed : (old new : Run) (core : ℕ) (entries : List (Option ℕ)) → new ≡ record old { entries = set old.entries core entries } → IsRunWith old new core entries
with_pushed old new core entries is = record { table = ap (λ (r : Run). r.table) is; entries_are = ap (λ (r : Run). r.entries) is }

-- what two pushes make
pub with_two : (old mid new : Run) (core : ℕ) (a b : List (Option ℕ)) → core < length old.entries
    → mid ≡ record old { entries = set old.entries core (core_entries old core ++ a) } → new ≡ record mid { entries = set mid.entries core (core_entries mid core ++ b) }
    → IsRunWith old new core ((core_entries old core ++ a) ++ b)
with_two old mid new core a b lt first second =
    let one = with_pushed old mid core (core_entries old core ++ a) first in
    let two = with_pushed mid new core (core_entries mid core ++ b) second in
    subst (λ es. IsRunWith old new core (es ++ b)) (entries_of_core old mid core (core_entries old core ++ a) one lt)
    (with_next old mid new core (core_entries old core ++ a) (core_entries mid core ++ b) one two)
