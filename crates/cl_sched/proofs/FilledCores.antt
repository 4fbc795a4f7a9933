-- A run of which some cores are filled and the others idle is legal on those cores.
use Rattle.std.proofs.Common.{◌≡◌, ℕ, ◌<◌, ◌≤◌, inl, inr, Option, None, Bool, true, false, List, [], replicate, length, get_or, sym, ap, ◌∙◌, subst, arith}
use Rattle.std.proofs.lemmas.Bool.{cases_Bool}
use Rattle.std.proofs.lemmas.List.{length-replicate, get_or-replicate}
use Rattle.cl_runs.specs.{TaskTiming.System, Run.{Run, core_entries, entry_at, executed, IsEntryOf}, Legal.IsScheduled}
use Rattle.cl_runs.proofs.Scheduling.{scheduled_alike, scheduled_entry}
use Rattle.cl_run_data.specs.Parts.{is_among, IsLawfulOn, IsLegalOn}
use Rattle.cl_sched.specs.{CoreTables.HaveTimes, Inner.Filling.{IsFilled, IsFilledIf}}
use Rattle.cl_sched.proofs.FullCores.{alike}

-- ---- one core

-- ---- one core after the other

-- the cores below n are filled where they are marked, and the others are empty
pub record AreMarkedFilledBelow (system : System) (cores : List Bool) (n : ℕ) (start run : Run) : Type 0 where
  pub table : run.table ≡ start.table
  pub as_many : length run.entries ≡ length start.entries
  pub filled : (core : ℕ) → core < n → IsFilledIf (is_among cores core) system run core
  pub empty : (core : ℕ) → n ≤ core → core_entries run core ≡ []

-- ---- all cores

module _ (system : System) (cores : List Bool) (run : Run) (lawful : IsLawfulOn system cores run.table) (times : HaveTimes system run.table)
    (as_many : length run.entries ≡ system.cores)
    (filled : (core : ℕ) → core < system.cores → IsFilledIf (is_among cores core) system run core) where
  is_filled : (core : ℕ) → core < system.cores → is_among cores core ≡ true → IsFilled system run core
  is_filled core on among = subst (λ b. IsFilledIf b system run core) among (filled core on)

  is_idle : (core : ℕ) → core < system.cores → is_among cores core ≡ false → core_entries run core ≡ replicate run.table.ticks None
  is_idle core on apart = subst (λ b. IsFilledIf b system run core) apart (filled core on)

  scheduled : (core tick : ℕ) → core < system.cores → is_among cores core ≡ true → tick < run.table.ticks
      → IsScheduled system run.table (λ task. executed system run task tick) tick core (entry_at run core tick)
  scheduled core tick on among h =
      let one = is_filled core on among in
      scheduled_alike system run.table run.table _ _ tick core (alike system run core tick) (entry_at run core tick)
      (one.scheduled tick (omega (arith, h, one.ticks)))

  idles : (core tick : ℕ) → core < system.cores → is_among cores core ≡ false → tick < run.table.ticks → entry_at run core tick ≡ None
  idles core tick on apart h = ap (λ (l : List (Option ℕ)). get_or l tick None) (is_idle core on apart)
      ∙ get_or-replicate run.table.ticks tick None None h

  pub legal_on_cores : IsLegalOn system cores run
  legal_on_cores = record {
    in_form = record {
      tasks = lawful.tasks;
      times = times.each;
      cores = as_many;
      ticks = λ core on. elim (cases_Bool (is_among cores core)) [
        | inl among ↦ (is_filled core on among).ticks
        | inr apart ↦ ap length (is_idle core on apart) ∙ length-replicate run.table.ticks None
      ];
      entries = λ core tick on h. elim (cases_Bool (is_among cores core)) [
        | inl among ↦ scheduled_entry system run.table (λ task. executed system run task tick) tick core _ (scheduled core tick on among h)
        | inr apart ↦ subst (λ e. IsEntryOf system core e) (sym (idles core tick on apart h)) tt
      ];
    };
    lawful = lawful;
    scheduled = scheduled;
  }
