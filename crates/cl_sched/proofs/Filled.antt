-- Filling the entries of a core: what is filled stays what is scheduled, as further entries come.
use Rattle.std.proofs.Common.{◌≡◌, ◌≢◌, ℕ, ◌+◌, ◌-◌, ◌<◌, ◌≤◌, inl, inr, Option, None, List, [], ◌++◌, replicate, length, get_or, set, take, refl, sym, ap, ◌∙◌, subst, arith, length-append}
use Rattle.std.proofs.lemmas.Bool.{cases_lt}
use Rattle.std.proofs.lemmas.List.{length-replicate, length-set, get_or-set_same, get_or-set_other, get_or_append_left, get_or-append_right, get_or-replicate, take-append-le, take-replicate}
use Rattle.std.proofs.Math.Seq.{take-append-add}
use Rattle.cl_runs.specs.{TaskTiming.System, declared.job.JobTable.JobTable, Run.{Run, core_entries}, Legal.IsScheduled}
use Rattle.cl_sched.specs.{declared.core_progress.CoreProgress.CoreProgress, CoreProgress.{ticks_of, IsScheduledUntil, IsReached}, Inner.Filling.{AreScheduled, IsFilled}}

module _ (system : System) (table : JobTable) (core : ℕ) (entries : List (Option ℕ)) (n : ℕ) (who : Option ℕ) where
  abbrev longer : List (Option ℕ)
  longer = entries ++ replicate n who

  first_entries : (tick : ℕ) → length entries ≤ tick → tick < length entries + n → take tick longer ≡ entries ++ replicate (tick - length entries) who
  first_entries tick after before =
      let m : length entries + (tick - length entries) ≡ tick = omega (arith, after) in
      ap (λ k. take k longer) (sym m) ∙ take-append-add entries (replicate n who) (tick - length entries)
      ∙ ap (λ l. entries ++ l) (take-replicate (tick - length entries) n who (omega (arith, before)))

  further_entry : (tick : ℕ) → length entries ≤ tick → tick < length entries + n → get_or longer tick None ≡ who
  further_entry tick after before = get_or-append_right entries (replicate n who) (length entries) tick None refl after
      ∙ get_or-replicate n (tick - length entries) who None (omega (arith, after, before))

  -- further entries that are scheduled
  pub scheduled_longer : AreScheduled system table core entries → IsScheduledUntil system table core entries (length entries + n) who
      → AreScheduled system table core longer
  scheduled_longer so_far further tick h = elim (cases_lt tick (length entries)) [
    | inl old ↦ subst (λ e. IsScheduled system table (ticks_of (take tick longer)) tick core e) (sym (get_or_append_left entries (replicate n who) None tick old))
        (subst (λ (l : List (Option ℕ)). IsScheduled system table (ticks_of l) tick core (get_or entries tick None))
        (sym (take-append-le tick entries (replicate n who) (omega (arith, old)))) (so_far tick old))
    | inr new ↦
        let k = tick - length entries in
        let is : length entries + k ≡ tick = omega (arith, new) in
        let before : tick < length entries + n = omega (arith, h, length-append entries (replicate n who), length-replicate n who) in
        subst (λ e. IsScheduled system table (ticks_of (take tick longer)) tick core e) (sym (further_entry tick new before))
        (subst (λ (l : List (Option ℕ)). IsScheduled system table (ticks_of l) tick core who) (sym (first_entries tick new before))
        (subst (λ t. IsScheduled system table (ticks_of (entries ++ replicate k who)) t core who) is (further k (omega (arith, is, before)))))
  ]

-- ---- a core of a run, filled up to where it is reached

pub record IsFilledTo (system : System) (core : ℕ) (start run : Run) (reached : CoreProgress) : Type 0 where
  pub is_core : core < length start.entries
  pub table : run.table ≡ start.table
  pub cores : length run.entries ≡ length start.entries
  pub others : (other : ℕ) → other ≢ core → core_entries run other ≡ core_entries start other
  pub reached_is : IsReached system run.table core (core_entries run core) reached
  pub scheduled : AreScheduled system run.table core (core_entries run core)

module _ (system : System) (core : ℕ) (start run : Run) (reached : CoreProgress) (filled : IsFilledTo system core start run reached) where
  -- filled further
  pub filled_further : (n until : ℕ) (who : Option ℕ) (new : Run) (moved : CoreProgress)
      → new ≡ record run { entries = set run.entries core (core_entries run core ++ replicate n who) }
      → until ≡ reached.tick + n → IsScheduledUntil system run.table core (core_entries run core) until who
      → IsReached system run.table core (core_entries run core ++ replicate n who) moved
      → IsFilledTo system core start new moved
  filled_further n until who new moved is end scheduled at =
      let entries = core_entries run core in
      let place : core < length run.entries = omega (arith, filled.is_core, filled.cores) in
      let tick : reached.tick ≡ length entries = filled.reached_is.tick in
      let table_is : new.table ≡ run.table = ap (λ (r : Run). r.table) is in
      let own : core_entries new core ≡ entries ++ replicate n who
      = ap (λ (r : Run). core_entries r core) is ∙ get_or-set_same run.entries core (entries ++ replicate n who) [] place in
      let further : AreScheduled system run.table core (entries ++ replicate n who)
      = scheduled_longer system run.table core entries n who filled.scheduled
      (λ k before. scheduled k (omega (arith, tick, before, end))) in
      record {
        is_core = filled.is_core;
        table = table_is ∙ filled.table;
        cores = ap (λ (r : Run). length r.entries) is ∙ length-set run.entries core (entries ++ replicate n who) ∙ filled.cores;
        others = λ other apart. ap (λ (r : Run). core_entries r other) is
            ∙ get_or-set_other run.entries core other (entries ++ replicate n who) [] apart ∙ filled.others other apart;
        reached_is = subst (λ (t : JobTable). IsReached system t core (core_entries new core) moved) (sym table_is)
            (subst (λ (l : List (Option ℕ)). IsReached system run.table core l moved) (sym own) at);
        scheduled = subst (λ (t : JobTable). AreScheduled system t core (core_entries new core)) (sym table_is)
            (subst (λ (l : List (Option ℕ)). AreScheduled system run.table core l) (sym own) further);
      }

-- ---- one core after the other

-- the cores below n are filled, and the others are empty
pub record AreFilledBelow (system : System) (n : ℕ) (start run : Run) : Type 0 where
  pub table : run.table ≡ start.table
  pub cores : length run.entries ≡ length start.entries
  pub filled : (core : ℕ) → core < n → IsFilled system run core
  pub empty : (core : ℕ) → n ≤ core → core_entries run core ≡ []
