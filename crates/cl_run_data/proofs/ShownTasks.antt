-- What a run shows: a legal run shows all, and a run that is legal on some cores shows the tasks of these.
use Rattle.std.proofs.Common.{◌≡◌, ℕ, ◌<◌, Bool, true, List, length}
use Rattle.cl_model.specs.{declared.group.Group.Group, Groups.{no_group, group_at}}
use Rattle.cl_runs.specs.{TaskTiming.{System, timing_at, IsSound}, Run.Run, Legal.IsLegal, MomentOrder.AreGroupsOf}
use Rattle.cl_run_data.specs.Parts.{is_among, IsLegalOn, HasWhole, ShowsTask, ShowsGroups}
use Rattle.cl_run_data.proofs.{AlikeRuns.alike_same, Wholes.has_whole}

-- a legal run shows each of its tasks
pub legal_shows_task : (system : System) (task : ℕ) (run : Run) → IsLegal system run → ShowsTask system task run
legal_shows_task system task run legal = record {
  whole = run;
  legal = legal;
  alike = alike_same system (timing_at system task).core run;
}

-- and those of all groups
pub legal_shows_groups : (system : System) (groups : List Group) (run : Run) → IsLegal system run → ShowsGroups system groups run
legal_shows_groups system groups run legal = record {
  whole = run;
  legal = legal;
  alike = λ place within. alike_same system (timing_at system (group_at groups place).task).core run;
}

-- a run that shows some groups shows the task of each
pub groups_show_task : (system : System) (groups : List Group) (run : Run) → ShowsGroups system groups run
    → (place : ℕ) → place < length groups → ShowsTask system (group_at groups place).task run
groups_show_task system groups run shows place within = record {
  whole = shows.whole;
  legal = shows.legal;
  alike = shows.alike place within;
}

module _ (system : System) (sound : IsSound system) (cores : List Bool) (part : Run) where
  -- a part of a legal run shows the tasks of its cores
  pub whole_shows_task : HasWhole system cores part → (task : ℕ) → task < length system.tasks → is_among cores (timing_at system task).core ≡ true
      → ShowsTask system task part
  whole_shows_task has task is among = record {
    whole = has.whole;
    legal = has.legal;
    alike = has.alike (timing_at system task).core (sound.tasks task is).on_core among;
  }

  -- and those of groups on its cores
  pub whole_shows_groups : HasWhole system cores part → (groups : List Group) → AreGroupsOf system groups
      → ((place : ℕ) → place < length groups → is_among cores (timing_at system (group_at groups place).task).core ≡ true)
      → ShowsGroups system groups part
  whole_shows_groups has groups of among = record {
    whole = has.whole;
    legal = has.legal;
    alike = λ place within.
        has.alike (timing_at system (group_at groups place).task).core (sound.tasks (group_at groups place).task (of place no_group within)).on_core (among place within);
  }

  -- a run that is legal on some cores shows their tasks
  pub part_shows_task : IsLegalOn system cores part → (task : ℕ) → task < length system.tasks → is_among cores (timing_at system task).core ≡ true
      → ShowsTask system task part
  part_shows_task legal = whole_shows_task (has_whole system sound cores part legal)

  pub part_shows_groups : IsLegalOn system cores part → (groups : List Group) → AreGroupsOf system groups
      → ((place : ℕ) → place < length groups → is_among cores (timing_at system (group_at groups place).task).core ≡ true)
      → ShowsGroups system groups part
  part_shows_groups legal = whole_shows_groups (has_whole system sound cores part legal)
