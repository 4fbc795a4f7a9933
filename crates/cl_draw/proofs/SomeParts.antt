-- A task of a legal run has parts, and its jobs finish or don't.
use Rattle.std.proofs.Common.{◌≡◌, ◌≢◌, ℕ, zero, suc, ◌+◌, ◌-◌, ◌<◌, ◌≤◌, ◌⊎◌, inl, inr, Some, List, [], ◌∷◌, ◌++◌, length, refl, subst, arith}
use Rattle.std.proofs.lemmas.Bool.{cases_lt, cases_eq}
use Rattle.cl_model.specs.declared.model.SystemModel.{SystemModel}
use Rattle.cl_runs.specs.{TaskTiming.{System, timing_at}, SystemOf.system_of, Run.{Run, jobs_of, entry_at, executed}}
use Rattle.cl_runs.proofs.{Executed.cases_entry, FirstBelow.{IsFirst, both_or_not, first_or_none}}
use Rattle.cl_draw.specs.{declared.{cursor.Cursor.Cursor, parts.{Part.Part, Work.Work}}, Parts.{due_in, AreParts, AreFinishes}, Inner.{TaskRuns.IsTaskRun, Cursors.{time_at, StandsAt, FinishesJob, IsWorkAt, IsCutAt, RunsFrom, IsFurther}, Ends.part_end}}
use Rattle.cl_draw.proofs.{CursorFacts.{stands_first, stands_on, stands_in_next_place, stands_in_next_job, going_where_it_runs, runs_over}, PartEnds.{IsPartEnd, part_ends}, PartFacts.{work_begins, work_rests, further_in_job, further_past_job, all_parts, all_finishes}}

-- what a cursor is some ticks on
record IsOn (system : System) (run : Run) (task : ℕ) (cursor : Cursor) (ticks : ℕ) (next : Cursor) : Type 0 where
  stands : (tick : ℕ) → StandsAt system run task cursor tick → executed system run task (tick + ticks) ≡ executed system run task tick + ticks
      → StandsAt system run task next (tick + ticks)
  finishes : next.job ≢ cursor.job → FinishesJob system task cursor ticks next
  cut : cursor.left ≡ ticks → next.job ≡ cursor.job → next.place ≢ cursor.place

-- some work that is done by a tick, and its last part is cut where the task goes on
record HasWorkAt (system : System) (run : Run) (task tick : ℕ) : Type 0 where
  work : Work
  cursor : Cursor
  at_tick : IsWorkAt system run task work cursor tick
  cut : entry_at run (timing_at system task).core tick ≡ Some task → tick < run.table.ticks → IsCutAt system run task work.parts cursor tick

-- the task runs from a tick up to another, where it doesn't run on
record HasEnd (system : System) (run : Run) (task tick : ℕ) : Type 0 where
  end : ℕ
  after : tick < end
  by : end ≤ run.table.ticks
  runs : RunsFrom system run task tick end
  stops : end < run.table.ticks → entry_at run (timing_at system task).core end ≡ Some task → ⊥

-- a part more
record HasFurther (system : System) (run : Run) (task from end : ℕ) : Type 0 where
  work : Work
  cursor : Cursor
  to : ℕ
  further : IsFurther system run task from end work cursor to

module _ (model : SystemModel) (run : Run) (task : ℕ) (of : IsTaskRun model run task) where
  abbrev sys : System
  sys = system_of model

  -- ---- the cursor some ticks on

  module _ (cursor : Cursor) (ticks : ℕ) (some : 0 < ticks) where
    abbrev HasNext : Type 0
    HasNext = (next : Cursor) × IsOn sys run task cursor ticks next

    in_runnable : ticks < cursor.left → HasNext
    in_runnable more =
        let next : Cursor = record { job = cursor.job; place = cursor.place; left = cursor.left - ticks } in (
          next,
          record {
            stands = λ tick stands runs. stands_on model run task of cursor next tick ticks stands more runs refl refl refl;
            finishes = λ other. absurd (other refl);
            cut = λ whole job place. absurd (omega (arith, whole, more));
          },
        )

    module _ (whole : cursor.left ≡ ticks) (in_table : cursor.job < length (jobs_of run task)) (is_runnable : cursor.place < length (timing_at sys task).ranges) where
      to_next_place : cursor.place + 1 < length (timing_at sys task).ranges → HasNext
      to_next_place more =
          let next : Cursor = record { job = cursor.job; place = cursor.place + 1; left = time_at (jobs_of run task) cursor.job (cursor.place + 1) } in (
            next,
            record {
              stands = λ tick stands runs. stands_in_next_place model run task of cursor next tick ticks stands whole in_table runs more refl refl refl;
              finishes = λ other. absurd (other refl);
              cut = λ same job place. absurd (omega (arith, place));
            },
          )

      to_next_job : length (timing_at sys task).ranges ≤ cursor.place + 1 → HasNext
      to_next_job last =
          let next : Cursor = record { job = cursor.job + 1; place = 0; left = time_at (jobs_of run task) (cursor.job + 1) 0 } in (
            next,
            record {
              stands = λ tick stands runs. stands_in_next_job model run task of cursor next tick ticks stands whole in_table runs last refl refl refl;
              finishes = λ other. record { next_job = refl; whole = whole; last = omega (arith, last, is_runnable) };
              cut = λ same job place. absurd (omega (arith, job));
            },
          )

    some_next : ticks ≤ cursor.left → cursor.job < length (jobs_of run task) → cursor.place < length (timing_at sys task).ranges → HasNext
    some_next within in_table is_runnable = elim (cases_lt ticks cursor.left) [
      | inl more ↦ in_runnable more
      | inr not ↦
          let whole : cursor.left ≡ ticks = omega (arith, within, not) in
          elim (cases_lt (cursor.place + 1) (length (timing_at sys task).ranges)) [
            | inl more ↦ to_next_place whole in_table is_runnable more
            | inr last ↦ to_next_job whole in_table is_runnable last
          ]
    ]

  -- ---- a part more

  module _ (work : Work) (cursor : Cursor) (from end : ℕ) (at_from : IsWorkAt sys run task work cursor from) (cut : IsCutAt sys run task work.parts cursor from)
      (some : from < end) (within : end ≤ run.table.ticks) (runs : RunsFrom sys run task from end) where
    in_table : cursor.job < length (jobs_of run task)
    in_table = going_where_it_runs model run task of cursor from at_from.stands (omega (arith, some, within)) (runs from (omega arith) some)

    abbrev part_to : ℕ
    part_to = part_end (due_in sys run task cursor.job) cursor.left from end

    ends : IsPartEnd (due_in sys run task cursor.job) cursor.left from end part_to
    ends = part_ends (due_in sys run task cursor.job) cursor.left from end (at_from.stands.going in_table).1 some

    abbrev all_parts_by : List Part
    all_parts_by = work.parts ++ (record { job = cursor.job; place = cursor.place; from = from; to = part_to }) ∷ []

    module _ (next : Cursor) (is_on : IsOn sys run task cursor (part_to - from) next) where
      stands_then : StandsAt sys run task next part_to
      stands_then =
          let same : from + (part_to - from) ≡ part_to = omega (arith, ends.after) in
          subst (λ t. StandsAt sys run task next t) same
          (is_on.stands from at_from.stands (runs_over model run task of from part_to (omega (arith, ends.after)) (omega (arith, ends.by, within))
          (λ t after before. runs t after (omega (arith, before, ends.by)))))

      with_next : HasFurther sys run task from end
      with_next = elim (cases_eq next.job cursor.job) [
        | inl same ↦ record {
          work = record { parts = all_parts_by; finishes = work.finishes };
          cursor = next;
          to = part_to;
          further = further_in_job model run task of work cursor next from part_to end at_from cut in_table within runs ends stands_then is_on.finishes is_on.cut
              (record { parts = all_parts_by; finishes = work.finishes }) refl refl same;
        }
        | inr other ↦ record {
          work = record { parts = all_parts_by; finishes = work.finishes ++ part_to ∷ [] };
          cursor = next;
          to = part_to;
          further = further_past_job model run task of work cursor next from part_to end at_from cut in_table within runs ends stands_then is_on.finishes is_on.cut
              (record { parts = all_parts_by; finishes = work.finishes ++ part_to ∷ [] }) refl refl other;
        }
      ]

    some_further : HasFurther sys run task from end
    some_further =
        let next = some_next cursor (part_to - from) (omega (arith, ends.after)) (omega (arith, ends.most)) in_table (at_from.stands.going in_table).0 in
        with_next next.0 next.1

  -- ---- up to the end of the run

  abbrev Stops : (from tick : ℕ) → Type 0
  Stops from tick = (from < tick) × (entry_at run (timing_at sys task).core tick ≡ Some task → ⊥)

  lt_or_not : (m n : ℕ) → (m < n) ⊎ (m < n → ⊥)
  lt_or_not m n = elim (cases_lt m n) [ inl less ↦ inl less | inr not ↦ inr (λ less. omega (arith, not, less)) ]

  rests_or_not : (tick : ℕ) → (entry_at run (timing_at sys task).core tick ≡ Some task → ⊥) ⊎ ((entry_at run (timing_at sys task).core tick ≡ Some task → ⊥) → ⊥)
  rests_or_not tick = elim (cases_entry task (entry_at run (timing_at sys task).core tick)) [ inl runs ↦ inr (λ not. not runs) | inr not ↦ inl not ]

  stops_or_not : (from tick : ℕ) → Stops from tick ⊎ (Stops from tick → ⊥)
  stops_or_not from tick = both_or_not (lt_or_not from tick) (rests_or_not tick)

  -- it runs until it first stops
  runs_until : (from end : ℕ) → entry_at run (timing_at sys task).core from ≡ Some task → ((t : ℕ) → t < end → Stops from t → ⊥) → RunsFrom sys run task from end
  runs_until from end here none tick after before = elim (cases_entry task (entry_at run (timing_at sys task).core tick)) [
    | inl runs ↦ runs
    | inr not ↦ elim (cases_eq tick from) [
      | inl same ↦ subst (λ t. entry_at run (timing_at sys task).core t ≡ Some task) (omega (arith, same)) here
      | inr other ↦ absurd (none tick before (omega (arith, after, other), not))
    ]
  ]

  some_end : (from : ℕ) → from < run.table.ticks → entry_at run (timing_at sys task).core from ≡ Some task → HasEnd sys run task from
  some_end from below here = by_first (first_or_none (Stops from) (stops_or_not from) run.table.ticks)
    where
      by_first : ((t : ℕ) × IsFirst (Stops from) run.table.ticks t) ⊎ ((t : ℕ) → t < run.table.ticks → Stops from t → ⊥) → HasEnd sys run task from
      by_first (inl found) = record {
        end = found.0;
        after = found.1.holds.0;
        by = omega (arith, found.1.within);
        runs = runs_until from found.0 here (λ t before stops. omega (arith, before, found.1.least t (omega (arith, before, found.1.within)) stops));
        stops = λ within. found.1.holds.1;
      }
      by_first (inr none) = record {
        end = run.table.ticks;
        after = below;
        by = omega arith;
        runs = runs_until from run.table.ticks here none;
        stops = λ within. absurd (omega (arith, within));
      }

  -- where it runs
  run_on : (tick : ℕ) → HasWorkAt sys run task tick → tick < run.table.ticks → entry_at run (timing_at sys task).core tick ≡ Some task
      → (to : ℕ) × (tick < to) × (to ≤ run.table.ticks) × HasWorkAt sys run task to
  run_on tick has below runs =
      let end = some_end tick below runs in
      let more = some_further has.work has.cursor tick end.end has.at_tick (has.cut runs below) end.after end.by end.runs in (
        more.to,
        more.further.after,
        omega (arith, more.further.by, end.by),
        record {
          work = more.work;
          cursor = more.cursor;
          at_tick = more.further.at_end;
          cut = λ goes_on within. elim (cases_lt more.to end.end) [
            | inl before ↦ more.further.cut before
            | inr past ↦
                let same : more.to ≡ end.end = omega (arith, past, more.further.by) in
                absurd (end.stops (omega (arith, within, same)) (subst (λ t. entry_at run (timing_at sys task).core t ≡ Some task) same goes_on))
          ];
        },
      )

  -- where it doesn't
  rest_on : (tick : ℕ) → HasWorkAt sys run task tick → tick < run.table.ticks → (entry_at run (timing_at sys task).core tick ≡ Some task → ⊥)
      → HasWorkAt sys run task (suc tick)
  rest_on tick has below rests = record {
    work = has.work;
    cursor = has.cursor;
    at_tick = work_rests model run task of has.work has.cursor tick (suc tick) has.at_tick (omega arith) (omega (arith, below))
        (λ t after before. let same : t ≡ tick = omega (arith, after, before) in
        subst (λ u. entry_at run (timing_at sys task).core u ≡ Some task → ⊥) (omega (arith, same)) rests);
    cut = λ runs within. record {
      cut = λ k last at job place. absurd (omega (arith, at, has.at_tick.parts.by k (omega (arith, last))));
    };
  }

  to_end : (fuel tick : ℕ) → run.table.ticks ≤ tick + fuel → tick ≤ run.table.ticks → HasWorkAt sys run task tick → HasWorkAt sys run task run.table.ticks
  to_end zero tick enough within has = let same : tick ≡ run.table.ticks = omega (arith, enough, within) in subst (HasWorkAt sys run task) same has
  to_end (suc fuel) tick enough within has = elim (cases_lt tick run.table.ticks) [
    | inl below ↦ elim (cases_entry task (entry_at run (timing_at sys task).core tick)) [
      | inl runs ↦ let more = run_on tick has below runs in to_end fuel more.0 (omega (arith, enough, more.1)) more.2 more.3
      | inr rests ↦ to_end fuel (suc tick) (omega (arith, enough)) (omega (arith, below)) (rest_on tick has below rests)
    ]
    | inr not ↦ let same : tick ≡ run.table.ticks = omega (arith, not, within) in subst (HasWorkAt sys run task) same has
  ]

  at_start : HasWorkAt sys run task 0
  at_start =
      let work : Work = record { parts = []; finishes = [] } in
      let cursor : Cursor = record { job = 0; place = 0; left = time_at (jobs_of run task) 0 0 } in
      record {
        work = work;
        cursor = cursor;
        at_tick = work_begins model run task of work cursor refl refl refl (stands_first model run task of cursor refl refl refl);
        cut = λ runs within. record { cut = λ k last at job place. absurd (omega (arith, last)) };
      }

  at_last : HasWorkAt sys run task run.table.ticks
  at_last = to_end run.table.ticks 0 (omega arith) (omega arith) at_start

  pub some_parts : (parts : List Part) × AreParts sys run task parts
  some_parts = (at_last.work.parts, all_parts model run task of at_last.work at_last.cursor at_last.at_tick)

  pub some_finishes : (finishes : List ℕ) × AreFinishes sys run task finishes
  some_finishes = (at_last.work.finishes, all_finishes model run task of at_last.work at_last.cursor at_last.at_tick)
