-- In a legal run a core has at most twice as many run lines as its tasks have jobs.
use Rattle.std.proofs.Common.{◌≡◌, ◌≢◌, ℕ, suc, ◌+◌, ◌<◌, ◌≤◌, Bool, true, false, cond, eqb, Option, Some, None, List, [], ◌∷◌, length, get_or, refl, sym, ap, ◌∙◌, subst, arith}
use Rattle.std.specs.Option.{option_eq}
use Rattle.std.proofs.lemmas.List.{length-append}
use Rattle.cl_run_data.specs.declared.stretches.Stretch.{Stretch}
use Rattle.cl_run_data.proofs.StretchFacts.{who_same, who_other}
use Rattle.cl_runs.specs.{TaskTiming.{System, timing_at, IsSound}, Run.{Run, jobs_of, core_entries, entry_at, executed, IsEntryOf}, Legal.IsLegal}
use Rattle.cl_runs.proofs.{Climbing.climb_mono, Executed.{executed_climbs, executed_more}}
use Rattle.cl_trace.specs.{Stretches.{before_stretches, stretches_from, stretches_of}, Trace.{stretch_item, stretch_items, core_items}}
use Rattle.cl_trace.proofs.{JobCounts.{begun_jobs, done_jobs, begun_most, done_most, begun_mono, done_mono}, Switches.{Turns, begins, follows, turns_first, turns_later}, Totals.{total, total_mono, total_more, of_key, of_key_is, of_key_mono}}

-- ---- lines of stretches

-- a stretch of a task has a line
abbrev pub lined : Option ℕ → ℕ
lined None = 0
lined (Some task) = 1

abbrev pub lines : List Stretch → ℕ
lines [] = 0
lines (s ∷ ss) = lined s.who + lines ss

one_line : (who : Option ℕ) (from to : ℕ) → length (stretch_item who from to) ≡ lined who
one_line None from to = refl
one_line (Some task) from to = refl

pub length-lines : (ss : List Stretch) (from : ℕ) → length (stretch_items from ss) ≡ lines ss
length-lines [] from = refl
length-lines (s ∷ ss) from = omega (
  arith,
  length-append (stretch_item s.who from s.end) (stretch_items s.end ss),
  one_line s.who from s.end,
  length-lines ss s.end,
)

record BeginWith (who : Option ℕ) (stretches : List Stretch) : Type 0 where
  first : Stretch
  rest : List Stretch
  are : stretches ≡ first ∷ rest
  is : first.who ≡ who

begin_before : (who : Option ℕ) (end : ℕ) (ss : List Stretch) → BeginWith who (before_stretches who end ss)
begin_before who end [] = record { first = record { who = who; end = end }; rest = []; are = refl; is = refl }
begin_before who end (next ∷ ss) = by_test (option_eq eqb who next.who) refl
  where
    by_test : (same : Bool) → option_eq eqb who next.who ≡ same
        → BeginWith who (cond same (next ∷ ss) (record { who = who; end = end } ∷ next ∷ ss))
    by_test true is = record { first = next; rest = ss; are = refl; is = sym (who_same who next.who is) }
    by_test false is = record { first = record { who = who; end = end }; rest = next ∷ ss; are = refl; is = refl }

begin_from : (tick : ℕ) (who : Option ℕ) (entries : List (Option ℕ)) → BeginWith who (stretches_from tick (who ∷ entries))
begin_from tick who entries = begin_before who (suc tick) (stretches_from (suc tick) entries)

lines_cons : (who : Option ℕ) (end : ℕ) (s : Stretch) (ss : List Stretch)
    → lines (before_stretches who end (s ∷ ss)) ≡ cond (option_eq eqb who s.who) 0 (lined who) + lines (s ∷ ss)
lines_cons who end s ss = by_test (option_eq eqb who s.who)
  where
    by_test : (same : Bool) → lines (cond same (s ∷ ss) (record { who = who; end = end } ∷ s ∷ ss)) ≡ cond same 0 (lined who) + lines (s ∷ ss)
    by_test true = omega arith
    by_test false = refl

lines_more : (tick : ℕ) (who next : Option ℕ) (entries : List (Option ℕ))
    → lines (stretches_from tick (who ∷ next ∷ entries))
    ≡ cond (option_eq eqb who next) 0 (lined who) + lines (stretches_from (suc tick) (next ∷ entries))
lines_more tick who next entries =
    let begin : BeginWith next (stretches_from (suc tick) (next ∷ entries)) = begin_from (suc tick) next entries in
    ap (λ ss. lines (before_stretches who (suc tick) ss)) begin.are
    ∙ lines_cons who (suc tick) begin.first begin.rest
    ∙ ap (λ w. cond (option_eq eqb who w) 0 (lined who) + lines (begin.first ∷ begin.rest)) begin.is
    ∙ ap (λ ss. cond (option_eq eqb who next) 0 (lined who) + lines ss) (sym begin.are)

-- ---- jobs begun and done on a core

module _ (system : System) (sound : IsSound system) (run : Run) (legal : IsLegal system run) (core : ℕ) (is_core : core < system.cores) where
  abbrev core_of : ℕ → ℕ
  core_of i = (timing_at system i).core

  abbrev begun : (moment task : ℕ) → ℕ
  begun t i = begun_jobs (jobs_of run i) (executed system run i t)

  abbrev done : (moment task : ℕ) → ℕ
  done t i = done_jobs (jobs_of run i) (executed system run i t)

  -- the jobs of the core's tasks that have begun, that are done, and all of them
  abbrev all_begun : (moment : ℕ) → ℕ
  all_begun t = total (of_key core_of (begun t) core) 0 (length system.tasks)

  abbrev all_done : (moment : ℕ) → ℕ
  all_done t = total (of_key core_of (done t) core) 0 (length system.tasks)

  abbrev pub core_jobs : ℕ
  core_jobs = total (of_key core_of (λ i. length (jobs_of run i)) core) 0 (length system.tasks)

  abbrev so_far : (moment : ℕ) → ℕ
  so_far t = all_begun (suc t) + all_done t

  begun_rises : (t i : ℕ) → begun t i ≤ begun (suc t) i
  begun_rises t i = begun_mono (jobs_of run i) _ _ (climb_mono (executed system run i) (executed_climbs system run i) t (suc t) (omega arith))

  done_rises : (t i : ℕ) → done t i ≤ done (suc t) i
  done_rises t i = done_mono (jobs_of run i) _ _ (climb_mono (executed system run i) (executed_climbs system run i) t (suc t) (omega arith))

  all_begun_rise : (t : ℕ) → all_begun t ≤ all_begun (suc t)
  all_begun_rise t = total_mono (of_key core_of (begun t) core) (of_key core_of (begun (suc t)) core) (length system.tasks) 0
      (λ i from below. of_key_mono core_of (begun t) (begun (suc t)) core i (begun_rises t i))

  all_done_rise : (t : ℕ) → all_done t ≤ all_done (suc t)
  all_done_rise t = total_mono (of_key core_of (done t) core) (of_key core_of (done (suc t)) core) (length system.tasks) 0
      (λ i from below. of_key_mono core_of (done t) (done (suc t)) core i (done_rises t i))

  all_begun_more : (t i : ℕ) → i < length system.tasks → core_of i ≡ core → begun t i < begun (suc t) i → all_begun t < all_begun (suc t)
  all_begun_more t i is on more = total_more (of_key core_of (begun t) core) (of_key core_of (begun (suc t)) core) (length system.tasks) 0
      (λ j from below. of_key_mono core_of (begun t) (begun (suc t)) core j (begun_rises t j)) i (omega arith) (omega (arith, is))
      (omega (arith, more, of_key_is core_of (begun t) core i on, of_key_is core_of (begun (suc t)) core i on))

  all_done_more : (t i : ℕ) → i < length system.tasks → core_of i ≡ core → done t i < done (suc t) i → all_done t < all_done (suc t)
  all_done_more t i is on more = total_more (of_key core_of (done t) core) (of_key core_of (done (suc t)) core) (length system.tasks) 0
      (λ j from below. of_key_mono core_of (done t) (done (suc t)) core j (done_rises t j)) i (omega arith) (omega (arith, is))
      (omega (arith, more, of_key_is core_of (done t) core i on, of_key_is core_of (done (suc t)) core i on))

  so_far_most : (t : ℕ) → so_far t ≤ core_jobs + core_jobs
  so_far_most t = omega (
    arith,
    total_mono (of_key core_of (begun (suc t)) core) (of_key core_of (λ i. length (jobs_of run i)) core) (length system.tasks) 0
        (λ i from below. of_key_mono core_of (begun (suc t)) (λ j. length (jobs_of run j)) core i (begun_most (jobs_of run i) _)),
    total_mono (of_key core_of (done t) core) (of_key core_of (λ i. length (jobs_of run i)) core) (length system.tasks) 0
        (λ i from below. of_key_mono core_of (done t) (λ j. length (jobs_of run j)) core i (done_most (jobs_of run i) _)),
  )

  -- ---- where the core turns to a task

  begun_next : (i t : ℕ) → i < length system.tasks → core_of i ≡ core → t < run.table.ticks → entry_at run core t ≡ Some i
      → executed system run i (suc t) ≡ suc (executed system run i t)
  begun_next i t is on h runs = executed_more system run i t
      (omega (arith, h, ap (λ c. length (core_entries run c)) on, legal.in_form.ticks core is_core))
      (subst (λ c. entry_at run c t ≡ Some i) (sym on) runs)

  turned : (i t : ℕ) → i < length system.tasks → core_of i ≡ core → suc t < run.table.ticks → entry_at run core (suc t) ≡ Some i
      → Turns system sound run legal i (suc t) → suc (so_far t) ≤ so_far (suc t)
  turned i t is on h runs (begins more) = omega (
    arith,
    all_begun_more (suc t) i is on (omega (arith, more, ap (begun_jobs (jobs_of run i)) (begun_next i (suc t) is on h runs))),
    all_done_rise t,
  )
  turned i t is on h runs (follows j s at is_j cores more) =
      let then : s ≡ t = omega (arith, at) in
      omega (
        arith,
        all_done_more t j is_j (cores ∙ on) (omega (arith, more, ap (λ u. done u j) then)),
        all_begun_rise (suc t),
      )

  entry_of : (t : ℕ) (e : Option ℕ) → t < run.table.ticks → entry_at run core t ≡ e → IsEntryOf system core e
  entry_of t e h runs = subst (IsEntryOf system core) runs (legal.in_form.entries core t is_core h)

  switched : (t : ℕ) (e next : Option ℕ) → suc t < run.table.ticks → entry_at run core t ≡ e → entry_at run core (suc t) ≡ next → e ≢ next
      → lined next + so_far t ≤ so_far (suc t)
  switched t e None h now then other = omega (arith, all_begun_rise (suc t), all_done_rise t)
  switched t e (Some i) h now then other =
      let entry : IsEntryOf system core (Some i) = entry_of (suc t) (Some i) h then in
      omega (
        arith,
        turned i t entry.0 entry.1 h then (turns_later system sound run legal i t entry.0 h
            (λ runs. other (sym now ∙ subst (λ c. entry_at run c t ≡ Some i) entry.1 runs))
            (subst (λ c. entry_at run c (suc t) ≡ Some i) (sym entry.1) then)),
      )

  -- the first tick
  started : (e : Option ℕ) → 0 < run.table.ticks → entry_at run core 0 ≡ e → lined e ≤ so_far 0
  started None h now = omega arith
  started (Some i) h now =
      let entry : IsEntryOf system core (Some i) = entry_of 0 (Some i) h now in
      first i entry.0 entry.1 now (turns_first system sound run legal i entry.0 h (subst (λ c. entry_at run c 0 ≡ Some i) (sym entry.1) now))
    where
      first : (i : ℕ) → i < length system.tasks → core_of i ≡ core → entry_at run core 0 ≡ Some i
          → Turns system sound run legal i 0 → 1 ≤ so_far 0
      first i is on runs (begins more) =
          omega (arith, all_begun_more 0 i is on (omega (arith, more, ap (begun_jobs (jobs_of run i)) (begun_next i 0 is on h runs))))
      first i is on runs (follows j s at is_j cores more) = absurd (omega (arith, at))

  -- ---- the lines of the entries from a tick on

  lines_on : (es : List (Option ℕ)) (e : Option ℕ) (t : ℕ) → t + suc (length es) ≡ run.table.ticks
      → ((s : ℕ) → get_or (e ∷ es) s None ≡ entry_at run core (t + s))
      → lines (stretches_from t (e ∷ es)) + so_far t ≤ lined e + (core_jobs + core_jobs)
  lines_on [] e t last same = omega (arith, so_far_most t)
  lines_on (next ∷ es) e t last same = before
      (lines_on es next (suc t) (omega (arith, last)) (λ s. same (suc s) ∙ ap (entry_at run core) (omega arith)))
      (option_eq eqb e next) refl
    where
      now : entry_at run core t ≡ e
      now = sym (same 0 ∙ ap (entry_at run core) (omega arith))

      then : entry_at run core (suc t) ≡ next
      then = sym (same 1 ∙ ap (entry_at run core) (omega arith))

      before : lines (stretches_from (suc t) (next ∷ es)) + so_far (suc t) ≤ lined next + (core_jobs + core_jobs)
          → (b : Bool) → option_eq eqb e next ≡ b
          → lines (stretches_from t (e ∷ next ∷ es)) + so_far t ≤ lined e + (core_jobs + core_jobs)
      before rest true is = omega (
        arith,
        lines_more t e next es,
        ap (λ b. cond b 0 (lined e)) is,
        rest,
        ap lined (who_same e next is),
        all_begun_rise (suc t),
        all_done_rise t,
      )
      before rest false is = omega (
        arith,
        lines_more t e next es,
        ap (λ b. cond b 0 (lined e)) is,
        rest,
        switched t e next (omega (arith, last)) now then (who_other e next is),
      )

  lines_all : (es : List (Option ℕ)) → core_entries run core ≡ es → lines (stretches_of es) ≤ core_jobs + core_jobs
  unfolding stretches_of
  lines_all [] are = omega arith
  lines_all (e ∷ es) are =
      let ticks : suc (length es) ≡ run.table.ticks = sym (ap length are) ∙ legal.in_form.ticks core is_core in
      let same : (s : ℕ) → get_or (e ∷ es) s None ≡ entry_at run core s = λ s. ap (λ xs. get_or xs s None) (sym are) in
      omega (
        arith,
        lines_on es e 0 (omega (arith, ticks)) (λ s. same s ∙ ap (entry_at run core) (omega arith)),
        started e (omega (arith, ticks)) (sym (same 0)),
      )

  pub core_lines : length (core_items run core) ≤ core_jobs + core_jobs
  core_lines = omega (arith, length-lines (stretches_of (core_entries run core)) 0, lines_all (core_entries run core) refl)
