-- The lines of a trace are good ones, with nothing behind the last: so it has no bad line, and its lines are told by
-- it.
use Rattle.std.proofs.Common.{◌≡◌, ℕ, ◌<◌, Option, None, List, [], ◌∷◌, ◌++◌, length, get_or, refl, sym, ap, ◌∙◌, subst, arith}
use Rattle.std.specs.List.{All, flat_map, range_with_len}
use Rattle.std.proofs.lemmas.List.{append-nil, get_or_default}
use Rattle.std.proofs.lemmas.List.Elements.{All-cons, All-append, All-head}
use Rattle.cl_model.specs.{declared.model.SystemModel.SystemModel, ByNumber.task_at, Validity.IsValid}
use Rattle.cl_runs.specs.{declared.job.Job.Job, Table.no_job, Run.{Run, core_entries, IsEntryOf}, SystemOf.system_of}
use Rattle.cl_runs.proofs.ModelSystem.{count_is, range_count_is}
use Rattle.cl_trace.specs.{Stretches.stretches_of, Trace.{Item, Title, Ticks, JobOf, Runs, End, text_of, job_items, run_items, core_items, items_of, spelled}, Rules.{IsOpen, IsAboveJob, IsAboveRun, IsJobOf, MayStand, AreGoodAfter, IsTraceOf, IsBadTraceLine}, Inner.Bodies.jobs_in}
use Rattle.cl_trace.specs.Inner.{Bodies.items_in, Pieces.AreTasksNamed}
use Rattle.cl_trace.proofs.{BadCases.{IsStuckAt, stuck_of}, BadLines.{IsRun, all_flat, jobs_open, runs_only, run_open}, GoodLines.{head_items, good_append, good_body}, OneReading.{IsStuck, lines_once}, RunLines.all_right}

module _ (model : SystemModel) (text : List ℕ) (run : Run) (trace : IsTraceOf model text run) where
  -- its job lines and its run lines
  abbrev table_lines : List Item
  table_lines = flat_map (items_in run.table.jobs) (range_with_len 0 (length run.table.jobs))

  abbrev entry_lines : List Item
  entry_lines = flat_map (core_items run) (range_with_len 0 (length run.entries))

  abbrev lines_above : List Item
  lines_above = head_items run.table.ticks ++ (table_lines ++ entry_lines)

  pub lines_are : items_of run ≡ lines_above ++ End ∷ []
  unfolding job_items run_items
  lines_are = refl

  jobs_are : (task : ℕ) → task < length run.table.jobs → All (IsJobOf model task) (jobs_in run.table.jobs task)
  jobs_are task lt job d below =
      let in_system : task < length (system_of model).tasks = omega (arith, lt, trace.in_form.tasks) in
      let in_model : task < length model.tasks = omega (arith, in_system, count_is model) in
      record {
        is_task = in_model;
        times = times_are task job d in_system in_model below;
        in_range = trace.within.jobs task job d below;
      }
    where
      same_default : (task job : ℕ) (d : Job) → job < length (jobs_in run.table.jobs task)
          → get_or (jobs_in run.table.jobs task) job d ≡ get_or (jobs_in run.table.jobs task) job no_job
      same_default task job d below = get_or_default (jobs_in run.table.jobs task) job d no_job below

      times_are : (task job : ℕ) (d : Job) → task < length (system_of model).tasks → task < length model.tasks → job < length (jobs_in run.table.jobs task)
          → length (get_or (jobs_in run.table.jobs task) job d).times ≡ length (task_at model task).runnables
      times_are task job d in_system in_model below =
          ap (λ (j : Job). length j.times) (same_default task job d below) ∙ trace.in_form.times task job in_system below ∙ range_count_is model task in_model

  good_lines : AreGoodAfter model [] lines_above
  good_lines = good_body model run.table.ticks run run.table.jobs (length run.table.jobs) (length run.entries) trace.within.ticks jobs_are
      (λ core lt tick d below. entry core tick d (omega (arith, lt, trace.in_form.cores)) below)
      (λ core lt. trace.in_form.ticks core (omega (arith, lt, trace.in_form.cores)))
    where
      entry : (core tick : ℕ) (d : Option ℕ) → core < (system_of model).cores → tick < length (core_entries run core)
          → IsEntryOf (system_of model) core (get_or (core_entries run core) tick d)
      entry core tick d is below = subst (IsEntryOf (system_of model) core)
          (get_or_default (core_entries run core) tick None d below)
          (trace.in_form.entries core tick is (omega (arith, below, trace.in_form.ticks core is)))

  open_lines : All IsOpen lines_above
  open_lines = All-cons IsOpen Title (Ticks run.table.ticks ∷ (table_lines ++ entry_lines)) tt (All-cons IsOpen (Ticks run.table.ticks) (table_lines ++ entry_lines) tt
      (All-append IsOpen table_lines entry_lines
      (all_flat IsOpen (items_in run.table.jobs) (length run.table.jobs) 0 (λ task. jobs_open task (jobs_in run.table.jobs task)))
      (λ k d lt. run_open (get_or entry_lines k d) (all_runs k d lt))))
    where
      all_runs : All IsRun entry_lines
      all_runs = all_flat IsRun (core_items run) (length run.entries) 0 (λ core. runs_only (stretches_of (core_entries run core)) 0)

  pub good_trace : AreGoodAfter model [] (lines_above ++ End ∷ [])
  good_trace = good_append model [] lines_above (End ∷ []) good_lines
      (record { ticks = run.table.ticks; head = record { body = table_lines ++ entry_lines; head = refl }; unended = open_lines }, tt)

  last_of : (P : Item → Type 0) → All P (lines_above ++ End ∷ []) → P End
  last_of P all = All-head P End [] (all_right P lines_above (End ∷ []) all)

  -- no line may stand below the last
  closed : (item : Item) → MayStand model (lines_above ++ End ∷ []) item → ⊥
  closed Title stands = no_first (Ticks run.table.ticks ∷ ((table_lines ++ entry_lines) ++ End ∷ [])) stands
    where
      no_first : (xs : List Item) → Title ∷ xs ≡ [] → ⊥
      no_first xs is = cc
  closed (Ticks n) stands = no_second (Ticks run.table.ticks) ((table_lines ++ entry_lines) ++ End ∷ []) stands.0
    where
      no_second : (item : Item) (xs : List Item) → Title ∷ item ∷ xs ≡ Title ∷ [] → ⊥
      no_second item xs is = cc
  closed (JobOf task job) stands = last_of (IsAboveJob task) stands.in_order
  closed (Runs task from to) stands = last_of (IsAboveRun model task from) stands.in_order
  closed End stands = last_of IsOpen stands.unended

  pub none_below_last : IsStuck model ([] ++ (lines_above ++ End ∷ [])) []
  none_below_last item after stands = absurd (closed item stands)

  pub whole : text ≡ text_of model (lines_above ++ End ∷ []) ++ []
  unfolding spelled
  whole = trace.spelled ∙ ap (text_of model) lines_are ∙ sym (append-nil (text_of model (lines_above ++ End ∷ [])))

too_few : (ticks : ℕ) (body : List Item) → [] ≡ Title ∷ Ticks ticks ∷ body → ⊥
too_few ticks body is = omega (arith, ap length is)

module _ (model : SystemModel) (valid : IsValid model) (named : AreTasksNamed model) (text : List ℕ) where
  -- two runs of which a text is the trace have the same lines
  pub same_lines : (one other : Run) → IsTraceOf model text one → IsTraceOf model text other → items_of one ≡ items_of other
  same_lines one other first second =
      let same = lines_once model valid named (lines_above model text one first ++ End ∷ []) (lines_above model text other second ++ End ∷ [])
      [] [] [] (λ ticks head. absurd (too_few ticks head.body head.head)) (good_trace model text one first) (good_trace model text other second)
      (sym (whole model text one first) ∙ whole model text other second) (none_below_last model text one first) (none_below_last model text other second) in
      lines_are model text one first ∙ same.0 ∙ sym (lines_are model text other second)

  -- a trace has no bad line
  pub no_bad_line : (run : Run) (number : ℕ) → IsTraceOf model text run → IsBadTraceLine model text number → ⊥
  no_bad_line run number trace bad = not_stuck (stuck_of model text number bad)
    where
      not_stuck : IsStuckAt model text number → ⊥
      not_stuck stuck =
          let same = lines_once model valid named (lines_above model text run trace ++ End ∷ []) stuck.items
          [] [] stuck.rest (λ ticks head. absurd (too_few ticks head.body head.head)) (good_trace model text run trace) stuck.good
          (sym (whole model text run trace) ∙ stuck.parts) (none_below_last model text run trace) stuck.bad in
          last_of model text run trace IsOpen (subst (All IsOpen) (sym same.0) (stuck.unended (sym same.1)))
