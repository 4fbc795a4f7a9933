-- Each text is the trace of a run, or has a first bad line.
use Rattle.std.proofs.Common.{◌≡◌, ◌≢◌, ℕ, zero, suc, ◌+◌, ◌-◌, ◌<◌, ◌≤◌, ◌⊎◌, inl, inr, Option, None, List, [], ◌∷◌, ◌++◌, length, get_or, map, replicate, set, take, refl, sym, ap, ◌∙◌, subst, arith, append_assoc, length-append}
use Rattle.std.proofs.lemmas.Bool.{cases_lt}
use Rattle.std.proofs.lemmas.List.{get_or-replicate, length-replicate, get_or_past}
use Rattle.std.proofs.lemmas.List.Elements.{All-nil, All-cons}
use Rattle.cl_model.specs.{declared.model.SystemModel.SystemModel, AreNamed.AreNamed, Validity.IsValid}
use Rattle.cl_runs.specs.{declared.job.{Job.Job, JobTable.JobTable}, Run.{Run, core_entries}}
use Rattle.cl_trace.specs.{declared.limits.TheConstants.MOST_TRACE_TICKS, Trace.{Title, Ticks, JobOf, Runs, End, item_text, text_of}, Rules.{IsJobOf, IsTraceOf, IsBadTraceLine}, Inner.Bodies.{AreJobsOf, AreJobLists, entries_appended, AreEntriesOf, AreAllEntriesOf, IsRunWith, AreCores}}
use Rattle.cl_trace.specs.Inner.{Bodies.{IsBody, IsReadSoFar}, Pieces.{AreTasksNamed, newlines}}
use Rattle.cl_trace.proofs.{BadCases.cases_of, BadLines.{no_below, too_long, no_title, no_ticks, read_up_to}, CoreLines.{cores_more, other_core}, Decisions.{Decided, BeginsWith, begins_or_not, some_below, IsNextJob, next_job_or_none, IsNextRun, next_run_or_none}, JobLines.item_longer}
use Rattle.cl_trace.proofs.{JobLines.{no_lists, lists_more}, OneReading.tasks_named, Readings.read_trace_of, RunLines.{no_end, no_entries, entries_more, entries_all}, RunWith.{with_pushed, entries_of_core, cores_same}, StretchItems.{EndsOther, appended_busy}}

-- ---- job lines

module _ (model : SystemModel) where
  record JobsRead (task : ℕ) (text : List ℕ) : Type 0 where
    jobs : List Job
    rest : List ℕ
    are : AreJobsOf model task text jobs rest

  one_more : (task : ℕ) (text : List ℕ) (job : Job) (next : IsNextJob model task text job) → JobsRead task next.1.0 → JobsRead task text
  one_more task text job next more = record {
    jobs = job ∷ more.jobs;
    rest = more.rest;
    are = record {
      of_task = All-cons (IsJobOf model task) job more.jobs next.0 more.are.of_task;
      parts = next.1.1 ∙ ap (λ t. item_text model (JobOf task job) ++ t) more.are.parts
          ∙ sym (append_assoc (item_text model (JobOf task job)) (text_of model (map (JobOf task) more.jobs)) more.rest);
      none_left = more.are.none_left;
    };
  }

  jobs_read : (task : ℕ) → task < length model.tasks → (fuel : ℕ) (text : List ℕ) → length text < fuel → JobsRead task text
  jobs_read task is zero text within = absurd (omega (arith, within))
  jobs_read task is (suc fuel) text within = by_next (next_job_or_none model task is text) (λ rest shorter. jobs_read task is fuel rest (omega (arith, shorter, within)))
    where
      by_next : ((job : Job) × IsNextJob model task text job) ⊎ ((job : Job) → IsNextJob model task text job → ⊥)
          → ((rest : List ℕ) → length rest < length text → JobsRead task rest) → JobsRead task text
      by_next (inl found) further = one_more task text found.0 found.1 (further found.1.1.0 (item_longer model (JobOf task found.0) text found.1.1.0 found.1.1.1))
      by_next (inr none) further = record {
        jobs = [];
        rest = text;
        are = record {
          of_task = All-nil (IsJobOf model task);
          parts = refl;
          none_left = λ job after of_task begins. none job (of_task, (after, begins));
        };
      }

  record ListsRead (count : ℕ) (text : List ℕ) : Type 0 where
    lists : List (List Job)
    rest : List ℕ
    size : length lists ≡ count
    are : AreJobLists model text lists rest

  lists_read : (count : ℕ) (text : List ℕ) → count ≤ length model.tasks → ListsRead count text
  lists_read zero text few = record { lists = []; rest = text; size = refl; are = no_lists model text }
  lists_read (suc count) text few =
      let before = lists_read count text (omega arith) in
      let next = jobs_read count (omega arith) (suc (length before.rest)) before.rest (omega arith) in
      let of_task : AreJobsOf model (length before.lists) before.rest next.jobs next.rest
      = subst (λ t. AreJobsOf model t before.rest next.jobs next.rest) (sym before.size) next.are in
      record {
        lists = before.lists ++ next.jobs ∷ [];
        rest = next.rest;
        size = omega (arith, length-append before.lists (next.jobs ∷ []), before.size);
        are = lists_more model text before.lists before.rest next.jobs next.rest before.are of_task;
      }

  -- ---- run lines

  record EntriesRead (ticks core : ℕ) (text : List ℕ) : Type 0 where
    entries : List (Option ℕ)
    rest : List ℕ
    are : AreAllEntriesOf model ticks core text entries rest

  entries_read : (ticks core : ℕ) (text : List ℕ) (fuel : ℕ) (entries : List (Option ℕ)) (left : List ℕ) → length left < fuel
      → AreEntriesOf model ticks core text entries left → EndsOther entries None → EntriesRead ticks core text
  entries_read ticks core text zero entries left within are busy = absurd (omega (arith, within))
  entries_read ticks core text (suc fuel) entries left within are busy = by_next (next_run_or_none model ticks core entries left)
      (λ task from to next. entries_read ticks core text fuel (entries_appended entries task from to) next.begins.0
      (omega (arith, item_longer model (Runs task from to) left next.begins.0 next.begins.1, within))
      (entries_more model ticks core text entries left are busy task from to next.begins.0 next.within next.fits next.begins.1)
      (appended_busy entries from busy next.fits.after task to next.within.some next.fits.changes))
    where
      by_next : ((task : ℕ) × (from : ℕ) × (to : ℕ) × IsNextRun model ticks core entries left task from to)
          ⊎ ((task from to : ℕ) → IsNextRun model ticks core entries left task from to → ⊥)
          → ((task from to : ℕ) → IsNextRun model ticks core entries left task from to → EntriesRead ticks core text) → EntriesRead ticks core text
      by_next (inl found) further = further found.0 found.1 found.2 found.3
      by_next (inr none) further = record {
        entries = entries ++ replicate (ticks - length entries) None;
        rest = left;
        are = entries_all model ticks core text entries left are busy
            (λ task from to rest within_ticks fits begins. none task from to (record { within = within_ticks; fits = fits; begins = (rest, begins) }));
      }

  record CoresRead (table : JobTable) (count cores : ℕ) (text : List ℕ) : Type 0 where
    run : Run
    rest : List ℕ
    table_is : run.table ≡ table
    size : length run.entries ≡ cores
    empty : (core : ℕ) → count ≤ core → core_entries run core ≡ []
    are : AreCores model table.ticks count text run rest

  no_cores : (table : JobTable) (cores : ℕ) (text : List ℕ) → CoresRead table 0 cores text
  no_cores table cores text = record {
    run = record { table = table; entries = replicate cores [] };
    rest = text;
    table_is = refl;
    size = length-replicate cores (none_yet tt);
    empty = λ core low. empty_at core;
    are = record {
      filled = λ core lt. absurd (omega arith);
      of_core = λ core lt. absurd (omega arith);
      parts = refl;
      none_left = λ task from to after within lt. absurd (omega (arith, lt));
    };
  }
    where
      none_yet : Unit {0} → List (Option ℕ)
      none_yet u = []

      empty_at : (core : ℕ) → get_or (replicate cores (none_yet tt)) core [] ≡ []
      empty_at core = elim (cases_lt core cores) [
        | inl below ↦ get_or-replicate cores core [] [] below
        | inr past ↦ get_or_past (replicate cores (none_yet tt)) core [] (omega (arith, past, length-replicate cores (none_yet tt)))
      ]

  cores_read : (table : JobTable) (cores : ℕ) (text : List ℕ) (count : ℕ) → count ≤ cores → CoresRead table count cores text
  cores_read table cores text zero few = no_cores table cores text
  cores_read table cores text (suc count) few =
      let before = cores_read table cores text count (omega arith) in
      let next = entries_read table.ticks count before.rest (suc (length before.rest)) [] before.rest (omega arith)
      (no_entries model table.ticks count before.rest) (no_end None) in
      let new : Run = record { table = before.run.table; entries = set before.run.entries count next.entries } in
      let with : IsRunWith before.run new count next.entries = with_pushed before.run new count next.entries refl in
      let is : core_entries new count ≡ next.entries
      = entries_of_core before.run new count next.entries with (omega (arith, few, before.size)) in
      let with_own : IsRunWith before.run new count (core_entries new count) = subst (λ es. IsRunWith before.run new count es) (sym is) with in
      let all : AreAllEntriesOf model table.ticks count before.rest (core_entries new count) next.rest
      = subst (λ es. AreAllEntriesOf model table.ticks count before.rest es next.rest) (sym is) next.are in
      let more : AreCores model table.ticks (count + 1) text new next.rest
      = cores_more model table.ticks count text before.rest next.rest before.run new before.are with_own all in
      let next_count : count + 1 ≡ suc count = omega arith in
      record {
        run = new;
        rest = next.rest;
        table_is = before.table_is;
        size = cores_same before.run new count next.entries with ∙ before.size;
        empty = λ core later. other_core model table.ticks count text before.rest next.rest before.run new before.are with_own all core (λ same. omega (arith, same, later))
            ∙ before.empty core (omega arith);
        are = subst (λ k. AreCores model table.ticks k text new next.rest) next_count more;
      }

-- ---- whole texts

abbrev pub HasAnswer : SystemModel → (text : List ℕ) → Type 0
HasAnswer model text = ((run : Run) × IsTraceOf model text run) ⊎ ((line : ℕ) × IsBadTraceLine model text line)

module _ (model : SystemModel) (valid : IsValid model) (named : AreTasksNamed model) (text : List ℕ) where
  ended : (run : Run) (rest : List ℕ) → IsReadSoFar model text run rest → HasAnswer model text
  ended run rest read = by_end (begins_or_not (item_text model End) rest)
    where
      some_left : (byte : ℕ) (bytes : List ℕ) → byte ∷ bytes ≢ []
      some_left byte bytes is = omega (arith, ap length is)

      by_more : (more : List ℕ) → rest ≡ item_text model End ++ more → HasAnswer model text
      by_more [] last = inl (run, read_trace_of model text run rest read last)
      by_more (byte ∷ bytes) last =
          inr (
            newlines (take (length text - length (byte ∷ bytes)) text) + 1,
            cases_of model text _ (too_long model valid named text run rest read _ (byte ∷ bytes) last (some_left byte bytes) refl),
          )

      by_end : Decided (BeginsWith (item_text model End) rest) → HasAnswer model text
      by_end (inl last) = by_more last.0 last.1
      by_end (inr none) =
          inr (
            newlines (take (length text - length rest) text) + 1,
            cases_of model text _ (no_below model valid named text run rest read _ (λ after is. none (after, is)) refl),
          )

  body_of : (ticks : ℕ) → ticks ≤ MOST_TRACE_TICKS → (behind behind_ticks : List ℕ) → text ≡ item_text model Title ++ behind
      → behind ≡ item_text model (Ticks ticks) ++ behind_ticks → HasAnswer model text
  body_of ticks few behind behind_ticks title second =
      let lists = lists_read model (length model.tasks) behind_ticks (omega arith) in
      let table : JobTable = record { ticks = ticks; jobs = lists.lists } in
      let cores = cores_read model table (length model.cores) lists.rest (length model.cores) (omega arith) in
      let body : IsBody model ticks behind_ticks cores.run cores.rest = record {
        ticks_are = ap (λ (t : JobTable). t.ticks) cores.table_is;
        tasks = ap (λ (t : JobTable). length t.jobs) cores.table_is ∙ lists.size;
        cores = cores.size;
        between = lists.rest;
        jobs = subst (λ (t : JobTable). AreJobLists model behind_ticks t.jobs lists.rest) (sym cores.table_is) lists.are;
        runs = cores.are;
      } in
      ended cores.run cores.rest (read_up_to model text behind behind_ticks ticks cores.run cores.rest few title second body)

  ticks_of : (behind : List ℕ) → text ≡ item_text model Title ++ behind → HasAnswer model text
  ticks_of behind title = by_ticks (some_below (λ n. BeginsWith (item_text model (Ticks n)) behind) (λ n. begins_or_not (item_text model (Ticks n)) behind) (suc MOST_TRACE_TICKS))
    where
      by_ticks : ((n : ℕ) × (n < suc MOST_TRACE_TICKS) × BeginsWith (item_text model (Ticks n)) behind)
          ⊎ ((n : ℕ) → n < suc MOST_TRACE_TICKS → BeginsWith (item_text model (Ticks n)) behind → ⊥) → HasAnswer model text
      by_ticks (inl found) = body_of found.0 (omega (arith, found.1)) behind found.2.0 title found.2.1
      by_ticks (inr none) = inr (2, cases_of model text 2 (no_ticks model text behind title (λ ticks after few is. none ticks (omega (arith, few)) (after, is))))

  title_of : HasAnswer model text
  title_of = by_title (begins_or_not (item_text model Title) text)
    where
      by_title : Decided (BeginsWith (item_text model Title) text) → HasAnswer model text
      by_title (inl found) = ticks_of found.0 found.1
      by_title (inr none) = inr (1, cases_of model text 1 (no_title model text (λ after is. none (after, is))))

pub some_answer : (model : SystemModel) → IsValid model → AreNamed model → (text : List ℕ) → HasAnswer model text
some_answer model valid named text = title_of model valid (tasks_named model named) text
