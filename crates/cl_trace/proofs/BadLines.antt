-- The first bad line of a text, behind the lines that were read.
use Rattle.std.proofs.Common.{◌≡◌, ◌≢◌, ℕ, zero, suc, ◌+◌, ◌-◌, ◌<◌, ◌≤◌, inl, inr, Option, Some, None, List, [], ◌∷◌, ◌++◌, length, length-append, get_or, map, take, refl, sym, ap, ◌∙◌, subst, arith}
use Rattle.std.specs.List.{All, flat_map, range_with_len}
use Rattle.std.proofs.lemmas.Bool.{cases_lt}
use Rattle.std.proofs.lemmas.Grind.{flat_map-append}
use Rattle.std.proofs.lemmas.List.{append-nil}
use Rattle.std.proofs.lemmas.List.Elements.{All-nil, All-cons, All-append, All-head}
use Rattle.cl_model.specs.{declared.model.SystemModel.SystemModel, Validity.IsValid}
use Rattle.cl_model.proofs.NamesKnown.{core_within}
use Rattle.cl_runs.specs.{declared.job.Job.Job, Run.Run}
use Rattle.cl_run_data.specs.declared.stretches.Stretch.{Stretch}
use Rattle.cl_trace.specs.{declared.limits.TheConstants.MOST_TRACE_TICKS, Stretches.stretches_of, Trace.{Item, Title, Ticks, JobOf, Runs, End, item_text, text_of, stretch_item, stretch_items, core_items}, Rules.{HasHead, IsOpen, IsAboveJob, IsAboveRun, IsJobLine, IsRunLine, MayStand}}
use Rattle.cl_trace.specs.Inner.{Bodies.{IsBody, IsReadSoFar, jobs_in, items_in}, Pieces.{AreTasksNamed, newlines}}
use Rattle.cl_trace.proofs.{BadCases.IsStuckAt, CoreLines.all_left, GoodLines.{head_items, good_append}, JobLines.{past_last, text_more}, LineCounts.{ends_of_good, number_of_left, same_ticks, newlines_append, title_end, last_end, ticks_end}, Readings.{table_items, entry_items, read_items}}
use Rattle.cl_trace.proofs.{Readings.{read_parts, read_good}, RunLines.all_right}

-- ---- lists of job lines and of run lines

abbrev pub IsRun : Item → Type 0
IsRun (Runs task from to) = Unit {0}
IsRun item = ⊥

pub all_flat : (P : Item → Type 0) (f : ℕ → List Item) (n a : ℕ) → ((k : ℕ) → All P (f k)) → All P (flat_map f (range_with_len a n))
all_flat P f zero a all = All-nil P
all_flat P f (suc n) a all = All-append P (f a) (flat_map f (range_with_len (a + 1) n)) (all a) (all_flat P f n (a + 1) all)

all_at : (P : Item → Type 0) (f : ℕ → List Item) (n a k : ℕ) → a ≤ k → k < a + n → All P (flat_map f (range_with_len a n)) → All P (f k)
all_at P f zero a k low high all = absurd (omega arith)
all_at P f (suc n) a k low high all = elim (cases_lt a k) [
  | inl more ↦ all_at P f n (a + 1) k (omega arith) (omega arith) (all_right P (f a) (flat_map f (range_with_len (a + 1) n)) all)
  | inr here ↦ let same : a ≡ k = omega arith in
      subst (λ i. All P (f i)) same (all_left P (f a) (flat_map f (range_with_len (a + 1) n)) all)
]

pub runs_only : (ss : List Stretch) (from : ℕ) → All IsRun (stretch_items from ss)
runs_only [] from = All-nil IsRun
runs_only (s ∷ ss) from = All-append IsRun (stretch_item s.who from s.end) (stretch_items s.end ss) (of_who s.who) (runs_only ss s.end)
  where
    of_who : (who : Option ℕ) → All IsRun (stretch_item who from s.end)
    of_who None = All-nil IsRun
    of_who (Some task) = All-cons IsRun (Runs task from s.end) [] tt (All-nil IsRun)

pub run_open : (item : Item) → IsRun item → IsOpen item
run_open Title run = tt
run_open (Ticks n) run = tt
run_open (JobOf task job) run = tt
run_open (Runs task from to) run = tt
run_open End run = run

pub jobs_open : (task : ℕ) (jobs : List Job) → All IsOpen (map (JobOf task) jobs)
jobs_open task [] = All-nil IsOpen
jobs_open task (job ∷ jobs) = All-cons IsOpen (JobOf task job) (map (JobOf task) jobs) tt (jobs_open task jobs)

-- a job line may stand below no run line
no_runs : (task : ℕ) (items : List Item) → All IsRun items → All (IsAboveJob task) items → items ≡ []
no_runs task [] runs above = refl
no_runs task (item ∷ items) runs above = absurd (first item (All-head IsRun item items runs) (All-head (IsAboveJob task) item items above))
  where
    first : (item : Item) → IsRun item → IsAboveJob task item → ⊥
    first Title run above = run
    first (Ticks n) run above = run
    first (JobOf other job) run above = run
    first (Runs other from to) run above = above
    first End run above = run

-- nor below a job line of a later task
no_later : (task later : ℕ) (jobs : List Job) → task < later → All (IsAboveJob task) (map (JobOf later) jobs) → jobs ≡ []
no_later task later [] lt above = refl
no_later task later (job ∷ jobs) lt above =
    absurd (too_late (All-head (IsAboveJob task) (JobOf later job) (map (JobOf later) jobs) above))
  where
    too_late : later ≤ task → ⊥
    too_late le = omega arith

-- ---- no line may stand next

module _ (model : SystemModel) (valid : IsValid model) (named : AreTasksNamed model) (text : List ℕ) (run : Run) (rest : List ℕ) (read : IsReadSoFar model text run rest) where
  head_read : HasHead run.table.ticks (read_items model text run rest read)
  head_read = record { body = table_items model text run rest read ++ entry_items model text run rest read; head = refl }

  of_stretches_read : (P : Item → Type 0) → All P (read_items model text run rest read) → All P (entry_items model text run rest read)
  of_stretches_read P all = all_right P (table_items model text run rest read) (entry_items model text run rest read)
      (all_right P (head_items run.table.ticks) (table_items model text run rest read ++ entry_items model text run rest read) all)

  of_table_read : (P : Item → Type 0) → All P (read_items model text run rest read) → All P (table_items model text run rest read)
  of_table_read P all = all_left P (table_items model text run rest read) (entry_items model text run rest read)
      (all_right P (head_items run.table.ticks) (table_items model text run rest read ++ entry_items model text run rest read) all)

  entries_are_runs : All IsRun (entry_items model text run rest read)
  entries_are_runs = all_flat IsRun (core_items run) (length model.cores) 0 (λ core. runs_only (stretches_of (get_or run.entries core [])) 0)

  pub all_open : All IsOpen (read_items model text run rest read)
  all_open = All-append IsOpen (head_items run.table.ticks) (table_items model text run rest read ++ entry_items model text run rest read)
      (All-cons IsOpen Title (Ticks run.table.ticks ∷ []) tt (All-cons IsOpen (Ticks run.table.ticks) [] tt (All-nil IsOpen)))
      (All-append IsOpen (table_items model text run rest read) (entry_items model text run rest read)
      (all_flat IsOpen (items_in run.table.jobs) (length run.table.jobs) 0 (λ task. jobs_open task (jobs_in run.table.jobs task)))
      (λ k d lt. run_open (get_or (entry_items model text run rest read) k d) (entries_are_runs k d lt)))

  no_job : (task : ℕ) (job : Job) (after : List ℕ) → IsJobLine model (read_items model text run rest read) task job → rest ≢ item_text model (JobOf task job) ++ after
  no_job task job after line is =
      read.body.jobs.none_left task job after (omega (arith, line.is_job.is_task, read.body.tasks)) line.is_job later (same_left ∙ is)
    where
      none : entry_items model text run rest read ≡ []
      none = no_runs task (entry_items model text run rest read) entries_are_runs (of_stretches_read (IsAboveJob task) line.in_order)

      same_left : read.body.between ≡ rest
      same_left = read.body.runs.parts ∙ ap (λ items. text_of model items ++ rest) none

      later : (other : ℕ) → task < other → jobs_in run.table.jobs other ≡ []
      later other lt = elim (cases_lt other (length run.table.jobs)) [
        | inl below ↦ no_later task other (jobs_in run.table.jobs other) lt
            (all_at (IsAboveJob task) (items_in run.table.jobs) (length run.table.jobs) 0 other (omega arith) (omega arith) (of_table_read (IsAboveJob task) line.in_order))
        | inr past ↦ past_last run.table.jobs other past
      ]

  no_run : (task from to : ℕ) (after : List ℕ) → IsRunLine model (read_items model text run rest read) task from to → rest ≢ item_text model (Runs task from to) ++ after
  no_run task from to after line =
      let ticks = same_ticks run.table.ticks line.ticks (read_items model text run rest read) head_read line.head in
      read.body.runs.none_left task from to after (record { is_task = line.is_task; some = line.some; in_time = omega (arith, line.in_time, ticks) })
      (core_within model valid task line.is_task) (of_stretches_read (IsAboveRun model task from) line.in_order)

  no_first : (xs : List Item) → Title ∷ xs ≡ [] → ⊥
  no_first xs is = cc

  no_second : (item : Item) (xs : List Item) → Title ∷ item ∷ xs ≡ Title ∷ [] → ⊥
  no_second item xs is = cc

  lines_are : newlines (text_of model (read_items model text run rest read)) ≡ length (read_items model text run rest read)
  lines_are =
      let good = read_good model text run rest read in
      let tail = table_items model text run rest read ++ entry_items model text run rest read in
      omega (
        arith,
        newlines_append (item_text model Title) (item_text model (Ticks run.table.ticks) ++ text_of model tail),
        newlines_append (item_text model (Ticks run.table.ticks)) (text_of model tail),
        title_end model,
        ticks_end model run.table.ticks read.within,
        ends_of_good model named run.table.ticks read.within tail (head_items run.table.ticks) (record { body = []; head = refl }) good.1.1,
      )

  -- the text isn't ended where the last line doesn't stand next
  pub no_below : (number : ℕ) → ((after : List ℕ) → rest ≢ item_text model End ++ after) → number ≡ newlines (take (length text - length rest) text) + 1
      → IsStuckAt model text number
  no_below number unended is = record {
    items = read_items model text run rest read;
    rest = rest;
    good = read_good model text run rest read;
    parts = read_parts model text run rest read;
    bad = λ item after. by_item item after;
    unended = λ none. all_open;
    counted = is ∙ number_of_left text (text_of model (read_items model text run rest read)) rest (length (read_items model text run rest read)) (read_parts model text run rest read) lines_are;
  }
    where
      by_item : (item : Item) (after : List ℕ) → MayStand model (read_items model text run rest read) item → rest ≢ item_text model item ++ after
      by_item Title after stands = absurd (no_first (Ticks run.table.ticks ∷ (table_items model text run rest read ++ entry_items model text run rest read)) stands)
      by_item (Ticks n) after stands = absurd (no_second (Ticks run.table.ticks) (table_items model text run rest read ++ entry_items model text run rest read) stands.0)
      by_item (JobOf task job) after stands = no_job task job after stands
      by_item (Runs task from to) after stands = no_run task from to after stands
      by_item End after stands = unended after

  -- the text goes on after the last line
  pub too_long : (number : ℕ) (more : List ℕ) → rest ≡ item_text model End ++ more → more ≢ [] → number ≡ newlines (take (length text - length more) text) + 1
      → IsStuckAt model text number
  too_long number more last some is = record {
    items = read_items model text run rest read ++ End ∷ [];
    rest = more;
    good = good_append model [] (read_items model text run rest read) (End ∷ []) (read_good model text run rest read)
        (record { ticks = run.table.ticks; head = head_read; unended = all_open }, tt);
    parts = parts;
    bad = λ item after stands. absurd (by_item item stands);
    unended = λ none. absurd (some none);
    counted = is ∙ number_of_left text (text_of model (read_items model text run rest read ++ End ∷ [])) more (length (read_items model text run rest read ++ End ∷ [])) parts lines;
  }
    where
      parts : text ≡ text_of model (read_items model text run rest read ++ End ∷ []) ++ more
      parts = text_more model (read_items model text run rest read) End text rest more (read_parts model text run rest read) last

      lines : newlines (text_of model (read_items model text run rest read ++ End ∷ [])) ≡ length (read_items model text run rest read ++ End ∷ [])
      lines = omega (
        arith,
        ap newlines (flat_map-append (item_text model) (read_items model text run rest read) (End ∷ [])),
        newlines_append (text_of model (read_items model text run rest read)) (item_text model End ++ []),
        newlines_append (item_text model End) [],
        last_end model,
        lines_are,
        length-append (read_items model text run rest read) (End ∷ []),
      )

      last_of : (P : Item → Type 0) → All P (read_items model text run rest read ++ End ∷ []) → P End
      last_of P all = All-head P End [] (all_right P (read_items model text run rest read) (End ∷ []) all)

      by_item : (item : Item) → MayStand model (read_items model text run rest read ++ End ∷ []) item → ⊥
      by_item Title stands = no_first (Ticks run.table.ticks ∷ ((table_items model text run rest read ++ entry_items model text run rest read) ++ End ∷ [])) stands
      by_item (Ticks n) stands = no_second (Ticks run.table.ticks) ((table_items model text run rest read ++ entry_items model text run rest read) ++ End ∷ []) stands.0
      by_item (JobOf task job) stands = last_of (IsAboveJob task) stands.in_order
      by_item (Runs task from to) stands = last_of (IsAboveRun model task from) stands.in_order
      by_item End stands = last_of IsOpen stands.unended

-- ---- the two first lines

module _ (model : SystemModel) (text : List ℕ) where
  -- the first line is bad
  pub no_title : ((after : List ℕ) → text ≢ item_text model Title ++ after) → IsStuckAt model text 1
  no_title other = record {
    items = [];
    rest = text;
    good = tt;
    parts = refl;
    bad = λ item after. by_item item after;
    unended = λ none. All-nil IsOpen;
    counted = refl;
  }
    where
      no_head : (xs : List Item) (x : Item) → [] ≡ x ∷ xs → ⊥
      no_head xs x is = cc

      by_item : (item : Item) (after : List ℕ) → MayStand model [] item → text ≢ item_text model item ++ after
      by_item Title after stands = other after
      by_item (Ticks n) after stands = absurd (no_head [] Title stands.0)
      by_item (JobOf task job) after stands = absurd (no_head (Ticks stands.ticks ∷ stands.head.body) Title stands.head.head)
      by_item (Runs task from to) after stands = absurd (no_head (Ticks stands.ticks ∷ stands.head.body) Title stands.head.head)
      by_item End after stands = absurd (no_head (Ticks stands.ticks ∷ stands.head.body) Title stands.head.head)

  -- the second line is bad
  pub no_ticks : (behind : List ℕ) → text ≡ item_text model Title ++ behind
      → ((ticks : ℕ) (after : List ℕ) → ticks ≤ MOST_TRACE_TICKS → behind ≢ item_text model (Ticks ticks) ++ after) → IsStuckAt model text 2
  no_ticks behind is other = record {
    items = Title ∷ [];
    rest = behind;
    good = (refl, tt);
    parts = is ∙ ap (λ t. t ++ behind) (sym (append-nil (item_text model Title)));
    bad = λ item after. by_item item after;
    unended = λ none. All-cons IsOpen Title [] tt (All-nil IsOpen);
    counted = refl;
  }
    where
      no_more : (x y : Item) (xs : List Item) → x ∷ [] ≡ x ∷ y ∷ xs → ⊥
      no_more x y xs is = cc

      no_none : (x : Item) → x ∷ [] ≡ [] → ⊥
      no_none x is = cc

      by_item : (item : Item) (after : List ℕ) → MayStand model (Title ∷ []) item → behind ≢ item_text model item ++ after
      by_item Title after stands = absurd (no_none Title stands)
      by_item (Ticks n) after stands = other n after stands.1
      by_item (JobOf task job) after stands = absurd (no_more Title (Ticks stands.ticks) stands.head.body stands.head.head)
      by_item (Runs task from to) after stands = absurd (no_more Title (Ticks stands.ticks) stands.head.body stands.head.head)
      by_item End after stands = absurd (no_more Title (Ticks stands.ticks) stands.head.body stands.head.head)

-- what was read behind the two first lines
pub read_up_to : (model : SystemModel) (text behind behind_ticks : List ℕ) (ticks : ℕ) (run : Run) (rest : List ℕ) → ticks ≤ MOST_TRACE_TICKS
    → text ≡ item_text model Title ++ behind → behind ≡ item_text model (Ticks ticks) ++ behind_ticks → IsBody model ticks behind_ticks run rest
    → IsReadSoFar model text run rest
read_up_to model text behind behind_ticks ticks run rest most title second body = record {
  within = omega (arith, most, body.ticks_are);
  behind = behind_ticks;
  head = parts ∙ ap (λ n. text_of model (Title ∷ Ticks n ∷ []) ++ behind_ticks) (sym body.ticks_are);
  body = subst (λ n. IsBody model n behind_ticks run rest) (sym body.ticks_are) body;
}
  where
    parts : text ≡ text_of model (Title ∷ Ticks ticks ∷ []) ++ behind_ticks
    parts = text_more model (Title ∷ []) (Ticks ticks) text behind behind_ticks (title ∙ ap (λ t. t ++ behind) (sym (append-nil (item_text model Title)))) second
