-- A run is told by the lines of its trace: the jobs of each task by the job lines, and the entries of each core by the
-- run lines.
use Rattle.std.proofs.Common.{◌≡◌, ℕ, zero, suc, ◌+◌, ◌-◌, ◌<◌, ◌≤◌, ◌⊎◌, inl, inr, cond, eqb, Bool, true, false, Option, Some, None, List, [], ◌∷◌, ◌++◌, length, get_or, map, replicate, refl, sym, ap, ◌∙◌, subst, arith}
use Rattle.std.specs.List.{flat_map, range_with_len}
use Rattle.std.proofs.Math.Seq.{get_or-append_right}
use Rattle.std.proofs.lemmas.Bool.{cases_lt, cases_eq}
use Rattle.std.proofs.lemmas.Bool.Decides.{nat_tests}
use Rattle.std.proofs.lemmas.List.{append-nil, get_or_append_left, get_or-replicate, length-replicate, same_lists, get_or_default}
use Rattle.cl_runs.specs.{declared.job.Job.Job, TaskTiming.System, Run.{Run, core_entries, entry_at, IsEntryOf, IsInForm}}
use Rattle.cl_run_data.specs.{declared.stretches.Stretch.Stretch, Stretches.{entries_from, AreLongest, AreStretchesOf}}
use Rattle.cl_run_data.proofs.StretchFacts.{head_of, tail_of}
use Rattle.cl_trace.specs.{Stretches.stretches_of, Trace.{Item, Title, Ticks, JobOf, Runs, End, stretch_item, stretch_items, core_items, job_items, run_items, items_of}, Inner.Bodies.{jobs_in, items_in}}
use Rattle.cl_trace.proofs.LongestStretches.{own_stretches}

-- ---- the jobs of a task among lines

abbrev jobs_from : (task : ℕ) → List Item → List Job
jobs_from task [] = []
jobs_from task (Title ∷ items) = jobs_from task items
jobs_from task (Ticks n ∷ items) = jobs_from task items
jobs_from task (JobOf other job ∷ items) = cond (eqb other task) (job ∷ jobs_from task items) (jobs_from task items)
jobs_from task (Runs other from to ∷ items) = jobs_from task items
jobs_from task (End ∷ items) = jobs_from task items

jobs_append : (task : ℕ) (xs ys : List Item) → jobs_from task (xs ++ ys) ≡ jobs_from task xs ++ jobs_from task ys
jobs_append task [] ys = refl
jobs_append task (Title ∷ xs) ys = jobs_append task xs ys
jobs_append task (Ticks n ∷ xs) ys = jobs_append task xs ys
jobs_append task (JobOf other job ∷ xs) ys = by_test (eqb other task) (jobs_append task xs ys)
  where
    by_test : (own : Bool) → jobs_from task (xs ++ ys) ≡ jobs_from task xs ++ jobs_from task ys
        → cond own (job ∷ jobs_from task (xs ++ ys)) (jobs_from task (xs ++ ys)) ≡ cond own (job ∷ jobs_from task xs) (jobs_from task xs) ++ jobs_from task ys
    by_test true more = ap (λ l. job ∷ l) more
    by_test false more = more
jobs_append task (Runs other from to ∷ xs) ys = jobs_append task xs ys
jobs_append task (End ∷ xs) ys = jobs_append task xs ys

own_test : (i j : ℕ) → i ≡ j → eqb i j ≡ true
own_test i j same = grind (arith, nat_tests)

other_test : (i j : ℕ) → (i ≡ j → ⊥) → eqb i j ≡ false
other_test i j other = grind (arith, nat_tests)

own_jobs : (task : ℕ) (jobs : List Job) → jobs_from task (map (JobOf task) jobs) ≡ jobs
own_jobs task [] = refl
own_jobs task (job ∷ jobs) =
    ap (λ b. cond b (job ∷ jobs_from task (map (JobOf task) jobs)) (jobs_from task (map (JobOf task) jobs))) (own_test task task refl)
    ∙ ap (λ l. job ∷ l) (own_jobs task jobs)

other_jobs : (task other : ℕ) (jobs : List Job) → (other ≡ task → ⊥) → jobs_from task (map (JobOf other) jobs) ≡ []
other_jobs task other [] differ = refl
other_jobs task other (job ∷ jobs) differ =
    ap (λ b. cond b (job ∷ jobs_from task (map (JobOf other) jobs)) (jobs_from task (map (JobOf other) jobs))) (other_test other task differ)
    ∙ other_jobs task other jobs differ

run_jobs : (task : ℕ) (ss : List Stretch) (from : ℕ) → jobs_from task (stretch_items from ss) ≡ []
run_jobs task [] from = refl
run_jobs task (s ∷ ss) from = jobs_append task (stretch_item s.who from s.end) (stretch_items s.end ss) ∙ by_who s.who (run_jobs task ss s.end)
  where
    by_who : (who : Option ℕ) → jobs_from task (stretch_items s.end ss) ≡ []
        → jobs_from task (stretch_item who from s.end) ++ jobs_from task (stretch_items s.end ss) ≡ []
    by_who None more = more
    by_who (Some other) more = more

no_jobs_flat : (task : ℕ) (f : ℕ → List Item) (n a : ℕ) → ((k : ℕ) → jobs_from task (f k) ≡ []) → jobs_from task (flat_map f (range_with_len a n)) ≡ []
no_jobs_flat task f zero a none = refl
no_jobs_flat task f (suc n) a none =
    jobs_append task (f a) (flat_map f (range_with_len (a + 1) n))
    ∙ ap (λ l. l ++ jobs_from task (flat_map f (range_with_len (a + 1) n))) (none a)
    ∙ no_jobs_flat task f n (a + 1) none

module _ (lists : List (List Job)) (task : ℕ) where
  past_jobs : (n a : ℕ) → task < a → jobs_from task (flat_map (items_in lists) (range_with_len a n)) ≡ []
  past_jobs zero a past = refl
  past_jobs (suc n) a past =
      jobs_append task (items_in lists a) (flat_map (items_in lists) (range_with_len (a + 1) n))
      ∙ ap (λ l. l ++ jobs_from task (flat_map (items_in lists) (range_with_len (a + 1) n))) (other_jobs task a (jobs_in lists a) (λ same. omega (arith, same, past)))
      ∙ past_jobs n (a + 1) (omega arith)

  found_jobs : (n a : ℕ) → a ≤ task → task < a + n → jobs_from task (flat_map (items_in lists) (range_with_len a n)) ≡ jobs_in lists task
  found_jobs zero a low high = absurd (omega arith)
  found_jobs (suc n) a low high = elim (cases_eq a task) [
    | inl here ↦ jobs_append task (items_in lists a) (flat_map (items_in lists) (range_with_len (a + 1) n))
        ∙ ap (λ l. l ++ jobs_from task (flat_map (items_in lists) (range_with_len (a + 1) n)))
        (ap (λ k. jobs_from task (items_in lists k)) here ∙ own_jobs task (jobs_in lists task))
        ∙ ap (λ l. jobs_in lists task ++ l) (past_jobs n (a + 1) (omega arith))
        ∙ append-nil (jobs_in lists task)
    | inr later ↦ jobs_append task (items_in lists a) (flat_map (items_in lists) (range_with_len (a + 1) n))
        ∙ ap (λ l. l ++ jobs_from task (flat_map (items_in lists) (range_with_len (a + 1) n))) (other_jobs task a (jobs_in lists a) later)
        ∙ found_jobs n (a + 1) (omega (arith, later)) (omega arith)
  ]

jobs_of_lines : (run : Run) (task : ℕ) → task < length run.table.jobs → jobs_from task (items_of run) ≡ jobs_in run.table.jobs task
unfolding job_items run_items
jobs_of_lines run task is =
    jobs_append task (flat_map (items_in run.table.jobs) (range_with_len 0 (length run.table.jobs)) ++ flat_map (core_items run) (range_with_len 0 (length run.entries))) (End ∷ [])
    ∙ ap (λ l. l ++ []) (jobs_append task (flat_map (items_in run.table.jobs) (range_with_len 0 (length run.table.jobs))) (flat_map (core_items run) (range_with_len 0 (length run.entries))))
    ∙ append-nil (jobs_from task (flat_map (items_in run.table.jobs) (range_with_len 0 (length run.table.jobs))) ++ jobs_from task (flat_map (core_items run) (range_with_len 0 (length run.entries))))
    ∙ ap (λ l. jobs_from task (flat_map (items_in run.table.jobs) (range_with_len 0 (length run.table.jobs))) ++ l)
    (no_jobs_flat task (core_items run) (length run.entries) 0 (λ core. run_jobs task (stretches_of (core_entries run core)) 0))
    ∙ append-nil (jobs_from task (flat_map (items_in run.table.jobs) (range_with_len 0 (length run.table.jobs))))
    ∙ found_jobs run.table.jobs task (length run.table.jobs) 0 (omega arith) (omega arith)

-- ---- which task runs in a tick, among lines

abbrev IsRunAt : (task tick : ℕ) → Item → Type 0
IsRunAt task tick Title = ⊥
IsRunAt task tick (Ticks n) = ⊥
IsRunAt task tick (JobOf other job) = ⊥
IsRunAt task tick (Runs other from to) = (other ≡ task) × (from ≤ tick) × (tick < to)
IsRunAt task tick End = ⊥

abbrev HasRun : (task tick : ℕ) → List Item → Type 0
HasRun task tick [] = ⊥
HasRun task tick (item ∷ items) = IsRunAt task tick item ⊎ HasRun task tick items

module _ (task tick : ℕ) where
  has_first : (xs ys : List Item) → HasRun task tick xs → HasRun task tick (xs ++ ys)
  has_first [] ys has = absurd has
  has_first (x ∷ xs) ys (inl here) = inl here
  has_first (x ∷ xs) ys (inr more) = inr (has_first xs ys more)

  has_second : (xs ys : List Item) → HasRun task tick ys → HasRun task tick (xs ++ ys)
  has_second [] ys has = has
  has_second (x ∷ xs) ys has = inr (has_second xs ys has)

  has_either : (xs ys : List Item) → HasRun task tick (xs ++ ys) → HasRun task tick xs ⊎ HasRun task tick ys
  has_either [] ys has = inr has
  has_either (x ∷ xs) ys (inl here) = inl (inl here)
  has_either (x ∷ xs) ys (inr more) = elim (has_either xs ys more) [ inl first ↦ inl (inr first) | inr second ↦ inr second ]

  no_run_of_jobs : (other : ℕ) (jobs : List Job) → HasRun task tick (map (JobOf other) jobs) → ⊥
  no_run_of_jobs other [] has = has
  no_run_of_jobs other (job ∷ jobs) (inl here) = here
  no_run_of_jobs other (job ∷ jobs) (inr more) = no_run_of_jobs other jobs more

  no_run_flat : (f : ℕ → List Item) (n a : ℕ) → ((k : ℕ) → HasRun task tick (f k) → ⊥) → HasRun task tick (flat_map f (range_with_len a n)) → ⊥
  no_run_flat f zero a none has = has
  no_run_flat f (suc n) a none has = elim (has_either (f a) (flat_map f (range_with_len (a + 1) n)) has) [
    | inl here ↦ none a here
    | inr more ↦ no_run_flat f n (a + 1) none more
  ]

  has_flat : (f : ℕ → List Item) (n a k : ℕ) → a ≤ k → k < a + n → HasRun task tick (f k) → HasRun task tick (flat_map f (range_with_len a n))
  has_flat f zero a k low high has = absurd (omega arith)
  has_flat f (suc n) a k low high has = elim (cases_eq a k) [
    | inl here ↦ has_first (f a) (flat_map f (range_with_len (a + 1) n)) (subst (λ i. HasRun task tick (f i)) (sym here) has)
    | inr later ↦ has_second (f a) (flat_map f (range_with_len (a + 1) n)) (has_flat f n (a + 1) k (omega (arith, later)) (omega arith) has)
  ]

  flat_has : (f : ℕ → List Item) (n a : ℕ) → HasRun task tick (flat_map f (range_with_len a n)) → (k : ℕ) × (k < a + n) × HasRun task tick (f k)
  flat_has f zero a has = absurd has
  flat_has f (suc n) a has = elim (has_either (f a) (flat_map f (range_with_len (a + 1) n)) has) [
    | inl here ↦ (a, omega arith, here)
    | inr more ↦ let found = flat_has f n (a + 1) more in (found.0, omega (arith, found.1), found.2)
  ]

  -- ---- of stretches

  first_part : (s : Stretch) (ss : List Stretch) (from : ℕ) → from ≤ tick → tick < s.end → get_or (entries_from from (s ∷ ss)) (tick - from) None ≡ s.who
  first_part s ss from low high =
      let within : tick - from < s.end - from = omega arith in
      get_or_append_left (replicate (s.end - from) s.who) (entries_from s.end ss) None (tick - from) (omega (arith, within, length-replicate (s.end - from) s.who))
      ∙ get_or-replicate (s.end - from) (tick - from) s.who None within

  later_part : (s : Stretch) (ss : List Stretch) (from : ℕ) → from < s.end → s.end ≤ tick
      → get_or (entries_from from (s ∷ ss)) (tick - from) None ≡ get_or (entries_from s.end ss) (tick - s.end) None
  later_part s ss from some past =
      let size : length (replicate (s.end - from) s.who) ≡ s.end - from = length-replicate (s.end - from) s.who in
      let left : tick - from - length (replicate (s.end - from) s.who) ≡ tick - s.end = omega (arith, size) in
      get_or-append_right (replicate (s.end - from) s.who) (entries_from s.end ss) (tick - from) None (omega (arith, size))
      ∙ ap (λ k. get_or (entries_from s.end ss) k None) left

  line_of_entry : (ss : List Stretch) (from : ℕ) → AreLongest from ss → from ≤ tick → get_or (entries_from from ss) (tick - from) None ≡ Some task
      → HasRun task tick (stretch_items from ss)
  line_of_entry [] from longest low is = absurd (none_is is)
    where
      none_is : None ≡ Some task → ⊥
      none_is same = cc
  line_of_entry (s ∷ ss) from longest low is = elim (cases_lt tick s.end) [
    | inl here ↦ has_first (stretch_item s.who from s.end) (stretch_items s.end ss)
        (subst (λ who. HasRun task tick (stretch_item who from s.end)) (sym (sym (first_part s ss from low here) ∙ is)) (inl (refl, low, here)))
    | inr past ↦ has_second (stretch_item s.who from s.end) (stretch_items s.end ss)
        (line_of_entry ss s.end (tail_of from s ss longest) past (sym (later_part s ss from (head_of from s ss longest) past) ∙ is))
  ]

  entry_of_line : (ss : List Stretch) (from : ℕ) → AreLongest from ss → HasRun task tick (stretch_items from ss)
      → (from ≤ tick) × (get_or (entries_from from ss) (tick - from) None ≡ Some task)
  entry_of_line [] from longest has = absurd has
  entry_of_line (s ∷ ss) from longest has = by_part
      (has_either (stretch_item s.who from s.end) (stretch_items s.end ss) has) (λ more. entry_of_line ss s.end (tail_of from s ss longest) more)
    where
      of_first : (who : Option ℕ) → HasRun task tick (stretch_item who from s.end) → (who ≡ Some task) × (from ≤ tick) × (tick < s.end)
      of_first None has = absurd has
      of_first (Some other) (inl here) = (ap Some here.0, here.1, here.2)
      of_first (Some other) (inr more) = absurd more

      by_part : HasRun task tick (stretch_item s.who from s.end) ⊎ HasRun task tick (stretch_items s.end ss)
          → (HasRun task tick (stretch_items s.end ss) → (s.end ≤ tick) × (get_or (entries_from s.end ss) (tick - s.end) None ≡ Some task))
          → (from ≤ tick) × (get_or (entries_from from (s ∷ ss)) (tick - from) None ≡ Some task)
      by_part (inl here) next =
          let first = of_first s.who here in
          (first.1, first_part s ss from first.1 first.2 ∙ first.0)
      by_part (inr more) next =
          let later = next more in
          let some = head_of from s ss longest in
          (omega (arith, later.0, some), later_part s ss from some later.0 ∙ later.1)

  own_line : (entries : List (Option ℕ)) → get_or entries tick None ≡ Some task → HasRun task tick (stretch_items 0 (stretches_of entries))
  own_line entries is =
      let own : AreStretchesOf entries (stretches_of entries) = own_stretches entries in
      let here : tick - 0 ≡ tick = omega arith in
      line_of_entry (stretches_of entries) 0 own.longest (omega arith)
      (ap (λ k. get_or (entries_from 0 (stretches_of entries)) k None) here ∙ ap (λ es. get_or es tick None) own.entries_are ∙ is)

  own_entry : (entries : List (Option ℕ)) → HasRun task tick (stretch_items 0 (stretches_of entries)) → get_or entries tick None ≡ Some task
  own_entry entries has =
      let own : AreStretchesOf entries (stretches_of entries) = own_stretches entries in
      let here : tick - 0 ≡ tick = omega arith in
      sym (ap (λ es. get_or es tick None) own.entries_are) ∙ ap (λ k. get_or (entries_from 0 (stretches_of entries)) k None) (sym here)
      ∙ (entry_of_line (stretches_of entries) 0 own.longest has).1

  -- ---- of whole runs

  lines_have : (run : Run) (core : ℕ) → core < length run.entries → entry_at run core tick ≡ Some task → HasRun task tick (items_of run)
  unfolding job_items run_items
  lines_have run core is runs = inr (inr (has_first (flat_map (items_in run.table.jobs) (range_with_len 0 (length run.table.jobs)) ++ flat_map (core_items run) (range_with_len 0 (length run.entries))) (End ∷ [])
      (has_second (flat_map (items_in run.table.jobs) (range_with_len 0 (length run.table.jobs))) (flat_map (core_items run) (range_with_len 0 (length run.entries)))
      (has_flat (core_items run) (length run.entries) 0 core (omega arith) (omega arith) (own_line (core_entries run core) runs)))))

  have_lines : (run : Run) → HasRun task tick (items_of run) → (core : ℕ) × (core < length run.entries) × (entry_at run core tick ≡ Some task)
  unfolding job_items run_items
  have_lines run (inl here) = absurd here
  have_lines run (inr (inl here)) = absurd here
  have_lines run (inr (inr more)) = elim (has_either (flat_map (items_in run.table.jobs) (range_with_len 0 (length run.table.jobs)) ++ flat_map (core_items run) (range_with_len 0 (length run.entries))) (End ∷ []) more) [
    | inl body ↦ elim (has_either (flat_map (items_in run.table.jobs) (range_with_len 0 (length run.table.jobs))) (flat_map (core_items run) (range_with_len 0 (length run.entries))) body) [
      | inl jobs ↦ absurd (no_run_flat (items_in run.table.jobs) (length run.table.jobs) 0 (λ k. no_run_of_jobs k (jobs_in run.table.jobs k)) jobs)
      | inr runs ↦
          let found = flat_has (core_items run) (length run.entries) 0 runs in
          (found.0, omega (arith, found.1), own_entry (core_entries run found.0) found.2)
    ]
    | inr end ↦ absurd (no_end end)
  ]
    where
      no_end : HasRun task tick (End ∷ []) → ⊥
      no_end (inl here) = here
      no_end (inr none) = none

-- ---- equal lines, equal runs

module _ (system : System) (one other : Run) (first : IsInForm system one) (second : IsInForm system other) (same : items_of one ≡ items_of other) where
  ticks_same : one.table.ticks ≡ other.table.ticks
  ticks_same = of_lines _ _ _ _ same
    where
      of_lines : (m n : ℕ) (xs ys : List Item) → Title ∷ Ticks m ∷ xs ≡ Title ∷ Ticks n ∷ ys → m ≡ n
      of_lines m n xs ys is = cc

  jobs_same : one.table.jobs ≡ other.table.jobs
  jobs_same = same_lists one.table.jobs other.table.jobs as_many (λ task d below.
      let in_one : get_or one.table.jobs task d ≡ jobs_in one.table.jobs task = get_or_default one.table.jobs task d [] below in
      let in_other : get_or other.table.jobs task d ≡ jobs_in other.table.jobs task = get_or_default other.table.jobs task d [] (omega (arith, below, as_many)) in
      in_one ∙ sym (jobs_of_lines one task below) ∙ ap (jobs_from task) same ∙ jobs_of_lines other task (omega (arith, below, as_many)) ∙ sym in_other)
    where
      as_many : length one.table.jobs ≡ length other.table.jobs
      as_many = first.tasks ∙ sym second.tasks

  module _ (core tick : ℕ) (is : core < system.cores) (below : tick < one.table.ticks) where
    runs_there : (left right : Run) → IsInForm system left → IsInForm system right → items_of left ≡ items_of right → tick < left.table.ticks → tick < right.table.ticks
        → (task : ℕ) → entry_at left core tick ≡ Some task → entry_at right core tick ≡ Some task
    runs_there left right left_form right_form lines in_left in_right task runs =
        let found = have_lines task tick right (subst (HasRun task tick) lines (lines_have task tick left core (omega (arith, is, left_form.cores)) runs)) in
        let here : IsEntryOf system core (Some task) = subst (IsEntryOf system core) runs (left_form.entries core tick is in_left) in
        let there : IsEntryOf system found.0 (Some task) = subst (IsEntryOf system found.0) found.2
        (right_form.entries found.0 tick (omega (arith, found.1, right_form.cores)) in_right) in
        let same_core : found.0 ≡ core = sym there.1 ∙ here.1 in
        subst (λ c. entry_at right c tick ≡ Some task) same_core found.2

    entry_same : entry_at one core tick ≡ entry_at other core tick
    entry_same = by_entries (entry_at one core tick) (entry_at other core tick) refl refl
      where
        by_entries : (e f : Option ℕ) → entry_at one core tick ≡ e → entry_at other core tick ≡ f → e ≡ f
        by_entries None None here there = refl
        by_entries (Some i) f here there =
            sym (runs_there one other first second same below (omega (arith, below, ticks_same)) i here) ∙ there
        by_entries None (Some j) here there =
            sym here ∙ runs_there other one second first (sym same) (omega (arith, below, ticks_same)) below j there

  core_same : (core : ℕ) → core < system.cores → core_entries one core ≡ core_entries other core
  core_same core is = same_lists (core_entries one core) (core_entries other core) (first.ticks core is ∙ ticks_same ∙ sym (second.ticks core is)) (λ tick d below.
      let in_one : tick < one.table.ticks = omega (arith, below, first.ticks core is) in
      get_or_default (core_entries one core) tick d None below ∙ entry_same core tick is in_one
      ∙ sym (get_or_default (core_entries other core) tick d None (omega (arith, in_one, ticks_same, second.ticks core is))))

  entries_same : one.entries ≡ other.entries
  entries_same = same_lists one.entries other.entries (first.cores ∙ sym second.cores) (λ core d below.
      let is : core < system.cores = omega (arith, below, first.cores) in
      get_or_default one.entries core d [] below ∙ core_same core is ∙ sym (get_or_default other.entries core d [] (omega (arith, is, second.cores))))

  pub runs_same : one ≡ other
  runs_same = λ i. record { table = record { ticks = ticks_same i; jobs = jobs_same i }; entries = entries_same i }
