-- The lines of a run within the limits are good ones.
use Rattle.std.proofs.Common.{◌≡◌, ◌≢◌, ℕ, zero, suc, ◌+◌, ◌<◌, ◌≤◌, Option, Some, None, List, [], ◌∷◌, ◌++◌, length, get_or, map, refl, sym, ap, ◌∙◌, subst, arith, append_assoc}
use Rattle.std.specs.List.{All, flat_map, range_with_len}
use Rattle.std.proofs.lemmas.List.{append-nil}
use Rattle.std.proofs.lemmas.List.Elements.{All-nil, All-cons, All-append, All-head, All-tail}
use Rattle.cl_model.specs.{declared.model.SystemModel.SystemModel, ByNumber.core_of}
use Rattle.cl_runs.specs.{declared.job.Job.Job, Run.{Run, core_entries, IsEntryOf}, SystemOf.system_of}
use Rattle.cl_runs.proofs.ModelSystem.{count_is}
use Rattle.cl_run_data.specs.{declared.stretches.Stretch.Stretch, Stretches.AreLongest, Inner.StretchPlaces.end_from}
use Rattle.cl_run_data.proofs.{OneStretchList.end_least, StretchFacts.{head_of, tail_of, length-entries}}
use Rattle.cl_trace.specs.{declared.limits.TheConstants.MOST_TRACE_TICKS, Stretches.stretches_of, Trace.{Item, Title, Ticks, JobOf, Runs, End, stretch_item, stretch_items, core_items}, Rules.{HasHead, IsOpen, IsAboveJob, IsAboveRun, IsJobOf, IsRunLine, AreGoodAfter}, Inner.Bodies.jobs_in}
use Rattle.cl_trace.specs.Inner.Bodies.{items_in}
use Rattle.cl_trace.proofs.{LongestStretches.own_stretches, RunLines.core_is, StretchTasks.of_stretches}

-- good lines, and more of them
pub good_append : (model : SystemModel) (before xs ys : List Item) → AreGoodAfter model before xs → AreGoodAfter model (before ++ xs) ys → AreGoodAfter model before (xs ++ ys)
good_append model before [] ys first second = subst (λ b. AreGoodAfter model b ys) (append-nil before) second
good_append model before (x ∷ xs) ys first second =
    (first.0, good_append model (before ++ x ∷ []) xs ys first.1 (subst (λ b. AreGoodAfter model b ys) (sym (append_assoc before (x ∷ []) xs)) second))

-- the head stays the head
pub head_stays : (ticks : ℕ) (before more : List Item) → HasHead ticks before → HasHead ticks (before ++ more)
head_stays ticks before more has = record { body = has.body ++ more; head = ap (λ b. b ++ more) has.head }

-- what holds of lines and of one more
pub all_more : (P : Item → Type 0) (before : List Item) (item : Item) → All P before → P item → All P (before ++ item ∷ [])
all_more P before item all one = All-append P before (item ∷ []) all (All-cons P item [] one (All-nil P))

all_weaker : (P Q : Item → Type 0) → ((item : Item) → P item → Q item) → (items : List Item) → All P items → All Q items
all_weaker P Q weaker items all k d lt = weaker (get_or items k d) (all k d lt)

-- ---- job lines

above_later : (a b : ℕ) → a ≤ b → (item : Item) → IsAboveJob a item → IsAboveJob b item
above_later a b le Title above = above
above_later a b le (Ticks n) above = above
above_later a b le (JobOf other job) above = omega (arith, above, le)
above_later a b le (Runs other from to) above = absurd above
above_later a b le End above = above

module _ (model : SystemModel) (ticks : ℕ) where
  good_jobs : (task : ℕ) (jobs : List Job) (before : List Item) → HasHead ticks before → All (IsJobOf model task) jobs → All (IsAboveJob task) before
      → AreGoodAfter model before (map (JobOf task) jobs) × All (IsAboveJob task) (before ++ map (JobOf task) jobs)
  good_jobs task [] before head all above = (tt, subst (All (IsAboveJob task)) (sym (append-nil before)) above)
  good_jobs task (job ∷ jobs) before head all above =
      let item = JobOf task job in
      let own : IsAboveJob task (JobOf task job) = omega arith in
      let next = good_jobs task jobs (before ++ JobOf task job ∷ []) (head_stays ticks before (JobOf task job ∷ []) head)
      (All-tail (IsJobOf model task) job jobs all) (all_more (IsAboveJob task) before (JobOf task job) above own) in (
        (record { ticks = ticks; head = head; is_job = All-head (IsJobOf model task) job jobs all; in_order = above }, next.0),
        subst (All (IsAboveJob task)) (append_assoc before (JobOf task job ∷ []) (map (JobOf task) jobs)) next.1,
      )

  pub good_tasks : (lists : List (List Job)) (n a : ℕ) (before : List Item) → HasHead ticks before
      → ((task : ℕ) → task < a + n → All (IsJobOf model task) (jobs_in lists task)) → All (IsAboveJob a) before
      → AreGoodAfter model before (flat_map (items_in lists) (range_with_len a n)) × All (IsAboveJob (a + n)) (before ++ flat_map (items_in lists) (range_with_len a n))
  good_tasks lists zero a before head of above =
      let same : a ≡ a + zero = omega arith in
      (tt, subst (λ k. All (IsAboveJob k) (before ++ [])) same (subst (All (IsAboveJob a)) (sym (append-nil before)) above))
  good_tasks lists (suc n) a before head of above =
      let one = good_jobs a (jobs_in lists a) before head (of a (omega arith)) above in
      let size : (a + 1) + n ≡ a + suc n = omega arith in
      let more = good_tasks lists n (a + 1) (before ++ items_in lists a) (head_stays ticks before (items_in lists a) head) (λ task lt. of task (omega arith))
      (all_weaker (IsAboveJob a) (IsAboveJob (a + 1)) (above_later a (a + 1) (omega arith)) (before ++ items_in lists a) one.1) in (
        good_append model before (items_in lists a) (flat_map (items_in lists) (range_with_len (a + 1) n)) one.0 more.0,
        subst (λ k. All (IsAboveJob k) (before ++ (items_in lists a ++ flat_map (items_in lists) (range_with_len (a + 1) n)))) size
            (subst (All (IsAboveJob ((a + 1) + n))) (append_assoc before (items_in lists a) (flat_map (items_in lists) (range_with_len (a + 1) n))) more.1),
      )

-- ---- run lines

-- lines of cores up to this one, those of this one up to a tick, where only the entry before it may reach to it
abbrev pub IsUpTo : SystemModel → (core from : ℕ) → Option ℕ → Item → Type 0
IsUpTo model core from last (Runs other start end) =
    (core_of model other ≤ core) × (core_of model other ≡ core → (end ≤ from) × (end ≡ from → last ≡ Some other))
IsUpTo model core from last item = IsOpen item

-- a stretch of another task may follow
follows_up_to : (model : SystemModel) (core from task : ℕ) (last : Option ℕ) → core_of model task ≡ core → last ≢ Some task
    → (item : Item) → IsUpTo model core from last item → IsAboveRun model task from item
follows_up_to model core from task last is differs Title up = up
follows_up_to model core from task last is differs (Ticks n) up = up
follows_up_to model core from task last is differs (JobOf other job) up = up
follows_up_to model core from task last is differs (Runs other start end) up = record {
  cores = omega (arith, up.0, is);
  after = λ same. (up.1 (same ∙ is)).0;
  changes = λ same at other_is. differs ((up.1 (same ∙ is)).1 at ∙ ap Some other_is);
}
follows_up_to model core from task last is differs End up = up

-- time goes on, with another last entry
later_up_to : (model : SystemModel) (core from to : ℕ) (last next : Option ℕ) → from < to → (item : Item) → IsUpTo model core from last item → IsUpTo model core to next item
later_up_to model core from to last next lt Title up = up
later_up_to model core from to last next lt (Ticks n) up = up
later_up_to model core from to last next lt (JobOf other job) up = up
later_up_to model core from to last next lt (Runs other start end) up =
    (up.0, λ same. (omega (arith, (up.1 same).0, lt), λ at. absurd (omega (arith, (up.1 same).0, lt, at))))
later_up_to model core from to last next lt End up = up

-- the next core begins
next_up_to : (model : SystemModel) (core from : ℕ) (last : Option ℕ) → (item : Item) → IsUpTo model core from last item → IsUpTo model (core + 1) 0 None item
next_up_to model core from last Title up = up
next_up_to model core from last (Ticks n) up = up
next_up_to model core from last (JobOf other job) up = up
next_up_to model core from last (Runs other start end) up = (omega (arith, up.0), λ same. absurd (omega (arith, up.0, same)))
next_up_to model core from last End up = up

-- the first stretch is of another task than the last entry before it
abbrev pub HeadDiffers : Option ℕ → List Stretch → Type 0
HeadDiffers last [] = Unit {0}
HeadDiffers last (s ∷ ss) = (task : ℕ) → s.who ≡ Some task → last ≢ Some task

none_differs : (ss : List Stretch) → HeadDiffers None ss
none_differs [] = tt
none_differs (s ∷ ss) = λ task is same. none_some task same
  where
    none_some : (task : ℕ) → None ≡ Some task → ⊥
    none_some task same = cc

next_differs : (from : ℕ) (s : Stretch) (ss : List Stretch) (task : ℕ) → s.who ≡ Some task → AreLongest from (s ∷ ss) → HeadDiffers (Some task) ss
next_differs from s [] task is longest = tt
next_differs from s (next ∷ ss) task is longest = λ other next_is same. longest.1 (is ∙ same ∙ sym next_is)

module _ (model : SystemModel) (ticks core : ℕ) where
  good_stretches : (ss : List Stretch) (from : ℕ) (last : Option ℕ) (before : List Item) → HasHead ticks before → AreLongest from ss
      → All (λ (s : Stretch). IsEntryOf (system_of model) core s.who) ss → end_from from ss ≤ ticks → All (IsUpTo model core from last) before → HeadDiffers last ss
      → AreGoodAfter model before (stretch_items from ss) × All (IsUpTo model (core + 1) 0 None) (before ++ stretch_items from ss)
  good_stretches [] from last before head longest of within up differs = (
    tt,
    subst (All (IsUpTo model (core + 1) 0 None)) (sym (append-nil before))
        (all_weaker (IsUpTo model core from last) (IsUpTo model (core + 1) 0 None) (next_up_to model core from last) before up),
  )
  good_stretches (s ∷ ss) from last before head longest of within up differs =
      by_who s.who refl (λ next more more_head more_up more_differs. good_stretches ss s.end next more more_head (tail_of from s ss longest)
      (All-tail (λ (s : Stretch). IsEntryOf (system_of model) core s.who) s ss of) within more_up more_differs)
    where
      some : from < s.end
      some = head_of from s ss longest

      rest_longest : AreLongest s.end ss
      rest_longest = tail_of from s ss longest

      entry : IsEntryOf (system_of model) core s.who
      entry = All-head (λ (s : Stretch). IsEntryOf (system_of model) core s.who) s ss of

      by_who : (who : Option ℕ) → s.who ≡ who
          → ((next : Option ℕ) (more : List Item) → HasHead ticks more → All (IsUpTo model core s.end next) more → HeadDiffers next ss
          → AreGoodAfter model more (stretch_items s.end ss) × All (IsUpTo model (core + 1) 0 None) (more ++ stretch_items s.end ss))
          → AreGoodAfter model before (stretch_item who from s.end ++ stretch_items s.end ss)
          × All (IsUpTo model (core + 1) 0 None) (before ++ (stretch_item who from s.end ++ stretch_items s.end ss))
      by_who None is again = again None before head
          (all_weaker (IsUpTo model core from last) (IsUpTo model core s.end None) (later_up_to model core from s.end last None some) before up) (none_differs ss)
      by_who (Some task) is again =
          let task_entry : IsEntryOf (system_of model) core (Some task) = subst (IsEntryOf (system_of model) core) is entry in
          let on_core = core_is model core task task_entry in
          let own : IsUpTo model core s.end (Some task) (Runs task from s.end) = (omega (arith, on_core), λ same. (omega arith, λ at. refl)) in
          let more = again (Some task) (before ++ Runs task from s.end ∷ []) (head_stays ticks before (Runs task from s.end ∷ []) head)
          (all_more (IsUpTo model core s.end (Some task)) before (Runs task from s.end)
          (all_weaker (IsUpTo model core from last) (IsUpTo model core s.end (Some task)) (later_up_to model core from s.end last (Some task) some) before up) own)
          (next_differs from s ss task is longest) in
          let line : IsRunLine model before task from s.end = record {
            ticks = ticks;
            head = head;
            is_task = omega (arith, task_entry.0, count_is model);
            some = some;
            in_time = omega (arith, within, end_least ss s.end rest_longest);
            in_order = all_weaker (IsUpTo model core from last) (IsAboveRun model task from) (follows_up_to model core from task last on_core (differs task is)) before up;
          } in (
            (line, more.0),
            subst (All (IsUpTo model (core + 1) 0 None)) (append_assoc before (Runs task from s.end ∷ []) (stretch_items s.end ss)) more.1,
          )

module _ (model : SystemModel) (ticks : ℕ) (run : Run) where
  good_core : (core : ℕ) (before : List Item) → HasHead ticks before → All (IsEntryOf (system_of model) core) (core_entries run core)
      → length (core_entries run core) ≡ ticks → All (IsUpTo model core 0 None) before
      → AreGoodAfter model before (core_items run core) × All (IsUpTo model (core + 1) 0 None) (before ++ core_items run core)
  good_core core before head of filled up =
      let own = own_stretches (core_entries run core) in
      good_stretches model ticks core (stretches_of (core_entries run core)) 0 None before head own.longest
      (of_stretches (IsEntryOf (system_of model) core) (stretches_of (core_entries run core)) 0 own.longest (subst (All (IsEntryOf (system_of model) core)) (sym own.entries_are) of))
      (omega (arith, length-entries (stretches_of (core_entries run core)) 0 own.longest, ap length own.entries_are, filled)) up (none_differs (stretches_of (core_entries run core)))

  pub good_cores : (n a : ℕ) (before : List Item) → HasHead ticks before
      → ((core : ℕ) → core < a + n → All (IsEntryOf (system_of model) core) (core_entries run core))
      → ((core : ℕ) → core < a + n → length (core_entries run core) ≡ ticks) → All (IsUpTo model a 0 None) before
      → AreGoodAfter model before (flat_map (core_items run) (range_with_len a n))
  good_cores zero a before head of filled up = tt
  good_cores (suc n) a before head of filled up =
      let one = good_core a before head (of a (omega arith)) (filled a (omega arith)) up in
      good_append model before (core_items run a) (flat_map (core_items run) (range_with_len (a + 1) n)) one.0
      (good_cores n (a + 1) (before ++ core_items run a) (head_stays ticks before (core_items run a) head) (λ core lt. of core (omega arith)) (λ core lt. filled core (omega arith)) one.1)

-- job lines are up to the first core
jobs_up_to : (model : SystemModel) (n : ℕ) (item : Item) → IsAboveJob n item → IsUpTo model 0 0 None item
jobs_up_to model n Title above = above
jobs_up_to model n (Ticks m) above = above
jobs_up_to model n (JobOf other job) above = tt
jobs_up_to model n (Runs other from to) above = absurd above
jobs_up_to model n End above = above

-- the two first lines
abbrev pub head_items : (ticks : ℕ) → List Item
head_items ticks = Title ∷ Ticks ticks ∷ []

-- all lines of a run but the last
pub good_body : (model : SystemModel) (ticks : ℕ) (run : Run) (lists : List (List Job)) (tasks cores : ℕ) → ticks ≤ MOST_TRACE_TICKS
    → ((task : ℕ) → task < tasks → All (IsJobOf model task) (jobs_in lists task))
    → ((core : ℕ) → core < cores → All (IsEntryOf (system_of model) core) (core_entries run core))
    → ((core : ℕ) → core < cores → length (core_entries run core) ≡ ticks)
    → AreGoodAfter model [] (head_items ticks ++ (flat_map (items_in lists) (range_with_len 0 tasks) ++ flat_map (core_items run) (range_with_len 0 cores)))
good_body model ticks run lists tasks cores within jobs entries filled =
    let head : HasHead ticks (head_items ticks) = record { body = []; head = refl } in
    let first : AreGoodAfter model [] (head_items ticks) = (refl, ((refl, within), tt)) in
    let above : All (IsAboveJob 0) (head_items ticks) = All-cons (IsAboveJob 0) Title (Ticks ticks ∷ []) tt (All-cons (IsAboveJob 0) (Ticks ticks) [] tt (All-nil (IsAboveJob 0))) in
    let table = good_tasks model ticks lists tasks 0 (head_items ticks) head (λ task lt. jobs task (omega arith)) above in
    let items = flat_map (items_in lists) (range_with_len 0 tasks) in
    good_append model [] (head_items ticks) (items ++ flat_map (core_items run) (range_with_len 0 cores)) first
    (good_append model (head_items ticks) items (flat_map (core_items run) (range_with_len 0 cores)) table.0
    (good_cores model ticks run cores 0 (head_items ticks ++ items) (head_stays ticks (head_items ticks) items head)
    (λ core lt. entries core (omega arith)) (λ core lt. filled core (omega arith))
    (all_weaker (IsAboveJob (0 + tasks)) (IsUpTo model 0 0 None) (jobs_up_to model (0 + tasks)) (head_items ticks ++ items) table.1)))
