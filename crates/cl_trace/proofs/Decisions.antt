-- Which line stands next in a text can be decided: by a search over all that may stand there.
use Rattle.std.proofs.Common.{◌≡◌, ◌≢◌, ℕ, zero, suc, ◌+◌, ◌<◌, ◌⊎◌, inl, inr, Option, Some, None, List, [], ◌∷◌, ◌++◌, length, get_or, refl, ap, ◌∙◌, subst, arith}
use Rattle.std.specs.List.{All}
use Rattle.std.proofs.lemmas.Bool.{cases_lt, cases_eq}
use Rattle.std.proofs.lemmas.List.Elements.{All-nil, All-cons, All-head, All-tail}
use Rattle.cl_model.specs.{declared.model.SystemModel.SystemModel, ByNumber.{task_at, core_of}}
use Rattle.cl_runs.specs.declared.job.Job.{Job}
use Rattle.cl_runs.proofs.{Executed.cases_entry, FirstBelow.both_or_not}
use Rattle.cl_trace.specs.{declared.limits.TheConstants.MOST_TRACE_NUMBER, Trace.{JobOf, Runs, item_text}, Rules.IsJobOf, Inner.Bodies.{IsStretchWithin, FitsEntries}}

-- something holds, or it doesn't
abbrev pub Decided : Type 0 → Type 0
Decided A = A ⊎ (A → ⊥)

-- a text begins with another
abbrev pub BeginsWith : (first text : List ℕ) → Type 0
BeginsWith first text = (after : List ℕ) × (text ≡ first ++ after)

pub begins_or_not : (first text : List ℕ) → Decided (BeginsWith first text)
begins_or_not [] text = inl (text, refl)
begins_or_not (x ∷ first) [] = inr (λ begins. omega (arith, ap length begins.1))
begins_or_not (x ∷ first) (y ∷ text) = by_head (cases_eq y x) (begins_or_not first text)
  where
    tails : (a b : ℕ) (xs ys : List ℕ) → a ∷ xs ≡ b ∷ ys → xs ≡ ys
    tails a b xs ys is = cc

    heads : (a b : ℕ) (xs ys : List ℕ) → a ∷ xs ≡ b ∷ ys → a ≡ b
    heads a b xs ys is = cc

    by_head : (y ≡ x) ⊎ (y ≡ x → ⊥) → Decided (BeginsWith first text) → Decided (BeginsWith (x ∷ first) (y ∷ text))
    by_head (inl same) (inl begins) = inl (begins.0, ap (λ a. a ∷ text) same ∙ ap (λ l. x ∷ l) begins.1)
    by_head (inl same) (inr not) = inr (λ begins. not (begins.0, tails y x text (first ++ begins.0) begins.1))
    by_head (inr other) more = inr (λ begins. other (heads y x text (first ++ begins.0) begins.1))

-- ---- searches below a bound

pub some_below : (P : ℕ → Type 0) → ((n : ℕ) → Decided (P n)) → (bound : ℕ)
    → ((n : ℕ) × (n < bound) × P n) ⊎ ((n : ℕ) → n < bound → P n → ⊥)
some_below P decide zero = inr (λ n below. absurd (omega arith))
some_below P decide (suc bound) = by_last (decide bound) (some_below P decide bound)
  where
    by_last : Decided (P bound) → ((n : ℕ) × (n < bound) × P n) ⊎ ((n : ℕ) → n < bound → P n → ⊥)
        → ((n : ℕ) × (n < suc bound) × P n) ⊎ ((n : ℕ) → n < suc bound → P n → ⊥)
    by_last (inl holds) more = inl (bound, omega arith, holds)
    by_last (inr not) (inl found) = inl (found.0, omega (arith, found.1), found.2)
    by_last (inr not) (inr none) = inr (λ n below holds. elim (cases_eq n bound) [
      | inl last ↦ not (subst P last holds)
      | inr other ↦ none n (omega (arith, other)) holds
    ])

abbrev AreBelow : (bound : ℕ) → List ℕ → Type 0
AreBelow bound ns = All (λ n. n < bound) ns

-- lists of so many numbers below a bound
record IsListBelow (bound count : ℕ) (P : List ℕ → Type 0) (ns : List ℕ) : Type 0 where
  size : length ns ≡ count
  below : AreBelow bound ns
  holds : P ns

abbrev HasList : (bound count : ℕ) → (List ℕ → Type 0) → Type 0
HasList bound count P = (ns : List ℕ) × IsListBelow bound count P ns

some_list : (bound count : ℕ) (P : List ℕ → Type 0) → ((ns : List ℕ) → Decided (P ns)) → Decided (HasList bound count P)
some_list bound zero P decide = elim (decide []) [
  | inl holds ↦ inl ([], record { size = refl; below = All-nil (λ n. n < bound); holds = holds })
  | inr not ↦ inr (λ found. not (subst P (none found.0 found.1.size) found.1.holds))
]
  where
    none : (ns : List ℕ) → length ns ≡ 0 → ns ≡ []
    none [] size = refl
    none (n ∷ ns) size = absurd (omega (arith, size))
some_list bound (suc count) P decide = by_first
    (some_below (λ n. HasList bound count (λ more. P (n ∷ more))) (λ n. some_list bound count (λ more. P (n ∷ more)) (λ more. decide (n ∷ more))) bound)
  where
    found_in : (ns : List ℕ) → IsListBelow bound (suc count) P ns → (n : ℕ) × (n < bound) × HasList bound count (λ more. P (n ∷ more))
    found_in [] list = absurd (omega (arith, list.size))
    found_in (n ∷ ns) list = (
      n,
      All-head (λ k. k < bound) n ns list.below,
      (
        ns,
        record {
          size = omega (arith, list.size);
          below = All-tail (λ k. k < bound) n ns list.below;
          holds = list.holds;
        },
      ),
    )

    by_first : ((n : ℕ) × (n < bound) × HasList bound count (λ more. P (n ∷ more)))
        ⊎ ((n : ℕ) → n < bound → HasList bound count (λ more. P (n ∷ more)) → ⊥)
        → Decided (HasList bound (suc count) P)
    by_first (inl found) =
        let more = found.2.1 in
        inl (
          found.0 ∷ found.2.0,
          record {
            size = omega (arith, more.size);
            below = All-cons (λ k. k < bound) found.0 found.2.0 found.1 more.below;
            holds = more.holds;
          },
        )
    by_first (inr none) = inr (λ list. let found = found_in list.0 list.1 in none found.0 found.1 found.2)

-- ---- job lines

-- the line of a job of a task stands next
abbrev pub IsNextJob : SystemModel → (task : ℕ) → (text : List ℕ) → Job → Type 0
IsNextJob model task text job = IsJobOf model task job × BeginsWith (item_text model (JobOf task job)) text

module _ (model : SystemModel) (task : ℕ) (is_task : task < length model.tasks) (text : List ℕ) where
  abbrev job_with : (arrival release : ℕ) (times : List ℕ) → Job
  job_with arrival release times = record { arrival = arrival; release = release; times = times }

  abbrev times_count : ℕ
  times_count = length (task_at model task).runnables

  abbrev HasTimes : (arrival release : ℕ) → Type 0
  HasTimes arrival release = HasList (suc MOST_TRACE_NUMBER) times_count (λ ts. BeginsWith (item_text model (JobOf task (job_with arrival release ts))) text)

  some_times : (arrival release : ℕ) → Decided (HasTimes arrival release)
  some_times arrival release = some_list (suc MOST_TRACE_NUMBER) times_count
      (λ ts. BeginsWith (item_text model (JobOf task (job_with arrival release ts))) text)
      (λ ts. begins_or_not (item_text model (JobOf task (job_with arrival release ts))) text)

  abbrev HasRelease : (arrival : ℕ) → Type 0
  HasRelease arrival = (release : ℕ) × (release < suc MOST_TRACE_NUMBER) × HasTimes arrival release

  some_release : (arrival : ℕ) → Decided (HasRelease arrival)
  some_release arrival = by_search (some_below (HasTimes arrival) (some_times arrival) (suc MOST_TRACE_NUMBER))
    where
      by_search : HasRelease arrival ⊎ ((release : ℕ) → release < suc MOST_TRACE_NUMBER → HasTimes arrival release → ⊥) → Decided (HasRelease arrival)
      by_search (inl found) = inl found
      by_search (inr none) = inr (λ found. none found.0 found.1 found.2)

  pub next_job_or_none : ((job : Job) × IsNextJob model task text job) ⊎ ((job : Job) → IsNextJob model task text job → ⊥)
  next_job_or_none = by_search (some_below HasRelease some_release (suc MOST_TRACE_NUMBER))
    where
      parts_of : (job : Job) → IsNextJob model task text job → HasTimes job.arrival job.release
      parts_of job next = (
        job.times,
        record {
          size = next.0.times;
          below = λ k d lt. omega (arith, next.0.in_range.times k d lt);
          holds = next.1;
        },
      )

      by_search : ((arrival : ℕ) × (arrival < suc MOST_TRACE_NUMBER) × HasRelease arrival)
          ⊎ ((arrival : ℕ) → arrival < suc MOST_TRACE_NUMBER → HasRelease arrival → ⊥)
          → ((job : Job) × IsNextJob model task text job) ⊎ ((job : Job) → IsNextJob model task text job → ⊥)
      by_search (inl found) =
          let release = found.2 in
          let times = release.2 in
          inl (
            job_with found.0 release.0 times.0,
            (
              record {
                is_task = is_task;
                times = times.1.size;
                in_range = record {
                  arrival = omega (arith, found.1);
                  release = omega (arith, release.1);
                  times = λ k d lt. omega (arith, times.1.below k d lt);
                };
              },
              times.1.holds,
            ),
          )
      by_search (inr none) = inr (λ job next.
          none job.arrival (omega (arith, next.0.in_range.arrival))
          (job.release, omega (arith, next.0.in_range.release), parts_of job next))

-- ---- run lines

lt_or_not : (m n : ℕ) → Decided (m < n)
lt_or_not m n = elim (cases_lt m n) [ inl less ↦ inl less | inr not ↦ inr (λ less. omega arith) ]

module _ (model : SystemModel) (core : ℕ) (entries : List (Option ℕ)) (task from : ℕ) where
  abbrev IsChange : Type 0
  IsChange = (tick : ℕ) → tick + 1 ≡ length entries → length entries ≡ from → get_or entries tick None ≢ Some task

  changes_or_not : Decided IsChange
  changes_or_not = by_start (cases_eq (length entries) from)
    where
      by_length : (es : List (Option ℕ)) → length es ≡ length entries → length entries ≡ from → Decided IsChange
      by_length [] size there = inl (λ tick end at. absurd (omega (arith, size, end)))
      by_length (e ∷ es) size there = elim (cases_entry task (get_or entries (length es) None)) [
        | inl runs ↦ inr (λ changes. changes (length es) (omega (arith, size)) there runs)
        | inr rests ↦ inl (λ tick end at is. rests (subst (λ t. get_or entries t None ≡ Some task) (omega (arith, end, size)) is))
      ]

      by_start : (length entries ≡ from) ⊎ (length entries ≡ from → ⊥) → Decided IsChange
      by_start (inl there) = by_length entries refl there
      by_start (inr apart) = inl (λ tick end at. absurd (apart at))

  fits_or_not : Decided (FitsEntries model core entries task from)
  fits_or_not = by_parts (both_or_not (cases_eq (core_of model task) core) (both_or_not (lt_or_not (length entries) (suc from)) changes_or_not))
    where
      by_parts : Decided ((core_of model task ≡ core) × ((length entries < suc from) × IsChange)) → Decided (FitsEntries model core entries task from)
      by_parts (inl parts) = inl (record { on_core = parts.0; after = omega (arith, parts.1.0); changes = parts.1.1 })
      by_parts (inr not) = inr (λ fits. not (fits.on_core, (omega (arith, fits.after), fits.changes)))

module _ (model : SystemModel) (ticks core : ℕ) (entries : List (Option ℕ)) (text : List ℕ) where
  pub record IsNextRun (task from to : ℕ) : Type 0 where
    pub within : IsStretchWithin model ticks task from to
    pub fits : FitsEntries model core entries task from
    pub begins : BeginsWith (item_text model (Runs task from to)) text

  next_or_not : (task from to : ℕ) → task < length model.tasks → Decided ((from < to) × ((to < suc ticks) × (FitsEntries model core entries task from × BeginsWith (item_text model (Runs task from to)) text)))
  next_or_not task from to is_task = both_or_not (lt_or_not from to) (both_or_not (lt_or_not to (suc ticks))
      (both_or_not (fits_or_not model core entries task from) (begins_or_not (item_text model (Runs task from to)) text)))

  run_or_not : (task from to : ℕ) → Decided (IsNextRun task from to)
  run_or_not task from to = elim (cases_lt task (length model.tasks)) [
    | inl is_task ↦ by_parts is_task (next_or_not task from to is_task)
    | inr past ↦ inr (λ next. omega (arith, next.within.is_task, past))
  ]
    where
      by_parts : task < length model.tasks → Decided ((from < to) × ((to < suc ticks) × (FitsEntries model core entries task from × BeginsWith (item_text model (Runs task from to)) text)))
          → Decided (IsNextRun task from to)
      by_parts is_task (inl parts) = inl (record {
        within = record { is_task = is_task; some = parts.0; in_time = omega (arith, parts.1.0) };
        fits = parts.1.1.0;
        begins = parts.1.1.1;
      })
      by_parts is_task (inr not) = inr (λ next. not (next.within.some, (omega (arith, next.within.in_time), (next.fits, next.begins))))

  abbrev HasTo : (task from : ℕ) → Type 0
  HasTo task from = (to : ℕ) × (to < suc ticks) × IsNextRun task from to

  some_to : (task from : ℕ) → Decided (HasTo task from)
  some_to task from = by_search (some_below (IsNextRun task from) (run_or_not task from) (suc ticks))
    where
      by_search : HasTo task from ⊎ ((to : ℕ) → to < suc ticks → IsNextRun task from to → ⊥) → Decided (HasTo task from)
      by_search (inl found) = inl found
      by_search (inr none) = inr (λ found. none found.0 found.1 found.2)

  abbrev HasFrom : (task : ℕ) → Type 0
  HasFrom task = (from : ℕ) × (from < suc ticks) × HasTo task from

  some_from : (task : ℕ) → Decided (HasFrom task)
  some_from task = by_search (some_below (HasTo task) (some_to task) (suc ticks))
    where
      by_search : HasFrom task ⊎ ((from : ℕ) → from < suc ticks → HasTo task from → ⊥) → Decided (HasFrom task)
      by_search (inl found) = inl found
      by_search (inr none) = inr (λ found. none found.0 found.1 found.2)

  pub next_run_or_none : ((task : ℕ) × (from : ℕ) × (to : ℕ) × IsNextRun task from to) ⊎ ((task from to : ℕ) → IsNextRun task from to → ⊥)
  next_run_or_none = by_search (some_below HasFrom some_from (length model.tasks))
    where
      by_search : ((task : ℕ) × (task < length model.tasks) × HasFrom task) ⊎ ((task : ℕ) → task < length model.tasks → HasFrom task → ⊥)
          → ((task : ℕ) × (from : ℕ) × (to : ℕ) × IsNextRun task from to) ⊎ ((task from to : ℕ) → IsNextRun task from to → ⊥)
      by_search (inl found) =
          let from = found.2 in
          let to = from.2 in
          inl (found.0, from.0, to.0, to.2)
      by_search (inr none) = inr (λ task from to next.
          none task next.within.is_task
          (from, omega (arith, next.within.some, next.within.in_time), (to, omega (arith, next.within.in_time), next)))
