-- Putting the tasks of a run apart, stretch by stretch and core by core.
use Rattle.std.proofs.Common.{◌≡◌, ◌≢◌, ℕ, ◌+◌, ◌-◌, ◌<◌, ◌≤◌, inl, inr, Option, Some, None, false, List, [], ◌++◌, replicate, length, get_or, set, take, refl, sym, ap, ◌∙◌, subst, arith, length-append}
use Rattle.std.specs.Prelude.{◌==◌}
use Rattle.std.proofs.lemmas.Bool.{cases_lt, cases_eq, eqb-true, false_from_ne_true}
use Rattle.std.proofs.lemmas.List.{get_or-set_same, get_or-set_other, set-set, length-set, length-replicate, length-take-le, get_or_append_left, get_or-append_right, get_or-replicate, get_or-take, get_or_past, take_all}
use Rattle.cl_runs.specs.{declared.job.JobTable.JobTable, TaskTiming.{System, timing_at, IsSound}, Run.{Run, core_entries, entry_at, is_task, IsEntryOf, IsInForm}}
use Rattle.cl_run_data.specs.declared.stretches.Stretch.{Stretch}
use Rattle.cl_check.specs.{Apart.{RunsAlike, StandApart}, Inner.{Following.Lasts, PutApart.{with_ticks, HasList, HasTicks, TakesTicks, AreApartUpTo}}}

-- ---- runs whose list of one task is replaced

list_pushed : (old new : Run) (task : ℕ) (entries : List (Option ℕ)) → new ≡ record old { entries = set old.entries task entries } → HasList old new task entries
list_pushed old new task entries is = record { table = ap (λ (r : Run). r.table) is; entries_are = ap (λ (r : Run). r.entries) is }

module _ (old new : Run) (task : ℕ) (entries : List (Option ℕ)) (is : HasList old new task entries) where
  pub list_is : task < length old.entries → core_entries new task ≡ entries
  list_is lt = ap (λ es. get_or es task []) is.entries_are ∙ get_or-set_same old.entries task entries [] lt

  pub list_other : (other : ℕ) → other ≢ task → core_entries new other ≡ core_entries old other
  list_other other ne = ap (λ es. get_or es other []) is.entries_are ∙ get_or-set_other old.entries task other entries [] ne

  pub lists_same : length new.entries ≡ length old.entries
  lists_same = ap length is.entries_are ∙ length-set old.entries task entries

-- what two pushes make
pub list_twice : (old mid new : Run) (task : ℕ) (a b : List (Option ℕ)) → task < length old.entries
    → mid ≡ record old { entries = set old.entries task (core_entries old task ++ a) } → new ≡ record mid { entries = set mid.entries task (core_entries mid task ++ b) }
    → HasList old new task ((core_entries old task ++ a) ++ b)
list_twice old mid new task a b lt first second =
    let one = list_pushed old mid task (core_entries old task ++ a) first in
    let two = list_pushed mid new task (core_entries mid task ++ b) second in
    let both : HasList old new task (core_entries mid task ++ b)
    = record {
      table = two.table ∙ one.table;
      entries_are = two.entries_are ∙ ap (λ es. set es task (core_entries mid task ++ b)) one.entries_are
          ∙ set-set old.entries task (core_entries old task ++ a) (core_entries mid task ++ b);
    } in
    subst (λ es. HasList old new task (es ++ b)) (list_is old mid task (core_entries old task ++ a) one lt) both

-- ---- the ticks of one task

not_task : (task other : ℕ) → other ≢ task → is_task task (Some other) ≡ false
not_task task other ne = false_from_ne_true (other == task) (λ is. ne (eqb-true other task is))

-- past the end nothing runs
past : (entries : List (Option ℕ)) (task tick : ℕ) → length entries ≤ tick → is_task task (get_or entries tick None) ≡ false
past entries task tick after = ap (is_task task) (get_or_past entries tick None after)

module _ (task : ℕ) (mine whole : List (Option ℕ)) (from end : ℕ) (ahead : from ≤ end) (within : end ≤ length whole)
    (alike : RunsAlike task mine (take from whole)) (short : length mine ≤ from) where
  first : length (take from whole) ≡ from
  first = length-take-le from whole (omega (arith, ahead, within))

  -- a list from which the ticks of a stretch are missing in which the task doesn't run
  pub alike_longer : ((t : ℕ) → from ≤ t → t < end → is_task task (get_or whole t None) ≡ false) → RunsAlike task mine (take end whole)
  alike_longer other tick = elim (cases_lt tick from) [
    | inl old ↦ alike tick ∙ ap (is_task task) (get_or-take from whole tick None old ∙ sym (get_or-take end whole tick None (omega (arith, old, ahead))))
    | inr new ↦ past mine task tick (omega (arith, new, short)) ∙ sym (elim (cases_lt tick end) [
      | inl below ↦ ap (is_task task) (get_or-take end whole tick None below) ∙ other tick (omega (arith, new)) below
      | inr over ↦ past (take end whole) task tick (omega (arith, over, length-take-le end whole within))
    ])
  ]

  idled : length (mine ++ replicate (from - length mine) None) ≡ from
  idled =
      let idle : Option ℕ = None in
      omega (arith, length-append mine (replicate (from - length mine) None), length-replicate (from - length mine) idle, short)

  pub full_length : length (with_ticks mine task from end) ≡ end
  full_length = omega (
    arith,
    length-append (mine ++ replicate (from - length mine) None) (replicate (end - from) (Some task)),
    length-replicate (end - from) (Some task),
    idled,
    ahead,
  )

  -- idle ticks behind a list don't tell
  idle_same : (tick : ℕ) → tick < from → is_task task (get_or (mine ++ replicate (from - length mine) None) tick None) ≡ is_task task (get_or mine tick None)
  idle_same tick below = elim (cases_lt tick (length mine)) [
    | inl inside ↦ ap (is_task task) (get_or_append_left mine (replicate (from - length mine) None) None tick inside)
    | inr behind ↦ ap (is_task task) (get_or-append_right mine (replicate (from - length mine) None) (length mine) tick None refl behind
        ∙ get_or-replicate (from - length mine) (tick - length mine) None None (omega (arith, below, behind)))
        ∙ sym (past mine task tick behind)
  ]

  -- a list with the ticks of a stretch in which the task runs
  pub alike_full : ((t : ℕ) → from ≤ t → t < end → get_or whole t None ≡ Some task) → RunsAlike task (with_ticks mine task from end) (take end whole)
  alike_full there tick = elim (cases_lt tick from) [
    | inl old ↦ ap (is_task task) (get_or_append_left (mine ++ replicate (from - length mine) None) (replicate (end - from) (Some task)) None tick (omega (arith, old, idled)))
        ∙ idle_same tick old ∙ alike tick
        ∙ ap (is_task task) (get_or-take from whole tick None old ∙ sym (get_or-take end whole tick None (omega (arith, old, ahead))))
    | inr new ↦ elim (cases_lt tick end) [
      | inl below ↦ ap (is_task task) (get_or-append_right (mine ++ replicate (from - length mine) None) (replicate (end - from) (Some task)) from tick None idled new
          ∙ get_or-replicate (end - from) (tick - from) (Some task) None (omega (arith, new, below))
          ∙ sym (there tick new below) ∙ sym (get_or-take end whole tick None below))
      | inr over ↦ past (with_ticks mine task from end) task tick (omega (arith, over, full_length))
          ∙ sym (past (take end whole) task tick (omega (arith, over, length-take-le end whole within)))
    ]
  ]

-- ---- the tasks of a run

-- before the first core
pub none_apart : (system : System) (run apart : Run) → apart.table.ticks ≡ run.table.ticks → apart.entries ≡ replicate (length system.tasks) []
    → AreApartUpTo system run 0 0 apart
none_apart system run apart ticks none = record {
  ticks = ticks;
  tasks = ap length none ∙ length-replicate (length system.tasks) [];
  before = λ task h below. absurd (omega (arith, below));
  here = λ task h on. (λ tick. ap (λ es. is_task task (get_or es tick None)) (empty task h), omega (arith, ap length (empty task h)));
  later = λ task h above. empty task h;
}
  where
    empty : (task : ℕ) → task < length system.tasks → core_entries apart task ≡ []
    empty task h = ap (λ es. get_or es task []) none ∙ get_or-replicate (length system.tasks) task [] [] h

module _ (system : System) (run : Run) (in_form : IsInForm system run) (core : ℕ) (on : core < system.cores) where
  -- at the end of a core
  pub core_apart : (apart : Run) (end : ℕ) → run.table.ticks ≤ end → AreApartUpTo system run core end apart → end ≤ run.table.ticks
      → AreApartUpTo system run (core + 1) 0 apart
  core_apart apart end over up_to within = record {
    ticks = up_to.ticks;
    tasks = up_to.tasks;
    before = λ task h below. elim (cases_lt (timing_at system task).core core) [
      | inl earlier ↦ up_to.before task h earlier
      | inr not ↦
          let same : (timing_at system task).core ≡ core = omega (arith, below, not) in
          let l = up_to.here task h same in
          let all : take end (core_entries run core) ≡ core_entries run (timing_at system task).core
          = take_all end (core_entries run core) (omega (arith, in_form.ticks core on, over)) ∙ ap (core_entries run) (sym same) in
          (λ tick. l.0 tick ∙ ap (λ es. is_task task (get_or es tick None)) all, omega (arith, l.1, within))
    ];
    here = λ task h same.
        let none = up_to.later task h (omega (arith, same)) in
        (λ tick. ap (λ es. is_task task (get_or es tick None)) none, omega (arith, ap length none));
    later = λ task h above. up_to.later task h (omega (arith, above));
  }

  module _ (apart : Run) (from : ℕ) (stretch : Stretch) (some : from < stretch.end) (lasts : Lasts run core from stretch)
      (up_to : AreApartUpTo system run core from apart) where
    all_ticks : stretch.end ≤ length (core_entries run core)
    all_ticks = omega (arith, lasts.within, in_form.ticks core on)

    -- the task that runs is one of the core
    runs_here : (task : ℕ) → stretch.who ≡ Some task → IsEntryOf system core (Some task)
    runs_here task is = subst (IsEntryOf system core) (lasts.entries from (omega arith) some ∙ is)
        (in_form.entries core from on (omega (arith, some, lasts.within)))

    takes_of : (who : Option ℕ) → stretch.who ≡ who → TakesTicks who from stretch.end apart
    takes_of None is = tt
    takes_of (Some task) is =
        let here = runs_here task is in
        record { is_task = omega (arith, here.0, up_to.tasks); after = (up_to.here task here.0 here.1).1 }

    -- its list may get the ticks of the stretch
    pub takes_ticks : TakesTicks stretch.who from stretch.end apart
    takes_ticks = takes_of stretch.who refl

    -- a list that stays
    stays : (other : ℕ) → other < length system.tasks → (timing_at system other).core ≡ core
        → ((t : ℕ) → from ≤ t → t < stretch.end → is_task other (entry_at run core t) ≡ false)
        → RunsAlike other (core_entries apart other) (take stretch.end (core_entries run core)) × (length (core_entries apart other) ≤ stretch.end)
    stays other h same idle =
        let l = up_to.here other h same in (
          alike_longer other (core_entries apart other) (core_entries run core) from stretch.end (omega (arith, some)) all_ticks l.0 l.1 idle,
          omega (arith, l.1, some),
        )

    none_runs : stretch.who ≡ None → AreApartUpTo system run core stretch.end apart
    none_runs is = record {
      ticks = up_to.ticks;
      tasks = up_to.tasks;
      before = up_to.before;
      here = λ other h same. stays other h same (λ t after below. ap (is_task other) (lasts.entries t after below ∙ is));
      later = up_to.later;
    }

    module _ (task : ℕ) (is : stretch.who ≡ Some task) (new : Run)
        (list : HasList apart new task (with_ticks (core_entries apart task) task from stretch.end)) where
      here : IsEntryOf system core (Some task)
      here = runs_here task is

      mine : core_entries new task ≡ with_ticks (core_entries apart task) task from stretch.end
      mine = list_is apart new task _ list (omega (arith, here.0, up_to.tasks))

      kept : (other : ℕ) → other ≢ task → core_entries new other ≡ core_entries apart other
      kept other ne = list_other apart new task _ list other ne

      elsewhere : (other : ℕ) → ((timing_at system other).core ≡ core → ⊥) → core_entries new other ≡ core_entries apart other
      elsewhere other off = kept other (λ same. off (ap (λ n. (timing_at system n).core) same ∙ here.1))

      changed : (other : ℕ) → other < length system.tasks → (timing_at system other).core ≡ core
          → RunsAlike other (core_entries new other) (take stretch.end (core_entries run core)) × (length (core_entries new other) ≤ stretch.end)
      changed other h same = elim (cases_eq other task) [
        | inl this ↦
            let l = up_to.here task here.0 here.1 in
            let full = alike_full task (core_entries apart task) (core_entries run core) from stretch.end (omega (arith, some)) all_ticks l.0 l.1
            (λ t after below. lasts.entries t after below ∙ is) in
            let size = full_length task (core_entries apart task) (core_entries run core) from stretch.end (omega (arith, some)) all_ticks l.0 l.1 in
            subst (λ n. RunsAlike n (core_entries new n) (take stretch.end (core_entries run core)) × (length (core_entries new n) ≤ stretch.end)) (sym this)
            (λ tick. ap (λ es. is_task task (get_or es tick None)) mine ∙ full tick, omega (arith, size, ap length mine))
        | inr ne ↦
            let l = stays other h same (λ t after below. ap (is_task other) (lasts.entries t after below ∙ is) ∙ not_task other task (λ e. ne (sym e))) in
            (λ tick. ap (λ es. is_task other (get_or es tick None)) (kept other ne) ∙ l.0 tick, omega (arith, l.1, ap length (kept other ne)))
      ]

      task_runs : AreApartUpTo system run core stretch.end new
      task_runs = record {
        ticks = ap (λ (t : JobTable). t.ticks) list.table ∙ up_to.ticks;
        tasks = lists_same apart new task _ list ∙ up_to.tasks;
        before = λ other h below.
            let stay = elsewhere other (λ same. omega (arith, same, below)) in
            let l = up_to.before other h below in
            (λ tick. ap (λ es. is_task other (get_or es tick None)) stay ∙ l.0 tick, omega (arith, l.1, ap length stay));
        here = changed;
        later = λ other h above. elsewhere other (λ same. omega (arith, same, above)) ∙ up_to.later other h above;
      }

    more_of : (who : Option ℕ) → stretch.who ≡ who → (new : Run) → HasTicks who from stretch.end apart new → AreApartUpTo system run core stretch.end new
    more_of None is new same = subst (AreApartUpTo system run core stretch.end) (sym same) (none_runs is)
    more_of (Some task) is new list = task_runs task is new list

    -- with the ticks of the stretch they stand apart up to its end
    pub more_apart : (new : Run) → HasTicks stretch.who from stretch.end apart new → AreApartUpTo system run core stretch.end new
    more_apart new ticks = more_of stretch.who refl new ticks

-- after the last core
pub all_apart : (system : System) → IsSound system → (run apart : Run) (cores : ℕ) → system.cores ≤ cores → AreApartUpTo system run cores 0 apart → StandApart system run apart
all_apart system sound run apart cores all up_to = record {
  tasks = up_to.tasks;
  within = λ task h. (up_to.before task h (below task h)).1;
  alike = λ task h. (up_to.before task h (below task h)).0;
}
  where
    below : (task : ℕ) → task < length system.tasks → (timing_at system task).core < cores
    below task h = omega (arith, (sound.tasks task h).on_core, all)
