-- How long the trace of a legal run is.
use Rattle.std.proofs.Common.{◌≡◌, ℕ, zero, suc, ◌+◌, ◌*◌, ◌<◌, ◌≤◌, Bool, true, false, cond, eqb, Option, Some, None, List, [], ◌∷◌, ◌++◌, length, get_or, codes, refl, ap, ◌∙◌, arith}
use Rattle.std.specs.Prelude.{sum_by, All, map}
use Rattle.std.specs.List.{flat_map, range_with_len, AllZip}
use Rattle.std.specs.Option.{option_eq}
use Rattle.std.proofs.lemmas.List.{length-append, length-map}
use Rattle.std.proofs.lemmas.List.Concat.{length-flat_map}
use Rattle.std.proofs.lemmas.List.Elements.{All-head, All-tail, All-cons}
use Rattle.std.proofs.lemmas.List.Sums.{sum_by-cons, sum_by-append}
use Rattle.cl_model.specs.{declared.{limits.TheConstants.MOST_TICKS, model.SystemModel.SystemModel, stimulus.StimulusKind.StimulusKind}, AreNamed.AreNamed, Timing.greatest_jitter}
use Rattle.cl_runs.specs.{declared.job.Job.Job, TaskTiming.{TimeRange, Timing, System, timing_at, IsSound}, Table.{HasTimes, LiesIn}, Arrivals.AreArrivalsFrom, Run.{Run, jobs_of, core_entries}, Legal.IsLegal}
use Rattle.cl_run_data.specs.declared.stretches.Stretch.{Stretch}
use Rattle.cl_trace.specs.{Executions.{job_executions, executions}, Stretches.{before_stretches, stretches_from, stretches_of}, Trace.{Item, Title, Ticks, JobOf, Runs, End, numbers, item_text, task_items, stretch_item, stretch_items, core_items, job_items, run_items, items_of, spelled}}
use Rattle.cl_trace.proofs.{LineLengths.{IsShort, numbers_short, job_short, run_short}, RunTurns.run_lines, Totals.{total, total_mono}}

-- ---- sums over lists of lists

sum_flat : {X Y : Type 0} (f : Y → ℕ) (g : X → List Y) (xs : List X) → sum_by f (flat_map g xs) ≡ sum_by (λ x. sum_by f (g x)) xs
sum_flat f g [] = refl
sum_flat f g (x ∷ xs) = omega (
  arith,
  sum_by-append f (g x) (flat_map g xs),
  sum_flat f g xs,
  sum_by-cons (λ y. sum_by f (g y)) x xs,
)

-- a sum by place is the sum of the list
sum_places : {X : Type 0} (f : X → ℕ) (d : X) (xs : List X) (h : ℕ → ℕ) (a : ℕ)
    → ((i : ℕ) → i < length xs → h (a + i) ≡ f (get_or xs i d)) → total h a (length xs) ≡ sum_by f xs
sum_places f d [] h a same = refl
sum_places f d (x ∷ xs) h a same = omega (
  arith,
  sum_by-cons h a (range_with_len (a + 1) (length xs)),
  sum_by-cons f x xs,
  same 0 (omega arith),
  ap h (here a),
  sum_places f d xs h (a + 1) (λ i below. ap h (further a i) ∙ same (suc i) (omega (arith, below))),
)
  where
    here : (a : ℕ) → a + 0 ≡ a
    here a = omega arith

    further : (a i : ℕ) → a + 1 + i ≡ a + suc i
    further a i = omega arith

-- ---- the jobs of a task

-- a job that arrives and is released early enough
abbrev IsEarly : (ticks jitter : ℕ) → Job → Type 0
IsEarly ticks jitter job = (job.arrival < ticks) × (job.release ≤ job.arrival + jitter)

arrive_early : (pattern : StimulusKind) (ticks : ℕ) (jobs : List Job) (k low high : ℕ) → AreArrivalsFrom pattern ticks k low high jobs
    → All (IsEarly ticks (greatest_jitter pattern)) jobs
arrive_early pattern ticks [] k low high follow = λ i d below. absurd (omega arith)
arrive_early pattern ticks (job ∷ jobs) k low high follow = All-cons (IsEarly ticks (greatest_jitter pattern)) job jobs (follow.0.arrives, follow.0.in_jitter)
    (arrive_early pattern ticks jobs (suc k) _ _ follow.1)

times_short : (ranges : List TimeRange) (times : List ℕ) → All (λ (range : TimeRange). range.greatest ≤ MOST_TICKS) ranges
    → AllZip LiesIn ranges times → All IsShort times
times_short [] [] most lie = λ i d below. absurd (omega arith)
times_short [] (time ∷ times) most lie = elim lie [ ]
times_short (range ∷ ranges) [] most lie = elim lie [ ]
times_short (range ∷ ranges) (time ∷ times) most lie = All-cons IsShort time times
    (omega (arith, lie.0.1, All-head (λ (r : TimeRange). r.greatest ≤ MOST_TICKS) range ranges most))
    (times_short ranges times (All-tail (λ (r : TimeRange). r.greatest ≤ MOST_TICKS) range ranges most) lie.1)

times_some : (ranges : List TimeRange) (times : List ℕ) → AllZip LiesIn ranges times → 0 < length ranges → 0 < length times
times_some [] times lie some = absurd (omega (arith, some))
times_some (range ∷ ranges) [] lie some = elim lie [ ]
times_some (range ∷ ranges) (time ∷ times) lie some = omega arith

-- ---- the ends of stretches

abbrev EndBy : (tick : ℕ) → List Stretch → Type 0
EndBy tick stretches = All (λ (s : Stretch). s.end ≤ tick) stretches

end_before : (by : ℕ) (who : Option ℕ) (end : ℕ) (ss : List Stretch) → end ≤ by → EndBy by ss → EndBy by (before_stretches who end ss)
end_before by who end [] h all = All-cons (λ (s : Stretch). s.end ≤ by) (record { who = who; end = end }) [] h all
end_before by who end (next ∷ ss) h all = by_test (option_eq eqb who next.who)
  where
    by_test : (same : Bool) → EndBy by (cond same (next ∷ ss) (record { who = who; end = end } ∷ next ∷ ss))
    by_test true = all
    by_test false = All-cons (λ (s : Stretch). s.end ≤ by) (record { who = who; end = end }) (next ∷ ss) h all

end_from : (by : ℕ) (es : List (Option ℕ)) (tick : ℕ) → tick + length es ≤ by → EndBy by (stretches_from tick es)
end_from by [] tick h = λ i d below. absurd (omega arith)
end_from by (e ∷ es) tick h = end_before by e (suc tick) (stretches_from (suc tick) es) (omega (arith, h)) (end_from by es (suc tick) (omega (arith, h)))

-- ---- the whole text

module _ (model : SystemModel) (named : AreNamed model) where
  abbrev size : Item → ℕ
  size item = length (item_text model item)

  abbrev sizes : List Item → ℕ
  sizes items = sum_by size items

  jobs_size : (task : ℕ) (ticks jitter : ℕ) (timing : Timing) (jobs : List Job) → ticks ≤ 1000000000 → jitter ≤ MOST_TICKS
      → 0 < length timing.ranges → All (λ (range : TimeRange). range.greatest ≤ MOST_TICKS) timing.ranges
      → All (IsEarly ticks jitter) jobs → All (HasTimes timing) jobs
      → sizes (map (JobOf task) jobs) ≤ 111 * job_executions jobs
  jobs_size task ticks jitter timing [] few little some most early times = omega arith
  jobs_size task ticks jitter timing (job ∷ jobs) few little some most early times =
      let first : IsEarly ticks jitter job = All-head (IsEarly ticks jitter) job jobs early in
      let has : HasTimes timing job = All-head (HasTimes timing) job jobs times in
      omega (
        arith,
        sum_by-cons size (JobOf task job) (map (JobOf task) jobs),
        sum_by-cons (λ (j : Job). length j.times) job jobs,
        job_short model named task job (omega (arith, first.0, few)) (omega (arith, first.0, first.1, few, little))
            (times_short timing.ranges job.times most has) (times_some timing.ranges job.times has some),
        jobs_size task ticks jitter timing jobs few little some most (All-tail (IsEarly ticks jitter) job jobs early) (All-tail (HasTimes timing) job jobs times),
      )

  stretch_size : (who : Option ℕ) (from to : ℕ) → IsShort from → IsShort to
      → sizes (stretch_item who from to) ≤ 97 * length (stretch_item who from to)
  stretch_size None from to h k = omega arith
  stretch_size (Some task) from to h k = omega (arith, sum_by-cons size (Runs task from to) [], run_short model named task from to h k)

  stretches_size : (by : ℕ) → by ≤ 1000000000 → (ss : List Stretch) (from : ℕ) → from ≤ by → EndBy by ss
      → sizes (stretch_items from ss) ≤ 97 * length (stretch_items from ss)
  stretches_size by few [] from h all = omega arith
  stretches_size by few (s ∷ ss) from h all =
      let first : s.end ≤ by = All-head (λ (r : Stretch). r.end ≤ by) s ss all in
      omega (
        arith,
        sum_by-append size (stretch_item s.who from s.end) (stretch_items s.end ss),
        length-append (stretch_item s.who from s.end) (stretch_items s.end ss),
        stretch_size s.who from s.end (omega (arith, h, few)) (omega (arith, first, few)),
        stretches_size by few ss s.end first (All-tail (λ (r : Stretch). r.end ≤ by) s ss all),
      )

  module _ (system : System) (sound : IsSound system) (run : Run) (legal : IsLegal system run) (few : run.table.ticks ≤ 1000000000)
      (little : (i : ℕ) → i < length system.tasks → greatest_jitter (timing_at system i).pattern ≤ MOST_TICKS)
      (most : (i : ℕ) → i < length system.tasks → All (λ (range : TimeRange). range.greatest ≤ MOST_TICKS) (timing_at system i).ranges) where
    task_size : (i : ℕ) → i < length system.tasks → sizes (task_items run i) ≤ 111 * job_executions (jobs_of run i)
    task_size i is = jobs_size i run.table.ticks (greatest_jitter (timing_at system i).pattern) (timing_at system i) (jobs_of run i) few
        (little i is) (sound.tasks i is).some_runnable (most i is)
        (arrive_early (timing_at system i).pattern run.table.ticks (jobs_of run i) 0 _ _ (legal.lawful.jobs i is).arrivals)
        (legal.lawful.jobs i is).times

    more_executions : (timing : Timing) (jobs : List Job) → 0 < length timing.ranges → All (HasTimes timing) jobs → length jobs ≤ job_executions jobs
    more_executions timing [] some times = omega arith
    more_executions timing (job ∷ jobs) some times = omega (
      arith,
      sum_by-cons (λ (j : Job). length j.times) job jobs,
      times_some timing.ranges job.times (All-head (HasTimes timing) job jobs times) some,
      more_executions timing jobs some (All-tail (HasTimes timing) job jobs times),
    )

    all_executions : total (λ i. job_executions (jobs_of run i)) 0 (length run.table.jobs) ≡ executions run.table
    all_executions = sum_places job_executions [] run.table.jobs (λ i. job_executions (jobs_of run i)) 0
        (λ i below. ap (λ k. job_executions (jobs_of run k)) (same i))
      where
        same : (i : ℕ) → 0 + i ≡ i
        same i = omega arith

    is_task : (i : ℕ) → i < 0 + length run.table.jobs → i < length system.tasks
    is_task i below = omega (arith, below, legal.in_form.tasks)

    scaled : (f : ℕ → ℕ) (n a : ℕ) → total (λ i. 111 * f i) a n ≡ 111 * total f a n
    scaled f zero a = refl
    scaled f (suc n) a = omega (
      arith,
      sum_by-cons (λ i. 111 * f i) a (range_with_len (a + 1) n),
      sum_by-cons f a (range_with_len (a + 1) n),
      scaled f n (a + 1),
    )

    scaled_lines : (f : ℕ → ℕ) (n a : ℕ) → total (λ i. 97 * f i) a n ≡ 97 * total f a n
    scaled_lines f zero a = refl
    scaled_lines f (suc n) a = omega (
      arith,
      sum_by-cons (λ i. 97 * f i) a (range_with_len (a + 1) n),
      sum_by-cons f a (range_with_len (a + 1) n),
      scaled_lines f n (a + 1),
    )

    jobs_total : sizes (job_items run) ≤ 111 * executions run.table
    unfolding job_items
    jobs_total = omega (
      arith,
      sum_flat size (task_items run) (range_with_len 0 (length run.table.jobs)),
      total_mono (λ i. sizes (task_items run i)) (λ i. 111 * job_executions (jobs_of run i)) (length run.table.jobs) 0
          (λ i from below. task_size i (is_task i below)),
      scaled (λ i. job_executions (jobs_of run i)) (length run.table.jobs) 0,
      all_executions,
    )

    jobs_count : length (job_items run) ≤ executions run.table
    unfolding job_items
    jobs_count = omega (
      arith,
      length-flat_map (task_items run) (range_with_len 0 (length run.table.jobs)),
      total_mono (λ i. length (task_items run i)) (λ i. job_executions (jobs_of run i)) (length run.table.jobs) 0
          (λ i from below. omega (
            arith,
            length-map (jobs_of run i) (JobOf i),
            more_executions (timing_at system i) (jobs_of run i)
                (sound.tasks i (is_task i below)).some_runnable (legal.lawful.jobs i (is_task i below)).times,
          )),
      all_executions,
    )

    core_size : (c : ℕ) → c < system.cores → sizes (core_items run c) ≤ 97 * length (core_items run c)
    unfolding stretches_of
    core_size c is = stretches_size run.table.ticks few (stretches_of (core_entries run c)) 0 (omega arith)
        (end_from run.table.ticks (core_entries run c) 0 (omega (arith, legal.in_form.ticks c is)))

    runs_total : sizes (run_items run) ≤ 97 * length (run_items run)
    unfolding run_items
    runs_total = omega (
      arith,
      sum_flat size (core_items run) (range_with_len 0 (length run.entries)),
      length-flat_map (core_items run) (range_with_len 0 (length run.entries)),
      total_mono (λ c. sizes (core_items run c)) (λ c. 97 * length (core_items run c)) (length run.entries) 0
          (λ c from below. core_size c (omega (arith, below, legal.in_form.cores))),
      scaled_lines (λ c. length (core_items run c)) (length run.entries) 0,
    )

    ticks_size : size (Ticks run.table.ticks) ≤ 20
    unfolding item_text
    ticks_size = omega (
      arith,
      length-append (codes "ticks" ++ numbers (run.table.ticks ∷ [])) (10 ∷ []),
      length-append (codes "ticks") (numbers (run.table.ticks ∷ [])),
      numbers_short (run.table.ticks ∷ []) (All-cons IsShort run.table.ticks [] (omega (arith, few)) (λ i d below. absurd (omega arith))),
    )

    title_size : size Title ≡ 17
    unfolding item_text
    title_size = refl

    end_size : size End ≡ 4
    unfolding item_text
    end_size = refl

    pub spelled_short : length (spelled model run) ≤ 41 + 305 * executions run.table
    unfolding spelled
    spelled_short = omega (
      arith,
      length-flat_map (item_text model) (items_of run),
      sum_by-cons size Title (Ticks run.table.ticks ∷ (job_items run ++ run_items run ++ End ∷ [])),
      sum_by-cons size (Ticks run.table.ticks) (job_items run ++ run_items run ++ End ∷ []),
      sum_by-append size (job_items run ++ run_items run) (End ∷ []),
      sum_by-append size (job_items run) (run_items run),
      sum_by-cons size End [],
      title_size,
      ticks_size,
      end_size,
      jobs_total,
      jobs_count,
      runs_total,
      run_lines system sound run legal,
    )
