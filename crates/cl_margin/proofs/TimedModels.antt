-- Models that differ from one in greatest times alone: those of each runnable are given by its task and its place there.
-- Grown models are such, and so is what stands between two of them while one runnable after another is changed.
use Rattle.std.proofs.Common.{◌≡◌, ℕ, ◌<◌, ◌≤◌, inl, inr, cond, ◌&&◌, List, length, get_or, map, set, refl, sym, ap, ◌∙◌, subst, arith}
use Rattle.std.specs.Prelude.{All, ◌==◌}
use Rattle.std.specs.List.{range_with_len}
use Rattle.std.proofs.lemmas.Bool.{cases_eq, eq-eqb, ne_eqb}
use Rattle.std.proofs.lemmas.List.{same_lists, length-set, get_or-set_same, get_or-set_other}
use Rattle.std.proofs.lemmas.List.Elements.{All-map}
use Rattle.std.proofs.lemmas.List.FromFn.{length-range_with_len, get_or-range_with_len, length-map-range_with_len, get_or-map-range_with_len}
use Rattle.std.proofs.lemmas.Simd.{map-map}
use Rattle.cl_model.specs.{declared.{limits.TheConstants.MOST_TICKS, model.SystemModel.SystemModel, task.{RunnableDef.RunnableDef, TaskDef.TaskDef}}, ByNumber.{no_task, no_runnable, task_at}, Changes.with_range, Groups.IsStepOf, Ranges.{IsRunnableInRange, IsTaskInRange, IsInRange}}
use Rattle.cl_model.specs.Validity.{IsValid}
use Rattle.cl_model.proofs.ListFacts.{maps_agree}
use Rattle.cl_resp.proofs.Filters.{by_number}
use Rattle.cl_scale.specs.Scaled.{scaled_runnable}
use Rattle.cl_scale.proofs.BareModels.{bare_runnable, bare_task, bare_model, IsOrdered, AreOrdered, valid_but_times}
use Rattle.cl_margin.specs.Grown.{grown_greatest, grown_task, grown_by}

-- ---- lists by number

pub maps_within : {X : Type 0} (f g : ℕ → X) (n : ℕ) → ((i : ℕ) → i < n → f i ≡ g i) → map f (range_with_len 0 n) ≡ map g (range_with_len 0 n)
maps_within f g n same = same_lists (map f (range_with_len 0 n)) (map g (range_with_len 0 n))
    (length-map-range_with_len f 0 n ∙ sym (length-map-range_with_len g 0 n))
    (λ k d lt.
    let h : k < n = omega (arith, lt, length-map-range_with_len f 0 n) in
    get_or-map-range_with_len f 0 n k k d h (omega arith) ∙ same k h ∙ sym (get_or-map-range_with_len g 0 n k k d h (omega arith)))

-- one of them is set
module _ {X : Type 0} (f : ℕ → X) (n i : ℕ) (x : X) (h : i < n) where
  abbrev mapped : List X
  mapped = map f (range_with_len 0 n)

  abbrev other : ℕ → X
  other j = cond (j == i) x (f j)

  kept : length (set mapped i x) ≡ n
  kept = length-set mapped i x ∙ length-map-range_with_len f 0 n

  at : (k : ℕ) (d : X) → k < length (set mapped i x) → get_or (set mapped i x) k d ≡ get_or (map other (range_with_len 0 n)) k d
  at k d lt =
      let g : k < n = omega (arith, lt, kept) in
      let right : get_or (map other (range_with_len 0 n)) k d ≡ other k = get_or-map-range_with_len other 0 n k k d g (omega arith) in
      elim (cases_eq k i) [
        | inl same ↦
            ap (λ j. get_or (set mapped i x) j d) same
            ∙ get_or-set_same mapped i x d (omega (arith, h, length-map-range_with_len f 0 n))
            ∙ sym (right ∙ ap (λ b. cond b x (f k)) (eq-eqb k i same))
        | inr apart ↦
            get_or-set_other mapped i k x d apart
            ∙ get_or-map-range_with_len f 0 n k k d g (omega arith)
            ∙ sym (right ∙ ap (λ b. cond b x (f k)) (ne_eqb k i apart))
      ]

  set_mapped : set mapped i x ≡ map other (range_with_len 0 n)
  set_mapped = same_lists (set mapped i x) (map other (range_with_len 0 n)) (kept ∙ sym (length-map-range_with_len other 0 n)) at

module _ (model : SystemModel) where
  abbrev pub runnable_in : (task place : ℕ) → RunnableDef
  runnable_in task place = get_or (task_at model task).runnables place no_runnable

  abbrev pub places : (task : ℕ) → List ℕ
  places task = range_with_len 0 (length (task_at model task).runnables)

  -- ---- other times

  abbrev pub timed_runnable : (times : ℕ → ℕ → ℕ) → (task place : ℕ) → RunnableDef
  timed_runnable times task place = record (runnable_in task place) { greatest = times task place }

  abbrev pub timed_task : (times : ℕ → ℕ → ℕ) → (task : ℕ) → TaskDef
  timed_task times task = record (task_at model task) { runnables = map (timed_runnable times task) (places task) }

  unfoldable pub timed_model : (times : ℕ → ℕ → ℕ) → SystemModel
  timed_model times = record model { tasks = map (timed_task times) (range_with_len 0 (length model.tasks)) }

  pub same_task : (one other : ℕ → ℕ → ℕ) (i : ℕ) → ((k : ℕ) → k < length (task_at model i).runnables → one i k ≡ other i k)
      → timed_task one i ≡ timed_task other i
  same_task one other i same = ap (λ (runnables : List RunnableDef). record (task_at model i) { runnables = runnables })
      (maps_within (timed_runnable one i) (timed_runnable other i) (length (task_at model i).runnables)
      (λ k g. ap (λ n. record (runnable_in i k) { greatest = n }) (same k g)))

  pub same_timed : (one other : ℕ → ℕ → ℕ) → ((i k : ℕ) → i < length model.tasks → k < length (task_at model i).runnables → one i k ≡ other i k)
      → timed_model one ≡ timed_model other
  unfolding timed_model
  same_timed one other same = ap (λ (tasks : List TaskDef). record model { tasks = tasks })
      (maps_within (timed_task one) (timed_task other) (length model.tasks) (λ i h. same_task one other i (λ k g. same i k h g)))

  module _ (times : ℕ → ℕ → ℕ) where
    pub count_timed : length (timed_model times).tasks ≡ length model.tasks
    unfolding timed_model
    count_timed = length-map-range_with_len (timed_task times) 0 (length model.tasks)

    pub task_timed : (i : ℕ) → i < length model.tasks → task_at (timed_model times) i ≡ timed_task times i
    unfolding timed_model
    task_timed i h = get_or-map-range_with_len (timed_task times) 0 (length model.tasks) i i no_task h (omega arith)

    pub places_timed : (i : ℕ) → length (timed_task times i).runnables ≡ length (task_at model i).runnables
    places_timed i = length-map-range_with_len (timed_runnable times i) 0 (length (task_at model i).runnables)

    pub runnable_timed : (i k : ℕ) → k < length (task_at model i).runnables → get_or (timed_task times i).runnables k no_runnable ≡ timed_runnable times i k
    runnable_timed i k g = get_or-map-range_with_len (timed_runnable times i) 0 (length (task_at model i).runnables) k k no_runnable g (omega arith)

    pub step_timed : (i k : ℕ) → i < length model.tasks → k < length (task_at model i).runnables → IsStepOf (timed_model times) (record { task = i; place = k })
    step_timed i k h g = record {
      known = omega (arith, h, count_timed);
      place = omega (arith, g, places_timed i, ap (λ (t : TaskDef). length t.runnables) (task_timed i h));
    }

  -- ---- where such a model is valid

  -- times that a valid model may have
  pub record AreTimes (times : ℕ → ℕ → ℕ) : Type 0 where
    pub some : (i k : ℕ) → i < length model.tasks → k < length (task_at model i).runnables → (runnable_in i k).least ≤ times i k
    pub few : (i k : ℕ) → i < length model.tasks → k < length (task_at model i).runnables → times i k ≤ MOST_TICKS

  module _ (times : ℕ → ℕ → ℕ) where
    abbrev numbers : List ℕ
    numbers = range_with_len 0 (length model.tasks)

    timed_bare : (i : ℕ) → bare_task (timed_task times i) ≡ bare_task (task_at model i)
    timed_bare i = ap (λ (runnables : List RunnableDef). record (task_at model i) { runnables = runnables })
        (map-map bare_runnable (timed_runnable times i) (places i)
        ∙ sym (map-map bare_runnable (runnable_in i) (places i))
        ∙ ap (map bare_runnable) (by_number (task_at model i).runnables no_runnable))

    timed_alike : bare_model (timed_model times) ≡ bare_model model
    unfolding bare_model timed_model
    timed_alike = ap (λ (tasks : List TaskDef). record model { tasks = tasks })
        (map-map bare_task (timed_task times) numbers
        ∙ maps_agree (λ i. bare_task (timed_task times i)) (λ i. bare_task (task_at model i)) timed_bare numbers
        ∙ sym (map-map bare_task (task_at model) numbers)
        ∙ ap (map bare_task) (by_number model.tasks no_task))

    -- what stands at a place of numbers in order
    numbered : (n k d : ℕ) → k < length (range_with_len 0 n) → get_or (range_with_len 0 n) k d < n
    numbered n k d lt =
        let h : k < n = omega (arith, lt, length-range_with_len 0 n) in
        omega (arith, h, get_or-range_with_len 0 n k d h)

    timed_ordered : AreTimes times → All AreOrdered (timed_model times).tasks
    unfolding timed_model
    timed_ordered are = All-map AreOrdered (timed_task times) numbers
        (λ k d lt.
        let i = get_or numbers k d in
        All-map IsOrdered (timed_runnable times i) (places i)
        (λ p e within. are.some i (get_or (places i) p e) (numbered (length model.tasks) k d lt) (numbered (length (task_at model i).runnables) p e within)))

    task_in : IsInRange model → AreTimes times → (i : ℕ) → i < length model.tasks → IsTaskInRange (timed_task times i)
    task_in in_range are i h =
        let is : IsTaskInRange (task_at model i) = in_range.tasks i no_task h in
        record {
          priority = is.priority;
          deadline = is.deadline;
          count = omega (arith, is.count, places_timed times i);
          runnables = All-map IsRunnableInRange (timed_runnable times i) (places i)
              (λ p e within.
              let k = get_or (places i) p e in
              let g : k < length (task_at model i).runnables = numbered (length (task_at model i).runnables) p e within in
              let has : IsRunnableInRange (runnable_in i k) = is.runnables k no_runnable g in
              record {
                least = has.least;
                greatest = (omega (arith, has.least.0, are.some i k h g), are.few i k h g);
                reads = has.reads;
                writes = has.writes;
              });
        }

    timed_in_range : IsInRange model → AreTimes times → IsInRange (timed_model times)
    unfolding timed_model
    timed_in_range in_range are = record {
      counts = record {
        cores = in_range.counts.cores;
        stimuli = in_range.counts.stimuli;
        labels = in_range.counts.labels;
        tasks = omega (arith, in_range.counts.tasks, length-map-range_with_len (timed_task times) 0 (length model.tasks));
        chains = in_range.counts.chains;
        requirements = in_range.counts.requirements;
      };
      stimuli = in_range.stimuli;
      tasks = All-map IsTaskInRange (timed_task times) numbers
          (λ k d lt. task_in in_range are (get_or numbers k d) (numbered (length model.tasks) k d lt));
      chains = in_range.chains;
      requirements = in_range.requirements;
    }

    pub timed_valid : IsValid model → AreTimes times → IsValid (timed_model times)
    timed_valid valid are = valid_but_times model (timed_model times) timed_alike (timed_ordered are) valid (timed_in_range valid.in_range are)

    pub few_timed : IsInRange (timed_model times) → (i k : ℕ) → i < length model.tasks → k < length (task_at model i).runnables → times i k ≤ MOST_TICKS
    few_timed in_range i k h g =
        let task : IsTaskInRange (timed_task times i) =
        subst (λ (t : TaskDef). IsTaskInRange t) (task_timed times i h) (in_range.tasks i no_task (omega (arith, h, count_timed times))) in
        let runnable : IsRunnableInRange (timed_runnable times i k) =
        subst (λ (r : RunnableDef). IsRunnableInRange r) (runnable_timed times i k g) (task.runnables k no_runnable (omega (arith, g, places_timed times i))) in
        runnable.greatest.1

  -- ---- one runnable is changed

  -- the times where that of one runnable is another
  abbrev pub put : (times : ℕ → ℕ → ℕ) → (task place time : ℕ) → (i k : ℕ) → ℕ
  put times task place time i k = cond ((i == task) && (k == place)) time (times i k)

  module _ (times : ℕ → ℕ → ℕ) (task place time : ℕ) (h : task < length model.tasks) (g : place < length (task_at model task).runnables) where
    abbrev after : ℕ → ℕ → ℕ
    after = put times task place time

    abbrev changed : RunnableDef
    changed = record (runnable_in task place) { greatest = time }

    put_there : (k : ℕ) → k ≡ place → after task k ≡ time
    put_there k same = ap (λ b. cond (b && (k == place)) time (times task k)) (eq-eqb task task refl) ∙ ap (λ b. cond b time (times task k)) (eq-eqb k place same)

    put_beside : (k : ℕ) → (k ≡ place → ⊥) → after task k ≡ times task k
    put_beside k apart = ap (λ b. cond (b && (k == place)) time (times task k)) (eq-eqb task task refl) ∙ ap (λ b. cond b time (times task k)) (ne_eqb k place apart)

    put_elsewhere : (i k : ℕ) → (i ≡ task → ⊥) → after i k ≡ times i k
    put_elsewhere i k apart = ap (λ b. cond (b && (k == place)) time (times i k)) (ne_eqb i task apart)

    runnable_put : (k : ℕ) → cond (k == place) changed (timed_runnable times task k) ≡ timed_runnable after task k
    runnable_put k = elim (cases_eq k place) [
      | inl same ↦
          ap (λ b. cond b changed (timed_runnable times task k)) (eq-eqb k place same)
          ∙ ap (λ j. record (runnable_in task j) { greatest = time }) (sym same)
          ∙ ap (λ n. record (runnable_in task k) { greatest = n }) (sym (put_there k same))
      | inr apart ↦
          ap (λ b. cond b changed (timed_runnable times task k)) (ne_eqb k place apart)
          ∙ ap (λ n. record (runnable_in task k) { greatest = n }) (sym (put_beside k apart))
    ]

    task_put : record (timed_task times task) { runnables = set (timed_task times task).runnables place changed } ≡ timed_task after task
    task_put = ap (λ (runnables : List RunnableDef). record (task_at model task) { runnables = runnables })
        (set_mapped (timed_runnable times task) (length (task_at model task).runnables) place changed g
        ∙ maps_agree (λ k. cond (k == place) changed (timed_runnable times task k)) (timed_runnable after task) runnable_put (places task))

    tasks_put : (i : ℕ) → cond (i == task) (timed_task after task) (timed_task times i) ≡ timed_task after i
    tasks_put i = elim (cases_eq i task) [
      | inl same ↦ ap (λ b. cond b (timed_task after task) (timed_task times i)) (eq-eqb i task same) ∙ ap (timed_task after) (sym same)
      | inr apart ↦
          ap (λ b. cond b (timed_task after task) (timed_task times i)) (ne_eqb i task apart)
          ∙ same_task times after i (λ k lt. sym (put_elsewhere i k apart))
    ]

    -- so the model with that range of the runnable has those times
    pub range_put : with_range (timed_model times) (record { task = task; place = place }) (runnable_in task place).least time ≡ timed_model after
    unfolding timed_model
    range_put =
        let now = timed_model times in
        let least = (runnable_in task place).least in
        ap (λ (t : TaskDef). record now { tasks = set now.tasks task (record t { runnables = set t.runnables place (record (get_or t.runnables place no_runnable) { least = least; greatest = time }) }) })
        (task_timed times task h)
        ∙ ap (λ (r : RunnableDef). record now { tasks = set now.tasks task (record (timed_task times task) { runnables = set (timed_task times task).runnables place (record r { least = least; greatest = time }) }) })
        (runnable_timed times task place g)
        ∙ ap (λ (t : TaskDef). record now { tasks = set now.tasks task t }) task_put
        ∙ ap (λ (tasks : List TaskDef). record model { tasks = tasks })
        (set_mapped (timed_task times) (length model.tasks) task (timed_task after task) h
        ∙ maps_agree (λ i. cond (i == task) (timed_task after task) (timed_task times i)) (timed_task after) tasks_put (range_with_len 0 (length model.tasks)))

  -- ---- percentages

  abbrev pub percent_times : (percents : ℕ → ℕ) → (task place : ℕ) → ℕ
  percent_times percents task place = grown_greatest (percents task) (runnable_in task place)

  by_place : (percent : ℕ) (runnables : List RunnableDef)
      → map (scaled_runnable percent) runnables ≡ map (λ k. scaled_runnable percent (get_or runnables k no_runnable)) (range_with_len 0 (length runnables))
  by_place percent runnables =
      ap (map (scaled_runnable percent)) (sym (by_number runnables no_runnable))
      ∙ map-map (scaled_runnable percent) (λ k. get_or runnables k no_runnable) (range_with_len 0 (length runnables))

  pub grown_timed : (percents : ℕ → ℕ) → grown_by model percents ≡ timed_model (percent_times percents)
  unfolding grown_by timed_model
  grown_timed percents = ap (λ (tasks : List TaskDef). record model { tasks = tasks })
      (maps_agree (grown_task model percents) (timed_task (percent_times percents))
      (λ i. ap (λ (runnables : List RunnableDef). record (task_at model i) { runnables = runnables }) (by_place (percents i) (task_at model i).runnables))
      (range_with_len 0 (length model.tasks)))

  pub times_of : (percents : ℕ → ℕ) → IsInRange (grown_by model percents) → AreTimes (percent_times percents)
  times_of percents in_range = record {
    some = λ i k h g. omega arith;
    few = few_timed (percent_times percents) (subst (λ (m : SystemModel). IsInRange m) (grown_timed percents) in_range);
  }

  pub in_range_of : IsValid model → (percents : ℕ → ℕ) → AreTimes (percent_times percents) → IsInRange (grown_by model percents)
  in_range_of valid percents are = subst (λ (m : SystemModel). IsInRange m) (sym (grown_timed percents)) (timed_valid (percent_times percents) valid are).in_range
