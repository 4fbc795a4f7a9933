-- Under the best priorities of all cores at once every task passes: its question depends on the tasks of its own core
-- alone.
use Rattle.std.proofs.Common.{◌≡◌, ℕ, ◌<◌, ◌⊎◌, inl, inr, Bool, true, false, cond, ◌&&◌, nat_lt, nat_le, List, [], ◌∷◌, length, map, refl, sym, ap, ◌∙◌, subst, arith}
use Rattle.std.specs.Prelude.{All, ◌==◌, filter, slice_index}
use Rattle.std.specs.List.{range_with_len}
use Rattle.std.proofs.lemmas.Bool.{eqb-true, cond-true, cond-false, and_parts, and_left, cases_Bool, eq-eqb}
use Rattle.std.proofs.lemmas.List.Elements.{All-head, All-tail}
use Rattle.cl_model.specs.{declared.model.SystemModel.SystemModel, Timing.greatest_jitter, ByNumber.{core_of, tasks_of_core}, Validity.IsValid, ValidTasks.spans_too_many, Holds.greatest_by}
use Rattle.cl_model.proofs.NamesKnown.{core_within}
use Rattle.cl_runs.specs.{SystemOf.system_of, TaskTiming.{Timing, System, timing_at}, Priorities.{is_above, may_block}, ExecutionTimes.greatest_execution}
use Rattle.cl_runs.proofs.ModelSystem.{count_is}
use Rattle.cl_resp.specs.{declared.question.Question.Question, Question.{longest_hold, block_of, taken_by, question_of}, Response.response_to}
use Rattle.cl_bound.specs.Answers.{answer_with, answer_to, is_late}
use Rattle.cl_tune.specs.{BestOrders.{AreBestPriorities, HasBestPriorities}, Orders.{priority_in, IsPassing}, Priorities.with_all_priorities}
use Rattle.cl_tune.proofs.{Members.{has, has_place, all_at, permuted_same}, CoreOrders.task_there, NewPriorities.{timing_with, system_with, count_with, timing_with_is, priority_within, given_system, ordered_system}, Timings.core_is, UnderOrders.range_below}

-- ---- lists that differ only where a test fails

-- an item is mapped to the same, or a test fails of both
abbrev Agree : {X Y : Type 0} → (test : Y → Bool) → (f g : X → Y) → X → Type 0
Agree test f g x = (f x ≡ g x) ⊎ ((test (f x) ≡ false) × (test (g x) ≡ false))

filters_agree : {X Y : Type 0} (test : Y → Bool) (f g : X → Y) (xs : List X) → All (Agree test f g) xs → filter test (map f xs) ≡ filter test (map g xs)
filters_agree test f g [] agree = refl
filters_agree test f g (x ∷ xs) agree =
    let rest = filters_agree test f g xs (All-tail (Agree test f g) x xs agree) in
    elim (All-head (Agree test f g) x xs agree) [
      | inl same ↦ ap (λ y. cond (test y) (y ∷ filter test (map f xs)) (filter test (map f xs))) same
          ∙ ap (λ ys. cond (test (g x)) (g x ∷ ys) ys) rest
      | inr fails ↦ cond-false (test (f x)) (f x ∷ filter test (map f xs)) (filter test (map f xs)) fails.0
          ∙ rest ∙ sym (cond-false (test (g x)) (g x ∷ filter test (map g xs)) (filter test (map g xs)) fails.1)
    ]

-- ---- a system with given priorities

module _ (system : System) (priorities : List ℕ) where
  abbrev with : System
  with = system_with system (slice_index priorities)

  -- ---- the tasks of a core that have there the priorities of an order

  module _ (core : ℕ) (order : List ℕ)
      (given : (i : ℕ) → i < length system.tasks → (timing_at system i).core ≡ core → slice_index priorities i ≡ priority_in order i) where
    abbrev under : System
    under = system_with system (priority_within system core order)

    same_timing : (i : ℕ) → i < length system.tasks → (timing_at system i).core ≡ core
        → timing_with system (slice_index priorities) i ≡ timing_with system (priority_within system core order) i
    same_timing i h on =
        ap (λ n. record (timing_at system i) { priority = n })
        (given i h on ∙ sym (cond-true ((timing_at system i).core == core) (priority_in order i) (timing_at system i).priority (eq-eqb _ _ on)))

    -- the same tasks pass a test that only tasks of the core pass
    module _ (test : Timing → Bool) (own : (other : Timing) → (other.core == core) ≡ false → test other ≡ false) where
      one_agrees : (i : ℕ) → i < length system.tasks
          → Agree test (timing_with system (slice_index priorities)) (timing_with system (priority_within system core order)) i
      one_agrees i h = elim (cases_Bool ((timing_at system i).core == core)) [
        | inl on ↦ inl (same_timing i h (eqb-true _ _ on))
        | inr other ↦ inr (
          own (timing_with system (slice_index priorities) i) other,
          own (timing_with system (priority_within system core order) i) other,
        )
      ]

      tests_agree : filter test with.tasks ≡ filter test under.tasks
      unfolding system_with
      tests_agree =
          let one = timing_with system (slice_index priorities) in
          let other = timing_with system (priority_within system core order) in
          filters_agree test one other (range_with_len 0 (length system.tasks))
          (has_place (Agree test one other) (range_with_len 0 (length system.tasks))
          (λ i there. one_agrees i (omega (arith, range_below 0 (length system.tasks) i there))))

    module _ (task : Timing) (on : task.core ≡ core) where
      elsewhere : (other : Timing) (b : Bool) → (other.core == core) ≡ false → ((other.core == task.core) && b) ≡ false
      elsewhere other b apart = and_left (other.core == task.core) b (ap (λ n. other.core == n) on ∙ apart)

      same_question : question_of with task ≡ question_of under task
      unfolding question_of block_of
      same_question =
          let ask : (blocking above : List Timing) → Question = λ blocking above. record {
            time = greatest_execution task;
            block = greatest_by longest_hold blocking;
            jitter = greatest_jitter task.pattern;
            deadline = task.deadline;
            above = map taken_by above;
          } in
          ap (λ (blocking : List Timing). ask blocking (filter (is_above task) with.tasks))
          (tests_agree (may_block task) (λ other apart. elsewhere other (nat_le other.priority task.priority) apart))
          ∙ ap (ask (filter (may_block task) under.tasks))
          (tests_agree (is_above task) (λ other apart. elsewhere other (nat_lt task.priority other.priority) apart))

    -- a task of the core passes where it passes under the order
    module _ (task : ℕ) (h : task < length system.tasks) (on : (timing_at system task).core ≡ core) where
      with_is : (other : ℕ) → other < length system.tasks → timing_at with other ≡ timing_with system (slice_index priorities) other
      with_is = timing_with_is system (slice_index priorities)

      same_at : (other : ℕ) → other < length system.tasks → (timing_at system other).core ≡ core → timing_at with other ≡ timing_at under other
      same_at other h on = with_is other h ∙ same_timing other h on ∙ sym (timing_with_is system (priority_within system core order) other h)

      own_core : (timing_at with task).core ≡ core
      own_core = ap (λ (t : Timing). t.core) (with_is task h) ∙ on

      core_above : (other : ℕ) → other < length system.tasks → is_above (timing_at with task) (timing_at with other) ≡ true → (timing_at system other).core ≡ core
      core_above other g higher =
          let parts = and_parts ((timing_at with other).core == (timing_at with task).core) (nat_lt (timing_at with task).priority (timing_at with other).priority) higher in
          sym (ap (λ (t : Timing). t.core) (with_is other g)) ∙ eqb-true _ _ parts.0 ∙ own_core

      pub passes_with : IsPassing under task → IsPassing with task
      passes_with passes = record {
        few_distances = λ other lt higher.
            let g : other < length system.tasks = omega (arith, lt, count_with system (slice_index priorities)) in
            let same = same_at other g (core_above other g higher) in
            ap (λ (t : Timing). spans_too_many (timing_at with task).deadline t.pattern) same
            ∙ ap (λ (t : Timing). spans_too_many t.deadline (timing_at under other).pattern) (same_at task h on)
            ∙ passes.few_distances other (omega (arith, g, count_with system (priority_within system core order)))
            (sym (ap (λ (t : Timing). is_above t (timing_at with other)) (same_at task h on) ∙ ap (λ (t : Timing). is_above (timing_at under task) t) same) ∙ higher);
        in_time =
            ap (λ (q : Question). is_late (answer_with (response_to q))) (same_question (timing_at with task) own_core)
            ∙ ap (λ (t : Timing). is_late (answer_to under t)) (same_at task h on)
            ∙ passes.in_time;
      }

-- ---- the best priorities of a model

module _ (model : SystemModel) (valid : IsValid model) (priorities : List ℕ) (best : AreBestPriorities model priorities) where
  -- the best order of the core of a task
  pub order_at : (task : ℕ) → task < length model.tasks → HasBestPriorities model priorities (core_of model task)
  order_at task h = best.cores (core_of model task) (core_within model valid task h)

  pub in_order_at : (task : ℕ) (h : task < length model.tasks) (other : ℕ) → other < length model.tasks → core_of model other ≡ core_of model task
      → has other (order_at task h).order ≡ true
  in_order_at task h other g on =
      sym (permuted_same (tasks_of_core model (core_of model task)) (order_at task h).order (order_at task h).best.passing.tasks other)
      ∙ task_there model valid (core_of model task) other (omega (arith, g, count_is model)) (core_is model other g ∙ on)

  pub pass_together : (task : ℕ) → task < length model.tasks → IsPassing (system_of (with_all_priorities model (slice_index priorities))) task
  pass_together task h =
      let core = core_of model task in
      let is = order_at task h in
      let passing = subst (λ (under : System). All (IsPassing under) is.order) (ordered_system model core is.order) is.best.passing.pass in
      subst (λ (system : System). IsPassing system task) (sym (given_system model (slice_index priorities)))
      (passes_with (system_of model) priorities core is.order
      (λ i lt on.
      let g : i < length model.tasks = omega (arith, lt, count_is model) in
      is.given i g (sym (core_is model i g) ∙ on))
      task (omega (arith, h, count_is model)) (core_is model task h)
      (all_at (IsPassing (system_with (system_of model) (priority_within (system_of model) core is.order))) is.order task passing
      (in_order_at task h task h refl)))
