-- A task passes under an order exactly where it fits below those after it in the order.
use Rattle.std.proofs.Common.{◌≡◌, ℕ, zero, suc, ◌+◌, ◌*◌, ◌<◌, ◌≤◌, inl, inr, max, Bool, true, false, not, ◌&&◌, nat_lt, nat_le, Option, Some, None, List, [], ◌∷◌, ◌++◌, length, map, refl, sym, ap, ◌∙◌, subst, append_assoc, arith}
use Rattle.std.specs.Prelude.{All, ◌==◌, filter, sum_by, is_some}
use Rattle.std.specs.List.{range_with_len}
use Rattle.std.proofs.lemmas.Bool.{false≢true, eqb-true, eq-eqb, lt-ltb, ltb-true, le-leb, leb-true, and_parts, and_from, or_cases, or_left, or_right, cond-true, not_from_false, not-true, cases_eq}
use Rattle.std.proofs.lemmas.Simd.{map-map}
use Rattle.std.proofs.lemmas.List.Elements.{All-head, All-tail, All-nil, All-cons}
use Rattle.std.proofs.lemmas.List.Folds.{fold-map}
use Rattle.std.proofs.lemmas.List.Sums.{fold-append, sum_by-le-sum_by, AllPass-from_list_all, list_all-from_AllPass}
use Rattle.cl_model.specs.{declared.stimulus.StimulusKind.StimulusKind, Timing.greatest_jitter, ValidTasks.spans_too_many, Holds.greatest_by}
use Rattle.cl_model.proofs.{ListFacts.same_tests, Greatest.{greatest_least, greatest_within, greatest_agrees, greatest_mapped}}
use Rattle.cl_runs.specs.{TaskTiming.{Timing, System, timing_at}, Priorities.{is_above, may_block}, ExecutionTimes.greatest_execution}
use Rattle.cl_stim.specs.{AnyStimulus.kind_of, Releases.most_releases}
use Rattle.cl_stim.proofs.StimulusKinds.{kind_of-as_stimulus}
use Rattle.cl_resp.specs.{declared.question.Above.Above, Question.{longest_hold, block_of, taken_by, question_of}, Response.{Response, demand, response_to}}
use Rattle.cl_resp.proofs.Filters.{filter-map}
use Rattle.cl_bound.specs.Answers.{answer_with, answer_to, is_late}
use Rattle.cl_tune.specs.{Inner.Filling.{question_below, spans_few, fits_below, AreDistinct}, Orders.{priority_in, IsPassing}}
use Rattle.cl_tune.proofs.{Members.{has, has_head, has_more, has_cases, has_append, has_filter, has_place, HaveSame, all_at, distinct_filter, sums_agree}, FitsBelow.{load, demand_below, asks_less}, FilledOrders.{AllFit, ascending_range, ascending_distinct}, NewPriorities.timing_with}
use Rattle.cl_tune.proofs.{NewPriorities.{system_with, count_with, timing_with_is, priority_within}, Priorities.{later_is_higher, earlier_is_lower}}

-- ---- numbers up to an end

pub range_below : (a n x : ℕ) → has x (range_with_len a n) ≡ true → x < a + n
range_below a zero x is = absurd (false≢true is)
range_below a (suc n) x is = elim (has_cases x a (range_with_len (a + 1) n) is) [
  | inl same ↦ omega (arith, same)
  | inr rest ↦ omega (arith, range_below (a + 1) n x rest)
]

pub range_has : (a n x : ℕ) → a ≤ x → x < a + n → has x (range_with_len a n) ≡ true
range_has a zero x from below = absurd (omega (arith, from, below))
range_has a (suc n) x from below = elim (cases_eq a x) [
  | inl same ↦ or_left (a == x) (has x (range_with_len (a + 1) n)) (eq-eqb a x same)
  | inr other ↦ has_more x a (range_with_len (a + 1) n) (range_has (a + 1) n x (omega (arith, from, other)) (omega (arith, below)))
]

-- ---- the greatest of lists that have the same numbers

greatest_has : (f : ℕ → ℕ) (xs : List ℕ) (x : ℕ) → has x xs ≡ true → f x ≤ greatest_by f xs
greatest_has f xs x is = all_at (λ y. f y ≤ greatest_by f xs) xs x (λ k d lt. greatest_least f xs k d lt) is

greatest_of_more : (f : ℕ → ℕ) (xs ys : List ℕ) → ((x : ℕ) → has x xs ≡ true → has x ys ≡ true) → greatest_by f xs ≤ greatest_by f ys
greatest_of_more f xs ys more = greatest_within f xs (greatest_by f ys) (has_place (λ x. f x ≤ greatest_by f ys) xs (λ x is. greatest_has f ys x (more x is)))

greatest_same : (f : ℕ → ℕ) (xs ys : List ℕ) → HaveSame xs ys → greatest_by f xs ≡ greatest_by f ys
greatest_same f xs ys same = omega (
  arith,
  greatest_of_more f xs ys (λ x is. sym (same x) ∙ is),
  greatest_of_more f ys xs (λ x is. same x ∙ is),
)

sums_pointwise : {X : Type 0} (f g : X → ℕ) → ((x : X) → f x ≡ g x) → (xs : List X) → sum_by f xs ≡ sum_by g xs
sums_pointwise f g same xs = omega (
  arith,
  sum_by-le-sum_by f g xs (λ x. omega (arith, same x)),
  sum_by-le-sum_by g f xs (λ x. omega (arith, same x)),
)

settled_some : (response : Option Response) → is_late (answer_with response) ≡ false → is_some response ≡ true
settled_some None is = cc
settled_some (Some response) is = refl

some_settled : (response : Option Response) → is_some response ≡ true → is_late (answer_with response) ≡ false
some_settled None is = cc
some_settled (Some response) is = refl

-- ---- the tasks under an order

module _ (system : System) (core : ℕ) (order : List ℕ) where
  abbrev given : ℕ → ℕ
  given = priority_within system core order

  abbrev under : System
  under = system_with system given

  abbrev timing : ℕ → Timing
  timing = timing_with system given

  abbrev hold : ℕ → ℕ
  hold task = longest_hold (timing_at system task)

  priority_of : (i : ℕ) → (timing_at system i).core ≡ core → (timing i).priority ≡ priority_in order i
  priority_of i on = cond-true ((timing_at system i).core == core) (priority_in order i) (timing_at system i).priority (eq-eqb _ _ on)

  same_execution : (i : ℕ) → greatest_execution (timing i) ≡ greatest_execution (timing_at system i)
  unfolding greatest_execution
  same_execution i = refl

  same_hold : (i : ℕ) → longest_hold (timing i) ≡ hold i
  unfolding longest_hold
  same_hold i = refl

  same_load : (width i : ℕ) → most_releases (kind_of (taken_by (timing i)).stimulus) width * (taken_by (timing i)).time ≡ load system width i
  same_load width i =
      ap (λ (k : StimulusKind). most_releases k width * greatest_execution (timing i)) (kind_of-as_stimulus (timing i).pattern)
      ∙ ap (λ n. most_releases (timing_at system i).pattern width * n) (same_execution i)

  module _ (once : AreDistinct order) (known : (x : ℕ) → has x order ≡ true → (x < length system.tasks) × ((timing_at system x).core ≡ core))
      (all : (x : ℕ) → x < length system.tasks → (timing_at system x).core ≡ core → has x order ≡ true) where
    module _ (front : List ℕ) (task : ℕ) (rest : List ℕ) (split : order ≡ front ++ task ∷ rest) where
      once_split : AreDistinct (front ++ task ∷ rest)
      once_split = subst (λ (list : List ℕ). AreDistinct list) split once

      stands : (x : ℕ) → (has x front ≡ true) → has x order ≡ true
      stands x is = ap (has x) split ∙ has_append x front (task ∷ rest) ∙ or_left (has x front) (has x (task ∷ rest)) is

      follows : (x : ℕ) → (has x (task ∷ rest) ≡ true) → has x order ≡ true
      follows x is = ap (has x) split ∙ has_append x front (task ∷ rest) ∙ or_right (has x front) (has x (task ∷ rest)) is

      itself : has task order ≡ true
      itself = follows task (has_head task rest)

      -- where another task of the core stands: before the task, at it or after it
      data Side (x : ℕ) : Type 0 where
        before : has x front ≡ true → Side x
        here : task ≡ x → Side x
        after : has x rest ≡ true → Side x

      side_of : (x : ℕ) → has x order ≡ true → Side x
      side_of x is = elim (or_cases (has x front) (has x (task ∷ rest)) (sym (has_append x front (task ∷ rest)) ∙ ap (has x) (sym split) ∙ is)) [
        | inl there ↦ before there
        | inr there ↦ elim (has_cases x task rest there) [ inl same ↦ here same | inr later ↦ after later ]
      ]

      higher_after : (x : ℕ) → has x rest ≡ true → priority_in order task < priority_in order x
      higher_after x is = subst (λ (list : List ℕ). priority_in list task < priority_in list x) (sym split) (later_is_higher front task rest once_split x is)

      lower_before : (x : ℕ) → has x front ≡ true → priority_in order x < priority_in order task
      lower_before x is = subst (λ (list : List ℕ). priority_in list x < priority_in list task) (sym split) (earlier_is_lower front task rest once_split x is)

      abbrev everything : List ℕ
      everything = range_with_len 0 (length system.tasks)

      above : ℕ → Bool
      above x = is_above (timing task) (timing x)

      blocks : ℕ → Bool
      blocks x = may_block (timing task) (timing x)

      -- a task of the core of the task
      record OnCore (x : ℕ) : Type 0 where
        in_order : has x order ≡ true
        priority : (timing x).priority ≡ priority_in order x
        own : (timing task).priority ≡ priority_in order task
        in_everything : has x everything ≡ true
        cores : ((timing x).core == (timing task).core) ≡ true

      on_core_of : (x : ℕ) → has x everything ≡ true → ((timing x).core == (timing task).core) ≡ true → OnCore x
      on_core_of x there same =
          let below : x < length system.tasks = omega (arith, range_below 0 (length system.tasks) x there) in
          let core_is : (timing_at system x).core ≡ core =
          eqb-true (timing x).core (timing task).core same ∙ (known task itself).1 in
          record {
            in_order = all x below core_is;
            priority = priority_of x core_is;
            own = priority_of task (known task itself).1;
            in_everything = there;
            cores = same;
          }

      in_order_on_core : (x : ℕ) → has x order ≡ true → OnCore x
      in_order_on_core x is = record {
        in_order = is;
        priority = priority_of x (known x is).1;
        own = priority_of task (known task itself).1;
        in_everything = range_has 0 (length system.tasks) x (omega arith) (omega (arith, (known x is).0));
        cores = eq-eqb _ _ ((known x is).1 ∙ sym (known task itself).1);
      }

      -- the tasks of higher priority are those after it
      above_are : HaveSame (filter above everything) rest
      unfolding above
      above_are x = has_filter above x everything ∙ same_tests (has x everything && above x) (has x rest)
          (λ is.
          let parts = and_parts (has x everything) (above x) is in
          let tests = and_parts ((timing x).core == (timing task).core) (nat_lt (timing task).priority (timing x).priority) parts.1 in
          let on = on_core_of x parts.0 tests.0 in
          let higher = ltb-true (timing task).priority (timing x).priority tests.1 in
          elim (side_of x on.in_order) [
            | before there ↦ absurd (omega (arith, higher, on.priority, on.own, lower_before x there))
            | here same ↦ absurd (omega (arith, higher, on.priority, on.own, ap (priority_in order) same))
            | after there ↦ there
          ])
          (λ is.
          let on = in_order_on_core x (follows x (has_more x task rest is)) in
          and_from (has x everything) (above x) on.in_everything
          (and_from ((timing x).core == (timing task).core) (nat_lt (timing task).priority (timing x).priority) on.cores
          (lt-ltb _ _ (omega (arith, on.priority, on.own, higher_after x is)))))

      -- those that may block are those before it, and it itself
      blocks_are : HaveSame (filter blocks everything) (front ++ task ∷ [])
      unfolding blocks
      blocks_are x = has_filter blocks x everything ∙ same_tests (has x everything && blocks x) (has x (front ++ task ∷ []))
          (λ is.
          let parts = and_parts (has x everything) (blocks x) is in
          let tests = and_parts ((timing x).core == (timing task).core) (nat_le (timing x).priority (timing task).priority) parts.1 in
          let on = on_core_of x parts.0 tests.0 in
          let lower = leb-true (timing x).priority (timing task).priority tests.1 in
          has_append x front (task ∷ []) ∙ elim (side_of x on.in_order) [
            | before there ↦ or_left (has x front) (has x (task ∷ [])) there
            | here same ↦ or_right (has x front) (has x (task ∷ [])) (or_left (task == x) false (eq-eqb task x same))
            | after there ↦ absurd (omega (arith, lower, on.priority, on.own, higher_after x there))
          ])
          (λ is.
          let fits : (x : ℕ) → has x order ≡ true → priority_in order x ≤ priority_in order task → (has x everything && blocks x) ≡ true =
          λ x there low.
          let on = in_order_on_core x there in
          and_from (has x everything) (blocks x) on.in_everything
          (and_from ((timing x).core == (timing task).core) (nat_le (timing x).priority (timing task).priority) on.cores
          (le-leb _ _ (omega (arith, on.priority, on.own, low)))) in
          elim (or_cases (has x front) (has x (task ∷ [])) (sym (has_append x front (task ∷ [])) ∙ is)) [
            | inl there ↦ fits x (stands x there) (omega (arith, lower_before x there))
            | inr there ↦ elim (has_cases x task [] there) [
              | inl same ↦ fits x (subst (λ n. has n order ≡ true) same itself) (omega (arith, ap (priority_in order) same))
              | inr none ↦ absurd (false≢true none)
            ]
          ])

      block_is : block_of under (timing task) ≡ max (greatest_by hold front) (hold task)
      unfolding block_of system_with blocks
      block_is =
          ap (greatest_by longest_hold) (filter-map (may_block (timing task)) timing everything)
          ∙ greatest_mapped longest_hold timing (filter blocks everything)
          ∙ greatest_agrees (λ i. longest_hold (timing i)) hold same_hold (filter blocks everything)
          ∙ greatest_same hold (filter blocks everything) (front ++ task ∷ []) blocks_are
          ∙ fold-append (λ (greatest : ℕ) i. max greatest (hold i)) 0 front (task ∷ [])

      loads_above : (width : ℕ) → sum_by (λ (above : Above). most_releases (kind_of above.stimulus) width * above.time) (map taken_by (filter (is_above (timing task)) under.tasks))
          ≡ sum_by (load system width) rest
      unfolding system_with above
      loads_above width =
          let takes : Above → ℕ = λ above. most_releases (kind_of above.stimulus) width * above.time in
          ap (λ (list : List Timing). sum_by takes (map taken_by list)) (filter-map (is_above (timing task)) timing everything)
          ∙ ap (sum_by takes) (map-map taken_by timing (filter above everything))
          ∙ fold-map (λ (a : ℕ) (above : Above). a + takes above) (λ i. taken_by (timing i)) 0 (filter above everything)
          ∙ sums_pointwise (λ i. takes (taken_by (timing i))) (load system width) (same_load width) (filter above everything)
          ∙ sums_agree (load system width) (filter above everything) rest
          (distinct_filter above everything (ascending_distinct everything (ascending_range 0 (length system.tasks)))) (rest_once front once_split) above_are
        where
          rest_once : (xs : List ℕ) → AreDistinct (xs ++ task ∷ rest) → AreDistinct rest
          rest_once [] once = once.1
          rest_once (y ∷ ys) once = rest_once ys once.1

      demand_is : (width : ℕ) → demand (question_of under (timing task)) width ≡ demand (question_below system (greatest_by hold front) rest task) width
      unfolding demand question_of
      demand_is width =
          omega (arith, block_is, same_execution task, loads_above width, demand_below system (greatest_by hold front) rest task width)

      -- ---- a task passes exactly where it fits

      -- in words of the timings under the order
      passes_is : IsPassing under task
          → ((x : ℕ) → x < length system.tasks → above x ≡ true → spans_too_many (timing task).deadline (timing x).pattern ≡ false)
          × (is_late (answer_to under (timing task)) ≡ false)
      unfolding above
      passes_is passes = (
        (λ x h higher.
            let at = timing_with_is system given x h in
            let own = timing_with_is system given task (known task itself).0 in
            ap (λ (k : StimulusKind). spans_too_many (timing task).deadline k) (sym (ap (λ (t : Timing). t.pattern) at))
            ∙ ap (λ deadline. spans_too_many deadline (timing_at under x).pattern) (sym (ap (λ (t : Timing). t.deadline) own))
            ∙ passes.few_distances x (omega (arith, h, count_with system given))
            (ap (λ (t : Timing). is_above t (timing_at under x)) own ∙ ap (λ (t : Timing). is_above (timing task) t) at ∙ higher)),
        ap (λ (t : Timing). is_late (answer_to under t)) (sym (timing_with_is system given task (known task itself).0)) ∙ passes.in_time,
      )

      passes_from : ((x : ℕ) → x < length system.tasks → above x ≡ true → spans_too_many (timing task).deadline (timing x).pattern ≡ false)
          → (is_late (answer_to under (timing task)) ≡ false) → IsPassing under task
      unfolding above
      passes_from few in_time = record {
        few_distances = λ x h higher.
            let lt : x < length system.tasks = omega (arith, h, count_with system given) in
            let at = timing_with_is system given x lt in
            let own = timing_with_is system given task (known task itself).0 in
            ap (λ (t : Timing). spans_too_many t.deadline (timing_at under x).pattern) own
            ∙ ap (λ (t : Timing). spans_too_many (timing task).deadline t.pattern) at
            ∙ few x lt (sym (ap (λ (t : Timing). is_above t (timing_at under x)) own ∙ ap (λ (t : Timing). is_above (timing task) t) at) ∙ higher);
        in_time = ap (λ (t : Timing). is_late (answer_to under t)) (timing_with_is system given task (known task itself).0) ∙ in_time;
      }

      deadline_asked : (question_of under (timing task)).deadline ≡ (timing_at system task).deadline
      unfolding question_of
      deadline_asked = refl

      jitter_asked : (question_of under (timing task)).jitter ≡ greatest_jitter (timing_at system task).pattern
      unfolding question_of
      jitter_asked = refl

      pub passes_fits : IsPassing under task → fits_below system (greatest_by hold front) rest task ≡ true
      passes_fits passes =
          let is = passes_is passes in
          and_from (spans_few system rest task) (is_some (response_to (question_below system (greatest_by hold front) rest task)))
          (list_all-from_AllPass (λ other. not (spans_too_many (timing_at system task).deadline (timing_at system other).pattern)) rest
          (has_place (λ x. not (spans_too_many (timing_at system task).deadline (timing_at system x).pattern) ≡ true) rest
          (λ x there.
          let parts = and_parts (has x everything) (above x) (sym (has_filter above x everything) ∙ above_are x ∙ there) in
          not_from_false _ (is.0 x (omega (arith, range_below 0 (length system.tasks) x parts.0)) parts.1))))
          (asks_less (question_below system (greatest_by hold front) rest task) (question_of under (timing task)) (record {
            deadline = sym deadline_asked;
            jitter = sym jitter_asked;
            needs = λ width some. omega (arith, demand_is width);
          }) (settled_some (response_to (question_of under (timing task))) is.1))

      pub fits_passes : fits_below system (greatest_by hold front) rest task ≡ true → IsPassing under task
      fits_passes fit =
          let parts = and_parts (spans_few system rest task) (is_some (response_to (question_below system (greatest_by hold front) rest task))) fit in
          passes_from
          (λ x h higher. not-true _ (all_at (λ y. not (spans_too_many (timing_at system task).deadline (timing_at system y).pattern) ≡ true) rest x
          (AllPass-from_list_all (λ other. not (spans_too_many (timing_at system task).deadline (timing_at system other).pattern)) rest parts.0)
          (sym (above_are x) ∙ has_filter above x everything ∙ and_from (has x everything) (above x) (range_has 0 (length system.tasks) x (omega arith) (omega (arith, h))) higher)))
          (some_settled (response_to (question_of under (timing task)))
          (asks_less (question_of under (timing task)) (question_below system (greatest_by hold front) rest task) (record {
            deadline = deadline_asked;
            jitter = jitter_asked;
            needs = λ width some. omega (arith, demand_is width);
          }) parts.1))

    -- ---- all tasks of the order

    more_held : (front : List ℕ) (task : ℕ) → greatest_by hold (front ++ task ∷ []) ≡ max (greatest_by hold front) (hold task)
    more_held front task = fold-append (λ (greatest : ℕ) i. max greatest (hold i)) 0 front (task ∷ [])

    all_fit : (front rest : List ℕ) → order ≡ front ++ rest → All (IsPassing under) rest → AllFit system (greatest_by hold front) rest
    all_fit front [] split pass = tt
    all_fit front (task ∷ rest) split pass = (
      passes_fits front task rest split (All-head (IsPassing under) task rest pass),
      subst (λ n. AllFit system n rest) (more_held front task)
          (all_fit (front ++ task ∷ []) rest (split ∙ sym (append_assoc front (task ∷ []) rest)) (All-tail (IsPassing under) task rest pass)),
    )

    all_pass : (front rest : List ℕ) → order ≡ front ++ rest → AllFit system (greatest_by hold front) rest → All (IsPassing under) rest
    all_pass front [] split fit = All-nil (IsPassing under)
    all_pass front (task ∷ rest) split fit = All-cons (IsPassing under) task rest
        (fits_passes front task rest split fit.0)
        (all_pass (front ++ task ∷ []) rest (split ∙ sym (append_assoc front (task ∷ []) rest))
        (subst (λ n. AllFit system n rest) (sym (more_held front task)) fit.1))

    -- an order passes exactly where each of its tasks fits
    pub passing_fits : All (IsPassing under) order → AllFit system 0 order
    passing_fits pass = all_fit [] order refl pass

    pub fitting_passes : AllFit system 0 order → All (IsPassing under) order
    fitting_passes fit = all_pass [] order refl fit
