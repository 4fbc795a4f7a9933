-- How many marks a row has, and how long their lines are.
use Rattle.std.proofs.Common.{◌≡◌, ℕ, zero, suc, ◌+◌, ◌*◌, ◌^◌, ◌<◌, ◌≤◌, Bool, true, false, List, [], ◌∷◌, length, get_or, map, refl, sym, ap, subst, ◌∙◌, arith}
use Rattle.std.specs.Prelude.{All, AllPairs, filter, nat_lt, nat_le, ◌&&◌, ◌||◌}
use Rattle.std.specs.List.{flat_map, range_with_len}
use Rattle.std.proofs.lemmas.Bool.Decides.{nat_tests}
use Rattle.std.proofs.lemmas.List.{get_or_default}
use Rattle.std.proofs.lemmas.List.Elements.{All-nil, All-map, All-filter, All-head, All-tail}
use Rattle.std.proofs.lemmas.List.FromFn.{fill_by_all, length-range_with_len, get_or-range_with_len}
use Rattle.std.proofs.lemmas.List.Kept.{AllPairs-filter}
use Rattle.cl_model.specs.{declared.model.SystemModel.SystemModel, ByNumber.deadline_of}
use Rattle.cl_runs.specs.{declared.job.Job.Job, Run.{Run, jobs_of}, Table.{no_job, job_at}, TaskTiming.IsSound, SystemOf.system_of}
use Rattle.cl_runs.proofs.{ModelSystem.{count_is, system_sound}, RunArrivals.{arrivals_rise, arrives_after_deadline, released_late, released_within}}
use Rattle.cl_picture.specs.{declared.window.Window.Window, Pieces.Element, Window.{IsPictureWindow, is_inside, x_of}}
use Rattle.cl_picture.proofs.{BarSides.{choose, pairs_head, pairs_tail}, Lengths.x_most, Printing.flat_range, TextLengths.{IsWithin, AreWithin, digits, none, fixed, number, both, each_of, no_lines, wider_lines, a_line, both_lines}, FrameLengths.x_digits, Units.{x_mono, x_least}}
use Rattle.cl_draw.specs.{declared.marks.{Arrival.Arrival, Marks.Marks, TheConstants.MOST_ARRIVALS}, Marks.{arrival_of, is_seen, arrivals, due_of, dues, wait_of, is_wait, waits, no_marks, marks_of}, MarkLines.{no_arrival, wait_pieces, arrival_pieces, due_pieces, arrival_at, has_room}}
use Rattle.cl_draw.specs.{MarkLines.{arrival_label_line, label_at, labels, mark_lines}, Inner.TaskRuns.IsTaskRun}
use Rattle.cl_draw.proofs.{CursorFacts.deadline_is, RowSides.pairs_map, SmallNumbers.job_below}

-- ---- how many items pass a test

module _ {X : Type 0} where
  passes : (p : X → Bool) (x : X) (xs : List X) → p x ≡ true → length (filter p (x ∷ xs)) ≡ length (filter p xs) + 1
  passes p x xs is = rw is (omega arith)

  fails : (p : X → Bool) (x : X) (xs : List X) → p x ≡ false → length (filter p (x ∷ xs)) ≡ length (filter p xs)
  fails p x xs is = rw is refl

  -- where what passes a test passes another, no more pass it
  no_more : (p q : X → Bool) (xs : List X) → All (λ x. p x ≡ true → q x ≡ true) xs → length (filter p xs) ≤ length (filter q xs)
  no_more p q [] each = omega arith
  no_more p q (x ∷ xs) each = by (p x) refl (q x) refl (no_more p q xs (All-tail (λ y. p y ≡ true → q y ≡ true) x xs each))
    where
      by : (a : Bool) → p x ≡ a → (b : Bool) → q x ≡ b → length (filter p xs) ≤ length (filter q xs) → length (filter p (x ∷ xs)) ≤ length (filter q (x ∷ xs))
      by true is true also rest = omega (arith, rest, passes p x xs is, passes q x xs also)
      by true is false not rest = absurd (cc (All-head (λ y. p y ≡ true → q y ≡ true) x xs each is, not))
      by false not true also rest = omega (arith, rest, fails p x xs not, passes q x xs also)
      by false not false other rest = omega (arith, rest, fails p x xs not, fails q x xs other)

  -- where an item that passes a test and not another is followed by none but such as pass both, at most one more passes it
  one_more : (p q : X → Bool) (R : X → X → Type 0) (xs : List X) → AllPairs R xs
      → ((x y : X) → R x y → p x ≡ true → q x ≡ false → p y ≡ true → q y ≡ true) → length (filter p xs) ≤ length (filter q xs) + 1
  one_more p q R [] pairs later = omega arith
  one_more p q R (x ∷ xs) pairs later = by (p x) refl (q x) refl (one_more p q R xs (pairs_tail R x xs pairs) later)
    where
      by : (a : Bool) → p x ≡ a → (b : Bool) → q x ≡ b → length (filter p xs) ≤ length (filter q xs) + 1
          → length (filter p (x ∷ xs)) ≤ length (filter q (x ∷ xs)) + 1
      by true is true also rest = omega (arith, rest, passes p x xs is, passes q x xs also)
      by true is false not rest = omega (
        arith,
        no_more p q xs (λ k d within. later x (get_or xs k d) (pairs_head R x xs pairs k d within) is not),
        passes p x xs is,
        fails q x xs not,
      )
      by false not true also rest = omega (arith, rest, fails p x xs not, passes q x xs also)
      by false not false other rest = omega (arith, rest, fails p x xs not, fails q x xs other)

  -- over what items are mapped to
  mapped : {Y : Type 0} (p : Y → Bool) (f : X → Y) (xs : List X) → length (filter p (map f xs)) ≡ length (filter (λ x. p (f x)) xs)
  mapped p f [] = refl
  mapped p f (x ∷ xs) = elim (p (f x)) as (λ b. p (f x) ≡ b → length (filter p (map f (x ∷ xs))) ≡ length (filter (λ y. p (f y)) (x ∷ xs))) [
    | true ↦ λ is. rw is (ap suc (mapped p f xs))
    | false ↦ λ not. rw not (mapped p f xs)
  ] refl

-- ---- the marks of a row

late_due : (from to a b due next : ℕ) → a ≤ due → due ≤ b → b ≤ next → (nat_le from due && nat_le due to) ≡ true → (nat_le from a && nat_le a to) ≡ false
    → (nat_le from next && nat_le next to) ≡ true → (nat_le from b && nat_le b to) ≡ true
late_due from to a b due next first second third is not also = grind (arith, nat_tests)

late_wait : (from to a r b s : ℕ) → a ≤ r → r ≤ b → (nat_lt a r && nat_lt a to && nat_lt from r) ≡ true → (nat_le from a && nat_le a to) ≡ false
    → (nat_lt b s && nat_lt b to && nat_lt from s) ≡ true → (nat_le from b && nat_le b to) ≡ true
late_wait from to a r b s first second is not also = grind (arith, nat_tests)

-- few marks, in order, and of small numbers
pub record AreFewMarks (marks : Marks) : Type 0 where
  pub arrivals : length marks.arrivals ≤ 120
  pub dues : length marks.dues ≤ 121
  pub waits : length marks.waits ≤ 121
  pub order : AllPairs (λ (one other : Arrival). one.tick ≤ other.tick) marks.arrivals
  pub small : All (λ (arrival : Arrival). arrival.job < 10 ^ 10) marks.arrivals

none_few : AreFewMarks no_marks
none_few = record {
  arrivals = omega arith;
  dues = omega arith;
  waits = omega arith;
  order = λ i j d before within. absurd (omega (arith, within));
  small = All-nil (λ (arrival : Arrival). arrival.job < 10 ^ 10);
}

module _ (model : SystemModel) (run : Run) (task : ℕ) (of : IsTaskRun model run task) (few : run.table.ticks ≤ 1000000000) (window : Window) where
  sound : IsSound (system_of model)
  sound = system_sound model of.valid

  is_task : task < length (system_of model).tasks
  is_task = omega (arith, of.is_task, count_is model)

  abbrev jobs : List Job
  jobs = jobs_of run task

  -- a job is due, and is released, by the arrival of each later one
  abbrev Before : Job → Job → Type 0
  Before one other = (one.arrival + deadline_of model task ≤ other.arrival) × (one.arrival ≤ one.release) × (one.release ≤ other.arrival)

  in_order : AllPairs Before jobs
  in_order = λ i j d before within.
      let i_in : i < length jobs = omega (arith, within, before) in
      let due = arrives_after_deadline (system_of model) sound run of.legal task is_task i j before within in
      let released = released_within (system_of model) sound run of.legal task is_task i i_in in
      let waits = released_late (system_of model) sound run of.legal task is_task i i_in in
      let jitter = (sound.tasks task is_task).above_jitter in
      let here : Before (job_at jobs i) (job_at jobs j)
      = (omega (arith, due, deadline_is model run task of), waits, omega (arith, released, jitter, due)) in
      subst (λ (x : Job). Before x (get_or jobs j d)) (sym (get_or_default jobs i d no_job i_in))
      (subst (λ (x : Job). Before (job_at jobs i) x) (sym (get_or_default jobs j d no_job within)) here)

  count_is_same : length (arrivals window jobs) ≡ length (filter (λ (job : Job). is_inside window job.arrival) jobs)
  count_is_same =
      let all : jobs ≡ map (job_at jobs) (range_with_len 0 (length jobs)) = fill_by_all (job_at jobs) jobs (length jobs) no_job refl (λ k within. refl) in
      mapped (is_seen window) (arrival_of jobs) (range_with_len 0 (length jobs))
      ∙ sym (mapped (λ (job : Job). is_inside window job.arrival) (job_at jobs) (range_with_len 0 (length jobs)))
      ∙ sym (ap (λ (js : List Job). length (filter (λ (job : Job). is_inside window job.arrival) js)) all)

  few_dues : length (dues window jobs (deadline_of model task)) ≤ length (arrivals window jobs) + 1
  few_dues =
      let more = one_more (λ (job : Job). is_inside window (due_of (deadline_of model task) job)) (λ (job : Job). is_inside window job.arrival) Before jobs in_order
      (λ x y before is not also. late_due window.from window.to x.arrival y.arrival (x.arrival + deadline_of model task) (y.arrival + deadline_of model task)
      (omega arith) before.0 (omega arith) is not also) in
      omega (arith, more, mapped (is_inside window) (due_of (deadline_of model task)) jobs, count_is_same)

  few_waits : length (waits window jobs) ≤ length (arrivals window jobs) + 1
  few_waits =
      let more = one_more (λ (job : Job). is_wait window (wait_of job)) (λ (job : Job). is_inside window job.arrival) Before jobs in_order
      (λ x y before is not also. late_wait window.from window.to x.arrival x.release y.arrival y.release before.1 before.2 is not also) in
      omega (arith, more, mapped (is_wait window) wait_of jobs, count_is_same)

  order_of : AllPairs (λ (one other : Arrival). one.tick ≤ other.tick) (arrivals window jobs)
  order_of = AllPairs-filter (λ (one other : Arrival). one.tick ≤ other.tick) (is_seen window) (map (arrival_of jobs) (range_with_len 0 (length jobs)))
      (pairs_map (λ (one other : Arrival). one.tick ≤ other.tick) (arrival_of jobs) 0 (range_with_len 0 (length jobs))
      (λ i j before within.
      let n : ℕ = length jobs in
      let j_in : j < n = omega (arith, within, length-range_with_len 0 n) in
      let k : ℕ = get_or (range_with_len 0 n) i 0 in
      let l : ℕ = get_or (range_with_len 0 n) j 0 in
      let i_is = get_or-range_with_len 0 n i 0 (omega (arith, before, j_in)) in
      let j_is = get_or-range_with_len 0 n j 0 j_in in
      omega (arith, arrivals_rise (system_of model) sound run of.legal task is_task k l (omega (arith, before, i_is, j_is)) (omega (arith, j_is, j_in)))))

  small_of : All (λ (arrival : Arrival). arrival.job < 10 ^ 10) (arrivals window jobs)
  small_of = All-filter (is_seen window) (λ (arrival : Arrival). arrival.job < 10 ^ 10) (map (arrival_of jobs) (range_with_len 0 (length jobs)))
      (All-map (λ (arrival : Arrival). arrival.job < 10 ^ 10) (arrival_of jobs) (range_with_len 0 (length jobs))
      (λ k d within.
      let k_in : k < length jobs = omega (arith, within, length-range_with_len 0 (length jobs)) in
      let is = get_or-range_with_len 0 (length jobs) k d k_in in
      omega (arith, job_below model run task of (get_or (range_with_len 0 (length jobs)) k d) (omega (arith, is, k_in)), few)))

  not_more : (m n : ℕ) → nat_lt m n ≡ false → n ≤ m
  not_more m n not = grind (arith, nat_tests)

  pub few_marks : AreFewMarks (marks_of window jobs (deadline_of model task))
  few_marks = choose AreFewMarks (nat_lt MOST_ARRIVALS (length (arrivals window jobs))) no_marks
      (record { arrivals = arrivals window jobs; dues = dues window jobs (deadline_of model task); waits = waits window jobs })
      (λ many. none_few)
      (λ not.
      let most = not_more MOST_ARRIVALS (length (arrivals window jobs)) not in
      record {
        arrivals = omega (arith, most);
        dues = omega (arith, few_dues, most);
        waits = omega (arith, few_waits, most);
        order = order_of;
        small = small_of;
      })

-- ---- their lines

module _ (window : Window) (is : IsPictureWindow window) (marks : Marks) (are : AreFewMarks marks) where
  -- so many labels below a number, of so many bytes
  record AreLabelsBelow (k : ℕ) : Type 0 where
    count : ℕ
    within : AreWithin (flat_map (label_at window marks.arrivals) (range_with_len 0 k)) (52 * count)
    apart : k < length marks.arrivals → 320 * count + 2000 ≤ x_of window (arrival_at marks.arrivals k).tick
    most : 320 * count + 2000 ≤ 11920

  label_within : (k : ℕ) → k < length marks.arrivals → IsWithin (arrival_label_line window (arrival_at marks.arrivals k)) 51
  label_within k within =
      let left : x_of window (arrival_at marks.arrivals k).tick + 44 < 10 ^ 5 = omega (arith, x_most window (arrival_at marks.arrivals k).tick is) in
      let job = are.small k no_arrival within in
      fixed _ (number (digits 5 _ (omega arith) left (omega (arith, left))) (fixed _ (number (digits 10 _ (omega arith) job (omega (arith, job))) (fixed _ none))))

  x_rises : (k : ℕ) → k + 1 < length marks.arrivals → x_of window (arrival_at marks.arrivals k).tick ≤ x_of window (arrival_at marks.arrivals (k + 1)).tick
  x_rises k within = x_mono window is.ordered (arrival_at marks.arrivals k).tick (arrival_at marks.arrivals (k + 1)).tick
      (are.order k (k + 1) no_arrival (omega arith) within)

  room_apart : (n k x y : ℕ) → (nat_le n (k + 1) || nat_le (x + 320) y) ≡ true → k + 1 < n → x + 320 ≤ y
  room_apart n k x y is more = grind (arith, nat_tests)

  one_label : (k : ℕ) → k < length marks.arrivals → AreWithin (label_at window marks.arrivals k) 52
  one_label k within = choose (λ es. AreWithin es 52) (has_room window marks.arrivals k) (arrival_label_line window (arrival_at marks.arrivals k) ∷ []) []
      (λ yes. a_line (label_within k within) no_lines) (λ no. wider_lines 52 no_lines (omega arith))

  no_label : (k : ℕ) → has_room window marks.arrivals k ≡ false → AreWithin (label_at window marks.arrivals k) 0
  no_label k not = choose (λ es. AreWithin es 0) (has_room window marks.arrivals k) (arrival_label_line window (arrival_at marks.arrivals k) ∷ []) []
      (λ yes. absurd (cc (yes, not))) (λ no. no_lines)

  next_label : (k : ℕ) → k < length marks.arrivals → AreLabelsBelow k → AreLabelsBelow (k + 1)
  next_label k within below = by (has_room window marks.arrivals k) refl
    where
      by : (b : Bool) → has_room window marks.arrivals k ≡ b → AreLabelsBelow (k + 1)
      by true room = record {
        count = below.count + 1;
        within = subst (λ (es : List Element). AreWithin es (52 * (below.count + 1))) (flat_range (label_at window marks.arrivals) k)
            (wider_lines (52 * (below.count + 1)) (both_lines below.within (one_label k within)) (omega arith));
        apart = λ more. omega (
          arith,
          below.apart within,
          room_apart (length marks.arrivals) k (x_of window (arrival_at marks.arrivals k).tick) (x_of window (arrival_at marks.arrivals (k + 1)).tick) room more,
        );
        most = omega (arith, below.apart within, x_most window (arrival_at marks.arrivals k).tick is);
      }
      by false none_here = record {
        count = below.count;
        within = subst (λ (es : List Element). AreWithin es (52 * below.count)) (flat_range (label_at window marks.arrivals) k)
            (wider_lines (52 * below.count) (both_lines below.within (no_label k none_here)) (omega arith));
        apart = λ more. omega (arith, below.apart within, x_rises k more);
        most = below.most;
      }

  labels_below : (k : ℕ) → k ≤ length marks.arrivals → AreLabelsBelow k
  labels_below zero within = record {
    count = 0;
    within = no_lines;
    apart = λ more. omega (arith, x_least window (arrival_at marks.arrivals 0).tick);
    most = omega arith;
  }
  labels_below (suc k) within =
      let next : k + 1 ≡ suc k = omega arith in
      subst AreLabelsBelow next (next_label k (omega (arith, within)) (labels_below k (omega (arith, within))))

  labels_within : AreWithin (labels window marks.arrivals) 1612
  labels_within = let all = labels_below (length marks.arrivals) (omega arith) in wider_lines 1612 all.within (omega (arith, all.most))

  pub marks_within : AreWithin (mark_lines window marks) 9060
  unfolding mark_lines
  marks_within =
      let waits = each_of (wait_pieces window) marks.waits 20
      (λ k d within. fixed _ (number (x_digits window is _) (fixed _ (number (x_digits window is _) (fixed _ none))))) in
      let arrivals = each_of (arrival_pieces window) marks.arrivals 21 (λ k d within. fixed _ (number (x_digits window is _) (fixed _ none))) in
      let dues = each_of (due_pieces window) marks.dues 20 (λ k d within. fixed _ (number (x_digits window is _) (fixed _ none))) in
      wider_lines 9060
      (a_line (both (both (fixed _ none) waits) (fixed _ none)) (a_line (both (both (fixed _ none) arrivals) (fixed _ none))
      (a_line (both (both (fixed _ none) dues) (fixed _ none)) labels_within)))
      (omega (arith, are.waits, are.arrivals, are.dues))
