-- The bars of a row lie side by side, and each tick in which its task runs lies under them.
use Rattle.std.proofs.Common.{◌≡◌, ℕ, zero, suc, ◌+◌, ◌-◌, ◌<◌, ◌≤◌, ◌&&◌, Bool, true, false, cond, inl, inr, Option, Some, None, List, [], ◌∷◌, length, get_or, map, refl, sym, subst, arith}
use Rattle.std.specs.Prelude.{All, AllPairs, filter, nat_lt, slice_get, unwrap_or}
use Rattle.std.specs.List.{range_with_len}
use Rattle.std.proofs.lemmas.Bool.{cases_lt}
use Rattle.std.proofs.lemmas.Bool.Decides.{nat_tests}
use Rattle.std.proofs.lemmas.List.{get_or-map, get_or_default, length-map}
use Rattle.std.proofs.lemmas.List.Elements.{All-nil, All-cons, All-head, All-tail, All-map, All-filter, filter_passes}
use Rattle.std.proofs.lemmas.List.FromFn.{length-range_with_len, get_or-range_with_len}
use Rattle.std.proofs.lemmas.Option.{slice_get-get_or, slice_get_within}
use Rattle.cl_model.specs.{declared.model.SystemModel.SystemModel, ByNumber.{task_at, deadline_of}}
use Rattle.cl_runs.specs.{TaskTiming.{IsSound, timing_at}, SystemOf.system_of, Run.{Run, jobs_of, entry_at}, Table.job_at, Moments.JobFinishes}
use Rattle.cl_runs.proofs.{ModelSystem.{count_is, system_sound}, StartsFinishes.finish_earliest, JobProgress.finishes_late, Work.{places_rise, work_rises}}
use Rattle.cl_check.specs.JobMoments.{IsMomentOf}
use Rattle.cl_picture.specs.{declared.{window.Window.Window, item.{Item.Item, Bar.Bar}}, Bars.{counts, bars}, Shown.{HaveTicks, EndInOrder, FollowEachOther, LieSideBySide, IsUnder}, Window.{low_of, high_of}}
use Rattle.cl_picture.proofs.{Units.{low_mono, high_mono, shares}, BarSides.{side_by_side, lie_under}}
use Rattle.cl_draw.specs.{declared.{parts.Part.Part, rows.Row.Row}, Items.{part_item, band, bands}, Parts.{no_part, part_at, AreParts, AreFinishes}, Picture.window_between, Rows.IsRowOf, Inner.TaskRuns.IsTaskRun}
use Rattle.cl_draw.proofs.CursorFacts.{places_are, some_time}

-- ---- lists

-- what is so of pairs of items is so of what they are mapped to
pub pairs_map : {X Y : Type 0} (R : Y → Y → Type 0) (f : X → Y) (d : X) (xs : List X)
    → ((i j : ℕ) → i < j → j < length xs → R (f (get_or xs i d)) (f (get_or xs j d))) → AllPairs R (map f xs)
pairs_map R f d xs pairs = λ i j e before within.
    let j_in : j < length xs = omega (arith, within, length-map xs f) in
    let i_in : i < length xs = omega (arith, j_in, before) in
    subst (λ y. R y (get_or (map f xs) j e)) (sym (get_or-map f xs i d e i_in))
    (subst (λ y. R (f (get_or xs i d)) y) (sym (get_or-map f xs j d e j_in)) (pairs i j before j_in))

-- what is so of each item that passes a test is so of each item, if it passes
passing_has : {X : Type 0} (p : X → Bool) (P : X → Type 0) (xs : List X) → All P (filter p xs) → All (λ x. p x ≡ true → P x) xs
passing_has p P [] each = All-nil (λ x. p x ≡ true → P x)
passing_has p P (x ∷ xs) each = by (p x) refl each (λ rest. passing_has p P xs rest)
  where
    by : (b : Bool) → p x ≡ b → All P (cond b (x ∷ filter p xs) (filter p xs)) → (All P (filter p xs) → All (λ y. p y ≡ true → P y) xs)
        → All (λ y. p y ≡ true → P y) (x ∷ xs)
    by true is here later = All-cons (λ y. p y ≡ true → P y) x xs (λ passes. All-head P x (filter p xs) here) (later (All-tail P x (filter p xs) here))
    by false is here later = All-cons (λ y. p y ≡ true → P y) x xs (λ passes. absurd (cc (is, passes))) (later here)

-- and the other way round
pub passing_all : {X : Type 0} (p : X → Bool) (P : X → Type 0) (xs : List X) → All (λ x. p x ≡ true → P x) xs → All P (filter p xs)
passing_all p P xs each = λ k d within. All-filter p (λ x. p x ≡ true → P x) xs each k d within (filter_passes p xs k d within)

both_less : (a b c d : ℕ) → a < b → c < d → (nat_lt a b && nat_lt c d) ≡ true
both_less a b c d one other = grind (arith, nat_tests)

module _ (model : SystemModel) (run : Run) (task : ℕ) (of : IsTaskRun model run task) where
  -- ---- bands

  sound : IsSound (system_of model)
  sound = system_sound model of.valid

  is_task : task < length (system_of model).tasks
  is_task = omega (arith, of.is_task, count_is model)

  module _ (finishes : List ℕ) (are : AreFinishes (system_of model) run task finishes) where
    -- where a band ends
    abbrev end_at : Option ℕ → ℕ
    end_at found = unwrap_or found run.table.ticks

    ends_in_order : (k l : ℕ) → k < l → (one other : Option ℕ) → slice_get finishes k ≡ one → slice_get finishes l ≡ other
        → IsMomentOf (JobFinishes (system_of model) run task k) one → IsMomentOf (JobFinishes (system_of model) run task l) other → end_at one ≤ end_at other
    ends_in_order k l before None None is also first second = omega arith
    ends_in_order k l before (Some s) None is also first second = first.by_end
    ends_in_order k l before None (Some t) is also first second =
        let within = slice_get_within finishes l t also in
        absurd (cc (is, slice_get-get_or finishes k 0 (omega (arith, before, within))))
    ends_in_order k l before (Some s) (Some t) is also first second =
        let last : ℕ = length (timing_at (system_of model) task).ranges - 1 in
        finish_earliest (system_of model) run task k last s t first
        (omega (
          arith,
          second.reached,
          work_rises (jobs_of run task) k last l last first.in_table (omega (arith, first.is_runnable, places_are model run task of k first.in_table)) before,
        ))

    abbrev band_of : (job : ℕ) → Item
    band_of job = band (jobs_of run task) (deadline_of model task) finishes run.table.ticks job

    bands_in_order : EndInOrder (bands (jobs_of run task) (deadline_of model task) finishes run.table.ticks)
    bands_in_order = pairs_map (λ (one other : Item). one.to ≤ other.to) band_of 0 (range_with_len 0 (length (jobs_of run task)))
        (λ i j before within.
        let n : ℕ = length (jobs_of run task) in
        let j_in : j < n = omega (arith, within, length-range_with_len 0 n) in
        let k : ℕ = get_or (range_with_len 0 n) i 0 in
        let l : ℕ = get_or (range_with_len 0 n) j 0 in
        ends_in_order k l (omega (arith, before, get_or-range_with_len 0 n i 0 (omega (arith, before, j_in)), get_or-range_with_len 0 n j 0 j_in))
        (slice_get finishes k) (slice_get finishes l) refl refl (are.each k) (are.each l))

    -- a band that is seen has ticks
    band_has_ticks : (job to : ℕ) (found : Option ℕ) → IsMomentOf (JobFinishes (system_of model) run task job) found → to ≤ run.table.ticks
        → (job_at (jobs_of run task) job).release < to → (job_at (jobs_of run task) job).release < end_at found
    band_has_ticks job to None none within seen = omega (arith, within, seen)
    band_has_ticks job to (Some t) finish within seen =
        let last : ℕ = length (timing_at (system_of model) task).ranges - 1 in
        omega (
          arith,
          finishes_late (system_of model) sound run of.legal task is_task job last t finish,
          places_rise (jobs_of run task) job 0 last (omega arith),
          some_time model run task of job last finish.in_table finish.is_runnable,
        )

    bands_have_ticks : (window : Window) → window.from < window.to → window.to ≤ run.table.ticks
        → HaveTicks (filter (counts window) (bands (jobs_of run task) (deadline_of model task) finishes run.table.ticks))
    bands_have_ticks window ordered within = passing_all (counts window) (λ (item : Item). item.from < item.to)
        (bands (jobs_of run task) (deadline_of model task) finishes run.table.ticks)
        (All-map (λ (item : Item). counts window item ≡ true → item.from < item.to) band_of (range_with_len 0 (length (jobs_of run task)))
        (λ k d in_range counted.
        let job : ℕ = get_or (range_with_len 0 (length (jobs_of run task))) k d in
        band_has_ticks job window.to (slice_get finishes job) (are.each job) within (shares window ordered (band_of job) counted).1))

  -- ---- parts

  module _ (parts : List Part) (are : AreParts (system_of model) run task parts) where
    parts_rise : (i j : ℕ) → i < j → j < length parts → (part_at parts i).to ≤ (part_at parts j).from
    parts_rise i zero before within = absurd (omega (arith, before))
    parts_rise i (suc j) before within = elim (cases_lt i j) [
      | inl earlier ↦ omega (
        arith,
        parts_rise i j earlier (omega (arith, within)),
        (are.each j (omega (arith, within))).some,
        (are.in_order j within).in_order,
      )
      | inr last ↦ let same : j ≡ i = omega (arith, last, before) in
          subst (λ k. (part_at parts k).to ≤ (part_at parts (suc j)).from) same (are.in_order j within).in_order
    ]

    abbrev item_of : Part → Item
    item_of part = part_item (jobs_of run task) (deadline_of model task) (task_at model task).runnables part

    parts_follow : FollowEachOther (map item_of parts)
    parts_follow = pairs_map (λ (one other : Item). one.to ≤ other.from) item_of no_part parts parts_rise

    parts_in_order : EndInOrder (map item_of parts)
    parts_in_order = pairs_map (λ (one other : Item). one.to ≤ other.to) item_of no_part parts
        (λ i j before within. omega (arith, parts_rise i j before within, (are.each j within).some))

    parts_have_ticks : HaveTicks (map item_of parts)
    parts_have_ticks = All-map (λ (item : Item). item.from < item.to) item_of parts
        (λ k d within. subst (λ (p : Part). p.from < p.to) (sym (get_or_default parts k d no_part within)) (are.each k within).some)

  -- ---- rows

  module _ (from to : ℕ) (ordered : from < to) (within : to ≤ run.table.ticks) (row : Row) (is : IsRowOf model run (window_between from to) task row) where
    pub bands_beside : LieSideBySide row.bands
    bands_beside = subst LieSideBySide (sym is.bands_drawn)
        (side_by_side (window_between from to) ordered (bands (jobs_of run task) (deadline_of model task) is.finishes run.table.ticks)
        (bands_in_order is.finishes is.are_finishes) (bands_have_ticks is.finishes is.are_finishes (window_between from to) ordered within))

    pub parts_beside : LieSideBySide row.parts
    parts_beside = subst LieSideBySide (sym is.parts_drawn)
        (side_by_side (window_between from to) ordered (map (item_of is.parts is.are_parts) is.parts) (parts_in_order is.parts is.are_parts)
        (All-filter (counts (window_between from to)) (λ (item : Item). item.from < item.to) (map (item_of is.parts is.are_parts) is.parts)
        (parts_have_ticks is.parts is.are_parts)))

    pub tick_under : (tick : ℕ) → from ≤ tick → tick < to → entry_at run (timing_at (system_of model) task).core tick ≡ Some task
        → (place : ℕ) → low_of (window_between from to) tick ≤ place → place < high_of (window_between from to) (tick + 1) → IsUnder row.parts place
    tick_under tick after before runs place left right =
        let window : Window = window_between from to in
        let items : List Item = map (item_of is.parts is.are_parts) is.parts in
        let have = is.are_parts.all tick (omega (arith, before, within)) runs in
        let part : Part = part_at is.parts have.place in
        let under = passing_has (counts window)
        (λ (item : Item). (u : ℕ) → low_of window item.from ≤ u → u < high_of window item.to → IsUnder (bars window items) u)
        items (lie_under window ordered items (parts_follow is.parts is.are_parts) (parts_have_ticks is.parts is.are_parts)) in
        let item : Item = item_of is.parts is.are_parts part in
        let here : get_or items have.place item ≡ item = get_or-map (item_of is.parts is.are_parts) is.parts have.place no_part item have.within in
        let own = subst (λ (i : Item). counts window i ≡ true → (u : ℕ) → low_of window i.from ≤ u → u < high_of window i.to → IsUnder (bars window items) u) here
        (under have.place item (omega (arith, have.within, length-map is.parts (item_of is.parts is.are_parts)))) in
        subst (λ (bs : List Bar). IsUnder bs place) (sym is.parts_drawn)
        (own (both_less from part.to part.from to (omega (arith, after, have.to)) (omega (arith, before, have.from))) place
        (omega (arith, left, low_mono window ordered part.from tick have.from))
        (omega (arith, right, high_mono window ordered (tick + 1) part.to (omega (arith, have.to)))))
