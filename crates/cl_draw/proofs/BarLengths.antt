-- How many bars a row has, and how long their lines are.
use Rattle.std.proofs.Common.{◌≡◌, ℕ, ◌+◌, ◌-◌, ◌*◌, ◌^◌, ◌<◌, ◌≤◌, Bool, true, false, if◌then◌else◌, Option, Some, None, List, [], ◌∷◌, length, get_or, map, sym, subst, arith}
use Rattle.std.specs.Prelude.{All, AllPairs, codes, filter, nat_le, slice_get, unwrap_or, ◌==◌}
use Rattle.std.specs.List.{range_with_len}
use Rattle.std.proofs.lemmas.List.{get_or_default}
use Rattle.std.proofs.lemmas.List.Elements.{All-nil, All-cons, All-head, All-tail, All-map, All-filter}
use Rattle.std.proofs.lemmas.List.FromFn.{length-range_with_len, get_or-range_with_len}
use Rattle.cl_model.specs.{declared.{limits.TheConstants.MOST_TICKS, model.SystemModel.SystemModel}, AreNamed.AreNamed, ByNumber.{task_at, deadline_of, stimulus_of}}
use Rattle.cl_model.proofs.ValidTasks.{early_enough, kind_in_range}
use Rattle.cl_runs.specs.{Run.{Run, jobs_of}, Moments.JobFinishes, TaskTiming.IsSound, SystemOf.system_of}
use Rattle.cl_runs.proofs.{ModelSystem.{count_is, system_sound}, RunArrivals.arrives_below}
use Rattle.cl_check.specs.JobMoments.{IsMomentOf}
use Rattle.cl_picture.specs.{declared.{window.Window.Window, item.{Item.Item, Bar.Bar, End.End, Rest.Rest}}, Bars.{counts, bar_of, joined_bar, bars_from}, Pieces.Piece, Shown.LieSideBySide, Window.high_of}
use Rattle.cl_picture.specs.declared.item.Rest.TheVariants as rest
use Rattle.cl_picture.proofs.{BarSides.{choose, pairs_head, pairs_tail}, Units.shares, TextLengths.{IsWithin, HasDigits, digits, none, wider, fixed, number, name, both}}
use Rattle.cl_draw.specs.{declared.{parts.Part.Part, rows.Row.Row}, Items.{is_whole, part_kind, part_item, band, bands}, Parts.{due_at, no_part, part_at, AreParts, AreFinishes}, Picture.window_between, RowLines.{finish_piece, rest_pieces, words_pieces, bar_head, bar_line}, Rows.IsRowOf}
use Rattle.cl_draw.specs.Inner.TaskRuns.{IsTaskRun}
use Rattle.cl_draw.proofs.{ItemFacts.least_few, RowSides.passing_all, SmallNumbers.{task_short, runnable_short, job_below}}

-- ---- how many

-- bars that lie side by side from a place on
few_from : (left : ℕ) (bs : List Bar) → left ≤ 11600 → All (λ (bar : Bar). left ≤ bar.left) bs → All (λ (bar : Bar). bar.left + 10 ≤ bar.right) bs
    → All (λ (bar : Bar). bar.right ≤ 11600) bs → AllPairs (λ (one other : Bar). one.right ≤ other.left) bs → 10 * length bs + left ≤ 11600
few_from left [] fits from wide most apart = omega (arith, fits)
few_from left (bar ∷ bs) fits from wide most apart = omega (
  arith,
  All-head (λ (b : Bar). left ≤ b.left) bar bs from,
  All-head (λ (b : Bar). b.left + 10 ≤ b.right) bar bs wide,
  few_from bar.right bs (All-head (λ (b : Bar). b.right ≤ 11600) bar bs most) (pairs_head (λ (one other : Bar). one.right ≤ other.left) bar bs apart)
      (All-tail (λ (b : Bar). b.left + 10 ≤ b.right) bar bs wide) (All-tail (λ (b : Bar). b.right ≤ 11600) bar bs most)
      (pairs_tail (λ (one other : Bar). one.right ≤ other.left) bar bs apart),
)

pub few_bars : (bs : List Bar) → LieSideBySide bs → length bs ≤ 960
few_bars bs beside = omega (arith, few_from 2000 bs (omega arith) beside.least beside.wide beside.most beside.apart)

-- ---- their numbers

abbrev IsSmallRest : Rest → Type 0
IsSmallRest (rest.Part place) = Unit {0}
IsSmallRest (rest.Band arrival due finished) = (arrival < 10 ^ 10) × (due < 10 ^ 13)

pub record IsSmallItem (item : Item) : Type 0 where
  pub job : item.job < 10 ^ 10
  pub from : item.from < 10 ^ 10
  pub to : item.to < 10 ^ 10
  pub kind : item.kind < 10
  pub said : IsSmallRest item.rest

abbrev IsSmallEnd : Option End → Type 0
IsSmallEnd None = Unit {0}
IsSmallEnd (Some last) = (last.job < 10 ^ 10) × (last.to < 10 ^ 10)

pub record IsSmallBar (bar : Bar) : Type 0 where
  pub first : IsSmallItem bar.first
  pub last : IsSmallEnd bar.last
  pub kind : bar.kind < 10

joined_small : (bar : Bar) (item : Item) → IsSmallBar bar → IsSmallItem item → IsSmallBar (joined_bar bar item)
joined_small bar item is more = record { first = is.first; last = (more.job, more.to); kind = omega (arith, is.kind, more.kind) }

alone_small : (window : Window) (floor : ℕ) (item : Item) → IsSmallItem item → IsSmallBar (bar_of window floor item)
alone_small window floor item is = record { first = is; last = tt; kind = is.kind }

small_from : (window : Window) (bar : Bar) (items : List Item) → IsSmallBar bar → All IsSmallItem items → All IsSmallBar (bars_from window (Some bar) items)
small_from window bar [] is each = All-cons IsSmallBar bar [] is (All-nil IsSmallBar)
small_from window bar (item ∷ items) is each = choose (All IsSmallBar) (high_of window item.to == bar.right)
    (bars_from window (Some (joined_bar bar item)) items) (bar ∷ bars_from window (Some (bar_of window bar.right item)) items)
    (λ same. small_from window (joined_bar bar item) items (joined_small bar item is (All-head IsSmallItem item items each)) (All-tail IsSmallItem item items each))
    (λ other. All-cons IsSmallBar bar (bars_from window (Some (bar_of window bar.right item)) items) is
    (small_from window (bar_of window bar.right item) items (alone_small window bar.right item (All-head IsSmallItem item items each)) (All-tail IsSmallItem item items each)))

small_of : (window : Window) (items : List Item) → All IsSmallItem items → All IsSmallBar (bars_from window None items)
small_of window [] each = All-nil IsSmallBar
small_of window (item ∷ items) each =
    small_from window (bar_of window 0 item) items (alone_small window 0 item (All-head IsSmallItem item items each)) (All-tail IsSmallItem item items each)

module _ (model : SystemModel) (run : Run) (task : ℕ) (of : IsTaskRun model run task) (few : run.table.ticks ≤ 1000000000) where
  sound : IsSound (system_of model)
  sound = system_sound model of.valid

  is_task : task < length (system_of model).tasks
  is_task = omega (arith, of.is_task, count_is model)

  small_job : (job : ℕ) → job < length (jobs_of run task) → job < 10 ^ 10
  small_job job within = omega (arith, job_below model run task of job within, few)

  -- ---- parts

  small_kind : (part : Part) → part_kind (jobs_of run task) (deadline_of model task) (task_at model task).runnables part < 10
  small_kind part = choose (λ kind. kind < 10) (nat_le (due_at (jobs_of run task) (deadline_of model task) part.job) part.from) 2
      (if is_whole (task_at model task).runnables part.place then 1 else 0) (λ late. omega arith)
      (λ not. choose (λ kind. kind < 10) (is_whole (task_at model task).runnables part.place) 1 0 (λ whole. omega arith) (λ other. omega arith))

  abbrev item_of : Part → Item
  item_of part = part_item (jobs_of run task) (deadline_of model task) (task_at model task).runnables part

  module _ (parts : List Part) (are : AreParts (system_of model) run task parts) where
    small_part : (k : ℕ) → k < length parts → IsSmallItem (item_of (part_at parts k))
    small_part k within =
        let is = are.each k within in
        let first = is.executes (part_at parts k).from (omega arith) is.some in
        let last = is.executes ((part_at parts k).to - 1) (omega (arith, is.some)) (omega (arith, is.some)) in
        record {
          job = small_job (part_at parts k).job first.in_table;
          from = omega (arith, first.below_end, few);
          to = omega (arith, last.below_end, few);
          kind = small_kind (part_at parts k);
          said = tt;
        }

    small_parts : All IsSmallItem (map item_of parts)
    small_parts = All-map IsSmallItem item_of parts
        (λ k d within. subst (λ (p : Part). IsSmallItem (item_of p)) (sym (get_or_default parts k d no_part within)) (small_part k within))

  -- ---- bands

  module _ (finishes : List ℕ) (are : AreFinishes (system_of model) run task finishes) (window : Window) (ordered : window.from < window.to)
      (within : window.to ≤ run.table.ticks) where
    abbrev band_of : (job : ℕ) → Item
    band_of job = band (jobs_of run task) (deadline_of model task) finishes run.table.ticks job

    small_end : (job : ℕ) (found : Option ℕ) → IsMomentOf (JobFinishes (system_of model) run task job) found → unwrap_or found run.table.ticks < 10 ^ 10
    small_end job None not = omega (arith, few)
    small_end job (Some t) finish = omega (arith, finish.by_end, few)

    small_band : (job : ℕ) → job < length (jobs_of run task) → counts window (band_of job) ≡ true → IsSmallItem (band_of job)
    small_band job in_table counted =
        let arrives = arrives_below (system_of model) sound run of.legal task is_task job in_table in
        let shared = shares window ordered (band_of job) counted in
        let deadline : deadline_of model task ≤ MOST_TICKS
        = omega (arith, early_enough model of.valid task of.is_task, least_few (stimulus_of model task) (kind_in_range model of.valid task of.is_task)) in
        record {
          job = small_job job in_table;
          from = omega (arith, shared.1, within, few);
          to = small_end job (slice_get finishes job) (are.each job);
          kind = omega arith;
          said = (omega (arith, arrives, few), omega (arith, arrives, few, deadline));
        }

    small_bands : All IsSmallItem (filter (counts window) (bands (jobs_of run task) (deadline_of model task) finishes run.table.ticks))
    small_bands = passing_all (counts window) IsSmallItem (bands (jobs_of run task) (deadline_of model task) finishes run.table.ticks)
        (All-map (λ (item : Item). counts window item ≡ true → IsSmallItem item) band_of (range_with_len 0 (length (jobs_of run task)))
        (λ k d in_range.
        let k_in : k < length (jobs_of run task) = omega (arith, in_range, length-range_with_len 0 (length (jobs_of run task))) in
        small_band (get_or (range_with_len 0 (length (jobs_of run task))) k d)
        (omega (arith, k_in, get_or-range_with_len 0 (length (jobs_of run task)) k d k_in))))

  -- ---- of a row

  module _ (from to : ℕ) (ordered : from < to) (within : to ≤ run.table.ticks) (row : Row) (is : IsRowOf model run (window_between from to) task row) where
    pub small_bars_of_bands : All IsSmallBar row.bands
    small_bars_of_bands = subst (All IsSmallBar) (sym is.bands_drawn)
        (small_of (window_between from to) (filter (counts (window_between from to)) (bands (jobs_of run task) (deadline_of model task) is.finishes run.table.ticks))
        (small_bands is.finishes is.are_finishes (window_between from to) ordered within))

    pub small_bars_of_parts : All IsSmallBar row.parts
    small_bars_of_parts = subst (All IsSmallBar) (sym is.parts_drawn)
        (small_of (window_between from to) (filter (counts (window_between from to)) (map item_of is.parts))
        (All-filter (counts (window_between from to)) IsSmallItem (map item_of is.parts) (small_parts is.parts is.are_parts)))

-- ---- their lines

ten_digits : (n : ℕ) → n < 10 ^ 10 → HasDigits n 10
ten_digits n small = digits 10 n (omega arith) small (omega (arith, small))

module _ (model : SystemModel) (named : AreNamed model) (task : ℕ) where
  finish_within : (finished : Bool) (to : ℕ) → to < 10 ^ 10 → {more : List Piece} {most : ℕ} → IsWithin more most → IsWithin (finish_piece finished to ∷ more) (10 + most)
  finish_within true to small {more} {most} is = number (ten_digits to small) is
  finish_within false to small {more} {most} is = wider (10 + most) (fixed (codes "none") is) (omega arith)

  rest_within : (item : Item) (said : Rest) → IsSmallItem item → IsSmallRest said → IsWithin (rest_pieces (task_at model task) item said) 95
  rest_within item (rest.Part place) small said =
      fixed _ (name (runnable_short model named task place) (fixed _ (number (ten_digits item.from small.from) (fixed _ (number (ten_digits item.to small.to) none)))))
  rest_within item (rest.Band arrival due finished) small said = wider 95
      (fixed _ (number (ten_digits arrival said.0) (fixed _ (number (ten_digits item.from small.from) (fixed _ (finish_within finished item.to small.to
      (fixed _ (number (digits 13 due (omega arith) said.1 (omega (arith, said.1))) none))))))))
      (omega arith)

  words_within : (first : Item) (last : Option End) → IsSmallItem first → IsSmallEnd last → IsWithin (words_pieces (task_at model task) first last) 109
  words_within first None small end = wider 109 (rest_within first first.rest small small.said) (omega arith)
  words_within first (Some last) small end =
      fixed _ (name (task_short model named task) (fixed _ (number (ten_digits last.job end.0)
      (fixed _ (number (ten_digits first.from small.from) (fixed _ (number (ten_digits last.to end.1) none)))))))

  head_within : (opening : List ℕ) (bar : Bar) → length opening ≤ 14 → IsSmallBar bar → bar.left ≤ 11600 → bar.right ≤ 11600
      → IsWithin (bar_head opening (task_at model task) bar) 145
  head_within opening bar short small left right = wider 145
      (fixed opening (number (digits 1 bar.kind (omega arith) small.kind (omega (arith, small.kind)))
      (fixed _ (number (digits 5 bar.left (omega arith) (omega (arith, left)) (omega (arith, left)))
      (fixed _ (number (digits 5 (bar.right - bar.left) (omega arith) (omega (arith, right)) (omega (arith, right)))
      (fixed _ (name (task_short model named task) (fixed _ (number (ten_digits bar.first.job small.first.job) none))))))))))
      (omega (arith, short))

  pub bar_within : (opening : List ℕ) (bar : Bar) → length opening ≤ 14 → IsSmallBar bar → bar.left ≤ 11600 → bar.right ≤ 11600
      → IsWithin (bar_line opening (task_at model task) bar) 279
  unfolding bar_line
  bar_within opening bar short small left right = wider 279
      (both (both (head_within opening bar short small left right) (words_within bar.first bar.last small.first small.last)) (fixed _ none)) (omega arith)
