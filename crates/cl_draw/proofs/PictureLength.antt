-- How long a picture is.
use Rattle.std.proofs.Common.{◌≡◌, ℕ, zero, suc, ◌+◌, ◌*◌, ◌/◌, ◌%◌, ◌<◌, ◌≤◌, List, length, get_or, map, sym, ap, subst, arith}
use Rattle.std.specs.Prelude.{All, codes, sum_by}
use Rattle.std.specs.List.{flat_map, range_with_len}
use Rattle.std.proofs.lemmas.List.FromFn.{length-range_with_len, get_or-range_with_len}
use Rattle.std.proofs.lemmas.List.Sums.{sum_by-le}
use Rattle.cl_model.specs.{declared.model.SystemModel.SystemModel, AreNamed.AreNamed, ByNumber.{task_at, chain_at, core_of, deadline_of, tasks_of_core}, Validity.IsValid}
use Rattle.cl_model.proofs.CoreTasks.{below_known}
use Rattle.cl_runs.specs.{Legal.IsLegal, Run.{Run, jobs_of}, SystemOf.system_of}
use Rattle.cl_picture.specs.{declared.{item.Bar.Bar, window.Window.Window}, Pieces.Element, Shown.LieSideBySide, Window.IsPictureWindow}
use Rattle.cl_picture.proofs.{TextLengths.{IsWithin, AreWithin, IsShortName, digits, none, wider, fixed, number, name, no_lines, wider_lines, a_line, both_lines, lines_of, all_lines_of}, FrameLengths.{begin_within, end_within, axis_within}}
use Rattle.cl_draw.specs.{declared.{drawing.Drawing.Drawing, rows.Row.Row}, Lengths.{bars_of_task, bar_count, groups_of_chain, group_count, most_length}, Marks.marks_of, Picture.{core_head, chains_head, heads, name_lines, task_name, chain_name, by_core, by_cores, row_names, task_elements}}
use Rattle.cl_draw.specs.{Picture.{look_of, chain_elements, picture, window_between, AreTaskRows, IsPictureOf}, Places.{row_top, chain_top, bottom}, Reactions.reaction_at, RowLines.{bar_line, row_lines}, Rows.{IsRowOf, row_at}, Inner.{Drawings.IsDrawing, TaskRuns.IsTaskRun}}
use Rattle.cl_draw.proofs.{BarLengths.{few_bars, IsSmallBar, small_bars_of_bands, small_bars_of_parts, bar_within}, ChainLengths.{small_reaction, chain_within}, MarkLengths.{few_marks, marks_within}, RowSides.{bands_beside, parts_beside}, SmallNumbers.{IsHeight, height_digits, own_digits}}
use Rattle.cl_draw.proofs.{SmallNumbers.{core_short, task_short, chain_short, core_height_is, row_height_is, chain_height_is, bottom_is}, TaskSums.{sum_times, keyed_sum}}

-- what is so of each number below n
of_each : (P : ℕ → Type 0) (n : ℕ) → ((k : ℕ) → k < n → P k) → All P (range_with_len 0 n)
of_each P n each = λ k d within. each (get_or (range_with_len 0 n) k d)
    (let below : k < n = omega (arith, within, length-range_with_len 0 n) in omega (arith, below, get_or-range_with_len 0 n k d below))

module _ (model : SystemModel) (valid : IsValid model) (named : AreNamed model) where
  -- ---- heads and row_names

  core_head_within : (core : ℕ) → core < length model.cores → IsWithin (core_head model core) 108
  core_head_within core known = wider 108
      (fixed _ (number (height_digits _ 260 (core_height_is model valid core (omega (arith, known))) (omega arith)) (fixed _ (name (core_short model named core) (fixed _ none)))))
      (omega arith)

  chains_head_within : (chains : ℕ) → AreWithin (chains_head model chains) 80
  chains_head_within zero = wider_lines 80 no_lines (omega arith)
  chains_head_within (suc chains) = wider_lines 80
      (a_line (fixed _ (number (height_digits _ 260 (core_height_is model valid (length model.cores) (omega arith)) (omega arith)) (fixed _ none))) no_lines) (omega arith)

  heads_within : AreWithin (heads model) (109 * length model.cores + 80)
  unfolding heads
  heads_within = wider_lines (109 * length model.cores + 80)
      (both_lines (lines_of (core_head model) (range_with_len 0 (length model.cores)) 108
      (of_each (λ core. IsWithin (core_head model core) 108) (length model.cores) core_head_within)) (chains_head_within (length model.chains)))
      (omega (arith, length-range_with_len 0 (length model.cores)))

  name_within : (y : ℕ) (word : List ℕ) → IsHeight y → IsShortName word → AreWithin (name_lines y word) 180
  name_within y word high short = wider_lines 180
      (a_line (fixed _ (number (height_digits y 230 high (omega arith)) (fixed _ (name short (fixed _ none)))))
      (a_line (fixed _ (number (height_digits y 20 high (omega arith)) (fixed _ none))) no_lines)) (omega arith)

  -- what is put for each task, core by core
  module _ (lines : ℕ → List Element) (most : ℕ → ℕ) (each : (task : ℕ) → task < length model.tasks → AreWithin (lines task) (most task)) where
    core_within : (core : ℕ) → AreWithin (by_core model lines core) (sum_by most (tasks_of_core model core))
    core_within core = all_lines_of lines most (tasks_of_core model core)
        (λ k d within. each (get_or (tasks_of_core model core) k d) (below_known model (length model.tasks) core k d within))

    by_cores_within : AreWithin (by_cores model lines) (sum_by most (range_with_len 0 (length model.tasks)))
    by_cores_within = wider_lines (sum_by most (range_with_len 0 (length model.tasks)))
        (all_lines_of (by_core model lines) (λ core. sum_by most (tasks_of_core model core)) (range_with_len 0 (length model.cores))
        (λ k d within. core_within (get_or (range_with_len 0 (length model.cores)) k d)))
        (keyed_sum (core_of model) most (length model.cores) (range_with_len 0 (length model.tasks)))

  uniform : (a n : ℕ) → sum_by (λ k. a) (range_with_len 0 n) ≤ a * n
  uniform a n = omega (
    arith,
    sum_by-le (λ (k : ℕ). a) a (range_with_len 0 n) (λ k d within. omega arith),
    length-range_with_len 0 n,
    ap (λ m. m * a) (length-range_with_len 0 n),
  )

  names_within : AreWithin (row_names model) (180 * length model.tasks + 180 * length model.chains)
  unfolding row_names
  names_within = wider_lines (180 * length model.tasks + 180 * length model.chains)
      (both_lines (by_cores_within (task_name model) (λ task. 180)
      (λ task known. name_within (row_top model task) (task_at model task).name (row_height_is model valid task known) (task_short model named task)))
      (all_lines_of (chain_name model) (λ chain. 180) (range_with_len 0 (length model.chains))
      (of_each (λ chain. AreWithin (chain_name model chain) 180) (length model.chains)
      (λ chain known. name_within (chain_top model chain) (chain_at model chain).name (chain_height_is model valid chain (omega (arith, known))) (chain_short model named chain)))))
      (omega (arith, uniform 180 (length model.tasks), uniform 180 (length model.chains)))

  -- ---- rows and chains

  module _ (run : Run) (legal : IsLegal (system_of model) run) (few : run.table.ticks ≤ 1000000000) (from to : ℕ) (ordered : from < to) (inside : to ≤ run.table.ticks) where
    abbrev window : Window
    window = window_between from to

    is_window : IsPictureWindow window
    is_window = record { ordered = ordered; limited = omega (arith, inside, few) }

    task_run : (task : ℕ) → task < length model.tasks → IsTaskRun model run task
    task_run task known = record { is_task = known; valid = valid; legal = legal }

    bars_within : (opening : List ℕ) (task : ℕ) (bs : List Bar) → length opening ≤ 14 → All IsSmallBar bs → LieSideBySide bs
        → AreWithin (map (bar_line opening (task_at model task)) bs) (280 * length bs)
    bars_within opening task bs short small beside = lines_of (bar_line opening (task_at model task)) bs 279
        (λ k d within.
        let bar : Bar = get_or bs k d in
        let sides = beside.wide k d within in
        let right = beside.most k d within in
        bar_within model named task opening bar short (small k d within) (omega (arith, sides, right)) right)

    row_within : (task : ℕ) → task < length model.tasks → (row : Row) → IsRowOf model run window task row
        → AreWithin (row_lines model run window task (row_top model task) row) (9150 + 280 * (length row.bands + length row.parts))
    unfolding row_lines
    row_within task known row is =
        let of = task_run task known in
        let bands = bars_within (codes "<rect class=\"r") task row.bands (omega arith) (small_bars_of_bands model run task of few from to ordered inside row is)
        (bands_beside model run task of from to ordered inside row is) in
        let parts = bars_within (codes "<rect class=\"e") task row.parts (omega arith) (small_bars_of_parts model run task of few from to ordered inside row is)
        (parts_beside model run task of from to ordered inside row is) in
        let marks = marks_within window is_window (marks_of window (jobs_of run task) (deadline_of model task)) (few_marks model run task of few window) in
        wider_lines (9150 + 280 * (length row.bands + length row.parts))
        (a_line (fixed _ (number (own_digits (row_top model task) (row_height_is model valid task known)) (fixed _ none)))
        (both_lines (both_lines (both_lines bands parts) marks) (a_line (fixed _ none) no_lines))) (omega arith)

    module _ (text : List ℕ) (is : IsPictureOf model run from to text) where
      most_row : (task : ℕ) → ℕ
      most_row task = 9150 + 280 * bars_of_task is.rows task

      rows_within : AreWithin (by_cores model (task_elements model run window is.rows)) (9150 * length model.tasks + 280 * bar_count model is.rows)
      unfolding most_row
      rows_within = wider_lines (9150 * length model.tasks + 280 * bar_count model is.rows)
          (by_cores_within (task_elements model run window is.rows) most_row (λ task known. row_within task known (row_at is.rows task) (is.are_rows task known)))
          (omega (arith, sum_times 9150 280 (bars_of_task is.rows) (range_with_len 0 (length model.tasks)), length-range_with_len 0 (length model.tasks)))

      most_chain : (chain : ℕ) → ℕ
      most_chain chain = 1000 + 200 * groups_of_chain model chain

      colour_few : (chain : ℕ) → chain % 4 < 4
      colour_few chain = omega arith

      chains_within : AreWithin (flat_map (chain_elements model window is.reactions) (range_with_len 0 (length model.chains))) (1000 * length model.chains + 200 * group_count model)
      unfolding most_chain
      chains_within = wider_lines (1000 * length model.chains + 200 * group_count model)
          (all_lines_of (chain_elements model window is.reactions) most_chain (range_with_len 0 (length model.chains))
          (of_each (λ chain. AreWithin (chain_elements model window is.reactions chain) (most_chain chain)) (length model.chains)
          (λ chain known. chain_within model valid named (look_of model window chain) is_window (colour_few chain) (chain_height_is model valid chain (omega (arith, known)))
          (groups_of_chain model chain) (chain_at model chain).name (chain_short model named chain) (reaction_at is.reactions chain)
          (small_reaction model valid run legal few chain (reaction_at is.reactions chain) (is.are_reactions chain known)))))
          (omega (arith, sum_times 1000 200 (groups_of_chain model) (range_with_len 0 (length model.chains)), length-range_with_len 0 (length model.chains)))

      whole_within : AreWithin (picture model run window is.rows is.reactions) (most_length model (bar_count model is.rows))
      unfolding picture
      whole_within =
          let ticks = digits 10 run.table.ticks (omega arith) (omega (arith, few)) (omega (arith, few)) in
          let low : IsHeight (bottom model) = bottom_is model valid in
          let high = height_digits (bottom model) 460 low (omega arith) in
          let tenth = digits 7 ((bottom model + 460) / 10) (omega arith) (omega (arith, low.most)) (omega (arith, low.most)) in
          let under = own_digits (bottom model) low in
          wider_lines (most_length model (bar_count model is.rows))
          (both_lines (both_lines (both_lines (both_lines (both_lines (both_lines
          (begin_within window is_window run.table.ticks (bottom model + 460) ticks tenth high) heads_within) names_within) (axis_within window is_window (bottom model) under))
          rows_within) chains_within) (end_within (bottom model) under))
          (omega arith)

      pub length_within : length text ≤ most_length model (bar_count model is.rows)
      length_within = omega (arith, ap length is.printed, whole_within.within)

-- ---- bars

module _ (model : SystemModel) (valid : IsValid model) (run : Run) (legal : IsLegal (system_of model) run) (from to : ℕ) (ordered : from < to)
    (inside : to ≤ run.table.ticks) (rows : List Row) (are : AreTaskRows model run (window_between from to) rows) where
  pub few_in_row : (task : ℕ) → task < length model.tasks → bars_of_task rows task ≤ 1920
  few_in_row task known =
      let of : IsTaskRun model run task = record { is_task = known; valid = valid; legal = legal } in
      let row = are task known in
      omega (
        arith,
        few_bars (row_at rows task).bands (bands_beside model run task of from to ordered inside (row_at rows task) row),
        few_bars (row_at rows task).parts (parts_beside model run task of from to ordered inside (row_at rows task) row),
      )

  pub bars_few : bar_count model rows ≤ 1920 * length model.tasks
  bars_few = omega (
    arith,
    sum_by-le (bars_of_task rows) 1920 (range_with_len 0 (length model.tasks)) (of_each (λ task. bars_of_task rows task ≤ 1920) (length model.tasks) few_in_row),
    length-range_with_len 0 (length model.tasks),
  )

-- so it is of the rows of a drawing
pub few_of_drawing : (model : SystemModel) (run : Run) → IsLegal (system_of model) run → (from to : ℕ) → from < to → to ≤ run.table.ticks → (drawing : Drawing)
    → drawing.window ≡ window_between from to → IsDrawing model run drawing → (rows : List Row) → rows ≡ drawing.rows
    → (task : ℕ) → task < length model.tasks → bars_of_task rows task ≤ 1920
few_of_drawing model run legal from to ordered inside drawing window is rows same = few_in_row model is.valid run legal from to ordered inside rows
    (subst (λ (w : Window). AreTaskRows model run w rows) window (subst (AreTaskRows model run drawing.window) (sym same) is.rows))
