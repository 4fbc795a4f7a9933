-- How many bars rows have, one after the other.
use Rattle.std.proofs.Common.{◌≡◌, ℕ, ◌+◌, ◌<◌, List, length, get_or, ap, ◌∙◌, arith}
use Rattle.std.specs.Prelude.{sum_by}
use Rattle.std.specs.List.{range_with_len}
use Rattle.std.proofs.lemmas.List.{get_or_default}
use Rattle.cl_draw.specs.{declared.rows.Row.Row, Lengths.bars_of_task, Rows.no_row}
use Rattle.cl_draw.proofs.TaskSums.{one_more_number}

-- the bars of a row are those of its task
pub bars_here : (rows : List Row) (task : ℕ) (row d : Row) → task < length rows → row ≡ get_or rows task d → length row.bands + length row.parts ≡ bars_of_task rows task
bars_here rows task row d within is =
    ap (λ (r : Row). length r.bands + length r.parts) (is ∙ get_or_default rows task d no_row within)

-- a row more
pub bars_more : (rows : List Row) (task bars : ℕ) (row d : Row) → task < length rows → row ≡ get_or rows task d
    → bars ≡ sum_by (bars_of_task rows) (range_with_len 0 task)
    → bars + (length row.bands + length row.parts) ≡ sum_by (bars_of_task rows) (range_with_len 0 (task + 1))
bars_more rows task bars row d within is so_far =
    omega (arith, so_far, bars_here rows task row d within is, one_more_number (bars_of_task rows) task)
