-- The lines of a row: its bars and its marks.
use Rattle.std.specs.Prelude.{ℕ, Bool, true, false, Option, Some, None, ◌-◌, List, [], ◌∷◌, ◌++◌, slice_index_or, map, codes}
use Rattle.cl_model.specs.{declared.{model.SystemModel.SystemModel, task.TaskDef.TaskDef}, ByNumber.{task_at, deadline_of, no_runnable}}
use Rattle.cl_runs.specs.Run.{Run, jobs_of}
use Rattle.cl_picture.specs.{declared.{window.Window.Window, item.{Item.Item, Rest.Rest, End.End, Bar.Bar}}, Pieces.{Piece, Fixed, Number, Name, Element}, Frame.{shift_line, close_line}}
use Rattle.cl_picture.specs.declared.item.Rest.TheVariants as rest
use Rattle.cl_draw.specs.{declared.rows.Row.Row, Marks.marks_of, MarkLines.mark_lines}

-- the finish of a band, where it ends with one
abbrev pub finish_piece : (finished : Bool) → (to : ℕ) → Piece
finish_piece true to = Number to
finish_piece false to = Fixed (codes "none")

-- what is said of a part
abbrev pub part_pieces : TaskDef → (place : ℕ) → Item → List Piece
part_pieces task place item =
    Fixed (codes " ") ∷ Name (slice_index_or task.runnables place no_runnable).name ∷ Fixed (codes " from ") ∷ Number item.from
    ∷ Fixed (codes " to ") ∷ Number item.to ∷ []

-- what is said of a band
abbrev pub band_pieces : (arrival due : ℕ) → (finished : Bool) → Item → List Piece
band_pieces arrival due finished item =
    Fixed (codes " arrival ") ∷ Number arrival ∷ Fixed (codes " release ") ∷ Number item.from
    ∷ Fixed (codes " finish ") ∷ finish_piece finished item.to ∷ Fixed (codes " deadline ") ∷ Number due ∷ []

-- what is said of an item of a task behind its name
abbrev pub rest_pieces : TaskDef → Item → Rest → List Piece
rest_pieces task item (rest.Part place) = part_pieces task place item
rest_pieces task item (rest.Band arrival due finished) = band_pieces arrival due finished item

-- what is said of several items behind the name of the first
abbrev pub last_pieces : TaskDef → (first : Item) → (last : End) → List Piece
last_pieces task first last =
    Fixed (codes " to ") ∷ Name task.name ∷ Fixed (codes ":") ∷ Number last.job ∷ Fixed (codes " from ") ∷ Number first.from
    ∷ Fixed (codes " to ") ∷ Number last.to ∷ []

-- what is said of a bar behind the name of its first item
abbrev pub words_pieces : TaskDef → (first : Item) → (last : Option End) → List Piece
words_pieces task first None = rest_pieces task first first.rest
words_pieces task first (Some last) = last_pieces task first last

-- a bar up to the name of its first item; it opens with words for its class
abbrev pub bar_head : (opening : List ℕ) → TaskDef → Bar → List Piece
bar_head opening task bar =
    Fixed opening ∷ Number bar.kind ∷ Fixed (codes "\" x=\"") ∷ Number bar.left ∷ Fixed (codes "\" y=\"90\" width=\"")
    ∷ Number (bar.right - bar.left) ∷ Fixed (codes "\" height=\"180\"><title>") ∷ Name task.name ∷ Fixed (codes ":") ∷ Number bar.first.job ∷ []

-- the line of a bar
unfoldable pub bar_line : (opening : List ℕ) → TaskDef → Bar → Element
bar_line opening task bar = bar_head opening task bar ++ words_pieces task bar.first bar.last ++ Fixed (codes "</title></rect>") ∷ []

-- the lines of a row, from a height on
unfoldable pub row_lines : SystemModel → Run → Window → (task y : ℕ) → Row → List Element
row_lines model run window task y row =
    shift_line y ∷ map (bar_line (codes "<rect class=\"r") (task_at model task)) row.bands
    ++ map (bar_line (codes "<rect class=\"e") (task_at model task)) row.parts
    ++ mark_lines window (marks_of window (jobs_of run task) (deadline_of model task)) ++ close_line ∷ []
