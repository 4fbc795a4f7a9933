-- The lines of the marks of a row.
use Rattle.std.specs.Prelude.{ℕ, Bool, ◌+◌, ◌||◌, nat_le, if◌then◌else◌, List, [], ◌∷◌, ◌++◌, length, slice_index_or, codes}
use Rattle.std.specs.List.{flat_map, range_with_len}
use Rattle.cl_picture.specs.{declared.window.Window.Window, Pieces.{Piece, Fixed, Number, Element}, Window.x_of}
use Rattle.cl_draw.specs.declared.{spans.Span.Span, marks.{Arrival.Arrival, Marks.Marks}}

-- a wait, from an arrival to a release
abbrev pub wait_pieces : Window → Span → List Piece
wait_pieces window wait =
    Fixed (codes "M") ∷ Number (x_of window wait.from) ∷ Fixed (codes " 286H") ∷ Number (x_of window wait.to) ∷ Fixed (codes "v-16") ∷ []

abbrev pub waits_line : Window → List Span → Element
waits_line window waits = Fixed (codes "<path class=\"j\" d=\"") ∷ [] ++ flat_map (wait_pieces window) waits ++ Fixed (codes "\"/>") ∷ []

-- an arrival, below the bars
abbrev pub arrival_pieces : Window → Arrival → List Piece
arrival_pieces window arrival = Fixed (codes "M") ∷ Number (x_of window arrival.tick) ∷ Fixed (codes " 290l-28 52h56z") ∷ []

abbrev pub arrivals_line : Window → List Arrival → Element
arrivals_line window arrivals =
    Fixed (codes "<path class=\"a\" d=\"") ∷ [] ++ flat_map (arrival_pieces window) arrivals ++ Fixed (codes "\"/>") ∷ []

-- a deadline, above the bars
abbrev pub due_pieces : Window → (due : ℕ) → List Piece
due_pieces window due = Fixed (codes "M") ∷ Number (x_of window due) ∷ Fixed (codes " 80l-28-52h56z") ∷ []

abbrev pub dues_line : Window → List ℕ → Element
dues_line window dues = Fixed (codes "<path class=\"a\" d=\"") ∷ [] ++ flat_map (due_pieces window) dues ++ Fixed (codes "\"/>") ∷ []

-- what stands past the last arrival
unfoldable pub no_arrival : Arrival
no_arrival = record { job = 0; tick = 0 }

abbrev pub arrival_at : List Arrival → (k : ℕ) → Arrival
arrival_at arrivals k = slice_index_or arrivals k no_arrival

-- there is room for the number of an arrival's job: it is the last one, or the next is far enough away
abbrev pub has_room : Window → List Arrival → (k : ℕ) → Bool
has_room window arrivals k =
    nat_le (length arrivals) (k + 1) || nat_le (x_of window (arrival_at arrivals k).tick + 320) (x_of window (arrival_at arrivals (k + 1)).tick)

-- the number of an arrival's job
abbrev pub arrival_label_line : Window → Arrival → Element
arrival_label_line window arrival =
    Fixed (codes "<text class=\"k\" x=\"") ∷ Number (x_of window arrival.tick + 44) ∷ Fixed (codes "\" y=\"366\">")
    ∷ Number arrival.job ∷ Fixed (codes "</text>") ∷ []

abbrev pub label_at : Window → List Arrival → (k : ℕ) → List Element
label_at window arrivals k = if has_room window arrivals k then arrival_label_line window (arrival_at arrivals k) ∷ [] else []

abbrev pub labels : Window → List Arrival → List Element
labels window arrivals = flat_map (label_at window arrivals) (range_with_len 0 (length arrivals))

-- the lines of the marks
unfoldable pub mark_lines : Window → Marks → List Element
mark_lines window marks =
    waits_line window marks.waits ∷ arrivals_line window marks.arrivals ∷ dues_line window marks.dues ∷ labels window marks.arrivals
