-- The axis of a picture.
use Rattle.std.specs.Prelude.{ℕ, Bool, ◌+◌, ◌-◌, ◌*◌, ◌/◌, ◌&&◌, nat_le, unwrap_or, List, [], ◌∷◌, ◌++◌, map, codes}
use Rattle.std.specs.List.{find, flat_map, range_with_len}
use Rattle.cl_picture.specs.{declared.{window.{Window.Window, TheConstants.MOST_WINDOW}, axis.TheConstants.STEPS}, Pieces.{Piece, Fixed, Number, Element}, Window.{span, x_of}}

-- a step of an axis has a tick or more, and not too many
abbrev pub is_step : (step : ℕ) → Bool
is_step step = nat_le 1 step && nat_le step MOST_WINDOW

-- the least of the steps 1, 2, 5, 10, 20, 50 and on of which twelve reach over so many ticks
unfoldable pub axis_step : (ticks : ℕ) → ℕ
axis_step ticks = unwrap_or (find (λ step. nat_le ticks (12 * step)) STEPS) MOST_WINDOW

abbrev pub window_step : Window → ℕ
window_step window = axis_step (span window)

-- the ticks of the axis are the multiples of the step that are inside: the first of them in steps, and how many there are
abbrev pub first_tick : Window → ℕ
first_tick window = (window.from + (window_step window - 1)) / window_step window

abbrev pub tick_count : Window → ℕ
tick_count window = window.to / window_step window + 1 - first_tick window

-- the tick of a number
abbrev pub tick_at : Window → (k : ℕ) → ℕ
tick_at window k = (first_tick window + k) * window_step window

-- the line of a tick, down to the bottom
abbrev pub tick_pieces : Window → (bottom tick : ℕ) → List Piece
tick_pieces window bottom tick = Fixed (codes "M") ∷ Number (x_of window tick) ∷ Fixed (codes " 360V") ∷ Number bottom ∷ []

-- the lines of all ticks
abbrev pub axis_line : Window → (bottom : ℕ) → Element
axis_line window bottom =
    Fixed (codes "<path class=\"g\" d=\"") ∷ [] ++ flat_map (λ k. tick_pieces window bottom (tick_at window k)) (range_with_len 0 (tick_count window))
    ++ Fixed (codes "\"/>") ∷ []

-- the words of a tick
abbrev pub tick_line : Window → (tick : ℕ) → Element
tick_line window tick =
    Fixed (codes "<text class=\"x\" x=\"") ∷ Number (x_of window tick) ∷ Fixed (codes "\" y=\"270\">") ∷ Number tick
    ∷ Fixed (codes "</text>") ∷ []

-- the words of all ticks
abbrev pub tick_lines : Window → List Element
tick_lines window = map (λ k. tick_line window (tick_at window k)) (range_with_len 0 (tick_count window))

-- the axis
unfoldable pub axis : Window → (bottom : ℕ) → List Element
axis window bottom =
    axis_line window bottom ∷ (Fixed (codes "<text class=\"m\" x=\"160\" y=\"270\">ticks</text>") ∷ []) ∷ tick_lines window
