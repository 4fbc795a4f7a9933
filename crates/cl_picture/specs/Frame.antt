-- What frames a picture: its first lines, and its last ones.
use Rattle.std.specs.Prelude.{ℕ, ◌/◌, List, [], ◌∷◌, ◌++◌, codes}
use Rattle.cl_picture.specs.{declared.{window.Window.Window, frame.TheConstants.{STYLE, LEGEND}}, Pieces.{Fixed, Number, Element}}

abbrev pub root_line : (height : ℕ) → Element
root_line height =
    Fixed (codes "<svg xmlns=\"http://www.w3.org/2000/svg\" width=\"1200\" height=\"") ∷ Number (height / 10)
    ∷ Fixed (codes "\" viewBox=\"0 0 12000 ") ∷ Number height ∷ Fixed (codes "\">") ∷ []

-- the title of the picture of a window of a run of so many ticks
abbrev pub picture_title_line : Window → (ticks : ℕ) → Element
picture_title_line window ticks =
    Fixed (codes "<title>chainlat: ticks ") ∷ Number window.from ∷ Fixed (codes " to ") ∷ Number window.to
    ∷ Fixed (codes " of ") ∷ Number ticks ∷ Fixed (codes "</title>") ∷ []

abbrev pub style_lines : List Element
style_lines = (Fixed (codes "<style>") ∷ []) ∷ (Fixed STYLE.now ∷ []) ∷ (Fixed (codes "</style>") ∷ []) ∷ []

abbrev pub picture_ground_line : (height : ℕ) → Element
picture_ground_line height =
    Fixed (codes "<rect class=\"b\" width=\"12000\" height=\"") ∷ Number height ∷ Fixed (codes "\"/>") ∷ []

-- the first lines
unfoldable pub begin : Window → (ticks height : ℕ) → List Element
begin window ticks height = root_line height ∷ picture_title_line window ticks ∷ style_lines ++ picture_ground_line height ∷ []

-- the line that opens what is drawn from a height on
abbrev pub shift_line : (y : ℕ) → Element
shift_line y = Fixed (codes "<g transform=\"translate(0 ") ∷ Number y ∷ Fixed (codes ")\">") ∷ []

abbrev pub close_line : Element
close_line = Fixed (codes "</g>") ∷ []

-- the last lines: what the marks mean, below the rows
unfoldable pub end : (bottom : ℕ) → List Element
end bottom = shift_line bottom ∷ (Fixed LEGEND.now ∷ []) ∷ close_line ∷ (Fixed (codes "</svg>") ∷ []) ∷ []
