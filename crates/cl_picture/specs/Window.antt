-- From ticks to lengths. A length is a tenth of a unit of the picture, which is 12,000 of them wide.
use Rattle.std.specs.Prelude.{ℕ, Bool, ◌+◌, ◌-◌, ◌*◌, ◌/◌, ◌<◌, ◌≤◌, ◌&&◌, nat_le, min, max}
use Rattle.cl_picture.specs.declared.window.{Window.Window, TheConstants.MOST_WINDOW}

-- a window has ticks, and none of them is too great
pub record IsPictureWindow (window : Window) : Type 0 where
  pub ordered : window.from < window.to
  pub limited : window.to ≤ MOST_WINDOW

-- how many ticks the window has
abbrev pub span : Window → ℕ
span window = window.to - window.from

-- whether a tick is inside: the end is inside too
abbrev pub is_inside : Window → (tick : ℕ) → Bool
is_inside window tick = nat_le window.from tick && nat_le tick window.to

-- how far a tick lies from the beginning: nothing before it, and no more than the end after that
abbrev pub offset : Window → (tick : ℕ) → ℕ
offset window tick = min (max tick window.from) window.to - window.from

-- where a tick lies
unfoldable pub x_of : Window → (tick : ℕ) → ℕ
x_of window tick = 2000 + offset window tick * 9600 / span window

-- bars lie on whole units: the one at or before a tick
unfoldable pub low_of : Window → (tick : ℕ) → ℕ
low_of window tick = 2000 + 10 * (offset window tick * 960 / span window)

-- and the one at or after it
unfoldable pub high_of : Window → (tick : ℕ) → ℕ
high_of window tick = 2000 + 10 * ((offset window tick * 960 + (span window - 1)) / span window)
