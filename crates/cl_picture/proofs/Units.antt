-- The whole units before and after a tick.
use Rattle.std.proofs.Common.{◌≡◌, ◌≢◌, ℕ, ◌+◌, ◌*◌, ◌/◌, ◌-◌, ◌<◌, ◌≤◌, true, ◌&&◌, inl, inr, arith}
use Rattle.std.specs.Prelude.{nat_lt}
use Rattle.std.proofs.lemmas.Bool.{cases_lt}
use Rattle.std.proofs.lemmas.Bool.Decides.{nat_tests}
use Rattle.std.proofs.Math.Nat.{mul-le-mul_left}
use Rattle.cl_picture.specs.{declared.{window.Window.Window, item.Item.Item}, Window.{offset, span, x_of, low_of, high_of}, Bars.counts}

quotient_ge : (a d n : ℕ) → 0 < d → d * n ≤ a → n ≤ a / d
quotient_ge a d n some within = elim (cases_lt (a / d) n) [
  | inl less ↦
      let product : d * (a / d + 1) ≤ d * n = mul-le-mul_left d (omega (arith, less)) in
      absurd (omega (arith, product, within, some))
  | inr not ↦ not
]

quotient_lt : (a d n : ℕ) → 0 < d → a < d * n → a / d < n
quotient_lt a d n some within = elim (cases_lt (a / d) n) [
  | inl less ↦ less
  | inr not ↦ let product : d * n ≤ d * (a / d) = mul-le-mul_left d not in absurd (omega (arith, product, within, some))
]

quotient_mono : (a b d : ℕ) → 0 < d → a ≤ b → a / d ≤ b / d
quotient_mono a b d some more = quotient_ge b d (a / d) some (omega (arith, more, some))

-- rounded up, it is at most one more
up_down : (a d : ℕ) → 0 < d → (a + (d - 1)) / d ≤ a / d + 1
up_down a d some = let less : (a + (d - 1)) / d < a / d + 2 = quotient_lt (a + (d - 1)) d (a / d + 2) some (omega (arith, some)) in omega (arith, less)

-- and it is more than what is less, rounded down
down_up : (a b d : ℕ) → 0 < d → a < b → a / d + 1 ≤ (b + (d - 1)) / d
down_up a b d some less = quotient_ge (b + (d - 1)) d (a / d + 1) some (omega (arith, less, some))

shares_end : (a b c d : ℕ) → (nat_lt a b && nat_lt c d) ≡ true → a < b
shares_end a b c d is = grind (arith, nat_tests)

shares_start : (a b c d : ℕ) → (nat_lt a b && nat_lt c d) ≡ true → c < d
shares_start a b c d is = grind (arith, nat_tests)

module _ (window : Window) (ordered : window.from < window.to) where
  some : 0 < span window
  some = omega (arith, ordered)

  offset_mono : (s t : ℕ) → s ≤ t → offset window s ≤ offset window t
  offset_mono s t more = omega (arith, more)

  offset_most : (t : ℕ) → offset window t ≤ span window
  offset_most t = omega (arith, ordered)

  pub low_mono : (s t : ℕ) → s ≤ t → low_of window s ≤ low_of window t
  unfolding low_of
  low_mono s t more =
      let wider : offset window s * 960 ≤ offset window t * 960 = omega (arith, offset_mono s t more) in
      omega (arith, quotient_mono (offset window s * 960) (offset window t * 960) (span window) some wider)

  pub high_mono : (s t : ℕ) → s ≤ t → high_of window s ≤ high_of window t
  unfolding high_of
  high_mono s t more =
      let wider : offset window s * 960 + (span window - 1) ≤ offset window t * 960 + (span window - 1) = omega (arith, offset_mono s t more) in
      omega (arith, quotient_mono (offset window s * 960 + (span window - 1)) (offset window t * 960 + (span window - 1)) (span window) some wider)

  pub x_mono : (s t : ℕ) → s ≤ t → x_of window s ≤ x_of window t
  unfolding x_of
  x_mono s t more =
      let wider : offset window s * 9600 ≤ offset window t * 9600 = omega (arith, offset_mono s t more) in
      omega (arith, quotient_mono (offset window s * 9600) (offset window t * 9600) (span window) some wider)

  -- they are a unit apart at most
  pub high_near : (t : ℕ) → high_of window t ≤ low_of window t + 10
  unfolding low_of high_of
  high_near t = omega (arith, up_down (offset window t * 960) (span window) some)

  pub low_least : (t : ℕ) → 2000 ≤ low_of window t
  unfolding low_of
  low_least t = omega arith

  pub high_most : (t : ℕ) → high_of window t ≤ 11600
  unfolding high_of
  high_most t =
      let within : offset window t * 960 + (span window - 1) < span window * 961 = omega (arith, offset_most t, some) in
      omega (arith, quotient_lt (offset window t * 960 + (span window - 1)) (span window) 961 some within)

  -- two that differ are a unit apart
  pub high_apart : (s t : ℕ) → s ≤ t → high_of window t ≢ high_of window s → high_of window s + 10 ≤ high_of window t
  unfolding high_of
  high_apart s t more other = omega (arith, high_mono s t more, other)

  -- an item that counts shares a tick with the window
  pub shares : (item : Item) → counts window item ≡ true → (window.from < item.to) × (item.from < window.to)
  shares item is = (shares_end window.from item.to item.from window.to is, shares_start window.from item.to item.from window.to is)

  -- and is a unit wide or more
  pub unit_wide : (item : Item) → counts window item ≡ true → item.from < item.to → low_of window item.from + 10 ≤ high_of window item.to
  unfolding low_of high_of
  unit_wide item is ticks =
      let shared = shares item is in
      let less : offset window item.from * 960 < offset window item.to * 960 = omega (arith, shared.0, shared.1, ticks, ordered) in
      omega (arith, down_up (offset window item.from * 960) (offset window item.to * 960) (span window) some less)

pub x_least : (window : Window) (t : ℕ) → 2000 ≤ x_of window t
unfolding x_of
x_least window t = omega arith
