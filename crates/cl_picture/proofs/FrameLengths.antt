-- How long the axis of a picture and what frames it are as text.
use Rattle.std.proofs.Common.{◌≡◌, ℕ, ◌+◌, ◌-◌, ◌*◌, ◌/◌, ◌<◌, ◌≤◌, true, inl, inr, Option, Some, None, List, [], ◌∷◌, refl, arith}
use Rattle.std.specs.Prelude.{All, nat_le, unwrap_or}
use Rattle.std.specs.List.{find, range_with_len}
use Rattle.std.proofs.lemmas.Bool.{cases_lt}
use Rattle.std.proofs.lemmas.Bool.Decides.{nat_tests}
use Rattle.std.proofs.lemmas.List.Elements.{All-head, All-tail}
use Rattle.std.proofs.lemmas.List.Sums.{AllPass-from_list_all}
use Rattle.std.proofs.lemmas.List.FromFn.{length-range_with_len, get_or-range_with_len}
use Rattle.std.proofs.Math.Nat.{mul-le-mul_left}
use Rattle.cl_picture.specs.{declared.{axis.TheConstants.STEPS, window.{TheConstants.MOST_WINDOW, Window.Window}}, Axis.{is_step, axis_step, window_step, tick_count, tick_at, tick_pieces, tick_line, axis}, Frame.{begin, end}, Window.{IsPictureWindow, span, x_of}}
use Rattle.cl_picture.proofs.{BarSides.choose, Lengths.x_most, TextLengths.{IsWithin, AreWithin, HasDigits, digits, none, fixed, number, both, each_of, no_lines, wider_lines, a_line, lines_of}}

-- ---- the step of an axis

-- a step that is found is one of which twelve reach over the ticks
abbrev Reaches : (ticks : ℕ) → Option ℕ → Type 0
Reaches ticks None = Unit {0}
Reaches ticks (Some step) = (0 < step) × (ticks ≤ 12 * step)

le_of : (m n : ℕ) → nat_le m n ≡ true → m ≤ n
le_of m n is = grind (arith, nat_tests)

some_step : (step : ℕ) → is_step step ≡ true → 0 < step
some_step step is = grind (arith, nat_tests)

reaches : (ticks : ℕ) (steps : List ℕ) → All (λ step. is_step step ≡ true) steps → Reaches ticks (find (λ step. nat_le ticks (12 * step)) steps)
reaches ticks [] each = tt
reaches ticks (step ∷ steps) each = choose (Reaches ticks) (nat_le ticks (12 * step)) (Some step) (find (λ s. nat_le ticks (12 * s)) steps)
    (λ is. (some_step step (All-head (λ s. is_step s ≡ true) step steps each), le_of ticks (12 * step) is))
    (λ not. reaches ticks steps (All-tail (λ s. is_step s ≡ true) step steps each))

reached : (ticks : ℕ) (found : Option ℕ) → Reaches ticks found → ticks ≤ MOST_WINDOW → (0 < unwrap_or found MOST_WINDOW) × (ticks ≤ 12 * unwrap_or found MOST_WINDOW)
reached ticks None is within = (omega arith, omega (arith, within))
reached ticks (Some step) is within = is

step_reaches : (ticks : ℕ) → ticks ≤ MOST_WINDOW → (0 < axis_step ticks) × (ticks ≤ 12 * axis_step ticks)
unfolding axis_step
step_reaches ticks within = reached ticks (find (λ step. nat_le ticks (12 * step)) STEPS)
    (reaches ticks STEPS (AllPass-from_list_all is_step STEPS refl)) within

module _ (window : Window) (is : IsPictureWindow window) where
  -- ---- the ticks of an axis

  step_is : (0 < window_step window) × (span window ≤ 12 * window_step window)
  step_is = step_reaches (span window) (omega (arith, is.limited))

  -- an axis has at most 13 ticks
  few_ticks : tick_count window ≤ 13
  few_ticks = counted (window_step window) step_is.0 step_is.1
    where
      counted : (step : ℕ) → 0 < step → window.to - window.from ≤ 12 * step → window.to / step + 1 - (window.from + (step - 1)) / step ≤ 13
      counted step some enough = elim (cases_lt (window.to / step) ((window.from + (step - 1)) / step + 13)) [
        | inl few ↦ omega (arith, few)
        | inr many ↦
            let product : step * ((window.from + (step - 1)) / step + 13) ≤ step * (window.to / step) = mul-le-mul_left step many in
            absurd (omega (arith, product, some, enough, is.ordered))
      ]

  -- each is inside
  tick_within : (k : ℕ) → k < tick_count window → tick_at window k ≤ window.to
  tick_within k below = inside (window_step window) step_is.0 below
    where
      inside : (step : ℕ) → 0 < step → k < window.to / step + 1 - (window.from + (step - 1)) / step → ((window.from + (step - 1)) / step + k) * step ≤ window.to
      inside step some less =
          let product : step * ((window.from + (step - 1)) / step + k) ≤ step * (window.to / step) = mul-le-mul_left step (omega (arith, less)) in
          omega (arith, product, some)

  -- ---- lengths

  pub x_digits : (tick : ℕ) → HasDigits (x_of window tick) 5
  x_digits tick = digits 5 (x_of window tick) (omega arith) (omega (arith, x_most window tick is)) (omega (arith, x_most window tick is))

  module _ (bottom : ℕ) (low : HasDigits bottom 7) where
    tick_line_within : (tick : ℕ) → tick ≤ window.to → IsWithin (tick_line window tick) 51
    tick_line_within tick within =
        fixed _ (number (x_digits tick) (fixed _ (number (digits 10 tick (omega arith) (omega (arith, within, is.limited)) (omega (arith, within, is.limited))) (fixed _ none))))

    tick_pieces_within : (tick : ℕ) → IsWithin (tick_pieces window bottom tick) 18
    tick_pieces_within tick = fixed _ (number (x_digits tick) (fixed _ (number low none)))

    pub axis_within : AreWithin (axis window bottom) 980
    unfolding axis
    axis_within =
        let few = few_ticks in
        let count = length-range_with_len 0 (tick_count window) in
        let pieces = each_of (λ k. tick_pieces window bottom (tick_at window k)) (range_with_len 0 (tick_count window)) 18 (λ k d within. tick_pieces_within _) in
        let lines = lines_of (λ k. tick_line window (tick_at window k)) (range_with_len 0 (tick_count window)) 51
        (λ k d within.
        let below : k < tick_count window = omega (arith, within, count) in
        tick_line_within _ (tick_within _ (omega (arith, below, get_or-range_with_len 0 (tick_count window) k d below)))) in
        wider_lines 980 (a_line (both (both (fixed _ none) pieces) (fixed _ none)) (a_line (fixed _ none) lines)) (omega (arith, few, count))

  -- ---- what frames a picture

  pub begin_within : (ticks height : ℕ) → HasDigits ticks 10 → HasDigits (height / 10) 7 → HasDigits height 7 → AreWithin (begin window ticks height) 1320
  unfolding begin
  begin_within ticks height some tenth high =
      let from : HasDigits window.from 10 = digits 10 window.from (omega arith) (omega (arith, is.ordered, is.limited)) (omega (arith, is.ordered, is.limited)) in
      let to : HasDigits window.to 10 = digits 10 window.to (omega arith) (omega (arith, is.limited)) (omega (arith, is.limited)) in
      wider_lines 1320
      (a_line (fixed _ (number tenth (fixed _ (number high (fixed _ none)))))
      (a_line (fixed _ (number from (fixed _ (number to (fixed _ (number some (fixed _ none)))))))
      (a_line (fixed _ none) (a_line (fixed _ none) (a_line (fixed _ none)
      (a_line (fixed _ (number high (fixed _ none))) no_lines)))))) (omega arith)

pub end_within : (bottom : ℕ) → HasDigits bottom 7 → AreWithin (end bottom) 950
unfolding end
end_within bottom low = wider_lines 950
    (a_line (fixed _ (number low (fixed _ none))) (a_line (fixed _ none) (a_line (fixed _ none) (a_line (fixed _ none) no_lines)))) (omega arith)
