-- How far lengths reach.
use Rattle.std.proofs.Common.{ℕ, ◌+◌, ◌*◌, ◌/◌, ◌<◌, ◌≤◌, arith}
use Rattle.std.proofs.lemmas.Bool.{cases_lt}
use Rattle.std.proofs.Common.{inl, inr}
use Rattle.std.proofs.Math.Nat.{mul-le-mul_left}
use Rattle.cl_picture.specs.{declared.window.Window.Window, Window.{IsPictureWindow, offset, span, x_of}}

-- a quotient is at most n where n times the divisor reaches
pub quotient_le : (a d n : ℕ) → 0 < d → a ≤ d * n → a / d ≤ n
quotient_le a d n some within = elim (cases_lt n (a / d)) [
  | inl more ↦
      let product : d * (n + 1) ≤ d * (a / d) = mul-le-mul_left d (omega (arith, more)) in
      omega (arith, product, within, some)
  | inr not ↦ not
]

offset_le : (window : Window) (tick : ℕ) → IsPictureWindow window → offset window tick ≤ span window
offset_le window tick is = omega (arith, is.ordered)

pub x_most : (window : Window) (tick : ℕ) → IsPictureWindow window → x_of window tick ≤ 11600
unfolding x_of
x_most window tick is =
    let within : offset window tick * 9600 ≤ span window * 9600 = omega (arith, offset_le window tick is) in
    let quotient : offset window tick * 9600 / span window ≤ 9600 = quotient_le (offset window tick * 9600) (span window) 9600 (omega (arith, is.ordered)) within in
    omega (arith, quotient)
