-- What lies within a bound or a range isn't marked.
use Rattle.std.proofs.Common.{◌≡◌, ℕ, ℤ, Bool, true, false, Option, Some, None, [], refl, ap, arith}
use Rattle.std.specs.Prelude.{pos, int_lt, ◌≤ℤ◌, if◌then◌else◌, codes}
use Rattle.std.proofs.lemmas.Bool.{or_from}
use Rattle.std.proofs.lemmas.Int.{ints}
use Rattle.cl_observe.specs.{declared.values.Spread.Spread, Observed.{above_words, outside_words}, Within.{IsNotAbove, AreInside}}

not_less : (x y : ℤ) → y ≤ℤ x → int_lt x y ≡ false
not_less x y most = by (int_lt x y) refl
  where
    by : (b : Bool) → int_lt x y ≡ b → b ≡ false
    by true less = absurd (omega (arith, ints, less, most))
    by false e = refl

pub not_above : (number : Option ℤ) (bound : ℕ) → IsNotAbove number (Some bound) → above_words number bound ≡ []
not_above None bound within = refl
not_above (Some number) bound within = ap (λ b. if b then codes " above" else []) (not_less (pos bound) number (within number bound refl refl))

pub not_outside : (spread : Option Spread) (least greatest : ℕ) → AreInside spread least greatest → outside_words spread least greatest ≡ []
not_outside None least greatest inside = refl
not_outside (Some spread) least greatest inside =
    let within = inside spread refl in
    ap (λ b. if b then codes " outside" else [])
    (or_from _ _ (not_less spread.least (pos least) within.0) (not_less (pos greatest) spread.greatest within.1))
