-- the list of gaps, by index
use Rattle.std.proofs.Common.{◌≡◌, ◌≢◌, ℕ, ◌+◌, ◌-◌, ◌<◌, true, false, eqb, List, length, get_or, arith}
use Rattle.std.proofs.lemmas.Simd.{length-zip2, get_or-zip2}
use Rattle.std.proofs.lemmas.Bool.{eq-eqb, ne_eqb}
use Rattle.cl_lanes.specs.{Gaps.gaps, Inner.Places.ArePaired}

pub length-gaps : (ends starts : List ℕ) → length ends ≡ length starts → length (gaps ends starts) ≡ length ends
length-gaps ends starts many = length-zip2 (λ end start. end - start) ends starts many

pub get_or-gaps : (ends starts : List ℕ) (i d : ℕ) → length ends ≡ length starts → i < length ends
    → get_or (gaps ends starts) i d ≡ get_or ends i 0 - get_or starts i 0
get_or-gaps ends starts i d many below = get_or-zip2 (λ end start. end - start) ends starts i 0 0 d below (omega arith)

pub has_gap : (ends starts : List ℕ) (i gap : ℕ) → ArePaired ends starts → i < length ends
    → get_or ends i 0 ≡ get_or starts i 0 + gap → eqb (get_or (gaps ends starts) i 0) gap ≡ true
has_gap ends starts i gap paired below is = eq-eqb _ _ (omega (arith, get_or-gaps ends starts i 0 paired.as_many below))

pub lacks_gap : (ends starts : List ℕ) (i gap : ℕ) → ArePaired ends starts → i < length ends
    → get_or ends i 0 ≢ get_or starts i 0 + gap → eqb (get_or (gaps ends starts) i 0) gap ≡ false
lacks_gap ends starts i gap paired below lacks =
    ne_eqb _ _ (λ is. lacks (omega (arith, get_or-gaps ends starts i 0 paired.as_many below, paired.in_order i below)))
