-- Within a period: the first arrival that isn't before so many ticks of it, and the last that isn't after them.
use Rattle.std.proofs.Common.{◌≡◌, ℕ, suc, ◌+◌, ◌-◌, ◌*◌, ◌/◌, ◌%◌, ◌<◌, ◌≤◌, ◌⊎◌, inl, inr, min, nat_le, refl, ap, arith, mul-le-mul_right}
use Rattle.std.specs.Int.{div_ceil}
use Rattle.std.proofs.lemmas.Bool.{cases_lt, cond_both, leb-true, leb-false}
use Rattle.std.proofs.lemmas.Nat.{div-add-mod', mod_below}
use Rattle.cl_stim.specs.{declared.phase.Phase.Phase, Phase.{IsPhase, first_in_turn, last_in_turn}}

-- multiples of a distance that lie less than one apart are in order
pub multiples_ordered : (distance : ℕ) (m n : ℕ) → m * distance < n * distance + distance → m ≤ n
multiples_ordered distance m n near = elim (cases_lt n m) [
  | inl less ↦
      let product : suc n * distance ≡ n * distance + distance = omega arith in
      absurd (omega (arith, near, product, mul-le-mul_right distance less))
  | inr not ↦ not
]

-- which job is the first at or after so many ticks, where jobs go on without end
module _ (distance : ℕ) (apart : 1 ≤ distance) (since : ℕ) where
  division : since / distance * distance + since % distance ≡ since
  division = div-add-mod' since distance

  rest : since % distance < distance
  rest = mod_below since distance apart

  rounded_up : (since ≤ div_ceil since distance * distance) × (div_ceil since distance * distance < since + distance)
  rounded_up = elim (cases_lt 0 (since % distance)) [
    | inl some ↦
        let up : div_ceil since distance ≡ suc (since / distance) = omega (arith, some) in
        let product : suc (since / distance) * distance ≡ since / distance * distance + distance = omega arith in
        (omega (arith, ap (λ n. n * distance) up, product, division, rest), omega (arith, ap (λ n. n * distance) up, product, division, rest, some))
    | inr none ↦
        let up : div_ceil since distance ≡ since / distance = omega (arith, none) in
        (omega (arith, ap (λ n. n * distance) up, division, none), omega (arith, ap (λ n. n * distance) up, division, apart))
  ]

  rounded_up_least : (place : ℕ) → since ≤ place * distance → div_ceil since distance ≤ place
  rounded_up_least place after = multiples_ordered distance (div_ceil since distance) place (omega (arith, rounded_up.1, after))

  rounded_down_greatest : (place : ℕ) → place * distance ≤ since → place ≤ since / distance
  rounded_down_greatest place before = multiples_ordered distance place (since / distance) (omega (arith, before, division, rest))

-- so many ticks of a period lie before one of its jobs
pub record IsJobOfTurn (phase : Phase) (ticks : ℕ) : Type 0 where
  pub place : ℕ
  pub within : place < phase.count
  pub arrives : ticks ≡ place * phase.distance

least_left : (m n : ℕ) → min m n ≤ m
least_left m n = omega arith

least_right : (m n : ℕ) → min m n ≤ n
least_right m n = omega arith

least_of : (k m n : ℕ) → k ≤ m → k ≤ n → k ≤ min m n
least_of k m n left right = omega (arith, left, right)

module _ (phase : Phase) (is : IsPhase phase) where
  -- the last job of a period arrives a distance or more before its end
  pub final_fits : (phase.count - 1) * phase.distance + phase.distance ≤ phase.period
  final_fits =
      let all : phase.count ≡ suc (phase.count - 1) = omega (arith, is.some) in
      omega (arith, is.fits, ap (λ n. n * phase.distance) all)

  pub period_some : 1 ≤ phase.period
  period_some = omega (arith, final_fits, is.apart)

  -- and no job after it
  pub place_by_final : (place : ℕ) → place < phase.count → place * phase.distance ≤ (phase.count - 1) * phase.distance
  place_by_final place within = mul-le-mul_right phase.distance (omega (arith, within))

  module _ (since : ℕ) (within : since < phase.period) where
    -- what holds where some job of the period isn't before so many ticks, and where none is
    first_cases : (P : ℕ → Type 0)
        → (since ≤ (phase.count - 1) * phase.distance → P (div_ceil since phase.distance * phase.distance))
        → ((phase.count - 1) * phase.distance < since → P phase.period) → P (first_in_turn phase since)
    first_cases P some none = cond_both (nat_le since ((phase.count - 1) * phase.distance)) _ _ P
        (λ yes. some (leb-true _ _ yes)) (λ no. none (leb-false _ _ no))

    pub first_not_before : since ≤ first_in_turn phase since
    first_not_before = first_cases (λ n. since ≤ n) (λ some. (rounded_up phase.distance is.apart since).0) (λ none. omega (arith, within))

    pub first_by_next : first_in_turn phase since ≤ phase.period
    first_by_next = first_cases (λ n. n ≤ phase.period)
        (λ some. omega (
          arith,
          mul-le-mul_right phase.distance (rounded_up_least phase.distance is.apart since (phase.count - 1) some),
          final_fits,
        ))
        (λ none. omega arith)

    pub first_least : (place : ℕ) → place < phase.count → since ≤ place * phase.distance → first_in_turn phase since ≤ place * phase.distance
    first_least place inside after = first_cases (λ n. n ≤ place * phase.distance)
        (λ some. mul-le-mul_right phase.distance (rounded_up_least phase.distance is.apart since place after))
        (λ none. absurd (omega (arith, none, after, place_by_final place inside)))

    pub first_close : first_in_turn phase since < since + (phase.period - (phase.count - 1) * phase.distance)
    first_close = first_cases (λ n. n < since + (phase.period - (phase.count - 1) * phase.distance))
        (λ some. omega (arith, (rounded_up phase.distance is.apart since).1, final_fits))
        (λ none. omega (arith, none, final_fits, within))

    -- it is that of a job of the period, or the first of the next period
    pub first_is : IsJobOfTurn phase (first_in_turn phase since) ⊎ (first_in_turn phase since ≡ phase.period)
    first_is = first_cases (λ n. IsJobOfTurn phase n ⊎ (n ≡ phase.period))
        (λ some. inl (record {
          place = div_ceil since phase.distance;
          within = omega (arith, rounded_up_least phase.distance is.apart since (phase.count - 1) some, is.some);
          arrives = refl;
        }))
        (λ none. inr refl)

    -- the last one is that of a job of the period
    pub last_is : IsJobOfTurn phase (last_in_turn phase since)
    last_is = record {
      place = min (since / phase.distance) (phase.count - 1);
      within = omega (arith, least_right (since / phase.distance) (phase.count - 1), is.some);
      arrives = refl;
    }

    pub last_not_after : last_in_turn phase since ≤ since
    last_not_after = omega (
      arith,
      mul-le-mul_right phase.distance (least_left (since / phase.distance) (phase.count - 1)),
      division phase.distance is.apart since,
    )

    pub last_greatest : (place : ℕ) → place < phase.count → place * phase.distance ≤ since → place * phase.distance ≤ last_in_turn phase since
    last_greatest place inside before = mul-le-mul_right phase.distance
        (least_of place (since / phase.distance) (phase.count - 1) (rounded_down_greatest phase.distance is.apart since place before) (omega (arith, inside)))

    pub last_close : since < last_in_turn phase since + (phase.period - (phase.count - 1) * phase.distance)
    last_close = elim (cases_lt (since / phase.distance) (phase.count - 1)) [
      | inl less ↦
          let down : min (since / phase.distance) (phase.count - 1) ≡ since / phase.distance = omega (arith, less) in
          omega (arith, ap (λ n. n * phase.distance) down, division phase.distance is.apart since, rest phase.distance is.apart since, final_fits)
      | inr not ↦
          let down : min (since / phase.distance) (phase.count - 1) ≡ phase.count - 1 = omega (arith, not) in
          omega (arith, ap (λ n. n * phase.distance) down, final_fits, within)
    ]
