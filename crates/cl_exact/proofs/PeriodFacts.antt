-- The hyperperiod of a chain, from the periods of its beats.
use Rattle.std.proofs.Common.{◌≡◌, ℕ, zero, suc, ◌+◌, ◌-◌, ◌%◌, ◌<◌, ◌≤◌, List, length, refl, sym, ap, subst, arith, inl, inr, ◌∙◌}
use Rattle.std.specs.Int.{◌∣◌, IsGcd}
use Rattle.std.proofs.lemmas.Bool.{cases_lt}
use Rattle.std.proofs.Math.Nat.{one-dvd}
use Rattle.std.proofs.lemmas.List.{get_or_default}
use Rattle.std.proofs.lemmas.Nat.Gcd.{dvd_trans, le_of_dvd, IsGcd-from_zero, IsGcd-from_mod}
use Rattle.cl_time.specs.Divisors.{IsLcm}
use Rattle.cl_time.proofs.Multiples.{IsLcm-from_gcd, IsLcm-pos}
use Rattle.cl_model.specs.{declared.group.Group.Group, Groups.{no_group, group_at}, Timing.least_distance}
use Rattle.cl_runs.specs.{TaskTiming.System, Chains.last_group}
use Rattle.cl_exact.specs.{declared.beat.Beat.Beat, Hyperperiod.{period_of, IsHyperperiod}, Inner.{Beats.{AreBeats, AreBeatsOf, beat_in}, Found.last_beat, Periods.{IsLeastOfFirst, IsLeastMultiple}}}

-- two numbers have a greatest common divisor
has_gcd : (n a b : ℕ) → b ≤ n → (g : ℕ) × IsGcd a b g
has_gcd n a zero bound = (a, IsGcd-from_zero a 0 refl)
has_gcd zero a (suc b) bound = absurd (omega (arith, bound))
has_gcd (suc n) a (suc b) bound =
    let rest = has_gcd n (suc b) (a % suc b) (omega arith) in
    (rest.0, IsGcd-from_mod a (suc b) rest.0 rest.1)

-- and, where they are above 0, a least common multiple
pub has_lcm : (a b : ℕ) → 0 < a → (m : ℕ) × IsLcm a b m
has_lcm a b some = let g = has_gcd b a b (omega arith) in (_, IsLcm-from_gcd a b g.0 some g.1)

-- the least common multiple of no periods is 1
pub least_of_none : (beats : List Beat) → IsLeastOfFirst beats 0 1
least_of_none beats = record {
  some = omega arith;
  multiple = λ place none. absurd (omega (arith, none));
  least = λ other _. one-dvd other;
}

-- of one period more
pub least_more : (beats : List Beat) (count so_far more : ℕ) → AreBeats beats → count < length beats → IsLeastOfFirst beats count so_far
    → IsLcm so_far (beat_in beats count).period more → IsLeastOfFirst beats (count + 1) more
least_more beats count so_far more are within is lcm = record {
  some = IsLcm-pos so_far (beat_in beats count).period more is.some (are.each count within).some_period lcm;
  multiple = λ place below there. elim (cases_lt place count) [
    | inl before ↦ dvd_trans (beat_in beats place).period (is.multiple place before there) lcm.first
    | inr last ↦
        let here : count ≡ place = omega (arith, last, below) in
        subst (λ k. (beat_in beats k).period ∣ more) here lcm.second
  ];
  least = λ other multiple.
      lcm.least other (is.least other (λ place below there. multiple place (omega (arith, below)) there)) (multiple count (omega arith) within);
}

-- there is one of all periods, and it is at least that of the first
pub has_least : (beats : List Beat) → AreBeats beats → (left count so_far : ℕ) → count + left ≡ length beats → IsLeastOfFirst beats count so_far
    → (ticks : ℕ) × IsLeastMultiple beats ticks × (so_far ≤ ticks)
has_least beats are zero count so_far all is =
    (so_far, subst (λ n. IsLeastOfFirst beats n so_far) (omega (arith, all)) is, omega arith)
has_least beats are (suc left) count so_far all is =
    let within : count < length beats = omega (arith, all) in
    let lcm = has_lcm so_far (beat_in beats count).period is.some in
    let next = least_more beats count so_far lcm.0 are within is lcm.1 in
    let rest = has_least beats are left (count + 1) lcm.0 (omega (arith, all)) next in
    (rest.0, rest.1, omega (arith, rest.2, le_of_dvd next.some lcm.1.first))

-- the period of a beat is that of its group
pub period_is : (system : System) (groups : List Group) (beats : List Beat) (place : ℕ) → AreBeatsOf system groups beats → place < length groups
    → period_of system (group_at groups place) ≡ (beat_in beats place).period
period_is system groups beats place of within = ap least_distance (of.each place within).periodic

-- and so for the last group
pub last_period : (system : System) (groups : List Group) (beats : List Beat) → AreBeatsOf system groups beats
    → period_of system (last_group groups) ≡ (last_beat beats).period
last_period system groups beats of =
    period_is system groups beats (length groups - 1) of (omega (arith, of.as_many, of.are_beats.some))
    ∙ ap (λ place. (beat_in beats place).period) (omega (arith, of.as_many))

-- and their least common multiple is the hyperperiod
pub is_hyperperiod : (system : System) (groups : List Group) (beats : List Beat) (ticks : ℕ) → AreBeatsOf system groups beats → IsLeastMultiple beats ticks
    → IsHyperperiod system groups ticks
is_hyperperiod system groups beats ticks of is = record {
  multiple = λ place d within.
      subst (λ (group : Group). period_of system group ∣ ticks) (get_or_default groups place no_group d within)
      (subst (λ n. n ∣ ticks) (sym (period_is system groups beats place of within))
      (is.multiple place (omega (arith, within, of.as_many)) (omega (arith, within, of.as_many))));
  least = λ other multiple. is.least other (λ place _ there.
      let within : place < length groups = omega (arith, there, of.as_many) in
      subst (λ n. n ∣ other) (period_is system groups beats place of within) (multiple place no_group within));
}

-- where the least common multiple of the first periods and one more exceeds a limit, so does that of all
pub past_with_more : (beats : List Beat) → AreBeats beats → (count so_far limit m : ℕ) → count < length beats → IsLeastOfFirst beats count so_far
    → IsLcm so_far (beat_in beats count).period m → (m ≤ limit → ⊥) → (ticks : ℕ) × IsLeastMultiple beats ticks × (limit < ticks)
past_with_more beats are count so_far limit m within is lcm past =
    let next = least_more beats count so_far m are within is lcm in
    let rest = has_least beats are (length beats - (count + 1)) (count + 1) m (omega (arith, within)) next in
    elim (cases_lt limit m) [
      | inl more ↦ (rest.0, rest.1, omega (arith, more, rest.2))
      | inr less ↦ absurd (past less)
    ]
