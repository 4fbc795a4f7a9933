-- A number that begins at 0 and from moment to moment stays or grows by one.
use Rattle.std.proofs.Common.{◌≡◌, ℕ, zero, suc, ◌+◌, ◌<◌, ◌≤◌, ◌⊎◌, inl, inr, sym, ap, ◌∙◌, arith}
use Rattle.std.proofs.lemmas.Bool.{cases_lt, cases_eq}

-- the number stays or grows by one
abbrev pub Climbs : (ℕ → ℕ) → Type 0
Climbs e = (t : ℕ) → (e (suc t) ≡ e t) ⊎ (e (suc t) ≡ suc (e t))

-- the least moment at which the number is v
pub record IsFirstAt (e : ℕ → ℕ) (v t : ℕ) : Type 0 where
  pub reached : e t ≡ v
  pub least : (s : ℕ) → e s ≡ v → t ≤ s

-- the moment in which the number grows from v
pub record GrowsAt (e : ℕ → ℕ) (v t : ℕ) : Type 0 where
  pub before : e t ≡ v
  pub after : e (suc t) ≡ suc v

step_le : (e : ℕ → ℕ) (t : ℕ) → (e (suc t) ≡ e t) ⊎ (e (suc t) ≡ suc (e t)) → e t ≤ e (suc t)
step_le e t (inl same) = omega arith
step_le e t (inr more) = omega arith

-- it never falls
pub climb_mono : (e : ℕ → ℕ) → Climbs e → (s t : ℕ) → s ≤ t → e s ≤ e t
climb_mono e c s zero h = let same : s ≡ 0 = omega arith in omega (arith, ap e same)
climb_mono e c s (suc t) h =
    elim (cases_eq s (suc t)) [
      | inl same ↦ omega (arith, ap e same)
      | inr other ↦ omega (arith, climb_mono e c s t (omega arith), step_le e t (c t))
    ]

-- a larger number comes at a later moment
pub climb_lt : (e : ℕ → ℕ) → Climbs e → (s t : ℕ) → e s < e t → s < t
climb_lt e c s t h =
    elim (cases_lt s t) [ inl lt ↦ lt | inr ge ↦ absurd (omega (arith, climb_mono e c t s ge)) ]

first_at : (e : ℕ → ℕ) → Climbs e → (v t : ℕ) → e t < v → e (suc t) ≡ v → IsFirstAt e v (suc t)
first_at e c v t below at = record {
  reached = at;
  least = λ s is. climb_lt e c t s (omega arith);
}

-- it reaches each number up to the one that it has at t, by t
pub climb_reaches : (e : ℕ → ℕ) → Climbs e → e 0 ≡ 0 → (v t : ℕ) → v ≤ e t → (s : ℕ) × (s ≤ t) × IsFirstAt e v s
climb_reaches e c z v zero h = (0, omega arith, record { reached = omega arith; least = λ s is. omega arith })
climb_reaches e c z v (suc t) h =
    elim (cases_lt (e t) v) [
      | inl below ↦ (suc t, omega arith, first_at e c v t below (reach_step (e t) (e (suc t)) v (c t) below h))
      | inr there ↦ let (s, within, first) = climb_reaches e c z v t there in (s, omega arith, first)
    ]
  where
    reach_step : (a b v : ℕ) → (b ≡ a) ⊎ (b ≡ suc a) → a < v → v ≤ b → b ≡ v
    reach_step a b v (inl same) below h = omega arith
    reach_step a b v (inr more) below h = omega arith

grows : (e : ℕ → ℕ) → Climbs e → (v t : ℕ) → IsFirstAt e (suc v) (suc t) → (e (suc t) ≡ e t) ⊎ (e (suc t) ≡ suc (e t)) → GrowsAt e v t
grows e c v t first (inl same) = absurd (omega (arith, first.least t (sym same ∙ first.reached)))
grows e c v t first (inr more) = record { before = omega (arith, first.reached); after = first.reached }

grows_before : (e : ℕ → ℕ) → Climbs e → e 0 ≡ 0 → (v s t : ℕ) → s ≤ t → IsFirstAt e (suc v) s → (r : ℕ) × (r < t) × GrowsAt e v r
grows_before e c z v zero t within first = absurd (omega (arith, first.reached))
grows_before e c z v (suc r) t within first = (r, omega arith, grows e c v r first (c r))

-- where it is above v at t, it grew from v before t
pub climb_grows : (e : ℕ → ℕ) → Climbs e → e 0 ≡ 0 → (v t : ℕ) → v < e t → (r : ℕ) × (r < t) × GrowsAt e v r
climb_grows e c z v t h =
    let (s, within, first) = climb_reaches e c z (suc v) t h in grows_before e c z v s t within first

-- it grows from v once
pub grows_once : (e : ℕ → ℕ) → Climbs e → (v s t : ℕ) → GrowsAt e v s → GrowsAt e v t → s ≡ t
grows_once e c v s t one other =
    let early : s < suc t = climb_lt e c s (suc t) (omega (arith, one.before, other.after)) in
    let late : t < suc s = climb_lt e c t (suc s) (omega (arith, other.before, one.after)) in
    omega arith

step_slow : (e : ℕ → ℕ) (t : ℕ) → (e (suc t) ≡ e t) ⊎ (e (suc t) ≡ suc (e t)) → e (suc t) ≤ suc (e t)
step_slow e t (inl same) = omega arith
step_slow e t (inr more) = omega arith

-- it grows by at most one from moment to moment
pub climb_slow : (e : ℕ → ℕ) → Climbs e → (s t : ℕ) → s ≤ t → e t + s ≤ e s + t
climb_slow e c s zero h = let same : s ≡ 0 = omega arith in omega (arith, ap e same)
climb_slow e c s (suc t) h =
    elim (cases_eq s (suc t)) [
      | inl same ↦ omega (arith, ap e same)
      | inr other ↦ omega (arith, climb_slow e c s t (omega arith), step_slow e t (c t))
    ]
