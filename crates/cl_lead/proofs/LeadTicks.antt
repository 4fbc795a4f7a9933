-- A core executes one task a tick, so a task and those above it execute no more ticks than pass.
use Rattle.std.proofs.Common.{◌≡◌, ℕ, zero, suc, ◌+◌, ◌<◌, ◌≤◌, inl, inr, Some, Bool, true, length, ap, sym, ◌∙◌, arith}
use Rattle.std.proofs.lemmas.Bool.{cases_eq, and_parts, eqb-true, ltb-true}
use Rattle.cl_runs.specs.{TaskTiming.{System, timing_at}, Run.{Run, entry_at, executed}, Priorities.is_above}
use Rattle.cl_runs.proofs.Executed.{executed_climbs, executed_grew}
use Rattle.cl_lead.proofs.LeadTotals.{total, total_rises, total_one_more, stays_unless}

-- whether task j is above task i
abbrev pub above : System → ℕ → ℕ → Bool
above system i j = is_above (timing_at system i) (timing_at system j)

-- a task above is on the same core, and its priority is higher
pub above_core : (system : System) (i j : ℕ) → above system i j ≡ true → (timing_at system j).core ≡ (timing_at system i).core
above_core system i j is = eqb-true _ _ (and_parts _ _ is).0

pub above_priority : (system : System) (i j : ℕ) → above system i j ≡ true → (timing_at system i).priority < (timing_at system j).priority
above_priority system i j is = ltb-true _ _ (and_parts _ _ is).1

-- so it is another one
above_other : (system : System) (i j : ℕ) → above system i j ≡ true → j ≡ i → ⊥
above_other system i j is same = omega (arith, above_priority system i j is, ap (λ m. (timing_at system m).priority) same)

one_task : (j k : ℕ) → Some j ≡ Some k → j ≡ k
one_task j k same = cc

-- the ticks that the tasks above task i have executed by t
abbrev pub executed_above : System → Run → (i t : ℕ) → ℕ
executed_above system run i t = total (above system i) (λ j. executed system run j t) (length system.tasks)

module _ (system : System) (run : Run) (i : ℕ) where
  -- two tasks of a core that grow in the same tick are one
  same_task : (t j k : ℕ) → (timing_at system j).core ≡ (timing_at system k).core
      → executed system run j (suc t) ≡ suc (executed system run j t) → executed system run k (suc t) ≡ suc (executed system run k t) → j ≡ k
  same_task t j k cores j_grew k_grew = one_task j k
      (sym (executed_grew system run j t j_grew).1 ∙ ap (λ c. entry_at run c t) cores ∙ (executed_grew system run k t k_grew).1)

  one_above : (t j k : ℕ) → above system i j ≡ true → above system i k ≡ true
      → executed system run j (suc t) ≡ suc (executed system run j t) → executed system run k (suc t) ≡ suc (executed system run k t) → j ≡ k
  one_above t j k j_above k_above = same_task t j k (above_core system i j j_above ∙ sym (above_core system i k k_above))

  -- where the task itself grows, none above does
  none_above : (t j : ℕ) → above system i j ≡ true → executed system run i (suc t) ≡ suc (executed system run i t)
      → executed system run j (suc t) ≤ executed system run j t
  none_above t j j_above more = stays_unless (executed system run j t) (executed system run j (suc t)) (executed_climbs system run j t)
      (λ grew. absurd (above_other system i j j_above (same_task t j i (above_core system i j j_above) grew more)))

  -- in a tick one tick is executed at most
  tick_slow : (t : ℕ) → executed system run i (suc t) + executed_above system run i (suc t)
      ≤ suc (executed system run i t + executed_above system run i t)
  tick_slow t = elim (executed_climbs system run i t) [
    | inl same ↦ omega (
      arith,
      same,
      total_one_more (above system i) (λ j. executed system run j t) (λ j. executed system run j (suc t)) (λ j. executed_climbs system run j t)
          (one_above t) (length system.tasks),
    )
    | inr more ↦ omega (
      arith,
      more,
      total_rises (above system i) (λ j. executed system run j (suc t)) (λ j. executed system run j t) (length system.tasks)
          (λ j _ passes. none_above t j passes more),
    )
  ]

  -- and in a stretch of ticks as many as it has
  pub executed_slow : (s t : ℕ) → s ≤ t → executed system run i t + executed_above system run i t + s
      ≤ executed system run i s + executed_above system run i s + t
  executed_slow s zero h = let same : s ≡ 0 = omega (arith, h) in
      omega (arith, same, ap (λ m. executed system run i m + executed_above system run i m) same)
  executed_slow s (suc t) h = elim (cases_eq s (suc t)) [
    | inl same ↦ omega (arith, same, ap (λ m. executed system run i m + executed_above system run i m) same)
    | inr other ↦ omega (arith, executed_slow s t (omega (arith, h, other)), tick_slow t)
  ]
