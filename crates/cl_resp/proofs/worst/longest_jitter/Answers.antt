use Rattle.std.proofs.Common.{◌≡◌, ℕ, ◌+◌, ◌<◌, ◌≤◌, inl, inr, List, length, max, sym, subst, arith}
use Rattle.std.specs.Prelude.{All, slice_index_or}
use Rattle.cl_model.specs.declared.limits.TheConstants.{MOST_TICKS}
use Rattle.cl_resp.specs.{Inner.Phased.IsInPhaseInRange, declared.phased.InPhase.InPhase}
use Rattle.std.proofs.lemmas.Bool.{cases_lt}
use Rattle.std.proofs.lemmas.List.{get_or_default}
use Rattle.cl_resp.proofs.worst.longest_jitter.Goals as goal

-- with one more task none so far has a longer jitter
with_one : (list : List InPhase) (i : ℕ) (e : InPhase) (longest result : ℕ) → longest ≤ result → (slice_index_or list i e).jitter ≤ result → i < length list
    → ((k : ℕ) (d : InPhase) → k < i → (slice_index_or list k d).jitter ≤ longest) → (k : ℕ) (d : InPhase) → k < i + 1 → (slice_index_or list k d).jitter ≤ result
with_one list i e longest result longer one within so_far k d before = elim (cases_lt k i) [
  | inl earlier ↦ omega (arith, so_far k d earlier, longer)
  | inr last ↦
      let same : i ≡ k = omega (arith, before, last) in
      subst (λ n. (slice_index_or list n d).jitter ≤ result) same
      (subst (λ (above : InPhase). above.jitter ≤ result) (get_or_default list i e d within) one)
]

-- the greater of two
first_below : (longest result jitter : ℕ) → result ≡ max longest jitter → longest ≤ result
first_below longest result jitter is = omega (arith, is)

second_below : (longest result jitter : ℕ) → result ≡ max longest jitter → jitter ≤ result
second_below longest result jitter is = omega (arith, is)

no_longer : (longest result jitter : ℕ) → result ≡ max longest jitter → longest ≤ MOST_TICKS → jitter ≤ MOST_TICKS → result ≤ MOST_TICKS
no_longer longest result jitter is one other = omega (arith, is, one, other)

jitter_short : (cycle : ℕ) (list all : List InPhase) (i : ℕ) (e : InPhase) → list ≡ all → i < length list → All (IsInPhaseInRange cycle) all
    → (slice_index_or list i e).jitter ≤ MOST_TICKS
jitter_short cycle list all i e same within range = (subst (All (IsInPhaseInRange cycle)) (sym same) range i e within).jitter

pub loop-above-preserved : goal.loop-above-preserved
loop-above-preserved c =
    let was = c.loop-above.invariant in
    let list = c.as_slice-above-items.result.now in
    record {
      all = with_one list c.loop-above.above-index _ c.loop-above.longest c.max-longest.result (first_below c.loop-above.longest c.max-longest.result _ c.max-longest.ensures)
          (second_below c.loop-above.longest c.max-longest.result _ c.max-longest.ensures) c.loop-above-test.true was.all;
      short = no_longer c.loop-above.longest c.max-longest.result _ c.max-longest.ensures was.short
          (jitter_short c.args.question.now.cycle list c.args.question.now.in_phase c.loop-above.above-index _ c.as_slice-above-items.ensures c.loop-above-test.true c.requires.in_range.in_phase);
    }

pub returns-clause-all : goal.returns-clause-all
returns-clause-all c = subst (λ (list : List InPhase). (k : ℕ) (d : InPhase) → k < length list → (slice_index_or list k d).jitter ≤ c.loop-above.longest)
    c.as_slice-above-items.ensures (λ k d within. c.loop-above.invariant.all k d (omega (arith, within, c.loop-above-test.false)))
