-- One more task that may join those in phase. Times are in ticks.
use Rattle.std.proofs.Common.{◌≡◌, ℕ, ◌<◌, ◌≤◌, Bool, true, false, cond, nat_le, List, ◌∷◌, ◌++◌, [], Option, Some, sym, ap, ◌∙◌, subst, arith}
use Rattle.std.specs.Prelude.{unwrap_or}
use Rattle.std.proofs.lemmas.Bool.Decides.{nat_tests}
use Rattle.std.proofs.lemmas.List.{reverse-append}
use Rattle.cl_runs.specs.TaskTiming.{System, timing_at}
use Rattle.cl_stim.specs.{declared.phase.Phase.Phase, Phase.phase_of}
use Rattle.cl_cycle.specs.{declared.cycle.{Cycle.Cycle, TheConstants.MOST_IN_CYCLE}, Counts.each_moment, Cycles.{phases_with, arrivals_together, joined_by}, Inner.Gathering.{AreTogether, IsGathered}}

-- whether a task joins, by how many arrive with it
pub joins_with_few : (system : System) (task : ℕ) (so_far : List ℕ) (other : ℕ)
    → arrivals_together (phases_with system task (other ∷ so_far)) ≤ MOST_IN_CYCLE → joined_by system task so_far other ≡ other ∷ so_far
unfolding joined_by
joins_with_few system task so_far other few =
    ap (λ (b : Bool). cond b (other ∷ so_far) so_far) (passes (arrivals_together (phases_with system task (other ∷ so_far))) MOST_IN_CYCLE few)
  where
    passes : (m n : ℕ) → m ≤ n → nat_le m n ≡ true
    passes m n h = grind (arith, nat_tests)

-- or stays away
pub stays_with_many : (system : System) (task : ℕ) (so_far : List ℕ) (other : ℕ)
    → MOST_IN_CYCLE < arrivals_together (phases_with system task (other ∷ so_far)) → joined_by system task so_far other ≡ so_far
unfolding joined_by
stays_with_many system task so_far other many =
    ap (λ (b : Bool). cond b (other ∷ so_far) so_far) (fails (arrivals_together (phases_with system task (other ∷ so_far))) MOST_IN_CYCLE many)
  where
    fails : (m n : ℕ) → n < m → nat_le m n ≡ false
    fails m n h = grind (arith, nat_tests)

module _ (system : System) (task : ℕ) (so_far : List ℕ) (other : ℕ) (phase : Phase) (fixed : phase_of (timing_at system other).pattern ≡ Some phase) where
  -- its phase stands before the others
  phases_are : phases_with system task (other ∷ so_far) ≡ phase ∷ phases_with system task so_far
  phases_are = ap (λ (own : Option Phase). unwrap_or own each_moment ∷ phases_with system task so_far) fixed

  -- it joins, where few arrive
  pub gathered_with : (old new : Cycle) → IsGathered system task so_far old → new.in_phase.items ≡ old.in_phase.items ++ other ∷ []
      → (arrivals_together (phase ∷ phases_with system task so_far) ≤ MOST_IN_CYCLE) × AreTogether (phase ∷ phases_with system task so_far) new.ticks new.arrivals
      → IsGathered system task (joined_by system task so_far other) new
  gathered_with old new gathered pushed few =
      subst (λ (list : List ℕ). IsGathered system task list new)
      (sym (joins_with_few system task so_far other (subst (λ (phases : List Phase). arrivals_together phases ≤ MOST_IN_CYCLE) (sym phases_are) few.0)))
      (record {
        in_phase = pushed ∙ ap (λ (list : List ℕ). list ++ other ∷ []) gathered.in_phase ∙ sym (reverse-append (other ∷ []) so_far);
        together = subst (λ (phases : List Phase). AreTogether phases new.ticks new.arrivals) (sym phases_are) few.1;
      })

  -- it does not, where many do
  pub gathered_without : (old : Cycle) → IsGathered system task so_far old → MOST_IN_CYCLE < arrivals_together (phase ∷ phases_with system task so_far)
      → IsGathered system task (joined_by system task so_far other) old
  gathered_without old gathered many =
      subst (λ (list : List ℕ). IsGathered system task list old)
      (sym (stays_with_many system task so_far other (subst (λ (phases : List Phase). MOST_IN_CYCLE < arrivals_together phases) (sym phases_are) many))) gathered
