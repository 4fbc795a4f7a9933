-- Sums of hops along a chain.
use Rattle.std.proofs.Common.{◌≡◌, ℕ, ℤ, pos, suc, ◌+◌, ◌-◌, ◌<◌, ◌≤◌, List, [], ◌∷◌, length, map, refl, subst, arith}
use Rattle.std.specs.Prelude.{◌+ℤ◌, ◌-ℤ◌, ◌≤ℤ◌, slice_index}
use Rattle.std.proofs.lemmas.Int.{ints}
use Rattle.cl_model.specs.{declared.group.Group.Group, Groups.group_at}
use Rattle.cl_runs.specs.Chains.{last_group}
use Rattle.cl_hop.specs.{Hops.hops, declared.group_timing.GroupTiming.GroupTiming, Bounds.last_of}

-- where each hop bounds a moment from the one before it, their sum bounds the last from the first
pub telescope : (hop : GroupTiming → GroupTiming → ℤ) (timing : Group → GroupTiming) (first : Group) (groups : List Group) (at : ℕ → ℕ)
    → ((i : ℕ) → suc i < length (first ∷ groups)
    → pos (at (suc i)) ≤ℤ (pos (at i) +ℤ hop (timing (group_at (first ∷ groups) i)) (timing (group_at (first ∷ groups) (suc i)))))
    → pos (at (length groups)) ≤ℤ (pos (at 0) +ℤ hops hop (timing first) (map timing groups))
telescope hop timing first [] at each = omega (arith, ints)
telescope hop timing first (next ∷ groups) at each =
    let step : pos (at 1) ≤ℤ (pos (at 0) +ℤ hop (timing first) (timing next)) = each 0 (omega arith) in
    let rest : pos (at (suc (length groups))) ≤ℤ (pos (at 1) +ℤ hops hop (timing next) (map timing groups))
    = telescope hop timing next groups (λ i. at (suc i)) (λ i h. each (suc i) (omega arith)) in
    omega (arith, ints, step, rest)

-- the timing of the last group
pub last_timing : (timing : Group → GroupTiming) (first : Group) (groups : List Group)
    → last_of (timing first) (map timing groups) ≡ timing (group_at (first ∷ groups) (length groups))
last_timing timing first [] = refl
last_timing timing first (next ∷ groups) = last_timing timing next groups

-- what holds of the last group and job of a chain, with their places written out
pub at_last : (P : Group → ℕ → Type 0) (first : Group) (groups : List Group) (jobs : List ℕ) → length jobs ≡ length (first ∷ groups)
    → P (last_group (first ∷ groups)) (slice_index jobs (length jobs - 1)) → P (group_at (first ∷ groups) (length groups)) (slice_index jobs (length groups))
at_last P first groups jobs same holds =
    let job : length jobs - 1 ≡ length groups = omega (arith, same) in
    let group : length (first ∷ groups) - 1 ≡ length groups = omega arith in
    subst (λ i. P (group_at (first ∷ groups) i) (slice_index jobs (length groups))) group
    (subst (λ i. P (last_group (first ∷ groups)) (slice_index jobs i)) job holds)

-- a length is at most a number that bounds its end from its beginning
pub length_within : (from to n : ℕ) (bound : ℤ) → pos n ≡ bound → pos to ≤ℤ (pos from +ℤ bound) → to - from ≤ n
length_within from to n bound is h = omega (arith, ints, is, h)

module _ (first last end : ℕ) (sum : ℤ) (write last_write : ℕ) (written : write ≡ last_write) (to_end : end ≤ last + last_write)
    (along : pos last ≤ℤ (pos first +ℤ sum)) (from read : ℕ) where
  -- from the read of the first job to the write of the last
  pub from_first : first + read ≤ from → pos end ≤ℤ (pos from +ℤ ((pos write -ℤ pos read) +ℤ sum))
  from_first reads = omega (arith, ints, written, to_end, along, reads)

  -- from the read of the job before the first
  pub from_before : (before distance : ℕ) → before + read ≤ from → first ≤ before + distance
      → pos end ≤ℤ (pos from +ℤ (((pos distance -ℤ pos read) +ℤ sum) +ℤ pos write))
  from_before before distance reads soon = omega (arith, ints, written, to_end, along, reads, soon)

-- from the arrival of the first job
pub from_arrival : (first last end : ℕ) (sum : ℤ) (write last_write : ℕ) → write ≡ last_write → end ≤ last + last_write
    → pos last ≤ℤ (pos first +ℤ sum) → (from : ℕ) → from ≡ first → pos end ≤ℤ (pos from +ℤ (sum +ℤ pos write))
from_arrival first last end sum write last_write written to_end along from is = omega (arith, ints, written, to_end, along, is)

-- to the write of the job after the last
pub to_next : (first last next end : ℕ) (sum : ℤ) (write last_write distance last_distance : ℕ) → write ≡ last_write → distance ≡ last_distance
    → end ≤ next + last_write → next ≤ last + last_distance → pos last ≤ℤ (pos first +ℤ sum)
    → (from read : ℕ) → first + read ≤ from → pos end ≤ℤ (pos from +ℤ (pos distance +ℤ ((pos write -ℤ pos read) +ℤ sum)))
to_next first last next end sum write last_write distance last_distance written apart to_end soon along from read reads =
    omega (arith, ints, written, apart, to_end, soon, along, reads)
