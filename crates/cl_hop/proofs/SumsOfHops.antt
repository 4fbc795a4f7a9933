-- How great and how small sums of hops are: the bounds of a chain are positive, and bounded by its longest distance or
-- write.
use Rattle.std.proofs.Common.{◌≡◌, ℕ, ℤ, pos, negsuc, suc, ◌+◌, ◌*◌, ◌<◌, ◌≤◌, List, [], ◌∷◌, length, refl, arith}
use Rattle.std.specs.Prelude.{◌+ℤ◌, ◌-ℤ◌, ◌≤ℤ◌, nat_abs, All}
use Rattle.std.proofs.lemmas.Int.{ints}
use Rattle.std.proofs.lemmas.List.Elements.{All-head, All-tail, All-weaker}
use Rattle.cl_hop.specs.{Hops.{hop, forward_hop, backward_hop, hops}, declared.group_timing.GroupTiming.GroupTiming, Bounds.{last_of, greatest_reaction, greatest_age, greatest_reduced, greatest_delay}}
use Rattle.cl_hop.proofs.{GroupWindows.IsProper, LagTable.lag_lines}

-- what holds of all groups of a chain holds of the last
last_holds : (P : GroupTiming → Type 0) (first : GroupTiming) (groups : List GroupTiming) → P first → All P groups → P (last_of first groups)
last_holds P first [] holds all = holds
last_holds P first (next ∷ groups) holds all = last_holds P next groups (All-head P next groups all) (All-tail P next groups all)

-- forward hops don't go back
forward_step : (writer reader : GroupTiming) → IsProper reader → pos 0 ≤ℤ forward_hop writer reader
forward_step writer reader proper =
    let next : reader.read < reader.distance = proper.read_before_next in
    lag_lines (λ z. pos 0 ≤ℤ ((pos reader.distance -ℤ pos 1) +ℤ z)) writer reader
    (λ same. omega (arith, ints))
    (λ saved. omega (arith, ints, next))
    (λ other. omega (arith, ints, next))

forward_sum : (first : GroupTiming) (groups : List GroupTiming) → All IsProper groups → pos 0 ≤ℤ hops forward_hop first groups
forward_sum first [] all = omega (arith, ints)
forward_sum first (next ∷ groups) all = omega (
  arith,
  ints,
  forward_step first next (All-head IsProper next groups all),
  forward_sum next groups (All-tail IsProper next groups all),
)

-- backward hops go back by less than the next group reads after its arrival
backward_step : (writer reader : GroupTiming) → IsProper writer → pos (suc writer.read) ≤ℤ (backward_hop writer reader +ℤ pos (suc reader.read))
backward_step writer reader proper =
    let next : writer.read < writer.distance = proper.read_before_next in
    lag_lines (λ z. pos (suc writer.read) ≤ℤ (((pos writer.distance -ℤ pos 1) +ℤ z) +ℤ pos (suc reader.read))) writer reader
    (λ same. omega (arith, ints, next))
    (λ saved. omega (arith, ints, next))
    (λ other. omega (arith, ints, next))

backward_sum : (first : GroupTiming) (groups : List GroupTiming) → IsProper first → All IsProper groups
    → pos (suc first.read) ≤ℤ (pos (last_of first groups).write +ℤ hops backward_hop first groups)
backward_sum first [] proper all = let writes : first.read < first.write = proper.read_before_write in omega (arith, ints, writes)
backward_sum first (next ∷ groups) proper all = omega (
  arith,
  ints,
  backward_step first next proper,
  backward_sum next groups (All-head IsProper next groups all) (All-tail IsProper next groups all),
)

-- ---- the sums of a chain are positive

reaction_positive : (groups : List GroupTiming) → All IsProper groups → 0 < length groups → pos 1 ≤ℤ greatest_reaction groups
reaction_positive [] all some = absurd (omega (arith, some))
reaction_positive (first ∷ groups) all some =
    let proper : IsProper first = All-head IsProper first groups all in
    let next : first.read < first.distance = proper.read_before_next in
    omega (arith, ints, next, forward_sum first groups (All-tail IsProper first groups all))

reduced_positive : (groups : List GroupTiming) → All IsProper groups → 0 < length groups → pos 1 ≤ℤ greatest_reduced groups
reduced_positive [] all some = absurd (omega (arith, some))
reduced_positive (first ∷ groups) all some =
    omega (arith, ints, backward_sum first groups (All-head IsProper first groups all) (All-tail IsProper first groups all))

age_positive : (groups : List GroupTiming) → All IsProper groups → 0 < length groups → pos 1 ≤ℤ greatest_age groups
age_positive [] all some = absurd (omega (arith, some))
age_positive (first ∷ groups) all some =
    omega (arith, ints, backward_sum first groups (All-head IsProper first groups all) (All-tail IsProper first groups all))

delay_positive : (groups : List GroupTiming) → All IsProper groups → 0 < length groups → pos 1 ≤ℤ greatest_delay groups
delay_positive [] all some = absurd (omega (arith, some))
delay_positive (first ∷ groups) all some =
    let rest = All-tail IsProper first groups all in
    let last : IsProper (last_of first groups) = last_holds IsProper first groups (All-head IsProper first groups all) rest in
    omega (arith, ints, forward_sum first groups rest, last.read_before_write)

-- a number that isn't negative is its absolute value
is_absolute : (z : ℤ) → pos 0 ≤ℤ z → pos (nat_abs z) ≡ z
is_absolute (pos n) h = refl
is_absolute (negsuc n) h = absurd (omega (arith, ints, h))

-- a sum of a chain is its absolute value, where it is positive for chains with some group and 0 for one with none
sum_absolute : (sum : List GroupTiming → ℤ) → sum [] ≡ pos 0 → ((groups : List GroupTiming) → All IsProper groups → 0 < length groups → pos 1 ≤ℤ sum groups)
    → (groups : List GroupTiming) → All IsProper groups → pos (nat_abs (sum groups)) ≡ sum groups
sum_absolute sum none positive [] all = is_absolute (sum []) (omega (arith, ints, none))
sum_absolute sum none positive (first ∷ groups) all = is_absolute (sum (first ∷ groups)) (omega (arith, ints, positive (first ∷ groups) all (omega arith)))

module _ (groups : List GroupTiming) (all : All IsProper groups) where
  pub reaction_absolute : pos (nat_abs (greatest_reaction groups)) ≡ greatest_reaction groups
  reaction_absolute = sum_absolute greatest_reaction refl reaction_positive groups all

  pub age_absolute : pos (nat_abs (greatest_age groups)) ≡ greatest_age groups
  age_absolute = sum_absolute greatest_age refl age_positive groups all

  pub reduced_absolute : pos (nat_abs (greatest_reduced groups)) ≡ greatest_reduced groups
  reduced_absolute = sum_absolute greatest_reduced refl reduced_positive groups all

  pub delay_absolute : pos (nat_abs (greatest_delay groups)) ≡ greatest_delay groups
  delay_absolute = sum_absolute greatest_delay refl delay_positive groups all

  module _ (some : 0 < length groups) where
    pub reaction_some : 1 ≤ nat_abs (greatest_reaction groups)
    reaction_some = omega (arith, ints, reaction_absolute, reaction_positive groups all some)

    pub age_some : 1 ≤ nat_abs (greatest_age groups)
    age_some = omega (arith, ints, age_absolute, age_positive groups all some)

    pub reduced_some : 1 ≤ nat_abs (greatest_reduced groups)
    reduced_some = omega (arith, ints, reduced_absolute, reduced_positive groups all some)

    pub delay_some : 1 ≤ nat_abs (greatest_delay groups)
    delay_some = omega (arith, ints, delay_absolute, delay_positive groups all some)

-- ---- and bounded

-- a proper group whose distance is at most so many ticks
pub record IsAtMost (most : ℕ) (group : GroupTiming) : Type 0 where
  pub proper : IsProper group
  pub distance : group.distance ≤ most

module _ (most : ℕ) where
  -- a hop is at most twice that far
  hop_within : (distance : ℕ) (writer reader : GroupTiming) → distance ≤ most → IsAtMost most writer → hop distance writer reader ≤ℤ pos (2 * most)
  hop_within distance writer reader near bounded =
      let far : writer.distance ≤ most = bounded.distance in
      let jitter : writer.jitter < writer.distance = bounded.proper.jitter_before_next in
      let write : writer.write ≤ writer.distance = bounded.proper.write_by_next in
      lag_lines (λ z. ((pos distance -ℤ pos 1) +ℤ z) ≤ℤ pos (2 * most)) writer reader
      (λ same. omega (arith, ints, near))
      (λ saved. omega (arith, ints, near, far, jitter))
      (λ other. omega (arith, ints, near, far, write))

  -- and goes back by at most so far
  hop_back : (distance : ℕ) (writer reader : GroupTiming) → 1 ≤ distance → IsAtMost most reader → pos 0 ≤ℤ (hop distance writer reader +ℤ pos most)
  hop_back distance writer reader some bounded =
      let next : reader.read < reader.distance = bounded.proper.read_before_next in
      let near : reader.distance ≤ most = bounded.distance in
      lag_lines (λ z. pos 0 ≤ℤ (((pos distance -ℤ pos 1) +ℤ z) +ℤ pos most)) writer reader
      (λ same. omega (arith, ints))
      (λ saved. omega (arith, ints, some, next, near))
      (λ other. omega (arith, ints, some, next, near))

  -- hops that go at most so far, forward and back
  record AreShort (hop : GroupTiming → GroupTiming → ℤ) : Type 0 where
    ahead : (writer reader : GroupTiming) → IsAtMost most writer → IsAtMost most reader → hop writer reader ≤ℤ pos (2 * most)
    back : (writer reader : GroupTiming) → IsAtMost most writer → IsAtMost most reader → pos 0 ≤ℤ (hop writer reader +ℤ pos most)

  forward_short : AreShort forward_hop
  forward_short = record {
    ahead = λ writer reader one other. hop_within reader.distance writer reader other.distance one;
    back = λ writer reader one other. hop_back reader.distance writer reader (omega (arith, other.proper.read_before_next)) other;
  }

  backward_short : AreShort backward_hop
  backward_short = record {
    ahead = λ writer reader one other. hop_within writer.distance writer reader one.distance one;
    back = λ writer reader one other. hop_back writer.distance writer reader (omega (arith, one.proper.read_before_next)) other;
  }

  sum_within : (hop : GroupTiming → GroupTiming → ℤ) → AreShort hop → (first : GroupTiming) (groups : List GroupTiming)
      → IsAtMost most first → All (IsAtMost most) groups
      → (hops hop first groups ≤ℤ pos (length groups * (2 * most))) × (pos 0 ≤ℤ (hops hop first groups +ℤ pos (length groups * most)))
  sum_within hop short first [] bounded all = (omega (arith, ints), omega (arith, ints))
  sum_within hop short first (next ∷ groups) bounded all =
      let near = All-head (IsAtMost most) next groups all in
      let (ahead, back) = sum_within hop short next groups near (All-tail (IsAtMost most) next groups all) in
      (omega (arith, ints, short.ahead first next bounded near, ahead), omega (arith, ints, short.back first next bounded near, back))

  -- sums of hops go at most twice that far a hop, and back by at most so far a hop
  pub forward_within : (first : GroupTiming) (groups : List GroupTiming) → IsAtMost most first → All (IsAtMost most) groups
      → (hops forward_hop first groups ≤ℤ pos (length groups * (2 * most))) × (pos 0 ≤ℤ (hops forward_hop first groups +ℤ pos (length groups * most)))
  forward_within = sum_within forward_hop forward_short

  pub backward_within : (first : GroupTiming) (groups : List GroupTiming) → IsAtMost most first → All (IsAtMost most) groups
      → (hops backward_hop first groups ≤ℤ pos (length groups * (2 * most))) × (pos 0 ≤ℤ (hops backward_hop first groups +ℤ pos (length groups * most)))
  backward_within = sum_within backward_hop backward_short

absolute_within : (z : ℤ) (n : ℕ) → pos (nat_abs z) ≡ z → z ≤ℤ pos n → nat_abs z ≤ n
absolute_within z n is within = omega (arith, ints, is, within)

twice_each : (n most : ℕ) → 2 * suc n * most ≡ 2 * most + n * (2 * most)
twice_each n most = omega arith

module _ (most : ℕ) (first : GroupTiming) (groups : List GroupTiming) (all : All (IsAtMost most) (first ∷ groups)) where
  bounded : IsAtMost most first
  bounded = All-head (IsAtMost most) first groups all

  others : All (IsAtMost most) groups
  others = All-tail (IsAtMost most) first groups all

  proper : All IsProper (first ∷ groups)
  proper = All-weaker (IsAtMost most) IsProper (λ group at_most. at_most.proper) (first ∷ groups) all

  last_at_most : IsAtMost most (last_of first groups)
  last_at_most = last_holds (IsAtMost most) first groups bounded others

  last_writes_within : (last_of first groups).write ≤ most
  last_writes_within = omega (arith, last_at_most.distance, last_at_most.proper.write_by_next)

  -- the bounds of a chain are at most twice so far a group
  pub reaction_at_most : nat_abs (greatest_reaction (first ∷ groups)) ≤ 2 * suc (length groups) * most
  reaction_at_most = absolute_within (greatest_reaction (first ∷ groups)) _ (reaction_absolute (first ∷ groups) proper)
      (omega (arith, ints, twice_each (length groups) most, bounded.distance, last_writes_within, (forward_within most first groups bounded others).0))

  pub age_at_most : nat_abs (greatest_age (first ∷ groups)) ≤ 2 * suc (length groups) * most
  age_at_most = absolute_within (greatest_age (first ∷ groups)) _ (age_absolute (first ∷ groups) proper)
      (omega (arith, ints, twice_each (length groups) most, last_at_most.distance, last_writes_within, (backward_within most first groups bounded others).0))

  pub reduced_at_most : nat_abs (greatest_reduced (first ∷ groups)) ≤ 2 * suc (length groups) * most
  reduced_at_most = absolute_within (greatest_reduced (first ∷ groups)) _ (reduced_absolute (first ∷ groups) proper)
      (omega (arith, ints, twice_each (length groups) most, last_writes_within, (backward_within most first groups bounded others).0))

  pub delay_at_most : nat_abs (greatest_delay (first ∷ groups)) ≤ 2 * suc (length groups) * most
  delay_at_most = absolute_within (greatest_delay (first ∷ groups)) _ (delay_absolute (first ∷ groups) proper)
      (omega (arith, ints, twice_each (length groups) most, last_writes_within, (forward_within most first groups bounded others).0))
