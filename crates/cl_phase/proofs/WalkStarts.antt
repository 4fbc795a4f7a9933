-- The bounds by walks from a group are at least how long the walks from each of its arrivals last, wherever it lies.
use Rattle.std.proofs.Common.{◌≡◌, ℕ, ℤ, pos, negsuc, suc, ◌*◌, ◌<◌, ◌≤◌, inl, inr, List, length, refl, sym, ap, subst, arith}
use Rattle.std.specs.Prelude.{◌+ℤ◌, ◌≤ℤ◌, ◌⊎◌}
use Rattle.std.specs.Int.{◌∣◌}
use Rattle.std.proofs.Math.Nat.{dvd-mul_left}
use Rattle.std.proofs.lemmas.Nat.Gcd.{dvd_trans}
use Rattle.std.proofs.lemmas.Int.{ints}
use Rattle.cl_model.specs.Holds.{greatest_by}
use Rattle.cl_stim.specs.{declared.phase.Phase.Phase, Phase.IsArrivalOf}
use Rattle.cl_phase.specs.{declared.{pace.Pace.{Pace, TheVariants.{Kept, Free}}, stop.Stop.Stop}, Pace.{PaceComesRound, AreNeighbours}, Walks.pace_at, TightBounds.{hyperperiod_in, starts, ticks_or_none, length_from, reduced_from, bounds_from}}
use Rattle.cl_phase.proofs.{Stepped.IsStepped, Walking.{KeepsPhase, IsFreeAt}, WalksMove.{length_moves, reduced_moves}, ArrivalsMove.{StandsAs, stands_as, arrives_later, arrives_earlier}}

-- what is needed of the groups of a chain and the place from which its walks start: the paces step and come round, and
-- the group of the place keeps its phase, or it is the first and none does
pub record AreStops (stops : List Stop) (place : ℕ) : Type 0 where
  pub is_place : place < length stops
  pub stepped : (other : ℕ) → other < length stops → IsStepped (pace_at stops other)
  pub some_tick : 1 ≤ hyperperiod_in stops
  pub round : (other : ℕ) → other < length stops → PaceComesRound (hyperperiod_in stops) (pace_at stops other)
  pub start : (KeepsPhase stops place) ⊎ ((place ≡ 0) × ((other : ℕ) → other < length stops → IsFreeAt stops other))
  -- each arrival in the first hyperperiod is one from which walks start
  pub taken : (phase : Phase) → pace_at stops place ≡ Kept phase → (number : ℕ → ℕ) (moment : ℕ) → moment < hyperperiod_in stops
      → IsArrivalOf phase (pos moment) → number moment ≤ greatest_by number (starts (Kept phase) (hyperperiod_in stops))

-- an arrival of a group from which its walks may start
abbrev pub IsArrivalAt : Pace → (moment : ℤ) → Type 0
IsArrivalAt (Kept phase) moment = IsArrivalOf phase moment
IsArrivalAt (Free greatest) moment = Unit {0}

-- the later of two neighbours is one
pub after_arrives : (pace : Pace) (before after : ℤ) → AreNeighbours pace before after → IsArrivalAt pace after
after_arrives (Kept phase) before after near = near.0
after_arrives (Free greatest) before after near = tt

-- a moment from which walks start that lies a whole number of rounds from an arrival
pub record HasStart (stops : List Stop) (place : ℕ) (arrival : ℤ) : Type 0 where
  pub first : ℕ
  pub ticks : ℕ
  pub round : (other : ℕ) → other < length stops → PaceComesRound ticks (pace_at stops other)
  pub moved : (arrival ≡ (pos first +ℤ pos ticks)) ⊎ (pos first ≡ (arrival +ℤ pos ticks))
  pub taken : (number : ℕ → ℕ) → number first ≤ greatest_by number (starts (pace_at stops place) (hyperperiod_in stops))

-- after whole times a round a pace has come round
rounds : (pace : Pace) (times ticks : ℕ) → PaceComesRound ticks pace → PaceComesRound (times * ticks) pace
rounds (Kept phase) times ticks round = dvd_trans phase.period round (dvd-mul_left ticks times)
rounds (Free greatest) times ticks round = tt

free_rounds : (pace : Pace) (greatest ticks : ℕ) → pace ≡ Free greatest → PaceComesRound ticks pace
free_rounds (Kept phase) greatest ticks is = cc
free_rounds (Free other) greatest ticks is = tt

-- an arrival of a kept phase has a start
module _ (stops : List Stop) (place : ℕ) (are : AreStops stops place) where
  stood : (phase : Phase) (arrival : ℤ) → pace_at stops place ≡ Kept phase → (stands : StandsAs (hyperperiod_in stops) arrival)
      → IsArrivalOf phase arrival → IsArrivalOf phase (pos stands.first)
  stood phase arrival is stands arrives =
      let round : phase.period ∣ (stands.times * hyperperiod_in stops)
      = rounds (Kept phase) stands.times (hyperperiod_in stops) (subst (PaceComesRound (hyperperiod_in stops)) is (are.round place are.is_place)) in
      elim stands.moved [
        | inl later ↦ arrives_earlier phase (stands.times * hyperperiod_in stops) round arrival (pos stands.first) (sym later) arrives
        | inr earlier ↦ arrives_later phase (stands.times * hyperperiod_in stops) round arrival (pos stands.first) earlier arrives
      ]

  kept_start : (kept : KeepsPhase stops place) (arrival : ℤ) → IsArrivalOf kept.0 arrival → HasStart stops place arrival
  kept_start kept arrival arrives =
      let stands = stands_as (hyperperiod_in stops) are.some_tick arrival in
      record {
        first = stands.first;
        ticks = stands.times * hyperperiod_in stops;
        round = λ other h. rounds (pace_at stops other) stands.times (hyperperiod_in stops) (are.round other h);
        moved = stands.moved;
        taken = λ number. subst (λ pace. number stands.first ≤ greatest_by number (starts pace (hyperperiod_in stops))) (sym kept.1)
            (are.taken kept.0 kept.1 number stands.first stands.below (stood kept.0 arrival kept.1 stands arrives));
      }

  -- where none is kept, any moment has
  free_start : (free : (other : ℕ) → other < length stops → IsFreeAt stops other) (first ticks : ℕ) (arrival : ℤ) → first ≡ 0
      → (arrival ≡ (pos first +ℤ pos ticks)) ⊎ (pos first ≡ (arrival +ℤ pos ticks)) → HasStart stops place arrival
  free_start free first ticks arrival none moved = record {
    first = first;
    ticks = ticks;
    round = λ other h. free_rounds (pace_at stops other) (free other h).0 ticks (free other h).1;
    moved = moved;
    taken = λ number. subst (λ pace. number first ≤ greatest_by number (starts pace (hyperperiod_in stops))) (sym (free place are.is_place).1)
        (omega (arith, ap number none));
  }

  free_start_of : ((other : ℕ) → other < length stops → IsFreeAt stops other) → (arrival : ℤ) → HasStart stops place arrival
  free_start_of free (pos n) = free_start free 0 n (pos n) refl (inl (omega (arith, ints)))
  free_start_of free (negsuc n) = free_start free 0 (suc n) (negsuc n) refl (inr (omega (arith, ints)))

  pub start_of : (arrival : ℤ) → IsArrivalAt (pace_at stops place) arrival → HasStart stops place arrival
  start_of arrival arrives = elim are.start [
    | inl kept ↦ kept_start kept arrival (subst (λ pace. IsArrivalAt pace arrival) kept.1 arrives)
    | inr none ↦ free_start_of none.1 arrival
  ]

-- no integer is greater than its number of ticks
ticks_bound : (length : ℤ) → length ≤ℤ pos (ticks_or_none length)
ticks_bound (pos n) = omega (arith, ints)
ticks_bound (negsuc n) = omega (arith, ints)

-- what is the same at the start as at an arrival is no greater than the greatest
pub from_start : (length : ℤ → ℤ) (arrival : ℤ) (first most : ℕ) → length arrival ≡ length (pos first) → ticks_or_none (length (pos first)) ≤ most
    → length arrival ≤ℤ pos most
from_start length arrival first most same within = omega (arith, ints, same, within, ticks_bound (length (pos first)))

module _ (stops : List Stop) (place : ℕ) (are : AreStops stops place) (span : ℤ) (write : ℕ) (arrival : ℤ)
    (arrives : IsArrivalAt (pace_at stops place) arrival) where
  start : HasStart stops place arrival
  start = start_of stops place are arrival arrives

  same_length : length_from stops span place arrival ≡ length_from stops span place (pos start.first)
  same_length = elim start.moved [
    | inl later ↦ length_moves stops are.stepped start.ticks start.round place are.is_place span arrival (pos start.first) later
    | inr earlier ↦ sym (length_moves stops are.stepped start.ticks start.round place are.is_place span (pos start.first) arrival earlier)
  ]

  same_reduced : reduced_from stops span place arrival ≡ reduced_from stops span place (pos start.first)
  same_reduced = elim start.moved [
    | inl later ↦ reduced_moves stops are.stepped start.ticks start.round place are.is_place span arrival (pos start.first) later
    | inr earlier ↦ sym (reduced_moves stops are.stepped start.ticks start.round place are.is_place span (pos start.first) arrival earlier)
  ]

  -- no walks from an arrival last longer than the bounds
  pub length_bounded : length_from stops span place arrival ≤ℤ pos (bounds_from stops span write place).reaction
  unfolding bounds_from
  length_bounded = from_start (length_from stops span place) arrival start.first _ same_length
      (start.taken (λ moment. ticks_or_none (length_from stops span place (pos moment))))

  pub age_bounded : length_from stops span place arrival ≤ℤ pos (bounds_from stops span write place).age
  unfolding bounds_from
  age_bounded = length_bounded

  pub reduced_bounded : reduced_from stops span place arrival ≤ℤ pos (bounds_from stops span write place).reduced
  unfolding bounds_from
  reduced_bounded = from_start (reduced_from stops span place) arrival start.first _ same_reduced
      (start.taken (λ moment. ticks_or_none (reduced_from stops span place (pos moment))))
