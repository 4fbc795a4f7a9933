-- The lengths of walks from an arrival of a group, and where the next ones start. Times are in ticks.
use Rattle.std.proofs.Common.{◌≡◌, ℕ, ◌+◌, ◌-◌, ◌<◌, ◌≤◌, ℤ, pos, negsuc, min, ◌+ℤ◌, ◌-ℤ◌, ◌≤ℤ◌, List, length, refl, ap, ◌∙◌, subst, arith}
use Rattle.std.proofs.lemmas.Int.{ints}
use Rattle.cl_stim.specs.{declared.phase.Phase.Phase, Phase.{IsPhase, IsPhaseInRange, first_arrival}}
use Rattle.cl_phase.specs.{declared.{stop.Stop.Stop, walk.{Ends.Ends, Longest.Longest}, pace.Pace.TheVariants.Kept}, Pace.{previous, next}, Walks.{pace_at, last_place, arrival_at_first, arrival_at_last}, Inner.{Ranges.{IsPaceInRange, AreStopsInRange}, Longest.{span_between, lengths_at}}}
use Rattle.cl_phase.specs.TightBounds.{ticks_or_none, starts}
use Rattle.cl_phase.proofs.ScannedStarts.{none_before_first, starts_over}

pub same_longest : (length reduced delay length' reduced' delay' : ℕ) → length ≡ length' → reduced ≡ reduced' → delay ≡ delay'
    → ◌≡◌ {A = Longest} (record { length = length; reduced = reduced; delay = delay }) (record { length = length'; reduced = reduced'; delay = delay' })
same_longest length reduced delay length' reduced' delay' e f g = cc

-- the lengths of the walks from an arrival, from where they come
pub lengths_are : (stops : List Stop) (ends : Ends) (place : ℕ) (arrival first last before after : ℤ) {length reduced delay : ℕ} {sum sum' sum'' : ℤ}
    → first ≡ arrival_at_first stops place arrival → last ≡ arrival_at_last stops place arrival → before ≡ previous (pace_at stops (last_place stops)) last
    → after ≡ next (pace_at stops 0) first
    → length ≡ ticks_or_none sum → reduced ≡ ticks_or_none sum' → delay ≡ ticks_or_none sum''
    → sum ≡ (last -ℤ first) +ℤ span_between ends → sum' ≡ (before -ℤ first) +ℤ span_between ends → sum'' ≡ (last -ℤ after) +ℤ pos ends.write
    → ◌≡◌ {A = Longest} (record { length = length; reduced = reduced; delay = delay }) (lengths_at stops ends place arrival)
lengths_are stops ends place arrival first last before after e f g n h k l s t u =
    let place' = last_place stops in
    let span = span_between ends in
    same_longest _ _ _ _ _ _
    (h ∙ ap ticks_or_none (s ∙ ap (λ z. (z -ℤ first) +ℤ span) f ∙ ap (λ z. (arrival_at_last stops place arrival -ℤ z) +ℤ span) e))
    (k ∙ ap ticks_or_none (t ∙ ap (λ z. (z -ℤ first) +ℤ span) (g ∙ ap (previous (pace_at stops place')) f)
    ∙ ap (λ z. (previous (pace_at stops place') (arrival_at_last stops place arrival) -ℤ z) +ℤ span) e))
    (l ∙ ap ticks_or_none (u ∙ ap (λ z. (z -ℤ after) +ℤ pos ends.write) f
    ∙ ap (λ z. (arrival_at_last stops place arrival -ℤ z) +ℤ pos ends.write) (n ∙ ap (next (pace_at stops 0)) e)))

-- a first arrival that isn't before a natural number of ticks
pub by_first : {P : Type 0} (moment : ℕ) (first : ℤ) → pos moment ≤ℤ first → ((later : ℕ) → first ≡ pos later → moment ≤ later → P) → P
by_first moment (pos later) after go = go later refl (omega (arith, ints, after))
by_first moment (negsuc lacking) after go = absurd (omega (arith, ints, after))

-- no walk starts before the first arrival
pub gap : (phase : Phase) → IsPhase phase → (ticks from later : ℕ) → first_arrival phase (pos from) ≡ pos later → from ≤ later
    → starts (Kept phase) (min later ticks) ≡ starts (Kept phase) (min from ticks)
gap phase is ticks from later first after =
    let low = min from ticks in
    let more = min later ticks - min from ticks in
    let whole : min later ticks ≡ min from ticks + more = omega (arith, after) in
    ap (starts (Kept phase)) whole ∙ starts_over phase (min from ticks) more (λ m above below.
    none_before_first phase is (pos from) (pos m) (omega (arith, ints, above, below)) (rw first (omega (arith, ints, below))))

-- a group that keeps a phase keeps one of a valid model
pub phase_in_range : (stops : List Stop) → AreStopsInRange stops → (place : ℕ) → place < length stops → (phase : Phase) → pace_at stops place ≡ Kept phase
    → IsPhaseInRange phase
phase_in_range stops are place within phase keeps = subst IsPaceInRange keeps (are.paces place within)
