-- Each group that keeps its phase gives the same bounds: walks from an arrival of one are answered by walks from an
-- arrival of the other that last as long or longer, so the longest are the same.
use Rattle.std.proofs.Common.{◌≡◌, ℕ, suc, ◌+◌, ◌-◌, ◌<◌, ◌≤◌, List, length, refl, sym, ap, subst, ◌∙◌, arith, inl, inr}
use Rattle.std.specs.Prelude.{ℤ, pos, ◌≤ℤ◌}
use Rattle.std.proofs.lemmas.Bool.{cases_lt}
use Rattle.std.proofs.lemmas.Int.{ints}
use Rattle.cl_hop.specs.Bounds.{Lengths}
use Rattle.cl_phase.specs.{declared.stop.Stop.Stop, Walks.pace_at, TightBounds.{length_from, reduced_from, delay_from, bounds_from}}
use Rattle.cl_phase.proofs.{Stepped.IsStepped, DelayPhases.{ahead_lasts, answer_lasts}, PhaseAnswers.{LeadsTo, ahead, ahead_arrives, ahead_longer, ahead_longer_reduced, answer, answer_arrives, answer_longer, answer_longer_reduced}}

-- an arrival has this value
pub record HasValue (Arrives : ℤ → Type 0) (value : ℤ → ℤ) (number : ℕ) : Type 0 where
  pub arrival : ℤ
  pub arrives : Arrives arrival
  pub is : value arrival ≡ pos number

-- a number is the greatest of the values of all arrivals, but for those below 0
pub record IsGreatestOver (Arrives : ℤ → Type 0) (value : ℤ → ℤ) (greatest : ℕ) : Type 0 where
  pub above : (arrival : ℤ) → Arrives arrival → value arrival ≤ℤ pos greatest
  pub attained : 1 ≤ greatest → HasValue Arrives value greatest

-- walks from the group of a place start at arrivals that are fixed, and the bounds by them are the longest of all
pub record AreOverAll (stops : List Stop) (span : ℤ) (write : ℕ) (place : ℕ) (Arrives : ℤ → Type 0) : Type 0 where
  pub within : place < length stops
  pub leads : LeadsTo Arrives (pace_at stops place)
  pub lengths : IsGreatestOver Arrives (length_from stops span place) (bounds_from stops span write place).reaction
  pub reduced : IsGreatestOver Arrives (reduced_from stops span place) (bounds_from stops span write place).reduced
  pub delays : IsGreatestOver Arrives (delay_from stops write place) (bounds_from stops span write place).delay

-- an arrival has a value that is no less
record HasNoLess (Arrives : ℤ → Type 0) (value : ℤ → ℤ) (least : ℤ) : Type 0 where
  arrival : ℤ
  arrives : Arrives arrival
  no_less : least ≤ℤ value arrival

-- where the values of some arrivals are answered by others that are no less, so is the greatest
greatest_no_less : (Starts Ends : ℤ → Type 0) (value other : ℤ → ℤ) (greatest most : ℕ) → IsGreatestOver Starts value greatest → IsGreatestOver Ends other most
    → ((arrival : ℤ) → Starts arrival → HasNoLess Ends other (value arrival)) → greatest ≤ most
greatest_no_less Starts Ends value other greatest most is is_other answered = elim (cases_lt 0 greatest) [
  | inl some ↦
      let has = is.attained some in
      let there = answered has.arrival has.arrives in
      omega (arith, ints, has.is, there.no_less, is_other.above there.arrival there.arrives)
  | inr none ↦ omega (arith, none)
]

-- bounds by walks have the reaction as their age, so two with the same of the other three are the same
bounds_with : (reaction reduced delay : ℕ) → Lengths
bounds_with reaction reduced delay = record { reaction = reaction; age = reaction; reduced = reduced; delay = delay }

with_same : (reaction reduced delay reaction' reduced' delay' : ℕ) → reaction ≡ reaction' → reduced ≡ reduced' → delay ≡ delay'
    → bounds_with reaction reduced delay ≡ bounds_with reaction' reduced' delay'
with_same reaction reduced delay reaction' reduced' delay' e f g = cc

whole_bounds : (stops : List Stop) (span : ℤ) (write place : ℕ) → bounds_from stops span write place
    ≡ bounds_with (bounds_from stops span write place).reaction (bounds_from stops span write place).reduced (bounds_from stops span write place).delay
unfolding bounds_from bounds_with
whole_bounds stops span write place = refl

same_bounds : (stops : List Stop) (span : ℤ) (write one other : ℕ)
    → (bounds_from stops span write one).reaction ≡ (bounds_from stops span write other).reaction
    → (bounds_from stops span write one).reduced ≡ (bounds_from stops span write other).reduced
    → (bounds_from stops span write one).delay ≡ (bounds_from stops span write other).delay
    → bounds_from stops span write one ≡ bounds_from stops span write other
same_bounds stops span write one other reaction reduced delay =
    whole_bounds stops span write one ∙ with_same _ _ _ _ _ _ reaction reduced delay ∙ sym (whole_bounds stops span write other)

module _ (stops : List Stop) (stepped : (place : ℕ) → place < length stops → IsStepped (pace_at stops place)) (span : ℤ) (write : ℕ) where
  -- a group and a later one
  later_phase : (from hops : ℕ) (Starts Ends : ℤ → Type 0) → AreOverAll stops span write from Starts → AreOverAll stops span write (from + suc hops) Ends
      → bounds_from stops span write from ≡ bounds_from stops span write (from + suc hops)
  later_phase from hops Starts Ends here there =
      let to : ℕ = from + suc hops in
      let within = there.within in
      let starts = here.leads in
      let ends = there.leads in
      let to_end = greatest_no_less Starts Ends (length_from stops span from) (length_from stops span to) _ _ here.lengths there.lengths
      (λ arrival arrives. record {
        arrival = ahead stops stepped from hops Starts Ends within starts ends arrival;
        arrives = ahead_arrives stops stepped from hops Starts Ends within starts ends arrival;
        no_less = ahead_longer stops stepped from hops Starts Ends within starts ends span arrival arrives;
      }) in
      let to_start = greatest_no_less Ends Starts (length_from stops span to) (length_from stops span from) _ _ there.lengths here.lengths
      (λ arrival arrives. record {
        arrival = answer stops stepped from hops Starts Ends within starts ends arrival;
        arrives = answer_arrives stops stepped from hops Starts Ends within starts ends arrival;
        no_less = answer_longer stops stepped from hops Starts Ends within starts ends span arrival;
      }) in
      let to_end_reduced = greatest_no_less Starts Ends (reduced_from stops span from) (reduced_from stops span to) _ _ here.reduced there.reduced
      (λ arrival arrives. record {
        arrival = ahead stops stepped from hops Starts Ends within starts ends arrival;
        arrives = ahead_arrives stops stepped from hops Starts Ends within starts ends arrival;
        no_less = ahead_longer_reduced stops stepped from hops Starts Ends within starts ends span arrival arrives;
      }) in
      let to_start_reduced = greatest_no_less Ends Starts (reduced_from stops span to) (reduced_from stops span from) _ _ there.reduced here.reduced
      (λ arrival arrives. record {
        arrival = answer stops stepped from hops Starts Ends within starts ends arrival;
        arrives = answer_arrives stops stepped from hops Starts Ends within starts ends arrival;
        no_less = answer_longer_reduced stops stepped from hops Starts Ends within starts ends span arrival;
      }) in
      let to_end_delay = greatest_no_less Starts Ends (delay_from stops write from) (delay_from stops write to) _ _ here.delays there.delays
      (λ arrival arrives. record {
        arrival = ahead stops stepped from hops Starts Ends within starts ends arrival;
        arrives = ahead_arrives stops stepped from hops Starts Ends within starts ends arrival;
        no_less = ahead_lasts stops stepped write from hops Starts Ends within starts ends arrival arrives;
      }) in
      let to_start_delay = greatest_no_less Ends Starts (delay_from stops write to) (delay_from stops write from) _ _ there.delays here.delays
      (λ arrival arrives. record {
        arrival = answer stops stepped from hops Starts Ends within starts ends arrival;
        arrives = answer_arrives stops stepped from hops Starts Ends within starts ends arrival;
        no_less = answer_lasts stops stepped write from hops Starts Ends within starts ends arrival;
      }) in
      same_bounds stops span write from to (omega (arith, to_end, to_start)) (omega (arith, to_end_reduced, to_start_reduced))
      (omega (arith, to_end_delay, to_start_delay))

  before_phase : (one other : ℕ) (Ones Others : ℤ → Type 0) → one < other → AreOverAll stops span write one Ones → AreOverAll stops span write other Others
      → bounds_from stops span write one ≡ bounds_from stops span write other
  before_phase one other Ones Others less here there =
      let hops : ℕ = other - suc one in
      let apart : other ≡ one + suc hops = omega (arith, less) in
      let same = later_phase one hops Ones Others here (subst (λ n. AreOverAll stops span write n Others) apart there) in
      same ∙ ap (bounds_from stops span write) (sym apart)

  -- any two groups that keep their phase give the same bounds
  pub each_phase : (one other : ℕ) (Ones Others : ℤ → Type 0) → AreOverAll stops span write one Ones → AreOverAll stops span write other Others
      → bounds_from stops span write one ≡ bounds_from stops span write other
  each_phase one other Ones Others here there = elim (cases_lt one other) [
    | inl less ↦ before_phase one other Ones Others less here there
    | inr le ↦ elim (cases_lt other one) [
      | inl greater ↦ sym (before_phase other one Others Ones greater there here)
      | inr same ↦ ap (bounds_from stops span write) (omega (arith, le, same))
    ]
  ]
