-- The longest walks from arrivals of a group. Times are in ticks.
use Rattle.std.specs.Prelude.{ℕ, ℤ, pos, ◌-ℤ◌, max, List}
use Rattle.cl_model.specs.{Holds.greatest_by, declared.chain.{LengthKind.TheVariants.{Reaction, Age, Reduced}, RequirementKind.RequirementKind}}
use Rattle.cl_model.specs.declared.chain.RequirementKind.TheVariants as kind
use Rattle.cl_hop.specs.Bounds.{Lengths}
use Rattle.cl_phase.specs.{declared.{stop.Stop.Stop, walk.{Ends.Ends, Longest.Longest}}, TightBounds.{ticks_or_none, length_from, reduced_from, delay_from}}

-- the latest write less the earliest read
abbrev pub span_between : Ends → ℤ
span_between ends = pos ends.write -ℤ pos ends.read

-- how long the walks from an arrival of the group of a place last
abbrev pub lengths_at : List Stop → Ends → (place : ℕ) → (arrival : ℤ) → Longest
lengths_at stops ends place arrival = record {
  length = ticks_or_none (length_from stops (span_between ends) place arrival);
  reduced = ticks_or_none (reduced_from stops (span_between ends) place arrival);
  delay = ticks_or_none (delay_from stops ends.write place arrival);
}

-- those of a kind
abbrev pub length_of_kind : RequirementKind → Longest → ℕ
length_of_kind (kind.Length Reaction) lengths = lengths.length
length_of_kind (kind.Length Age) lengths = lengths.length
length_of_kind (kind.Length Reduced) lengths = lengths.reduced
length_of_kind kind.Delay lengths = lengths.delay

-- the longer ones of two
abbrev pub longer_of : Longest → Longest → Longest
longer_of one other = record {
  length = max one.length other.length;
  reduced = max one.reduced other.reduced;
  delay = max one.delay other.delay;
}

-- how long the longest from so many arrivals last
abbrev pub longest_walk : List Stop → Ends → (place : ℕ) → (from : List ℕ) → Longest
longest_walk stops ends place from = record {
  length = greatest_by (λ arrival. ticks_or_none (length_from stops (span_between ends) place (pos arrival))) from;
  reduced = greatest_by (λ arrival. ticks_or_none (reduced_from stops (span_between ends) place (pos arrival))) from;
  delay = greatest_by (λ arrival. ticks_or_none (delay_from stops ends.write place (pos arrival))) from;
}

-- the bounds by the longest walks
abbrev pub bounds_by : Longest → Lengths
bounds_by longest = record { reaction = longest.length; age = longest.length; reduced = longest.reduced; delay = longest.delay }
