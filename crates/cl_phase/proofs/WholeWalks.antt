-- The jobs of whole walks, and by how much they move. Times are in ticks.
use Rattle.std.proofs.Common.{◌≡◌, ℕ, zero, suc, ◌+◌, ◌-◌, ◌*◌, ◌^◌, ◌<◌, ◌≤◌, min, max, ℤ, pos, ◌+ℤ◌, ◌-ℤ◌, ◌≤ℤ◌, ◌<ℤ◌}
use Rattle.std.proofs.Common.{Bool, true, false, cond, if◌then◌else◌, List, [], ◌∷◌, ◌++◌, length, map, ap, sym, ◌∙◌, subst, le-leb, arith}
use Rattle.std.specs.Prelude.{Result, Ok, Err, IfOk, int_lt}
use Rattle.std.specs.Int.{div_ceil, int_max}
use Rattle.std.specs.List.{range_with_len}
use Rattle.std.proofs.lemmas.Bool.{lt-leb}
use Rattle.std.proofs.lemmas.Grind.{div_ceil_times}
use Rattle.std.proofs.lemmas.Int.{ints}
use Rattle.std.proofs.lemmas.List.FromFn.{map-range_with_len_more}
use Rattle.cl_model.specs.declared.chain.RequirementKind.{RequirementKind}
use Rattle.cl_stim.specs.Integers.{IsIntegerWithin}
use Rattle.cl_phase.specs.{declared.{stop.Stop.Stop, whole.WholeWalk.WholeWalk}, Pace.{previous, next}, Walks.{pace_at, onward, back}, TightBounds.{slowest, hyperperiod_in}, Whole.{is_kept, missed_at, taken_at, counted_at, LATEST_STEADY, IsLeastTurns, IsMovedWalk}}
use Rattle.cl_phase.specs.Inner.Ranges.{FARTHEST_JOB, FARTHEST_MOVE, LONGEST_HYPERPERIOD, AreStopsInRange}
use Rattle.cl_phase.proofs.{SlowestFacts.hyperperiod_is_some, WalkRanges.goes_on}

module _ (stops : List Stop) (place : ℕ) (start : ℤ) (group : ℕ) where
  abbrev on_the_way_back : ℤ
  on_the_way_back = back stops place (previous (pace_at stops place) start) (place - group)

  abbrev on_the_way_on : ℤ
  on_the_way_on = onward stops place start (group - place)

  -- the job that just misses is on the walk back, and behind the group where it starts the one before the one that takes
  pub missed_back : group ≤ place → missed_at stops place start group ≡ on_the_way_back
  unfolding missed_at
  missed_back within = ap (λ (b : Bool). if b then on_the_way_back else previous (pace_at stops group) on_the_way_on) (le-leb _ _ within)

  pub missed_behind : place < group → missed_at stops place start group ≡ previous (pace_at stops group) on_the_way_on
  unfolding missed_at
  missed_behind behind = ap (λ (b : Bool). if b then on_the_way_back else previous (pace_at stops group) on_the_way_on) (lt-leb _ _ behind)

  -- the job that takes is on the walk onward, and before the group where it starts the one after the one that misses
  pub taken_onward : place ≤ group → taken_at stops place start group ≡ on_the_way_on
  unfolding taken_at
  taken_onward within = ap (λ (b : Bool). if b then on_the_way_on else next (pace_at stops group) on_the_way_back) (le-leb _ _ within)

  pub taken_before : group < place → taken_at stops place start group ≡ next (pace_at stops group) on_the_way_back
  unfolding taken_at
  taken_before before = ap (λ (b : Bool). if b then on_the_way_on else next (pace_at stops group) on_the_way_back) (lt-leb _ _ before)

-- ---- one group after the other

-- a list of what each number gives, with one more
pub one_more : {A : Type 0} (f : ℕ → A) (i : ℕ) {new old : List A} {x : A} → new ≡ old ++ x ∷ [] → old ≡ map f (range_with_len 0 i) → x ≡ f i
    → new ≡ map f (range_with_len 0 (i + 1))
one_more f i {new} {old} {x} pushed was is =
    let last : 0 + i ≡ i = omega arith in
    pushed ∙ ap (λ list. list ++ x ∷ []) was ∙ ap (λ y. map f (range_with_len 0 i) ++ y ∷ []) is ∙ sym (map-range_with_len_more f 0 i i last)

-- the greater of two moments lies as near as both
pub greater_within : (most : ℕ) {x y greater : ℤ} → greater ≡ int_max x y → IsIntegerWithin most x → IsIntegerWithin most y → IsIntegerWithin most greater
greater_within most {x} {y} {greater} is one other =
    (elim (int_lt y x) as (λ b. greater ≡ cond b x y → IsIntegerWithin most greater) [
      | true ↦ λ first. subst (IsIntegerWithin most) (sym first) one
      | false ↦ λ second. subst (IsIntegerWithin most) (sym second) other
    ]) is

-- what three clauses say of a result, put together
pub all_ok : {X Y : Type 0} (result : Result X Y) (P Q R S : X → Type 0) → ((x : X) → P x → Q x → R x → S x)
    → IfOk result P → IfOk result Q → IfOk result R → IfOk result S
all_ok (Ok x) P Q R S go p q r = go x p q r
all_ok (Err y) P Q R S go p q r = p

-- ---- by how much they move

-- a whole number of turns, rounded up, as 64 bits hold it
reaches : (moment goal ticks : ℤ) (turn missing whole product : ℕ) → pos turn ≤ℤ pos (2 ^ 63 - 1)
    → ((goal -ℤ moment) +ℤ pos turn) ≤ℤ pos (2 ^ 63 - 1) → pos missing ≡ (goal -ℤ moment) → missing ≤ whole → whole < missing + turn
    → product ≡ min whole (2 ^ 64 - 1) → (product ≤ 2 ^ 63 - 1 → ticks ≡ pos product)
    → (ticks ≡ pos whole) × (goal ≤ℤ (moment +ℤ ticks)) × ((moment +ℤ ticks) <ℤ (goal +ℤ pos turn))
reaches moment goal ticks turn missing whole product short fits away above below held told =
    let same : product ≡ whole = omega (arith, ints, short, fits, away, below, held) in
    let few : product ≤ 2 ^ 63 - 1 = omega (arith, ints, short, fits, away, below, same) in
    let are : ticks ≡ pos whole = told few ∙ ap pos same in
    (are, omega (arith, ints, are, away, above), omega (arith, ints, are, away, below))

-- the turns by which a moment reaches a later one
pub turns_reach : (moment goal ticks : ℤ) (turn missing some quotient product : ℕ) → 1 ≤ turn → pos turn ≤ℤ pos (2 ^ 63 - 1)
    → ((goal -ℤ moment) +ℤ pos turn) ≤ℤ pos (2 ^ 63 - 1) → pos missing ≡ (goal -ℤ moment) → some ≡ max turn 1 → quotient ≡ div_ceil missing some
    → product ≡ min (quotient * turn) (2 ^ 64 - 1) → (product ≤ 2 ^ 63 - 1 → ticks ≡ pos product) → IsLeastTurns moment goal turn ticks
turns_reach moment goal ticks turn missing some quotient product positive short fits away some_is quotient_is held told =
    let same : some ≡ turn = omega (arith, some_is, positive) in
    let is : quotient ≡ div_ceil missing turn = quotient_is ∙ ap (div_ceil missing) same in
    let times = div_ceil_times missing turn positive in
    let all = reaches moment goal ticks turn missing (quotient * turn) product short fits away
    (subst (λ q. missing ≤ q * turn) (sym is) times.0) (subst (λ q. q * turn < missing + turn) (sym is) times.1) held told in
    record {
      turns = quotient;
      are = all.0;
      reach = all.1;
      least = λ any. all.2;
    }

-- none where it is there
pub turns_none : (moment goal ticks : ℤ) (turn : ℕ) → goal ≤ℤ moment → ticks ≡ pos 0 → IsLeastTurns moment goal turn ticks
turns_none moment goal ticks turn there is =
    let none : 0 * turn ≡ 0 = omega arith in
    record {
      turns = 0;
      are = is ∙ ap pos (sym none);
      reach = omega (arith, ints, there, is);
      least = λ any. absurd (omega (arith, any));
    }

few_by : (moment goal ticks : ℤ) (turn whole : ℕ) → IsIntegerWithin FARTHEST_JOB moment → IsIntegerWithin LATEST_STEADY goal
    → turn ≤ LONGEST_HYPERPERIOD → ticks ≡ pos whole → (moment +ℤ ticks) <ℤ (goal +ℤ pos turn) → IsIntegerWithin FARTHEST_MOVE ticks
few_by moment goal ticks turn whole near late short is least =
    (omega (arith, ints, is), omega (arith, ints, near, late, short, least))

-- walks move little enough
pub moves_few : {moment goal ticks : ℤ} {turn : ℕ} → IsLeastTurns moment goal turn ticks → IsIntegerWithin FARTHEST_JOB moment
    → IsIntegerWithin LATEST_STEADY goal → turn ≤ LONGEST_HYPERPERIOD → IsIntegerWithin FARTHEST_MOVE ticks
moves_few {moment} {goal} {ticks} {turn} moved near late short = by moved.turns moved.are moved.least
  where
    by : (turns : ℕ) → ticks ≡ pos (turns * turn) → (1 ≤ turns → (moment +ℤ ticks) <ℤ (goal +ℤ pos turn)) → IsIntegerWithin FARTHEST_MOVE ticks
    by zero are least =
        let none : zero * turn ≡ 0 = omega arith in
        let is : ticks ≡ pos 0 = are ∙ ap pos none in
        (omega (arith, ints, is), omega (arith, ints, is))
    by (suc turns) are least = few_by moment goal ticks turn (suc turns * turn) near late short are (least (omega arith))

-- the hyperperiod of the groups of a valid model is some
pub some_hyperperiod : (stops : List Stop) → AreStopsInRange stops → 1 ≤ hyperperiod_in stops
some_hyperperiod stops are = hyperperiod_is_some stops (λ place within. goes_on (pace_at stops place) (are.paces place within))

-- ---- the whole walk

-- the walk as code lists it, from what code knows of the chain
pub moved_walk : (stops all : List Stop) (kind : RequirementKind) (place : ℕ) (start first ticks : ℤ) (turns : ℕ) (walk : WholeWalk)
    → stops ≡ all → place ≡ slowest all → start ≡ first → ticks ≡ pos (turns * hyperperiod_in all)
    → walk.kept ≡ map (λ group. is_kept (pace_at stops group)) (range_with_len 0 (length stops))
    → walk.missed ≡ map (λ group. missed_at stops place start group +ℤ ticks) (range_with_len 0 (length stops))
    → walk.taken ≡ map (λ group. counted_at kind stops place start group +ℤ ticks) (range_with_len 0 (length stops))
    → IsMovedWalk all kind first walk
moved_walk stops all kind place start first ticks turns walk stops_are place_is start_is ticks_are kept_are missed_are taken_are =
    let misses : List Stop → ℕ → ℤ → ℤ → List ℤ = λ s p a t. map (λ group. missed_at s p a group +ℤ t) (range_with_len 0 (length s)) in
    let takes : List Stop → ℕ → ℤ → ℤ → List ℤ = λ s p a t. map (λ group. counted_at kind s p a group +ℤ t) (range_with_len 0 (length s)) in
    record {
      turns = turns;
      kept = kept_are ∙ ap (λ s. map (λ group. is_kept (pace_at s group)) (range_with_len 0 (length s))) stops_are;
      missed = missed_are ∙ ap (λ s. misses s place start ticks) stops_are ∙ ap (λ p. misses all p start ticks) place_is
          ∙ ap (λ a. misses all (slowest all) a ticks) start_is ∙ ap (misses all (slowest all) first) ticks_are;
      taken = taken_are ∙ ap (λ s. takes s place start ticks) stops_are ∙ ap (λ p. takes all p start ticks) place_is
          ∙ ap (λ a. takes all (slowest all) a ticks) start_is ∙ ap (takes all (slowest all) first) ticks_are;
    }
