-- The walk that is shown lasts as long as the tight bound on the reaction.
use Rattle.std.proofs.Common.{◌≡◌, ℕ, ◌+◌, ◌-◌, ◌<◌, ◌≤◌, true, false, cond, max, pos, negsuc, ℤ, ◌+ℤ◌, ◌-ℤ◌, List, [], ◌∷◌, length, map, refl, sym, ap, ◌∙◌, slice_index_or, arith}
use Rattle.std.specs.Prelude.{◌==◌, find, fold, Option, Some, None, unwrap_or}
use Rattle.std.specs.List.{range_with_len}
use Rattle.std.proofs.lemmas.Bool.{eqb-true, eq-eqb, false≢true}
use Rattle.std.proofs.lemmas.List.FromFn.{length-map-range_with_len, get_or-map-range_with_len}
use Rattle.cl_model.specs.{declared.{model.SystemModel.SystemModel, chain.{ChainDef.ChainDef, LengthKind.TheVariants.Reaction, RequirementKind.TheVariants.Length}, group.Group.Group}, Groups.{groups_of, groups_at}, ByNumber.chain_at, Holds.greatest_by, Validity.IsValid}
use Rattle.cl_runs.specs.{TaskTiming.System, SystemOf.system_of}
use Rattle.cl_hop.specs.Bounds.{Lengths}
use Rattle.cl_phase.specs.{declared.stop.Stop.Stop, Pace.previous, Walks.{pace_at, last_place, onward, back}, TightBounds.{stops_of, span_of, last_write, slowest, hyperperiod_in, starts, ticks_or_none, length_from, bounds_from, tight_bounds}, Walked.{start_among, walk_start, missed}}
use Rattle.cl_phase.specs.Walked.{taken, walked_of}
use Rattle.cl_analyse.specs.{declared.findings.ChainAnswer.TheVariants.Bounds, ChainAnswers.chain_answer}
use Rattle.cl_tight.specs.{TightTimings.tight_timing, TightFindings.tight_chain_answer_of}
use Rattle.cl_tight.proofs.TightChains.{tight_answer, tight_bounds_some}
use Rattle.cl_explain.specs.Promises.{LastsAsLong, ShowsItsWalk}

-- ---- the greatest is found

abbrev greatest_from : (ℕ → ℕ) → ℕ → List ℕ → ℕ
greatest_from f a xs = fold (λ greatest x. max greatest (f x)) a xs

rises : (f : ℕ → ℕ) (a : ℕ) (xs : List ℕ) → a ≤ greatest_from f a xs
rises f a [] = omega arith
rises f a (x ∷ xs) = omega (arith, rises f (max a (f x)) xs)

attained : (f : ℕ → ℕ) (r a : ℕ) (xs : List ℕ) → a < r → greatest_from f a xs ≡ r → f (unwrap_or (find (λ x. f x == r) xs) 0) ≡ r
attained f r a [] below is = absurd (omega (arith, below, is))
attained f r a (x ∷ xs) below is =
    let up : max a (f x) ≤ r = omega (arith, rises f (max a (f x)) xs, is) in
    elim (f x == r) as (λ b. (f x == r) ≡ b → f (unwrap_or (cond b (Some x) (find (λ y. f y == r) xs)) 0) ≡ r) [
      | true ↦ λ here. eqb-true _ _ here
      | false ↦ λ none.
          let differ : f x ≡ r → ⊥ = λ same. false≢true (sym none ∙ eq-eqb _ _ same) in
          attained f r (max a (f x)) xs (lesser a (f x) r below up differ) is
    ] refl
  where
    lesser : (a n r : ℕ) → a < r → max a n ≤ r → (n ≡ r → ⊥) → max a n < r
    lesser a n r below up differ = omega (arith, below, up, differ)

long_as : (z : ℤ) (r : ℕ) → 1 ≤ r → ticks_or_none z ≡ r → z ≡ pos r
long_as (pos n) r some is = ap pos is
long_as (negsuc n) r some is = absurd (omega (arith, some, is))

-- ---- the walk

module _ (stops : List Stop) (span : ℤ) (write place reaction : ℕ) (some : 1 ≤ reaction)
    (is : greatest_by (λ arrival. ticks_or_none (length_from stops span place (pos arrival))) (starts (pace_at stops place) (hyperperiod_in stops)) ≡ reaction) where
  abbrev start : ℤ
  start = pos (walk_start (Length Reaction) stops span write place reaction)

  start_lasts : length_from stops span place start ≡ pos reaction
  unfolding start_among
  start_lasts = long_as (length_from stops span place start) reaction some
      (attained (λ arrival. ticks_or_none (length_from stops span place (pos arrival))) reaction 0 (starts (pace_at stops place) (hyperperiod_in stops)) some is)

  abbrev missing : ℕ → ℤ
  missing group = back stops place (previous (pace_at stops place) start) (place - group)

  count_missed : length (missed stops place start) ≡ place + 1
  unfolding missed
  count_missed = length-map-range_with_len missing 0 (place + 1)

  count_taken : length (taken stops place start) ≡ last_place stops - place + 1
  unfolding taken
  count_taken = length-map-range_with_len (onward stops place start) 0 (last_place stops - place + 1)

  first_missed : slice_index_or (missed stops place start) 0 (pos 0) ≡ back stops place (previous (pace_at stops place) start) place
  unfolding missed
  first_missed =
      let whole : place - 0 ≡ place = omega arith in
      get_or-map-range_with_len missing 0 (place + 1) 0 0 (pos 0) (omega arith) (omega arith) ∙ ap (back stops place (previous (pace_at stops place) start)) whole

  last_taken : slice_index_or (taken stops place start) (length (taken stops place start) - 1) (pos 0) ≡ onward stops place start (last_place stops - place)
  unfolding taken
  last_taken =
      let hops = last_place stops - place in
      let last : length (map (onward stops place start) (range_with_len 0 (hops + 1))) - 1 ≡ hops = omega (arith, length-map-range_with_len (onward stops place start) 0 (hops + 1)) in
      ap (λ n. slice_index_or (map (onward stops place start) (range_with_len 0 (hops + 1))) n (pos 0)) last
      ∙ get_or-map-range_with_len (onward stops place start) 0 (hops + 1) hops hops (pos 0) (omega arith) (omega arith)

  pub walk_lasts : LastsAsLong (missed stops place start) (taken stops place start) span reaction
  walk_lasts = record {
    misses = omega (arith, count_missed);
    takes = omega (arith, count_taken);
    lasts = sym start_lasts
        ∙ sym (ap (λ z. (z -ℤ back stops place (previous (pace_at stops place) start) place) +ℤ span) last_taken)
        ∙ sym (ap (λ z. (slice_index_or (taken stops place start) (length (taken stops place start) - 1) (pos 0) -ℤ z) +ℤ span) first_missed);
  }

-- ---- of a chain

bounds_in : (late : Option ℕ) (own bounds : Lengths) → chain_answer late own ≡ Bounds bounds → own ≡ bounds
bounds_in None own bounds is = cc
bounds_in (Some task) own bounds is = absurd (cc)

reaction_is : (model : SystemModel) (chain : ChainDef) (bounds : Lengths) → tight_chain_answer_of model chain ≡ Bounds bounds
    → (tight_bounds (system_of model) (tight_timing (system_of model)) (groups_of model chain)).reaction ≡ bounds.reaction
unfolding tight_chain_answer_of
reaction_is model chain bounds is = ap (λ (b : Lengths). b.reaction) (bounds_in _ _ bounds is)

shown : (system : System) (groups : List Group) (reaction : ℕ) → (tight_bounds system (tight_timing system) groups).reaction ≡ reaction → 1 ≤ reaction
    → ShowsItsWalk system groups reaction
unfolding tight_bounds bounds_from walked_of
shown system groups reaction is some =
    let stops = stops_of system (tight_timing system) groups in
    walk_lasts stops (span_of (tight_timing system) groups) (last_write (tight_timing system) groups) (slowest stops) reaction some is

pub shows_walk : (model : SystemModel) → IsValid model → (chain : ℕ) (bounds : Lengths) → chain < length model.chains
    → tight_chain_answer_of model (chain_at model chain) ≡ Bounds bounds
    → ShowsItsWalk (system_of model) (groups_at model chain) bounds.reaction
shows_walk model valid chain bounds within is =
    shown (system_of model) (groups_at model chain) bounds.reaction (reaction_is model (chain_at model chain) bounds is)
    (tight_bounds_some model valid chain within bounds (tight_answer model valid chain within ∙ is)).reaction
