-- The stretches that are computed from entries are their longest.
use Rattle.std.proofs.Common.{◌≡◌, ℕ, suc, ◌-◌, ◌<◌, Bool, true, false, Option, List, [], ◌∷◌, ◌++◌, cond, eqb, replicate, refl, sym, ap, ◌∙◌, arith}
use Rattle.std.specs.Option.{option_eq}
use Rattle.cl_run_data.specs.{declared.stretches.Stretch.Stretch, Stretches.{entries_from, AreLongest, AreStretchesOf}}
use Rattle.cl_run_data.proofs.{StretchFacts.{who_same, who_other}, OneStretchList.stretches_once}
use Rattle.cl_trace.specs.Stretches.{before_stretches, stretches_from, stretches_of}

-- a first stretch that begins a tick earlier
earlier : (tick : ℕ) (next : Stretch) (stretches : List Stretch) → AreLongest (suc tick) (next ∷ stretches) → AreLongest tick (next ∷ stretches)
earlier tick next [] longest = omega (arith, longest)
earlier tick next (more ∷ stretches) longest = (omega (arith, longest.0), longest.1, longest.2)

begins : (tick : ℕ) (next : Stretch) (stretches : List Stretch) → AreLongest (suc tick) (next ∷ stretches) → suc tick < next.end
begins tick next [] longest = longest
begins tick next (more ∷ stretches) longest = longest.0

one_more : (n m : ℕ) (who : Option ℕ) → n ≡ suc m → replicate n who ≡ who ∷ replicate m who
one_more n m who is = ap (λ k. replicate k who) is

-- one entry before longest stretches
longest_before : (who : Option ℕ) (tick : ℕ) (stretches : List Stretch) → AreLongest (suc tick) stretches → AreLongest tick (before_stretches who (suc tick) stretches)
longest_before who tick [] longest = omega arith
longest_before who tick (next ∷ stretches) longest = by_test (option_eq eqb who next.who) refl
  where
    by_test : (same : Bool) → option_eq eqb who next.who ≡ same
        → AreLongest tick (cond same (next ∷ stretches) (record { who = who; end = suc tick } ∷ next ∷ stretches))
    by_test true is = earlier tick next stretches longest
    by_test false is = (omega arith, who_other who next.who is, longest)

entries_before : (who : Option ℕ) (tick : ℕ) (stretches : List Stretch) → AreLongest (suc tick) stretches
    → entries_from tick (before_stretches who (suc tick) stretches) ≡ who ∷ entries_from (suc tick) stretches
entries_before who tick [] longest = ap (λ es. es ++ []) (one_more (suc tick - tick) 0 who (omega arith))
entries_before who tick (next ∷ stretches) longest = by_test (option_eq eqb who next.who) refl
  where
    by_test : (same : Bool) → option_eq eqb who next.who ≡ same
        → entries_from tick (cond same (next ∷ stretches) (record { who = who; end = suc tick } ∷ next ∷ stretches))
        ≡ who ∷ entries_from (suc tick) (next ∷ stretches)
    by_test true is =
        ap (λ es. es ++ entries_from next.end stretches) (one_more (next.end - tick) (next.end - suc tick) next.who (omega (arith, begins tick next stretches longest)))
        ∙ ap (λ w. w ∷ entries_from (suc tick) (next ∷ stretches)) (sym (who_same who next.who is))
    by_test false is = ap (λ es. es ++ entries_from (suc tick) (next ∷ stretches)) (one_more (suc tick - tick) 0 who (omega arith))

longest_from : (tick : ℕ) (entries : List (Option ℕ)) → AreLongest tick (stretches_from tick entries)
longest_from tick [] = tt
longest_from tick (who ∷ entries) = longest_before who tick (stretches_from (suc tick) entries) (longest_from (suc tick) entries)

entries_are_from : (tick : ℕ) (entries : List (Option ℕ)) → entries_from tick (stretches_from tick entries) ≡ entries
entries_are_from tick [] = refl
entries_are_from tick (who ∷ entries) =
    entries_before who tick (stretches_from (suc tick) entries) (longest_from (suc tick) entries)
    ∙ ap (λ es. who ∷ es) (entries_are_from (suc tick) entries)

pub own_stretches : (entries : List (Option ℕ)) → AreStretchesOf entries (stretches_of entries)
unfolding stretches_of
own_stretches entries = record { longest = longest_from 0 entries; entries_are = entries_are_from 0 entries }

pub only_stretches : (entries : List (Option ℕ)) (stretches : List Stretch) → AreStretchesOf entries stretches → stretches ≡ stretches_of entries
only_stretches entries stretches are = stretches_once entries stretches (stretches_of entries) are (own_stretches entries)
