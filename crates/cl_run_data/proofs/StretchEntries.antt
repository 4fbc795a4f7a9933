-- What stands in the ticks of a stretch, and where the last one ends.
use Rattle.std.proofs.Common.{◌≡◌, ℕ, zero, suc, ◌<◌, ◌≤◌, inl, inr, Option, None, List, length, get_or, ap, sym, ◌∙◌, arith}
use Rattle.std.proofs.lemmas.Bool.{cases_lt}
use Rattle.cl_run_data.specs.{declared.stretches.Stretch.Stretch, Stretches.{AreStretchesOf, LastsFrom}, Inner.StretchPlaces.IsStretchOf}
use Rattle.cl_run_data.proofs.StretchFacts.{length-entries, end_at_last, ends_after, ends_rise, entry_of_stretch}

module _ (entries : List (Option ℕ)) (ss : List Stretch) (of : AreStretchesOf entries ss) (k start end : ℕ) (lasts : LastsFrom ss k start end) where
  -- the stretches before it end by its start
  ended : (place : ℕ) → place ≡ k → (i : ℕ) (d : Stretch) → i < place → (get_or ss i d).end ≤ start
  ended zero is i d below = absurd (omega arith)
  ended (suc before) is i d below = elim (cases_lt i before) [
    | inl earlier ↦ omega (arith, lasts.next before d is, ends_rise ss 0 i before d of.longest earlier (omega (arith, lasts.within)))
    | inr last ↦ let same : i ≡ before = omega arith in omega (arith, lasts.next before d is, ap (λ n. (get_or ss n d).end) same)
  ]

  stretch_of_tick : (tick : ℕ) → start ≤ tick → tick < end → IsStretchOf ss tick k
  stretch_of_tick tick after before = record {
    within = lasts.within;
    ends_after = λ d. omega (arith, lasts.ends d);
    first = λ i d below. omega (arith, ended k (omega arith) i d below);
  }

  pub entry_of_tick : (tick : ℕ) (d : Stretch) → start ≤ tick → tick < end → get_or entries tick None ≡ (get_or ss k d).who
  entry_of_tick tick d after before = ap (λ (es : List (Option ℕ)). get_or es tick None) (sym of.entries_are)
      ∙ entry_of_stretch ss tick k d of.longest (stretch_of_tick tick after before)

  longer_than : (place : ℕ) → place ≡ k → (d : Stretch) → start < end
  longer_than zero is d = omega (arith, lasts.first (sym is), lasts.ends d, ends_after ss 0 k d of.longest lasts.within)
  longer_than (suc before) is d =
      omega (arith, lasts.next before d is, lasts.ends d, ends_rise ss 0 before k d of.longest (omega arith) lasts.within)

  no_stretch : Stretch
  no_stretch = record { who = None; end = 0 }

  pub lasts_some : start < end
  lasts_some = longer_than k (omega arith) no_stretch

  pub last_ends : suc k ≡ length ss → end ≡ length entries
  last_ends last = omega (
    arith,
    lasts.ends no_stretch,
    end_at_last ss 0 k no_stretch last,
    length-entries ss 0 of.longest,
    ap length of.entries_are,
  )
