-- The executed ticks of a task: a number that climbs by one in each tick in which the task runs.
use Rattle.std.proofs.Common.{◌≡◌, ℕ, zero, suc, ◌+◌, ◌-◌, ◌*◌, ◌<◌, ◌≤◌, ◌⊎◌, inl, inr, Option, Some, None, Bool, true, false, cond, List, ◌++◌, replicate, length, get_or, take, refl, sym, ap, ◌∙◌, arith, eq-eqb}
use Rattle.std.proofs.Math.Numerals.{add-one}
use Rattle.std.specs.Prelude.{count_by}
use Rattle.std.proofs.lemmas.Bool.{cases_lt, cases_eq, ne_eqb}
use Rattle.std.proofs.lemmas.List.{take_all}
use Rattle.std.proofs.lemmas.List.Folds.{sum_by-replicate}
use Rattle.std.proofs.lemmas.List.Sums.{count_by_more_yes, count_by_more_no, sum_by-append}
use Rattle.cl_runs.specs.{TaskTiming.{System, timing_at}, Run.{Run, core_entries, entry_at, is_task, executed}}
use Rattle.cl_runs.proofs.Climbing.{Climbs}

-- an entry is task i, or it isn't
pub cases_entry : (i : ℕ) (e : Option ℕ) → (e ≡ Some i) ⊎ (e ≡ Some i → ⊥)
cases_entry i None = inr (λ same. cc)
cases_entry i (Some j) = elim (cases_eq j i) [ inl same ↦ inl (ap Some same) | inr other ↦ inr (λ same. other cc) ]

is_other : (i : ℕ) (e : Option ℕ) → (e ≡ Some i → ⊥) → is_task i e ≡ false
is_other i None other = refl
is_other i (Some j) other = ne_eqb j i (λ same. other (ap Some same))

is_same : (i : ℕ) (e : Option ℕ) → e ≡ Some i → is_task i e ≡ true
is_same i e same = ap (is_task i) same ∙ eq-eqb i i refl

-- the number of entries below t that are task i
abbrev count_below : ℕ → List (Option ℕ) → ℕ → ℕ
count_below i entries t = count_by (is_task i) (take t entries)

count_more : (i : ℕ) (entries : List (Option ℕ)) (t : ℕ) → t < length entries → get_or entries t None ≡ Some i
    → count_below i entries (suc t) ≡ suc (count_below i entries t)
count_more i entries t h runs = simp add-one at (count_by_more_yes (is_task i) entries t None h (is_same i _ runs))

count_same : (i : ℕ) (entries : List (Option ℕ)) (t : ℕ) → t < length entries → (get_or entries t None ≡ Some i → ⊥)
    → count_below i entries (suc t) ≡ count_below i entries t
count_same i entries t h rests = simp add-one at (count_by_more_no (is_task i) entries t None h (is_other i _ rests))

-- past the end nothing is executed
count_past : (i : ℕ) (entries : List (Option ℕ)) (t : ℕ) → length entries ≤ t
    → count_below i entries t ≡ count_by (is_task i) entries
count_past i entries t h = ap (count_by (is_task i)) (take_all t entries h)

-- in tick t the task runs, or nothing is executed
pub record RunsIn (i : ℕ) (entries : List (Option ℕ)) (t : ℕ) : Type 0 where
  pub below : t < length entries
  pub runs : get_or entries t None ≡ Some i
  pub more : count_by (is_task i) (take (suc t) entries) ≡ suc (count_by (is_task i) (take t entries))

count_step : (i : ℕ) (entries : List (Option ℕ)) (t : ℕ)
    → (count_below i entries (suc t) ≡ count_below i entries t) ⊎ RunsIn i entries t
count_step i entries t = elim (cases_lt t (length entries)) [
  | inl below ↦ elim (cases_entry i (get_or entries t None)) [
    | inl runs ↦ inr (record { below = below; runs = runs; more = count_more i entries t below runs })
    | inr rests ↦ inl (count_same i entries t below rests)
  ]
  | inr past ↦ inl (count_past i entries (suc t) (omega arith) ∙ sym (count_past i entries t past))
]

climb_step : (i : ℕ) (entries : List (Option ℕ)) (t : ℕ) → (count_below i entries (suc t) ≡ count_below i entries t) ⊎ RunsIn i entries t
    → (count_below i entries (suc t) ≡ count_below i entries t) ⊎ (count_below i entries (suc t) ≡ suc (count_below i entries t))
climb_step i entries t (inl same) = inl same
climb_step i entries t (inr runs) = inr runs.more

grown : (i : ℕ) (entries : List (Option ℕ)) (t : ℕ) → count_below i entries (suc t) ≡ suc (count_below i entries t)
    → (count_below i entries (suc t) ≡ count_below i entries t) ⊎ RunsIn i entries t → RunsIn i entries t
grown i entries t grew (inl same) = absurd (omega (arith, grew, same))
grown i entries t grew (inr runs) = runs

at_zero : (s : ℕ) → s ≤ 0 → s ≡ 0
at_zero s h = omega arith

-- entries of one kind that are appended count as often as they are, or not at all
pub count_appended : (i : ℕ) (entries : List (Option ℕ)) (n : ℕ) (who : Option ℕ)
    → count_by (is_task i) (entries ++ replicate n who) ≡ count_by (is_task i) entries + cond (is_task i who) n 0
count_appended i entries n who = omega (
  arith,
  sum_by-append (λ (e : Option ℕ). cond (is_task i e) 1 0) entries (replicate n who),
  sum_by-replicate (λ (e : Option ℕ). cond (is_task i e) 1 0) n who,
  as_often (is_task i who) n,
)
  where
    as_often : (b : Bool) (n : ℕ) → n * cond b 1 0 ≡ cond b n 0
    as_often true n = omega arith
    as_often false n = omega arith

module _ (system : System) (run : Run) (i : ℕ) where
  pub executed_zero : executed system run i 0 ≡ 0
  unfolding executed
  executed_zero = refl

  pub executed_climbs : Climbs (executed system run i)
  unfolding executed
  executed_climbs t = climb_step i _ t (count_step i (core_entries run (timing_at system i).core) t)

  -- where it grew, the task ran
  pub executed_grew : (t : ℕ) → executed system run i (suc t) ≡ suc (executed system run i t)
      → (t < length (core_entries run (timing_at system i).core)) × (entry_at run (timing_at system i).core t ≡ Some i)
  unfolding executed
  executed_grew t grew =
      let runs = grown i (core_entries run (timing_at system i).core) t grew (count_step i _ t) in (runs.below, runs.runs)

  -- where the task runs, it grows
  pub executed_more : (t : ℕ) → t < length (core_entries run (timing_at system i).core)
      → entry_at run (timing_at system i).core t ≡ Some i → executed system run i (suc t) ≡ suc (executed system run i t)
  unfolding executed
  executed_more t below runs = count_more i _ t below runs

  -- where it doesn't run, it stays
  pub executed_stays : (t : ℕ) → t < length (core_entries run (timing_at system i).core)
      → (entry_at run (timing_at system i).core t ≡ Some i → ⊥) → executed system run i (suc t) ≡ executed system run i t
  unfolding executed
  executed_stays t below rests = count_same i _ t below rests

  -- where it runs in each tick from s on, it grows by as many
  pub executed_stretch : (s t : ℕ) → s ≤ t → t ≤ length (core_entries run (timing_at system i).core)
      → ((u : ℕ) → s ≤ u → u < t → entry_at run (timing_at system i).core u ≡ Some i) → executed system run i t ≡ executed system run i s + (t - s)
  executed_stretch s zero h within runs = omega (arith, ap (executed system run i) (at_zero s h))
  executed_stretch s (suc t) h within runs = elim (cases_lt t s) [
    | inl last ↦ let same : s ≡ suc t = omega arith in omega (arith, ap (executed system run i) same)
    | inr more ↦ omega (
      arith,
      executed_stretch s t more (omega arith) (λ u after before. runs u after (omega (arith, before))),
      executed_more t within (runs t more (omega arith)),
    )
  ]

  -- and where it runs in none, it stays
  pub executed_rest : (s t : ℕ) → s ≤ t → t ≤ length (core_entries run (timing_at system i).core)
      → ((u : ℕ) → s ≤ u → u < t → entry_at run (timing_at system i).core u ≡ Some i → ⊥) → executed system run i t ≡ executed system run i s
  executed_rest s zero h within rests = omega (arith, ap (executed system run i) (at_zero s h))
  executed_rest s (suc t) h within rests = elim (cases_lt t s) [
    | inl last ↦ let same : s ≡ suc t = omega arith in omega (arith, ap (executed system run i) same)
    | inr more ↦ omega (
      arith,
      executed_rest s t more (omega arith) (λ u after before. rests u after (omega (arith, before))),
      executed_stays t within (rests t more (omega arith)),
    )
  ]

  -- from the end of the entries on it stands still
  pub executed_past : (s t : ℕ) → length (core_entries run (timing_at system i).core) ≤ s
      → length (core_entries run (timing_at system i).core) ≤ t → executed system run i s ≡ executed system run i t
  unfolding executed
  executed_past s t hs ht = count_past i _ s hs ∙ sym (count_past i _ t ht)

-- it depends on the entries below t alone
pub executed_same : (system : System) (one other : Run) (i t : ℕ)
    → take t (core_entries one (timing_at system i).core) ≡ take t (core_entries other (timing_at system i).core)
    → executed system one i t ≡ executed system other i t
unfolding executed
executed_same system one other i t same = ap (count_by (is_task i)) same
