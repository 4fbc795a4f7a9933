-- Whether the hyperperiod of groups is within the limit, from their beats.
use Rattle.std.proofs.Common.{◌≡◌, ℕ, ◌≤◌, ◌<◌, Option, Some, None, List, refl, sym, subst, arith}
use Rattle.std.specs.Prelude.{◌↔◌, IsTrue, MatchOption}
use Rattle.std.specs.Option.{is_some}
use Rattle.std.proofs.lemmas.Bool.{true≢false}
use Rattle.cl_model.specs.declared.group.Group.{Group}
use Rattle.cl_runs.specs.TaskTiming.{System}
use Rattle.cl_exact.specs.{declared.beat.Beat.Beat, Hyperperiod.{hyper_limit, IsWithinLimit, IsPastLimit}, Inner.{Beats.AreBeatsOf, Periods.IsLeastMultiple}}
use Rattle.cl_exact.proofs.{ExactOnce.within_or_past, PeriodFacts.is_hyperperiod}

-- the beats, as a slice
pub seen : (system : System) (groups : List Group) (numbers beats : List Beat) → beats ≡ numbers → AreBeatsOf system groups numbers → AreBeatsOf system groups beats
seen system groups numbers beats same of = subst (AreBeatsOf system groups) (sym same) of

-- where their least common multiple is within the limit or past it, so is the hyperperiod
pub is_within : (system : System) (groups : List Group) (beats : List Beat) (ticks found limit : ℕ) → AreBeatsOf system groups beats
    → IsLeastMultiple beats ticks → found ≡ ticks → ticks ≤ limit → limit ≡ hyper_limit system groups → IsWithinLimit system groups
is_within system groups beats ticks found limit of least same within is = record {
  hyperperiod = ticks;
  is_hyperperiod = is_hyperperiod system groups beats ticks of least;
  within = omega (arith, within, is);
}

pub is_past : (system : System) (groups : List Group) (beats : List Beat) (ticks limit : ℕ) → AreBeatsOf system groups beats
    → IsLeastMultiple beats ticks → limit < ticks → limit ≡ hyper_limit system groups → IsPastLimit system groups
is_past system groups beats ticks limit of least past is = record {
  hyperperiod = ticks;
  is_hyperperiod = is_hyperperiod system groups beats ticks of least;
  past = omega (arith, past, is);
}

-- the hyperperiod is found where it is within the limit
pub found_within : (system : System) (groups : List Group) (beats : List Beat) (limit : ℕ) (found : Option ℕ) → AreBeatsOf system groups beats
    → limit ≡ hyper_limit system groups
    → (ticks : ℕ) × IsLeastMultiple beats ticks × MatchOption found (limit < ticks) (λ hyperperiod. (hyperperiod ≡ ticks) × (ticks ≤ limit))
    → IsTrue (is_some found) ↔ IsWithinLimit system groups
found_within system groups beats limit (Some hyperperiod) of is (ticks, least, (same, within)) =
    (λ _. is_within system groups beats ticks hyperperiod limit of least same within is, λ _. refl)
found_within system groups beats limit None of is (ticks, least, past) = (
  λ found. absurd (true≢false (sym found)),
  λ within. absurd (within_or_past system groups within (is_past system groups beats ticks limit of least past is)),
)

pub within_or_past_is : (system : System) (groups : List Group) (beats : List Beat) (limit : ℕ) (found : Option ℕ) → AreBeatsOf system groups beats
    → limit ≡ hyper_limit system groups
    → (ticks : ℕ) × IsLeastMultiple beats ticks × MatchOption found (limit < ticks) (λ hyperperiod. (hyperperiod ≡ ticks) × (ticks ≤ limit))
    → MatchOption found (IsPastLimit system groups) (λ _. IsWithinLimit system groups)
within_or_past_is system groups beats limit (Some hyperperiod) of is (ticks, least, (same, within)) =
    is_within system groups beats ticks hyperperiod limit of least same within is
within_or_past_is system groups beats limit None of is (ticks, least, past) = is_past system groups beats ticks limit of least past is
