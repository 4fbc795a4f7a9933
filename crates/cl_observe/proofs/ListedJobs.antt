-- What jobs have, one job after the other.
use Rattle.std.proofs.Common.{◌≡◌, ℕ, ◌+◌, ◌<◌, ◌≤◌, ℤ, Bool, true, false, ◌⊎◌, inl, inr, Option, Some, None, List, length, refl, sym, ap, subst, ◌∙◌, arith}
use Rattle.std.specs.Prelude.{pos, ◌-ℤ◌, int_lt, cond, slice_index}
use Rattle.std.specs.Int.{from_bool}
use Rattle.std.proofs.lemmas.List.{get_or_past}
use Rattle.cl_runs.specs.{declared.job.Job.Job, Table.job_at}
use Rattle.std.proofs.lemmas.Bool.{cases_lt}
use Rattle.std.proofs.lemmas.Int.{ints}
use Rattle.std.proofs.Math.Numerals.{add-one}
use Rattle.cl_observe.specs.{declared.values.{GreatestResponse.GreatestResponse, Spread.Spread}, Values.{CountsBelow, IsGreatestResponseOf, IsSpreadOf}, Inner.{Choices.{or_response, or_number, or_finish, or_time}, JobLists.{finish_at, HasListedResponse, HasListedJitter, HasListedTime}}}
use Rattle.cl_observe.specs.Inner.JobLists.{HasBelow}
use Rattle.cl_observe.proofs.OneValue.{greatest_as, spread_as}

-- ---- counts

-- a job counts once or not at all
pub once_or_not : (b : Bool) → from_bool b ≡ cond b 1 0
once_or_not true = refl
once_or_not false = refl

pub at_most_one : (b : Bool) → from_bool b ≤ 1
at_most_one true = omega arith
at_most_one false = omega arith

-- one more is counted, where it is of the kind
pub one_counted : (Is : ℕ → Bool) (n before count : ℕ) → CountsBelow (λ k. Is k ≡ true) n before → count ≡ before + cond (Is n) 1 0
    → CountsBelow (λ k. Is k ≡ true) (n + 1) count
one_counted Is n before count counts is = by (Is n) refl
  where
    by : (b : Bool) → Is n ≡ b → CountsBelow (λ k. Is k ≡ true) (n + 1) count
    by true so = subst (λ m. CountsBelow (λ k. Is k ≡ true) m count) (sym (add-one n))
        (inl (before, so, counts, omega (arith, is, ap {B = ℕ} (λ b. cond b 1 0) so)))
    by false so = subst (λ m. CountsBelow (λ k. Is k ≡ true) m count) (sym (add-one n))
        (inr ((λ yes. cc (so, yes)), subst (CountsBelow (λ k. Is k ≡ true) n) (omega (arith, is, ap {B = ℕ} (λ b. cond b 1 0) so)) counts))

module _ (Has : ℕ → ℤ → Type 0) (n : ℕ) where
  -- a job below the next number is below this one, or it is this one
  last_or_before : (job : ℕ) (number : ℤ) → HasBelow (n + 1) Has job number → HasBelow n Has job number ⊎ ((job ≡ n) × Has n number)
  last_or_before job number has = elim (cases_lt job n) [
    | inl less ↦ inl (record { below = less; has = has.has })
    | inr most ↦
        let same : job ≡ n = omega (arith, most, has.below) in
        inr (same, subst (λ k. Has k number) same has.has)
  ]

  still_below : (job : ℕ) (number : ℤ) → HasBelow n Has job number → HasBelow (n + 1) Has job number
  still_below job number has = record { below = omega (arith, has.below); has = has.has }

  here : (number : ℤ) → Has n number → HasBelow (n + 1) Has n number
  here number has = record { below = omega arith; has = has }

  -- ---- this job has no number
  module _ (none : (number : ℤ) → Has n number → ⊥) where
    before_it : (job : ℕ) (number : ℤ) → HasBelow (n + 1) Has job number → HasBelow n Has job number
    before_it job number has = elim (last_or_before job number has) [
      | inl before ↦ before
      | inr last ↦ absurd (none number last.1)
    ]

    pub greatest_kept : (found : Option GreatestResponse) → IsGreatestResponseOf (HasBelow n Has) found → IsGreatestResponseOf (HasBelow (n + 1) Has) found
    greatest_kept None was = λ job number has. was job number (before_it job number has)
    greatest_kept (Some found) was = record {
      has = still_below found.job found.response was.has;
      greatest = λ job number has. was.greatest job number (before_it job number has);
      least = λ job has. was.least job (before_it job found.response has);
    }

    pub spread_kept : (found : Option Spread) → IsSpreadOf (HasBelow n Has) found → IsSpreadOf (HasBelow (n + 1) Has) found
    spread_kept None was = λ job number has. was job number (before_it job number has)
    spread_kept (Some found) was = record {
      at_least = (was.at_least.0, still_below was.at_least.0 found.least was.at_least.1);
      at_greatest = (was.at_greatest.0, still_below was.at_greatest.0 found.greatest was.at_greatest.1);
      above = λ job number has. was.above job number (before_it job number has);
      below = λ job number has. was.below job number (before_it job number has);
    }

  -- ---- it has this number alone
  module _ (next : ℤ) (has_next : Has n next) (only : (number : ℤ) → Has n number → number ≡ next) where
    greater : (found : GreatestResponse) (b : Bool) → int_lt found.response next ≡ b → IsGreatestResponseOf (HasBelow n Has) (Some found)
        → IsGreatestResponseOf (HasBelow (n + 1) Has) (Some (cond b (record { response = next; job = n }) found))
    greater found true less was = record {
      has = here next has_next;
      greatest = λ job number has. elim (last_or_before job number has) [
        | inl before ↦ omega (arith, ints, less, was.greatest job number before)
        | inr last ↦ omega (arith, ints, only number last.1)
      ];
      least = λ job has. elim (last_or_before job next has) [
        | inl before ↦ omega (arith, ints, less, was.greatest job next before)
        | inr last ↦ omega (arith, last.0)
      ];
    }
    greater found false most was = record {
      has = still_below found.job found.response was.has;
      greatest = λ job number has. elim (last_or_before job number has) [
        | inl before ↦ was.greatest job number before
        | inr last ↦ omega (arith, ints, most, only number last.1)
      ];
      least = λ job has. elim (last_or_before job found.response has) [
        | inl before ↦ was.least job before
        | inr last ↦ omega (arith, last.0, was.has.below)
      ];
    }

    pub greatest_more : (found : Option GreatestResponse) → IsGreatestResponseOf (HasBelow n Has) found
        → IsGreatestResponseOf (HasBelow (n + 1) Has) (Some (or_response found n next))
    greatest_more None was = record {
      has = here next has_next;
      greatest = λ job number has. elim (last_or_before job number has) [
        | inl before ↦ absurd (was job number before)
        | inr last ↦ omega (arith, ints, only number last.1)
      ];
      least = λ job has. elim (last_or_before job next has) [
        | inl before ↦ absurd (was job next before)
        | inr last ↦ omega (arith, last.0)
      ];
    }
    greatest_more (Some found) was = greater found (int_lt found.response next) refl was

    wider : (found : Spread) (a b : Bool) → int_lt next found.least ≡ a → int_lt found.greatest next ≡ b → IsSpreadOf (HasBelow n Has) (Some found)
        → IsSpreadOf (HasBelow (n + 1) Has)
        (Some (cond a (record { least = next; greatest = found.greatest }) (cond b (record { least = found.least; greatest = next }) found)))
    wider found true b less greatest was = record {
      at_least = (n, here next has_next);
      at_greatest = (was.at_greatest.0, still_below was.at_greatest.0 found.greatest was.at_greatest.1);
      above = λ job number has. elim (last_or_before job number has) [
        | inl before ↦ omega (arith, ints, less, was.above job number before)
        | inr last ↦ omega (arith, ints, only number last.1)
      ];
      below = λ job number has. elim (last_or_before job number has) [
        | inl before ↦ was.below job number before
        | inr last ↦ omega (arith, ints, less, only number last.1, was.above was.at_greatest.0 found.greatest was.at_greatest.1)
      ];
    }
    wider found false true least greatest was = record {
      at_least = (was.at_least.0, still_below was.at_least.0 found.least was.at_least.1);
      at_greatest = (n, here next has_next);
      above = λ job number has. elim (last_or_before job number has) [
        | inl before ↦ was.above job number before
        | inr last ↦ omega (arith, ints, least, only number last.1)
      ];
      below = λ job number has. elim (last_or_before job number has) [
        | inl before ↦ omega (arith, ints, greatest, was.below job number before)
        | inr last ↦ omega (arith, ints, only number last.1)
      ];
    }
    wider found false false least greatest was = record {
      at_least = (was.at_least.0, still_below was.at_least.0 found.least was.at_least.1);
      at_greatest = (was.at_greatest.0, still_below was.at_greatest.0 found.greatest was.at_greatest.1);
      above = λ job number has. elim (last_or_before job number has) [
        | inl before ↦ was.above job number before
        | inr last ↦ omega (arith, ints, least, only number last.1)
      ];
      below = λ job number has. elim (last_or_before job number has) [
        | inl before ↦ was.below job number before
        | inr last ↦ omega (arith, ints, greatest, only number last.1)
      ];
    }

    pub spread_more : (found : Option Spread) → IsSpreadOf (HasBelow n Has) found → IsSpreadOf (HasBelow (n + 1) Has) (Some (or_number found next))
    spread_more None was = record {
      at_least = (n, here next has_next);
      at_greatest = (n, here next has_next);
      above = λ job number has. elim (last_or_before job number has) [
        | inl before ↦ absurd (was job number before)
        | inr last ↦ omega (arith, ints, only number last.1)
      ];
      below = λ job number has. elim (last_or_before job number has) [
        | inl before ↦ absurd (was job number before)
        | inr last ↦ omega (arith, ints, only number last.1)
      ];
    }
    spread_more (Some found) was = wider found (int_lt next found.least) (int_lt found.greatest next) refl refl was

-- ---- by a list of finishes

some_same : (m n : ℕ) → Some m ≡ Some n → m ≡ n
some_same m n is = cc

pub none_below : (Has : ℕ → ℤ → Type 0) (job : ℕ) (number : ℤ) → HasBelow 0 Has job number → ⊥
none_below Has job number has = absurd (omega (arith, has.below))

module _ (jobs : List Job) (finishes : List (Option ℕ)) where
  listed : (job finish : ℕ) → finish_at finishes job ≡ Some finish → job < length finishes
  listed job finish is = elim (cases_lt job (length finishes)) [
    | inl within ↦ within
    | inr past ↦ let none : finish_at finishes job ≡ None = get_or_past finishes job None past in absurd (cc (is, none))
  ]

  -- ---- responses

  response_by : (n : ℕ) (found : Option GreatestResponse) (finish : Option ℕ) → finish_at finishes n ≡ finish
      → IsGreatestResponseOf (HasBelow n (HasListedResponse jobs finishes)) found
      → IsGreatestResponseOf (HasBelow (n + 1) (HasListedResponse jobs finishes)) (or_finish found n (job_at jobs n).arrival finish)
  response_by n found None none was = greatest_kept (HasListedResponse jobs finishes) n (λ number has. cc (none, has.finishes_then)) found was
  response_by n found (Some finish) is was = greatest_more (HasListedResponse jobs finishes) n (pos finish -ℤ pos (job_at jobs n).arrival)
      (record { finish = finish; finishes_then = is; response_is = refl })
      (λ number has. has.response_is ∙ ap (λ f. pos f -ℤ pos (job_at jobs n).arrival) (some_same has.finish finish (sym has.finishes_then ∙ is)))
      found was

  pub response_next : (n : ℕ) (found : Option GreatestResponse) → IsGreatestResponseOf (HasBelow n (HasListedResponse jobs finishes)) found
      → IsGreatestResponseOf (HasBelow (n + 1) (HasListedResponse jobs finishes)) (or_finish found n (job_at jobs n).arrival (finish_at finishes n))
  response_next n found was = response_by n found (finish_at finishes n) refl was

  pub responses_all : (n : ℕ) (found : Option GreatestResponse) → length finishes ≤ n → IsGreatestResponseOf (HasBelow n (HasListedResponse jobs finishes)) found
      → IsGreatestResponseOf (HasListedResponse jobs finishes) found
  responses_all n found all was = greatest_as (HasBelow n (HasListedResponse jobs finishes)) (HasListedResponse jobs finishes)
      (λ job number has. has.has)
      (λ job number has. record { below = omega (arith, all, listed job has.finish has.finishes_then); has = has })
      found was

  -- ---- times

  time_by : (place n : ℕ) (found : Option Spread) (finish : Option ℕ) → finish_at finishes n ≡ finish
      → IsSpreadOf (HasBelow n (HasListedTime jobs finishes place)) found
      → IsSpreadOf (HasBelow (n + 1) (HasListedTime jobs finishes place)) (or_time found (slice_index (job_at jobs n).times place) finish)
  time_by place n found None none was = spread_kept (HasListedTime jobs finishes place) n (λ number has. cc (none, has.finishes_then)) found was
  time_by place n found (Some finish) is was = spread_more (HasListedTime jobs finishes place) n (pos (slice_index (job_at jobs n).times place))
      (record { finish = finish; finishes_then = is; time_is = refl })
      (λ number has. has.time_is)
      found was

  pub time_next : (place n : ℕ) (found : Option Spread) → IsSpreadOf (HasBelow n (HasListedTime jobs finishes place)) found
      → IsSpreadOf (HasBelow (n + 1) (HasListedTime jobs finishes place)) (or_time found (slice_index (job_at jobs n).times place) (finish_at finishes n))
  time_next place n found was = time_by place n found (finish_at finishes n) refl was

  pub times_all : (place n : ℕ) (found : Option Spread) → length finishes ≤ n → IsSpreadOf (HasBelow n (HasListedTime jobs finishes place)) found
      → IsSpreadOf (HasListedTime jobs finishes place) found
  times_all place n found all was = spread_as (HasBelow n (HasListedTime jobs finishes place)) (HasListedTime jobs finishes place)
      (λ job number has. has.has)
      (λ job number has. record { below = omega (arith, all, listed job has.finish has.finishes_then); has = has })
      found was

-- ---- jitters

module _ (jobs : List Job) where
  pub jitter_next : (n : ℕ) (found : Option Spread) → n < length jobs → IsSpreadOf (HasBelow n (HasListedJitter jobs)) found
      → IsSpreadOf (HasBelow (n + 1) (HasListedJitter jobs)) (Some (or_number found (pos (job_at jobs n).release -ℤ pos (job_at jobs n).arrival)))
  jitter_next n found within was = spread_more (HasListedJitter jobs) n (pos (job_at jobs n).release -ℤ pos (job_at jobs n).arrival)
      (record { in_table = within; jitter_is = refl })
      (λ number has. has.jitter_is)
      found was

  pub jitters_all : (n : ℕ) (found : Option Spread) → length jobs ≤ n → IsSpreadOf (HasBelow n (HasListedJitter jobs)) found
      → IsSpreadOf (HasListedJitter jobs) found
  jitters_all n found all was = spread_as (HasBelow n (HasListedJitter jobs)) (HasListedJitter jobs)
      (λ job number has. has.has)
      (λ job number has. record { below = omega (arith, all, has.in_table); has = has })
      found was
