-- Lists of the moments of jobs, as they are made job by job.
use Rattle.std.proofs.Common.{◌≡◌, ℕ, ◌<◌, inl, inr, Option, Some, None, List, length, ap, subst}
use Rattle.std.proofs.lemmas.Bool.{cases_lt}
use Rattle.std.proofs.lemmas.List.{get_or_past}
use Rattle.cl_check.specs.JobMoments.{IsMomentOf}
use Rattle.cl_chain.specs.Inner.GroupTables.{moment_at, AreMomentsAt}

-- a moment is one
pub same_some : (found : Option ℕ) (s t : ℕ) → found ≡ Some s → found ≡ Some t → s ≡ t
same_some found s t one other = cc

-- where a job has a moment it is one of the list
pub has_place : (moments : List (Option ℕ)) (job t : ℕ) → moment_at moments job ≡ Some t → job < length moments
has_place moments job t has = elim (cases_lt job (length moments)) [
  | inl below ↦ below
  | inr past ↦ let none : moment_at moments job ≡ None = get_or_past moments job None past in absurd (cc (has, none))
]

pub at_some : (IsAt : ℕ → Type 0) (found : Option ℕ) → IsMomentOf IsAt found → (t : ℕ) → found ≡ Some t → IsAt t
at_some IsAt found is t same = subst (IsMomentOf IsAt) same is

pub the_moment : (IsAt : ℕ → Type 0) (found : Option ℕ) → IsMomentOf IsAt found → ((s t : ℕ) → IsAt s → IsAt t → s ≡ t) → (t : ℕ) → IsAt t → found ≡ Some t
the_moment IsAt None is once t here = absurd (is t here)
the_moment IsAt (Some s) is once t here = ap Some (once s t is here)

module _ (IsAt : (job t : ℕ) → Type 0) where
  -- a list with the moment of each of its jobs has them all, where no job past it has one
  pub all_moments : (moments : List (Option ℕ)) → ((job s t : ℕ) → IsAt job s → IsAt job t → s ≡ t)
      → ((job : ℕ) → job < length moments → IsMomentOf (IsAt job) (moment_at moments job))
      → ((job t : ℕ) → IsAt job t → job < length moments) → AreMomentsAt IsAt moments
  all_moments moments once each within = record {
    sound = λ job t has. at_some (IsAt job) (moment_at moments job) (each job (has_place moments job t has)) t has;
    complete = λ job t here. the_moment (IsAt job) (moment_at moments job) (each job (within job t here)) (once job) t here;
  }

-- the moments of one thing are those of another
pub same_moments : (IsAt Other : (job t : ℕ) → Type 0) (moments : List (Option ℕ)) → ((job t : ℕ) → IsAt job t → Other job t)
    → ((job t : ℕ) → Other job t → IsAt job t) → AreMomentsAt IsAt moments → AreMomentsAt Other moments
same_moments IsAt Other moments to from are = record {
  sound = λ job t has. to job t (are.sound job t has);
  complete = λ job t here. are.complete job t (from job t here);
}
