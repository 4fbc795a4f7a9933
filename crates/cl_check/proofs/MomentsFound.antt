-- The moments that walks find, job by job.
use Rattle.std.proofs.Common.{◌≡◌, ℕ, ◌+◌, ◌-◌, ◌^◌, ◌<◌, ◌≤◌, inl, inr, Option, Some, None, min, List, [], ◌∷◌, ◌++◌, length, get_or, take, length-append, sym, ap, subst, arith}
use Rattle.std.specs.Prelude.{sum, sum_by, slice_index}
use Rattle.std.proofs.lemmas.Bool.{cases_lt}
use Rattle.std.proofs.lemmas.List.{get_or_append_left, get_or_push}
use Rattle.std.proofs.lemmas.List.Sums.{sum_by_more, sum_by_more_le}
use Rattle.cl_runs.specs.{declared.job.Job.Job, Table.{no_job, job_at}, Work.{work_before, work_through}}
use Rattle.cl_check.specs.{declared.{job_moments.Moment.Moment, job_ends.End.{End, TheVariants.{Start, Finish}}}, JobMoments.{IsMomentOf, no_moment}, Inner.Walks.{RunsAfter, EndsAfter, AreMomentsIn, IsEndAfter, EndsIn, AreEndsIn}}
use Rattle.cl_check.proofs.WalkFacts.{executed_within}

-- ---- work past 64 bits is never reached

module _ (entries : List (Option ℕ)) (fits : length entries < 2 ^ 64) (task work capped : ℕ) (is : capped ≡ min work (2 ^ 64 - 1)) where
  -- a tick that is reached is one of those that fit
  capped_same : (w t : ℕ) → RunsAfter entries task w t → w < 2 ^ 64 - 1
  capped_same w t runs = omega (arith, runs.within, runs.reached, executed_within entries task t)

  runs_capped : (t : ℕ) → RunsAfter entries task work t → RunsAfter entries task capped t
  runs_capped t runs =
      let same : work ≡ capped = omega (arith, is, capped_same work t runs) in subst (λ w. RunsAfter entries task w t) same runs

  runs_whole : (t : ℕ) → RunsAfter entries task capped t → RunsAfter entries task work t
  runs_whole t runs =
      let same : capped ≡ work = omega (arith, is, capped_same capped t runs) in subst (λ w. RunsAfter entries task w t) same runs

  pub start_whole : (found : Option ℕ) → IsMomentOf (RunsAfter entries task capped) found → IsMomentOf (RunsAfter entries task work) found
  start_whole None none = λ t runs. none t (runs_capped t runs)
  start_whole (Some t) runs = runs_whole t runs

  pub finish_whole : (found : Option ℕ) → IsMomentOf (EndsAfter entries task capped) found → IsMomentOf (EndsAfter entries task work) found
  finish_whole None none = λ t ends. none t (record { tick = ends.tick; ends = ends.ends; runs = runs_capped ends.tick ends.runs })
  finish_whole (Some t) ends = record { tick = ends.tick; ends = ends.ends; runs = runs_whole ends.tick ends.runs }

-- ---- one job more

pub each_pushed : {X : Type 0} (P : ℕ → X → Type 0) (xs : List X) (x d : X) → ((k : ℕ) → k < length xs → P k (get_or xs k d)) → P (length xs) x
    → (k : ℕ) → k < length (xs ++ x ∷ []) → P k (get_or (xs ++ x ∷ []) k d)
each_pushed P xs x d each last k h = elim (cases_lt k (length xs)) [
  | inl before ↦ subst (P k) (sym (get_or_append_left xs (x ∷ []) d k before)) (each k before)
  | inr not ↦
      let here : length xs ≡ k = omega (arith, not, h, length-append xs (x ∷ [])) in
      subst (P k) (sym (get_or_push xs x d k here)) (subst (λ n. P n x) here last)
]

module _ (jobs : List Job) (place i : ℕ) (here : i < length jobs) (times : List ℕ) (same : times ≡ (job_at jobs i).times) (within : place < length times)
    (done before : ℕ) (done_is : done ≡ min (sum_by (λ (job : Job). sum job.times) (take i jobs)) (2 ^ 64 - 1))
    (before_is : before ≡ min (done + sum (take place times)) (2 ^ 64 - 1)) where
  -- the work before the runnable, as far as it fits
  pub before_whole : before ≡ min (work_before jobs i place) (2 ^ 64 - 1)
  unfolding work_before
  before_whole = omega (arith, done_is, before_is, ap (λ (xs : List ℕ). sum (take place xs)) same)

  -- and all of it but its last tick
  pub last_whole : 1 ≤ slice_index times place
      → min (before + (slice_index times place - 1)) (2 ^ 64 - 1) ≡ min (work_through jobs i place - 1) (2 ^ 64 - 1)
  last_whole some = omega (arith, some, before_whole, ap (λ (xs : List ℕ). slice_index xs place) same)

  -- the work of one job more
  pub done_next : min (done + sum times) (2 ^ 64 - 1) ≡ min (sum_by (λ (job : Job). sum job.times) (take (i + 1) jobs)) (2 ^ 64 - 1)
  done_next = omega (arith, done_is, sum_by_more (λ (job : Job). sum job.times) jobs i no_job here, ap sum same)

  -- which the walk doesn't go past
  pub ahead_next : (executed : ℕ) → executed ≤ min (before + (slice_index times place - 1)) (2 ^ 64 - 1)
      → executed ≤ min (done + sum times) (2 ^ 64 - 1)
  ahead_next executed h = omega (arith, h, before_is, sum_by_more_le (λ (x : ℕ). x) times place 0 within)

  module _ (entries : List (Option ℕ)) (fits : length entries < 2 ^ 64) (task : ℕ) where
    pub moments_pushed : (moments : List Moment) (m : Moment) → length moments ≡ i → AreMomentsIn entries jobs task place moments
        → IsMomentOf (RunsAfter entries task before) m.start → 1 ≤ slice_index times place
        → IsMomentOf (EndsAfter entries task (min (before + (slice_index times place - 1)) (2 ^ 64 - 1))) m.finish
        → AreMomentsIn entries jobs task place (moments ++ m ∷ [])
    moments_pushed moments m count so_far start some finish = record {
      starts = each_pushed (λ k (x : Moment). IsMomentOf (RunsAfter entries task (work_before jobs k place)) x.start) moments m no_moment so_far.starts
          (subst (λ k. IsMomentOf (RunsAfter entries task (work_before jobs k place)) m.start) (sym count)
          (start_whole entries fits task _ _ before_whole m.start start));
      finishes = each_pushed (λ k (x : Moment). IsMomentOf (EndsAfter entries task (work_through jobs k place - 1)) x.finish) moments m no_moment so_far.finishes
          (subst (λ k. IsMomentOf (EndsAfter entries task (work_through jobs k place - 1)) m.finish) (sym count)
          (finish_whole entries fits task _ _ (last_whole some) m.finish finish));
    }

    -- one end of a job more
    end_whole : (end : End) (found : Option ℕ) → 1 ≤ slice_index times place
        → IsMomentOf (IsEndAfter end entries task before (slice_index times place)) found → IsMomentOf (EndsIn end entries jobs task i place) found
    end_whole Start found some is = start_whole entries fits task _ _ before_whole found is
    end_whole Finish found some is = finish_whole entries fits task _ _ (last_whole some) found is

    pub ends_pushed : (end : End) (ends : List (Option ℕ)) (found : Option ℕ) → length ends ≡ i → AreEndsIn end entries jobs task place ends
        → 1 ≤ slice_index times place → IsMomentOf (IsEndAfter end entries task before (slice_index times place)) found
        → AreEndsIn end entries jobs task place (ends ++ found ∷ [])
    ends_pushed end ends found count so_far some is = record {
      each = each_pushed (λ k (o : Option ℕ). IsMomentOf (EndsIn end entries jobs task k place) o) ends found None so_far.each
          (subst (λ k. IsMomentOf (EndsIn end entries jobs task k place) found) (sym count) (end_whole end found some is));
    }
