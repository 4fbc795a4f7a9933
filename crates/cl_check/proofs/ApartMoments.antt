-- Moments over a task's own list are those over its core's.
use Rattle.std.proofs.Common.{◌≡◌, ℕ, zero, suc, ◌+◌, ◌-◌, inl, inr, Option, Some, None, true, cond, eq-eqb, List, length, get_or, refl, sym, ap, ◌∙◌, arith}
use Rattle.std.specs.Prelude.{count_by}
use Rattle.std.proofs.Math.Numerals.{add-one}
use Rattle.std.proofs.lemmas.Bool.{cases_lt, false≢true}
use Rattle.std.proofs.lemmas.List.{get_or_past, take_all}
use Rattle.cl_runs.specs.{declared.job.Job.Job, Run.is_task, Work.{work_before, work_through}}
use Rattle.cl_check.specs.{declared.job_ends.End.{End, TheVariants.{Start, Finish}}, Apart.RunsAlike, JobMoments.IsMomentOf, Inner.Walks.{executed_in, RunsAfter, EndsAfter, EndsIn, AreEndsIn}}
use Rattle.cl_check.proofs.WalkFacts.{is_that_task, one_more}

-- a further tick counts where the task runs in it
executed_next : (entries : List (Option ℕ)) (task t : ℕ)
    → executed_in entries task (suc t) ≡ executed_in entries task t + cond (is_task task (get_or entries t None)) 1 0
executed_next entries task t = elim (cases_lt t (length entries)) [
  | inl inside ↦ ap (executed_in entries task) (sym (add-one t)) ∙ one_more entries task (get_or entries t None) _ refl t inside refl
  | inr past ↦
      let all : executed_in entries task (suc t) ≡ executed_in entries task t
      = ap (count_by (is_task task)) (take_all (suc t) entries (omega (arith, past)) ∙ sym (take_all t entries past)) in
      omega (arith, all, ap {B = ℕ} (λ e. cond (is_task task e) 1 0) (get_or_past entries t None past))
]

module _ (task : ℕ) (one other : List (Option ℕ)) (alike : RunsAlike task one other) where
  executed_alike : (t : ℕ) → executed_in one task t ≡ executed_in other task t
  executed_alike zero = refl
  executed_alike (suc t) = omega (
    arith,
    executed_next one task t,
    executed_next other task t,
    executed_alike t,
    ap {B = ℕ} (λ b. cond b 1 0) (alike t),
  )

  -- in the one list the task runs where it does in the other
  runs_alike : (work t : ℕ) → RunsAfter one task work t → RunsAfter other task work t
  runs_alike work t runs =
      let is : is_task task (get_or other t None) ≡ true = sym (alike t) ∙ ap (is_task task) runs.runs ∙ eq-eqb task task refl in
      record {
        within = elim (cases_lt t (length other)) [
          | inl inside ↦ inside
          | inr past ↦ absurd (false≢true (sym (ap (is_task task) (get_or_past other t None past)) ∙ is))
        ];
        reached = sym (executed_alike t) ∙ runs.reached;
        runs = is_that_task task (get_or other t None) is;
      }

  ends_alike : (work t : ℕ) → EndsAfter one task work t → EndsAfter other task work t
  ends_alike work t ends = record { tick = ends.tick; ends = ends.ends; runs = runs_alike work ends.tick ends.runs }

module _ (task : ℕ) (one other : List (Option ℕ)) (alike : RunsAlike task one other) where
  back : RunsAlike task other one
  back tick = sym (alike tick)

  start_alike : (work : ℕ) (found : Option ℕ) → IsMomentOf (RunsAfter one task work) found → IsMomentOf (RunsAfter other task work) found
  start_alike work None none = λ t runs. none t (runs_alike task other one back work t runs)
  start_alike work (Some t) runs = runs_alike task one other alike work t runs

  finish_alike : (work : ℕ) (found : Option ℕ) → IsMomentOf (EndsAfter one task work) found → IsMomentOf (EndsAfter other task work) found
  finish_alike work None none = λ t ends. none t (ends_alike task other one back work t ends)
  finish_alike work (Some t) ends = ends_alike task one other alike work t ends

  end_alike : (end : End) (jobs : List Job) (job place : ℕ) (found : Option ℕ) → IsMomentOf (EndsIn end one jobs task job place) found
      → IsMomentOf (EndsIn end other jobs task job place) found
  end_alike Start jobs job place = start_alike (work_before jobs job place)
  end_alike Finish jobs job place = finish_alike (work_through jobs job place - 1)

  pub ends_alike_in : (end : End) (jobs : List Job) (place : ℕ) (ends : List (Option ℕ)) → AreEndsIn end one jobs task place ends
      → AreEndsIn end other jobs task place ends
  ends_alike_in end jobs place ends found = record {
    each = λ job h. end_alike end jobs job place (get_or ends job None) (found.each job h);
  }
