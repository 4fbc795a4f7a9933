-- What a task of a legal run executes, part by part.
use Rattle.std.proofs.Common.{◌≡◌, ◌≢◌, ℕ, suc, ◌+◌, ◌-◌, ◌^◌, ◌<◌, ◌≤◌, ◌⊎◌, inl, inr, Some, None, List, [], ◌∷◌, ◌++◌, length, refl, sym, ap, subst, ◌∙◌, arith}
use Rattle.std.specs.Prelude.{All, Option, MatchOption, slice_index, slice_get, min}
use Rattle.std.specs.Option.{option_to_list}
use Rattle.std.proofs.lemmas.List.{append-nil, get_or_default}
use Rattle.std.proofs.lemmas.Bool.{cases_lt}
use Rattle.std.proofs.lemmas.Option.{slice_get_cases, slice_get-get_or, get_or_from_slice_get}
use Rattle.cl_model.specs.{declared.model.SystemModel.SystemModel, ByNumber.deadline_of}
use Rattle.cl_runs.specs.{TaskTiming.timing_at, SystemOf.system_of, Run.{Run, jobs_of, entry_at, executed}, Work.work_through, Moments.{Finishes, JobFinishes}}
use Rattle.cl_runs.proofs.{Climbing.climb_mono, Work.{through_place, places_rise, work_rises}, Executed.{executed_climbs, executed_stretch, executed_rest}}
use Rattle.cl_check.specs.JobMoments.{IsMomentOf}
use Rattle.cl_draw.specs.{declared.{cursor.Cursor.Cursor, parts.{Part.Part, Work.Work}}, Parts.{due_at, due_in, no_part, part_at, IsPart, IsFollowedBy, HasPartAt, AreParts, AreFinishes}, Inner.{TaskRuns.{IsTaskRun, IsPartOf}, Cursors.{StandsAt, FinishesJob, ArePartsBelow, IsWorkAt}}}
use Rattle.cl_draw.specs.Inner.{Cursors.{IsCutAt, RunsFrom, IsFurther}, Ends.part_end}
use Rattle.cl_draw.proofs.{CursorFacts.{ticks_are, places_are, ranges_are, some_range, deadline_is}, PartEnds.{IsPartEnd, part_ends, uncapped}, Pushed.{count_pushed, kept, added, each_pushed, neighbours_pushed}}

-- ---- parts

have_pushed : (parts : List Part) (part : Part) (tick : ℕ) → HasPartAt parts tick → HasPartAt (parts ++ part ∷ []) tick
have_pushed parts part tick have = record {
  place = have.place;
  within = omega (arith, have.within, count_pushed parts part no_part);
  from = subst (λ (p : Part). p.from ≤ tick) (sym (kept parts part no_part have.place have.within)) have.from;
  to = subst (λ (p : Part). tick < p.to) (sym (kept parts part no_part have.place have.within)) have.to;
}

have_last : (parts : List Part) (part : Part) (tick : ℕ) → part.from ≤ tick → tick < part.to → HasPartAt (parts ++ part ∷ []) tick
have_last parts part tick from to = record {
  place = length parts;
  within = omega (arith, count_pushed parts part no_part);
  from = subst (λ (p : Part). p.from ≤ tick) (sym (added parts part no_part (length parts) refl)) from;
  to = subst (λ (p : Part). tick < p.to) (sym (added parts part no_part (length parts) refl)) to;
}

-- what is found in a list is in it, and what is in it is found
none_there : (xs : List ℕ) (i x : ℕ) → length xs ≤ i → slice_get xs i ≡ Some x → ⊥
none_there xs i x past is = elim (slice_get_cases xs i).1 [
  | inl found ↦ omega (arith, past, found.1)
  | inr none ↦ let other = none.1 in cc
]

some_there : (xs : List ℕ) (i : ℕ) → i < length xs → slice_get xs i ≡ None → ⊥
some_there xs i within is = let found = slice_get-get_or xs i 0 within in cc

module _ (model : SystemModel) (run : Run) (task : ℕ) (of : IsTaskRun model run task) where
  -- the task executes the runnable of its cursor
  part_is : (cursor : Cursor) (from to end : ℕ) → StandsAt (system_of model) run task cursor from → cursor.job < length (jobs_of run task)
      → from < to → to ≤ end → to ≤ from + cursor.left → end ≤ run.table.ticks → RunsFrom (system_of model) run task from end
      → (to ≤ due_in (system_of model) run task cursor.job) ⊎ (due_in (system_of model) run task cursor.job ≤ from)
      → IsPart (system_of model) run task (record { job = cursor.job; place = cursor.place; from = from; to = to })
  part_is cursor from to end stands in_table some by most within runs side = record {
    some = some;
    executes = λ tick after before.
        let so_far = executed_stretch (system_of model) run task from tick after (omega (arith, before, by, within, ticks_are model run task of))
        (λ u late early. runs u late (omega (arith, early, before, by))) in
        record {
          in_table = in_table;
          is_runnable = (stands.going in_table).0;
          below_end = omega (arith, before, by, within);
          runs = runs tick after (omega (arith, before, by));
          begun = omega (arith, so_far, stands.work, stands.begun);
          unfinished = omega (arith, so_far, stands.work, before, most, after);
        };
    one_side = side;
  }

  module _ (work : Work) (cursor : Cursor) (from to end : ℕ) (at_from : IsWorkAt (system_of model) run task work cursor from)
      (cut : IsCutAt (system_of model) run task work.parts cursor from) (in_table : cursor.job < length (jobs_of run task))
      (within : end ≤ run.table.ticks) (runs : RunsFrom (system_of model) run task from end)
      (ends : IsPartEnd (due_in (system_of model) run task cursor.job) cursor.left from end to) where
    abbrev part : Part
    part = record { job = cursor.job; place = cursor.place; from = from; to = to }

    own : IsPart (system_of model) run task part
    own = part_is cursor from to end at_from.stands in_table ends.after ends.by ends.most within runs ends.side

    follows : (last : Part) → last.to ≤ from → (last.to ≡ from → last.job ≡ cursor.job → last.place ≡ cursor.place → from ≡ due_in (system_of model) run task cursor.job)
        → IsFollowedBy (system_of model) run task last part
    follows last by touch = record {
      in_order = by;
      cut = λ at job place. at ∙ touch at job place ∙ ap (due_in (system_of model) run task) (sym job);
    }

    pub parts_further : ArePartsBelow (system_of model) run task (work.parts ++ part ∷ []) to
    parts_further = record {
      each = each_pushed work.parts part no_part (IsPart (system_of model) run task) at_from.parts.each own;
      by = each_pushed work.parts part no_part (λ (p : Part). p.to ≤ to) (λ k h. omega (arith, at_from.parts.by k h, ends.after)) (omega arith);
      in_order = neighbours_pushed work.parts part no_part (IsFollowedBy (system_of model) run task) at_from.parts.in_order
          (λ k last. follows (part_at work.parts k) (at_from.parts.by k (omega (arith, last))) (λ at job place. cut.cut k last at job place));
      all = λ t below is. elim (cases_lt t from) [
        | inl before ↦ have_pushed work.parts part t (at_from.parts.all t before is)
        | inr after ↦ have_last work.parts part t after below
      ];
    }

    module _ (next : Cursor) (next_cut : cursor.left ≡ to - from → next.job ≡ cursor.job → next.place ≡ cursor.place → ⊥) where
      pub cut_further : to < end → IsCutAt (system_of model) run task (work.parts ++ part ∷ []) next to
      cut_further below = record {
        cut = λ k last at job place.
            let here : length work.parts ≡ k = omega (arith, last, count_pushed work.parts part no_part) in
            let is = added work.parts part no_part k here in
            let same_job : next.job ≡ cursor.job = sym job ∙ ap (λ (p : Part). p.job) is in
            let same_place : next.place ≡ cursor.place = sym place ∙ ap (λ (p : Part). p.place) is in
            elim (ends.before below) [
              | inl whole ↦ absurd (next_cut (omega (arith, whole)) same_job same_place)
              | inr due ↦ due ∙ ap (due_in (system_of model) run task) (sym same_job)
            ];
      }

  -- ---- finishes

  -- the job of a cursor finishes where its last runnable ends
  job_finishes : (cursor next : Cursor) (from to : ℕ) → StandsAt (system_of model) run task cursor from → cursor.job < length (jobs_of run task) → from < to
      → to ≤ run.table.ticks → RunsFrom (system_of model) run task from to → FinishesJob (system_of model) task cursor (to - from) next
      → JobFinishes (system_of model) run task cursor.job to
  job_finishes cursor next from to stands in_table some within runs finishes =
      let entries = ticks_are model run task of in
      let last : length (timing_at (system_of model) task).ranges - 1 ≡ cursor.place = omega (arith, finishes.last) in
      let so_far = λ (t : ℕ) (after : from ≤ t) (before : t ≤ to). executed_stretch (system_of model) run task from t after (omega (arith, before, within, entries))
      (λ u late early. runs u late (omega (arith, early, before))) in
      let reached : executed (system_of model) run task to ≡ work_through (jobs_of run task) cursor.job cursor.place
      = omega (arith, so_far to (omega (arith, some)) (omega arith), stands.work, finishes.whole, some) in
      subst (λ p. Finishes (system_of model) run task cursor.job p to) (sym last)
      (record {
        in_table = in_table;
        is_runnable = (stands.going in_table).0;
        by_end = within;
        reached = reached;
        least = λ s there. elim (cases_lt s to) [
          | inl before ↦
              let most = climb_mono (executed (system_of model) run task) (executed_climbs (system_of model) run task) s (to - 1) (omega (arith, before)) in
              absurd (omega (arith, most, there, so_far (to - 1) (omega (arith, some)) (omega arith), stands.work, finishes.whole, some))
          | inr not ↦ not
        ];
      })

  -- ---- what is known at a tick

  -- at the beginning
  pub work_begins : (work : Work) (cursor : Cursor) → work.parts ≡ [] → work.finishes ≡ [] → cursor.job ≡ 0 → StandsAt (system_of model) run task cursor 0
      → IsWorkAt (system_of model) run task work cursor 0
  work_begins work cursor no_parts no_finishes first stands = record {
    stands = stands;
    parts = subst (λ (ps : List Part). ArePartsBelow (system_of model) run task ps 0) (sym no_parts)
        (record {
          each = λ k h. absurd (omega (arith, h));
          by = λ k h. absurd (omega (arith, h));
          in_order = λ k h. absurd (omega (arith, h));
          all = λ t below runs. absurd (omega (arith, below));
        });
    finished = ap length no_finishes ∙ sym first;
    finishes = λ job below. absurd (omega (arith, below, first));
  }

  -- over ticks in which the task doesn't run
  pub work_rests : (work : Work) (cursor : Cursor) (from to : ℕ) → IsWorkAt (system_of model) run task work cursor from → from ≤ to → to ≤ run.table.ticks
      → ((t : ℕ) → from ≤ t → t < to → entry_at run (timing_at (system_of model) task).core t ≡ Some task → ⊥)
      → IsWorkAt (system_of model) run task work cursor to
  work_rests work cursor from to at_from ordered within rests =
      let same = executed_rest (system_of model) run task from to ordered (omega (arith, within, ticks_are model run task of)) rests in
      record {
        stands = record {
          work = ap (λ n. n + cursor.left) same ∙ at_from.stands.work;
          begun = at_from.stands.begun;
          going = at_from.stands.going;
          over = at_from.stands.over;
          within = at_from.stands.within;
        };
        parts = record {
          each = at_from.parts.each;
          by = λ k h. omega (arith, at_from.parts.by k h, ordered);
          in_order = at_from.parts.in_order;
          all = λ t below is. elim (cases_lt t from) [
            | inl before ↦ at_from.parts.all t before is
            | inr after ↦ absurd (rests t after below is)
          ];
        };
        finished = at_from.finished;
        finishes = at_from.finishes;
      }

  -- one part on
  module _ (work : Work) (cursor next : Cursor) (from to end : ℕ) (at_from : IsWorkAt (system_of model) run task work cursor from)
      (cut : IsCutAt (system_of model) run task work.parts cursor from) (in_table : cursor.job < length (jobs_of run task))
      (within : end ≤ run.table.ticks) (runs : RunsFrom (system_of model) run task from end)
      (ends : IsPartEnd (due_in (system_of model) run task cursor.job) cursor.left from end to)
      (stands : StandsAt (system_of model) run task next to)
      (finishing : next.job ≢ cursor.job → FinishesJob (system_of model) task cursor (to - from) next)
      (next_cut : cursor.left ≡ to - from → next.job ≡ cursor.job → next.place ≢ cursor.place) where
    abbrev parts : List Part
    parts = work.parts ++ (record { job = cursor.job; place = cursor.place; from = from; to = to }) ∷ []

    further : (after : Work) → after.parts ≡ parts → length after.finishes ≡ next.job
        → ((job : ℕ) → job < next.job → JobFinishes (system_of model) run task job (slice_index after.finishes job))
        → IsFurther (system_of model) run task from end after next to
    further after parts_are finished finishes = record {
      after = ends.after;
      by = ends.by;
      at_end = record {
        stands = stands;
        parts = subst (λ (ps : List Part). ArePartsBelow (system_of model) run task ps to) (sym parts_are)
            (parts_further work cursor from to end at_from cut in_table within runs ends);
        finished = finished;
        finishes = finishes;
      };
      cut = λ below. subst (λ (ps : List Part). IsCutAt (system_of model) run task ps next to) (sym parts_are)
          (cut_further work cursor from to end at_from cut in_table within runs ends next next_cut below);
    }

    -- in the same job
    pub further_in_job : (after : Work) → after.parts ≡ parts → after.finishes ≡ work.finishes → next.job ≡ cursor.job
        → IsFurther (system_of model) run task from end after next to
    further_in_job after parts_are same is_job = further after parts_are (ap length same ∙ at_from.finished ∙ sym is_job)
        (λ job below. subst (λ (fs : List ℕ). JobFinishes (system_of model) run task job (slice_index fs job)) (sym same)
        (at_from.finishes job (omega (arith, below, is_job))))

    -- where the job finishes
    pub further_past_job : (after : Work) → after.parts ≡ parts → after.finishes ≡ work.finishes ++ to ∷ [] → next.job ≢ cursor.job
        → IsFurther (system_of model) run task from end after next to
    further_past_job after parts_are more other =
        let finishes = finishing other in
        let count = count_pushed work.finishes to 0 in
        further after parts_are (ap length more ∙ count ∙ ap (λ n. n + 1) at_from.finished ∙ sym finishes.next_job)
        (λ job below. subst (λ (fs : List ℕ). JobFinishes (system_of model) run task job (slice_index fs job)) (sym more)
        (elim (cases_lt job cursor.job) [
          | inl before ↦ subst (λ n. JobFinishes (system_of model) run task job n) (sym (kept work.finishes to 0 job (omega (arith, before, at_from.finished))))
              (at_from.finishes job before)
          | inr not ↦
              let here : length work.finishes ≡ job = omega (arith, not, below, finishes.next_job, at_from.finished) in
              let own : cursor.job ≡ job = sym at_from.finished ∙ here in
              subst (λ n. JobFinishes (system_of model) run task job n) (sym (added work.finishes to 0 job here))
              (subst (λ j. JobFinishes (system_of model) run task j to) own
              (job_finishes cursor next from to at_from.stands in_table ends.after (omega (arith, ends.by, within))
              (λ t after before. runs t after (omega (arith, before, ends.by))) finishes))
        ]))

    -- either
    pub further_by : (after : Work) → after.parts ≡ parts → (finish : Option ℕ)
        → MatchOption finish (next.job ≡ cursor.job) (λ t. (t ≡ to) × (next.job ≢ cursor.job))
        → after.finishes ≡ work.finishes ++ option_to_list finish → IsFurther (system_of model) run task from end after next to
    further_by after parts_are None same is = further_in_job after parts_are (is ∙ append-nil work.finishes) same
    further_by after parts_are (Some t) other is =
        further_past_job after parts_are (is ∙ ap (λ n. work.finishes ++ n ∷ []) other.0) other.1

  -- where a part ends that is cut by a deadline of 64 bits
  pub end_of_part : (cursor : Cursor) (due from end to : ℕ)
      → due ≡ min (due_at (jobs_of run task) (deadline_of model task) cursor.job) (2 ^ 64 - 1) → to ≡ part_end due cursor.left from end
      → 0 < cursor.left → from < end → end < 2 ^ 64 → IsPartEnd (due_in (system_of model) run task cursor.job) cursor.left from end to
  end_of_part cursor due from end to is_due is_end some ordered fits =
      let same : due ≡ min (due_in (system_of model) run task cursor.job) (2 ^ 64 - 1)
      = is_due ∙ ap (λ d. min (due_at (jobs_of run task) d cursor.job) (2 ^ 64 - 1)) (sym (deadline_is model run task of)) in
      subst (IsPartEnd (due_in (system_of model) run task cursor.job) cursor.left from end) (sym is_end)
      (uncapped (due_in (system_of model) run task cursor.job) cursor.left from end (part_end due cursor.left from end) fits
      (subst (λ d. IsPartEnd d cursor.left from end (part_end due cursor.left from end)) same (part_ends due cursor.left from end some ordered)))

  -- at the end of the run
  module _ (work : Work) (cursor : Cursor) (at_end : IsWorkAt (system_of model) run task work cursor run.table.ticks) where
    pub all_parts : AreParts (system_of model) run task work.parts
    all_parts = record { each = at_end.parts.each; in_order = at_end.parts.in_order; all = at_end.parts.all }

    module _ (last : ℕ) (is_last : suc last ≡ length (timing_at (system_of model) task).ranges) where
      -- the work through a runnable of a job is within that through the last one
      to_last : (job place : ℕ) → job < length (jobs_of run task) → place ≤ last → work_through (jobs_of run task) job place ≤ work_through (jobs_of run task) job last
      to_last job place in_table within =
          let places = places_are model run task of job in_table in
          omega (
            arith,
            through_place (jobs_of run task) job place (omega (arith, within, is_last, places)),
            through_place (jobs_of run task) job last (omega (arith, is_last, places)),
            places_rise (jobs_of run task) job (suc place) (suc last) (omega (arith, within)),
          )

      -- the jobs from the cursor's on don't finish
      unfinished : (job t : ℕ) → cursor.job ≤ job → Finishes (system_of model) run task job last t → ⊥
      unfinished job t later finishes =
          let in_table : cursor.job < length (jobs_of run task) = omega (arith, later, finishes.in_table) in
          let going = at_end.stands.going in_table in
          let grown = climb_mono (executed (system_of model) run task) (executed_climbs (system_of model) run task) t run.table.ticks finishes.by_end in
          let here = to_last cursor.job cursor.place in_table (omega (arith, going.0, is_last)) in
          elim (cases_lt cursor.job job) [
            | inl after ↦ omega (
              arith,
              going.1,
              grown,
              at_end.stands.work,
              finishes.reached,
              work_rises (jobs_of run task) cursor.job cursor.place job last in_table (omega (arith, going.0, places_are model run task of cursor.job in_table)) after,
            )
            | inr not ↦
                let same : cursor.job ≡ job = omega (arith, not, later) in
                omega (arith, going.1, grown, at_end.stands.work, finishes.reached, here, ap (λ j. work_through (jobs_of run task) j last) same)
          ]

    finish_of : (job : ℕ) (found : Option ℕ) → slice_get work.finishes job ≡ found → IsMomentOf (JobFinishes (system_of model) run task job) found
    finish_of job (Some t) is =
        let within : job < length work.finishes = elim (cases_lt job (length work.finishes)) [
          | inl before ↦ before
          | inr past ↦ absurd (none_there work.finishes job t past is)
        ] in
        subst (λ n. JobFinishes (system_of model) run task job n) (get_or_from_slice_get work.finishes job t 0 is)
        (at_end.finishes job (omega (arith, within, at_end.finished)))
    finish_of job None is = λ t finishes.
        unfinished (length (timing_at (system_of model) task).ranges - 1) (omega (arith, some_range model run task of)) job t
        (elim (cases_lt job (length work.finishes)) [
          | inl before ↦ absurd (some_there work.finishes job before is)
          | inr past ↦ omega (arith, past, at_end.finished)
        ]) finishes

    pub all_finishes : AreFinishes (system_of model) run task work.finishes
    all_finishes = record { each = λ job. finish_of job (slice_get work.finishes job) refl }

  -- parts are of jobs and runnables of the task
  pub parts_known : (ps : List Part) → AreParts (system_of model) run task ps → All (IsPartOf model run task) ps
  parts_known ps are = λ k d within.
      let is = are.each k within in
      let executes = is.executes (part_at ps k).from (omega arith) is.some in
      subst (IsPartOf model run task) (sym (get_or_default ps k d no_part within))
      (record { in_table = executes.in_table; is_runnable = omega (arith, executes.is_runnable, ranges_are model run task of) })
