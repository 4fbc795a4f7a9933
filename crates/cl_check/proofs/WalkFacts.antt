-- A walk over the stretches of a core: where it stands, and what it finds.
use Rattle.std.proofs.Common.{◌≡◌, ℕ, zero, suc, ◌+◌, ◌-◌, ◌<◌, ◌≤◌, inl, inr, Option, Some, None, true, false, cond, Bool, eq-eqb, List, length, get_or, take, refl, sym, ap, ◌∙◌, arith}
use Rattle.std.proofs.Math.Numerals.{add-one}
use Rattle.std.proofs.lemmas.Bool.{cases_lt, eqb-true, false≢true}
use Rattle.std.proofs.lemmas.List.{get_or_default, length-take, take_all}
use Rattle.std.proofs.lemmas.List.Sums.{count_by_more_yes, count_by_more_no, count_by-le-length}
use Rattle.cl_runs.specs.Run.{is_task}
use Rattle.cl_runs.proofs.Work.{sum_take_mono}
use Rattle.cl_run_data.specs.{declared.stretches.Stretch.Stretch, Stretches.{entries_from, AreLongest, AreStretchesOf, LastsFrom}, Inner.StretchPlaces.end_from}
use Rattle.cl_run_data.proofs.{StretchFacts.{length-entries, end_at_last, ends_rise}, StretchEntries.{entry_of_tick, lasts_some, last_ends}}
use Rattle.cl_check.specs.{declared.walk.Walk.Walk, Inner.Walks.{executed_in, RunsAfter, StandsIn}}

-- an entry that passes the test is the task
pub is_that_task : (task : ℕ) (who : Option ℕ) → is_task task who ≡ true → who ≡ Some task
is_that_task task None is = absurd (false≢true is)
is_that_task task (Some runs) is = ap Some (eqb-true runs task is)

-- ---- executed ticks

module _ (entries : List (Option ℕ)) (task : ℕ) where
  -- they never fall
  pub executed_grows : (s t : ℕ) → s ≤ t → executed_in entries task s ≤ executed_in entries task t
  executed_grows s t h = sum_take_mono (λ (e : Option ℕ). cond (is_task task e) 1 0) entries s t h

  -- and are no more than the ticks
  pub executed_within : (t : ℕ) → executed_in entries task t ≤ t
  executed_within t = omega (arith, count_by-le-length (is_task task) (take t entries), length-take t entries)

  -- a tick in which the task runs is one more
  pub executed_more : (t : ℕ) → t < length entries → get_or entries t None ≡ Some task
      → executed_in entries task (suc t) ≡ suc (executed_in entries task t)
  executed_more t h runs = simp add-one at (count_by_more_yes (is_task task) entries t None h (ap (is_task task) runs ∙ eq-eqb task task refl))

  pub one_more : (who : Option ℕ) (b : Bool) → is_task task who ≡ b → (t : ℕ) → t < length entries → get_or entries t None ≡ who
      → executed_in entries task (t + 1) ≡ executed_in entries task t + cond b 1 0
  one_more who true is t h same = count_by_more_yes (is_task task) entries t None h (ap (is_task task) same ∙ is)
  one_more who false is t h same = omega (arith, count_by_more_no (is_task task) entries t None h (ap (is_task task) same ∙ is))

  more : (b : Bool) (n : ℕ) → cond b n 0 + cond b 1 0 ≡ cond b (suc n) 0
  more true n = omega arith
  more false n = refl

  none : (b : Bool) → ◌≡◌ {A = ℕ} (cond b 0 0) 0
  none true = refl
  none false = refl

  -- over ticks of one entry they grow by one each, or not at all
  executed_over : (start : ℕ) (who : Option ℕ) (n : ℕ) → start + n ≤ length entries
      → ((t : ℕ) → start ≤ t → t < start + n → get_or entries t None ≡ who)
      → executed_in entries task (start + n) ≡ executed_in entries task start + cond (is_task task who) n 0
  executed_over start who zero within same =
      let here : start + 0 ≡ start = omega arith in
      omega (arith, ap (executed_in entries task) here, none (is_task task who))
  executed_over start who (suc n) within same =
      let next : start + suc n ≡ start + n + 1 = omega arith in
      omega (
        arith,
        ap (executed_in entries task) next,
        one_more who (is_task task who) refl (start + n) (omega (arith, within)) (same (start + n) (omega arith) (omega arith)),
        executed_over start who n (omega (arith, within)) (λ t after before. same t after (omega (arith, before))),
        more (is_task task who) n,
      )

-- ---- walks

module _ (ss : List Stretch) (longest : AreLongest 0 ss) (task : ℕ) (walk : Walk) (stands : StandsIn ss task walk) where
  of : AreStretchesOf (entries_from 0 ss) ss
  of = record { longest = longest; entries_are = refl }

  lasts : (d : Stretch) → walk.place < length ss → LastsFrom ss walk.place walk.start (get_or ss walk.place d).end
  lasts d h = record {
    within = h;
    first = stands.first;
    next = stands.next;
    ends = λ e. ap (λ (s : Stretch). s.end) (get_or_default ss walk.place d e h);
  }

  -- the stretch ends after it starts
  pub ends_later : (d : Stretch) → walk.place < length ss → walk.start < (get_or ss walk.place d).end
  ends_later d h = lasts_some (entries_from 0 ss) ss of walk.place walk.start _ (lasts d h)

  -- and within the entries
  ends_within : (d : Stretch) → walk.place < length ss → (get_or ss walk.place d).end ≤ length (entries_from 0 ss)
  ends_within d h = elim (cases_lt (suc walk.place) (length ss)) [
    | inl before ↦ omega (
      arith,
      length-entries ss 0 longest,
      end_at_last ss 0 (length ss - 1) d (omega (arith, before)),
      ends_rise ss 0 walk.place (length ss - 1) d longest (omega (arith, before)) (omega (arith, before)),
    )
    | inr last ↦ omega (arith, last_ends (entries_from 0 ss) ss of walk.place walk.start _ (lasts d h) (omega (arith, last, h)))
  ]

  entry_is : (d : Stretch) → walk.place < length ss → (t : ℕ) → walk.start ≤ t → t < (get_or ss walk.place d).end
      → get_or (entries_from 0 ss) t None ≡ (get_or ss walk.place d).who
  entry_is d h t after before = entry_of_tick (entries_from 0 ss) ss of walk.place walk.start _ (lasts d h) t d after before

  -- in a stretch of the task the tick after so many executed ones is as far from the start
  pub tick_found : (d : Stretch) → walk.place < length ss → (work tick : ℕ) → walk.executed ≤ work
      → is_task task (get_or ss walk.place d).who ≡ true → tick + walk.executed ≡ walk.start + work → tick < (get_or ss walk.place d).end
      → RunsAfter (entries_from 0 ss) task work tick
  tick_found d h work tick ahead is far before =
      let there : walk.start + (tick - walk.start) ≡ tick = omega (arith, ahead, far) in
      record {
        within = omega (arith, before, ends_within d h);
        reached = omega (
          arith,
          far,
          ahead,
          stands.reached,
          ap (executed_in (entries_from 0 ss) task) there,
          ap (λ b. cond b (tick - walk.start) 0) is,
          executed_over (entries_from 0 ss) task walk.start (get_or ss walk.place d).who (tick - walk.start)
              (omega (arith, before, there, ends_within d h))
              (λ t after below. entry_is d h t after (omega (arith, below, there, before))),
        );
        runs = entry_is d h tick (omega (arith, ahead, far)) before ∙ is_that_task task _ is;
      }

  -- past the stretch the walk stands at the next one
  pub passed : (d : Stretch) → walk.place < length ss
      → StandsIn ss task (record {
        place = walk.place + 1;
        start = (get_or ss walk.place d).end;
        executed = walk.executed + cond (is_task task (get_or ss walk.place d).who) ((get_or ss walk.place d).end - walk.start) 0;
      })
  passed d h =
      let over : walk.start + ((get_or ss walk.place d).end - walk.start) ≡ (get_or ss walk.place d).end = omega (arith, ends_later d h) in
      record {
        within = omega (arith, h);
        first = λ none. absurd (omega (arith, none));
        next = λ before e is.
            let same : before ≡ walk.place = omega (arith, is) in
            ap (λ (s : Stretch). s.end) (get_or_default ss walk.place d e h) ∙ ap (λ n. (get_or ss n e).end) (sym same);
        reached = omega (
          arith,
          stands.reached,
          ap (executed_in (entries_from 0 ss) task) over,
          executed_over (entries_from 0 ss) task walk.start (get_or ss walk.place d).who ((get_or ss walk.place d).end - walk.start)
              (omega (arith, over, ends_within d h))
              (λ t after below. entry_is d h t after (omega (arith, below, over))),
        );
      }

  no_stretch : Stretch
  no_stretch = record { who = None; end = 0 }

  at_end : (place : ℕ) → place ≡ walk.place → length ss ≤ place → walk.start ≡ length (entries_from 0 ss)
  at_end zero is end = omega (arith, stands.first (sym is), length-entries ss 0 longest, ap (end_from 0) (take_all 0 ss end))
  at_end (suc before) is end = omega (
    arith,
    stands.next before no_stretch is,
    end_at_last ss 0 before no_stretch (omega (arith, is, end, stands.within)),
    length-entries ss 0 longest,
  )

  -- at the end nothing more is executed
  pub nothing_found : length ss ≤ walk.place → (work : ℕ) → walk.executed ≤ work → (t : ℕ) → RunsAfter (entries_from 0 ss) task work t → ⊥
  nothing_found end work ahead t runs = omega (
    arith,
    ahead,
    stands.reached,
    runs.reached,
    executed_more (entries_from 0 ss) task t runs.within runs.runs,
    executed_grows (entries_from 0 ss) task (suc t) walk.start (omega (arith, runs.within, at_end walk.place refl end)),
  )
