-- The search through the moments of a cycle, where a job arrives at each and has no jitter.
use Rattle.std.proofs.Common.{◌≡◌, ℕ, ◌*◌, ◌≤◌, true, ℤ, pos, ◌+ℤ◌, ◌-ℤ◌, ◌*ℤ◌, ◌≤ℤ◌, ◌<ℤ◌, ap, ◌∙◌, subst, arith}
use Rattle.std.specs.Prelude.{Option, unwrap_or}
use Rattle.std.proofs.lemmas.Int.{ints, by_lt_z}
use Rattle.std.proofs.Math.IntN.{one, *ℤ-one}
use Rattle.cl_stim.specs.Phase.{IsArrivalOf, last_arrival, arrives_at}
use Rattle.cl_stim.proofs.{ArrivalTests.test_from_arrival, PhaseSteps.{last_before, last_after}}
use Rattle.cl_resp.specs.{declared.phased.PhasedQuestion.PhasedQuestion, Asked.{suffices, MayBegin, EndsBy}, Inner.{Phased.{asked_of, IsPhasedInRange, IsLeastFrom}, Searching.{WindowsWithin, NoneReleased, IsAfter}}}
use Rattle.cl_resp.proofs.{Windows.demand_some, SearchedStarts.{ends_later, least_ends, answered_from, suffices_from}, SearchedReleases.{ends_a_tick_earlier, holds_back, after_last}}

-- once a number is the number
once : (z : ℤ) → (z *ℤ pos 1) ≡ z
unfolding one
once z = *ℤ-one z

module _ (question : PhasedQuestion) (range : IsPhasedInRange question) (each : question.arrivals.period ≡ 1) (moment : ℤ) where
  -- a job arrives at each moment
  is_arrival : IsArrivalOf question.arrivals moment
  is_arrival =
      let turn = moment -ℤ pos question.arrivals.offset in
      let times : (turn *ℤ pos question.arrivals.period) ≡ turn = ap (λ n. turn *ℤ pos n) each ∙ once turn in
      record {
        turn = turn;
        place = 0;
        within = omega (arith, range.arrivals.is_phase.some);
        arrives = at moment question.arrivals.offset question.arrivals.distance (turn *ℤ pos question.arrivals.period) times;
      }
    where
      at : (moment : ℤ) (offset distance : ℕ) (turns : ℤ) → turns ≡ (moment -ℤ pos offset) → moment ≡ (pos offset +ℤ turns) +ℤ pos (0 * distance)
      at moment offset distance turns is = omega (arith, ints, is)

  -- the test says so
  pub arrives_there : arrives_at question.arrivals moment ≡ true
  arrives_there = test_from_arrival question.arrivals range.arrivals.is_phase moment is_arrival

  -- its window may begin there
  pub begins_itself : MayBegin (asked_of question) moment moment
  begins_itself = record {
    after = omega (arith, ints, last_before question.arrivals range.arrivals.is_phase (moment -ℤ pos 1));
    by = omega (arith, ints);
  }

module _ (question : PhasedQuestion) (range : IsPhasedInRange question) (each : question.arrivals.period ≡ 1) (no_jitter : question.beside.jitter ≡ 0) where
  -- its window begins nowhere else
  only_there : (moment start : ℤ) → MayBegin (asked_of question) moment start → moment ≡ start
  only_there moment start may =
      let last = last_after question.arrivals range.arrivals.is_phase (moment -ℤ pos 1) (moment -ℤ pos 1) (is_arrival question range each (moment -ℤ pos 1)) (itself (moment -ℤ pos 1)) in
      same moment start (last_arrival question.arrivals (moment -ℤ pos 1)) question.beside.jitter no_jitter last may.after may.by
    where
      itself : (z : ℤ) → z ≤ℤ z
      itself z = omega (arith, ints)

      same : (moment start last : ℤ) (jitter : ℕ) → jitter ≡ 0 → (moment -ℤ pos 1) ≤ℤ last → (last +ℤ pos 1) ≤ℤ start → start ≤ℤ (moment +ℤ pos jitter) → moment ≡ start
      same moment start last jitter none at after by = omega (arith, ints, none, at, after, by)

  -- where the windows of all moments are within a response, it suffices
  pub moments_suffice : (response : ℕ) (after : ℤ) → after <ℤ pos 0 → WindowsWithin (asked_of question) response after (pos question.cycle) → suffices (asked_of question) response ≡ true
  moments_suffice response after first within =
      suffices_from (asked_of question) response (λ moment below arrives.
      answered_from (asked_of question) range.arrivals.is_phase (pos moment) response (λ start may.
      subst (λ z. EndsBy (asked_of question) z (pos moment +ℤ pos response)) (only_there (pos moment) start may)
      (within (pos moment) (omega (arith, ints, first)) (omega (arith, ints, below)))))

module _ (question : PhasedQuestion) where
  -- none begins between a moment and the next
  pub none_within : (response : ℕ) (after before : ℤ) → before ≤ℤ (after +ℤ pos 1) → WindowsWithin (asked_of question) response after before
  none_within response after before next start later earlier = absurd (omega (arith, ints, next, later, earlier))

  -- a window as wide as the longest that holds its own demand ends within it
  pub held_within : (longest : ℕ) (start : ℤ) → 1 ≤ question.beside.time → (asked_of question).demand start longest ≤ longest
      → EndsBy (asked_of question) start (start +ℤ pos longest)
  held_within longest start some enough = record {
    width = longest;
    some = omega (arith, some, demand_some question.beside longest, enough);
    by = omega (arith, ints);
    enough = enough;
  }

  -- and so does the least
  pub least_within : (longest width : ℕ) (start : ℤ) → IsLeastFrom (asked_of question) start width → width ≤ longest
      → EndsBy (asked_of question) start (start +ℤ pos longest)
  least_within longest width start window enough =
      ends_later (asked_of question) start (start +ℤ pos width) (start +ℤ pos longest) (omega (arith, ints, enough)) (least_ends (asked_of question) start width window)

  -- the search at its next start
  pub within_further : (longest longer : ℕ) (start end next other : ℤ) (last : Option ℤ)
      → WindowsWithin (asked_of question) longest start end → longest ≤ longer → EndsBy (asked_of question) start (start +ℤ pos longer)
      → next ≡ unwrap_or last other → ((moment : ℤ) → IsAfter last moment → moment <ℤ start → NoneReleased question moment)
      → WindowsWithin (asked_of question) longer next end
  within_further longest longer start end next other last within more here is none begin after before =
      by_lt_z start begin
      (λ later. ends_later (asked_of question) begin (begin +ℤ pos longest) (begin +ℤ pos longer) (omega (arith, ints, more)) (within begin later before))
      (λ earlier. holds_back question (λ moment. EndsBy (asked_of question) moment (moment +ℤ pos longer)) last start none
      (λ moment free ends. ends_a_tick_earlier question moment (moment +ℤ pos longer) free
      (ends_later (asked_of question) (moment +ℤ pos 1) ((moment +ℤ pos 1) +ℤ pos longer) ((moment +ℤ pos longer) +ℤ pos 1) (omega (arith, ints)) ends))
      here begin (after_last last other begin (subst (λ z. z <ℤ begin) is after)) earlier)
