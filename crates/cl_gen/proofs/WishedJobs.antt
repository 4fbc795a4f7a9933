-- Jobs that are wished for, one after the other: what holds so far, of one more, and of all.
use Rattle.std.proofs.Common.{◌≡◌, ℕ, suc, ◌+◌, ◌<◌, ◌≤◌, List, [], ◌∷◌, ◌++◌, length, sym, ap, ◌∙◌, subst, arith, append_assoc, length-append}
use Rattle.std.proofs.lemmas.List.{append-nil}
use Rattle.cl_model.specs.{declared.stimulus.StimulusKind.StimulusKind, Timing.greatest_jitter}
use Rattle.cl_runs.specs.{declared.job.Job.Job, Pattern.{first_least, first_greatest, least_gap, greatest_gap}, Arrivals.{IsArrival, AreArrivalsFrom, FollowPattern}}

-- the jobs so far, where the next one arrives as is known, in [low, high]: whatever follows the pattern from there on, all
-- together follow it
pub record FollowSoFar (pattern : StimulusKind) (ticks : ℕ) (jobs : List Job) (arrival : ℕ) : Type 0 where
  pub low : ℕ
  pub high : ℕ
  pub not_early : low ≤ arrival
  pub not_late : arrival ≤ high
  pub with_rest : (rest : List Job) → AreArrivalsFrom pattern ticks (length jobs) low high rest → FollowPattern pattern ticks (jobs ++ rest)

module _ (pattern : StimulusKind) (ticks : ℕ) where
  pub none_yet : (jobs : List Job) (arrival low high : ℕ) → jobs ≡ [] → low ≡ first_least pattern → high ≡ first_greatest pattern
      → low ≤ arrival → arrival ≤ high → FollowSoFar pattern ticks jobs arrival
  none_yet jobs arrival low high none is_low is_high early late = subst (λ list. FollowSoFar pattern ticks list arrival) (sym none)
      (record {
        low = first_least pattern;
        high = first_greatest pattern;
        not_early = omega arith;
        not_late = omega arith;
        with_rest = λ rest follow. follow;
      })

  pub one_more : (jobs more : List Job) (job : Job) (arrival low high next : ℕ) → FollowSoFar pattern ticks jobs arrival → arrival < ticks
      → job.arrival ≡ arrival → arrival ≤ job.release → job.release ≤ arrival + greatest_jitter pattern → more ≡ jobs ++ job ∷ []
      → low ≡ arrival + least_gap pattern (length jobs) → high ≡ arrival + greatest_gap pattern (length jobs)
      → low ≤ next → next ≤ high → FollowSoFar pattern ticks more next
  one_more jobs more job arrival low high next so_far in_time arrives released in_jitter is_more is_low is_high early late =
      let k = length jobs in
      let long : length more ≡ suc k = omega (arith, ap length is_more, length-append jobs (job ∷ [])) in
      let here : IsArrival pattern ticks so_far.low so_far.high job = record {
        not_early = omega (arith, so_far.not_early, arrives);
        not_late = omega (arith, so_far.not_late, arrives);
        arrives = omega (arith, in_time, arrives);
        released = omega (arith, released, arrives);
        in_jitter = omega (arith, in_jitter, arrives);
      } in
      record {
        low = job.arrival + least_gap pattern k;
        high = job.arrival + greatest_gap pattern k;
        not_early = omega (arith, early, is_low, arrives);
        not_late = omega (arith, late, is_high, arrives);
        with_rest = λ rest follow.
            subst (λ list. FollowPattern pattern ticks list) (sym (append_assoc jobs (job ∷ []) rest) ∙ ap (λ list. list ++ rest) (sym is_more))
            (so_far.with_rest (job ∷ rest) (
              here,
              subst (λ n. AreArrivalsFrom pattern ticks n (job.arrival + least_gap pattern k) (job.arrival + greatest_gap pattern k) rest) long follow,
            ));
      }

  -- where the next one doesn't arrive in time, they are all
  pub all_wished : (jobs : List Job) (arrival : ℕ) → FollowSoFar pattern ticks jobs arrival → ticks ≤ arrival → FollowPattern pattern ticks jobs
  all_wished jobs arrival so_far end =
      subst (λ list. FollowPattern pattern ticks list) (append-nil jobs) (so_far.with_rest [] (omega (arith, end, so_far.not_late)))
