-- How many jobs a window of ticks can release, where jobs so far apart in number are so far apart in time.
use Rattle.std.proofs.Common.{◌≡◌, ℕ, zero, suc, ◌+◌, ◌*◌, ◌<◌, ◌≤◌, ◌⊎◌, inl, inr, cond, ◌&&◌, nat_le, nat_lt, List, [], ◌∷◌, length, refl, arith}
use Rattle.std.proofs.lemmas.Bool.{cases_Bool, cases_lt, and_parts, ltb-true, leb-true, cond-true, cond-false}
use Rattle.std.proofs.lemmas.Bool.Decides.{nat_tests}
use Rattle.std.proofs.lemmas.List.Sums.{sum_by-cons}
use Rattle.cl_runs.specs.{declared.job.Job.Job, Table.job_at}
use Rattle.cl_stim.specs.{Jobs.AreReleased, Releases.releases_in}

-- ---- what a window counts

none_released : (start width : ℕ) → releases_in [] start width ≡ 0
unfolding releases_in
none_released start width = refl

-- whether a job is released in the window, as a number
part : (start width release : ℕ) → ℕ
part start width release = cond (nat_le start release && nat_lt release (start + width)) 1 0

released_cons : (job : Job) (jobs : List Job) (start width : ℕ)
    → releases_in (job ∷ jobs) start width ≡ part start width job.release + releases_in jobs start width
unfolding releases_in part
released_cons job jobs start width = sum_by-cons (λ (j : Job). cond (nat_le start j.release && nat_lt j.release (start + width)) 1 0) job jobs

part_split : (start width more release : ℕ) → part start (width + more) release ≤ part start width release + part (start + width) more release
unfolding part
part_split start width more release = grind (arith, nat_tests)

-- a window counts no more than its two parts
pub window_split : (jobs : List Job) (start width more : ℕ)
    → releases_in jobs start (width + more) ≤ releases_in jobs start width + releases_in jobs (start + width) more
window_split [] start width more = omega (arith, none_released start (width + more))
window_split (job ∷ jobs) start width more = omega (
  arith,
  released_cons job jobs start (width + more),
  released_cons job jobs start width,
  released_cons job jobs (start + width) more,
  part_split start width more job.release,
  window_split jobs start width more,
)

-- ---- the first and the last job that it counts

record Spans (jobs : List Job) (start width count : ℕ) : Type 0 where
  first : ℕ
  last : ℕ
  in_list : last < length jobs
  from : start ≤ (job_at jobs first).release
  below : (job_at jobs last).release < start + width
  apart : first + count ≤ suc last

-- with a further job before them
further : (job : Job) (jobs : List Job) (start width count : ℕ) → Spans jobs start width count → Spans (job ∷ jobs) start width count
further job jobs start width count spans = record {
  first = suc spans.first;
  last = suc spans.last;
  in_list = omega (arith, spans.in_list);
  from = spans.from;
  below = spans.below;
  apart = omega (arith, spans.apart);
}

record IsInside (start width release : ℕ) : Type 0 where
  from : start ≤ release
  below : release < start + width
  one : part start width release ≡ 1

inside_or_not : (start width release : ℕ) → IsInside start width release ⊎ (part start width release ≡ 0)
unfolding part
inside_or_not start width release = elim (cases_Bool (nat_le start release && nat_lt release (start + width))) [
  | inl inside ↦
      let parts = and_parts (nat_le start release) (nat_lt release (start + width)) inside in
      inl (record {
        from = leb-true start release parts.0;
        below = ltb-true release (start + width) parts.1;
        one = cond-true {A = ℕ} _ 1 0 inside;
      })
  | inr outside ↦ inr (cond-false {A = ℕ} _ 1 0 outside)
]

-- a job in the window comes first
with_first : (job : Job) (jobs : List Job) (start width before count : ℕ) → IsInside start width job.release → count ≡ suc before
    → (before ≡ 0) ⊎ Spans jobs start width before → Spans (job ∷ jobs) start width count
with_first job jobs start width before count inside more (inl none) = record {
  first = 0;
  last = 0;
  in_list = omega arith;
  from = inside.from;
  below = inside.below;
  apart = omega (arith, more, none);
}
with_first job jobs start width before count inside more (inr spans) = record {
  first = 0;
  last = suc spans.last;
  in_list = omega (arith, spans.in_list);
  from = inside.from;
  below = spans.below;
  apart = omega (arith, more, spans.apart);
}

-- and one outside isn't counted
without_first : (job : Job) (jobs : List Job) (start width before count : ℕ) → count ≡ before
    → (before ≡ 0) ⊎ Spans jobs start width before → (count ≡ 0) ⊎ Spans (job ∷ jobs) start width count
without_first job jobs start width before count same (inl none) = inl (omega (arith, same, none))
without_first job jobs start width before count same (inr spans) =
    let moved : Spans (job ∷ jobs) start width before = further job jobs start width before spans in
    inr (record {
      first = moved.first;
      last = moved.last;
      in_list = moved.in_list;
      from = moved.from;
      below = moved.below;
      apart = omega (arith, same, moved.apart);
    })

spans : (jobs : List Job) (start width : ℕ) → (releases_in jobs start width ≡ 0) ⊎ Spans jobs start width (releases_in jobs start width)
spans [] start width = inl (none_released start width)
spans (job ∷ jobs) start width = elim (inside_or_not start width job.release) [
  | inl inside ↦ inr (with_first job jobs start width _ _ inside (omega (arith, released_cons job jobs start width, inside.one)) (spans jobs start width))
  | inr outside ↦ without_first job jobs start width _ _ (omega (arith, released_cons job jobs start width, outside)) (spans jobs start width)
]

-- ---- how many it can count

-- jobs at least `count` apart in number arrive at least `distance` apart in time
abbrev pub AreApart : (count distance : ℕ) → List Job → Type 0
AreApart count distance jobs = (m n : ℕ) → m + count ≤ n → n < length jobs → (job_at jobs m).arrival + distance ≤ (job_at jobs n).arrival

module _ (count distance jitter : ℕ) (jobs : List Job) (in_order : AreApart 0 0 jobs) (apart : AreApart count distance jobs)
    (released : AreReleased jitter jobs) where
  -- so are jobs that many times as far apart
  apart_often : (times : ℕ) → AreApart (times * count) (times * distance) jobs
  apart_often zero = λ m n h below. omega (arith, in_order m n (omega arith) below)
  apart_often (suc times) = λ m n h below. omega (
    arith,
    apart m (m + count) (omega arith) (omega arith),
    apart_often times (m + count) n (omega arith) below,
  )

  -- a window that with the jitter holds so many distances holds at most so many times the count of jobs
  pub few_in : (start width times : ℕ) → width + jitter ≤ times * distance → releases_in jobs start width ≤ times * count
  few_in start width times fits = elim (cases_lt (times * count) (releases_in jobs start width)) [
    | inr few ↦ few
    | inl more ↦ elim (spans jobs start width) [
      | inl none ↦ absurd (omega (arith, more, none))
      | inr s ↦ absurd (omega (
        arith,
        fits,
        s.from,
        s.below,
        apart_often times s.first s.last (omega (arith, more, s.apart)) s.in_list,
        released.not_late s.first (omega (arith, more, s.apart, s.in_list)),
        released.not_early s.last s.in_list,
      ))
    ]
  ]
