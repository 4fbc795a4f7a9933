-- Each chain of a valid model whose tasks are all timed and periodic has exact lengths, whatever its hyperperiod.
use Rattle.std.proofs.Common.{◌≡◌, ℕ, zero, suc, ◌+◌, ◌-◌, ◌<◌, ◌≤◌, ◌⊎◌, List, [], ◌∷◌, ◌++◌, length, length-append, take, max, refl, sym, ap, subst, ◌∙◌, arith, inl, inr}
use Rattle.std.specs.Prelude.{slice_index}
use Rattle.std.proofs.Math.ListN.{get_or-append}
use Rattle.std.proofs.Math.Seq.{get_or-append_seam}
use Rattle.std.proofs.lemmas.Bool.{cases_lt}
use Rattle.std.proofs.lemmas.List.Sums.{sum_by-take-le}
use Rattle.cl_exact.specs.{declared.{beat.Beat.Beat, scan.Greatest.Greatest}, Inner.{Beats.{AreBeats, beat_in, read_at, forward_job, last_writer, reaction_of}, Scans.{IsGreatestOf, NoneHas, IsFirstWith}, Walks.{IsForwardWalk, IsLastWritingJob, IsBackwardWalk, start_of, start_up_of}}}
use Rattle.cl_exact.specs.Inner.{Walks.IsLatestSecond, Found.last_beat}
use Rattle.cl_exact.proofs.{ScanFacts.{greatest_stays, greatest_rises, none_more}, WalkFacts.{last_writer_is, late_enough, late_back, latest_more}}

-- ---- lists

-- a list with one more number, at the places before it and at its own
before_last : (xs : List ℕ) (x n i : ℕ) → length xs ≡ n → i < n → slice_index (xs ++ x ∷ []) i ≡ slice_index xs i
before_last xs x n i many below = get_or-append xs (x ∷ []) 0 i (omega (arith, many, below))

at_last : (xs : List ℕ) (x n : ℕ) → length xs ≡ n → slice_index (xs ++ x ∷ []) n ≡ x
at_last xs x n many = ap (slice_index (xs ++ x ∷ [])) (sym many) ∙ get_or-append_seam xs x [] 0

longer : (xs : List ℕ) (x n : ℕ) → length xs ≡ n → length (xs ++ x ∷ []) ≡ suc n
longer xs x n many = length-append xs (x ∷ []) ∙ omega (arith, many)

-- the numbers that a function gives
table : (f : ℕ → ℕ) (n : ℕ) → (xs : List ℕ) × (length xs ≡ n) × ((i : ℕ) → i < n → slice_index xs i ≡ f i)
table f zero = ([], refl, λ i none. absurd (omega (arith, none)))
table f (suc n) =
    let rest = table f n in (
      rest.0 ++ f n ∷ [],
      longer rest.0 (f n) n rest.1,
      λ i below. elim (cases_lt i n) [
        | inl before ↦ before_last rest.0 (f n) n i rest.1 before ∙ rest.2 i before
        | inr last ↦
            let here : n ≡ i = omega (arith, last, below) in
            subst (λ k. slice_index (rest.0 ++ f n ∷ []) k ≡ f k) here (at_last rest.0 (f n) n rest.1)
      ],
    )

-- ---- chains

-- each first job has a forward chain
pub has_forward : (beats : List Beat) (first : ℕ) → (jobs : List ℕ) × IsForwardWalk beats first jobs
has_forward beats first =
    let jobs = table (forward_job beats first) (length beats) in
    (jobs.0, record { as_many = jobs.1; each = jobs.2 })

-- the jobs of a backward chain down from the group of a place
record IsWalkFrom (beats : List Beat) (place job : ℕ) (jobs : List ℕ) : Type 0 where
  as_many : length jobs ≡ suc place
  linked : (k : ℕ) → suc k ≤ place → IsLastWritingJob (beat_in beats k) (beat_in beats (suc k)) (slice_index jobs k) (slice_index jobs (suc k))
  last_is : slice_index jobs place ≡ job

walk_from : (beats : List Beat) → AreBeats beats → (place job : ℕ) → place < length beats
    → start_up_of (take place beats) ≤ read_at (beat_in beats place) job → (jobs : List ℕ) × IsWalkFrom beats place job jobs
walk_from beats are zero job within late =
    (job ∷ [], record { as_many = refl; linked = λ k none. absurd (omega (arith, none)); last_is = refl })
walk_from beats are (suc place) job within late =
    let some : 1 ≤ suc place = omega arith in
    let before : place < length beats = omega (arith, within) in
    let same : suc place - 1 ≡ place = omega arith in
    let writer : ℕ = last_writer (beat_in beats place) (read_at (beat_in beats (suc place)) job) in
    let enough = subst (λ k. (beat_in beats k).offset + (beat_in beats k).deadline ≤ read_at (beat_in beats (suc place)) job) same
    (late_enough beats (suc place) job some within late) in
    let late_writer = subst (λ k. start_up_of (take k beats) ≤ read_at (beat_in beats k) (last_writer (beat_in beats k) (read_at (beat_in beats (suc place)) job))) same
    (late_back beats are (suc place) job some within late) in
    let link = last_writer_is (beat_in beats place) (beat_in beats (suc place)) (are.each place before).some_period job enough in
    let rest = walk_from beats are place writer before late_writer in
    let many = rest.1.as_many in (
      rest.0 ++ job ∷ [],
      record {
        as_many = longer rest.0 job (suc place) many;
        linked = λ k within. elim (cases_lt k place) [
          | inl earlier ↦
              let one = before_last rest.0 job (suc place) k many (omega (arith, earlier)) in
              let other = before_last rest.0 job (suc place) (suc k) many (omega (arith, earlier)) in
              subst (λ w. IsLastWritingJob (beat_in beats k) (beat_in beats (suc k)) w (slice_index (rest.0 ++ job ∷ []) (suc k))) (sym one)
              (subst (λ r. IsLastWritingJob (beat_in beats k) (beat_in beats (suc k)) (slice_index rest.0 k) r) (sym other) (rest.1.linked k (omega (arith, earlier))))
          | inr last ↦
              let here : place ≡ k = omega (arith, last, within) in
              let one = before_last rest.0 job (suc place) place many (omega arith) ∙ rest.1.last_is in
              let other = at_last rest.0 job (suc place) many in
              subst (λ n. IsLastWritingJob (beat_in beats n) (beat_in beats (suc n)) (slice_index (rest.0 ++ job ∷ []) n) (slice_index (rest.0 ++ job ∷ []) (suc n))) here
              (subst (λ w. IsLastWritingJob (beat_in beats place) (beat_in beats (suc place)) w (slice_index (rest.0 ++ job ∷ []) (suc place))) (sym one)
              (subst (λ r. IsLastWritingJob (beat_in beats place) (beat_in beats (suc place)) writer r) (sym other) link))
        ];
        last_is = at_last rest.0 job (suc place) many;
      },
    )

-- each last job that reads at or after the start-up has a backward chain
pub has_backward : (beats : List Beat) → AreBeats beats → (last : ℕ) → start_up_of beats ≤ read_at (last_beat beats) last
    → (jobs : List ℕ) × IsBackwardWalk beats last jobs
has_backward beats are last late =
    let place : ℕ = length beats - 1 in
    let whole : suc place ≡ length beats = omega (arith, are.some) in
    let walk = walk_from beats are place last (omega (arith, whole)) (omega (arith, late, sum_by-take-le start_of beats place)) in (
      walk.0,
      record {
        as_many = walk.1.as_many ∙ whole;
        linked = λ k within. walk.1.linked k (omega (arith, within, whole));
        last_is = walk.1.last_is;
      },
    )

-- ---- searches

-- some first jobs have a greatest reaction
pub has_greatest : (beats : List Beat) (first count : ℕ) → (greatest : Greatest) × IsGreatestOf beats first count greatest
has_greatest beats first zero = (
  record { reaction = 0; job = first },
  record {
    not_before = omega arith;
    above_all = λ job from below. absurd (omega (arith, from, below));
    first_of = λ job from less. absurd (omega (arith, from, less));
    within = λ none. absurd (omega (arith, none));
    attained = λ none. absurd (omega (arith, none));
  },
)
has_greatest beats first (suc count) =
    let rest = has_greatest beats first count in
    let now : Greatest = record { reaction = reaction_of beats (first + count); job = first + count } in
    let one : count + 1 ≡ suc count = omega arith in
    let alone : (job : ℕ) → first + count ≤ job → job < first + count + 1 → reaction_of beats job ≡ now.reaction
    = λ job from below. ap (reaction_of beats) (omega (arith, from, below)) in
    let here : IsFirstWith beats (first + count) 1 now.reaction now.job = record {
      not_before = omega arith;
      within = omega arith;
      has = refl;
      first_of = λ earlier from less. absurd (omega (arith, from, less));
    } in
    let rises = λ (more : 0 < count → rest.0.reaction < now.reaction). subst (λ n. IsGreatestOf beats first n now) one
    (greatest_rises beats first count 1 rest.0 now rest.1 more (λ job from below. omega (arith, alone job from below)) here) in
    elim (cases_lt 0 count) [
      | inl some ↦ elim (cases_lt rest.0.reaction now.reaction) [
        | inl greater ↦ (now, rises (λ _. greater))
        | inr less ↦ (
          rest.0,
          subst (λ n. IsGreatestOf beats first n rest.0) one
              (greatest_stays beats first count 1 rest.0 some rest.1 (λ job from below. omega (arith, less, alone job from below))),
        )
      ]
      | inr none ↦ (now, rises (λ some. absurd (omega (arith, some, none))))
    ]

-- a reaction is had by a first one of some first jobs, or by none
pub has_first : (beats : List Beat) (first count reaction : ℕ)
    → NoneHas beats first count reaction ⊎ ((job : ℕ) × IsFirstWith beats first count reaction job)
has_first beats first zero reaction = inl (λ job from below. absurd (omega (arith, from, below)))
has_first beats first (suc count) reaction =
    let one : count + 1 ≡ suc count = omega arith in
    elim (has_first beats first count reaction) [
      | inr found ↦ inr (
        found.0,
        record {
          not_before = found.1.not_before;
          within = omega (arith, found.1.within);
          has = found.1.has;
          first_of = found.1.first_of;
        },
      )
      | inl none ↦
          let lacks : (reaction_of beats (first + count) ≡ reaction → ⊥) → NoneHas beats first (suc count) reaction
          = λ fails. subst (λ n. NoneHas beats first n reaction) one (none_more beats first count 1 reaction none
          (λ job from below is. fails (ap (reaction_of beats) (omega (arith, from, below)) ∙ is))) in
          elim (cases_lt (reaction_of beats (first + count)) reaction) [
            | inl less ↦ inl (lacks (λ is. omega (arith, less, is)))
            | inr more ↦ elim (cases_lt reaction (reaction_of beats (first + count))) [
              | inl greater ↦ inl (lacks (λ is. omega (arith, greater, is)))
              | inr same ↦ inr (
                first + count,
                record {
                  not_before = omega arith;
                  within = omega arith;
                  has = omega (arith, more, same);
                  first_of = λ earlier from less has. none earlier from less has;
                },
              )
            ]
          ]
    ]

-- ---- the start-up

record IsLatestOf (beats : List Beat) (count latest : ℕ) : Type 0 where
  above : (place : ℕ) → place < count → (beat_in beats place).offset + (beat_in beats place).period ≤ latest
  least : (other : ℕ) → ((place : ℕ) → place < length beats → (beat_in beats place).offset + (beat_in beats place).period ≤ other) → latest ≤ other

latest_of : (beats : List Beat) (count : ℕ) → count ≤ length beats → (latest : ℕ) × IsLatestOf beats count latest
latest_of beats zero within = (0, record { above = λ place none. absurd (omega (arith, none)); least = λ other _. omega arith })
latest_of beats (suc count) within =
    let rest = latest_of beats count (omega (arith, within)) in
    let next : ℕ = max ((beat_in beats count).offset + (beat_in beats count).period) rest.0 in (
      next,
      record {
        above = λ place below. latest_more beats count rest.0 next refl rest.1.above place (omega (arith, below));
        least = λ other all. omega (arith, rest.1.least other all, all count (omega (arith, within)));
      },
    )

pub has_latest : (beats : List Beat) → (latest : ℕ) × IsLatestSecond beats latest
has_latest beats =
    let found = latest_of beats (length beats) (omega arith) in
    (found.0, record { above_all = found.1.above; least = found.1.least })
