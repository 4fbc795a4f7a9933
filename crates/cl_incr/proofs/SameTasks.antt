-- The questions of two tasks: the test of their parts tells whether they are the same.
use Rattle.std.proofs.Common.{◌≡◌, Bool, ◌&&◌, eqb, List, [], ◌∷◌, refl, ap, arith}
use Rattle.std.specs.Prelude.{map, filter}
use Rattle.std.specs.Bool.{Decides}
use Rattle.std.specs.Cmp.Lexicographic.{pointwise}
use Rattle.std.proofs.lemmas.Bool.{and_parts, and_from}
use Rattle.std.proofs.lemmas.Bool.Decides.{Decides-eqb, nat_tests}
use Rattle.cl_model.specs.declared.stimulus.StimulusKind.{StimulusKind, TheVariants.{Periodic, Sporadic, Burst}}
use Rattle.cl_runs.specs.{TaskTiming.{Timing, System}, Priorities.is_above}
use Rattle.cl_stim.specs.{AnyStimulus.as_stimulus, contracts.any_stimulus.AnyStimulusPartialEq.TheImpl.ghosts}
use Rattle.cl_resp.specs.{declared.question.{Above.Above, Question.Question}, Question.{taken_by, question_of}}

-- ---- lists

module _ {T X : Type 0} (f : T → X) (E : X → X → Bool) (exact : (t u : T) → Decides (E (f t) (f u)) (f t ≡ f u)) where
  heads : (x y : X) (xs ys : List X) → x ∷ xs ≡ y ∷ ys → x ≡ y
  heads x y xs ys same = cc

  tails : (x y : X) (xs ys : List X) → x ∷ xs ≡ y ∷ ys → xs ≡ ys
  tails x y xs ys same = cc

  mapped_decides : (ts us : List T) → Decides (pointwise E (map f ts) (map f us)) (map f ts ≡ map f us)
  mapped_decides [] [] = (λ is. refl, λ same. refl)
  mapped_decides [] (u ∷ us) = (λ is. absurd cc, λ same. absurd cc)
  mapped_decides (t ∷ ts) [] = (λ is. absurd cc, λ same. absurd cc)
  mapped_decides (t ∷ ts) (u ∷ us) =
      let first = exact t u in
      let rest = mapped_decides ts us in (
        λ is.
            let parts = and_parts (E (f t) (f u)) (pointwise E (map f ts) (map f us)) is in
            let one : f t ≡ f u = first.0 parts.0 in
            let others : map f ts ≡ map f us = rest.0 parts.1 in
            cc,
        λ same. and_from (E (f t) (f u)) (pointwise E (map f ts) (map f us))
            (first.1 (heads (f t) (f u) (map f ts) (map f us) same)) (rest.1 (tails (f t) (f u) (map f ts) (map f us) same)),
      )

-- ---- stimuli

stimulus_decides : (one other : StimulusKind) → Decides (ghosts.eq (as_stimulus one) (as_stimulus other)) (as_stimulus one ≡ as_stimulus other)
stimulus_decides (Periodic period offset jitter) (Periodic p o j) = (λ is. grind (arith, nat_tests), λ same. grind (arith, nat_tests))
stimulus_decides (Periodic period offset jitter) (Sporadic l g) = (λ is. absurd cc, λ same. absurd cc)
stimulus_decides (Periodic period offset jitter) (Burst p o c d) = (λ is. absurd cc, λ same. absurd cc)
stimulus_decides (Sporadic least greatest) (Periodic p o j) = (λ is. absurd cc, λ same. absurd cc)
stimulus_decides (Sporadic least greatest) (Sporadic l g) = (λ is. grind (arith, nat_tests), λ same. grind (arith, nat_tests))
stimulus_decides (Sporadic least greatest) (Burst p o c d) = (λ is. absurd cc, λ same. absurd cc)
stimulus_decides (Burst period offset count distance) (Periodic p o j) = (λ is. absurd cc, λ same. absurd cc)
stimulus_decides (Burst period offset count distance) (Sporadic l g) = (λ is. absurd cc, λ same. absurd cc)
stimulus_decides (Burst period offset count distance) (Burst p o c d) = (λ is. grind (arith, nat_tests), λ same. grind (arith, nat_tests))

-- ---- what stands above a task

-- the test of two such
abbrev same_above : Above → Above → Bool
same_above one other = ghosts.eq one.stimulus other.stimulus && eqb one.time other.time

above_decides : (one other : Timing) → Decides (same_above (taken_by one) (taken_by other)) (taken_by one ≡ taken_by other)
above_decides one other =
    let stimuli = stimulus_decides one.pattern other.pattern in
    let times = Decides-eqb (taken_by one).time (taken_by other).time in (
      λ is.
          let parts = and_parts (ghosts.eq (as_stimulus one.pattern) (as_stimulus other.pattern)) (eqb (taken_by one).time (taken_by other).time) is in
          λ i. record { stimulus = stimuli.0 parts.0 i; time = times.0 parts.1 i },
      λ same. and_from (ghosts.eq (as_stimulus one.pattern) (as_stimulus other.pattern)) (eqb (taken_by one).time (taken_by other).time)
          (stimuli.1 (ap (λ (a : Above). a.stimulus) same)) (times.1 (ap (λ (a : Above). a.time) same)),
    )

-- ---- questions

abbrev same_question : Question → Question → Bool
same_question one other =
    eqb one.time other.time && (eqb one.block other.block && (eqb one.jitter other.jitter && (eqb one.deadline other.deadline
    && pointwise same_above one.above other.above)))

-- the test of two questions, by the test of what stands above
module _ (one other : Question) (above : Decides (pointwise same_above one.above other.above) (one.above ≡ other.above)) where
  parts_decide : Decides (same_question one other) (one ≡ other)
  parts_decide = (
    λ is.
        let rest = pointwise same_above one.above other.above in
        let time = and_parts (eqb one.time other.time) (eqb one.block other.block && (eqb one.jitter other.jitter && (eqb one.deadline other.deadline && rest))) is in
        let block = and_parts (eqb one.block other.block) (eqb one.jitter other.jitter && (eqb one.deadline other.deadline && rest)) time.1 in
        let jitter = and_parts (eqb one.jitter other.jitter) (eqb one.deadline other.deadline && rest) block.1 in
        let deadline = and_parts (eqb one.deadline other.deadline) rest jitter.1 in
        λ i. record {
          time = (Decides-eqb one.time other.time).0 time.0 i;
          block = (Decides-eqb one.block other.block).0 block.0 i;
          jitter = (Decides-eqb one.jitter other.jitter).0 jitter.0 i;
          deadline = (Decides-eqb one.deadline other.deadline).0 deadline.0 i;
          above = above.0 deadline.1 i;
        },
    λ same.
        and_from (eqb one.time other.time) _ ((Decides-eqb one.time other.time).1 (ap (λ (q : Question). q.time) same))
        (and_from (eqb one.block other.block) _ ((Decides-eqb one.block other.block).1 (ap (λ (q : Question). q.block) same))
        (and_from (eqb one.jitter other.jitter) _ ((Decides-eqb one.jitter other.jitter).1 (ap (λ (q : Question). q.jitter) same))
        (and_from (eqb one.deadline other.deadline) _ ((Decides-eqb one.deadline other.deadline).1 (ap (λ (q : Question). q.deadline) same))
        (above.1 (ap (λ (q : Question). q.above) same))))),
  )

pub question_decides : (system other : System) (task others : Timing)
    → Decides (same_question (question_of system task) (question_of other others)) (question_of system task ≡ question_of other others)
unfolding question_of
question_decides system other task others =
    parts_decide (question_of system task) (question_of other others)
    (mapped_decides taken_by same_above above_decides (filter (is_above task) system.tasks) (filter (is_above others) other.tasks))
