-- How the worst window of a task is searched for. Times are in ticks, and moments may lie before 0.
use Rattle.std.specs.Prelude.{ℕ, ℤ, pos, ◌+ℤ◌, ◌<ℤ◌, ◌≤ℤ◌}
use Rattle.cl_stim.specs.Phase.{IsArrivalOf}
use Rattle.cl_resp.specs.{declared.phased.{InPhase.InPhase, PhasedQuestion.PhasedQuestion}, Asked.{Asked, MayBegin, EndsBy}, Worst.{NoneEndsBy, PassesOrZero, is_released_in}, Inner.Phased.asked_of}

-- from wherever the window of an arrival may begin, one ends within so many ticks of it
abbrev pub IsAllAnswered : Asked → (within : ℕ) → (arrival : ℤ) → Type 0
IsAllAnswered asked within arrival = (start : ℤ) → MayBegin asked arrival start → EndsBy asked start (arrival +ℤ pos within)

-- the latest moment at which the window of an arrival may begin and from which on none ends within so many ticks of it
pub record IsLatestUnanswered (asked : Asked) (within : ℕ) (arrival start : ℤ) : Type 0 where
  pub may_begin : MayBegin asked arrival start
  pub none : NoneEndsBy asked start (arrival +ℤ pos within)
  pub latest : (other : ℤ) → MayBegin asked arrival other → NoneEndsBy asked other (arrival +ℤ pos within) → other ≤ℤ start

-- the arrivals of a phase from 0 on that come before a moment are all answered
abbrev pub AreAnsweredBefore : Asked → (within : ℕ) → (before : ℤ) → Type 0
AreAnsweredBefore asked within before =
    (arrival : ℤ) → IsArrivalOf asked.arrivals arrival → pos 0 ≤ℤ arrival → arrival <ℤ before → IsAllAnswered asked within arrival

-- a job of a task in phase that arrives in the cycle is released at a moment at the latest, or none is in phase and the
-- moment is 0
abbrev pub IsCandidateOf : PhasedQuestion → (start : ℤ) → Type 0
IsCandidateOf question start =
    PassesOrZero (λ (above : InPhase). is_released_in question.cycle start above.phase above.jitter) question.in_phase start

-- from the candidates after a moment on, windows end within so many ticks
abbrev pub AreCandidatesAnswered : PhasedQuestion → (within : ℕ) → (after : ℤ) → Type 0
AreCandidatesAnswered question within after =
    (start : ℤ) → after <ℤ start → IsCandidateOf question start → EndsBy (asked_of question) start (start +ℤ pos within)

-- a moment is the least of the candidates after another from which on no window ends within so many ticks
pub record IsLeastAfter (question : PhasedQuestion) (within : ℕ) (after start : ℤ) : Type 0 where
  pub follows : after <ℤ start
  pub is_candidate : IsCandidateOf question start
  pub none : NoneEndsBy (asked_of question) start (start +ℤ pos within)
  pub least : (other : ℤ) → after <ℤ other → IsCandidateOf question other → NoneEndsBy (asked_of question) other (other +ℤ pos within)
      → start ≤ℤ other
