-- How far the search for the response by phases came.
use Rattle.std.specs.Prelude.{◌≡◌, ℕ, ℤ, pos, ◌+ℤ◌, ◌-ℤ◌, ◌<ℤ◌, ◌<◌, ◌≤◌, true, false, All, Option, IfSome}
use Rattle.cl_model.specs.declared.limits.TheConstants.{MOST_TICKS}
use Rattle.cl_stim.specs.Phase.{arrives_at}
use Rattle.cl_resp.specs.{declared.{by_phase.Search.Search, phased.{InPhase.InPhase, PhasedQuestion.PhasedQuestion}}, Asked.{Asked, is_answered, suffices, MayBegin, EndsBy}, Inner.Phased.{asked_of, NoneBefore, ServesAnywhere}}

-- what a search knows of its question: no window narrower than the least holds its own demand, the widest holds whatever
-- is asked, and within the most all is answered
pub record IsSearchOf (question : PhasedQuestion) (search : Search) : Type 0 where
  pub some : 1 ≤ search.least
  pub none : (start : ℤ) → NoneBefore (asked_of question) start search.least
  pub serves : IfSome search.widest (ServesAnywhere (asked_of question))
  pub short : IfSome search.widest (λ width. width ≤ MOST_TICKS)
  pub answers : IfSome search.most (λ response. suffices (asked_of question) response ≡ true)

-- no response up to the deadline suffices
abbrev pub NoneSuffices : Asked → Type 0
NoneSuffices asked = (response : ℕ) → response ≤ asked.deadline → suffices asked response ≡ false

-- a response is within the deadline, and no lesser one suffices
pub record IsLeastSoFar (asked : Asked) (response : ℕ) : Type 0 where
  pub by_deadline : response ≤ asked.deadline
  pub least : (lesser : ℕ) → lesser < response → suffices asked lesser ≡ false

-- the windows of a job of this arrival that begin after a moment end within the response
abbrev pub AnsweredAfter : Asked → (response : ℕ) → (arrival after : ℤ) → Type 0
AnsweredAfter asked response arrival after =
    (start : ℤ) → after <ℤ start → MayBegin asked arrival start → EndsBy asked start (arrival +ℤ pos response)

-- the arrivals before a moment, from 0 on, are answered within the response
abbrev pub AnsweredBefore : Asked → (response : ℕ) → (end : ℤ) → Type 0
AnsweredBefore asked response end =
    (moment : ℕ) → pos moment <ℤ end → arrives_at asked.arrivals (pos moment) ≡ true
    → is_answered asked response (pos moment) ≡ true

-- the windows that begin after a moment, and before another, have at most so many ticks
abbrev pub WindowsWithin : Asked → (most : ℕ) → (after before : ℤ) → Type 0
WindowsWithin asked most after before =
    (start : ℤ) → after <ℤ start → start <ℤ before → EndsBy asked start (start +ℤ pos most)

-- no job of a task in phase is released at a moment at the latest
abbrev pub NoneReleased : PhasedQuestion → (moment : ℤ) → Type 0
NoneReleased question moment =
    All (λ (above : InPhase). arrives_at above.phase (moment -ℤ pos above.jitter) ≡ false) question.in_phase

-- a moment comes after another, if there is one
abbrev pub IsAfter : (last : Option ℤ) → (moment : ℤ) → Type 0
IsAfter last moment = IfSome last (λ one. one <ℤ moment)
