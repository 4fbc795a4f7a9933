-- What a search finds that keeps what the tasks take of its windows, which begin at a fixed moment.
use Rattle.std.proofs.Common.{◌≡◌, ℕ, ◌<◌, ◌≤◌, ℤ, false, sym, subst}
use Rattle.std.specs.Prelude.{Option, None, MatchOption}
use Rattle.cl_resp.specs.{declared.phased.PhasedQuestion.PhasedQuestion, Asked.holds_within, Inner.Phased.{asked_of, NoneBefore, IsLeastFrom}}
use Rattle.cl_resp.proofs.PhasedWindows.{none_needed}

-- the least window that holds its own demand, or none of so many ticks
abbrev pub IsFoundFrom : PhasedQuestion → (start : ℤ) → (most : ℕ) → Option ℕ → Type 0
IsFoundFrom question start most found = MatchOption found
    (holds_within (asked_of question) start most ≡ false)
    (λ width. IsLeastFrom (asked_of question) start width × (width ≤ most))

-- none where what is asked of a width below which none does is more than so many ticks
pub none_found : (question : PhasedQuestion) (start from : ℤ) (most width : ℕ) (found : Option ℕ) → from ≡ start → found ≡ None
    → NoneBefore (asked_of question) from width → most < (asked_of question).demand from width → IsFoundFrom question start most found
none_found question start from most width found same is none more =
    subst (IsFoundFrom question start most) (sym is)
    (subst (λ s. holds_within (asked_of question) s most ≡ false) same (none_needed question from width none most more))
