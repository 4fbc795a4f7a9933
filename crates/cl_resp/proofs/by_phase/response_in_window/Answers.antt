use Rattle.std.proofs.Common.{ℕ, pos, refl, subst}
use Rattle.std.specs.Prelude.{Option, IfSome}
use Rattle.cl_resp.specs.Inner.Phased.{asked_of, ServesAnywhere}
use Rattle.cl_resp.proofs.{SearchedArrivals.answered_widest, SearchedStarts.suffices_from}
use Rattle.cl_resp.proofs.by_phase.response_in_window.Goals as goal

pub returns : goal.returns
returns c =
    let question = c.args.question.now in
    let range = c.requires.in_range in
    let serves : ServesAnywhere (asked_of question) c.in_ok-widest.field-0 =
    subst (λ (widest : Option ℕ). IfSome widest (ServesAnywhere (asked_of question))) c.in_ok-widest.was c.requires.widest in
    suffices_from (asked_of question) _ (λ moment within arrives.
    answered_widest question (pos moment) c.in_ok-widest.field-0 range.arrivals.is_phase range.beside.some_time serves _ refl)
