use Rattle.std.proofs.Common.{◌≡◌, ℕ, true, sym, subst}
use Rattle.std.specs.Prelude.{Option, IfSome}
use Rattle.std.proofs.lemmas.Bool.{eqb-true}
use Rattle.cl_resp.specs.{Asked.suffices, Inner.Phased.asked_of}
use Rattle.cl_resp.proofs.by_phase.Search.is_done.Goals as goal

pub returns-in-Some : goal.returns-in-Some
returns-in-Some c same =
    let asked = asked_of c.args.question.now in
    let enough : suffices asked c.in-Some.most ≡ true =
    subst (λ (most : Option ℕ). IfSome most (λ response. suffices asked response ≡ true)) c.in-Some.is c.requires.search.answers in
    subst (λ n. suffices asked n ≡ true) (sym (eqb-true _ _ same)) enough
