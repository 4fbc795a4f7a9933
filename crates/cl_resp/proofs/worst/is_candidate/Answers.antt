use Rattle.std.proofs.Common.{◌≡◌, [], sym, ◌∙◌, subst, arith}
use Rattle.std.specs.Prelude.{IsTrue, ◌↔◌}
use Rattle.std.proofs.lemmas.Bool.{true≢false}
use Rattle.std.proofs.lemmas.Int.{ints}
use Rattle.cl_resp.specs.{declared.phased.InPhase.InPhase, Worst.is_released_in, Inner.Worst.IsCandidateOf}
use Rattle.cl_resp.proofs.{WorstPlaces.held, WorstCandidates.{passes_some, passed_some}}
use Rattle.cl_resp.proofs.worst.is_candidate.Goals as goal

pub returns-else-is_empty : goal.returns-else-is_empty
returns-else-is_empty c =
    let question = c.args.question.now in
    let some : question.in_phase ≡ [] → ⊥ = λ empty. true≢false (sym (c.is_empty.ensures.1 empty) ∙ c.if-is_empty.false) in
    let same : held c.args.start ≡ c.args.start = omega (arith, ints) in
    subst (λ s. IsTrue c.is_released.result ↔ IsCandidateOf question s) same (
      λ is. passes_some (λ (above : InPhase). is_released_in question.cycle (held c.args.start) above.phase above.jitter) question.in_phase (held c.args.start) some (sym c.is_released.ensures ∙ is),
      λ candidate. c.is_released.ensures ∙ passed_some (λ (above : InPhase). is_released_in question.cycle (held c.args.start) above.phase above.jitter) question.in_phase (held c.args.start) some candidate,
    )
