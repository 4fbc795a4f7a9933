use Rattle.std.proofs.Common.{◌≡◌, ℕ, ◌+◌, None, length, take, sym, subst, arith, inl, inr}
use Rattle.std.specs.Prelude.{slice_index_or}
use Rattle.std.proofs.lemmas.Bool.{cases_lt}
use Rattle.std.proofs.lemmas.List.{length-take}
use Rattle.cl_runs.specs.SystemOf.{system_of}
use Rattle.cl_exact.specs.ExactReactions.{IsReactionOf}
use Rattle.cl_exact.proofs.{LimitFacts.seen, FrontReactions.{front_found, front_other}}
use Rattle.cl_exact.proofs.fronts.exact_reactions.Goals as goal

pub returns-then-count-eq0-clause-reactions : goal.returns-then-count-eq0-clause-reactions
returns-then-count-eq0-clause-reactions g c = λ place below.
    let count = c.timed_periodic_count-count.ensures in
    subst (IsReactionOf (system_of c.args.model.now) (take (place + 1) c.args.groups.now)) (sym (c.no_reactions.ensures.none place))
    (front_other c.args.model.now c.args.groups.now c.requires.few c.requires.of_tasks c.timed_periodic_count-count.result count.within
    count.first_other place (omega (arith, c.if-count-eq0.true)) below)

pub returns-clause-reactions : goal.returns-clause-reactions
returns-clause-reactions g c = λ place below.
    let system = system_of c.args.model.now in
    let groups = c.args.groups.now in
    let number : ℕ = c.timed_periodic_count-count.result in
    let count = c.timed_periodic_count-count.ensures in
    let beats = c.as_slice.result.now in
    let of = seen system (take number groups) c.beats_of-numbers.result.items beats c.as_slice.ensures.value c.beats_of-numbers.ensures.of in
    let as_many : length beats ≡ number = omega (arith, of.as_many, count.within, length-take number groups) in
    elim (cases_lt place number) [
      | inl first ↦
          front_found c.args.model.now groups c.requires.few c.requires.of_tasks number count.within c.beats_of-numbers.ensures.valid
          count.timed_periodic beats of place first (slice_index_or c.reactions_of.result place None)
          (c.reactions_of.ensures.fronts place (omega (arith, first, as_many)))
      | inr later ↦
          subst (IsReactionOf system (take (place + 1) groups)) (sym (c.reactions_of.ensures.rest place (omega (arith, later, as_many))))
          (front_other c.args.model.now groups c.requires.few c.requires.of_tasks number count.within count.first_other place later below)
    ]
