use Rattle.std.proofs.Common.{rules, ◌≡◌, ℕ, Bool, false, List, get_or, take, sym, ap, ◌∙◌, subst, take_all, arith}
use Rattle.std.specs.Prelude.{All, slice_set}
use Rattle.std.proofs.lemmas.List.Elements.{All-more}
use Rattle.cl_runs.specs.{SystemOf.system_of, TaskTiming.timing_at}
use Rattle.cl_runs.proofs.FirstFound.{finds_first, finds_none}
use Rattle.cl_resp.specs.{declared.question.Above.Above, Question.taken_by}
use Rattle.cl_tune.specs.Inner.Filling.{fits}
use Rattle.cl_tune.proofs.AskedPlaces.{first_others, next_others, asked_in_range, fits_is}
use Rattle.cl_tune.proofs.filling.first_fitting.Goals as goal

pub loop-place-init : goal.loop-place-init
loop-place-init g c = record {
  taken = λ some. c.in_ok-others.ensures ∙ first_others c.args.model.now c.args.unplaced.now c.in-Some.later.now _ c.in-Some.ensures.cases.0;
  none = λ k d lt. absurd (omega (arith, lt));
}

pub fits-fit-requires-clause-in_range : goal.fits-fit-requires-clause-in_range
fits-fit-requires-clause-in_range g c = λ short.
    asked_in_range c.args.model.now c.requires.valid c.args.unplaced.now c.requires.unplaced c.requires.distinct c.loop-place.place c.loop-place-test.true
    c.first_too_long_for_any-too_long.result c.first_too_long_for_any-too_long.ensures c.args.block c.loop-place.others
    (c.loop-place.invariant.taken c.loop-place-test.true) c.requires.block c.requires.few short

pub returns-then-fit : goal.returns-then-fit
returns-then-fit g c =
    let unplaced = c.args.unplaced.now in
    let is = fits_is c.args.model.now c.requires.valid unplaced c.requires.unplaced c.requires.distinct c.loop-place.place c.loop-place-test.true
    c.first_too_long_for_any-too_long.result c.first_too_long_for_any-too_long.ensures c.args.block c.loop-place.others
    (c.loop-place.invariant.taken c.loop-place-test.true) in
    sym (finds_first (fits (system_of c.args.model.now) c.args.block unplaced) unplaced c.loop-place.place 0 c.loop-place-test.true c.loop-place.invariant.none
    (is ∙ sym c.fits-fit.ensures.fit ∙ c.if-fit.true))

pub loop-place-preserved : goal.loop-place-preserved
loop-place-preserved g c =
    let model = c.args.model.now in
    let unplaced = c.args.unplaced.now in
    let place = c.loop-place.place in
    let is = fits_is model c.requires.valid unplaced c.requires.unplaced c.requires.distinct place c.loop-place-test.true
    c.first_too_long_for_any-too_long.result c.first_too_long_for_any-too_long.ensures c.args.block c.loop-place.others
    (c.loop-place.invariant.taken c.loop-place-test.true) in
    record {
      taken = λ more. c.put_above.ensures
          ∙ ap (λ (list : List Above). slice_set list place (taken_by (timing_at (system_of model) (get_or unplaced place 0)))) c.fits-fit.ensures.others
          ∙ next_others model unplaced place c.loop-place.others more (c.loop-place.invariant.taken c.loop-place-test.true);
      none = All-more (λ task. fits (system_of model) c.args.block unplaced task ≡ false) unplaced place 0 c.loop-place-test.true c.loop-place.invariant.none
          (is ∙ sym c.fits-fit.ensures.fit ∙ c.if-fit.false);
    }

pub returns : goal.returns
returns g c =
    let test : ℕ → Bool = fits (system_of c.args.model.now) c.args.block c.args.unplaced.now in
    let all : take c.loop-place.place c.args.unplaced.now ≡ c.args.unplaced.now = take_all c.loop-place.place c.args.unplaced.now (search rules) in
    sym (finds_none test c.args.unplaced.now (subst (λ (list : List ℕ). All (λ task. test task ≡ false) list) all c.loop-place.invariant.none))
