use Rattle.std.proofs.Common.{◌≡◌, ℤ, ◌+◌, ◌≤◌, false, w64, to_z, of_z, sym, subst, arith}
use Rattle.std.proofs.lemmas.Int.{ints}
use Rattle.cl_resp.specs.{Asked.holds_within, Inner.{Phased.{asked_of, NoneBefore}, Rising.{taken_in, taken_from}}}
use Rattle.cl_resp.proofs.{CountedSearches.none_found, WhatIsKept.kept_wider, PhasedWindows.{none_below_needed, none_past}}
use Rattle.cl_resp.proofs.phased.PhasedQuestion.window_from.Goals as goal

pub loop-width-init : goal.loop-width-init
loop-width-init c =
    let start : ℤ = to_z w64 (of_z w64 c.args.start) in
    let same : start ≡ c.args.start = omega (arith, ints) in
    record {
      some = c.requires.some;
      none = subst (λ from. NoneBefore (asked_of c.args.self.now) from c.args.least) (sym same) c.requires.none;
      beside = c.new-beside.ensures c.args.self.now.beside.above c.args.least c.requires.some;
      in_phase = c.new-counted.ensures start c.args.self.now.in_phase c.args.least c.requires.some;
    }

pub returns-in_err-demand : goal.returns-in_err-demand
returns-in_err-demand c =
    let start : ℤ = to_z w64 (of_z w64 c.args.start) in
    let same : start ≡ c.args.start = omega (arith, ints) in
    none_found c.args.self.now c.args.start start c.args.most c.loop-width.width c.from_residual.result same c.from_residual.ensures c.loop-width.invariant.none
    (omega (arith, c.in_err-demand.ensures.demand))

pub returns-in_err-needed : goal.returns-in_err-needed
returns-in_err-needed c =
    let start : ℤ = to_z w64 (of_z w64 c.args.start) in
    let same : start ≡ c.args.start = omega (arith, ints) in
    none_found c.args.self.now c.args.start start c.args.most c.loop-width.width c.from_residual-in_err-needed.result same c.from_residual-in_err-needed.ensures
    c.loop-width.invariant.none (omega (arith, c.in_err-needed.ensures.demand))

pub loop-width-preserved : goal.loop-width-preserved
loop-width-preserved c =
    let question = c.args.self.now in
    let start : ℤ = to_z w64 (of_z w64 c.args.start) in
    let wider : c.loop-width.width ≤ c.in_ok-demand.field-0 + c.in_ok-needed.field-0 = omega (arith, c.if-needed-width.false) in
    record {
      some = omega (arith, c.loop-width.invariant.some, c.if-needed-width.false);
      none = λ lesser some below. none_below_needed question start c.loop-width.width c.loop-width.invariant.none lesser some
          (omega (arith, below, c.in_ok-demand.ensures.demand, c.in_ok-needed.ensures.demand));
      beside = kept_wider taken_in question.beside.above c.demand.new.self.ticks c.demand.new.self.until c.loop-width.width c.demand.ensures.kept _ wider;
      in_phase = kept_wider (taken_from start) question.in_phase c.demand-in-loop-width.new.self.ticks c.demand-in-loop-width.new.self.until c.loop-width.width
          c.demand-in-loop-width.ensures.kept _ wider;
    }

pub returns : goal.returns
returns c =
    let start : ℤ = to_z w64 (of_z w64 c.args.start) in
    let same : start ≡ c.args.start = omega (arith, ints) in
    subst (λ from. holds_within (asked_of c.args.self.now) from c.args.most ≡ false) same
    (none_past c.args.self.now start c.loop-width.width c.loop-width.invariant.none c.args.most c.loop-width-test.false)
