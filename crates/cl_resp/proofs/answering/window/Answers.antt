use Rattle.std.proofs.Common.{◌≤◌, inl, inr, sym, ◌∙◌, arith}
use Rattle.std.proofs.lemmas.Bool.{cases_lt}
use Rattle.cl_resp.specs.{Response.demand, Inner.Rising.taken_in}
use Rattle.cl_resp.proofs.{Windows.{less_at_start, less_below_demand, found_at, none_up_to}, WhatIsKept.kept_wider}
use Rattle.cl_resp.proofs.answering.window.Goals as goal

pub loop-width-init : goal.loop-width-init
loop-width-init c =
    let some : 1 ≤ c.max-width.result = omega (arith, c.max-width.ensures, c.requires.in_range.some_time) in
    record {
      some = some;
      less = λ lesser below. elim (cases_lt lesser c.args.start) [
        | inl before ↦ c.requires.start lesser before
        | inr after ↦ less_at_start c.args.question.now lesser (omega (arith, below, after, c.max-width.ensures))
      ];
      kept = c.new-rising.ensures c.args.question.now.above c.max-width.result some;
    }

pub returns-then-needed-width : goal.returns-then-needed-width
returns-then-needed-width c = sym (found_at c.args.question.now c.loop-width.width c.loop-width.invariant.some c.loop-width-test.true
    (omega (arith, c.in_ok-needed.ensures.demand, c.if-needed-width.true)) c.loop-width.invariant.less)

pub returns-in_err-needed : goal.returns-in_err-needed
returns-in_err-needed c =
    let question = c.args.question.now in
    c.from_residual.ensures ∙ sym (none_up_to question (demand question c.loop-width.width) c.in_err-needed.ensures.demand
    (less_below_demand question c.loop-width.width c.loop-width.invariant.less))

pub loop-width-preserved : goal.loop-width-preserved
loop-width-preserved c =
    let question = c.args.question.now in
    record {
      some = omega (arith, c.loop-width.invariant.some, c.if-needed-width.false);
      less = λ lesser below. less_below_demand question c.loop-width.width c.loop-width.invariant.less lesser (omega (arith, below, c.in_ok-needed.ensures.demand));
      kept = kept_wider taken_in question.above c.demand.new.self.ticks c.demand.new.self.until c.loop-width.width c.demand.ensures.kept _ (omega (arith, c.if-needed-width.false));
    }

pub returns : goal.returns
returns c = sym (none_up_to c.args.question.now c.loop-width.width c.loop-width-test.false c.loop-width.invariant.less)
