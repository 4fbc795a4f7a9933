use Rattle.std.proofs.Common.{◌≡◌, ◌+◌, ◌-◌, ◌≤◌, cond, nat_le, inl, inr, arith}
use Rattle.std.proofs.lemmas.Bool.{cases_lt}
use Rattle.cl_lead.specs.{Ahead.ticks_taken, Inner.Sure.ahead_in}
use Rattle.cl_lead.proofs.{SureRaises.{none_sooner, checked_down, raised_to_most, own_then, own_else}, sure.SureWork.raise.Goals.{then-from-arrival, else-from-arrival}}
use Rattle.cl_lead.proofs.sure.SureWork.raise.Goals as goal

pub overflow_add-needed : goal.overflow_add-needed
overflow_add-needed c =
    let own : c.if-from-arrival.own ≤ c.args.lead = elim c.if-from-arrival.branch [
      | then-from-arrival w ↦ omega (arith, w.own-is, c.requires.before)
      | else-from-arrival w ↦ omega (arith, w.own-is)
    ] in
    omega (arith, own, c.taken.ensures.small, c.from.ensures, c.requires.lead, c.requires.most, c.requires.in_range.deadline)

pub returns-then-needed-from : goal.returns-then-needed-from
returns-then-needed-from c =
    let work = c.args.self.now in
    let from = c.max-from.result in
    let own : c.if-from-arrival.own ≡ cond (nat_le from c.args.arrival) work.before 0 = elim c.if-from-arrival.branch [
      | then-from-arrival w ↦ omega (arith, w.own-is, own_then from c.args.arrival work.before (omega (arith, w.if-from-arrival)))
      | else-from-arrival w ↦ omega (arith, w.own-is, own_else from c.args.arrival work.before (omega (arith, w.if-from-arrival)))
    ] in
    let after : c.first_counted-first.result ≤ from = omega (arith, c.max-from.ensures) in
    let by : from ≤ c.args.arrival + c.args.lead = omega (
      arith,
      c.max-from.ensures,
      c.last_beginning.ensures.before,
      c.loop-until.invariant.start,
      c.first_counted-first.ensures.by,
    ) in
    raised_to_most work c.args.arrival c.args.lead c.args.most c.first_counted-first.result c.first_counted-first.ensures from after by
    c.requires.lead
    (omega (arith, own, by, c.taken.ensures.taken, c.from.ensures, c.from-in-loop-until.ensures, c.if-needed-from.true, c.requires.lead))

pub loop-until-preserved : goal.loop-until-preserved
loop-until-preserved c =
    let work = c.args.self.now in
    let from = c.max-from.result in
    let own : c.if-from-arrival.own ≡ cond (nat_le from c.args.arrival) work.before 0 = elim c.if-from-arrival.branch [
      | then-from-arrival w ↦ omega (arith, w.own-is, own_then from c.args.arrival work.before (omega (arith, w.if-from-arrival)))
      | else-from-arrival w ↦ omega (arith, w.own-is, own_else from c.args.arrival work.before (omega (arith, w.if-from-arrival)))
    ] in
    let first = c.first_counted-first.result in
    let was = c.loop-until.invariant in
    let after : first ≤ from = omega (arith, c.max-from.ensures) in
    let by : from ≤ c.args.arrival + c.args.lead = omega (
      arith,
      c.max-from.ensures,
      c.last_beginning.ensures.before,
      was.start,
      c.first_counted-first.ensures.by,
    ) in
    let needed : c.taken.result + c.from.result ≡ ticks_taken (ahead_in work) c.args.arrival from (c.args.arrival + c.args.lead - from)
    = omega (arith, own, c.taken.ensures.taken, c.from.ensures) in
    record {
      no_less = omega (arith, was.no_less, c.max-raised.ensures);
      no_more = omega (
        arith,
        was.no_more,
        c.max-raised.ensures,
        c.saturating_sub.ensures,
        c.if-needed-from.false,
        c.from-in-loop-until.ensures,
        by,
        c.requires.lead,
      );
      start = omega (arith, by);
      none = λ lead from_lead below may. elim (cases_lt lead c.loop-until.raised) [
        | inl less ↦ was.none lead from_lead less may
        | inr more ↦ none_sooner work c.args.arrival c.args.lead c.args.most first c.first_counted-first.ensures from after by lead from_lead
            (omega (arith, below, more, c.max-raised.ensures, c.saturating_sub.ensures, needed)) may
      ];
      checked = checked_down work c.args.arrival c.args.lead c.args.most first c.first_counted-first.ensures from after by
          c.loop-until.raised c.loop-until.until c.last_beginning.result was.start was.no_less was.checked c.last_beginning.ensures.none
          (omega (arith, c.max-from.ensures)) c.max-raised.result (omega (arith, c.max-raised.ensures))
          (omega (arith, c.max-raised.ensures, c.saturating_sub.ensures, needed));
    }
