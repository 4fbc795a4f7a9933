use Rattle.std.proofs.Common.{None, sym, ◌∙◌, arith}
use Rattle.cl_run_data.specs.declared.stretches.Stretch.{Stretch}
use Rattle.cl_run_data.proofs.{StretchFacts.{widen_longest, widen_entries, longest_push, entries_push, differs_from_read}, stretches.append.Goals.{else-count-gt0-via-then-count-gt0+else-eq, else-count-gt0-via-else-count-gt0}}
use Rattle.cl_run_data.proofs.stretches.append.Goals as goal

pub returns-then-eq-clause-longest : goal.returns-then-eq-clause-longest
returns-then-eq-clause-longest c = widen_longest c.args.stretches.now.items c.len-count.result c.index.result.now c.args.who
    (omega (arith, c.len-count.ensures, c.args.stretches.now.ok.0)) c.if-count-gt0.true c.index.ensures c.args.end c.index_mut.result.now c.index_mut.ensures.value c.requires.longest c.requires.after

pub returns-then-eq-clause-ok : goal.returns-then-eq-clause-ok
returns-then-eq-clause-ok c = widen_entries c.args.stretches.now.items c.len-count.result c.index.result.now c.args.who
    (omega (arith, c.len-count.ensures, c.args.stretches.now.ok.0)) c.if-count-gt0.true c.index.ensures c.args.end c.index_mut.result.now (sym c.eq.ensures ∙ c.if-eq.true) c.index_mut.ensures.value c.requires.longest c.requires.after

pub returns-clause-longest : goal.returns-clause-longest
returns-clause-longest c =
    let d : Stretch = record { who = None; end = 0 } in
    rw c.in_ok-push.ensures.items (longest_push c.args.stretches.now.items 0 _ d c.requires.longest c.requires.after
    (λ n last. elim c.else-count-gt0.branch [
      | else-count-gt0-via-then-count-gt0+else-eq w ↦ differs_from_read c.args.stretches.now.items c.len-count.result w.index.result.now c.args.who
          (omega (arith, c.len-count.ensures, c.args.stretches.now.ok.0)) w.if-count-gt0.true w.index.ensures (sym w.eq.ensures ∙ w.if-eq.false) n d last
      | else-count-gt0-via-else-count-gt0 w ↦ absurd (omega (arith, c.len-count.ensures, c.args.stretches.now.ok.0, w.if-count-gt0.false))
    ]))

pub returns-clause-ok : goal.returns-clause-ok
returns-clause-ok c = rw c.in_ok-push.ensures.items (entries_push c.args.stretches.now.items 0 _)
