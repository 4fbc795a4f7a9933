use Rattle.std.proofs.Common.{ℕ, ◌<◌, length, sym, ◌∙◌, subst, arith}
use Rattle.cl_chain.specs.{declared.group_moments.GroupMoments.GroupMoments, Inner.Hops.{IsFirstReader, IsWrite}}
use Rattle.cl_chain.proofs.{TailFacts.group_looked_up, ForwardFacts.{forward_ends, forward_pushed, job_before}}
use Rattle.cl_chain.proofs.forward_jobs.forward_over.Goals as goal

pub returns-in_default-reader_of : goal.returns-in_default-reader_of
returns-in_default-reader_of c = λ chain is first.
    let within : c.loop-place.place < length c.args.groups.now = omega arith in
    forward_ends c.args.groups.now chain.jobs (length c.args.groups.now) chain.to is.jobs c.loop-place.place c.loop-place.jobs c.loop-place.write
    c.loop-place.invariant.linked (omega (arith, within)) (first ∙ sym c.loop-place.invariant.first) within
    (subst (λ (g : GroupMoments). (reader t : ℕ) → IsFirstReader g.reads c.loop-place.write reader → IsWrite g.writes reader t → ⊥)
    (group_looked_up c.args.groups.now c.loop-place.place within c.index-groups-place.result c.index-groups-place.is) c.in_default-reader_of.ensures)

pub loop-place-preserved : goal.loop-place-preserved
loop-place-preserved c =
    let within : c.loop-place.place < length c.args.groups.now = omega arith in
    let here = group_looked_up c.args.groups.now c.loop-place.place within c.index-groups-place.result c.index-groups-place.is in
    record {
      linked = rw c.in_ok-push-2.ensures.ok (forward_pushed c.args.groups.now c.loop-place.place c.loop-place.jobs c.loop-place.write c.loop-place.invariant.linked
          c.in-Some-reader_of.reader c.in-Some-reader_of.to
          (subst (λ (g : GroupMoments). IsFirstReader g.reads c.loop-place.write c.in-Some-reader_of.reader) here c.in-Some-reader_of.ensures.0)
          (subst (λ (g : GroupMoments). IsWrite g.writes c.in-Some-reader_of.reader c.in-Some-reader_of.to) here c.in-Some-reader_of.ensures.1));
      first = rw c.in_ok-push-2.ensures.ok (job_before c.loop-place.jobs c.in-Some-reader_of.reader 0
          (omega (arith, c.loop-place.invariant.linked.some, c.loop-place.invariant.linked.one_a_group)) ∙ c.loop-place.invariant.first);
    }
