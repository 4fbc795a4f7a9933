use Rattle.std.proofs.Common.{◌≡◌, ℕ, ℤ, ◌+◌, ◌-◌, ◌<◌, List, ◌++◌, length, get_or, pos, codes, sym, ap, ◌∙◌, rules, arith}
use mir.Syntax.{w64}
use mir.Val.{SFits, of_z, to_z}
use Rattle.std.proofs.lemmas.Int.{to_z-of_z}
use Rattle.std.specs.List.{flat_map, range_with_len}
use Rattle.std.proofs.lemmas.List.{append-nil}
use Rattle.cl_model.specs.Groups.{groups_at}
use Rattle.cl_hop.specs.declared.group_timing.GroupTiming.{GroupTiming}
use Rattle.cl_why.specs.{Hops.{timing_at_place, missed_arrival}, Walks.job_line}
use Rattle.cl_why.proofs.TimedGroups.{timing_found, line_more_from}
use Rattle.cl_why.proofs.walks.put_missed.Goals as goal

pub loop-place-init : goal.loop-place-init
loop-place-init c =
    let text = c.args.text.now in
    let from = c.args.from in
    let none : 0 ≡ from - from = omega arith in
    let line : ℕ → List ℕ = λ place. job_line (codes "missed ") (codes " read ") c.args.model.now c.args.chain place (missed_arrival c.args.walk.now place)
    (timing_at_place c.args.model.now c.args.chain place).read in
    record {
      reached = omega arith;
      text = sym (append-nil text) ∙ ap (λ n. text ++ flat_map line (range_with_len from n)) none;
    }

pub loop-place-preserved : goal.loop-place-preserved
loop-place-preserved c =
    let model = c.args.model.now in
    let chain = c.args.chain in
    let walk = c.args.walk.now in
    let from = c.args.from in
    let i = c.loop-place.place in
    let within : i < length (groups_at model chain) = omega (arith, c.loop-place-test.true, c.group_count-place-end.ensures.count) in
    let found = timing_found model chain c.args.timings.now c.requires.timings i _ within in
    let arrival = get_or c.as_slice.result.now i (pos 0) in
    let fits : SFits w64 arrival = search rules in
    let held : to_z w64 (of_z w64 arrival) ≡ arrival = to_z-of_z w64 arrival fits in
    let line : ℕ → List ℕ = λ place. job_line (codes "missed ") (codes " read ") model chain place (missed_arrival walk place) (timing_at_place model chain place).read in
    let at : from + (i - from) ≡ i = omega (arith, c.loop-place.auto.place) in
    let next : (i - from) + 1 ≡ (i + 1) - from = omega (arith, c.loop-place.auto.place) in
    record {
      reached = omega (arith, within, c.loop-place.auto.place);
      text = line_more_from line c.args.text.now c.loop-place.text c.put_job.new.text from (i - from) i at c.loop-place.invariant.text
          (c.in_ok-put_job.ensures
          ∙ ap (λ (z : ℤ). c.loop-place.text ++ job_line (codes "missed ") (codes " read ") model chain i z c.read-read.result) held
          ∙ ap (λ (list : List ℤ). c.loop-place.text ++ job_line (codes "missed ") (codes " read ") model chain i (get_or list i (pos 0)) c.read-read.result) c.as_slice.ensures
          ∙ ap (λ (n : ℕ). c.loop-place.text ++ job_line (codes "missed ") (codes " read ") model chain i (missed_arrival walk i) n)
          (c.read-read.ensures ∙ ap (λ (t : GroupTiming). t.read) found))
          ∙ ap (λ n. c.args.text.now ++ flat_map line (range_with_len from n)) next;
    }

pub returns : goal.returns
returns c =
    let model = c.args.model.now in
    let chain = c.args.chain in
    let walk = c.args.walk.now in
    let from = c.args.from in
    let i = c.loop-place.place in
    let line : ℕ → List ℕ = λ place. job_line (codes "missed ") (codes " read ") model chain place (missed_arrival walk place) (timing_at_place model chain place).read in
    let all : i - from ≡ length (groups_at model chain) - from
    = omega (arith, c.loop-place.invariant.reached, c.loop-place-test.false, c.loop-place.auto.place, c.group_count-place-end.ensures.count) in
    c.loop-place.invariant.text ∙ ap (λ n. c.args.text.now ++ flat_map line (range_with_len from n)) all
