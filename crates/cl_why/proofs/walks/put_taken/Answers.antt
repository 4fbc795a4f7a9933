use Rattle.std.proofs.Common.{◌≡◌, ℕ, ℤ, ◌<◌, List, ◌++◌, length, get_or, pos, codes, ap, ◌∙◌, rules, arith}
use mir.Syntax.{w64}
use mir.Val.{SFits, of_z, to_z}
use Rattle.std.proofs.lemmas.Int.{to_z-of_z}
use Rattle.std.specs.List.{flat_map, range_with_len}
use Rattle.cl_text.proofs.MoreLines.{line_more}
use Rattle.cl_model.specs.Groups.{groups_at}
use Rattle.cl_hop.specs.declared.group_timing.GroupTiming.{GroupTiming}
use Rattle.cl_why.specs.{Hops.{timing_at_place, taken_arrival}, Walks.job_line}
use Rattle.cl_why.proofs.TimedGroups.{timing_found}
use Rattle.cl_why.proofs.walks.put_taken.Goals as goal

pub loop-place-preserved : goal.loop-place-preserved
loop-place-preserved c =
    let model = c.args.model.now in
    let chain = c.args.chain in
    let walk = c.args.walk.now in
    let i = c.loop-place.place in
    let within : i < length (groups_at model chain) = omega (arith, c.loop-place-test.true, c.group_count-place-end.ensures.count) in
    let found = timing_found model chain c.args.timings.now c.requires.timings i _ within in
    let arrival = get_or c.as_slice.result.now i (pos 0) in
    let fits : SFits w64 arrival = search rules in
    let held : to_z w64 (of_z w64 arrival) ≡ arrival = to_z-of_z w64 arrival fits in
    let line : ℕ → List ℕ = λ place. job_line (codes "taken ") (codes " write ") model chain place (taken_arrival walk place) (timing_at_place model chain place).write in
    line_more line c.args.text.now c.loop-place.text c.put_job.new.text i c.loop-place.invariant
    (c.in_ok-put_job.ensures
    ∙ ap (λ (z : ℤ). c.loop-place.text ++ job_line (codes "taken ") (codes " write ") model chain i z c.write-write.result) held
    ∙ ap (λ (list : List ℤ). c.loop-place.text ++ job_line (codes "taken ") (codes " write ") model chain i (get_or list i (pos 0)) c.write-write.result) c.as_slice.ensures
    ∙ ap (λ (n : ℕ). c.loop-place.text ++ job_line (codes "taken ") (codes " write ") model chain i (taken_arrival walk i) n)
    (c.write-write.ensures ∙ ap (λ (t : GroupTiming). t.write) found))

pub returns : goal.returns
returns c =
    let model = c.args.model.now in
    let chain = c.args.chain in
    let walk = c.args.walk.now in
    let i = c.loop-place.place in
    let line : ℕ → List ℕ = λ place. job_line (codes "taken ") (codes " write ") model chain place (taken_arrival walk place) (timing_at_place model chain place).write in
    let all : i ≡ length (groups_at model chain) = omega (arith, c.loop-place-test.false, c.loop-place.auto.place-end, c.group_count-place-end.ensures.count) in
    c.loop-place.invariant ∙ ap (λ n. c.args.text.now ++ flat_map line (range_with_len 0 n)) all
