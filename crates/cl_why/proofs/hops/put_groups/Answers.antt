use Rattle.std.proofs.Common.{◌≡◌, ℕ, ◌+◌, ◌-◌, List, ◌++◌, length, ap, ◌∙◌, arith}
use Rattle.std.specs.List.{flat_map, range_with_len}
use Rattle.std.proofs.lemmas.List.{append_assoc}
use Rattle.cl_text.proofs.MoreLines.{line_more}
use Rattle.cl_model.specs.Groups.{groups_at}
use Rattle.cl_why.specs.Hops.{why_group_line, why_hop_line, why_group_lines}
use Rattle.cl_why.proofs.hops.put_groups.Goals as goal

pub loop-place-preserved : goal.loop-place-preserved
loop-place-preserved c =
    let model = c.args.model.now in
    let chain = c.args.chain in
    let walk = c.args.walk.now in
    let i = c.loop-place.place in
    let pair : ℕ → List ℕ = λ place. why_hop_line model chain walk place ++ why_group_line model chain walk (place + 1) in
    line_more pair c.put_group.new.text c.loop-place.text c.put_group-in-loop-place.new.text i c.loop-place.invariant
    (c.in_ok-put_group-2.ensures ∙ ap (λ t. t ++ why_group_line model chain walk (i + 1)) c.in_ok-put_hop.ensures
    ∙ append_assoc c.loop-place.text (why_hop_line model chain walk i) (why_group_line model chain walk (i + 1)))

pub returns : goal.returns
unfolding why_group_lines
returns c =
    let model = c.args.model.now in
    let chain = c.args.chain in
    let walk = c.args.walk.now in
    let i = c.loop-place.place in
    let pair : ℕ → List ℕ = λ place. why_hop_line model chain walk place ++ why_group_line model chain walk (place + 1) in
    let all : i ≡ length (groups_at model chain) - 1 = omega (arith, c.loop-place-test.false, c.loop-place.auto.place-end, c.group_count-hops.ensures.count) in
    c.loop-place.invariant ∙ ap (λ t. t ++ flat_map pair (range_with_len 0 i)) c.in_ok-put_group.ensures
    ∙ append_assoc c.args.text.now (why_group_line model chain walk 0) (flat_map pair (range_with_len 0 i))
    ∙ ap (λ n. c.args.text.now ++ (why_group_line model chain walk 0 ++ flat_map pair (range_with_len 0 n))) all
