use Rattle.std.proofs.Common.{Bool, List, [], ◌∷◌, ◌++◌, ℕ, false, get_or, ap, ◌∙◌}
use Rattle.std.proofs.lemmas.Result.{on_ok_weaker}
use Rattle.cl_hop.specs.declared.group_timing.GroupTiming.{GroupTiming}
use Rattle.cl_explain.specs.Explanation.{group_words}
use Rattle.cl_why.specs.{Shares.free_words, Hops.{timing_at_place, kept_at, why_group_line}}
use Rattle.cl_why.proofs.TimedGroups.{timing_found, line_of_two}
use Rattle.cl_why.proofs.hops.put_group.Goals as goal

pub returns : goal.returns
unfolding why_group_line
returns c =
    let model = c.args.model.now in
    let chain = c.args.chain in
    let place = c.args.place in
    let text = c.args.text.now in
    let words = c.put_group_words.new.text in
    let timing = timing_found model chain c.args.timings.now c.requires.timings place _ c.requires.place in
    on_ok_weaker c.put-2.result (λ last.
    line_of_two (group_words model chain place (timing_at_place model chain place)) (free_words (kept_at c.args.walk.now place)) (0x0A ∷ [])
    text words c.put.new.self c.put-2.new.self
    (c.in_ok-put_group_words.ensures ∙ ap (λ (t : GroupTiming). text ++ group_words model chain place t) timing)
    (c.in_ok-put.ensures.ok ∙ ap (λ (word : List ℕ). words ++ word) c.free_words.ensures
    ∙ ap (λ (kept : List Bool). words ++ free_words (get_or kept place false)) c.as_slice.ensures)
    last) c.put-2.ensures.ok
