use Rattle.std.proofs.Common.{ℕ, List, ◌==◌, take, ap, ◌∙◌, rules, tests}
use Rattle.std.specs.Prelude.{count_by}
use Rattle.std.proofs.lemmas.Iterator.{YieldsList-from_take}
use Rattle.std.proofs.lemmas.Iterator.Consumers.{count_from_yields_List, YieldsList-from_filter, YieldsList-at}
use Rattle.std.proofs.lemmas.Iterator.Splits.{YieldsList-from_slice_split}
use Rattle.std.proofs.lemmas.List.Sums.{length-filter}
use Rattle.cl_edit.specs.Said.{lines, says}
use Rattle.cl_lists.specs.BadLines.{leading_word}
use Rattle.cl_lists.proofs.lines.spoken_above.Goals as goal

pub returns : goal.returns
returns c =
    let list = c.args.list.now in
    let n = c.saturating_sub.result in
    count_from_yields_List _ c.count.result c.count.ensures.ran
    (YieldsList-from_filter _ (λ (found : List ℕ). says (leading_word found))
    (YieldsList-at c.filter.ensures.source
    (YieldsList-from_take n
    (YieldsList-at c.take.ensures.source (YieldsList-from_slice_split _ (λ byte. byte == 0x0A) list (cc) (cc) (cc) (λ x b q k. search (rules, tests))))
    c.take.ensures.count))
    c.filter.ensures.closure (λ x b q k. search (rules, tests)))
    ∙ length-filter (λ (found : List ℕ). says (leading_word found)) (take n (lines list))
    ∙ ap (λ (k : ℕ). count_by (λ (found : List ℕ). says (leading_word found)) (take k (lines list))) c.saturating_sub.ensures
