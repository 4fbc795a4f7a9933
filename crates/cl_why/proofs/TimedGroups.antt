-- What is known of the groups of a chain, as it is found in a list, and lines piece by piece.
use Rattle.std.proofs.Common.{◌≡◌, ℕ, suc, ◌+◌, ◌<◌, ℤ, Bool, true, false, cond, List, [], ◌∷◌, ◌++◌, length, get_or, map, refl, sym, ap, ◌∙◌, codes, append_assoc, arith}
use Rattle.std.specs.Prelude.{◌&&◌}
use Rattle.std.specs.Fmt.{signed_decimal}
use Rattle.std.specs.List.{flat_map, range_with_len}
use Rattle.std.proofs.lemmas.Bool.{ne_eqb}
use Rattle.std.proofs.lemmas.List.{get_or-map, flat_map_more}
use Rattle.cl_text.proofs.MoreLines.{range_more}
use Rattle.cl_model.specs.{declared.{model.SystemModel.SystemModel, chain.RequirementKind.RequirementKind}, Groups.{no_group, groups_at}}
use Rattle.cl_runs.specs.SystemOf.{system_of}
use Rattle.cl_hop.specs.{declared.group_timing.GroupTiming.GroupTiming, Hops.lag}
use Rattle.cl_phase.specs.declared.whole.WholeWalk.{WholeWalk}
use Rattle.cl_tight.specs.TightTimings.{tight_timing}
use Rattle.cl_explain.specs.Explanation.{hop_head}
use Rattle.cl_why.specs.{Hops.{timing_at_place, kept_at, missed_by, missed_by_words, lag_words, why_hop_line}, Walks.{first_missed, missed_lines, taken_lines, walk_from, walk_to, why_length_line, read_of_first, write_of_last, why_walk_lines}}

-- ---- timings

module _ (model : SystemModel) (chain : ℕ) (timings : List GroupTiming)
    (are : timings ≡ map (tight_timing (system_of model)) (groups_at model chain)) where
  -- that of a place is that of the group there
  pub timing_found : (place : ℕ) (d : GroupTiming) → place < length (groups_at model chain) → get_or timings place d ≡ timing_at_place model chain place
  timing_found place d within =
      ap (λ (list : List GroupTiming). get_or list place d) are
      ∙ get_or-map (tight_timing (system_of model)) (groups_at model chain) place no_group d within

-- ---- lines

pub two_pieces : (a b t0 t1 t2 : List ℕ) → t1 ≡ t0 ++ a → t2 ≡ t1 ++ b → t2 ≡ t0 ++ (a ++ b)
two_pieces a b t0 t1 t2 h1 h2 = rw (h2, h1) (simp append_assoc)

pub three_pieces : (a b c t0 t1 t2 t3 : List ℕ) → t1 ≡ t0 ++ a → t2 ≡ t1 ++ b → t3 ≡ t2 ++ c → t3 ≡ t0 ++ (a ++ b ++ c)
three_pieces a b c t0 t1 t2 t3 h1 h2 h3 = rw (h3, h2, h1) (simp append_assoc)

-- a line of two pieces
pub line_of_two : (a b c t0 t1 t2 t3 : List ℕ) → t1 ≡ t0 ++ a → t2 ≡ t1 ++ b → t3 ≡ t2 ++ c → t3 ≡ t0 ++ ((a ++ b) ++ c)
line_of_two a b c t0 t1 t2 t3 h1 h2 h3 = rw (h3, h2, h1) (simp append_assoc)

-- by how much a hop is missed, where both groups keep their phases
both_true : (a b : Bool) → a ≡ true → b ≡ true → a && b ≡ true
both_true true true one other = refl
both_true true false one other = other
both_true false b one other = absurd cc

pub missed_shown : (walk : WholeWalk) (place : ℕ) (lag : ℤ) (t0 t1 t2 : List ℕ) → kept_at walk place ≡ true → kept_at walk (place + 1) ≡ true
    → t1 ≡ t0 ++ codes " missed by " → t2 ≡ t1 ++ signed_decimal (missed_by walk place lag) → t2 ≡ t0 ++ missed_by_words walk place lag
missed_shown walk place lag t0 t1 t2 one other h1 h2 =
    let words = codes " missed by " ++ signed_decimal (missed_by walk place lag) in
    two_pieces (codes " missed by ") (signed_decimal (missed_by walk place lag)) t0 t1 t2 h1 h2
    ∙ ap (λ (test : Bool). t0 ++ cond test words []) (sym (both_true (kept_at walk place) (kept_at walk (place + 1)) one other))

-- the lag of a hop between groups of two tasks
pub lag_shown : (walk : WholeWalk) (place : ℕ) (writer reader : GroupTiming) (t0 t1 t2 t3 : List ℕ) → (writer.task ≡ reader.task → ⊥)
    → t1 ≡ t0 ++ codes " lag " → t2 ≡ t1 ++ signed_decimal (lag writer reader) → t3 ≡ t2 ++ missed_by_words walk place (lag writer reader)
    → t3 ≡ t0 ++ lag_words walk place writer reader
lag_shown walk place writer reader t0 t1 t2 t3 apart h1 h2 h3 =
    let words = codes " lag " ++ signed_decimal (lag writer reader) ++ missed_by_words walk place (lag writer reader) in
    three_pieces (codes " lag ") (signed_decimal (lag writer reader)) (missed_by_words walk place (lag writer reader)) t0 t1 t2 t3 h1 h2 h3
    ∙ ap (λ (test : Bool). t0 ++ cond test [] words) (sym (ne_eqb writer.task reader.task apart))

-- the line of a hop
pub hop_shown : (model : SystemModel) (chain place : ℕ) (walk : WholeWalk) (writer reader : GroupTiming) (t0 t1 t2 t3 : List ℕ)
    → t1 ≡ t0 ++ hop_head model chain place writer reader → t2 ≡ t1 ++ lag_words walk place writer reader → t3 ≡ t2 ++ 0x0A ∷ []
    → writer ≡ timing_at_place model chain place → reader ≡ timing_at_place model chain (place + 1)
    → t3 ≡ t0 ++ why_hop_line model chain walk place
unfolding why_hop_line
hop_shown model chain place walk writer reader t0 t1 t2 t3 h1 h2 h3 own next =
    let words : GroupTiming → GroupTiming → List ℕ = λ w r. (hop_head model chain place w r ++ lag_words walk place w r) ++ 0x0A ∷ [] in
    line_of_two (hop_head model chain place writer reader) (lag_words walk place writer reader) (0x0A ∷ []) t0 t1 t2 t3 h1 h2 h3
    ∙ ap (λ (w : GroupTiming). t0 ++ words w reader) own ∙ ap (λ (r : GroupTiming). t0 ++ words (timing_at_place model chain place) r) next

-- the lines of a walk
pub walk_shown : (model : SystemModel) (chain : ℕ) (walk : WholeWalk) (kind : RequirementKind) (first read write : ℕ) (from to : ℤ) (t0 t1 t2 t3 : List ℕ)
    → t1 ≡ t0 ++ missed_lines model chain walk first → t2 ≡ t1 ++ taken_lines model chain walk → t3 ≡ t2 ++ why_length_line model chain from to
    → first ≡ first_missed kind → read ≡ read_of_first model chain → write ≡ write_of_last model chain
    → from ≡ walk_from walk kind read → to ≡ walk_to walk write → t3 ≡ t0 ++ why_walk_lines model chain walk kind
unfolding why_walk_lines
walk_shown model chain walk kind first read write from to t0 t1 t2 t3 h1 h2 h3 is_first is_read is_write is_from is_to =
    let start = is_from ∙ ap (walk_from walk kind) is_read in
    let end = is_to ∙ ap (walk_to walk) is_write in
    three_pieces (missed_lines model chain walk (first_missed kind)) (taken_lines model chain walk)
    (why_length_line model chain (walk_from walk kind (read_of_first model chain)) (walk_to walk (write_of_last model chain))) t0 t1 t2 t3
    (h1 ∙ ap (λ (n : ℕ). t0 ++ missed_lines model chain walk n) is_first) h2
    (h3 ∙ ap (λ (z : ℤ). t2 ++ why_length_line model chain z to) start
    ∙ ap (λ (z : ℤ). t2 ++ why_length_line model chain (walk_from walk kind (read_of_first model chain)) z) end)

-- the line of one more number stands behind those before it, which begin at a number
pub line_more_from : (line : ℕ → List ℕ) (text before after : List ℕ) (from n m : ℕ) → from + n ≡ m
    → before ≡ text ++ flat_map line (range_with_len from n) → after ≡ before ++ line m
    → after ≡ text ++ flat_map line (range_with_len from (n + 1))
line_more_from line text before after from n m at was is =
    let next : suc n ≡ n + 1 = omega arith in
    is ∙ ap (λ t. t ++ line m) was ∙ flat_map_more line text (range_with_len from n) m
    ∙ ap (λ k. text ++ flat_map line (range_with_len from n ++ k ∷ [])) (sym at)
    ∙ ap (λ ms. text ++ flat_map line ms) (sym (range_more from n))
    ∙ ap (λ k. text ++ flat_map line (range_with_len from k)) next
