-- The groups of a list of steps are its maximal runs, and nothing else is.
use Rattle.std.proofs.Common.{◌≡◌, ℕ, zero, suc, ◌+◌, ◌-◌, ◌<◌, true, false, cond, ◌==◌, inl, inr, List, [], ◌∷◌, ◌++◌, length, refl, sym, ap, ◌∙◌, subst, arith, nat_lt, append_assoc}
use Rattle.std.specs.List.{flat_map}
use Rattle.std.proofs.lemmas.Bool.{cases_lt, cond-true, cond-false, ltb-true, lt-ltb, eqb-true, eq-eqb, false_from_ne_true}
use Rattle.std.proofs.lemmas.List.{get_or_append_left, length_push}
use Rattle.std.proofs.Math.Seq.{get_or-append_seam}
use Rattle.cl_model.specs.{declared.group.{Group.Group, Step.Step}, Groups.{is_inner, group_of_step, groups_from, groups, no_step, step_at, group_at}, MaximalRuns.{IsInnerHop, first_step, last_step, IsGroupOfPiece, piece_at, AreMaximalRuns}}
use Rattle.cl_model.proofs.ListFacts.{both_pass, both_true}

-- a group with one more step at its end
abbrev longer : Group → Step → Group
longer group step = record { task = group.task; first = group.first; last = step.place }

-- ---- the pieces that the groups stand for

-- all steps of a piece stand in the task of its group
one_task : (piece : List Step) (group : Group) → IsGroupOfPiece piece group → (k : ℕ) → k < length piece → group.task ≡ (step_at piece k).task
one_task piece group is zero within = is.task
one_task piece group is (suc k) within =
    let next : k + 1 ≡ suc k = omega arith in
    one_task piece group is k (omega arith) ∙ (is.joined k (omega arith)).one_task ∙ ap (λ n. (step_at piece n).task) next

module _ (piece : List Step) (group : Group) (is : IsGroupOfPiece piece group) where
  -- its last step
  end_within : length piece - 1 < length piece
  end_within = let some = is.some in omega arith

  -- the hop to the next step is inner where that of the last step is
  inner_from : (step : Step) → IsInnerHop (last_step piece) step → is_inner group step ≡ true
  inner_from step hop = both_true (group.task == step.task) (nat_lt group.last step.place)
      (eq-eqb group.task step.task (one_task piece group is (length piece - 1) end_within ∙ hop.one_task))
      (lt-ltb group.last step.place (subst (λ n. n < step.place) (sym is.last) hop.in_order))

  inner_to : (step : Step) → is_inner group step ≡ true → IsInnerHop (last_step piece) step
  inner_to step inner =
      let both = both_pass (group.task == step.task) (nat_lt group.last step.place) inner in
      record {
        one_task = sym (one_task piece group is (length piece - 1) end_within) ∙ eqb-true group.task step.task both.0;
        in_order = subst (λ n. n < step.place) is.last (ltb-true group.last step.place both.1);
      }

  -- the piece with that step at its end
  piece_longer : (step : Step) → is_inner group step ≡ true → IsGroupOfPiece (piece ++ step ∷ []) (longer group step)
  piece_longer step inner =
      let long = length_push piece step in
      let some = is.some in
      let kept : (k : ℕ) → k < length piece → step_at (piece ++ step ∷ []) k ≡ step_at piece k = λ k lt. get_or_append_left piece (step ∷ []) no_step k lt in
      let added : step_at (piece ++ step ∷ []) (length piece) ≡ step = get_or-append_seam piece step [] no_step in
      record {
        some = omega (arith, long);
        joined = λ hop within. elim (cases_lt (hop + 1) (length piece)) [
          | inl before ↦ subst (λ s. IsInnerHop s (step_at (piece ++ step ∷ []) (hop + 1))) (sym (kept hop (omega arith)))
              (subst (IsInnerHop (step_at piece hop)) (sym (kept (hop + 1) before)) (is.joined hop before))
          | inr past ↦
              let reader : length piece ≡ hop + 1 = omega (arith, past, within, long) in
              let writer : length piece - 1 ≡ hop = omega (arith, reader) in
              subst (λ s. IsInnerHop s (step_at (piece ++ step ∷ []) (hop + 1))) (ap (step_at piece) writer ∙ sym (kept hop (omega (arith, reader))))
              (subst (IsInnerHop (last_step piece)) (sym added ∙ ap (step_at (piece ++ step ∷ [])) reader) (inner_to step inner))
        ];
        task = is.task ∙ ap (λ (s : Step). s.task) (sym (kept 0 some));
        first = is.first ∙ ap (λ (s : Step). s.place) (sym (kept 0 some));
        last =
            let end : length piece ≡ length (piece ++ step ∷ []) - 1 = omega (arith, long) in
            ap (λ (s : Step). s.place) (sym added ∙ ap (step_at (piece ++ step ∷ [])) end);
      }

-- a piece of one step
one_step : (step : Step) → IsGroupOfPiece (step ∷ []) (group_of_step step)
one_step step = record { some = omega arith; joined = λ hop within. absurd (omega arith); task = refl; first = refl; last = refl }

-- the runs of a piece so far and the steps behind it, of which the first begins as the piece
record RunsFrom (piece steps : List Step) (made : List Group) : Type 0 where
  runs : AreMaximalRuns (piece ++ steps) made
  some : 0 < length runs.pieces
  begins : first_step (piece_at runs.pieces 0) ≡ first_step piece

-- a piece before other pieces
module _ (piece : List Step) (group : Group) (is : IsGroupOfPiece piece group) (pieces : List (List Step)) (made : List Group) where
  each_behind : ((k : ℕ) → k < length pieces → IsGroupOfPiece (piece_at pieces k) (group_at made k))
      → (k : ℕ) → k < length (piece ∷ pieces) → IsGroupOfPiece (piece_at (piece ∷ pieces) k) (group_at (group ∷ made) k)
  each_behind each zero within = is
  each_behind each (suc k) within = each k (omega arith)

  apart_behind : (IsInnerHop (last_step piece) (first_step (piece_at pieces 0)) → ⊥)
      → ((k : ℕ) → k + 1 < length pieces → IsInnerHop (last_step (piece_at pieces k)) (first_step (piece_at pieces (k + 1))) → ⊥)
      → (k j : ℕ) → k + 1 ≡ j → j < length (piece ∷ pieces) → IsInnerHop (last_step (piece_at (piece ∷ pieces) k)) (first_step (piece_at (piece ∷ pieces) j)) → ⊥
  apart_behind here apart zero zero next within hop = absurd (omega arith)
  apart_behind here apart zero (suc j) next within hop =
      let first : j ≡ 0 = omega arith in
      here (subst (λ n. IsInnerHop (last_step piece) (first_step (piece_at pieces n))) first hop)
  apart_behind here apart (suc k) zero next within hop = absurd (omega arith)
  apart_behind here apart (suc k) (suc j) next within hop =
      let at : j ≡ k + 1 = omega arith in
      apart k (omega arith) (subst (λ n. IsInnerHop (last_step (piece_at pieces k)) (first_step (piece_at pieces n))) at hop)

runs_from : (steps piece : List Step) (group : Group) → IsGroupOfPiece piece group → RunsFrom piece steps (groups_from group steps)
runs_from [] piece group is = record {
  runs = record {
    pieces = piece ∷ [];
    cut = refl;
    count = refl;
    each = each_behind piece group is [] [] (λ k within. absurd (omega arith));
    apart = λ k within. absurd (omega arith);
  };
  some = omega arith;
  begins = refl;
}
runs_from (step ∷ steps) piece group is =
    elim (is_inner group step) as (λ b. is_inner group step ≡ b
    → RunsFrom piece (step ∷ steps) (cond b (groups_from (longer group step) steps) (group ∷ groups_from (group_of_step step) steps))) [
      | true ↦ λ inner.
          let rest = runs_from steps (piece ++ step ∷ []) (longer group step) (piece_longer piece group is step inner) in
          record {
            runs = record { pieces = rest.runs.pieces; cut = rest.runs.cut ∙ append_assoc piece (step ∷ []) steps; count = rest.runs.count; each = rest.runs.each; apart = rest.runs.apart };
            some = rest.some;
            begins = rest.begins ∙ get_or_append_left piece (step ∷ []) no_step 0 is.some;
          }
      | false ↦ λ outer.
          let rest = runs_from steps (step ∷ []) (group_of_step step) (one_step step) in
          let not_inner : IsInnerHop (last_step piece) (first_step (piece_at rest.runs.pieces 0)) → ⊥
          = λ hop. let inner = inner_from piece group is step (subst (IsInnerHop (last_step piece)) rest.begins hop) in cc in
          record {
            runs = record {
              pieces = piece ∷ rest.runs.pieces;
              cut = ap (λ l. piece ++ l) rest.runs.cut;
              count = ap suc rest.runs.count;
              each = each_behind piece group is rest.runs.pieces (groups_from (group_of_step step) steps) rest.runs.each;
              apart = λ k within hop. apart_behind piece group is rest.runs.pieces (groups_from (group_of_step step) steps) not_inner rest.runs.apart k (k + 1) refl within hop;
            };
            some = omega arith;
            begins = refl;
          }
    ] refl

-- the groups of steps are maximal runs of them
pub groups_are_runs : (steps : List Step) → AreMaximalRuns steps (groups steps)
groups_are_runs [] = record { pieces = []; cut = refl; count = refl; each = λ k within. absurd (omega arith); apart = λ k within. absurd (omega arith) }
groups_are_runs (step ∷ steps) = (runs_from steps (step ∷ []) (group_of_step step) (one_step step)).runs

-- ---- no other groups are

-- each step hangs on to the group so far, and the group that comes of it
abbrev IsJoinedFrom : Group → List Step → Group → Type 0
IsJoinedFrom group [] made = group ≡ made
IsJoinedFrom group (step ∷ steps) made = (is_inner group step ≡ true) × IsJoinedFrom (longer group step) steps made

joined_from : (rest : List Step) (step : Step) (group made : Group) → group.task ≡ step.task → group.last ≡ step.place
    → ((hop : ℕ) → hop + 1 < length (step ∷ rest) → IsInnerHop (step_at (step ∷ rest) hop) (step_at (step ∷ rest) (hop + 1)))
    → made.task ≡ group.task → made.first ≡ group.first → made.last ≡ (last_step (step ∷ rest)).place → IsJoinedFrom group rest made
joined_from [] step group made in_task at_end joined task first last =
    let from_task : ℕ → Group = λ n. record { task = n; first = group.first; last = group.last } in
    let from_first : ℕ → Group = λ n. record { task = made.task; first = n; last = group.last } in
    let from_last : ℕ → Group = λ n. record { task = made.task; first = made.first; last = n } in
    ap from_task (sym task) ∙ ap from_first (sym first) ∙ ap from_last (at_end ∙ sym last)
joined_from (next ∷ rest) step group made in_task at_end joined task first last =
    let hop : IsInnerHop step next = joined 0 (omega arith) in
    let inner : is_inner group next ≡ true
    = both_true (group.task == next.task) (nat_lt group.last next.place) (eq-eqb group.task next.task (in_task ∙ hop.one_task))
    (lt-ltb group.last next.place (subst (λ n. n < next.place) (sym at_end) hop.in_order)) in
    let end : length (step ∷ next ∷ rest) - 1 ≡ suc (length (next ∷ rest) - 1) = omega arith in (
      inner,
      joined_from rest next (longer group next) made (in_task ∙ hop.one_task) refl
          (λ k within.
          let at : suc k + 1 ≡ suc (k + 1) = omega arith in
          subst (λ n. IsInnerHop (step_at (next ∷ rest) k) (step_at (step ∷ next ∷ rest) n)) at (joined (suc k) (omega arith)))
          task first (last ∙ ap (λ n. (step_at (step ∷ next ∷ rest) n).place) end),
    )

-- a piece makes its group
made_of_piece : (rest : List Step) (group made : Group) (more : List Step) → IsJoinedFrom group rest made → groups_from group (rest ++ more) ≡ groups_from made more
made_of_piece [] group made more same = ap (λ g. groups_from g more) same
made_of_piece (step ∷ rest) group made more joined =
    cond-true (is_inner group step) (groups_from (longer group step) (rest ++ more)) (group ∷ groups_from (group_of_step step) (rest ++ more)) joined.0
    ∙ made_of_piece rest (longer group step) made more joined.1

-- a group ends where the next piece begins
ends : (pieces : List (List Step)) (group : Group) → (0 < length pieces → 0 < length (piece_at pieces 0)) → (0 < length pieces → is_inner group (first_step (piece_at pieces 0)) ≡ false)
    → groups_from group (flat_map (λ piece. piece) pieces) ≡ group ∷ groups (flat_map (λ piece. piece) pieces)
ends [] group some outer = refl
ends ([] ∷ pieces) group some outer = let lt = some (omega arith) in absurd (omega (arith, lt))
ends ((step ∷ rest) ∷ pieces) group some outer =
    cond-false (is_inner group step) (groups_from (longer group step) (rest ++ flat_map (λ piece. piece) pieces))
    (group ∷ groups_from (group_of_step step) (rest ++ flat_map (λ piece. piece) pieces)) (outer (omega arith))

only_groups : (pieces : List (List Step)) (made : List Group) → length made ≡ length pieces
    → ((k : ℕ) → k < length pieces → IsGroupOfPiece (piece_at pieces k) (group_at made k))
    → ((k : ℕ) → k + 1 < length pieces → IsInnerHop (last_step (piece_at pieces k)) (first_step (piece_at pieces (k + 1))) → ⊥)
    → made ≡ groups (flat_map (λ piece. piece) pieces)
only_groups [] [] count each apart = refl
only_groups [] (group ∷ made) count each apart = absurd (omega arith)
only_groups (piece ∷ pieces) [] count each apart = absurd (omega arith)
only_groups ([] ∷ pieces) (group ∷ made) count each apart = let some = (each 0 (omega arith)).some in absurd (omega (arith, some))
only_groups ((step ∷ rest) ∷ pieces) (group ∷ made) count each apart =
    let is = each 0 (omega arith) in
    let behind : (k : ℕ) → k + 1 < length pieces → IsInnerHop (last_step (piece_at pieces k)) (first_step (piece_at pieces (k + 1))) → ⊥
    = λ k within hop.
    let at : suc (k + 1) ≡ suc k + 1 = omega arith in
    apart (suc k) (omega arith) (subst (λ n. IsInnerHop (last_step (piece_at pieces k)) (first_step (piece_at ((step ∷ rest) ∷ pieces) n))) at hop) in
    let others = only_groups pieces made (omega arith) (λ k within. each (suc k) (omega arith)) behind in
    let ended = ends pieces group (λ some. (each 1 (omega arith)).some)
    (λ some. false_from_ne_true _ (λ inner. apart 0 (omega arith) (inner_to (step ∷ rest) group is (first_step (piece_at pieces 0)) inner))) in
    ap (λ l. group ∷ l) others ∙ sym ended
    ∙ sym (made_of_piece rest (group_of_step step) group (flat_map (λ piece. piece) pieces) (joined_from rest step (group_of_step step) group refl refl is.joined is.task is.first is.last))

-- what are maximal runs of steps are their groups
pub runs_are_groups : (steps : List Step) (made : List Group) → AreMaximalRuns steps made → made ≡ groups steps
runs_are_groups steps made runs = only_groups runs.pieces made runs.count runs.each runs.apart ∙ ap groups runs.cut
