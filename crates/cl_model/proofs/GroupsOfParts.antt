-- The groups of the two parts of steps that are cut where a group ends.
use Rattle.std.proofs.Common.{◌≡◌, ℕ, zero, suc, ◌<◌, ◌≤◌, true, false, cond, List, [], ◌∷◌, ◌++◌, length, take, drop, refl, sym, ap, ◌∙◌, arith}
use Rattle.cl_model.specs.{declared.group.{Group.Group, Step.Step}, GroupCuts.IsCutAfter, Groups.{is_inner, group_of_step, groups_from, groups}}

-- the same of a group so far and the steps behind it, cut behind some of the groups
record IsCutFrom (group : Group) (steps : List Step) (count : ℕ) (made : List Group) : Type 0 where
  front : List Step
  back : List Step
  whole : front ++ back ≡ steps
  groups_before : groups_from group front ≡ take (suc count) made
  groups_behind : groups back ≡ drop (suc count) made

-- a step that an inner hop joins to the group stands in the front part
cut_joined : (step : Step) (steps : List Step) (group joined : Group) (count : ℕ) (made : List Group)
    → joined ≡ record { task = group.task; first = group.first; last = step.place } → is_inner group step ≡ true
    → IsCutFrom joined steps count made → IsCutFrom group (step ∷ steps) count made
cut_joined step steps group joined count made is inner cut = record {
  front = step ∷ cut.front;
  back = cut.back;
  whole = ap (λ l. step ∷ l) cut.whole;
  groups_before = ap (λ b. cond b (groups_from (record { task = group.task; first = group.first; last = step.place }) cut.front) (group ∷ groups_from (group_of_step step) cut.front)) inner
      ∙ ap (λ g. groups_from g cut.front) (sym is) ∙ cut.groups_before;
  groups_behind = cut.groups_behind;
}

-- where the hop to the step isn't inner, the group ends before it
cut_apart : (step : Step) (steps : List Step) (group : Group) (behind : List Group) (count : ℕ) → count < length (group ∷ behind) → behind ≡ groups (step ∷ steps)
    → is_inner group step ≡ false → ((n : ℕ) → n < length behind → IsCutFrom (group_of_step step) steps n behind) → IsCutFrom group (step ∷ steps) count (group ∷ behind)
cut_apart step steps group behind zero within is outer cut_behind = record { front = []; back = step ∷ steps; whole = refl; groups_before = refl; groups_behind = sym is }
cut_apart step steps group behind (suc count) within is outer cut_behind =
    let cut = cut_behind count (omega arith) in
    record {
      front = step ∷ cut.front;
      back = cut.back;
      whole = ap (λ l. step ∷ l) cut.whole;
      groups_before = ap (λ b. cond b (groups_from (record { task = group.task; first = group.first; last = step.place }) cut.front) (group ∷ groups_from (group_of_step step) cut.front)) outer
          ∙ ap (λ l. group ∷ l) cut.groups_before;
      groups_behind = cut.groups_behind;
    }

cut_from : (steps : List Step) (group : Group) (count : ℕ) → count < length (groups_from group steps)
    → IsCutFrom group steps count (groups_from group steps)
cut_from [] group zero within = record { front = []; back = []; whole = refl; groups_before = refl; groups_behind = refl }
cut_from [] group (suc count) within = absurd (omega arith)
cut_from (step ∷ steps) group count within =
    let joined : Group = record { task = group.task; first = group.first; last = step.place } in
    elim (is_inner group step) as (λ b. is_inner group step ≡ b
    → count < length (cond b (groups_from joined steps) (group ∷ groups_from (group_of_step step) steps))
    → IsCutFrom group (step ∷ steps) count (cond b (groups_from joined steps) (group ∷ groups_from (group_of_step step) steps))) [
      | true ↦ λ inner lt. cut_joined step steps group joined count (groups_from joined steps) refl inner (cut_from steps joined count lt)
      | false ↦ λ outer lt. cut_apart step steps group (groups_from (group_of_step step) steps) count lt refl outer
          (λ n n_lt. cut_from steps (group_of_step step) n n_lt)
    ] refl within

-- steps can be cut behind each of their groups, and before the first
pub cut_after : (steps : List Step) (count : ℕ) → count ≤ length (groups steps) → IsCutAfter steps count
cut_after steps zero within = record { front = []; back = steps; whole = refl; groups_before = refl; groups_behind = refl }
cut_after [] (suc count) within = absurd (omega arith)
cut_after (step ∷ steps) (suc count) within =
    let cut = cut_from steps (group_of_step step) count (omega arith) in
    record {
      front = step ∷ cut.front;
      back = cut.back;
      whole = ap (λ l. step ∷ l) cut.whole;
      groups_before = cut.groups_before;
      groups_behind = cut.groups_behind;
    }
