-- Each group of a list of steps ends at or after its first runnable.
use Rattle.std.proofs.Common.{◌≡◌, ℕ, zero, suc, ◌<◌, ◌≤◌, true, List, [], ◌∷◌, length, arith, nat_lt}
use Rattle.std.specs.Prelude.{◌==◌}
use Rattle.std.proofs.lemmas.Bool.{and_parts, ltb-true, cond_both}
use Rattle.cl_model.specs.{declared.group.{Group.Group, Step.Step}, Groups.{is_inner, group_of_step, groups_from, groups, group_at}}

abbrev AllForward : List Group → Type 0
AllForward gs = (i : ℕ) → i < length gs → (group_at gs i).first ≤ (group_at gs i).last

cons_forward : (group : Group) (gs : List Group) → group.first ≤ group.last → AllForward gs → AllForward (group ∷ gs)
cons_forward group gs forward all zero h = forward
cons_forward group gs forward all (suc i) h = all i (omega arith)

inner_before : (group : Group) (step : Step) → is_inner group step ≡ true → group.last < step.place
inner_before group step inner = ltb-true group.last step.place (and_parts (group.task == step.task) (nat_lt group.last step.place) inner).1

groups_from_forward : (steps : List Step) (group : Group) → group.first ≤ group.last → AllForward (groups_from group steps)
groups_from_forward [] group forward = cons_forward group [] forward (λ i h. absurd (omega arith))
groups_from_forward (step ∷ steps) group forward =
    let longer : Group = record { task = group.task; first = group.first; last = step.place } in
    cond_both (is_inner group step) (groups_from longer steps) (group ∷ groups_from (group_of_step step) steps) AllForward
    (λ inner. groups_from_forward steps longer (omega (arith, forward, inner_before group step inner)))
    (λ other. cons_forward group (groups_from (group_of_step step) steps) forward (groups_from_forward steps (group_of_step step) (omega arith)))

pub groups_forward : (steps : List Step) → AllForward (groups steps)
groups_forward [] = λ i h. absurd (omega arith)
groups_forward (step ∷ steps) = groups_from_forward steps (group_of_step step) (omega arith)
