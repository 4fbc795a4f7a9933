use Rattle.std.proofs.Common.{◌≡◌, ℕ, ◌+◌, ◌<◌, ◌||◌, Bool, true, false, ℤ, length, take, List, sym, ap, ◌∙◌, subst, take_all, arith}
use Rattle.std.specs.Prelude.{slice_index_or}
use Rattle.std.specs.List.{list_any}
use Rattle.std.proofs.lemmas.Int.{ints}
use Rattle.std.proofs.lemmas.List.Folds.{list_any_at, list_any_more}
use Rattle.cl_resp.specs.{declared.phased.InPhase.InPhase, Worst.is_released_in}
use Rattle.cl_resp.proofs.WorstPlaces.{held}
use Rattle.cl_resp.proofs.worst.is_released.Goals as goal

abbrev test : (cycle : ℕ) → (start : ℤ) → InPhase → Bool
test cycle start above = is_released_in cycle start above.phase above.jitter

found : (cycle : ℕ) (start : ℤ) (list all : List InPhase) (i : ℕ) (d : InPhase) → list ≡ all → i < length list → true ≡ test cycle start (slice_index_or list i d)
    → true ≡ list_any (test cycle start) all
found cycle start list all i d same within is =
    subst (λ xs. true ≡ list_any (test cycle start) xs) same (sym (list_any_at (test cycle start) list i d within (sym is)))

not_found : (cycle : ℕ) (start : ℤ) (list all : List InPhase) (i : ℕ) (d : InPhase) → list ≡ all → i < length list → false ≡ test cycle start (slice_index_or list i d)
    → list_any (test cycle start) (take i all) ≡ false → list_any (test cycle start) (take (i + 1) all) ≡ false
not_found cycle start list all i d same within is so_far =
    subst (λ xs. list_any (test cycle start) (take (i + 1) xs) ≡ false) same
    (list_any_more (test cycle start) list i d within
    ∙ ap (λ b. b || test cycle start (slice_index_or list i d)) (ap (λ xs. list_any (test cycle start) (take i xs)) same ∙ so_far)
    ∙ sym is)

pub returns-then-is_released_by : goal.returns-then-is_released_by
returns-then-is_released_by c =
    let same : held c.args.start ≡ c.args.start = omega (arith, ints) in
    subst (λ s. true ≡ list_any (test c.args.question.now.cycle s) c.args.question.now.in_phase) same
    (found c.args.question.now.cycle (held c.args.start) c.as_slice-above-items.result.now c.args.question.now.in_phase c.loop-above.above-index _
    c.as_slice-above-items.ensures c.loop-above-test.true (sym c.if-is_released_by.true ∙ c.is_released_by.ensures))

pub loop-above-preserved : goal.loop-above-preserved
loop-above-preserved c =
    not_found c.args.question.now.cycle (held c.args.start) c.as_slice-above-items.result.now c.args.question.now.in_phase c.loop-above.above-index _
    c.as_slice-above-items.ensures c.loop-above-test.true (sym c.if-is_released_by.false ∙ c.is_released_by.ensures) c.loop-above.invariant

pub returns : goal.returns
returns c =
    let list = c.args.question.now.in_phase in
    let same : held c.args.start ≡ c.args.start = omega (arith, ints) in
    let all : take c.loop-above.above-index list ≡ list = take_all c.loop-above.above-index list
    (omega (arith, c.loop-above-test.false, ap (length {A = InPhase}) c.as_slice-above-items.ensures)) in
    subst (λ s. false ≡ list_any (test c.args.question.now.cycle s) list) same
    (sym (ap (list_any (test c.args.question.now.cycle (held c.args.start))) (sym all) ∙ c.loop-above.invariant))
