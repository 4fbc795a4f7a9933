use Rattle.std.proofs.Common.{◌≡◌, ℕ, true, false, to_z, of_z, w64, refl, sym, ap, ◌∙◌, subst, arith}
use Rattle.std.specs.Prelude.{Option, Some, None, is_some, not, unsigned_abs}
use Rattle.std.proofs.lemmas.Bool.{true≢false}
use Rattle.std.proofs.lemmas.Int.{ints, clamps}
use Rattle.cl_resp.specs.{Asked.EndsBy, Worst.NoneEndsBy, Inner.Phased.asked_of}
use Rattle.cl_resp.proofs.WorstBeginnings.{late_where_none, ends_where_some}
use Rattle.cl_resp.proofs.worst.is_late.Goals as goal

is_nothing : (found : Option ℕ) → is_some found ≡ not true → found ≡ None
is_nothing None is = refl
is_nothing (Some width) is = absurd (true≢false is)

is_something : (found : Option ℕ) → is_some found ≡ not false → found ≡ None → ⊥
is_something None is none = true≢false (sym is)
is_something (Some width) is none = absurd (true≢false (ap is_some none))

pub returns-clause-late : goal.returns-clause-late
returns-clause-late c late =
    let window = c.window_from in
    let start = to_z w64 (of_z w64 c.args.start) in
    let same : start ≡ c.args.start = omega (arith, ints) in
    let most = to_z w64 (of_z w64 c.max-most.result) in
    subst (λ s. NoneEndsBy (asked_of c.args.question.now) s c.args.latest) same
    (late_where_none (asked_of c.args.question.now) window.result start c.args.latest (unsigned_abs most)
    (omega (arith, ints, clamps, same, c.max-most.ensures.value, c.max-most.type_inv, c.requires.start, c.requires.latest))
    window.ensures (is_nothing window.result (c.is_none.ensures ∙ ap not late)))

pub returns-clause-ends : goal.returns-clause-ends
returns-clause-ends c ends =
    let window = c.window_from in
    let start = to_z w64 (of_z w64 c.args.start) in
    let same : start ≡ c.args.start = omega (arith, ints) in
    let most = to_z w64 (of_z w64 c.max-most.result) in
    subst (λ s. EndsBy (asked_of c.args.question.now) s c.args.latest) same
    (ends_where_some (asked_of c.args.question.now) window.result start c.args.latest (unsigned_abs most)
    (λ some. omega (arith, ints, clamps, some, same, c.max-most.ensures.value, c.max-most.type_inv, c.requires.start, c.requires.latest))
    window.ensures (is_something window.result (c.is_none.ensures ∙ ap not ends)))
