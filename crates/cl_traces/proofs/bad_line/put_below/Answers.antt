use Rattle.std.proofs.Common.{◌≡◌, ◌≤◌, ℕ, Bool, true, false, List, ◌++◌, refl, sym, ◌∙◌, subst, arith}
use Rattle.std.specs.Prelude.{◌&&◌, ◌==◌, nat_lt, if◌then◌else◌, codes, decimal, OnOk}
use Rattle.std.proofs.lemmas.Bool.{lt-ltb, le-ltb, eq-eqb}
use Rattle.cl_model.specs.ByNumber.{task_at, core_at, core_of}
use Rattle.cl_traces.specs.BadTraceLines.{core_from, other_task}
use Rattle.cl_traces.proofs.bad_line.put_below.Goals as goal

second_of : (p q r : Bool) (x y z : List ℕ) → p ≡ false → q ≡ true → r ≡ true → (if p then x else if q && r then y else z) ≡ y
second_of false true true x y z h k l = refl
second_of false true false x y z h k l = absurd (cc)
second_of false false r x y z h k l = absurd (cc)
second_of true q r x y z h k l = absurd (cc)

-- on the same core a run line begins before the one above it ends
pub returns-then-run-above : goal.returns-then-run-above
returns-then-run-above c =
    let model = c.args.model.now in
    let core = core_of model c.args.run.task in
    let above = core_of model c.args.above.task in
    let same : core ≡ above = sym c.core_of-core.ensures.core ∙ c.if-core-core_above-2.true ∙ c.core_of-core_above.ensures.core in
    let most : above ≤ core = omega (arith, same) in
    let chosen = second_of (nat_lt core above) (core == above) (nat_lt c.args.run.from c.args.above.to) (core_from (core_at model above))
    (codes "FROM at least " ++ decimal c.args.above.to) (other_task (task_at model c.args.above.task) c.args.above.to)
    (le-ltb core above most) (eq-eqb core above same) (lt-ltb c.args.run.from c.args.above.to c.if-run-above.true) in
    subst (λ (words : List ℕ). OnOk c.put_numbered.result (c.put_numbered.new.text ≡ c.args.text.now ++ words)) (sym chosen) c.put_numbered.ensures
