use Rattle.std.proofs.Common.{◌≡◌, ℕ, ◌<◌, ◌++◌, [], ◌∷◌, List, get_or, take, length, sym, ap, ◌∙◌, subst, arith}
use Rattle.std.specs.Prelude.{All, set}
use Rattle.std.proofs.lemmas.List.{take_more}
use Rattle.cl_analyse.specs.declared.findings.ExactAnswer.{ExactAnswer}
use Rattle.cl_incr.specs.{declared.put.FoundExact.FoundExact, Inner.News.put_all}
use Rattle.cl_incr.proofs.PutExacts.{put_count, put_push}
use Rattle.cl_incr.proofs.put.put_exacts.Goals as goal

-- the chain of one that is found is in the list
known : (found : List FoundExact) (index bound : ℕ) (one : FoundExact) → index < length found → one ≡ get_or found index one
    → All (λ (f : FoundExact). f.chain < bound) found → one.chain < bound
known found index bound one within is below = subst (λ (f : FoundExact). f.chain < bound) (sym is) (below index one within)

pub item_mut-requires : goal.item_mut-requires
item_mut-requires c =
    let found = c.args.found.now in
    let one = c.one-item.result in
    omega (
      arith,
      known found c.loop-one.one-index (length c.args.exacts.now) one c.loop-one-test.true c.one-item.is c.requires,
      ap length c.loop-one.invariant,
      put_count (take c.loop-one.one-index found) c.args.exacts.now,
    )

pub loop-one-preserved : goal.loop-one-preserved
loop-one-preserved c =
    let found = c.args.found.now in
    let one = c.one-item.result in
    let i = c.loop-one.one-index in
    let initial = c.args.exacts.now in
    ap (λ (e : ExactAnswer). set c.loop-one.exacts one.chain e) c.copy.ensures
    ∙ ap (λ (l : List ExactAnswer). set l one.chain one.exact) c.loop-one.invariant
    ∙ sym (put_push (take i found) one initial)
    ∙ ap (λ (f : FoundExact). put_all (take i found ++ f ∷ []) initial) c.one-item.is
    ∙ ap (λ (l : List FoundExact). put_all l initial) (sym (take_more found i one c.loop-one-test.true))
