use Rattle.std.proofs.Common.{◌≡◌, ℕ, ◌+◌, ◌<◌, Bool, true, false, List, length, set, sym, ap, ◌∙◌, subst, inl, inr, below_more, get_or-set_other, arith}
use Rattle.std.proofs.lemmas.Bool.{cases_eq}
use Rattle.std.proofs.lemmas.Grind.{get_or-set_at}
use Rattle.std.proofs.lemmas.List.{length-set}
use Rattle.cl_model.specs.{declared.{group.Group.Group, model.SystemModel.SystemModel}, ByNumber.core_of, Groups.{no_group, group_at}}
use Rattle.cl_run_data.specs.Parts.{is_among}
use Rattle.cl_near.specs.Inner.Cores.{AreMarked}
use Rattle.cl_near.proofs.cores.cores_of.Goals as goal

-- a core stays marked where another is marked
still_marked : (cores : List Bool) (core other : ℕ) → core < length cores → is_among cores other ≡ true
    → is_among (set cores core true) other ≡ true
still_marked cores core other within was =
    elim (cases_eq other core) [
      | inl same ↦ get_or-set_at cores core other true false same within
      | inr apart ↦ get_or-set_other cores core other true false apart ∙ was
    ]

-- the cores of one more group are marked
one_more : (model : SystemModel) (groups : List Group) (count core : ℕ) (cores : List Bool) → core < length cores
    → core ≡ core_of model (group_at groups count).task → AreMarked model groups count cores
    → AreMarked model groups (count + 1) (set cores core true)
one_more model groups count core cores within is were =
    below_more _ _
    (λ place below. still_marked cores core (core_of model (group_at groups place).task) within (were place below))
    (get_or-set_at cores core (core_of model (group_at groups count).task) true false (sym is) within)

pub loop-group-preserved : goal.loop-group-preserved
unfolding no_group
loop-group-preserved c =
    let cores = c.loop-group.cores in
    let core = c.core_of.result in
    let within : core < length cores = omega arith in
    let is : core ≡ core_of c.args.model.now (group_at c.args.groups.now c.loop-group.group-index).task = c.core_of.ensures.core in
    record {
      long = ap length c.mark.ensures ∙ length-set cores core true ∙ c.loop-group.invariant.long;
      marked =
          subst (AreMarked c.args.model.now c.args.groups.now (c.loop-group.group-index + 1)) (sym c.mark.ensures)
          (one_more c.args.model.now c.args.groups.now c.loop-group.group-index core cores within is c.loop-group.invariant.marked);
    }
