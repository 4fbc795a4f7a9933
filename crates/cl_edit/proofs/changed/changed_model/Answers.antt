use Rattle.std.proofs.Common.{◌≡◌, sym, ap, ◌∙◌, subst}
use Rattle.cl_model.specs.{declared.model.SystemModel.SystemModel, Ranges.IsInRange}
use Rattle.cl_edit.specs.{Changing.{with_change, IsChangeOf}, Edited.with_edit}
use Rattle.cl_edit.proofs.{RangeFacts.edits_keep_range, ResolvedEdits.known_change}
use Rattle.cl_edit.proofs.changed.changed_model.Goals as goal

-- what the change names is there, in the copy too
pub change-requires : goal.change-requires
change-requires c =
    let copied : c.in_ok-changed.changed ≡ c.args.model.now = c.in_ok-changed.ensures ∙ c.plain-plain.ensures.plain in
    subst (λ (model : SystemModel). IsChangeOf model c.in_ok-change.change) (sym copied)
    (known_change c.args.model.now c.plain-plain.ensures.valid c.args.edit.now c.in_ok-change.change c.requires c.in_ok-change.ensures.0 c.in_ok-change.ensures.1)

-- the change that is made is the edit's
pub returns-clause-changed : goal.returns-clause-changed
unfolding with_edit
returns-clause-changed c =
    let known = c.in_ok-change.ensures in
    let copied : c.in_ok-changed.changed ≡ c.args.model.now = c.in_ok-changed.ensures ∙ c.plain-plain.ensures.plain in (
      known.0,
      c.in_ok-change-2.ensures ∙ ap (λ (model : SystemModel). with_change model c.in_ok-change.change) copied ∙ ap (with_change c.args.model.now) known.1,
    )

-- an edit in range keeps a model in range
pub returns-clause-in_range : goal.returns-clause-in_range
unfolding with_edit
returns-clause-in_range c =
    let model = c.args.model.now in
    let edit = c.args.edit.now in
    let known = c.in_ok-change.ensures in
    let copied : c.in_ok-changed.changed ≡ model = c.in_ok-changed.ensures ∙ c.plain-plain.ensures.plain in
    let made : c.change.new.model ≡ with_edit model edit =
    c.in_ok-change-2.ensures ∙ ap (λ (it : SystemModel). with_change it c.in_ok-change.change) copied ∙ ap (with_change model) known.1 in
    subst IsInRange (sym made) (edits_keep_range model edit c.plain-plain.ensures.valid.in_range c.requires known.0)
