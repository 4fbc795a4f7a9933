use Rattle.std.proofs.Common.{◌≡◌, sym, ap, ◌∙◌, subst}
use Rattle.std.specs.Prelude.{IfSome}
use Rattle.cl_model.specs.declared.model.SystemModel.{SystemModel}
use Rattle.cl_edit.specs.Changing.{with_change}
use Rattle.cl_incr.specs.SessionState.{SessionState}
use Rattle.cl_incr.proofs.session.Session.take_news.Goals as goal

-- the findings are those of the model that is put, and its copy is the same
pub invariant_of-self : goal.invariant_of-self
invariant_of-self c =
    let old_is = c.replace-old.ensures.value ∙ ap (λ (s : SessionState). s.model) c.self.view_is in
    record {
      found = c.put_news.ensures;
      twin =
          subst (λ (m : SystemModel). IfSome c.changed.result (λ (twin : SystemModel). twin ≡ m))
          (ap (λ (m : SystemModel). with_change m c.args.change.now) old_is ∙ sym c.requires.made ∙ sym c.replace-old.ensures.after)
          c.changed.ensures;
    }
