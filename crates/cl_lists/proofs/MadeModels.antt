-- The model that an edit makes, by what its first checks answer.
use Rattle.std.proofs.Common.{◌≡◌, ◌∙◌, List, [], ◌∷◌, Some, None, refl, sym, ap}
use Rattle.cl_model.specs.{declared.{model.SystemModel.SystemModel, refusal.Refusal.Refusal}, Refusals.first}
use Rattle.cl_lists.specs.RefusedEdits.{model_unless}

pub made_where_none : (checks : List Refusal) (made model : SystemModel) → checks ≡ [] → model ≡ made → model_unless checks made ≡ Some model
made_where_none checks made model none is = ap (λ (refusals : List Refusal). model_unless refusals made) none ∙ ap Some (sym is)

pub none_where_refused : (checks : List Refusal) (made : SystemModel) (refusal : Refusal) → first checks ≡ Some refusal → model_unless checks made ≡ None
none_where_refused [] made refusal is = absurd (cc)
none_where_refused (other ∷ checks) made refusal is = refl
