-- The margins of the tasks, one after the other.
use Rattle.std.proofs.Common.{◌≡◌, ℕ, ◌+◌, ◌<◌, List, [], ◌∷◌, ◌++◌, length, sym, subst, arith, below_more}
use Rattle.std.proofs.lemmas.List.{length_push, get_or_push, get_or_append_left}
use Rattle.cl_model.specs.declared.model.SystemModel.{SystemModel}
use Rattle.cl_margin.specs.{declared.{answer.Margin.Margin, whose.Whose.TheVariants.OneTask}, Margins.{no_margin, margin_at, IsMargin}}

-- those of the tasks below a number
pub record AreMarginsBelow (model : SystemModel) (count : ℕ) (margins : List Margin) : Type 0 where
  pub as_many : length margins ≡ count
  pub each : (task : ℕ) → task < count → IsMargin model (OneTask task) (margin_at margins task)

-- one more
pub margins_more : (model : SystemModel) (count : ℕ) (margins : List Margin) (margin : Margin) → AreMarginsBelow model count margins
    → IsMargin model (OneTask count) margin → AreMarginsBelow model (count + 1) (margins ++ margin ∷ [])
margins_more model count margins margin are is = record {
  as_many = omega (arith, are.as_many, length_push margins margin);
  each = below_more (λ task. IsMargin model (OneTask task) (margin_at (margins ++ margin ∷ []) task)) count
      (λ task h. subst (λ (m : Margin). IsMargin model (OneTask task) m) (sym (get_or_append_left margins (margin ∷ []) no_margin task (omega (arith, h, are.as_many)))) (are.each task h))
      (subst (λ (m : Margin). IsMargin model (OneTask count) m) (sym (get_or_push margins margin no_margin count are.as_many)) is);
}
