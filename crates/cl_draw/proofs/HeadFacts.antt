-- The head of the chains, where there is one.
use Rattle.std.proofs.Common.{◌≡◌, ℕ, zero, suc, ◌<◌, [], ◌∷◌, refl, ap, arith}
use Rattle.cl_model.specs.declared.model.SystemModel.{SystemModel}
use Rattle.cl_draw.specs.Picture.{chains_head_line, chains_head}

pub no_head : (model : SystemModel) (chains : ℕ) → chains ≡ 0 → chains_head model chains ≡ []
no_head model chains none = ap (chains_head model) none

pub some_head : (model : SystemModel) (chains : ℕ) → 0 < chains → chains_head model chains ≡ chains_head_line model ∷ []
some_head model zero some = absurd (omega (arith, some))
some_head model (suc chains) some = refl
