use Rattle.std.proofs.Common.{◌≡◌, ℕ, ◌<◌, false, List, length, take}
use Rattle.std.specs.Prelude.{All, remove}
use Rattle.cl_model.specs.declared.model.SystemModel.{SystemModel}
use Rattle.cl_runs.specs.SystemOf.{system_of}
use Rattle.cl_resp.specs.declared.question.Above.{Above}
use Rattle.cl_tune.specs.Inner.Filling.{fits}
use Rattle.cl_tune.proofs.AskedPlaces.{all_taken}
use Rattle.cl_tune.proofs.filling.first_fitting.Given as goal

-- what all others take than the next one stands ready, and none so far fits
pub record AreAsked (model : SystemModel) (block : ℕ) (unplaced : List ℕ) (others : List Above) (place : ℕ) : Type 0 where
  pub taken : place < length unplaced → others ≡ remove (all_taken model unplaced) place
  pub none : All (λ task. fits (system_of model) block unplaced task ≡ false) (take place unplaced)

abbrev pub invariant-loop-place : goal.invariant-loop-place
invariant-loop-place g l = AreAsked l.model l.block l.unplaced l.others l.place
