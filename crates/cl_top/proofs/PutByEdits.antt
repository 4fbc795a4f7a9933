-- What stands behind a text where an edit has written something of a model, or nothing.
use Rattle.std.proofs.Common.{◌≡◌, ℕ, ◌+◌, ◌≤◌, List, [], ◌++◌, Result, refl, sym, subst, append-nil}
use Rattle.std.proofs.lemmas.Result.{IfOk-weaker}
use Rattle.std.specs.Prelude.{OnOk}
use Rattle.cl_time.specs.declared.no_memory.NoMemory.{NoMemory}
use Rattle.cl_model.specs.declared.model.SystemModel.{SystemModel}
use Rattle.cl_edit.specs.{declared.edit.Edit.{Edit, TheVariants.{Report, Tighten, Verify}}, Changing.change_of, Edited.with_edit}
use Rattle.cl_top.specs.{Commands.Edit.IsWrittenBy, Steps.written_steps}

module _ (model : SystemModel) where
  -- behind a text stands what the edit has written
  abbrev pub IsPutBy : (edit : Edit) (before after : List ℕ) → Type 0
  IsPutBy edit before after = (written : List ℕ) × IsWrittenBy model edit written × (after ≡ before ++ written)

  pub put_by : (edit other : Edit) → edit ≡ other → (result : Result (Unit {0}) NoMemory) (before after written : List ℕ)
      → IsWrittenBy model other written → OnOk result (after ≡ before ++ written) → OnOk result (IsPutBy edit before after)
  put_by edit other is result before after written writes put =
      IfOk-weaker result _ _ (λ _ behind. (written, subst (λ (e : Edit). IsWrittenBy model e written) (sym is) writes, behind)) put

  -- any other edit writes nothing
  pub nothing_written : (edit : Edit) → (edit ≡ Report → ⊥) → (edit ≡ Tighten → ⊥) → (edit ≡ Verify → ⊥) → IsWrittenBy model edit []
  nothing_written Report no_report no_tighten no_verify = absurd (no_report refl)
  nothing_written Tighten no_report no_tighten no_verify = absurd (no_tighten refl)
  nothing_written Verify no_report no_tighten no_verify = absurd (no_verify refl)
  nothing_written _ no_report no_tighten no_verify = refl

  pub nothing_put : (edit : Edit) (text : List ℕ) → (edit ≡ Report → ⊥) → (edit ≡ Tighten → ⊥) → (edit ≡ Verify → ⊥) → IsPutBy edit text text
  nothing_put edit text no_report no_tighten no_verify = ([], nothing_written edit no_report no_tighten no_verify, sym (append-nil text))

  -- the steps of one edit are those of another that it is
  pub steps_by : (edit other : Edit) → edit ≡ other → (before after : ℕ) → after ≤ before + written_steps other model → after ≤ before + written_steps edit model
  steps_by edit other is before after few = subst (λ (e : Edit). after ≤ before + written_steps e model) (sym is) few

  -- what is decided of a model may be said in more ways than one
  pub put_verified_by : (edit : Edit) → edit ≡ Verify → (result : Result (Unit {0}) NoMemory) (before after : List ℕ)
      → OnOk result (IsPutBy Verify before after) → OnOk result (IsPutBy edit before after)
  put_verified_by edit is result before after put = subst (λ (e : Edit). OnOk result (IsPutBy e before after)) (sym is) put

-- what an edit that writes something has written of the edited model, it has of the model before: it changes nothing
pub written_before : (old new : SystemModel) (edit : Edit) → with_edit old edit ≡ new → (written : List ℕ) → IsWrittenBy new edit written → IsWrittenBy old edit written
unfolding with_edit change_of
written_before old new Report is written writes = subst (λ (m : SystemModel). IsWrittenBy m Report written) (sym is) writes
written_before old new Tighten is written writes = subst (λ (m : SystemModel). IsWrittenBy m Tighten written) (sym is) writes
written_before old new Verify is written writes = subst (λ (m : SystemModel). IsWrittenBy m Verify written) (sym is) writes
written_before old new _ is written writes = writes
