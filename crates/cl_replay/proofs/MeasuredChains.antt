-- What is measured of the chains of a model, one chain after the other.
use Rattle.std.proofs.Common.{◌≡◌, ℕ, ◌+◌, ◌<◌, List, [], ◌∷◌, ◌++◌, length, get_or, map, sym, ap, subst, ◌∙◌, arith, below_more, length-append}
use Rattle.std.proofs.lemmas.List.{ext_get_or, get_or-map, get_or_append_left, map-append}
use Rattle.std.proofs.Math.Seq.{get_or-append_seam}
use Rattle.cl_model.specs.{declared.model.SystemModel.SystemModel, Groups.groups_at}
use Rattle.cl_runs.specs.{Run.Run, SystemOf.system_of, RunChains.run_moments, Measured.{Measured, IsMeasured}}
use Rattle.cl_runs.proofs.{MeasuredOnce.measured_once, OrderedMoments.run_unique}
use Rattle.cl_chain.specs.declared.job_chain.Measured as own
use Rattle.cl_chain.specs.JobChains.{measured_of}
use Rattle.cl_replay.specs.Replay.{nothing_measured, measured_at, AreMeasured}

-- what is measured of a chain
abbrev IsMeasuredOf : SystemModel → Run → (chain : ℕ) → Measured → Type 0
IsMeasuredOf model run chain measured = IsMeasured (run_moments (system_of model) run) (groups_at model chain) measured

-- what is measured of the first n chains
pub record AreFirstMeasured (model : SystemModel) (run : Run) (n : ℕ) (measured : List Measured) : Type 0 where
  pub count : length measured ≡ n
  pub each : (chain : ℕ) → chain < n → IsMeasuredOf model run chain (measured_at measured chain)

more : (model : SystemModel) (run : Run) (n : ℕ) (old new : List Measured) (next : Measured) → AreFirstMeasured model run n old
    → IsMeasuredOf model run n next → new ≡ old ++ next ∷ [] → AreFirstMeasured model run (n + 1) new
more model run n old new next was is pushed = record {
  count = ap length pushed ∙ length-append old (next ∷ []) ∙ ap (λ m. m + 1) was.count;
  each = below_more _ _
      (λ chain within. subst (IsMeasuredOf model run chain)
      (sym (ap (λ (list : List Measured). measured_at list chain) pushed ∙ get_or_append_left old (next ∷ []) nothing_measured chain (omega (arith, within, was.count)))) (was.each chain within))
      (subst (IsMeasuredOf model run n)
      (sym (ap (λ (list : List Measured). measured_at list n) pushed ∙ ap (λ m. get_or (old ++ next ∷ []) m nothing_measured) (sym was.count) ∙ get_or-append_seam old next [] nothing_measured)) is);
}

pub more_measured : (model : SystemModel) (run : Run) (n : ℕ) (old new : List own.Measured) (next : own.Measured) → AreFirstMeasured model run n (map measured_of old)
    → IsMeasuredOf model run n (measured_of next) → new ≡ old ++ next ∷ [] → AreFirstMeasured model run (n + 1) (map measured_of new)
more_measured model run n old new next was is pushed =
    more model run n (map measured_of old) (map measured_of new) (measured_of next) was is (ap (map measured_of) pushed ∙ map-append measured_of old (next ∷ []))

pub all_measured : (model : SystemModel) (run : Run) (n : ℕ) (measured : List Measured) → n ≡ length model.chains → AreFirstMeasured model run n measured
    → AreMeasured model run measured
all_measured model run n measured all first = record {
  one_a_chain = first.count ∙ all;
  each = λ chain within. first.each chain (omega (arith, within, all));
}

-- what was measured of a chain is at its place
pub measured_found : (measured : List own.Measured) (i : ℕ) (found : own.Measured) → i < length measured → found ≡ get_or measured i found
    → measured_of found ≡ measured_at (map measured_of measured) i
measured_found measured i found within at = ap measured_of at ∙ sym (get_or-map measured_of measured i found nothing_measured within)

-- it is but one
pub one_measured : (model : SystemModel) (run : Run) (one other : List Measured) → AreMeasured model run one → AreMeasured model run other → one ≡ other
one_measured model run one other first second =
    ext_get_or nothing_measured one other (first.one_a_chain ∙ sym second.one_a_chain)
    (λ chain within. let is_chain : chain < length model.chains = omega (arith, within, first.one_a_chain) in
    measured_once (run_moments (system_of model) run) (groups_at model chain) (run_unique (system_of model) run (groups_at model chain))
    (measured_at one chain) (measured_at other chain) (first.each chain is_chain) (second.each chain is_chain))
