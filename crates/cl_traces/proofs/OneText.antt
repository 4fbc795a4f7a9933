-- What is said of a broken rule: it is one text, and what is appended of a rule is said of an equal one.
use Rattle.std.proofs.Common.{◌≡◌, ℕ, List, ◌++◌, sym, ap, ◌∙◌, subst}
use Rattle.cl_model.specs.{declared.model.SystemModel.SystemModel, Validity.IsValid}
use Rattle.cl_runs.specs.{Run.{Run, entry_at}, SystemOf.system_of}
use Rattle.cl_runs.proofs.{ModelSystem.system_sound, OneRun.one_run}
use Rattle.cl_check.specs.declared.run_fault.Rule.{Rule, TheVariants.{Arrival, Release, Time, Missing, Schedule}}
use Rattle.cl_traces.specs.SaidOfRules.{found_and_wanted, entry_words, IsSaidOfRule, TellsOfRule}

pub one_text : (model : SystemModel) → IsValid model → (run : Run) (rule : Rule) (place tick : ℕ) → (one other : List ℕ)
    → IsSaidOfRule model run rule place tick one → IsSaidOfRule model run rule place tick other → one ≡ other
one_text model valid run Arrival place tick one other is is_other = is ∙ sym is_other
one_text model valid run Release place tick one other is is_other = is ∙ sym is_other
one_text model valid run Time place tick one other is is_other = is ∙ sym is_other
one_text model valid run Missing place tick one other is is_other = is ∙ sym is_other
one_text model valid run Schedule core tick one other is is_other =
    let same : is.legal ≡ is_other.legal
    = one_run (system_of model) (system_sound model valid) is.legal is_other.legal is.is_legal is_other.is_legal (is.same_table ∙ sym is_other.same_table) in
    is.text_is
    ∙ ap (λ (legal : Run). found_and_wanted (entry_words model (entry_at run core tick)) (entry_words model (entry_at legal core tick))) same
    ∙ sym is_other.text_is

pub tells : (model : SystemModel) (run : Run) (place tick : ℕ) (old new said : List ℕ) (rule other : Rule) → rule ≡ other
    → IsSaidOfRule model run other place tick said → new ≡ old ++ said → TellsOfRule model run rule place tick old new
tells model run place tick old new said rule other same is text =
    subst (λ (r : Rule). TellsOfRule model run r place tick old new) (sym same) (record { said = said; is_said = is; text_is = text })
