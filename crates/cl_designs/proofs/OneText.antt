-- A valid model has a text of its cuts, of its orders and of its headroom, and but one of each.
use Rattle.std.proofs.Common.{◌≡◌, ℕ, List, refl, sym, ap, ◌∙◌}
use Rattle.cl_model.specs.{declared.model.SystemModel.SystemModel, Validity.IsValid}
use Rattle.cl_cut.proofs.OneCutAnswer.{some_answers, one_answers}
use Rattle.cl_tune.proofs.{OneOrder.{some_order_answer, one_order_answer}, OneHeadroom.{some_headroom, one_headroom}}
use Rattle.cl_designs.specs.{Cuts.{cut_text, IsCutTextOf}, Orders.{order_text, IsOrderTextOf}, Headroom.{headroom_text, IsHeadroomTextOf}}

pub some_cut_text : (model : SystemModel) → IsValid model → (text : List ℕ) × IsCutTextOf model text
some_cut_text model valid =
    let (answers, are) = some_answers model valid in
    (cut_text model answers, record { answers = answers; are = are; printed = refl })

pub one_cut_text : (model : SystemModel) (one other : List ℕ) → IsCutTextOf model one → IsCutTextOf model other → one ≡ other
one_cut_text model one other first second =
    first.printed ∙ ap (cut_text model) (one_answers model first.answers second.answers first.are second.are) ∙ sym second.printed

pub some_order_text : (model : SystemModel) → IsValid model → (text : List ℕ) × IsOrderTextOf model text
some_order_text model valid =
    let (answer, is) = some_order_answer model valid in
    (order_text model answer, record { answer = answer; is = is; printed = refl })

pub one_order_text : (model : SystemModel) → IsValid model → (one other : List ℕ) → IsOrderTextOf model one → IsOrderTextOf model other → one ≡ other
one_order_text model valid one other first second =
    first.printed ∙ ap (order_text model) (one_order_answer model valid first.answer second.answer first.is second.is) ∙ sym second.printed

pub some_headroom_text : (model : SystemModel) → IsValid model → (text : List ℕ) × IsHeadroomTextOf model text
some_headroom_text model valid =
    let (percent, is) = some_headroom model valid in
    (headroom_text percent, record { percent = percent; is = is; printed = refl })

pub one_headroom_text : (model : SystemModel) → IsValid model → (one other : List ℕ) → IsHeadroomTextOf model one → IsHeadroomTextOf model other → one ≡ other
one_headroom_text model valid one other first second =
    first.printed ∙ ap headroom_text (one_headroom model valid first.percent second.percent first.is second.is) ∙ sym second.printed
