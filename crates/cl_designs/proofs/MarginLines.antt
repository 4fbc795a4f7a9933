-- What the lines of margins print, and that what breaks first is of the model.
use Rattle.std.proofs.Common.{◌≡◌, ℕ, ◌<◌, Option, Some, None, List, ◌++◌, length, get_or, sym, ap, ◌∙◌, subst, arith}
use Rattle.std.specs.Prelude.{IfOk, IfSome, Result}
use Rattle.std.proofs.lemmas.List.{append_assoc, get_or_default}
use Rattle.std.proofs.lemmas.Result.{IfOk-weaker}
use Rattle.cl_time.specs.declared.no_memory.NoMemory.{NoMemory}
use Rattle.cl_model.specs.declared.model.SystemModel.{SystemModel}
use Rattle.cl_tight.specs.{declared.findings.TightFindings.TightFindings, TightFindings.tight_findings_of}
use Rattle.cl_margin.specs.{declared.{answer.{Breaks.{Breaks, TheVariants.{Task, Requirement, Limit}}, Margin.Margin, Margins.Margins}, whose.Whose.{Whose, TheVariants.OneTask}}, Margins.{BreaksAfter, IsMargin, no_margin, margin_at, AreMargins}}
use Rattle.cl_designs.specs.Margins.{IsBreakOf, margin_text, IsMarginTextOf}

-- pieces that were put one behind the other
pub two_pieces : (a b t0 t1 t2 : List ℕ) → t1 ≡ t0 ++ a → t2 ≡ t1 ++ b → t2 ≡ t0 ++ (a ++ b)
two_pieces a b t0 t1 t2 h1 h2 = h2 ∙ ap (λ (t : List ℕ). t ++ b) h1 ∙ append_assoc t0 a b

pub three_pieces : (a b c t0 t1 t2 t3 : List ℕ) → t1 ≡ t0 ++ a → t2 ≡ t1 ++ b → t3 ≡ t2 ++ c → t3 ≡ t0 ++ (a ++ b ++ c)
three_pieces a b c t0 t1 t2 t3 h1 h2 h3 = two_pieces (a ++ b) c t0 t2 t3 (two_pieces a b t0 t1 t2 h1 h2) h3

pub four_pieces : (a b c d t0 t1 t2 t3 t4 : List ℕ) → t1 ≡ t0 ++ a → t2 ≡ t1 ++ b → t3 ≡ t2 ++ c → t4 ≡ t3 ++ d → t4 ≡ t0 ++ (a ++ b ++ c ++ d)
four_pieces a b c d t0 t1 t2 t3 t4 h1 h2 h3 h4 = two_pieces (a ++ b ++ c) d t0 t3 t4 (three_pieces a b c t0 t1 t2 t3 h1 h2 h3) h4

-- what breaks first is of the model
pub break_is_known : (model : SystemModel) (whose : Whose) (percent : ℕ) (breaks : Option Breaks) → BreaksAfter model whose percent breaks → IfSome breaks (IsBreakOf model)
break_is_known model whose percent None most = tt
break_is_known model whose percent (Some (Task task)) breaks = breaks.1.is_task
break_is_known model whose percent (Some (Requirement requirement)) breaks = breaks.1.is_requirement
break_is_known model whose percent (Some Limit) breaks = tt

-- the margin of a task, as it is read from the list of all
module _ (model : SystemModel) (margins slice : List Margin) (same : slice ≡ margins) (one_a_task : length margins ≡ length model.tasks)
    (task : ℕ) (is_task : task < length model.tasks) (default : Margin) where
  pub margin_read : get_or slice task default ≡ margin_at margins task
  margin_read =
      let within : task < length margins = omega (arith, is_task, one_a_task) in
      ap (λ (list : List Margin). get_or list task default) same ∙ get_or_default margins task default no_margin within

  pub read_is_margin : IsMargin model (OneTask task) (margin_at margins task) → IsMargin model (OneTask task) (get_or slice task default)
  read_is_margin is = subst (IsMargin model (OneTask task)) (sym margin_read) is

-- the text of margins that are the model's
pub text_is : (model : SystemModel) (found : TightFindings) (margins : Margins) → found ≡ tight_findings_of model → AreMargins model margins
    → (result : Result (List ℕ) NoMemory) → IfOk result (λ text. text ≡ margin_text model found margins) → IfOk result (IsMarginTextOf model)
text_is model found margins same are result is =
    IfOk-weaker result (λ text. text ≡ margin_text model found margins) (IsMarginTextOf model)
    (λ text printed. record { margins = margins; are = are; printed = printed ∙ ap (λ (f : TightFindings). margin_text model f margins) same }) is
