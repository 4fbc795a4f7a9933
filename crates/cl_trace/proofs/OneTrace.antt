-- A text is the trace of one run at most.
use Rattle.std.proofs.Common.{◌≡◌, ℕ, List, [], ◌∷◌, ◌++◌, refl, sym, ◌∙◌}
use Rattle.std.proofs.lemmas.List.{append_cancel_left}
use Rattle.cl_model.specs.{declared.model.SystemModel.SystemModel, AreNamed.AreNamed, Validity.IsValid}
use Rattle.cl_runs.specs.{Run.{Run, IsInForm}, SystemOf.system_of}
use Rattle.cl_trace.specs.{Trace.{Title, Ticks, End, item_text, text_of, job_items, run_items, spelled}, Rules.{IsWithinLimits, IsTraceOf, IsBadTraceLine}, Inner.Pieces.AreTasksNamed}
use Rattle.cl_trace.proofs.{LinesToRuns.runs_same, OneReading.tasks_named}
use Rattle.cl_trace.proofs.WholeTraces as whole

-- ---- where the names of tasks are names

pub run_once : (model : SystemModel) → IsValid model → AreTasksNamed model → (text : List ℕ) (one other : Run)
    → IsTraceOf model text one → IsTraceOf model text other → one ≡ other
run_once model valid named text one other first second =
    runs_same (system_of model) one other first.in_form second.in_form (whole.same_lines model valid named text one other first second)

pub never_bad : (model : SystemModel) → IsValid model → AreTasksNamed model → (text : List ℕ) (run : Run) (number : ℕ)
    → IsTraceOf model text run → IsBadTraceLine model text number → ⊥
never_bad = whole.no_bad_line

-- ---- where all names are

pub one_run : (model : SystemModel) → IsValid model → AreNamed model → (text : List ℕ) (one other : Run)
    → IsTraceOf model text one → IsTraceOf model text other → one ≡ other
one_run model valid named text one other first second = run_once model valid (tasks_named model named) text one other first second

pub no_bad_line : (model : SystemModel) → IsValid model → AreNamed model → (text : List ℕ) (run : Run) (number : ℕ)
    → IsTraceOf model text run → IsBadTraceLine model text number → ⊥
no_bad_line model valid named text run number trace bad = never_bad model valid (tasks_named model named) text run number trace bad

-- two runs that are spelled alike are one
pub spelled_once : (model : SystemModel) → IsValid model → AreNamed model → (one other : Run) → IsInForm (system_of model) one → IsWithinLimits one
    → IsInForm (system_of model) other → IsWithinLimits other → spelled model one ≡ spelled model other → one ≡ other
spelled_once model valid named one other form within other_form other_within same =
    one_run model valid named (spelled model one) one other (record { in_form = form; within = within; spelled = refl })
    (record { in_form = other_form; within = other_within; spelled = same })

-- ---- the two first lines of a trace

abbrev pub behind_ticks : SystemModel → Run → List ℕ
behind_ticks model run = text_of model (job_items run ++ run_items run ++ End ∷ [])

abbrev pub behind_title : SystemModel → Run → List ℕ
behind_title model run = item_text model (Ticks run.table.ticks) ++ behind_ticks model run

pub title_stands : (model : SystemModel) (text : List ℕ) (run : Run) → IsTraceOf model text run → text ≡ item_text model Title ++ behind_title model run
unfolding spelled
title_stands model text run trace = trace.spelled

pub ticks_stand : (model : SystemModel) (text behind : List ℕ) (run : Run) → IsTraceOf model text run → text ≡ item_text model Title ++ behind
    → behind ≡ item_text model (Ticks run.table.ticks) ++ behind_ticks model run
ticks_stand model text behind run trace title =
    append_cancel_left (item_text model Title) behind (behind_title model run) (sym title ∙ title_stands model text run trace)
