-- Times that are wished for, runnable by runnable: what holds so far, of one more, and of all.
use Rattle.std.proofs.Common.{◌≡◌, ℕ, ◌+◌, ◌<◌, ◌≤◌, List, [], ◌∷◌, ◌++◌, length, get_or, take, map, sym, ap, ◌∙◌, subst}
use Rattle.std.specs.List.{AllZip}
use Rattle.std.proofs.lemmas.List.{take_more, map-append}
use Rattle.std.proofs.lemmas.Slice.Zip.{all_zipped_more}
use Rattle.cl_model.specs.declared.task.RunnableDef.{RunnableDef}
use Rattle.cl_runs.specs.{TaskTiming.TimeRange, SystemOf.range_of, Table.LiesIn}

-- the times lie in the ranges of the first runnables
abbrev pub LieInFirst : List RunnableDef → (n : ℕ) → List ℕ → Type 0
LieInFirst runnables n times = AllZip LiesIn (map range_of (take n runnables)) times

pub one_more_time : (runnables : List RunnableDef) (n : ℕ) (runnable : RunnableDef) (times more : List ℕ) (time : ℕ) → n < length runnables
    → runnable ≡ get_or runnables n runnable → LieInFirst runnables n times → more ≡ times ++ time ∷ []
    → runnable.least ≤ time → time ≤ runnable.greatest → LieInFirst runnables (n + 1) more
one_more_time runnables n runnable times more time lt is so_far is_more least greatest =
    let longer : map range_of (take (n + 1) runnables) ≡ map range_of (take n runnables) ++ range_of runnable ∷ []
    = ap (map range_of) (take_more runnables n runnable lt)
    ∙ ap (λ (r : RunnableDef). map range_of (take n runnables ++ r ∷ [])) (sym is)
    ∙ map-append range_of (take n runnables) (runnable ∷ []) in
    subst (λ list. LieInFirst runnables (n + 1) list) (sym is_more)
    (subst (λ (rs : List TimeRange). AllZip LiesIn rs (times ++ time ∷ [])) (sym longer)
    (all_zipped_more LiesIn (map range_of (take n runnables)) times (range_of runnable) time so_far (least, greatest)))
