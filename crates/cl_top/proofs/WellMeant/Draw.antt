-- `draw`: the picture of the run of a trace.
use Rattle.std.proofs.Common.{◌≡◌, ◌⊎◌, ℕ, inl, inr, List, refl, sym, ap, ◌∙◌, arith}
use Rattle.std.proofs.lemmas.Bool.{cases_lt}
use Rattle.cl_model.specs.{declared.model.SystemModel.SystemModel, Validity.IsValid}
use Rattle.cl_runs.specs.{Legal.IsLegal, Run.Run, SystemOf.system_of}
use Rattle.cl_draw.specs.Picture.{IsPictureOf}
use Rattle.cl_draw.proofs.{OnePicture.one_picture, SomePicture.some_picture}
use Rattle.cl_engine.specs.declared.files.Files.TheVariants as files
use Rattle.cl_engine.specs.{declared.{outcome.Outcome.Outcome, status.TheConstants.DONE}, Language.IsOfContent}
use Rattle.cl_engine.proofs.Outcomes.{SomeOutcome}
use Rattle.cl_top.specs.{declared.command.TheConstants.TRACE_LIMIT, Commands.Draw.{LiesWithin, window_refused, IsDrawn, IsOfDraw, IsSafePicture, drawing}, Meaning.{takes_no_step, promises_of_both, equal}}
use Rattle.cl_top.proofs.{Meanings.{IsMeantWell, done_some, done_once, both_well}, OfTrace.{traced_content, done_trace}, TracesOnce.{trace_some, one_traced}}

-- a window lies within a run of so many ticks, or it doesn't
window_or_none : (from to ticks : ℕ) → LiesWithin from to ticks ⊎ (LiesWithin from to ticks → ⊥)
window_or_none from to ticks = elim (cases_lt from to) [
  | inl ordered ↦ elim (cases_lt ticks to) [
    | inl past ↦ inr (λ window. omega (arith, past, window.within))
    | inr within ↦ inl (record { ordered = ordered; within = within })
  ]
  | inr most ↦ inr (λ window. omega (arith, most, window.ordered))
]

module _ (from to : ℕ) (model : SystemModel) where
  -- a picture and the refusal of a window are of content
  drawn_content : (run : Run) (found : Outcome) → IsDrawn from to model run found → IsOfContent found.status
  drawn_content run found (inl pictured) = inl pictured.outcome.status_is
  drawn_content run found (inr outside) = inr (inr (omega (arith, ap (λ (o : Outcome). o.status) outside.printed)))

  module _ (valid : IsValid model) where
    some_drawn : (run : Run) → IsLegal (system_of model) run → SomeOutcome (IsDrawn from to model run)
    some_drawn run legal = by_window (window_or_none from to run.table.ticks)
      where
        by_window : LiesWithin from to run.table.ticks ⊎ (LiesWithin from to run.table.ticks → ⊥) → SomeOutcome (IsDrawn from to model run)
        by_window (inl window) =
            let picture = some_picture model valid run legal from to in
            let done = done_some (IsPictureOf model run from to) picture.0 picture.1 in
            (done.0, inl (record { window = window; outcome = done.1 }))
        by_window (inr outside) = (window_refused from to run.table.ticks, inr (record { outside = outside; printed = refl }))

    pub drawn_once : (run : Run) → IsLegal (system_of model) run → (one other : Outcome) → IsDrawn from to model run one → IsDrawn from to model run other → one ≡ other
    drawn_once run legal one other (inl is) (inl also) = done_once (IsPictureOf model run from to) (one_picture model valid run legal from to) one other is.outcome also.outcome
    drawn_once run legal one other (inl is) (inr also) = absurd (also.outside is.window)
    drawn_once run legal one other (inr is) (inl also) = absurd (is.outside also.window)
    drawn_once run legal one other (inr is) (inr also) = is.printed ∙ sym also.printed

    safe_picture : (text : List ℕ) (found : Outcome) → IsOfDraw from to model text found → found.status ≡ DONE → IsSafePicture from to model text found.text
    safe_picture text found is done =
        let (run, trace, legal) = done_trace model (IsDrawn from to model) text found done is in
        elim legal.outcome [
          | inl pictured ↦ record { run = run; is_trace = trace; legal = legal.legal; window = pictured.window; picture = pictured.outcome.text_is }
          | inr outside ↦ absurd (omega (arith, done, ap (λ (o : Outcome). o.status) outside.printed))
        ]

pub drawing_well : (from to : ℕ) (limited : Type 0) → IsMeantWell (files.ModelAnd TRACE_LIMIT) (drawing from to) limited
drawing_well from to limited = both_well takes_no_step (promises_of_both (IsSafePicture from to)) equal limited (λ one other is. is) TRACE_LIMIT (IsOfDraw from to)
    (λ model valid named text. trace_some model valid (IsDrawn from to model) (some_drawn from to model valid) named text)
    (λ model valid named text one other is also. one_traced model valid (IsDrawn from to model) (drawn_once from to model valid) named text one other is also)
    (λ model text found is. traced_content model (IsDrawn from to model) (drawn_content from to model) text found is)
    (λ model text steps. omega arith) (safe_picture from to)
