-- What is drawn of a run can be drawn: bars name runnables of their task, and reactions are carried by tasks of the model.
use Rattle.std.proofs.Common.{◌≡◌, ℕ, ◌<◌, Bool, true, false, if◌then◌else◌, Some, None, Option, List, [], ◌∷◌, length, get_or, map, sym, ap, subst, ◌∙◌, arith}
use Rattle.std.specs.Prelude.{All, ◌==◌, filter}
use Rattle.std.specs.List.{range_with_len}
use Rattle.std.proofs.lemmas.List.{get_or_default}
use Rattle.std.proofs.lemmas.List.Elements.{All-nil, All-cons, All-head, All-tail, All-map, All-filter, All-from_get_or}
use Rattle.cl_model.specs.{declared.{model.SystemModel.SystemModel, task.TaskDef.TaskDef}, ByNumber.{task_at, deadline_of}, Groups.{no_group, group_at, groups_at, IsGroupOf}, Validity.IsValid}
use Rattle.cl_model.proofs.GroupFacts.{groups_at_are}
use Rattle.cl_runs.specs.{Run.{Run, jobs_of}, Legal.IsLegal, SystemOf.system_of, RunChains.run_moments, Chains.{JobChain, IsForwardChain, first_job}, Measured.IsMeasuredBy}
use Rattle.cl_picture.specs.{declared.{window.Window.Window, item.{Item.Item, Bar.Bar}}, Bars.{counts, bar_of, joined_bar, bars_from, bars}, Window.{high_of, IsPictureWindow}}
use Rattle.cl_draw.specs.{declared.{parts.Part.Part, rows.Row.Row, stops.{Stop.Stop, Reaction.Reaction}, drawing.Drawing.Drawing}, Items.{part_item, band, bands}, Rows.{IsRowOf, no_row, row_at}, Reactions.{no_drawn_stop, IsShownOf, IsDrawnReaction, reaction_at}, Picture.AreTaskRows}
use Rattle.cl_draw.specs.{Picture.AreReactions, Inner.{TaskRuns.{IsTaskRun, IsPartOf}, DrawnBars.{IsItemOfTask, IsDrawableBar}, Heights.ArePlaces, Drawings.{IsDrawableRow, IsDrawing}}}
use Rattle.cl_draw.specs.Inner.Looks as looks
use Rattle.cl_draw.proofs.PartFacts.{parts_known}

-- ---- bars

-- so is a bar that may be there
abbrev IsDrawableFirst : TaskDef → Option Bar → Type 0
IsDrawableFirst task None = Unit {0}
IsDrawableFirst task (Some bar) = IsDrawableBar task bar

either : {X : Type 0} (P : X → Type 0) (b : Bool) (xs ys : List X) → All P xs → All P ys → All P (if b then xs else ys)
either P true xs ys one other = one
either P false xs ys one other = other

drawable_from : (window : Window) (task : TaskDef) (before : Option Bar) (items : List Item) → IsDrawableFirst task before → All (IsItemOfTask task) items
    → All (IsDrawableBar task) (bars_from window before items)
drawable_from window task None [] first each = All-nil (IsDrawableBar task)
drawable_from window task (Some bar) [] first each = All-cons (IsDrawableBar task) bar [] first (All-nil (IsDrawableBar task))
drawable_from window task None (item ∷ items) first each =
    drawable_from window task (Some (bar_of window 0 item)) items (All-head (IsItemOfTask task) item items each) (All-tail (IsItemOfTask task) item items each)
drawable_from window task (Some bar) (item ∷ items) first each = either (IsDrawableBar task) (high_of window item.to == bar.right)
    (bars_from window (Some (joined_bar bar item)) items) (bar ∷ bars_from window (Some (bar_of window bar.right item)) items)
    (drawable_from window task (Some (joined_bar bar item)) items first (All-tail (IsItemOfTask task) item items each))
    (All-cons (IsDrawableBar task) bar (bars_from window (Some (bar_of window bar.right item)) items) first
    (drawable_from window task (Some (bar_of window bar.right item)) items (All-head (IsItemOfTask task) item items each) (All-tail (IsItemOfTask task) item items each)))

-- bars of items that name runnables of the task do so
bars_drawable : (window : Window) (task : TaskDef) (items : List Item) → All (IsItemOfTask task) items → All (IsDrawableBar task) (bars window items)
bars_drawable window task items each = drawable_from window task None (filter (counts window) items) tt (All-filter (counts window) (IsItemOfTask task) items each)

-- ---- rows

module _ (model : SystemModel) (run : Run) (window : Window) (task : ℕ) (of : IsTaskRun model run task) where
  parts_sayable : (parts : List Part) → All (IsPartOf model run task) parts
      → All (IsItemOfTask (task_at model task)) (map (part_item (jobs_of run task) (deadline_of model task) (task_at model task).runnables) parts)
  parts_sayable parts known = All-map (IsItemOfTask (task_at model task)) (part_item (jobs_of run task) (deadline_of model task) (task_at model task).runnables) parts
      (λ k d within. (known k d within).is_runnable)

  bands_sayable : (finishes : List ℕ) → All (IsItemOfTask (task_at model task)) (bands (jobs_of run task) (deadline_of model task) finishes run.table.ticks)
  bands_sayable finishes = All-map (IsItemOfTask (task_at model task)) (band (jobs_of run task) (deadline_of model task) finishes run.table.ticks)
      (range_with_len 0 (length (jobs_of run task))) (λ k d within. tt)

  pub row_drawable : (row : Row) → IsRowOf model run window task row → IsDrawableRow model task row
  row_drawable row is = record {
    bands = subst (All (IsDrawableBar (task_at model task))) (sym is.bands_drawn)
        (bars_drawable window (task_at model task) (bands (jobs_of run task) (deadline_of model task) is.finishes run.table.ticks) (bands_sayable is.finishes));
    parts = subst (All (IsDrawableBar (task_at model task))) (sym is.parts_drawn)
        (bars_drawable window (task_at model task) (map (part_item (jobs_of run task) (deadline_of model task) (task_at model task).runnables) is.parts)
        (parts_sayable is.parts (parts_known model run task of is.parts is.are_parts)));
  }

-- the row of a task among all
pub drawable_here : (model : SystemModel) (rows slice : List Row) → slice ≡ rows → (task : ℕ) → task < length rows → (row d : Row) → row ≡ get_or slice task d
    → IsDrawableRow model task (row_at rows task) → IsDrawableRow model task row
drawable_here model rows slice same task within row d is drawable =
    subst (IsDrawableRow model task) (sym (is ∙ ap (λ (rs : List Row). get_or rs task d) same ∙ get_or_default rows task d no_row within)) drawable

-- ---- reactions

module _ (model : SystemModel) (valid : IsValid model) (run : Run) (chain : ℕ) where
  known_group : (i : ℕ) → i < length (groups_at model chain) → IsGroupOf model (group_at (groups_at model chain) i)
  known_group i within = groups_at_are model valid chain i no_group within

  shown_drawable : (measured : Option JobChain) (reaction : Option Reaction) → IsMeasuredBy (IsForwardChain (run_moments (system_of model) run) (groups_at model chain)) first_job measured
      → IsShownOf (run_moments (system_of model) run) (groups_at model chain) measured reaction → looks.IsDrawableReaction model reaction
  shown_drawable None None is shown = tt
  shown_drawable None (Some reaction) is shown = absurd shown
  shown_drawable (Some longest) None is shown = tt
  shown_drawable (Some longest) (Some reaction) is shown = record {
    some = omega (arith, is.is_chain.some_group, shown.one_a_group);
    known = All-from_get_or (λ (stop : Stop). stop.task < length model.tasks) reaction.stops no_drawn_stop
        (λ i within.
        let in_groups : i < length (groups_at model chain) = omega (arith, within, shown.one_a_group) in
        omega (arith, (shown.stops i in_groups).task, (known_group i in_groups).known));
  }

  pub reaction_drawable : (reaction : Option Reaction) → IsDrawnReaction model run chain reaction → looks.IsDrawableReaction model reaction
  reaction_drawable reaction is = shown_drawable is.measured.reaction reaction is.is_measured.is_reaction is.shown

-- ---- the drawing

pub is_drawing : (model : SystemModel) → IsValid model → (run : Run) → IsLegal (system_of model) run → (drawing : Drawing) → IsPictureWindow drawing.window → ArePlaces model drawing.places
    → length drawing.rows ≡ length model.tasks → AreTaskRows model run drawing.window drawing.rows → length drawing.reactions ≡ length model.chains
    → AreReactions model run drawing.reactions → IsDrawing model run drawing
is_drawing model valid run legal drawing window places row_count rows reaction_count reactions = record {
  valid = valid;
  window = window;
  places = places;
  row_count = row_count;
  rows = rows;
  drawable_rows = λ task within. row_drawable model run drawing.window task (record { is_task = within; valid = valid; legal = legal }) (row_at drawing.rows task) (rows task within);
  reaction_count = reaction_count;
  reactions = reactions;
  drawable_reactions = λ chain within. reaction_drawable model valid run chain (reaction_at drawing.reactions chain) (reactions chain within);
}
