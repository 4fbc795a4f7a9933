-- The picture, part by part.
use Rattle.std.proofs.Common.{◌≡◌, ℕ, ◌+◌, List, [], ◌++◌, length, ap, ◌∙◌, subst}
use Rattle.std.specs.List.{flat_map, range_with_len}
use Rattle.cl_model.specs.declared.model.SystemModel.{SystemModel}
use Rattle.cl_runs.specs.Run.{Run}
use Rattle.cl_picture.specs.{declared.window.Window.Window, Pieces.print, Axis.axis, Frame.{begin, end}}
use Rattle.cl_picture.proofs.Printing.{more_elements}
use Rattle.cl_draw.specs.{declared.{rows.Row.Row, stops.Reaction.Reaction, drawing.Drawing.Drawing}, Places.bottom, Picture.{heads, row_names, by_cores, task_elements, chain_elements, picture, AreTaskRows, window_between, IsPictureOf}, Inner.Drawings.IsDrawing}
use Rattle.std.specs.Prelude.{Option}

module _ (model : SystemModel) (run : Run) (window : Window) (rows : List Row) (reactions : List (Option Reaction)) (height ticks : ℕ) (is_height : height ≡ bottom model)
    (is_ticks : ticks ≡ run.table.ticks) (t0 t1 t2 t3 t4 t5 t6 t7 : List ℕ) where
  pub all_put : t1 ≡ t0 ++ print (begin window ticks (height + 460)) → t2 ≡ t1 ++ print (heads model) → t3 ≡ t2 ++ print (row_names model)
      → t4 ≡ t3 ++ print (axis window height) → t5 ≡ t4 ++ print (by_cores model (task_elements model run window rows))
      → t6 ≡ t5 ++ print (flat_map (chain_elements model window reactions) (range_with_len 0 (length model.chains))) → t7 ≡ t6 ++ print (end height)
      → t7 ≡ t0 ++ print (picture model run window rows reactions)
  unfolding picture
  all_put begun headed named ruled drawn chained ended =
      let first = subst (λ h. t1 ≡ t0 ++ print (begin window run.table.ticks (h + 460))) is_height (subst (λ n. t1 ≡ t0 ++ print (begin window n (height + 460))) is_ticks begun) in
      let axis_put = subst (λ h. t4 ≡ t3 ++ print (axis window h)) is_height ruled in
      let last = subst (λ h. t7 ≡ t6 ++ print (end h)) is_height ended in
      more_elements t0 t6 t7 _ _ (more_elements t0 t5 t6 _ _ (more_elements t0 t4 t5 _ _ (more_elements t0 t3 t4 _ _ (more_elements t0 t2 t3 _ _
      (more_elements t0 t1 t2 _ _ first headed) named) axis_put) drawn) chained) last

-- what is put behind nothing is the picture of what is drawn
pub is_picture : (model : SystemModel) (run : Run) (from to : ℕ) (drawing : Drawing) (start text : List ℕ) → drawing.window ≡ window_between from to → IsDrawing model run drawing
    → start ≡ [] → text ≡ start ++ print (picture model run drawing.window drawing.rows drawing.reactions) → IsPictureOf model run from to text
is_picture model run from to drawing start text window is empty put = record {
  rows = drawing.rows;
  are_rows = subst (λ (w : Window). AreTaskRows model run w drawing.rows) window is.rows;
  reactions = drawing.reactions;
  are_reactions = is.reactions;
  printed = put ∙ ap (λ (t : List ℕ). t ++ print (picture model run drawing.window drawing.rows drawing.reactions)) empty
      ∙ ap (λ (w : Window). print (picture model run w drawing.rows drawing.reactions)) window;
}
