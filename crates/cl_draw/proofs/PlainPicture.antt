-- The values of a picture are plain: row_names are of the grammar of row_names, and all else is numbers.
use Rattle.std.proofs.Common.{◌≡◌, ℕ, zero, suc, ◌-◌, Bool, true, false, Option, Some, None, List, [], ◌∷◌, ◌++◌, length, get_or, map, arith}
use Rattle.std.specs.Prelude.{◌+◌, ◌&&◌, codes, nat_lt, nat_le, slice_index_or}
use Rattle.std.specs.List.{flat_map, list_all, range_with_len}
use Rattle.std.proofs.lemmas.Grind.{common_steps}
use Rattle.std.proofs.lemmas.List.Elements.{All-nil}
use Rattle.std.proofs.lemmas.List.Sums.{AllPass-from_list_all}
use Rattle.cl_model.specs.{declared.model.SystemModel.SystemModel, AreNamed.AreNamed, ByNumber.{no_runnable, task_at, chain_at, core_at, deadline_of, tasks_of_core}, Name.{is_name_byte, IsName}}
use Rattle.cl_model.proofs.ListFacts.{both_pass}
use Rattle.cl_runs.specs.Run.{Run, jobs_of}
use Rattle.cl_picture.specs.{declared.{window.Window.Window, item.{Bar.Bar, End.End, Item.Item, Rest.Rest}}, Axis.axis, Frame.{begin, end, close_line}, Pieces.{Piece, Element, Fixed, Number}, Window.x_of, Plain.{is_format_byte, IsPlainText, ArePlain}}
use Rattle.cl_picture.specs.declared.item.Rest.TheVariants as rest
use Rattle.cl_picture.proofs.{BarSides.choose, PlainPieces.{NamesPlain, LinesPlain, names-append, names-flat_map, lines-append, lines-map, lines-flat_map, lines_plain, begin_plain, end_plain, axis_plain}}
use Rattle.cl_draw.specs.{declared.{chain_lines.Look.Look, marks.Marks.Marks, rows.Row.Row, stops.{Reaction.Reaction, Stop.Stop}}, Places.{row_top, bottom}, Marks.marks_of, MarkLines.{wait_pieces, arrival_pieces, due_pieces, has_room, arrival_at, arrival_label_line, label_at, mark_lines}}
use Rattle.cl_draw.specs.{RowLines.{finish_piece, rest_pieces, words_pieces, bar_head, bar_line, row_lines}, Rows.row_at, Reactions.reaction_at, ChainLines.{stop_pieces, title_head, reaction_title_line, steps_head, step_pieces_at, steps_line, frame_line, words_left, words_right}}
use Rattle.cl_draw.specs.{ChainLines.{words_place, words_rest, drawn_words_line, input_line, output_line, drawn_length_line, inside_lines, first_stop, last_stop, is_whole_inside, outside_line, shown_lines, open_lines, drawn_chain_lines}, Picture.{core_head, chains_head, heads, task_name}}
use Rattle.cl_draw.specs.Picture.{chain_name, by_core, by_cores, row_names, task_elements, look_of, chain_elements, picture}
use Rattle.cl_draw.proofs.NamesOf.{of_core, of_task, of_chain, of_runnable}

-- ---- row_names

byte_plain : (byte : ℕ) → is_name_byte byte ≡ true → is_format_byte byte ≡ false
byte_plain byte is = grind (arith, common_steps)

name_plain : (name : List ℕ) → IsName name → IsPlainText name
name_plain name is =
    let bytes = both_pass (nat_lt 0 (length name) && nat_le (length name) 64) (list_all is_name_byte name) is in
    λ k d within. byte_plain (get_or name k d) (AllPass-from_list_all is_name_byte name bytes.1 k d within)

no_name_plain : IsPlainText []
no_name_plain = All-nil (λ byte. is_format_byte byte ≡ false)

module _ (model : SystemModel) (named : AreNamed model) where
  core_plain : (core : ℕ) → IsPlainText (core_at model core).name
  core_plain = of_core IsPlainText no_name_plain name_plain model named

  task_plain : (task : ℕ) → IsPlainText (task_at model task).name
  task_plain = of_task IsPlainText no_name_plain name_plain model named

  chain_plain : (chain : ℕ) → IsPlainText (chain_at model chain).name
  chain_plain = of_chain IsPlainText no_name_plain name_plain model named

  runnable_plain : (task place : ℕ) → IsPlainText (slice_index_or (task_at model task).runnables place no_runnable).name
  runnable_plain = of_runnable IsPlainText no_name_plain name_plain model named

  -- ---- heads and row_names

  chains_head_plain : (chains : ℕ) → LinesPlain (chains_head model chains)
  chains_head_plain zero = tt
  chains_head_plain (suc chains) = (tt, tt)

  heads_plain : LinesPlain (heads model)
  unfolding heads
  heads_plain = lines-append (map (core_head model) (range_with_len 0 (length model.cores))) (chains_head model (length model.chains))
      (lines-map (core_head model) (range_with_len 0 (length model.cores)) (λ core. (core_plain core, tt))) (chains_head_plain (length model.chains))

  by_cores_plain : (lines : ℕ → List Element) → ((task : ℕ) → LinesPlain (lines task)) → LinesPlain (by_cores model lines)
  by_cores_plain lines each = lines-flat_map (by_core model lines) (range_with_len 0 (length model.cores))
      (λ core. lines-flat_map lines (tasks_of_core model core) each)

  names_plain : LinesPlain (row_names model)
  unfolding row_names
  names_plain = lines-append (by_cores model (task_name model)) (flat_map (chain_name model) (range_with_len 0 (length model.chains)))
      (by_cores_plain (task_name model) (λ task. ((task_plain task, tt), (tt, tt))))
      (lines-flat_map (chain_name model) (range_with_len 0 (length model.chains)) (λ chain. ((chain_plain chain, tt), (tt, tt))))

  -- ---- rows

  finish_plain : (finished : Bool) (to : ℕ) (more : List Piece) → NamesPlain more → NamesPlain (finish_piece finished to ∷ more)
  finish_plain true to more plain = plain
  finish_plain false to more plain = plain

  module _ (task : ℕ) where
    rest_plain : (item : Item) (said : Rest) → NamesPlain (rest_pieces (task_at model task) item said)
    rest_plain item (rest.Part place) = (runnable_plain task place, tt)
    rest_plain item (rest.Band arrival due finished) = finish_plain finished item.to (Fixed (codes " deadline ") ∷ Number due ∷ []) tt

    words_plain : (first : Item) (last : Option End) → NamesPlain (words_pieces (task_at model task) first last)
    words_plain first None = rest_plain first first.rest
    words_plain first (Some last) = (task_plain task, tt)

    bar_plain : (opening : List ℕ) (bar : Bar) → NamesPlain (bar_line opening (task_at model task) bar)
    unfolding bar_line
    bar_plain opening bar =
        names-append (bar_head opening (task_at model task) bar ++ words_pieces (task_at model task) bar.first bar.last) (Fixed (codes "</title></rect>") ∷ [])
        (names-append (bar_head opening (task_at model task) bar) (words_pieces (task_at model task) bar.first bar.last) (task_plain task, tt) (words_plain bar.first bar.last))
        tt

  -- a line that opens, has some pieces, and closes
  line_plain : {X : Type 0} (opens closes : List ℕ) (f : X → List Piece) (xs : List X) → ((x : X) → NamesPlain (f x))
      → NamesPlain (Fixed opens ∷ [] ++ flat_map f xs ++ Fixed closes ∷ [])
  line_plain opens closes f xs each = names-append (Fixed opens ∷ [] ++ flat_map f xs) (Fixed closes ∷ []) (names-flat_map f xs each) tt

  marks_plain : (window : Window) (marks : Marks) → LinesPlain (mark_lines window marks)
  unfolding mark_lines
  marks_plain window marks = (
    line_plain (codes "<path class=\"j\" d=\"") (codes "\"/>") (wait_pieces window) marks.waits (λ wait. tt),
    (
      line_plain (codes "<path class=\"a\" d=\"") (codes "\"/>") (arrival_pieces window) marks.arrivals (λ arrival. tt),
      (
        line_plain (codes "<path class=\"a\" d=\"") (codes "\"/>") (due_pieces window) marks.dues (λ due. tt),
        lines-flat_map (label_at window marks.arrivals) (range_with_len 0 (length marks.arrivals))
            (λ k. choose LinesPlain (has_room window marks.arrivals k) (arrival_label_line window (arrival_at marks.arrivals k) ∷ []) [] (λ is. (tt, tt)) (λ not. tt)),
      ),
    ),
  )

  row_plain : (run : Run) (window : Window) (task y : ℕ) (row : Row) → LinesPlain (row_lines model run window task y row)
  unfolding row_lines
  row_plain run window task y row =
      let bands = map (bar_line (codes "<rect class=\"r") (task_at model task)) row.bands in
      let parts = map (bar_line (codes "<rect class=\"e") (task_at model task)) row.parts in
      let marks = mark_lines window (marks_of window (jobs_of run task) (deadline_of model task)) in (
        tt,
        lines-append (bands ++ parts ++ marks) (close_line ∷ [])
            (lines-append (bands ++ parts) marks
            (lines-append bands parts (lines-map (bar_line (codes "<rect class=\"r") (task_at model task)) row.bands (bar_plain task (codes "<rect class=\"r")))
            (lines-map (bar_line (codes "<rect class=\"e") (task_at model task)) row.parts (bar_plain task (codes "<rect class=\"e"))))
            (marks_plain window (marks_of window (jobs_of run task) (deadline_of model task)))) (tt, tt),
      )

  -- ---- chains

  title_plain : (name : List ℕ) → IsPlainText name → (reaction : Reaction) → NamesPlain (reaction_title_line model name reaction)
  title_plain name plain reaction = names-append (title_head name reaction ++ flat_map (stop_pieces model) reaction.stops) (Fixed (codes "</title>") ∷ [])
      (names-append (title_head name reaction) (flat_map (stop_pieces model) reaction.stops) (plain, tt)
      (names-flat_map (stop_pieces model) reaction.stops (λ (stop : Stop). (task_plain stop.task, tt)))) tt

  steps_plain : (look : Look) (opening : List ℕ) (reaction : Reaction) → NamesPlain (steps_line model look opening reaction)
  steps_plain look opening reaction =
      let steps = flat_map (step_pieces_at model look reaction.stops) (range_with_len 0 (length reaction.stops - 1)) in
      names-append (steps_head model look opening reaction ++ steps) (Fixed (codes "\"/>") ∷ [])
      (names-append (steps_head model look opening reaction) steps tt
      (names-flat_map (step_pieces_at model look reaction.stops) (range_with_len 0 (length reaction.stops - 1)) (λ k. tt))) tt

  said_plain : (look : Look) (reaction : Reaction) → NamesPlain (drawn_words_line model look reaction)
  said_plain look reaction =
      names-append (words_place look reaction) (words_rest model look reaction (first_stop reaction) (last_stop reaction))
      (choose NamesPlain (nat_le (x_of look.window reaction.from + x_of look.window reaction.to) 14000) (words_left look reaction) (words_right look reaction) (λ is. tt) (λ not. tt))
      (task_plain (first_stop reaction).task, (task_plain (last_stop reaction).task, tt))

  inside_plain : (look : Look) (name : List ℕ) → IsPlainText name → (reaction : Reaction) → LinesPlain (inside_lines model look name reaction)
  unfolding inside_lines
  inside_plain look name plain reaction = (
    title_plain name plain reaction,
    (
      tt,
      (
        steps_plain look (codes "<path class=\"o\" d=\"M") reaction,
        (
          steps_plain look (codes "<path class=\"l\" d=\"M") reaction,
          lines-append (map (frame_line model look) reaction.stops)
              (input_line model look reaction ∷ output_line model look reaction ∷ drawn_length_line look reaction ∷ drawn_words_line model look reaction ∷ [])
              (lines-map (frame_line model look) reaction.stops (λ stop. tt))
              (tt, (tt, (tt, (said_plain look reaction, tt)))),
        ),
      ),
    ),
  )

  shown_plain : (look : Look) (name : List ℕ) → IsPlainText name → (reaction : Option Reaction) → LinesPlain (shown_lines model look name reaction)
  shown_plain look name plain None = (tt, tt)
  shown_plain look name plain (Some reaction) = choose LinesPlain (is_whole_inside look reaction) (inside_lines model look name reaction) (outside_line look reaction ∷ [])
      (λ is. inside_plain look name plain reaction) (λ not. (tt, tt))

  chain_lines_plain : (look : Look) (name : List ℕ) → IsPlainText name → (reaction : Option Reaction) → LinesPlain (drawn_chain_lines model look name reaction)
  unfolding drawn_chain_lines
  chain_lines_plain look name plain reaction = lines-append (open_lines name look ++ shown_lines model look name reaction) (close_line ∷ [])
      (lines-append (open_lines name look) (shown_lines model look name reaction) ((plain, tt), (tt, tt)) (shown_plain look name plain reaction)) (tt, tt)

  -- ---- the picture

  by_parts : (run : Run) (window : Window) (rows : List Row) (reactions : List (Option Reaction)) → LinesPlain (picture model run window rows reactions)
  unfolding picture
  by_parts run window rows reactions =
      let first : List Element = begin window run.table.ticks (bottom model + 460) in
      let headed : List Element = first ++ heads model in
      let named_too : List Element = headed ++ row_names model in
      let ruled : List Element = named_too ++ axis window (bottom model) in
      let drawn : List Element = ruled ++ by_cores model (task_elements model run window rows) in
      let chained : List Element = drawn ++ flat_map (chain_elements model window reactions) (range_with_len 0 (length model.chains)) in
      lines-append chained (end (bottom model))
      (lines-append drawn (flat_map (chain_elements model window reactions) (range_with_len 0 (length model.chains)))
      (lines-append ruled (by_cores model (task_elements model run window rows))
      (lines-append named_too (axis window (bottom model))
      (lines-append headed (row_names model)
      (lines-append first (heads model) (begin_plain window run.table.ticks (bottom model + 460)) heads_plain)
      names_plain) (axis_plain window (bottom model)))
      (by_cores_plain (task_elements model run window rows) (λ task. row_plain run window task (row_top model task) (row_at rows task))))
      (lines-flat_map (chain_elements model window reactions) (range_with_len 0 (length model.chains))
      (λ chain. chain_lines_plain (look_of model window chain) (chain_at model chain).name (chain_plain chain) (reaction_at reactions chain))))
      (end_plain (bottom model))

  pub picture_plain : (run : Run) (window : Window) (rows : List Row) (reactions : List (Option Reaction)) → ArePlain (picture model run window rows reactions)
  picture_plain run window rows reactions = lines_plain (picture model run window rows reactions) (by_parts run window rows reactions)
