-- A picture shows the rows of the model's tasks and the reactions of its chains alone, and so it is unique.
use Rattle.std.proofs.Common.{◌≡◌, ℕ, ◌+◌, ◌<◌, Option, List, [], ◌∷◌, ◌++◌, length, get_or, refl, sym, ap, ◌∙◌, arith}
use Rattle.std.specs.Prelude.{All}
use Rattle.std.specs.List.{flat_map, range_with_len}
use Rattle.std.proofs.lemmas.List.Elements.{All-head, All-tail}
use Rattle.std.proofs.lemmas.List.FromFn.{length-range_with_len, get_or-range_with_len}
use Rattle.cl_model.specs.{declared.model.SystemModel.SystemModel, ByNumber.{chain_at, tasks_of_core}, Validity.IsValid}
use Rattle.cl_model.proofs.CoreTasks.{below_known}
use Rattle.cl_runs.specs.{Legal.IsLegal, Run.Run, SystemOf.system_of}
use Rattle.cl_picture.specs.{declared.window.Window.Window, Pieces.{Element, print}, Axis.axis, Frame.{begin, end}}
use Rattle.cl_draw.specs.{declared.{rows.Row.Row, stops.Reaction.Reaction}, Places.{row_top, bottom}, Rows.row_at, RowLines.row_lines, Reactions.reaction_at, ChainLines.drawn_chain_lines, Picture.{heads, row_names, by_core, by_cores, task_elements, look_of, chain_elements, picture}}
use Rattle.cl_draw.specs.Picture.{window_between, IsPictureOf}
use Rattle.cl_draw.proofs.OneRow.{one_row, one_reaction}

-- what comes of items depends on what comes of each alone
same_flat : {X A : Type 0} (f g : X → List A) (xs : List X) → All (λ x. f x ≡ g x) xs → flat_map f xs ≡ flat_map g xs
same_flat f g [] same = refl
same_flat f g (x ∷ xs) same =
    ap (λ ys. ys ++ flat_map f xs) (All-head (λ y. f y ≡ g y) x xs same)
    ∙ ap (λ ys. g x ++ ys) (same_flat f g xs (All-tail (λ y. f y ≡ g y) x xs same))

-- what holds of each number below n
all_below : (P : ℕ → Type 0) (n : ℕ) → ((k : ℕ) → k < n → P k) → All P (range_with_len 0 n)
all_below P n each = λ k d within. each (get_or (range_with_len 0 n) k d)
    (let below : k < n = omega (arith, within, length-range_with_len 0 n) in omega (arith, below, get_or-range_with_len 0 n k d below))

module _ (model : SystemModel) (run : Run) (window : Window) where
  module _ (one other : List Row) (same : (task : ℕ) → task < length model.tasks → row_at one task ≡ row_at other task) where
    one_task : (task : ℕ) → task < length model.tasks → task_elements model run window one task ≡ task_elements model run window other task
    one_task task known = ap (λ (row : Row). row_lines model run window task (row_top model task) row) (same task known)

    one_core : (core : ℕ) → by_core model (task_elements model run window one) core ≡ by_core model (task_elements model run window other) core
    one_core core = same_flat (task_elements model run window one) (task_elements model run window other) (tasks_of_core model core)
        (λ k d within. one_task (get_or (tasks_of_core model core) k d) (below_known model (length model.tasks) core k d within))

    same_rows : by_cores model (task_elements model run window one) ≡ by_cores model (task_elements model run window other)
    same_rows = same_flat (by_core model (task_elements model run window one)) (by_core model (task_elements model run window other)) (range_with_len 0 (length model.cores))
        (λ k d within. one_core (get_or (range_with_len 0 (length model.cores)) k d))

  module _ (one other : List (Option Reaction)) (same : (chain : ℕ) → chain < length model.chains → reaction_at one chain ≡ reaction_at other chain) where
    abbrev all_chains : List (Option Reaction) → List Element
    all_chains reactions = flat_map (chain_elements model window reactions) (range_with_len 0 (length model.chains))

    same_chains : all_chains one ≡ all_chains other
    same_chains = same_flat (chain_elements model window one) (chain_elements model window other) (range_with_len 0 (length model.chains))
        (all_below (λ chain. chain_elements model window one chain ≡ chain_elements model window other chain) (length model.chains)
        (λ chain known. ap (λ (r : Option Reaction). drawn_chain_lines model (look_of model window chain) (chain_at model chain).name r) (same chain known)))

  same_picture : (rows also : List Row) (reactions too : List (Option Reaction))
      → ((task : ℕ) → task < length model.tasks → row_at rows task ≡ row_at also task)
      → ((chain : ℕ) → chain < length model.chains → reaction_at reactions chain ≡ reaction_at too chain)
      → picture model run window rows reactions ≡ picture model run window also too
  unfolding picture
  same_picture rows also reactions too row chain =
      let before = begin window run.table.ticks (bottom model + 460) ++ heads model ++ row_names model ++ axis window (bottom model) in
      let last = end (bottom model) in
      ap (λ (es : List Element). before ++ es ++ flat_map (chain_elements model window reactions) (range_with_len 0 (length model.chains)) ++ last) (same_rows rows also row)
      ∙ ap (λ (es : List Element). before ++ by_cores model (task_elements model run window also) ++ es ++ last) (same_chains reactions too chain)

-- two pictures of one window of a legal run are equal
pub one_picture : (model : SystemModel) → IsValid model → (run : Run) → IsLegal (system_of model) run → (from to : ℕ) (one other : List ℕ)
    → IsPictureOf model run from to one → IsPictureOf model run from to other → one ≡ other
one_picture model valid run legal from to one other first second =
    first.printed
    ∙ ap print (same_picture model run (window_between from to) first.rows second.rows first.reactions second.reactions
    (λ task known. one_row model run task (window_between from to) (record { is_task = known; valid = valid; legal = legal })
    (row_at first.rows task) (row_at second.rows task) (first.are_rows task known) (second.are_rows task known))
    (λ chain known. one_reaction model run chain (reaction_at first.reactions chain) (reaction_at second.reactions chain)
    (first.are_reactions chain known) (second.are_reactions chain known)))
    ∙ sym second.printed
