-- Each window of a legal run of a valid model has a picture.
use Rattle.std.proofs.Common.{◌≡◌, ℕ, ◌<◌, inl, inr, Option, Some, None, List, length, get_or, map, refl, sym, subst, arith}
use Rattle.std.specs.Prelude.{slice_index}
use Rattle.std.specs.List.{range_with_len}
use Rattle.std.proofs.lemmas.List.FromFn.{get_or-map-range_with_len, length-map-range_with_len}
use Rattle.cl_model.specs.{declared.{model.SystemModel.SystemModel, group.Group.Group}, ByNumber.{task_at, deadline_of}, Groups.{no_group, group_at, groups_at}, Validity.IsValid}
use Rattle.cl_model.proofs.GroupFacts.{groups_at_are, groups_at_some}
use Rattle.cl_runs.specs.{Legal.IsLegal, Run.{Run, jobs_of}, SystemOf.system_of, Chains.{JobChain, IsForwardChain, first_job}, RunChains.run_moments, Measured.IsMeasuredBy}
use Rattle.cl_chain.proofs.{DecidedMoments.{Decided, lt_or_not}, SomeMeasured.run_measured}
use Rattle.cl_picture.specs.{declared.window.Window.Window, Bars.bars, Pieces.print}
use Rattle.cl_draw.specs.{declared.{rows.Row.Row, stops.{Stop.Stop, Reaction.Reaction}}, Items.{part_item, bands}, Rows.{IsRowOf, no_row}, Reactions.{no_drawn_stop, IsStop, IsShownOf, IsDrawnReaction}, Picture.{picture, window_between, IsPictureOf}, Inner.TaskRuns.IsTaskRun}
use Rattle.cl_draw.proofs.{StopFacts.{reads_somewhere, is_stop}, ReactionFacts.written_at, SomeParts.{some_parts, some_finishes}}

-- what is so of each number below n is so of the items of a list
module _ {X : Type 0} (Is : ℕ → X → Type 0) (n : ℕ) (none : X) (some : (k : ℕ) → k < n → (x : X) × Is k x) where
  of_number : (k : ℕ) → Decided (k < n) → X
  of_number k (inl below) = (some k below).0
  of_number k (inr not) = none

  is_of_number : (k : ℕ) (is : Decided (k < n)) → k < n → Is k (of_number k is)
  unfolding of_number
  is_of_number k (inl below) within = (some k below).1
  is_of_number k (inr not) within = absurd (not within)

  abbrev at_number : ℕ → X
  at_number k = of_number k (lt_or_not k n)

  pub some_list : (xs : List X) × (length xs ≡ n) × ((k : ℕ) → k < n → Is k (get_or xs k none))
  some_list = (
    map at_number (range_with_len 0 n),
    length-map-range_with_len at_number 0 n,
    λ k within. subst (Is k) (sym (get_or-map-range_with_len at_number 0 n k k none within (omega arith))) (is_of_number k (lt_or_not k n) within),
  )

module _ (model : SystemModel) (valid : IsValid model) (run : Run) (legal : IsLegal (system_of model) run) where
  -- ---- rows

  some_row : (window : Window) (task : ℕ) → task < length model.tasks → (row : Row) × IsRowOf model run window task row
  some_row window task known =
      let of : IsTaskRun model run task = record { is_task = known; valid = valid; legal = legal } in
      let parts = some_parts model run task of in
      let finishes = some_finishes model run task of in (
        record {
          bands = bars window (bands (jobs_of run task) (deadline_of model task) finishes.0 run.table.ticks);
          parts = bars window (map (part_item (jobs_of run task) (deadline_of model task) (task_at model task).runnables) parts.0);
        },
        record {
          finishes = finishes.0;
          are_finishes = finishes.1;
          bands_drawn = refl;
          parts = parts.0;
          are_parts = parts.1;
          parts_drawn = refl;
        },
      )

  -- ---- reactions

  module _ (chain : ℕ) (is_chain : chain < length model.chains) where
    some_stop : (longest : JobChain) → IsForwardChain (run_moments (system_of model) run) (groups_at model chain) longest
        → (i : ℕ) → i < length (groups_at model chain)
        → (stop : Stop) × IsStop (run_moments (system_of model) run) (group_at (groups_at model chain) i) (slice_index longest.jobs i) stop
    some_stop longest complete i within =
        let group : Group = group_at (groups_at model chain) i in
        let job : ℕ = slice_index longest.jobs i in
        let write = written_at (system_of model) run group job (complete.written i within) in
        let read = reads_somewhere model valid run legal group (groups_at_are model valid chain i no_group within).ordered job write in
        let stop : Stop = record { task = group.task; job = job; read = read.0; write = write.0 } in
        (stop, is_stop model run group job stop refl refl read.1 write.1)

    some_shown : (longest : Option JobChain) → IsMeasuredBy (IsForwardChain (run_moments (system_of model) run) (groups_at model chain)) first_job longest
        → (reaction : Option Reaction) × IsShownOf (run_moments (system_of model) run) (groups_at model chain) longest reaction
    some_shown None is = (None, tt)
    some_shown (Some longest) is =
        let stops = some_list (λ i (stop : Stop). IsStop (run_moments (system_of model) run) (group_at (groups_at model chain) i) (slice_index longest.jobs i) stop)
        (length (groups_at model chain)) no_drawn_stop (some_stop longest is.is_chain) in (
          Some (record { from = longest.from; to = longest.to; stops = stops.0 }),
          record { from = refl; to = refl; one_a_group = stops.1; stops = stops.2 },
        )

    some_reaction : (reaction : Option Reaction) × IsDrawnReaction model run chain reaction
    some_reaction =
        let measured = run_measured (system_of model) run (groups_at model chain) (groups_at_some model valid chain is_chain) in
        let shown = some_shown measured.0.reaction measured.1.is_reaction in
        (shown.0, record { measured = measured.0; is_measured = measured.1; shown = shown.1 })

  -- a text is the picture
  pub some_picture : (from to : ℕ) → (text : List ℕ) × IsPictureOf model run from to text
  some_picture from to =
      let window : Window = window_between from to in
      let rows = some_list (λ task (row : Row). IsRowOf model run window task row) (length model.tasks) no_row (some_row window) in
      let reactions = some_list (λ chain (reaction : Option Reaction). IsDrawnReaction model run chain reaction) (length model.chains) None some_reaction in (
        print (picture model run window rows.0 reactions.0),
        record {
          rows = rows.0;
          are_rows = rows.2;
          reactions = reactions.0;
          are_reactions = reactions.2;
          printed = refl;
        },
      )
