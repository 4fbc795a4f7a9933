-- The rows of a run, and the reactions that are shown of it, are unique.
use Rattle.std.proofs.Common.{◌≡◌, ℕ, suc, ◌<◌, ◌-◌, Option, Some, None, List, [], ◌∷◌, length, map, refl, sym, ap, subst, ◌∙◌, arith}
use Rattle.std.specs.Prelude.{slice_get, slice_index}
use Rattle.std.proofs.lemmas.List.{ext_get_or}
use Rattle.cl_model.specs.{declared.{model.SystemModel.SystemModel, group.Group.Group}, ByNumber.{task_at, deadline_of}, Groups.{group_at, groups_at}}
use Rattle.cl_runs.specs.{TaskTiming.timing_at, SystemOf.system_of, Run.{Run, jobs_of}, Moments.JobFinishes, Chains.{Moments, JobChain}, RunChains.run_moments, MomentOrder.AreUnique, Measured.{Measured, IsMeasured}}
use Rattle.cl_runs.proofs.{StartsFinishes.finishes_once, OrderedMoments.run_unique, MeasuredOnce.measured_once}
use Rattle.cl_check.specs.JobMoments.{IsMomentOf}
use Rattle.cl_picture.specs.{declared.window.Window.Window, Bars.bars}
use Rattle.cl_draw.specs.{declared.{parts.Part.Part, rows.Row.Row, stops.{Stop.Stop, Reaction.Reaction}}, Parts.AreFinishes, Items.{part_item, bands}, Rows.IsRowOf, Reactions.{no_drawn_stop, stop_at_group, IsStop, IsShown, IsShownOf, IsDrawnReaction}, Inner.TaskRuns.IsTaskRun}
use Rattle.cl_draw.proofs.OneParts.{one_parts}

-- ---- finishes

one_moment : (IsAt : ℕ → Type 0) → ((s t : ℕ) → IsAt s → IsAt t → s ≡ t) → (a b : Option ℕ) → IsMomentOf IsAt a → IsMomentOf IsAt b → a ≡ b
one_moment IsAt once None None one other = refl
one_moment IsAt once None (Some t) one other = absurd (one t other)
one_moment IsAt once (Some s) None one other = absurd (other s one)
one_moment IsAt once (Some s) (Some t) one other = ap Some (once s t one other)

none_some : (x : ℕ) → None ≡ Some x → ⊥
none_some x same = cc

-- lists with the same item of each number are equal
same_items : (xs ys : List ℕ) → ((k : ℕ) → slice_get xs k ≡ slice_get ys k) → xs ≡ ys
same_items [] [] same = refl
same_items [] (y ∷ ys) same = absurd (none_some y (same 0))
same_items (x ∷ xs) [] same = absurd (none_some x (sym (same 0)))
same_items (x ∷ xs) (y ∷ ys) same =
    let first : Some x ≡ Some y = same 0 in
    let head : x ≡ y = cc in
    ap (λ (z : ℕ). z ∷ xs) head ∙ ap (λ (zs : List ℕ). y ∷ zs) (same_items xs ys (λ k. same (suc k)))

module _ (model : SystemModel) (run : Run) (task : ℕ) where
  one_finishes : (fs gs : List ℕ) → AreFinishes (system_of model) run task fs → AreFinishes (system_of model) run task gs → fs ≡ gs
  one_finishes fs gs one other = same_items fs gs (λ job. one_moment (JobFinishes (system_of model) run task job)
      (finishes_once (system_of model) run task job (length (timing_at (system_of model) task).ranges - 1))
      (slice_get fs job) (slice_get gs job) (one.each job) (other.each job))

  -- ---- rows

  row_same : (one other : Row) → one.bands ≡ other.bands → one.parts ≡ other.parts → one ≡ other
  row_same one other bands parts = λ i. record { bands = bands i; parts = parts i }

  pub one_row : (window : Window) → IsTaskRun model run task → (a b : Row) → IsRowOf model run window task a → IsRowOf model run window task b → a ≡ b
  one_row window of a b one other =
      let finishes = one_finishes one.finishes other.finishes one.are_finishes other.are_finishes in
      let parts = one_parts model run task of one.parts other.parts one.are_parts other.are_parts in
      row_same a b
      (one.bands_drawn ∙ ap (λ (fs : List ℕ). bars window (bands (jobs_of run task) (deadline_of model task) fs run.table.ticks)) finishes ∙ sym other.bands_drawn)
      (one.parts_drawn ∙ ap (λ (ps : List Part). bars window (map (part_item (jobs_of run task) (deadline_of model task) (task_at model task).runnables) ps)) parts
      ∙ sym other.parts_drawn)

-- ---- reactions

stop_same : (one other : Stop) → one.task ≡ other.task → one.job ≡ other.job → one.read ≡ other.read → one.write ≡ other.write → one ≡ other
stop_same one other task job read write = λ i. record { task = task i; job = job i; read = read i; write = write i }

reaction_same : (one other : Reaction) → one.from ≡ other.from → one.to ≡ other.to → one.stops ≡ other.stops → one ≡ other
reaction_same one other from to stops = λ i. record { from = from i; to = to i; stops = stops i }

module _ (moments : Moments) (groups : List Group) (unique : AreUnique moments groups) where
  one_stop : (i : ℕ) → i < length groups → (job : ℕ) (a b : Stop) → IsStop moments (group_at groups i) job a → IsStop moments (group_at groups i) job b → a ≡ b
  one_stop i within job a b one other = stop_same a b (one.task ∙ sym other.task) (one.job_is ∙ sym other.job_is)
      (unique.reads i job a.read b.read within one.reads other.reads) (unique.writes i job a.write b.write within one.writes other.writes)

  one_shown : (chain : JobChain) (a b : Reaction) → IsShown moments groups chain a → IsShown moments groups chain b → a ≡ b
  one_shown chain a b one other = reaction_same a b (one.from ∙ sym other.from) (one.to ∙ sym other.to)
      (ext_get_or no_drawn_stop a.stops b.stops (one.one_a_group ∙ sym other.one_a_group)
      (λ i within. let in_groups : i < length groups = omega (arith, within, one.one_a_group) in
      one_stop i in_groups (slice_index chain.jobs i) (stop_at_group a.stops i) (stop_at_group b.stops i) (one.stops i in_groups) (other.stops i in_groups)))

  one_shown_of : (chain : Option JobChain) (a b : Option Reaction) → IsShownOf moments groups chain a → IsShownOf moments groups chain b → a ≡ b
  one_shown_of None None None one other = refl
  one_shown_of None None (Some b) one other = absurd other
  one_shown_of None (Some a) b one other = absurd one
  one_shown_of (Some chain) None b one other = absurd one
  one_shown_of (Some chain) (Some a) None one other = absurd other
  one_shown_of (Some chain) (Some a) (Some b) one other = ap Some (one_shown chain a b one other)

module _ (model : SystemModel) (run : Run) (chain : ℕ) where
  -- what is shown is the reaction of whatever is measured
  pub shown_of_measured : (reaction : Option Reaction) → IsDrawnReaction model run chain reaction → (measured : Measured)
      → IsMeasured (run_moments (system_of model) run) (groups_at model chain) measured
      → IsShownOf (run_moments (system_of model) run) (groups_at model chain) measured.reaction reaction
  shown_of_measured reaction is measured other =
      let same = measured_once (run_moments (system_of model) run) (groups_at model chain) (run_unique (system_of model) run (groups_at model chain))
      is.measured measured is.is_measured other in
      subst (λ (m : Measured). IsShownOf (run_moments (system_of model) run) (groups_at model chain) m.reaction reaction) same is.shown

  pub one_reaction : (a b : Option Reaction) → IsDrawnReaction model run chain a → IsDrawnReaction model run chain b → a ≡ b
  one_reaction a b one other = one_shown_of (run_moments (system_of model) run) (groups_at model chain) (run_unique (system_of model) run (groups_at model chain))
      one.measured.reaction a b one.shown (shown_of_measured b other one.measured one.is_measured)
