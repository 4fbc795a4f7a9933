-- How high heads and rows stand, one after the other.
use Rattle.std.proofs.Common.{◌≡◌, ◌≢◌, ℕ, zero, suc, ◌+◌, ◌*◌, ◌<◌, ◌≤◌, Bool, true, false, nat_eq, List, [], ◌∷◌, ◌++◌, length, get_or, set, map, refl, sym, ap, subst, ◌∙◌, arith, length-append}
use Rattle.std.specs.Prelude.{filter, sum, slice_index, ◌==◌}
use Rattle.std.specs.List.{range_with_len}
use Rattle.std.proofs.lemmas.Bool.{eq-eqb, ne_eqb, eqb-true, eqb-false}
use Rattle.std.proofs.lemmas.List.{get_or-set_same, get_or-set_other, length-set, get_or_default}
use Rattle.std.proofs.lemmas.List.Elements.{filter-append}
use Rattle.std.proofs.lemmas.List.Sums.{sum_by-append}
use Rattle.cl_text.proofs.MoreLines.{range_more}
use Rattle.cl_model.specs.{declared.model.SystemModel.SystemModel, ByNumber.{core_of, tasks_of_core_below}, Validity.IsValid}
use Rattle.cl_model.proofs.CoreTasks.{few_tasks}
use Rattle.cl_picture.proofs.Printing.{mapped_range}
use Rattle.cl_draw.specs.{declared.places.TheConstants.{FIRST_TOP, HEAD, ROW, MOST_HEIGHT}, Places.{core_height, core_top, row_top}, Inner.Heights.AreCoreTops}
use Rattle.cl_draw.proofs.FirstItems.{AreFirst, none_first, one_more_first}

-- ---- cores

pub top_first : (model : SystemModel) → core_top model 0 ≡ FIRST_TOP
unfolding core_top
top_first model = omega arith

pub top_next : (model : SystemModel) (core : ℕ) → core_top model (core + 1) ≡ core_top model core + core_height model core
unfolding core_top
top_next model core =
    let more = ap sum (sym (mapped_range (core_height model) core)) ∙ sum_by-append (λ n. n) (map (core_height model) (range_with_len 0 core)) (core_height model core ∷ []) in
    omega (arith, more)

-- a core is at most as high as its head and 128 rows
pub top_most : (model : SystemModel) → IsValid model → (core : ℕ) → core_top model core ≤ FIRST_TOP + core * (HEAD + ROW * 128)
top_most model valid zero = omega (arith, top_first model)
top_most model valid (suc core) =
    let next : suc core ≡ core + 1 = omega arith in
    omega (arith, top_most model valid core, top_next model core, few_tasks model valid core, ap (core_top model) next)

-- ---- tasks

-- one more task
below_next : (model : SystemModel) (n core : ℕ) → tasks_of_core_below model (n + 1) core ≡ tasks_of_core_below model n core ++ filter (λ i. core_of model i == core) (n ∷ [])
below_next model n core =
    let next : n + 1 ≡ suc n = omega arith in
    let here : 0 + n ≡ n = omega arith in
    ap (λ m. tasks_of_core_below model m core) next ∙ ap (filter (λ i. core_of model i == core)) (range_more 0 n)
    ∙ ap (λ m. filter (λ i. core_of model i == core) (range_with_len 0 n ++ m ∷ [])) here
    ∙ filter-append (λ i. core_of model i == core) (range_with_len 0 n) (n ∷ [])

kept_one : (p : ℕ → Bool) (n : ℕ) → p n ≡ true → length (filter p (n ∷ [])) ≡ 1
kept_one p n is = rw is refl

kept_none : (p : ℕ → Bool) (n : ℕ) → p n ≡ false → length (filter p (n ∷ [])) ≡ 0
kept_none p n is = rw is refl

pub own_next : (model : SystemModel) (n core : ℕ) → core_of model n ≡ core → length (tasks_of_core_below model (n + 1) core) ≡ length (tasks_of_core_below model n core) + 1
own_next model n core is = ap length (below_next model n core) ∙ length-append (tasks_of_core_below model n core) (filter (λ i. core_of model i == core) (n ∷ []))
    ∙ ap (λ m. length (tasks_of_core_below model n core) + m) (kept_one (λ i. core_of model i == core) n (eq-eqb (core_of model n) core is))

pub other_next : (model : SystemModel) (n core : ℕ) → (core_of model n ≡ core → ⊥) → length (tasks_of_core_below model (n + 1) core) ≡ length (tasks_of_core_below model n core)
other_next model n core other = ap length (below_next model n core) ∙ length-append (tasks_of_core_below model n core) (filter (λ i. core_of model i == core) (n ∷ []))
    ∙ ap (λ m. length (tasks_of_core_below model n core) + m) (kept_none (λ i. core_of model i == core) n (ne_eqb (core_of model n) core other))
    ∙ omega arith

-- ---- lists of them

-- where the heads of the first cores begin, and the next one
pub record AreTopsBelow (model : SystemModel) (core : ℕ) (tops : List ℕ) (top : ℕ) : Type 0 where
  pub first : AreFirst (λ i t. t ≡ core_top model i) 0 core tops
  pub next : top ≡ core_top model core

pub no_tops : (model : SystemModel) (tops : List ℕ) → tops ≡ [] → AreTopsBelow model 0 tops FIRST_TOP
no_tops model tops empty = record {
  first = subst (λ (ts : List ℕ). AreFirst (λ i t. t ≡ core_top model i) 0 0 ts) (sym empty) (none_first (λ i t. t ≡ core_top model i) 0);
  next = sym (top_first model);
}

pub one_more_top : (model : SystemModel) (core : ℕ) (old new : List ℕ) (top next : ℕ) → AreTopsBelow model core old top → new ≡ old ++ top ∷ []
    → next ≡ top + core_height model core → AreTopsBelow model (core + 1) new next
one_more_top model core old new top next below pushed is = record {
  first = one_more_first (λ i t. t ≡ core_top model i) 0 core old new top below.first below.next pushed;
  next = omega (arith, is, below.next, top_next model core);
}

pub all_tops : (model : SystemModel) → IsValid model → (core : ℕ) (old new : List ℕ) (top : ℕ) → core ≡ length model.cores → AreTopsBelow model core old top
    → new ≡ old ++ top ∷ [] → AreCoreTops model new
all_tops model valid core old new top all below pushed =
    let first = one_more_first (λ i t. t ≡ core_top model i) 0 core old new top below.first below.next pushed in
    record {
      count = first.count ∙ ap (λ n. n + 1) all;
      each = λ i within. first.each i (omega (arith, within, all));
      most = λ i within. omega (arith, first.each i (omega (arith, within, all)), top_most model valid i, within, valid.in_range.counts.cores);
    }

-- ---- where the rows of tasks begin

kept_few : (p : ℕ → Bool) (n : ℕ) → length (filter p (n ∷ [])) ≤ 1
kept_few p n = elim (p n) as (λ b. p n ≡ b → length (filter p (n ∷ [])) ≤ 1) [
  | true ↦ λ is. omega (arith, kept_one p n is)
  | false ↦ λ is. omega (arith, kept_none p n is)
] refl

-- among so many tasks
pub below_few : (model : SystemModel) (n core : ℕ) → length (tasks_of_core_below model n core) ≤ n
below_few model zero core = omega arith
below_few model (suc n) core =
    let next : suc n ≡ n + 1 = omega arith in
    omega (
      arith,
      below_few model n core,
      kept_few (λ i. core_of model i == core) n,
      length-append (tasks_of_core_below model n core) (filter (λ i. core_of model i == core) (n ∷ [])),
      ap length (below_next model n core),
      ap (λ m. length (tasks_of_core_below model m core)) next,
    )

-- where the next row of a core begins, behind its rows of the first tasks
abbrev pub next_row : SystemModel → (task core : ℕ) → ℕ
next_row model task core = core_top model core + HEAD + ROW * length (tasks_of_core_below model task core)

pub next_most : (model : SystemModel) → IsValid model → (task core : ℕ) → task ≤ length model.tasks → core < length model.cores → next_row model task core + ROW ≤ MOST_HEIGHT
next_most model valid task core is_task is_core = omega (
  arith,
  top_most model valid core,
  below_few model task core,
  valid.in_range.counts.cores,
  valid.in_range.counts.tasks,
  is_task,
  is_core,
)

-- a row begins at its place, and not too far down
pub record IsRowTop (model : SystemModel) (task top : ℕ) : Type 0 where
  pub is : top ≡ row_top model task
  pub most : top ≤ MOST_HEIGHT

-- where the rows of the first tasks begin, and the next row of each core
pub record AreRowsBelow (model : SystemModel) (task : ℕ) (next rows : List ℕ) : Type 0 where
  pub count : length next ≡ length model.cores + 1
  pub each : (core : ℕ) → core < length model.cores → slice_index next core ≡ next_row model task core
  pub begun : AreFirst (IsRowTop model) 0 task rows

module _ (model : SystemModel) (valid : IsValid model) (task core : ℕ) (next rows : List ℕ) (top d : ℕ) (below : AreRowsBelow model task next rows)
    (is_task : task < length model.tasks) (is_core : core ≡ core_of model task) (within : core < length model.cores) (is : top ≡ get_or next core d) where
  pub row_reached : top ≡ next_row model task core
  row_reached = is ∙ get_or_default next core d 0 (omega (arith, within, below.count)) ∙ below.each core within

  pub row_fits : top + ROW ≤ MOST_HEIGHT
  row_fits = omega (arith, row_reached, next_most model valid task core (omega (arith, is_task)) within)

  is_row : IsRowTop model task top
  is_row = record { is = row_reached ∙ ap (next_row model task) is_core; most = omega (arith, row_fits) }

  pub one_more_row : (after more : List ℕ) → after ≡ set next core (top + ROW) → more ≡ rows ++ top ∷ [] → AreRowsBelow model (task + 1) after more
  one_more_row after more put pushed = record {
    count = ap length put ∙ length-set next core (top + ROW) ∙ below.count;
    each = λ c c_within. elim (nat_eq core c) as (λ b. nat_eq core c ≡ b → slice_index after c ≡ next_row model (task + 1) c) [
      | true ↦ λ e. let same : core ≡ c = eqb-true core c e in
          subst (λ n. slice_index after n ≡ next_row model (task + 1) n) same (omega (
            arith,
            ap (λ (xs : List ℕ). get_or xs core 0) put,
            get_or-set_same next core (top + ROW) 0 (omega (arith, within, below.count)),
            row_reached,
            own_next model task core (sym is_core),
          ))
      | false ↦ λ e. let apart : core ≢ c = eqb-false core c e in
          omega (
            arith,
            ap (λ (xs : List ℕ). get_or xs c 0) put,
            get_or-set_other next core c (top + ROW) 0 (λ same. apart (sym same)),
            below.each c c_within,
            other_next model task c (λ same. apart (is_core ∙ same)),
          )
    ] refl;
    begun = one_more_first (IsRowTop model) 0 task rows more top below.begun is_row pushed;
  }
