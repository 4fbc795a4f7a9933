-- A text is read in one way: its lines are told by it, and so are what its trace spells and its first bad line.
use Rattle.std.proofs.Common.{◌≡◌, ℕ, suc, ◌^◌, ◌<◌, ◌≤◌, false, Some, List, [], ◌∷◌, ◌++◌, length, get_or, refl, sym, ap, ◌∙◌, subst, arith, append_assoc}
use Rattle.std.specs.Prelude.{decimal, codes}
use Rattle.std.specs.List.{All, AllPass}
use Rattle.std.proofs.lemmas.List.{append-nil, append_cancel_left}
use Rattle.std.proofs.lemmas.List.Elements.{All-nil, All-cons, All-head, All-tail}
use Rattle.cl_model.specs.{declared.model.SystemModel.SystemModel, AreNamed.AreNamed, ByNumber.{no_task, task_at, task_named}, Validity.IsValid}
use Rattle.cl_model.proofs.Links.{own_task}
use Rattle.cl_text.specs.{Decimal.number_of, Line.{first_word, is_graphic, line}, Standing.NoneStands}
use Rattle.cl_text.proofs.{DecimalLemmas.grammar_of_decimal, LineLemmas.{first_word-ended, graphic_decimal}}
use Rattle.cl_runs.specs.declared.job.Job.{Job}
use Rattle.cl_trace.specs.{declared.limits.TheConstants.MOST_TRACE_TICKS, Trace.{Item, Title, Ticks, JobOf, Runs, End, numbers, item_text, text_of}, Rules.{HasHead, MayStand, AreGoodAfter, IsBadTraceLine}, Inner.Pieces.AreTasksNamed}
use Rattle.cl_trace.proofs.{BadCases.{IsStuckAt, stuck_of}, LineFacts.{numbers_first, split_line}, PieceFacts.graphic_name}

-- ---- words and numbers

word_once : (w v x y : List ℕ) (b c : ℕ) → AllPass is_graphic w → AllPass is_graphic v → is_graphic b ≡ false → is_graphic c ≡ false
    → w ++ b ∷ x ≡ v ++ c ∷ y → (w ≡ v) × (b ∷ x ≡ c ∷ y)
word_once w v x y b c graphic other ends other_ends is =
    let first : w ≡ v = sym (first_word-ended w x b graphic ends) ∙ ap first_word is ∙ first_word-ended v y c other other_ends in
    (first, append_cancel_left w (b ∷ x) (c ∷ y) (is ∙ ap (λ t. t ++ c ∷ y) (sym first)))

number_once : (m n : ℕ) → m < 2 ^ 64 → n < 2 ^ 64 → decimal m ≡ decimal n → m ≡ n
number_once m n small other is =
    sym (grammar_of_decimal (decimal m) m small refl).value ∙ ap number_of is ∙ (grammar_of_decimal (decimal n) n other refl).value

record Next (text : List ℕ) : Type 0 where
  byte : ℕ
  rest : List ℕ
  ends : is_graphic byte ≡ false
  is : text ≡ byte ∷ rest

numbers_next : (ns a : List ℕ) → Next (numbers ns ++ 10 ∷ a)
numbers_next [] a = record { byte = 10; rest = a; ends = refl; is = refl }
numbers_next (n ∷ ns) a = record { byte = 32; rest = (decimal n ++ numbers ns) ++ 10 ∷ a; ends = refl; is = refl }

end_or_blank : (x y : List ℕ) → 10 ∷ x ≡ 32 ∷ y → ⊥
end_or_blank x y is = omega (arith, ap (λ l. get_or l 0 0) is)

tail_once : (b : ℕ) (x y : List ℕ) → b ∷ x ≡ b ∷ y → x ≡ y
tail_once b x y is = cc

abbrev AreSmall : List ℕ → Type 0
AreSmall ns = All (λ n. n < 2 ^ 64) ns

numbers_once : (ns ms a b : List ℕ) → AreSmall ns → AreSmall ms → numbers ns ++ 10 ∷ a ≡ numbers ms ++ 10 ∷ b → (ns ≡ ms) × (a ≡ b)
numbers_once [] [] a b small other is = (refl, tail_once 10 a b is)
numbers_once [] (m ∷ ms) a b small other is = absurd (end_or_blank a ((decimal m ++ numbers ms) ++ 10 ∷ b) is)
numbers_once (n ∷ ns) [] a b small other is = absurd (end_or_blank b ((decimal n ++ numbers ns) ++ 10 ∷ a) (sym is))
numbers_once (n ∷ ns) (m ∷ ms) a b small other is =
    let here = numbers_next ns a in
    let there = numbers_next ms b in
    let n_small = All-head (λ k. k < 2 ^ 64) n ns small in
    let m_small = All-head (λ k. k < 2 ^ 64) m ms other in
    let behind : decimal n ++ (numbers ns ++ 10 ∷ a) ≡ decimal m ++ (numbers ms ++ 10 ∷ b)
    = tail_once 32 (decimal n ++ (numbers ns ++ 10 ∷ a)) (decimal m ++ (numbers ms ++ 10 ∷ b)) (sym (numbers_first n ns (10 ∷ a)) ∙ is ∙ numbers_first m ms (10 ∷ b)) in
    let words = word_once (decimal n) (decimal m) here.rest there.rest here.byte there.byte (graphic_decimal n n_small) (graphic_decimal m m_small) here.ends there.ends
    (ap (λ t. decimal n ++ t) (sym here.is) ∙ behind ∙ ap (λ t. decimal m ++ t) there.is) in
    let more = numbers_once ns ms a b (All-tail (λ k. k < 2 ^ 64) n ns small) (All-tail (λ k. k < 2 ^ 64) m ms other) (here.is ∙ words.1 ∙ sym there.is) in
    let first = number_once n m n_small m_small words.0 in
    (ap (λ k. k ∷ ns) first ∙ ap (λ ks. m ∷ ks) more.0, more.1)

-- ---- lines

-- the numbers of a line fit 64 bits, and its task is one of the model
abbrev IsSmallItem : SystemModel → Item → Type 0
IsSmallItem model Title = Unit {0}
IsSmallItem model (Ticks n) = n < 2 ^ 64
IsSmallItem model (JobOf task job) = (task < length model.tasks) × AreSmall (job.arrival ∷ job.release ∷ job.times)
IsSmallItem model (Runs task from to) = (task < length model.tasks) × AreSmall (from ∷ to ∷ [])
IsSmallItem model End = Unit {0}

-- the first byte of a line
abbrev tag : Item → ℕ
tag Title = 99
tag (Ticks n) = 116
tag (JobOf task job) = 106
tag (Runs task from to) = 114
tag End = 101

first_byte : (model : SystemModel) (item : Item) (a : List ℕ) → get_or (item_text model item ++ a) 0 0 ≡ tag item
unfolding item_text
first_byte model Title a = refl
first_byte model (Ticks n) a = refl
first_byte model (JobOf task job) a = refl
first_byte model (Runs task from to) a = refl
first_byte model End a = refl

module _ (model : SystemModel) (valid : IsValid model) (named : AreTasksNamed model) where
  task_once : (i j : ℕ) → i < length model.tasks → j < length model.tasks → (task_at model i).name ≡ (task_at model j).name → i ≡ j
  task_once i j li lj same =
      let some : Some i ≡ Some j = sym (own_task model valid i li) ∙ ap (task_named model) same ∙ own_task model valid j lj in cc

  -- a name and numbers behind a first word
  named_once : (first : List ℕ) (i j n m : ℕ) (ns ms a b : List ℕ) → i < length model.tasks → j < length model.tasks → AreSmall (n ∷ ns) → AreSmall (m ∷ ms)
      → line (first ++ ((task_at model i).name ++ numbers (n ∷ ns))) ++ a ≡ line (first ++ ((task_at model j).name ++ numbers (m ∷ ms))) ++ b
      → (i ≡ j) × (n ∷ ns ≡ m ∷ ms) × (a ≡ b)
  named_once first i j n m ns ms a b li lj small other is =
      let name = (task_at model i).name in
      let other_name = (task_at model j).name in
      let behind = append_cancel_left first (name ++ (numbers (n ∷ ns) ++ 10 ∷ a)) (other_name ++ (numbers (m ∷ ms) ++ 10 ∷ b))
      (sym (split_line first name (numbers (n ∷ ns)) a) ∙ is ∙ split_line first other_name (numbers (m ∷ ms)) b) in
      let words = word_once name other_name ((decimal n ++ numbers ns) ++ 10 ∷ a) ((decimal m ++ numbers ms) ++ 10 ∷ b) 32 32
      (graphic_name name (named i li)) (graphic_name other_name (named j lj)) refl refl behind in
      let rest = numbers_once (n ∷ ns) (m ∷ ms) a b small other words.1 in
      (task_once i j li lj words.0, rest.0, rest.1)

  abbrev AreOne : (i j : Item) (a b : List ℕ) → Type 0
  AreOne i j a b = (i ≡ j) × (a ≡ b)

  jobs_once : (i j : ℕ) (job other : Job) → i ≡ j → job.arrival ∷ job.release ∷ job.times ≡ other.arrival ∷ other.release ∷ other.times → JobOf i job ≡ JobOf j other
  jobs_once i j job other task is =
      let arrival : job.arrival ≡ other.arrival = cc in
      let release : job.release ≡ other.release = cc in
      let times : job.times ≡ other.times = cc in
      ap (λ k. JobOf k job) task ∙ ap (JobOf j) (λ x. record { arrival = arrival x; release = release x; times = times x })

  runs_once : (i j from to start end : ℕ) → i ≡ j → from ∷ to ∷ [] ≡ start ∷ end ∷ [] → Runs i from to ≡ Runs j start end
  runs_once i j from to start end task is = cc

  same_tag : (i j : Item) (a b : List ℕ) → item_text model i ++ a ≡ item_text model j ++ b → tag i ≡ tag j
  same_tag i j a b is = sym (first_byte model i a) ∙ ap (λ l. get_or l 0 0) is ∙ first_byte model j b

  item_once : (i j : Item) (a b : List ℕ) → tag i ≡ tag j → IsSmallItem model i → IsSmallItem model j → item_text model i ++ a ≡ item_text model j ++ b → AreOne i j a b
  unfolding item_text
  item_once Title Title a b tags small other is = (refl, append_cancel_left (line (codes "chainlat trace 1")) a b is)
  item_once (Ticks n) (Ticks m) a b tags small other is =
      let one = numbers_once (n ∷ []) (m ∷ []) a b (All-cons (λ k. k < 2 ^ 64) n [] small (All-nil (λ k. k < 2 ^ 64))) (All-cons (λ k. k < 2 ^ 64) m [] other (All-nil (λ k. k < 2 ^ 64)))
      (append_cancel_left (codes "ticks") (numbers (n ∷ []) ++ 10 ∷ a) (numbers (m ∷ []) ++ 10 ∷ b)
      (sym (split_line [] (codes "ticks") (numbers (n ∷ [])) a) ∙ is ∙ split_line [] (codes "ticks") (numbers (m ∷ [])) b)) in
      let first : n ≡ m = one_number n m one.0 in
      (ap Ticks first, one.1)
    where
      one_number : (n m : ℕ) → n ∷ [] ≡ m ∷ [] → n ≡ m
      one_number n m is = cc
  item_once (JobOf i job) (JobOf j other_job) a b tags small other is =
      let one = named_once (codes "job ") i j job.arrival other_job.arrival (job.release ∷ job.times) (other_job.release ∷ other_job.times) a b small.0 other.0 small.1 other.1 is in
      (jobs_once i j job other_job one.0 one.1, one.2)
  item_once (Runs i from to) (Runs j start end) a b tags small other is =
      let one = named_once (codes "run ") i j from start (to ∷ []) (end ∷ []) a b small.0 other.0 small.1 other.1 is in
      (runs_once i j from to start end one.0 one.1, one.2)
  item_once End End a b tags small other is = (refl, append_cancel_left (line (codes "end")) a b is)
  item_once Title (Ticks n) a b tags small other is = absurd (omega (arith, tags))
  item_once Title (JobOf i job) a b tags small other is = absurd (omega (arith, tags))
  item_once Title (Runs i from to) a b tags small other is = absurd (omega (arith, tags))
  item_once Title End a b tags small other is = absurd (omega (arith, tags))
  item_once (Ticks n) Title a b tags small other is = absurd (omega (arith, tags))
  item_once (Ticks n) (JobOf i job) a b tags small other is = absurd (omega (arith, tags))
  item_once (Ticks n) (Runs i from to) a b tags small other is = absurd (omega (arith, tags))
  item_once (Ticks n) End a b tags small other is = absurd (omega (arith, tags))
  item_once (JobOf j other_job) Title a b tags small other is = absurd (omega (arith, tags))
  item_once (JobOf j other_job) (Ticks n) a b tags small other is = absurd (omega (arith, tags))
  item_once (JobOf j other_job) (Runs i from to) a b tags small other is = absurd (omega (arith, tags))
  item_once (JobOf j other_job) End a b tags small other is = absurd (omega (arith, tags))
  item_once (Runs j start end) Title a b tags small other is = absurd (omega (arith, tags))
  item_once (Runs j start end) (Ticks n) a b tags small other is = absurd (omega (arith, tags))
  item_once (Runs j start end) (JobOf i job) a b tags small other is = absurd (omega (arith, tags))
  item_once (Runs j start end) End a b tags small other is = absurd (omega (arith, tags))
  item_once End Title a b tags small other is = absurd (omega (arith, tags))
  item_once End (Ticks n) a b tags small other is = absurd (omega (arith, tags))
  item_once End (JobOf i job) a b tags small other is = absurd (omega (arith, tags))
  item_once End (Runs i from to) a b tags small other is = absurd (omega (arith, tags))

-- ---- lists of lines

abbrev pub IsBounded : List Item → Type 0
IsBounded before = (ticks : ℕ) → HasHead ticks before → ticks ≤ MOST_TRACE_TICKS

two_lists : (x y z w : Item) (xs ys : List Item) → x ∷ y ∷ xs ≡ z ∷ w ∷ ys → (x ≡ z) × (y ≡ w)
two_lists x y z w xs ys is = (first is, second is)
  where
    first : x ∷ y ∷ xs ≡ z ∷ w ∷ ys → x ≡ z
    first is = cc

    second : x ∷ y ∷ xs ≡ z ∷ w ∷ ys → y ≡ w
    second is = cc

too_short : (x y z : Item) (xs : List Item) → x ∷ [] ≡ y ∷ z ∷ xs → ⊥
too_short x y z xs is = omega (arith, ap length is)

module _ (model : SystemModel) where
  bounded_next : (before : List Item) (item : Item) → IsBounded before → MayStand model before item → IsBounded (before ++ item ∷ [])
  bounded_next [] item bounded stands = λ ticks head. absurd (too_short item Title (Ticks ticks) head.body head.head)
  bounded_next (x ∷ []) item bounded stands = λ ticks head.
      let same = two_lists x item Title (Ticks ticks) [] head.body head.head in
      (subst (MayStand model (x ∷ [])) same.1 stands).1
  bounded_next (x ∷ y ∷ bs) item bounded stands = λ ticks head.
      let same = two_lists x y Title (Ticks ticks) (bs ++ item ∷ []) head.body head.head in
      bounded ticks (record { body = bs; head = ap (λ i. i ∷ y ∷ bs) same.0 ∙ ap (λ i. Title ∷ i ∷ bs) same.1 })

  small_of : (before : List Item) (item : Item) → IsBounded before → MayStand model before item → IsSmallItem model item
  small_of before Title bounded stands = tt
  small_of before (Ticks n) bounded stands = omega (arith, stands.1)
  small_of before (JobOf task job) bounded stands = (
    stands.is_job.is_task,
    All-cons (λ k. k < 2 ^ 64) job.arrival (job.release ∷ job.times) (omega (arith, stands.is_job.in_range.arrival))
        (All-cons (λ k. k < 2 ^ 64) job.release job.times (omega (arith, stands.is_job.in_range.release)) (λ k d lt. omega (arith, stands.is_job.in_range.times k d lt))),
  )
  small_of before (Runs task from to) bounded stands =
      let most = bounded stands.ticks stands.head in (
        stands.is_task,
        All-cons (λ k. k < 2 ^ 64) from (to ∷ []) (omega (arith, stands.some, stands.in_time, most))
            (All-cons (λ k. k < 2 ^ 64) to [] (omega (arith, stands.in_time, most)) (All-nil (λ k. k < 2 ^ 64))),
      )
  small_of before End bounded stands = tt

  -- no line that may stand below these stands next
  abbrev pub IsStuck : (before : List Item) (rest : List ℕ) → Type 0
  IsStuck before rest = NoneStands (item_text model) (MayStand model before) rest

  line_first : (item : Item) (items : List Item) (rest : List ℕ) → text_of model (item ∷ items) ++ rest ≡ item_text model item ++ (text_of model items ++ rest)
  line_first item items rest = append_assoc (item_text model item) (text_of model items) rest

  pub lines_once : IsValid model → AreTasksNamed model → (items others before : List Item) (rest other_rest : List ℕ) → IsBounded before
      → AreGoodAfter model before items → AreGoodAfter model before others → text_of model items ++ rest ≡ text_of model others ++ other_rest
      → IsStuck (before ++ items) rest → IsStuck (before ++ others) other_rest → (items ≡ others) × (rest ≡ other_rest)
  lines_once valid named [] [] before rest other_rest bounded good other is stuck other_stuck = (refl, is)
  lines_once valid named [] (o ∷ os) before rest other_rest bounded good other is stuck other_stuck =
      absurd (stuck o (text_of model os ++ other_rest) (subst (λ b. MayStand model b o) (sym (append-nil before)) other.0) (is ∙ line_first o os other_rest))
  lines_once valid named (i ∷ is_more) [] before rest other_rest bounded good other is stuck other_stuck =
      absurd (other_stuck i (text_of model is_more ++ rest) (subst (λ b. MayStand model b i) (sym (append-nil before)) good.0) (sym is ∙ line_first i is_more rest))
  lines_once valid named (i ∷ items) (o ∷ os) before rest other_rest bounded good other is stuck other_stuck =
      let texts : item_text model i ++ (text_of model items ++ rest) ≡ item_text model o ++ (text_of model os ++ other_rest)
      = sym (line_first i items rest) ∙ is ∙ line_first o os other_rest in
      let one = item_once model valid named i o (text_of model items ++ rest) (text_of model os ++ other_rest)
      (same_tag model valid named i o (text_of model items ++ rest) (text_of model os ++ other_rest) texts)
      (small_of before i bounded good.0) (small_of before o bounded other.0) texts in
      let more = lines_once valid named items os (before ++ i ∷ []) rest other_rest (bounded_next before i bounded good.0) good.1
      (subst (λ x. AreGoodAfter model (before ++ x ∷ []) os) (sym one.0) other.1) one.1
      (subst (λ b. IsStuck b rest) (sym (append_assoc before (i ∷ []) items)) stuck)
      (subst (λ b. IsStuck b other_rest) (sym (append_assoc before (i ∷ []) os)) (subst (λ x. IsStuck (before ++ x ∷ os) other_rest) (sym one.0) other_stuck)) in
      (ap (λ x. x ∷ items) one.0 ∙ ap (λ xs. o ∷ xs) more.0, more.1)

pub tasks_named : (model : SystemModel) → AreNamed model → AreTasksNamed model
tasks_named model named task lt = (named.tasks task no_task lt).name

stuck_once : (model : SystemModel) → IsValid model → AreNamed model → (text : List ℕ) (one other : ℕ) → IsStuckAt model text one → IsStuckAt model text other
    → one ≡ other
stuck_once model valid named text one other first second =
    let same = lines_once model valid (tasks_named model named) first.items second.items [] first.rest second.rest (λ ticks head. absurd (too_few ticks head.body head.head))
    first.good second.good (sym first.parts ∙ second.parts) first.bad second.bad in
    first.counted ∙ ap (λ items. suc (length items)) same.0 ∙ sym second.counted
  where
    too_few : (ticks : ℕ) (body : List Item) → [] ≡ Title ∷ Ticks ticks ∷ body → ⊥
    too_few ticks body is = omega (arith, ap length is)

pub bad_once : (model : SystemModel) → IsValid model → AreNamed model → (text : List ℕ) (one other : ℕ)
    → IsBadTraceLine model text one → IsBadTraceLine model text other → one ≡ other
bad_once model valid named text one other first second =
    stuck_once model valid named text one other (stuck_of model text one first) (stuck_of model text other second)
