-- Good lines end as often as they are.
use Rattle.std.proofs.Common.{◌≡◌, ℕ, suc, ◌+◌, ◌-◌, ◌^◌, ◌<◌, ◌≤◌, true, eqb, cond, List, [], ◌∷◌, ◌++◌, length, length-append, take, refl, sym, ap, ◌∙◌, arith}
use Rattle.std.specs.Prelude.{decimal}
use Rattle.std.specs.List.{All, AllPass}
use Rattle.std.proofs.lemmas.Bool.Decides.{nat_tests}
use Rattle.std.proofs.lemmas.List.{take_at}
use Rattle.std.proofs.lemmas.List.Elements.{All-head, All-tail, All-nil, All-cons}
use Rattle.std.proofs.lemmas.List.Sums.{sum_by-append}
use Rattle.cl_model.specs.{declared.model.SystemModel.SystemModel, ByNumber.task_at}
use Rattle.cl_text.specs.Line.{is_graphic}
use Rattle.cl_text.proofs.LineLemmas.{graphic_decimal}
use Rattle.cl_trace.specs.{declared.limits.TheConstants.{MOST_TRACE_TICKS, MOST_TRACE_NUMBER}, Trace.{Item, Title, Ticks, JobOf, Runs, End, numbers, item_words, item_text, text_of}, Rules.{HasHead, MayStand, AreGoodAfter}, Inner.Pieces.{AreTasksNamed, newlines}}
use Rattle.cl_trace.proofs.{PieceFacts.graphic_name, GoodLines.head_stays}

-- whether a byte ends a line, as a number
abbrev count : ℕ → ℕ
count byte = cond (eqb byte 10) 1 0

pub newlines_append : (xs ys : List ℕ) → newlines (xs ++ ys) ≡ newlines xs + newlines ys
newlines_append xs ys = sum_by-append count xs ys

graphic_no_end : (byte : ℕ) → is_graphic byte ≡ true → count byte ≡ 0
graphic_no_end byte is = grind (arith, nat_tests)

-- no line ends in a word
none_in_word : (word : List ℕ) → AllPass is_graphic word → newlines word ≡ 0
none_in_word [] all = refl
none_in_word (byte ∷ word) all =
    omega (arith, newlines_append (byte ∷ []) word, graphic_no_end byte (All-head (λ b. is_graphic b ≡ true) byte word all), none_in_word word (All-tail (λ b. is_graphic b ≡ true) byte word all))

none_in_numbers : (ns : List ℕ) → All (λ n. n < 2 ^ 64) ns → newlines (numbers ns) ≡ 0
none_in_numbers [] all = refl
none_in_numbers (n ∷ ns) all = omega (
  arith,
  newlines_append (decimal n) (numbers ns),
  none_in_word (decimal n) (graphic_decimal n (All-head (λ n. n < 2 ^ 64) n ns all)),
  none_in_numbers ns (All-tail (λ n. n < 2 ^ 64) n ns all),
)

-- nor in a name with numbers behind it
none_in_words : (name ns : List ℕ) → AllPass is_graphic name → All (λ n. n < 2 ^ 64) ns → newlines (name ++ numbers ns) ≡ 0
none_in_words name ns graphic small = omega (arith, newlines_append name (numbers ns), none_in_word name graphic, none_in_numbers ns small)

small_times : (times : List ℕ) → All (λ time. time ≤ MOST_TRACE_NUMBER) times → All (λ n. n < 2 ^ 64) times
small_times times all k d lt = omega (arith, all k d lt)

two_small : (m n : ℕ) (ns : List ℕ) → m < 2 ^ 64 → n < 2 ^ 64 → All (λ k. k < 2 ^ 64) ns → All (λ k. k < 2 ^ 64) (m ∷ n ∷ ns)
two_small m n ns first second rest = All-cons (λ k. k < 2 ^ 64) m (n ∷ ns) first (All-cons (λ k. k < 2 ^ 64) n ns second rest)

pub same_ticks : (ticks other : ℕ) (before : List Item) → HasHead ticks before → HasHead other before → other ≡ ticks
same_ticks ticks other before one two = by_lists one.body two.body (sym one.head ∙ two.head)
  where
    by_lists : (xs ys : List Item) → Title ∷ Ticks ticks ∷ xs ≡ Title ∷ Ticks other ∷ ys → other ≡ ticks
    by_lists xs ys is = cc

-- the two first lines end once each
pub title_end : (model : SystemModel) → newlines (item_text model Title) ≡ 1
unfolding item_text
title_end model = refl

pub last_end : (model : SystemModel) → newlines (item_text model End) ≡ 1
unfolding item_text
last_end model = refl

pub ticks_end : (model : SystemModel) (n : ℕ) → n ≤ MOST_TRACE_TICKS → newlines (item_text model (Ticks n)) ≡ 1
unfolding item_text
ticks_end model n most =
    omega (arith, newlines_append (item_words model (Ticks n)) (10 ∷ []), none_in_numbers (n ∷ []) (All-cons (λ k. k < 2 ^ 64) n [] (omega (arith, most)) (All-nil (λ k. k < 2 ^ 64))))

module _ (model : SystemModel) (named : AreTasksNamed model) (ticks : ℕ) (most : ticks ≤ MOST_TRACE_TICKS) where
  -- a good line ends once
  one_end : (before : List Item) (item : Item) → HasHead ticks before → MayStand model before item → newlines (item_text model item) ≡ 1
  unfolding item_text
  one_end before Title head stands = refl
  one_end before (Ticks n) head stands = ticks_end model n stands.1
  one_end before (JobOf task job) head stands =
      omega (
        arith,
        newlines_append (item_words model (JobOf task job)) (10 ∷ []),
        none_in_words (task_at model task).name (job.arrival ∷ job.release ∷ job.times) (graphic_name (task_at model task).name (named task stands.is_job.is_task))
            (two_small job.arrival job.release job.times (omega (arith, stands.is_job.in_range.arrival)) (omega (arith, stands.is_job.in_range.release)) (small_times job.times stands.is_job.in_range.times)),
      )
  one_end before (Runs task from to) head stands =
      let same : stands.ticks ≡ ticks = same_ticks ticks stands.ticks before head stands.head in
      omega (
        arith,
        newlines_append (item_words model (Runs task from to)) (10 ∷ []),
        none_in_words (task_at model task).name (from ∷ to ∷ []) (graphic_name (task_at model task).name (named task stands.is_task))
            (two_small from to [] (omega (arith, stands.some, stands.in_time, same, most)) (omega (arith, stands.in_time, same, most)) (All-nil (λ k. k < 2 ^ 64))),
      )
  one_end before End head stands = refl

  pub ends_of_good : (items before : List Item) → HasHead ticks before → AreGoodAfter model before items → newlines (text_of model items) ≡ length items
  ends_of_good [] before head good = refl
  ends_of_good (item ∷ items) before head good =
      omega (
        arith,
        newlines_append (item_text model item) (text_of model items),
        one_end before item head good.0,
        ends_of_good items (before ++ item ∷ []) (head_stays ticks before (item ∷ []) head) good.1,
      )

-- the number of the line that what is left begins with
pub number_of_left : (text read left : List ℕ) (count : ℕ) → text ≡ read ++ left → newlines read ≡ count
    → newlines (take (length text - length left) text) + 1 ≡ suc count
number_of_left text read left count is ends =
    let size : length read ≡ length text - length left = omega (arith, ap length is, length-append read left) in
    let taken : take (length text - length left) text ≡ read
    = ap (take (length text - length left)) is ∙ take_at read left (length text - length left) size in
    omega (arith, ap newlines taken, ends)
