-- Lines at the beginning of a text: what a number, and then more of them, leave.
use Rattle.std.proofs.Common.{◌≡◌, ℕ, ◌+◌, ◌<◌, ◌≤◌, false, List, [], ◌∷◌, ◌++◌, length, length-append, refl, sym, ap, ◌∙◌, subst, arith, append_assoc}
use Rattle.std.specs.Prelude.{decimal, All}
use Rattle.std.proofs.lemmas.List.{append-nil, append_cancel_left}
use Rattle.std.proofs.lemmas.List.Elements.{All-nil, All-cons, All-head, All-tail, All-append}
use Rattle.std.proofs.lemmas.Grind.{flat_map-append}
use Rattle.cl_text.specs.Line.{is_graphic, line}
use Rattle.cl_trace.specs.{declared.limits.TheConstants.MOST_TRACE_NUMBER, Trace.{number_text, numbers}, Inner.Pieces.AreTimes}

-- a number before more of them
pub numbers_first : (n : ℕ) (more tail : List ℕ) → numbers (n ∷ more) ++ tail ≡ number_text n ++ (numbers more ++ tail)
numbers_first n more tail = append_assoc (number_text n) (numbers more) tail

pub two_and_more : (m n : ℕ) (more rest : List ℕ) → numbers (m ∷ n ∷ []) ++ (numbers more ++ rest) ≡ numbers (m ∷ n ∷ more) ++ rest
two_and_more m n more rest =
    numbers_first m (n ∷ []) (numbers more ++ rest) ∙ ap (λ t. number_text m ++ t) (numbers_first n [] (numbers more ++ rest) ∙ sym (numbers_first n more rest))
    ∙ sym (numbers_first m (n ∷ more) rest)

-- what holds wherever a number stands before another byte holds where it stands before more numbers and the line's end
pub before_more : (P : ℕ → List ℕ → Type 0) (most : ℕ) (text : List ℕ)
    → ((n byte : ℕ) (rest : List ℕ) → n ≤ most → is_graphic byte ≡ false → text ≡ number_text n ++ byte ∷ rest → P n (byte ∷ rest))
    → (n : ℕ) (more rest : List ℕ) → n ≤ most → text ≡ numbers (n ∷ more) ++ 10 ∷ rest → P n (numbers more ++ 10 ∷ rest)
before_more P most text only n [] rest within is = only n 10 rest within refl (is ∙ numbers_first n [] (10 ∷ rest))
before_more P most text only n (m ∷ more) rest within is =
    only n 32 ((decimal m ++ numbers more) ++ 10 ∷ rest) within refl (is ∙ numbers_first n (m ∷ more) (10 ∷ rest))

-- every list of times that fits the text is those that were read and more that fit what is left
pub record Splits (times left all rest : List ℕ) : Type 0 where
  pub more : List ℕ
  pub whole : all ≡ times ++ more
  pub left_is : left ≡ numbers more ++ 10 ∷ rest

pub record Fits (count : ℕ) (text times left : List ℕ) : Type 0 where
  pub splits : (all rest : List ℕ) → AreTimes count text all (10 ∷ rest) → Splits times left all rest

-- none were read
pub fits_none : (count : ℕ) (text : List ℕ) → Fits count text [] text
fits_none count text = record { splits = λ all rest are. record { more = all; whole = refl; left_is = are.parts } }

pub times_none : (text : List ℕ) → AreTimes 0 text [] text
times_none text = record { size = refl; in_range = All-nil (λ time. time ≤ MOST_TRACE_NUMBER); parts = refl }

module _ (count : ℕ) (text times left : List ℕ) (fits : Fits count text times left) where
  -- where fewer were read, no list fits unless another number stands next
  pub next_stands : (all rest : List ℕ) → length times < count → AreTimes count text all (10 ∷ rest)
      → (m : ℕ) × (more : List ℕ) × (all ≡ times ++ m ∷ more) × (left ≡ numbers (m ∷ more) ++ 10 ∷ rest) × (m ≤ MOST_TRACE_NUMBER)
  next_stands all rest short are = by_more split.more split.whole split.left_is
    where
      split : Splits times left all rest
      split = fits.splits all rest are

      by_more : (more : List ℕ) → all ≡ times ++ more → left ≡ numbers more ++ 10 ∷ rest
          → (m : ℕ) × (more : List ℕ) × (all ≡ times ++ m ∷ more) × (left ≡ numbers (m ∷ more) ++ 10 ∷ rest) × (m ≤ MOST_TRACE_NUMBER)
      by_more [] whole left_is = absurd (omega (arith, are.size, ap length whole, length-append times [], short))
      by_more (m ∷ more) whole left_is = (
        m,
        more,
        whole,
        left_is,
        All-head (λ time. time ≤ MOST_TRACE_NUMBER) m more
            (All-suffix times (m ∷ more) (subst (All (λ time. time ≤ MOST_TRACE_NUMBER)) whole are.in_range)),
      )
        where
          All-suffix : (xs ys : List ℕ) → All (λ time. time ≤ MOST_TRACE_NUMBER) (xs ++ ys) → All (λ time. time ≤ MOST_TRACE_NUMBER) ys
          All-suffix [] ys all = all
          All-suffix (x ∷ xs) ys all = All-suffix xs ys (All-tail (λ time. time ≤ MOST_TRACE_NUMBER) x (xs ++ ys) all)

  -- one more was read
  pub fits_more : (time : ℕ) (behind : List ℕ) → length times < count
      → ((n byte : ℕ) (rest : List ℕ) → n ≤ MOST_TRACE_NUMBER → is_graphic byte ≡ false → left ≡ number_text n ++ byte ∷ rest → (time ≡ n) × (behind ≡ byte ∷ rest))
      → Fits count text (times ++ time ∷ []) behind
  fits_more time behind short only = record { splits = λ all rest are. by_next all rest (next_stands all rest short are) }
    where
      by_next : (all rest : List ℕ)
          → (m : ℕ) × (more : List ℕ) × (all ≡ times ++ m ∷ more) × (left ≡ numbers (m ∷ more) ++ 10 ∷ rest) × (m ≤ MOST_TRACE_NUMBER)
          → Splits (times ++ time ∷ []) behind all rest
      by_next all rest (m, more, whole, left_is, within) =
          let read = before_more (λ n rest. (time ≡ n) × (behind ≡ rest)) MOST_TRACE_NUMBER left only m more rest within left_is in
          record {
            more = more;
            whole = whole ∙ ap (λ x. times ++ x ∷ more) (sym read.0) ∙ sym (append_assoc times (time ∷ []) more);
            left_is = read.1;
          }

  -- all were read
  pub fits_all : count ≤ length times → (all rest : List ℕ) → AreTimes count text all (10 ∷ rest) → (times ≡ all) × (left ≡ 10 ∷ rest)
  fits_all full all rest are = by_more split.more split.whole split.left_is
    where
      split : Splits times left all rest
      split = fits.splits all rest are

      by_more : (more : List ℕ) → all ≡ times ++ more → left ≡ numbers more ++ 10 ∷ rest → (times ≡ all) × (left ≡ 10 ∷ rest)
      by_more [] whole left_is = (sym (whole ∙ append-nil times), left_is)
      by_more (m ∷ more) whole left_is = absurd (omega (arith, are.size, ap length whole, length-append times (m ∷ more), full))

pub times_more : (i : ℕ) (text times left behind : List ℕ) (time : ℕ) → AreTimes i text times left → time ≤ MOST_TRACE_NUMBER
    → left ≡ number_text time ++ behind → AreTimes (i + 1) text (times ++ time ∷ []) behind
times_more i text times left behind time are within is = record {
  size = omega (arith, length-append times (time ∷ []), are.size);
  in_range = All-append (λ time. time ≤ MOST_TRACE_NUMBER) times (time ∷ []) are.in_range
      (All-cons (λ time. time ≤ MOST_TRACE_NUMBER) time [] within (All-nil (λ time. time ≤ MOST_TRACE_NUMBER)));
  parts = are.parts ∙ ap (λ t. numbers times ++ t) is ∙ sym (append_assoc (numbers times) (number_text time) behind)
      ∙ ap (λ t. t ++ behind) (sym (numbers_more times time));
}
  where
    numbers_more : (times : List ℕ) (time : ℕ) → numbers (times ++ time ∷ []) ≡ numbers times ++ number_text time
    numbers_more times time = flat_map-append number_text times (time ∷ []) ∙ ap (λ t. numbers times ++ t) (append-nil (number_text time))

-- ---- whole lines

line_then : (words rest : List ℕ) → line words ++ rest ≡ words ++ 10 ∷ rest
line_then words rest = append_assoc words (10 ∷ []) rest

pub split_line : (first name ns rest : List ℕ) → line (first ++ (name ++ ns)) ++ rest ≡ first ++ (name ++ (ns ++ 10 ∷ rest))
split_line first name ns rest =
    line_then (first ++ (name ++ ns)) rest ∙ append_assoc first (name ++ ns) (10 ∷ rest) ∙ ap (λ t. first ++ t) (append_assoc name ns (10 ∷ rest))

-- what stands behind the first word of a line
pub behind_word : (first behind name ns rest : List ℕ) → first ++ behind ≡ line (first ++ (name ++ ns)) ++ rest → behind ≡ name ++ (ns ++ 10 ∷ rest)
behind_word first behind name ns rest is = append_cancel_left first behind (name ++ (ns ++ 10 ∷ rest)) (is ∙ split_line first name ns rest)

-- and the other way
pub whole_line : (text first behind name behind_name ns behind_ns rest : List ℕ) → text ≡ first ++ behind → behind ≡ name ++ behind_name
    → behind_name ≡ ns ++ behind_ns → behind_ns ≡ 10 ∷ rest → text ≡ line (first ++ (name ++ ns)) ++ rest
whole_line text first behind name behind_name ns behind_ns rest is name_is ns_is end_is =
    is ∙ ap (λ t. first ++ t) (name_is ∙ ap (λ t. name ++ t) (ns_is ∙ ap (λ t. ns ++ t) end_is)) ∙ sym (split_line first name ns rest)
