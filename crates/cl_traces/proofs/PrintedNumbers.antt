-- A word that is read as a printed number is the number that its digits write.
use Rattle.std.proofs.Common.{◌≡◌, ◌≢◌, ℕ, ◌^◌, ◌<◌, ◌≤◌, ◌-◌, Bool, true, ◌&&◌, nat_lt, Option, Some, None, List, inl, inr, sym, ap, ◌∙◌, arith}
use Rattle.std.specs.Prelude.{IfSome, IfNone, decimal}
use Rattle.std.specs.Str.{bytes_eq}
use Rattle.std.specs.Str.Parse.{digits_value}
use Rattle.std.proofs.lemmas.Bool.{cases_Bool, and_parts, and_from, cond-true, cond-false, ltb-true, lt-ltb}
use Rattle.std.proofs.lemmas.Slice.Eq.{bytes_eq-Decides}
use Rattle.cl_text.proofs.DecimalLemmas.{numeral_of_decimal}
use Rattle.cl_traces.specs.TraceLines.{printed_number}

abbrev value : List ℕ → ℕ
value word = digits_value 10 word

abbrev is_printed : List ℕ → Bool
is_printed word = nat_lt (value word) (2 ^ 64) && bytes_eq word (decimal (value word))

-- a printed number of 64 bits
printed : (word : List ℕ) (n : ℕ) → n < 2 ^ 64 → word ≡ decimal n → Some n ≡ printed_number word
printed word n small is =
    let wrote : value word ≡ n = (numeral_of_decimal word n small is).1 in
    let fits : nat_lt (value word) (2 ^ 64) ≡ true = lt-ltb (value word) (2 ^ 64) (omega (arith, wrote, small)) in
    let same : bytes_eq word (decimal (value word)) ≡ true
    = (bytes_eq-Decides word (decimal (value word))).1 (is ∙ ap decimal (sym wrote)) in
    ap Some (sym wrote) ∙ sym (cond-true (is_printed word) (Some (value word)) None (and_from _ _ fits same))

-- another word
unprinted : (word : List ℕ) → ((n : ℕ) → n < 2 ^ 64 → word ≢ decimal n) → None ≡ printed_number word
unprinted word none = elim (cases_Bool (is_printed word)) [
  | inl is ↦
      let both = and_parts (nat_lt (value word) (2 ^ 64)) (bytes_eq word (decimal (value word))) is in
      absurd (none (value word) (ltb-true (value word) (2 ^ 64) both.0) ((bytes_eq-Decides word (decimal (value word))).0 both.1))
  | inr other ↦ sym (cond-false (is_printed word) (Some (value word)) None other)
]

pub read_is_printed : (word : List ℕ) (read : Option ℕ) → IfSome read (λ n. (word ≡ decimal n) × (n ≤ 2 ^ 64 - 1))
    → IfNone read ((n : ℕ) → n ≤ 2 ^ 64 - 1 → word ≢ decimal n) → read ≡ printed_number word
read_is_printed word (Some n) some none = printed word n (omega (arith, some.1)) some.0
read_is_printed word None some none = unprinted word (λ n small. none n (omega (arith, small)))
