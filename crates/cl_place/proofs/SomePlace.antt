-- There is a place in each document, and a row and a column behind each text.
use Rattle.std.proofs.Common.{◌≡◌, ℕ, zero, suc, ◌+◌, ◌-◌, ◌<◌, ◌≤◌, inl, inr, Bool, true, false, ◌&&◌, ◌==◌, cond, List, [], ◌∷◌, length, drop, refl, sym, ap, ◌∙◌, arith}
use Rattle.std.specs.Prelude.{slice_index, count_by}
use Rattle.std.proofs.lemmas.Bool.{eqb-true}
use Rattle.toml.specs.Parse.{skip_bom}
use Rattle.toml_parser.specs.Lexical.{line_feed}
use Rattle.cl_place.specs.{Places.{has_mark, IsFront, IsPlaceIn}, Positions.{is_line_feed, begins_character, BeginsLastRow, IsBehind}}

-- ---- the front

abbrev pub front_of : (document : List ℕ) → ℕ
front_of document = cond (has_mark document) 3 0

both_last : (one other : Bool) → (one && other) ≡ true → other ≡ true
both_last true other h = h
both_last false other h = absurd (cc)

three_long : (document : List ℕ) → (slice_index document 2 == 0xBF) ≡ true → 3 ≤ length document
three_long [] is = absurd (cc)
three_long (a ∷ []) is = absurd (cc)
three_long (a ∷ b ∷ []) is = absurd (cc)
three_long (a ∷ b ∷ c ∷ rest) is = omega arith

within_if : (mark : Bool) (n : ℕ) → (mark ≡ true → 3 ≤ n) → cond mark 3 0 ≤ n
within_if true n long = long refl
within_if false n long = omega arith

front_if : (mark : Bool) (document : List ℕ) → drop (cond mark 3 0) document ≡ cond mark (drop 3 document) document
front_if true document = refl
front_if false document = refl

front_is : (document : List ℕ) → IsFront document (front_of document)
unfolding skip_bom
front_is document = front_if (has_mark document) document

-- the front by what is known of the mark
pub front_by_mark : (document : List ℕ) (mark : Bool) → has_mark document ≡ mark → drop (cond mark 3 0) document ≡ skip_bom document
front_by_mark document mark is = ap (λ (b : Bool). drop (cond b 3 0) document) (sym is) ∙ front_is document

pub long_by_mark : (document : List ℕ) → has_mark document ≡ true → 3 ≤ length document
long_by_mark document is = three_long document (both_last (slice_index document 0 == 0xEF && slice_index document 1 == 0xBB) (slice_index document 2 == 0xBF) is)

pub front_is_place : (document : List ℕ) → IsPlaceIn document (front_of document)
front_is_place document = record {
  within = within_if (has_mark document) (length document) (long_by_mark document);
  begins = inl (front_is document);
}

-- ---- rows and columns

-- where the last row begins with one byte more in front: a line feed, or another
abbrev onward : (feed : Bool) → ℕ → ℕ
onward true zero = 1
onward false zero = 0
onward feed (suc n) = suc (suc n)

no_less : (n : ℕ) → 0 ≤ n
no_less n = omega arith

one_more : (n : ℕ) → 1 ≤ suc n
one_more n = omega arith

abbrev row_start : (bytes : List ℕ) → ℕ
row_start [] = 0
row_start (byte ∷ bytes) = onward (is_line_feed byte) (row_start bytes)

module _ (byte : ℕ) (bytes : List ℕ) where
  last_behind : (start : ℕ) → BeginsLastRow bytes start → (k : ℕ) → suc start ≤ k → k < length (byte ∷ bytes) → slice_index (byte ∷ bytes) k ≡ line_feed → ⊥
  last_behind start row zero low high is = absurd (omega (arith, low))
  last_behind start row (suc k) low high is = row.last k (omega (arith, low)) (omega (arith, high)) is

  last_whole : is_line_feed byte ≡ false → BeginsLastRow bytes 0 → (k : ℕ) → 0 ≤ k → k < length (byte ∷ bytes) → slice_index (byte ∷ bytes) k ≡ line_feed → ⊥
  last_whole other row zero low high is = absurd (cc)
  last_whole other row (suc k) low high is = row.last k (omega arith) (omega (arith, high)) is

  feed_behind : (n : ℕ) → slice_index bytes (suc n - 1) ≡ line_feed → slice_index (byte ∷ bytes) (suc (suc n) - 1) ≡ line_feed
  feed_behind n at =
      let here : suc n - 1 ≡ n = omega arith in
      let next : suc (suc n) - 1 ≡ suc n = omega arith in
      ap (slice_index (byte ∷ bytes)) next ∙ sym (ap (slice_index bytes) here) ∙ at

  begins_onward : (feed : Bool) → is_line_feed byte ≡ feed → (start : ℕ) → BeginsLastRow bytes start → BeginsLastRow (byte ∷ bytes) (onward feed start)
  begins_onward true is zero row =
      record { within = one_more (length bytes); behind = inr (eqb-true byte line_feed is); last = last_behind zero row }
  begins_onward false is zero row = record { within = no_less (length (byte ∷ bytes)); behind = inl refl; last = last_whole is row }
  begins_onward feed is (suc n) row =
      record { within = omega (arith, row.within); behind = elim row.behind [ inl none ↦ absurd (omega (arith, none)) | inr at ↦ inr (feed_behind n at) ]; last = last_behind (suc n) row }

row_begins : (bytes : List ℕ) → BeginsLastRow bytes (row_start bytes)
row_begins [] = record { within = no_less 0; behind = inl refl; last = λ k low high is. omega (arith, high) }
row_begins (byte ∷ bytes) = begins_onward byte bytes (is_line_feed byte) refl (row_start bytes) (row_begins bytes)

abbrev pub row_of : (bytes : List ℕ) → ℕ
row_of bytes = count_by is_line_feed bytes + 1

abbrev pub column_of : (bytes : List ℕ) → ℕ
column_of bytes = count_by begins_character (skip_bom (drop (row_start bytes) bytes)) + 1

pub is_behind : (bytes : List ℕ) → IsBehind bytes (row_of bytes) (column_of bytes)
is_behind bytes = record { start = row_start bytes; begins = row_begins bytes; rows = refl; columns = refl }
