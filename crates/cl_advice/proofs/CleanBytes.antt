-- What is shown of bytes is printable ASCII and has room.
use Rattle.std.proofs.Common.{◌≡◌, ℕ, ◌+◌, ◌-◌, ◌/◌, ◌%◌, ◌<◌, ◌≤◌, Bool, true, false, cond, List, [], ◌∷◌, ◌++◌, length, refl, ap, ◌∙◌, arith, inl, inr, length-append}
use Rattle.std.proofs.Math.Nat.{mod-lt}
use Rattle.std.proofs.lemmas.Bool.{cases_lt, le-leb, lt-leb}
use Rattle.std.proofs.lemmas.Bool.Decides.{nat_tests}
use Rattle.std.proofs.lemmas.List.Folds.{list_all-append}
use Rattle.std.proofs.lemmas.List.Sums.{AllPass-from_list_all}
use Rattle.std.specs.List.{AllPass, list_all, flat_map}
use Rattle.std.specs.Prelude.{codes, nat_le}
use Rattle.cl_advice.specs.{declared.shown.TheConstants.{MOST_SHOWN, MOST_QUOTED}, Shown.{is_printable, is_plain, hex_digit, shown_byte, shown_in, shown, quoted}}

-- all bytes are printable
abbrev pub Printable : List ℕ → Type 0
Printable bytes = list_all is_printable bytes ≡ true

pub printable_both : (a b : List ℕ) → Printable a → Printable b → Printable (a ++ b)
printable_both a b ha hb = list_all-append is_printable a b ∙ rw (ha, hb) refl

printable_chosen : (t : Bool) (a b : List ℕ) → Printable a → Printable b → Printable (cond t a b)
printable_chosen true a b ha hb = ha
printable_chosen false a b ha hb = hb

-- ---- a byte

glyph : (n : ℕ) → n < 16 → is_printable (hex_digit n) ≡ true
glyph n lt = grind (arith, nat_tests, lt)

plain : (b : ℕ) → is_plain b ≡ true → is_printable b ≡ true
plain b is = grind (arith, nat_tests, is)

shown_plain : (b : ℕ) (t : Bool) → is_plain b ≡ t → Printable (cond t (b ∷ []) (0x5C ∷ 0x78 ∷ hex_digit (b / 16 % 16) ∷ hex_digit (b % 16) ∷ []))
shown_plain b true is = rw (plain b is) refl
shown_plain b false is = rw (glyph (b / 16 % 16) (mod-lt (b / 16) (omega arith)), glyph (b % 16) (mod-lt b (omega arith))) refl

pub byte_printable : (b : ℕ) → Printable (shown_byte b)
byte_printable b = shown_plain b (is_plain b) refl

-- ---- bytes

pub shown_printable : (bytes : List ℕ) (room : ℕ) → Printable (shown_in room bytes)
shown_printable [] room = refl
shown_printable (b ∷ bytes) room =
    printable_chosen (nat_le (length (shown_byte b)) room) (shown_byte b ++ shown_in (room - length (shown_byte b)) bytes) (codes "..")
    (printable_both (shown_byte b) (shown_in (room - length (shown_byte b)) bytes) (byte_printable b) (shown_printable bytes (room - length (shown_byte b)))) refl

-- what has no room is cut
pub shown_short : (bytes : List ℕ) (room : ℕ) → length (shown_in room bytes) ≤ room + 2
shown_short [] room = omega arith
shown_short (b ∷ bytes) room =
    elim (cases_lt room (length (shown_byte b))) [
      | inl less ↦ rw (lt-leb (length (shown_byte b)) room less) (omega arith)
      | inr more ↦
          let left : ℕ = room - length (shown_byte b) in
          let rest : length (shown_in left bytes) ≤ left + 2 = shown_short bytes left in
          rw (le-leb (length (shown_byte b)) room more, length-append (shown_byte b) (shown_in left bytes)) (omega (arith, rest, more))
    ]

-- what has room is shown whole
pub shown_whole : (bytes : List ℕ) (room : ℕ) → length (flat_map shown_byte bytes) ≤ room → shown_in room bytes ≡ flat_map shown_byte bytes
shown_whole [] room fits = refl
shown_whole (b ∷ bytes) room fits =
    let long : length (shown_byte b) + length (flat_map shown_byte bytes) ≤ room = rw (length-append (shown_byte b) (flat_map shown_byte bytes)) at fits in
    rw (le-leb (length (shown_byte b)) room (omega (arith, long)))
    (ap (λ (rest : List ℕ). shown_byte b ++ rest) (shown_whole bytes (room - length (shown_byte b)) (omega (arith, long))))

-- ---- texts and strings

pub text_printable : (bytes : List ℕ) → AllPass is_printable (shown bytes)
text_printable bytes = AllPass-from_list_all is_printable (shown bytes) (shown_printable bytes MOST_SHOWN)

pub printable_quoted : (bytes : List ℕ) → Printable (quoted bytes)
printable_quoted bytes = printable_both (0x22 ∷ shown_in MOST_QUOTED bytes) (0x22 ∷ []) (shown_printable bytes MOST_QUOTED) refl

pub string_printable : (bytes : List ℕ) → AllPass is_printable (quoted bytes)
string_printable bytes = AllPass-from_list_all is_printable (quoted bytes) (printable_quoted bytes)

pub string_short : (bytes : List ℕ) → length (quoted bytes) ≤ MOST_SHOWN + 2
string_short bytes = rw (length-append (0x22 ∷ shown_in MOST_QUOTED bytes) (0x22 ∷ [])) (omega (arith, shown_short bytes MOST_QUOTED))

pub string_whole : (bytes : List ℕ) → length (flat_map shown_byte bytes) ≤ MOST_QUOTED
    → quoted bytes ≡ 0x22 ∷ flat_map shown_byte bytes ++ 0x22 ∷ []
string_whole bytes fits = ap (λ (inner : List ℕ). 0x22 ∷ inner ++ 0x22 ∷ []) (shown_whole bytes MOST_QUOTED fits)
