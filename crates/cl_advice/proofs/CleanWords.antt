-- Words that are printable ASCII: numbers, names, keys and parts.
use Rattle.std.proofs.Common.{◌≡◌, ℕ, zero, suc, ◌/◌, ◌%◌, ◌<◌, Bool, true, false, ◌==◌, cond, List, [], ◌∷◌, ◌++◌, map, ℤ, pos, negsuc, refl, ◌∙◌, arith}
use Rattle.std.proofs.Math.Nat.{mod-lt}
use Rattle.std.proofs.lemmas.Bool.Decides.{nat_tests}
use Rattle.std.proofs.lemmas.List.Folds.{list_all-append}
use Rattle.std.specs.Fmt.{decimal, signed_decimal, digits, digits_onto, digit_glyph}
use Rattle.std.specs.List.{list_all, flat_map}
use Rattle.std.specs.Prelude.{codes}
use Rattle.cl_text.specs.Line.{line}
use Rattle.cl_model.specs.{declared.place.{Part.Part, Key.Key}, Name.{is_name_byte, is_name, IsName}, Place.{part_text, key_text}}
use Rattle.cl_model.specs.declared.place.Part.TheVariants as part
use Rattle.cl_model.specs.declared.place.Key.TheVariants as key
use Rattle.cl_model.proofs.{ListFacts.both_pass, Names.name_bytes}
use Rattle.cl_advice.specs.{Shown.{is_printable, is_printed, shown, quoted}, Wanted.{one_of, joined}, declared.shown.TheConstants.MOST_SHOWN}
use Rattle.cl_advice.proofs.CleanBytes.{shown_printable, printable_quoted}

-- all bytes are printable ASCII or ends of lines
abbrev pub Printed : List ℕ → Type 0
Printed bytes = list_all is_printed bytes ≡ true

-- ---- texts from texts

pub printed_both : (a b : List ℕ) → Printed a → Printed b → Printed (a ++ b)
printed_both a b ha hb = list_all-append is_printed a b ∙ rw (ha, hb) refl

pub printed_next : (b : ℕ) (bytes : List ℕ) → is_printed b ≡ true → Printed bytes → Printed (b ∷ bytes)
printed_next b bytes hb h = rw (hb, h) refl

pub printed_chosen : (t : Bool) (a b : List ℕ) → Printed a → Printed b → Printed (cond t a b)
printed_chosen true a b ha hb = ha
printed_chosen false a b ha hb = hb

pub printed_line : (words : List ℕ) → Printed words → Printed (line words)
printed_line words h = printed_both words (0x0A ∷ []) h refl

-- bytes that all pass one test pass a weaker one
weaker : (strong weak : ℕ → Bool) → ((b : ℕ) → strong b ≡ true → weak b ≡ true) → (bytes : List ℕ) → list_all strong bytes ≡ true → list_all weak bytes ≡ true
weaker strong weak holds [] h = refl
weaker strong weak holds (b ∷ bytes) h =
    let both = both_pass (strong b) (list_all strong bytes) h in
    rw (holds b both.0, weaker strong weak holds bytes both.1) refl

printable_is_printed : (b : ℕ) → is_printable b ≡ true → is_printed b ≡ true
printable_is_printed b h = rw h refl

pub printed_shown : (bytes : List ℕ) → Printed (shown bytes)
printed_shown bytes = weaker is_printable is_printed printable_is_printed (shown bytes) (shown_printable bytes MOST_SHOWN)

pub printed_quoted : (bytes : List ℕ) → Printed (quoted bytes)
printed_quoted bytes = weaker is_printable is_printed printable_is_printed (quoted bytes) (printable_quoted bytes)

-- ---- numbers

glyph_printed : (d : ℕ) → d < 10 → is_printed (digit_glyph false d) ≡ true
glyph_printed d lt = grind (arith, nat_tests, lt)

onto_printed : (k n : ℕ) (acc : List ℕ) → Printed acc → Printed (digits_onto k 10 false n acc)
onto_printed zero n acc h = h
onto_printed (suc k) n acc h =
    let more = printed_next (digit_glyph false (n % 10)) acc (glyph_printed (n % 10) (mod-lt n (omega arith))) h in
    printed_chosen (n / 10 == 0) (digit_glyph false (n % 10) ∷ acc) (digits_onto k 10 false (n / 10) (digit_glyph false (n % 10) ∷ acc)) more
    (onto_printed k (n / 10) (digit_glyph false (n % 10) ∷ acc) more)

pub printed_decimal : (n : ℕ) → Printed (decimal n)
unfolding digits
printed_decimal n = onto_printed 64 n [] refl

pub printed_signed : (z : ℤ) → Printed (signed_decimal z)
printed_signed (pos n) = printed_decimal n
printed_signed (negsuc n) = printed_next 45 (decimal (suc n)) refl (printed_decimal (suc n))

-- ---- names, keys and parts

name_byte_printed : (b : ℕ) → is_name_byte b ≡ true → is_printed b ≡ true
name_byte_printed b is = grind (arith, nat_tests, is)

pub printed_bytes_of_name : (word : List ℕ) → list_all is_name_byte word ≡ true → Printed word
printed_bytes_of_name word h = weaker is_name_byte is_printed name_byte_printed word h

pub printed_name : (word : List ℕ) → IsName word → Printed word
printed_name word is = printed_bytes_of_name word (name_bytes word is)

pub printed_name_or_dash : (word : List ℕ) (t : Bool) → is_name word ≡ t → Printed (cond t word (codes "-"))
printed_name_or_dash word true is = printed_bytes_of_name word (both_pass _ (list_all is_name_byte word) is).1
printed_name_or_dash word false is = refl

pub printed_part : (p : Part) → Printed (part_text p)
printed_part part.Top = refl
printed_part _ = refl

pub printed_key : (k : Key) → Printed (key_text k)
printed_key key.Format = refl
printed_key _ = refl

-- ---- keys with commas

printed_others : (keys : List Key) → Printed (flat_map (λ (other : List ℕ). codes ", " ++ other) (map key_text keys))
printed_others [] = refl
printed_others (k ∷ keys) = printed_both (codes ", " ++ key_text k) _ (printed_both (codes ", ") (key_text k) refl (printed_key k)) (printed_others keys)

printed_joined : (keys : List Key) → Printed (joined (map key_text keys))
printed_joined [] = refl
printed_joined (k ∷ keys) = printed_both (key_text k) _ (printed_key k) (printed_others keys)

pub printed_keys : (keys : List Key) → Printed (one_of (map key_text keys))
printed_keys keys = printed_both (codes "one of ") (joined (map key_text keys)) refl (printed_joined keys)
