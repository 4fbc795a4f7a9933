-- The values at keys, found in one pass over a table.
use Rattle.std.proofs.Common.{◌≡◌, ℕ, zero, suc, ◌<◌, ◌≤◌, Bool, true, false, cond, ◌||◌, List, [], ◌∷◌, length, get_or, set, take, map, replicate, refl, sym, ap, ◌∙◌, arith}
use Rattle.std.proofs.Common.{Option, Some, None, Ordering, Less, Equal, Greater, is_eq, String, Global, string_bytes, Bor}
use Rattle.std.proofs.lemmas.Bool.{false≢true, false_from_ne_true, lt-ltb}
use Rattle.std.proofs.lemmas.List.{map-set, get_or-map, get_or-take, length-map, length-take}
use Rattle.std.proofs.lemmas.List.Folds.{list_any_at}
use Rattle.std.proofs.lemmas.List.Quantifiers.{position-Some}
use Rattle.std.proofs.lemmas.Map.Text.{is_eq-slice_cmp}
use Rattle.std.proofs.lemmas.Option.{slice_get_within, get_or_from_slice_get}
use Rattle.std.specs.Cmp.Lexicographic.{bytes_decides, slice_cmp}
use Rattle.std.specs.List.{list_any, position, position_or_len}
use Rattle.std.specs.Option.{option_or}
use Rattle.std.specs.Ordering.{nat_cmp, match_ordering}
use Rattle.std.specs.Prelude.{is_some, slice_get}
use Rattle.toml.specs.{Data.{Data, Members, no_members, member}, View.{view, members_view}, declared.value.Value.Value}
use Rattle.cl_model.specs.{declared.place.Key.Key, Place.key_text, Reading.Checks.{value_at, has_only}}
use Rattle.cl_model.specs.declared.place.Key.TheVariants as key
use Rattle.cl_model.proofs.NamePlaces.{found_within}
use Rattle.cl_read.specs.Inner.Fields.{is_word, are_apart, data_of, first_of, AreValuesAt}

-- the values so far, and behind them those of the members that are left
abbrev pub with_rest : List Key → Members → List (Option Data) → List (Option Data)
with_rest [] rest seen = []
with_rest (key ∷ keys) rest [] = []
with_rest (key ∷ keys) rest (s ∷ seen) = option_or s (value_at key rest) ∷ with_rest keys rest seen

value_by : (o : Ordering) (here : Option Data) (d : Data) → match_ordering o here (Some d) here ≡ cond (is_eq o) (Some d) here
value_by Less here d = refl
value_by Equal here d = refl
value_by Greater here d = refl

-- the value at a key, of a table with one more member
value_more : (key : Key) (w : List ℕ) (d : Data) (rest : Members) → value_at key (member w d rest) ≡ cond (is_word w key) (Some d) (value_at key rest)
value_more key w d rest =
    value_by (slice_cmp nat_cmp (key_text key) w) (value_at key rest) d ∙ ap (λ b. cond b (Some d) (value_at key rest)) (is_eq-slice_cmp (key_text key) w)

none_by : (here others : Bool) → (here || others) ≡ false → (here ≡ false) × (others ≡ false)
none_by true others none = cc
none_by false others none = (refl, none)

-- a member at none of the keys changes nothing
none_more : (keys : List Key) (w : List ℕ) (d : Data) (rest : Members) (seen : List (Option Data)) → list_any (is_word w) keys ≡ false
    → with_rest keys (member w d rest) seen ≡ with_rest keys rest seen
none_more [] w d rest seen none = refl
none_more (key ∷ keys) w d rest [] none = refl
none_more (key ∷ keys) w d rest (s ∷ seen) none =
    let parts = none_by (is_word w key) (list_any (is_word w) keys) none in
    rw (value_more key w d rest, parts.0, none_more keys w d rest seen parts.1) refl

or_found : (s : Option Data) (d : Data) (later : Option Data) → option_or (first_of s d) later ≡ option_or s (Some d)
or_found None d later = refl
or_found (Some x) d later = refl

-- the word of a key is that of no other one
other_word : (key : Key) (keys : List Key) (w : List ℕ) (n : ℕ) (k : Key) → are_apart (key ∷ keys) ≡ true → n < length keys → is_word w (get_or keys n k) ≡ true → is_word w key ≡ false
other_word key keys w n k apart within is =
    false_from_ne_true (is_word w key) (λ same.
    let e : key_text key ≡ w = (bytes_decides (key_text key) w).0 same in
    let any : list_any (is_word (key_text key)) keys ≡ true = rw e (list_any_at (is_word w) keys n k within is) in
    false≢true (grind arith))

-- a member at one of the keys is found
pub one_more : (keys : List Key) (w : List ℕ) (d : Data) (rest : Members) (seen : List (Option Data)) (n : ℕ) (k : Key)
    → are_apart keys ≡ true → n < length keys → length keys ≤ length seen → is_word w (get_or keys n k) ≡ true
    → with_rest keys rest (set seen n (first_of (get_or seen n None) d)) ≡ with_rest keys (member w d rest) seen
one_more [] w d rest seen n k apart within few is = absurd (omega arith)
one_more (key ∷ keys) w d rest [] n k apart within few is = absurd (omega arith)
one_more (key ∷ keys) w d rest (s ∷ seen) zero k apart within few is =
    let none : list_any (is_word (key_text key)) keys ≡ false = grind arith in
    let e : key_text key ≡ w = (bytes_decides (key_text key) w).0 is in
    rw (value_more key w d rest, is, none_more keys w d rest seen (rw (← e) none), or_found s d (value_at key rest)) refl
one_more (key ∷ keys) w d rest (s ∷ seen) (suc n) k apart within few is =
    let shorter : n < length keys = omega arith in
    let fewer : length keys ≤ length seen = omega arith in
    let others : are_apart keys ≡ true = grind arith in
    rw (value_more key w d rest, other_word key keys w n k apart shorter is, one_more keys w d rest seen n k others shorter fewer is) refl

nothing_found : (keys : List Key) (ms : Members) (n : ℕ) → length keys ≤ n → with_rest keys ms (map data_of (replicate n None)) ≡ map (λ key. value_at key ms) keys
nothing_found [] ms n few = refl
nothing_found (key ∷ keys) ms zero few = absurd (omega arith)
nothing_found (key ∷ keys) ms (suc n) few = ap (λ vs. value_at key ms ∷ vs) (nothing_found keys ms n (omega arith))

-- before the pass nothing is found
pub none_found : (keys : List Key) (ms : Members) (n : ℕ) (values : List (Option (Bor Value))) → values ≡ replicate n None → length keys ≤ n
    → with_rest keys ms (map data_of values) ≡ map (λ key. value_at key ms) keys
none_found keys ms n values none few = rw none (nothing_found keys ms n few)

or_none : (s : Option Data) → option_or s None ≡ s
or_none None = refl
or_none (Some x) = refl

-- behind the pass nothing is left
pub all_found : (keys : List Key) (seen : List (Option Data)) → length keys ≤ length seen → with_rest keys no_members seen ≡ take (length keys) seen
all_found [] seen few = refl
all_found (key ∷ keys) [] few = absurd (omega arith)
all_found (key ∷ keys) (s ∷ seen) few = rw (or_none s, all_found keys seen (omega arith)) refl

any_by : (p : Key → Bool) (keys : List Key) (found : Option ℕ) (any : Bool) → position p keys ≡ found → list_any p keys ≡ any → is_some found ≡ any
any_by p keys found true is any =
    ap is_some (sym is) ∙ ap (λ b. is_some (cond b (Some (position_or_len p keys)) None)) (lt-ltb _ _ (found_within p keys any))
any_by p keys None false is any = refl
any_by p keys (Some n) false is any =
    let here = position-Some p keys n key.Format is in
    absurd (false≢true (sym any ∙ list_any_at p keys n key.Format here.0 here.1))

-- something is found exactly where there is something
found_any : (p : Key → Bool) (keys : List Key) → is_some (position p keys) ≡ list_any p keys
found_any p keys = any_by p keys (position p keys) (list_any p keys) refl refl

-- ---- the pass

abbrev pub Entry : Type 0
Entry = String Global × Value

module _ (keys : List Key) (w : String Global) (v : Value) (es : List Entry) (word : List ℕ) (is : word ≡ string_bytes w) where
  -- a member at none of the keys
  pub refused : position (is_word word) keys ≡ None → has_only keys (members_view ((w, v) ∷ es)) ≡ false
  refused none =
      let any : list_any (is_word word) keys ≡ false = sym (found_any (is_word word) keys) ∙ ap is_some none in
      rw (← is, any) refl

  module _ (n : ℕ) (at : position (is_word word) keys ≡ Some n) where
    -- a member at one of the keys
    pub passes : has_only keys (members_view ((w, v) ∷ es)) ≡ has_only keys (members_view es)
    passes =
        let any : list_any (is_word word) keys ≡ true = sym (found_any (is_word word) keys) ∙ ap is_some at in
        rw (← is, any) refl

    pub found : (values : List (Option (Bor Value))) (old new : Option (Bor Value)) → are_apart keys ≡ true → length keys ≤ length values
        → old ≡ get_or values n old → data_of new ≡ first_of (data_of old) (view v)
        → with_rest keys (members_view es) (map data_of (set values n new)) ≡ with_rest keys (members_view ((w, v) ∷ es)) (map data_of values)
    found values old new apart few was first =
        let here = position-Some (is_word word) keys n key.Format at in
        let kept : data_of old ≡ get_or (map data_of values) n None = ap data_of was ∙ sym (get_or-map data_of values n old None (omega (arith, here.0))) in
        ap (with_rest keys (members_view es)) (map-set data_of values n new ∙ ap (set (map data_of values) n) (first ∙ ap (λ o. first_of o (view v)) kept))
        ∙ one_more keys word (view v) (members_view es) (map data_of values) n key.Format apart here.0 (omega (arith, length-map values data_of)) here.1
        ∙ ap (λ b. with_rest keys (member b (view v) (members_view es)) (map data_of values)) is

-- the values of a table
pub at_end : (keys : List Key) (values : List (Option (Bor Value))) → length keys ≤ length values → with_rest keys no_members (map data_of values) ≡ take (length keys) (map data_of values)
at_end keys values few = all_found keys (map data_of values) (omega (arith, length-map values data_of))

-- the value at one of the keys
pub value_found : (keys : List Key) (ms : Members) (values : List (Option (Bor Value))) (n : ℕ) (key : Key) (value : Option (Bor Value))
    → AreValuesAt keys ms values → slice_get keys n ≡ Some key → value ≡ get_or values n value → data_of value ≡ value_at key ms
value_found keys ms values n key value are at is =
    let within = slice_get_within keys n key at in
    let few : length (take (length keys) (map data_of values)) ≡ length keys = ap length are ∙ length-map keys (λ k. value_at k ms) in
    let short : n < length values = omega (arith, few, within, length-take (length keys) (map data_of values), length-map values data_of) in
    ap data_of is ∙ sym (get_or-map data_of values n value None short) ∙ sym (get_or-take (length keys) (map data_of values) n None within)
    ∙ ap (λ l. get_or l n None) are ∙ get_or-map (λ k. value_at k ms) keys n key None within
    ∙ ap (λ k. value_at k ms) (get_or_from_slice_get keys n key key at)
