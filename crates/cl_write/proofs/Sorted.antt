-- The members that are made of entries, in the order of their keys.
use Rattle.std.proofs.Common.{◌≡◌, Bool, true, false, ◌&&◌, ◌||◌, cond, List, [], ◌∷◌, Option, Some, None, Ordering, Less, Equal, Greater, nat_cmp, refl, sym, ap, ◌∙◌}
use Rattle.std.specs.List.{list_all}
use Rattle.std.specs.Ordering.{is_lt, is_gt, match_ordering}
use Rattle.std.specs.Cmp.Lexicographic.{slice_cmp}
use Rattle.toml.specs.Data.{Data, Members, no_members, member}
use Rattle.cl_model.specs.{declared.place.Key.Key, Place.key_text}
use Rattle.cl_model.proofs.ListFacts.{both_pass}
use Rattle.cl_write.specs.Entries.{Entry, with_member, with_entry, with_entries}

is_less : (o : Ordering) → is_lt o ≡ true → o ≡ Less
is_less Less h = refl
is_less Equal h = absurd cc
is_less Greater h = absurd cc

is_greater : (o : Ordering) → is_gt o ≡ true → o ≡ Greater
is_greater Less h = absurd cc
is_greater Equal h = absurd cc
is_greater Greater h = refl

second : (a b : Bool) → (a || b) ≡ true → false ≡ a → b ≡ true
second true b h is = absurd cc
second false b h is = h

-- ---- entries as members, in their order

abbrev pub at_front : Key → Option Data → Members → Members
at_front key None ms = ms
at_front key (Some d) ms = member (key_text key) d ms

abbrev pub spread : List Entry → Members
spread [] = no_members
spread (e ∷ es) = at_front e.0 e.1 (spread es)

-- the key comes before each of the entries'
abbrev pub goes_before : Key → List Entry → Bool
goes_before key entries = list_all (λ (e : Entry). is_lt (slice_cmp nat_cmp (key_text key) (key_text e.0))) entries

-- one entry more, before the first that its key comes before
abbrev pub place_entry : Key → Option Data → List Entry → List Entry
place_entry key v [] = (key, v) ∷ []
place_entry key v (e ∷ es) = cond (goes_before key (e ∷ es)) ((key, v) ∷ e ∷ es) (e ∷ place_entry key v es)

-- its key comes after those of the entries before it, and before those behind it
abbrev pub fits : Key → List Entry → Bool
fits key [] = true
fits key (e ∷ es) = goes_before key (e ∷ es) || (is_gt (slice_cmp nat_cmp (key_text key) (key_text e.0)) && fits key es)

-- ---- one entry more

put_first : (key : Key) (d : Data) (es : List Entry) → goes_before key es ≡ true → with_member (key_text key) d (spread es) ≡ member (key_text key) d (spread es)
unfolding with_member
put_first key d [] h = refl
put_first key d ((l, None) ∷ es) h = put_first key d es (both_pass (is_lt (slice_cmp nat_cmp (key_text key) (key_text l))) (goes_before key es) h).1
put_first key d ((l, Some e) ∷ es) h =
    let less = is_less (slice_cmp nat_cmp (key_text key) (key_text l)) (both_pass (is_lt (slice_cmp nat_cmp (key_text key) (key_text l))) (goes_before key es) h).0 in
    ap (λ (o : Ordering). match_ordering o (member (key_text key) d (member (key_text l) e (spread es))) (member (key_text l) d (spread es)) (member (key_text l) e (with_member (key_text key) d (spread es)))) less

at_once : (key : Key) (v : Option Data) (es : List Entry) → goes_before key es ≡ true → with_entry key v (spread es) ≡ spread ((key, v) ∷ es)
at_once key None es h = refl
at_once key (Some d) es h = put_first key d es h

later : (key : Key) (v : Option Data) (e : Entry) (es more : List Entry) → slice_cmp nat_cmp (key_text key) (key_text e.0) ≡ Greater → with_entry key v (spread es) ≡ spread more
    → with_entry key v (spread (e ∷ es)) ≡ spread (e ∷ more)
unfolding with_member
later key None e es more greater rest = ap (at_front e.0 e.1) rest
later key (Some d) (l, None) es more greater rest = rest
later key (Some d) (l, Some e) es more greater rest =
    ap (λ (o : Ordering). match_ordering o (member (key_text key) d (member (key_text l) e (spread es))) (member (key_text l) d (spread es)) (member (key_text l) e (with_member (key_text key) d (spread es)))) greater
    ∙ ap (λ (ms : Members). member (key_text l) e ms) rest

placed : (key : Key) (v : Option Data) (es : List Entry) → fits key es ≡ true → with_entry key v (spread es) ≡ spread (place_entry key v es)
placed key v [] h = at_once key v [] refl
placed key v (e ∷ es) h = by_test (goes_before key (e ∷ es)) refl (placed key v es)
  where
    by_test : (t : Bool) → t ≡ goes_before key (e ∷ es) → (fits key es ≡ true → with_entry key v (spread es) ≡ spread (place_entry key v es))
        → with_entry key v (spread (e ∷ es)) ≡ spread (cond t ((key, v) ∷ e ∷ es) (e ∷ place_entry key v es))
    by_test true is rest = at_once key v (e ∷ es) (sym is)
    by_test false is rest =
        let after : (is_gt (slice_cmp nat_cmp (key_text key) (key_text e.0)) && fits key es) ≡ true = second (goes_before key (e ∷ es)) _ h is in
        let (greater, others) = both_pass (is_gt (slice_cmp nat_cmp (key_text key) (key_text e.0))) (fits key es) after in
        later key v e es (place_entry key v es) (is_greater _ greater) (rest others)

-- ---- all entries

abbrev pub place_all : List Entry → List Entry → List Entry
place_all [] placed = placed
place_all (e ∷ es) placed = place_all es (place_entry e.0 e.1 placed)

abbrev pub all_fit : List Entry → List Entry → Bool
all_fit [] placed = true
all_fit (e ∷ es) placed = fits e.0 placed && all_fit es (place_entry e.0 e.1 placed)

-- entries of keys that differ make the members in the order of the keys
pub in_order : (entries before : List Entry) → all_fit entries before ≡ true → with_entries entries (spread before) ≡ spread (place_all entries before)
in_order [] before h = refl
in_order (e ∷ es) before h =
    let (first, rest) = both_pass (fits e.0 before) (all_fit es (place_entry e.0 e.1 before)) h in
    ap (with_entries es) (placed e.0 e.1 before first) ∙ in_order es (place_entry e.0 e.1 before) rest
