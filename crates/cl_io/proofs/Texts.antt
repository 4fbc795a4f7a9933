-- A map whose keys are texts, after a change at one of them.
use Rattle.std.proofs.Common.{◌≡◌, ◌≢◌, ℕ, List, Option, Some, None, unwrap_or, String, BTreeMap, Bool, true, false, refl, sym, ap, subst, ◌∙◌}
use Rattle.std.specs.BTreeMap.{UpdatesBy, get_by_text}
use Rattle.std.specs.Cmp.Lexicographic.{slice_cmp, bytes_decides}
use Rattle.std.specs.Ordering.{nat_cmp}
use Rattle.std.specs.Str.{bytes_eq}
use Rattle.std.specs.String.{string_cmp, string_bytes}
use Rattle.std.proofs.lemmas.Bool.{false_from_ne_true}
use Rattle.std.proofs.lemmas.Map.Text.{btree_map_updates_text}
use Rattle.cl_io.specs.Names.{ChangesAlone}

bytes_eq-same : (bytes : List ℕ) → bytes_eq bytes bytes ≡ true
bytes_eq-same bytes = (bytes_decides bytes bytes).1 refl

bytes_eq-other : (bytes other : List ℕ) → other ≢ bytes → bytes_eq bytes other ≡ false
bytes_eq-other bytes other differs = false_from_ne_true _ (λ same. differs (sym ((bytes_decides bytes other).0 same)))

differ : (bytes other : List ℕ) → bytes_eq bytes other ≡ false → other ≢ bytes
differ bytes other differs same = let equal : bytes_eq bytes other ≡ true = (bytes_decides bytes other).1 (sym same) in cc

-- a look-up finds the new value at that text, and the old one at every other
pub text_changes : {X Y : Type 0} (bytes : List ℕ) (old new : BTreeMap (String Y) X) (value : Option X) → UpdatesBy string_cmp (λ k. slice_cmp nat_cmp bytes (string_bytes k)) old new value → ChangesAlone bytes value (get_by_text old) (get_by_text new)
text_changes bytes old new value updates = record {
  here = btree_map_updates_text bytes old new value updates bytes ∙ rw (bytes_eq-same bytes) refl;
  others = λ other differs. btree_map_updates_text bytes old new value updates other ∙ rw (bytes_eq-other bytes other differs) refl;
}

-- where a text that has no value is given the default, what is found or the default is the same at every text
pub default_stays : {X Y : Type 0} (default : X) (bytes : List ℕ) (old new : BTreeMap (String Y) X) → get_by_text old bytes ≡ None
    → ChangesAlone bytes (Some default) (get_by_text old) (get_by_text new) → (other : List ℕ)
    → unwrap_or (get_by_text new other) default ≡ unwrap_or (get_by_text old other) default
default_stays {X} default bytes old new absent changes other = by_cases (bytes_eq bytes other) refl
  where
    found : Option X → X
    found value = unwrap_or value default

    by_cases : (same : Bool) → bytes_eq bytes other ≡ same → found (get_by_text new other) ≡ found (get_by_text old other)
    by_cases true same = subst (λ text. found (get_by_text new text) ≡ found (get_by_text old text)) ((bytes_decides bytes other).0 same) (ap found changes.here ∙ ap found (sym absent))
    by_cases false differs = ap found (changes.others other (differ bytes other differs))
