-- Rows that were added with their directions, and what is left where there was no memory or the line of a row wasn't noted.
use Rattle.std.specs.Prelude.{ℕ, pos, ◌-ℤ◌, ◌≡◌, ◌≢◌, false, List, [], ◌∷◌, ◌++◌, Result, Ok, Err, OnOk, OnErr, Some, None, take, length}
use Rattle.std.specs.List.{list_any}
use Rattle.std.proofs.Common.{arith, refl, sym, ap, ◌∙◌, subst, length-append}
use Rattle.std.proofs.lemmas.Result.{on_ok_weaker}
use Rattle.indexmap.specs.IndexSet.{insert_key}
use Rattle.ae_num.specs.Forms.{IsNormal}
use Rattle.ae_num.specs.Limits.{FitsLimits}
use Rattle.ae_journal.specs.Noted.{Noted}
use Rattle.ae_bounds.specs.declared.rows.Row.{Row}
use Rattle.ae_bounds.specs.declared.directions.Direction.{Direction}
use Rattle.ae_bounds.specs.Rounding.{DoesCount, IsLeastRounded}
use Rattle.ae_bounds.specs.Inner.Directions.{IsDirectionOf, IsEarlier, AreIndexed, is_same}
use Rattle.ae_bounds.proofs.Indexing.{inserted_new, insert_cut, indexed_added, indexed_both, indexed_least, indexed_alone}

-- ---- one element more, or not
module _ {A : Type 0} (old added : List A) (x : A) (is : added ≡ old ++ x ∷ []) where
  pub some_added : added ≢ []
  some_added e =
      let l = length-append old (x ∷ []) in
      let h : length (old ++ x ∷ []) ≡ 0 = ap length (sym is ∙ e) in
      omega (arith, l, h)

  pub taken_off : {T E : Type 0} (result : Result T E) (new : List A) → OnErr result ((front : List A) (last : A) → added ≡ front ++ last ∷ [] → new ≡ front) → OnErr result (new ≡ old)
  taken_off (Ok y) new h = tt
  taken_off (Err y) new h = h old x is

pub pushed_new : {T E : Type 0} (result : Result T E) (ds es : List Direction) (d : Direction) → list_any (is_same d) ds ≡ false → OnOk result (es ≡ insert_key is_same ds d) → OnOk result (es ≡ ds ++ d ∷ [])
pushed_new result ds es d e f = on_ok_weaker result (λ (g : es ≡ insert_key is_same ds d). g ∙ inserted_new ds d e) f

pub noted_kept : {T E : Type 0} (result : Result T E) (rows new : List Row) (j k : Noted) → OnErr result (new ≡ rows) → OnErr result (k ≡ j) → OnErr result ((new ≡ rows) × (k ≡ j))
noted_kept (Ok x) rows new j k p q = tt
noted_kept (Err x) rows new j k p q = (p, q)

-- ---- the index of the rows
pub indexed_same : (rows new : List Row) (ds es : List Direction) → AreIndexed rows ds → new ≡ rows → es ≡ ds → AreIndexed new es
indexed_same rows new ds es i k c = subst (λ (w : List Row). AreIndexed w es) (sym k) (subst (AreIndexed rows) (sym c) i)

pub indexed_pushed : {T E : Type 0} (result : Result T E) (rows new : List Row) (ds es : List Direction) (r : Row) (d : Direction) → DoesCount r → AreIndexed rows ds → IsDirectionOf r.lin d.form → IsEarlier r None → OnOk result (new ≡ rows ++ r ∷ [])
    → OnOk result (es ≡ insert_key is_same ds d) → OnErr result ((new ≡ rows) × (es ≡ ds)) → AreIndexed new es
indexed_pushed (Ok x) rows new ds es r d c i of alone a b k = indexed_added rows new ds es r d c i of alone a b
indexed_pushed (Err x) rows new ds es r d c i of alone a b k = indexed_same rows new ds es i k.0 k.1

pub indexed_pushed_least : {T E : Type 0} (result : Result T E) (rows new : List Row) (ds es : List Direction) (r : Row) (e : Direction) → DoesCount r → AreIndexed rows ds → IsNormal r.lin → ¬ FitsLimits (r.lin.constant -ℤ pos 1) → IsEarlier r (Some e)
    → OnOk result (new ≡ rows ++ r ∷ []) → OnOk result (es ≡ insert_key is_same ds e) → OnErr result ((new ≡ rows) × (es ≡ ds)) → AreIndexed new es
indexed_pushed_least (Ok x) rows new ds es r e c i n least two a b k = indexed_least rows new ds es r e c i n least two a b
indexed_pushed_least (Err x) rows new ds es r e c i n least two a b k = indexed_same rows new ds es i k.0 k.1

pub indexed_noted : {T E : Type 0} (result : Result T E) (rows new : List Row) (ds es : List Direction) (r : Row) (d : Direction) → DoesCount r → AreIndexed rows ds → IsDirectionOf r.lin d.form → IsEarlier r None → list_any (is_same d) ds ≡ false
    → OnOk result (new ≡ rows ++ r ∷ []) → OnOk result (es ≡ ds ++ d ∷ []) → OnErr result (new ≡ rows) → OnErr result (es ≡ ds) → AreIndexed new es
indexed_noted (Ok x) rows new ds es r d n i of alone f a b k c = indexed_added rows new ds es r d n i of alone a (b ∙ sym (inserted_new ds d f))
indexed_noted (Err x) rows new ds es r d n i of alone f a b k c = indexed_same rows new ds es i k c

-- a row with two directions, of which the first is there
module _ (rows mid : List Row) (ds ms : List Direction) (r : Row) (d e : Direction) (counts : DoesCount r) (n : ℕ) (all : n ≡ length ds) (i : AreIndexed rows ds) (of : IsDirectionOf r.lin d.form) (more : ¬ IsLeastRounded r) (two : IsEarlier r (Some e))
    (added : mid ≡ rows ++ r ∷ []) (inserted : ms ≡ insert_key is_same ds d) where
  pub indexed_more : {T E : Type 0} (result : Result T E) (new : List Row) (es : List Direction) → OnOk result (new ≡ mid) → OnOk result (es ≡ insert_key is_same ms e)
      → OnErr result ((front : List Row) (row : Row) → mid ≡ front ++ row ∷ [] → new ≡ front) → OnErr result (es ≡ take n ms) → AreIndexed new es
  indexed_more (Ok x) new es a b t c = indexed_both rows new ds ms es r d e counts i of more two (a ∙ added) inserted b
  indexed_more (Err x) new es a b t c = indexed_same rows new ds es i (t rows r added) (c ∙ insert_cut ds ms d n all inserted)

  pub kept_both : {T E : Type 0} (result : Result T E) (new : List Row) (es : List Direction) → OnErr result ((front : List Row) (row : Row) → mid ≡ front ++ row ∷ [] → new ≡ front) → OnErr result (es ≡ take n ms)
      → OnErr result ((new ≡ rows) × (es ≡ ds))
  kept_both (Ok x) new es t c = tt
  kept_both (Err x) new es t c = (t rows r added, c ∙ insert_cut ds ms d n all inserted)

-- ---- a row without a direction
pub indexed_silently : {T E : Type 0} (result : Result T E) (rows new : List Row) (r : Row) → IsNormal r.lin → ¬ DoesCount r → OnOk result (new ≡ rows ++ r ∷ []) → OnErr result (new ≡ rows)
    → (ds : List Direction) → AreIndexed rows ds → AreIndexed new ds
indexed_silently (Ok x) rows new r n none a k ds i = subst (λ (w : List Row). AreIndexed w ds) (sym a) (indexed_alone rows ds r i n none)
indexed_silently (Err x) rows new r n none a k ds i = subst (λ (w : List Row). AreIndexed w ds) (sym k) i

pub same_directions : {T E : Type 0} (result : Result T E) (rows new : List Row) (ds : List Direction) → OnErr result (new ≡ rows) → OnErr result ((new ≡ rows) × (ds ≡ ds))
same_directions (Ok x) rows new ds k = tt
same_directions (Err x) rows new ds k = (k, refl)
