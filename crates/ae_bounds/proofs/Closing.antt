-- Rows to which combinations were added, and pairs of rows whose combination is there.
use Rattle.std.specs.Prelude.{ℕ, zero, suc, ◌+◌, ◌<◌, ◌≤◌, ℤ, pos, negsuc, ◌<ℤ◌, ◌≡◌, List, [], ◌∷◌, ◌++◌, Option, Some, None, length, slice_get}
use Rattle.std.proofs.Common.{arith, sym, ap, ◌∙◌, subst, append_assoc, length-append}
use Rattle.std.proofs.lemmas.List.{append-nil}
use Rattle.std.proofs.lemmas.List.Elements.{Contains-append_left}
use borrow.Author.Differences.{ints}
use native.Mathlib.Decide.{dec_lt}
use Rattle.ae_base.proofs.ListFacts.{get_append}
use Rattle.ae_math.specs.Forms.{Form}
use Rattle.ae_num.specs.declared.forms.Part.{Part}
use Rattle.ae_num.specs.declared.forms.Lin.{Lin}
use Rattle.ae_num.specs.Forms.{meaning}
use Rattle.ae_rows.specs.Rows.{IsLower, IsUpper}
use Rattle.ae_journal.specs.declared.lines.Line.{Line}
use Rattle.ae_ineq.proofs.LastLaws.{lower_means, upper_means}
use Rattle.ae_num.specs.Forms.{IsNormal}
use Rattle.ae_bounds.specs.declared.rows.Row.{Row}
use Rattle.ae_bounds.specs.declared.combining.Opposed.{Opposed}
use Rattle.ae_bounds.specs.Combinations.{IsThere, IsExtended, IsHeld, IsDone}
use Rattle.ae_bounds.specs.Combinations.IsExtended.{as_it_was, one_more, zero_more}
use Rattle.ae_bounds.specs.Inner.Pairs.{HaveLast, IsPairThere, ArePaired, AreClosedBelow}

-- ---- the opposed name in the meanings
pub opposed_lower : (p q : Lin) (o : Opposed) → IsNormal p → HaveLast p q o → IsLower o.name (meaning p)
opposed_lower p q o n a = lower_means p (record { key = o.name; factor = o.rising }) n a.first a.positive

pub opposed_upper : (p q : Lin) (o : Opposed) → IsNormal q → HaveLast p q o → IsUpper o.name (meaning q)
opposed_upper p q o n a = upper_means q (record { key = o.name; factor = o.falling }) n a.second a.negative

-- two rows are opposed on one name at most
abbrev key_in : Option Part → ℕ
key_in None = 0
key_in (Some p) = p.key

abbrev factor_in_part : Option Part → ℤ
factor_in_part None = pos 0
factor_in_part (Some p) = p.factor

pub one_opposed : (p q : Lin) (o u : Opposed) → HaveLast p q o → HaveLast p q u → o.name ≡ u.name
one_opposed p q o u a b = ap key_in (sym a.first ∙ b.first)

never_itself : (p : Lin) (o : Opposed) → HaveLast p p o → ⊥
never_itself p o a = signs o.rising (subst (λ (z : ℤ). z <ℤ pos 0) (ap factor_in_part (sym a.second ∙ a.first)) a.negative) a.positive
  where
    signs : (z : ℤ) → z <ℤ pos 0 → pos 0 <ℤ z → ⊥
    signs (pos n) h k = absurd (omega (arith, ints, h))
    signs (negsuc n) h k = absurd (omega (arith, ints, k))

-- ---- places
pub place_less : (rows more : List Row) (i : ℕ) (p : Row) → i < length rows → slice_get (rows ++ more) i ≡ Some p → slice_get rows i ≡ Some p
place_less [] more i p l e = absurd (omega (arith, l))
place_less (r ∷ rows) more zero p l e = e
place_less (r ∷ rows) more (suc i) p l e = place_less rows more i p (omega (arith, l)) e

-- ---- rows that were extended
pub grown : (rows : List Row) (js : List Line) (rs : List Row) (ks : List Line) → IsExtended rows js rs ks → (more : List Row) × (rs ≡ rows ++ more)
grown rows js _ _ as_it_was = ([], sym (append-nil rows))
grown rows js _ _ (one_more rs ks r e c n) =
    let g = grown rows js rs ks e in
    (g.0 ++ r ∷ [], ap (λ (w : List Row). w ++ r ∷ []) g.1 ∙ append_assoc rows g.0 (r ∷ []))
grown rows js _ _ (zero_more rs ks r e c z) =
    let g = grown rows js rs ks e in
    (g.0 ++ r ∷ [], ap (λ (w : List Row). w ++ r ∷ []) g.1 ∙ append_assoc rows g.0 (r ∷ []))

pub extended_on : (a : List Row) (js : List Line) (b : List Row) (ks : List Line) (d : List Row) (ls : List Line) → IsExtended a js b ks → IsExtended b ks d ls → IsExtended a js d ls
extended_on a js b ks _ _ e as_it_was = e
extended_on a js b ks _ _ e (one_more rs ms r f c n) = one_more rs ms r (extended_on a js b ks rs ms e f) c n
extended_on a js b ks _ _ e (zero_more rs ms r f c z) = zero_more rs ms r (extended_on a js b ks rs ms e f) c z

pub there_append : (rows more : List Row) (f : Form ℕ) → IsThere rows f → IsThere (rows ++ more) f
there_append rows more f t = record { row = t.row; among = Contains-append_left rows more t.row t.among; form = t.form; of = t.of; times = t.times; positive = t.positive; same = t.same }

held_append : (rows more : List Row) (f : Form ℕ) → IsHeld rows f → IsHeld (rows ++ more) f
held_append rows more f d = record {
  there = there_append rows more f d.there;
  zero = λ z. let h = d.zero z in record { row = h.row; among = Contains-append_left rows more h.row h.among; zero = h.zero; lower = h.lower; upper = h.upper; from = h.from };
}

pub done_append : (rows more : List Row) (p q : Row) (n : ℕ) → IsDone rows p q n → IsDone (rows ++ more) p q n
done_append rows more p q n d = record { row = d.row; of = d.of; held = held_append rows more (meaning d.row.lin) d.held }

pub done_more : (rows rs : List Row) (js ks : List Line) (p q : Row) (n : ℕ) → IsExtended rows js rs ks → IsDone rows p q n → IsDone rs p q n
done_more rows rs js ks p q n e t =
    let g = grown rows js rs ks e in
    subst (λ (w : List Row). IsDone w p q n) (sym g.1) (done_append rows g.0 p q n t)

pub pair_more : (rows : List Row) (i j : ℕ) (new rs : List Row) (js ks : List Line) → IsExtended new js rs ks → IsPairThere rows i j new → IsPairThere rows i j rs
pair_more rows i j new rs js ks e h p q o a b c = done_more new rs js ks p q o.name e (h p q o a b c)

-- the same rows at these places of the longer list
pub pair_up : (rows rs : List Row) (js ks : List Line) (i j : ℕ) (new : List Row) → IsExtended rows js rs ks → i < length rows → j < length rows → IsPairThere rows i j new → IsPairThere rs i j new
pair_up rows rs js ks i j new e l m h p q o a b c =
    let g = grown rows js rs ks e in
    h p q o (place_less rows g.0 i p l (ap (λ (w : List Row). slice_get w i) (sym g.1) ∙ a)) (place_less rows g.0 j q m (ap (λ (w : List Row). slice_get w j) (sym g.1) ∙ b)) c

pub pair_down : (rows rs : List Row) (js ks : List Line) (i j : ℕ) (new : List Row) → IsExtended rows js rs ks → IsPairThere rs i j new → IsPairThere rows i j new
pair_down rows rs js ks i j new e h p q o a b c =
    let g = grown rows js rs ks e in
    h p q o (ap (λ (w : List Row). slice_get w i) g.1 ∙ get_append rows g.0 i p a) (ap (λ (w : List Row). slice_get w j) g.1 ∙ get_append rows g.0 j q b) c

pub longer : (rows rs : List Row) (js ks : List Line) → IsExtended rows js rs ks → length rows ≤ length rs
longer rows rs js ks e = let g = grown rows js rs ks e in let l = length-append rows g.0 in let h : length rs ≡ length (rows ++ g.0) = ap (λ (w : List Row). length w) g.1 in omega (arith, l, h)

-- ---- the pairs of one row with those before it
pub closed_step : (rows rs : List Row) (js ks : List Line) (place : ℕ) → place < length rows → IsExtended rows js rs ks → ArePaired rows place place rs → AreClosedBelow place rows → AreClosedBelow (place + 1) rs
closed_step rows rs js ks place l e pairs closed i j li lj = pair_up rows rs js ks i j rs e (omega (arith, l, li)) (omega (arith, l, lj)) (below (dec_lt i place) (dec_lt j place))
  where
    itself : (k : ℕ) → IsPairThere rows k k rs
    itself k p q o a b c =
        let s : Some p ≡ Some q = sym a ∙ b in
        let t : q ≡ p = cc in
        absurd (never_itself p.lin o (subst (λ (r : Row). HaveLast p.lin r.lin o) t c))

    below : Dec (i < place) → Dec (j < place) → IsPairThere rows i j rs
    below (yes m) (yes n) = pair_more rows i j rows rs js ks e (closed i j m n)
    below (yes m) (no n) = let s : place ≡ j = omega (arith, lj, n) in subst (λ (k : ℕ). IsPairThere rows i k rs) s ((pairs i m).1)
    below (no m) (yes n) = let s : place ≡ i = omega (arith, li, m) in subst (λ (k : ℕ). IsPairThere rows k j rs) s ((pairs j n).0)
    below (no m) (no n) =
        let s : place ≡ i = omega (arith, li, m) in
        let t : place ≡ j = omega (arith, lj, n) in
        subst (λ (k : ℕ). IsPairThere rows k j rs) s (subst (λ (k : ℕ). IsPairThere rows place k rs) t (itself place))

pub none_closed : (rows : List Row) → AreClosedBelow 0 rows
none_closed rows i j l m = absurd (omega (arith, l))

pub closed_less : (rows : List Row) (k n : ℕ) → n ≤ k → AreClosedBelow k rows → AreClosedBelow n rows
closed_less rows k n h c i j l m = c i j (omega (arith, h, l)) (omega (arith, h, m))
