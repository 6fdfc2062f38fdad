-- Pairs of rows at places, of which the combinations are there.
use Rattle.std.specs.Prelude.{ℕ, suc, ◌+◌, ◌<◌, ◌≤◌, pos, true, List, ◌++◌, ◌≡◌, Option, Some, IfSome, Result, Ok, Err, OnOk, length, slice_get}
use Rattle.std.specs.List.{Contains}
use Rattle.std.proofs.Common.{refl, arith, sym, ap, ◌∙◌, subst, inl, inr, length-append}
use Rattle.std.proofs.lemmas.Option.{slice_get-get_or}
use native.Mathlib.Decide.{dec_lt}
use Rattle.ae_base.proofs.ListFacts.{get_append, value_at}
use Rattle.ae_base.proofs.Tests.{true_false}
use Rattle.ae_math.specs.Fractions.{zero_ℚ, neg_ℚ, ◌*ℚ◌, is_positive}
use Rattle.ae_math.proofs.FractionLaws.{mul_comm_q, mul_neg_q, mul_zero_q, cancel_q}
use Rattle.ae_math.proofs.FractionOrder.{positive_product, not_both_positive}
use Rattle.ae_rows.proofs.Elimination.{positive_nonzero}
use Rattle.ae_num.specs.Forms.{meaning, IsNormal}
use Rattle.ae_rows.specs.Rows.{factor_at, IsOver, IsLower, IsUpper}
use Rattle.ae_journal.specs.declared.lines.Line.{Line}
use Rattle.ae_journal.proofs.Splits.{contains_at}
use Rattle.ae_ineq.proofs.LastLaws.{ratio_positive}
use Rattle.ae_theory.specs.declared.theory.Fail.{Fail}
use Rattle.ae_bounds.specs.declared.rows.Row.{Row}
use Rattle.ae_bounds.specs.declared.combining.Opposed.{Opposed}
use Rattle.ae_bounds.specs.Inner.Pairs.{HaveLast}
use Rattle.ae_bounds.proofs.Lasts.{lower_last, upper_last}
use Rattle.ae_bounds.proofs.Closing.{place_less}
use Rattle.ae_bounds.proofs.Rounded.{times, above, factors}
use Rattle.ae_bound_rest.specs.Rest.{IsRoundingOf, IsStandingIn, IsGrown, IsComplete}
use Rattle.ae_bound_rest.specs.Inner.Pairs.{IsOneRow, IsBoth, IsOneOf, AreNormal, AreStandingIn, IsDoneOn, IsPairDone, ArePairsDone, AreDoneBelow}
use Rattle.ae_bound_rest.specs.declared.combining.Both.{Both}
use Rattle.ae_bound_rest.proofs.Counting.{grown_more, done_grown, both_normal, one_of_row, row_one_of}

-- ---- the largest name of a row is that of what it is rounded
module _ (p r : Row) (n : IsNormal p.lin) (h : IsRoundingOf p r) where
  pub scaled : (k : ℕ) → times p.strict p.lin r.lin n h.names h.normal h.is *ℚ factor_at k (meaning p.lin) ≡ factor_at k (meaning r.lin)
  scaled k = factors p.strict p.lin r.lin n h.names h.normal h.is k

  positive_times : is_positive (times p.strict p.lin r.lin n h.names h.normal h.is) ≡ true
  positive_times = ratio_positive p.lin.den (pos h.is.divisor) n.positive (above p.strict p.lin r.lin n h.names h.normal h.is)

  pub absent_back : (k : ℕ) → factor_at k (meaning r.lin) ≡ zero_ℚ → factor_at k (meaning p.lin) ≡ zero_ℚ
  absent_back k z =
      let t = times p.strict p.lin r.lin n h.names h.normal h.is in
      cancel_q t (factor_at k (meaning p.lin)) zero_ℚ (positive_nonzero t positive_times) (scaled k ∙ z ∙ sym (mul_zero_q t))

  pub over_back : (m : ℕ) → IsOver m (meaning r.lin) → IsOver m (meaning p.lin)
  over_back m o = record { absent = λ k l. absent_back k (o.absent k l) }

  pub lower_back : (m : ℕ) → IsLower m (meaning r.lin) → IsLower m (meaning p.lin)
  lower_back m low = record {
    largest = over_back (suc m) low.largest;
    sign = (let t = times p.strict p.lin r.lin n h.names h.normal h.is in
        sym (positive_product (factor_at m (meaning p.lin)) t positive_times) ∙ ap is_positive (mul_comm_q (factor_at m (meaning p.lin)) t ∙ scaled m) ∙ low.sign);
  }

  pub upper_back : (m : ℕ) → IsUpper m (meaning r.lin) → IsUpper m (meaning p.lin)
  upper_back m up = record {
    largest = over_back (suc m) up.largest;
    sign = (let t = times p.strict p.lin r.lin n h.names h.normal h.is in
        let x = factor_at m (meaning p.lin) in
        sym (positive_product (neg_ℚ x) t positive_times) ∙ ap is_positive (mul_comm_q (neg_ℚ x) t ∙ mul_neg_q t x ∙ ap neg_ℚ (scaled m)) ∙ up.sign);
  }

lower_own : (s p : Row) (m : ℕ) → IsNormal s.lin → IsOneRow s p → IsLower m (meaning p.lin) → IsLower m (meaning s.lin)
lower_own s p m n (inl e) low = subst (λ (x : Row). IsLower m (meaning x.lin)) e low
lower_own s p m n (inr h) low = lower_back s p n h m low

upper_own : (s p : Row) (m : ℕ) → IsNormal s.lin → IsOneRow s p → IsUpper m (meaning p.lin) → IsUpper m (meaning s.lin)
upper_own s p m n (inl e) up = subst (λ (x : Row). IsUpper m (meaning x.lin)) e up
upper_own s p m n (inr h) up = upper_back s p n h m up

-- two rows that can't be combined, nor what they are rounded
pub none_opposed : (s t p q : Row) → IsNormal s.lin → IsNormal t.lin → ((o : Opposed) → HaveLast s.lin t.lin o → ⊥) → IsOneRow s p → IsOneRow t q → (m : ℕ) → IsLower m (meaning p.lin) → IsUpper m (meaning q.lin) → ⊥
none_opposed s t p q n k none a b m low up =
    let x = lower_last m s.lin n (lower_own s p m n a low) in
    let y = upper_last m t.lin k (upper_own t q m k b up) in
    none (record { name = m; rising = x.0; falling = y.0 }) (record { first = x.1; second = y.1; positive = x.2; negative = y.2 })

-- a row can't be combined with itself
never_itself : (s p q : Row) → IsNormal s.lin → IsOneRow s p → IsOneRow s q → (m : ℕ) → IsLower m (meaning p.lin) → IsUpper m (meaning q.lin) → ⊥
never_itself s p q n a b m low up =
    true_false (sym (upper_own s q m n b up).sign ∙ not_both_positive (factor_at m (meaning s.lin)) (lower_own s p m n a low).sign)

-- ---- more rows
pub done_on_grown : (a : List Row) (js : List Line) (b : List Row) (ks : List Line) → IsGrown a js b ks → (p q : Row) → IsDoneOn a p q → IsDoneOn b p q
done_on_grown a js b ks g p q d n low up = done_grown a js b ks g p q n (d n low up)

pub pair_more : (rows : List Row) (i j : ℕ) (new : List Row) (js : List Line) (rs : List Row) (ks : List Line) → IsGrown new js rs ks → IsPairDone rows i j new → IsPairDone rows i j rs
pair_more rows i j new js rs ks g h s t p q a b c d = done_on_grown new js rs ks g p q (h s t p q a b c d)

-- the same rows at these places of the longer list
pub pair_up : (rows : List Row) (js : List Line) (rs : List Row) (ks : List Line) (i j : ℕ) (new : List Row) → IsGrown rows js rs ks → i < length rows → j < length rows → IsPairDone rows i j new → IsPairDone rs i j new
pair_up rows js rs ks i j new g l m h s t p q a b c d =
    let e = grown_more rows js rs ks g in
    h s t p q (place_less rows e.0 i s l (ap (λ (w : List Row). slice_get w i) (sym e.1) ∙ a)) (place_less rows e.0 j t m (ap (λ (w : List Row). slice_get w j) (sym e.1) ∙ b)) c d

pub pair_down : (rows : List Row) (js : List Line) (rs : List Row) (ks : List Line) (i j : ℕ) (new : List Row) → IsGrown rows js rs ks → IsPairDone rs i j new → IsPairDone rows i j new
pair_down rows js rs ks i j new g h s t p q a b c d =
    let e = grown_more rows js rs ks g in
    h s t p q (ap (λ (w : List Row). slice_get w i) e.1 ∙ get_append rows e.0 i s a) (ap (λ (w : List Row). slice_get w j) e.1 ∙ get_append rows e.0 j t b) c d

pub longer : (rows : List Row) (js : List Line) (rs : List Row) (ks : List Line) → IsGrown rows js rs ks → length rows ≤ length rs
longer rows js rs ks g = let e = grown_more rows js rs ks g in let l = length-append rows e.0 in let h : length rs ≡ length (rows ++ e.0) = ap (λ (w : List Row). length w) e.1 in omega (arith, l, h)

-- ---- one place more
pub none_paired : (rows : List Row) (place : ℕ) (new : List Row) → ArePairsDone rows place 0 new
none_paired rows place new k l = absurd (omega (arith, l))

-- the pairs of a row with one more row, both ways
pub paired_more : (rows : List Row) (place t : ℕ) (was : List Row) (ms : List Line) (now : List Row) (ns : List Line) → IsGrown was ms now ns → ArePairsDone rows place t was → IsPairDone rows place t now → IsPairDone rows t place now
    → ArePairsDone rows place (t + 1) now
paired_more rows place t was ms now ns g all one two k l = by_place (dec_lt k t)
  where
    by_place : Dec (k < t) → IsPairDone rows place k now × IsPairDone rows k place now
    by_place (yes m) = (pair_more rows place k was ms now ns g (all k m).0, pair_more rows k place was ms now ns g (all k m).1)
    by_place (no m) =
        let e : t ≡ k = omega (arith, l, m) in
        (subst (λ (i : ℕ). IsPairDone rows place i now) e one, subst (λ (i : ℕ). IsPairDone rows i place now) e two)

pub none_below : (rows : List Row) → AreDoneBelow 0 rows
none_below rows i j l m = absurd (omega (arith, l))

pub below_step : (rows : List Row) (js : List Line) (rs : List Row) (ks : List Line) (place : ℕ) → place < length rows → ((r : Row) → Contains rows r → IsNormal r.lin) → IsGrown rows js rs ks → ArePairsDone rows place place rs → AreDoneBelow place rows
    → AreDoneBelow (place + 1) rs
below_step rows js rs ks place l normal g pairs closed i j li lj = pair_up rows js rs ks i j rs g (omega (arith, l, li)) (omega (arith, l, lj)) (below (dec_lt i place) (dec_lt j place))
  where
    itself : (k : ℕ) → IsPairDone rows k k rs
    itself k s t p q a b c d m low up =
        let e : Some s ≡ Some t = sym a ∙ b in
        let f : t ≡ s = cc in
        absurd (never_itself s p q (normal s (contains_at rows k s a)) c (subst (λ (x : Row). IsOneRow x q) f d) m low up)

    below : Dec (i < place) → Dec (j < place) → IsPairDone rows i j rs
    below (yes m) (yes n) = pair_more rows i j rows js rs ks g (closed i j m n)
    below (yes m) (no n) = let e : place ≡ j = omega (arith, lj, n) in subst (λ (k : ℕ). IsPairDone rows i k rs) e ((pairs i m).1)
    below (no m) (yes n) = let e : place ≡ i = omega (arith, li, m) in subst (λ (k : ℕ). IsPairDone rows k j rs) e ((pairs j n).0)
    below (no m) (no n) =
        let e : place ≡ i = omega (arith, li, m) in
        let f : place ≡ j = omega (arith, lj, n) in
        subst (λ (k : ℕ). IsPairDone rows k j rs) e (subst (λ (k : ℕ). IsPairDone rows place k rs) f (itself place))

pub below_less : (rows : List Row) (k n : ℕ) → n ≤ k → AreDoneBelow k rows → AreDoneBelow n rows
below_less rows k n h c i j l m = c i j (omega (arith, h, l)) (omega (arith, h, m))

-- ---- all places
standing_place : (rows : List Row) (p : Row) → IsStandingIn rows p → (i : ℕ) × (s : Row) × (i < length rows) × (slice_get rows i ≡ Some s) × IsOneRow s p
standing_place rows p (inl c) = (c.0, p, c.1, slice_get-get_or rows c.0 p c.1 ∙ ap Some c.2, inl refl)
standing_place rows p (inr h) = let c = h.1 in (c.0, h.0, c.1, slice_get-get_or rows c.0 h.0 c.1 ∙ ap Some c.2, inr h.2)

pub all_complete : (rows : List Row) → AreDoneBelow (length rows) rows → IsComplete rows
all_complete rows done p q n o =
    let a = standing_place rows p o.first_in in
    let b = standing_place rows q o.second_in in
    done a.0 b.0 a.2 b.2 a.1 b.1 p q a.3 b.3 a.4 b.4 n o.below o.above

-- ---- the rows of two places with what they are rounded
pub pair_both : (rows : List Row) (i j : ℕ) (o : Option (Both × Both)) (low high : Both) → IfSome o (λ pair. (s t : Row) → slice_get rows i ≡ Some s → slice_get rows j ≡ Some t → IsBoth s pair.0 × IsBoth t pair.1) → o ≡ Some (low, high)
    → (s t : Row) → slice_get rows i ≡ Some s → slice_get rows j ≡ Some t → IsBoth s low × IsBoth t high
pair_both rows i j o low high h e = subst (λ (v : Option (Both × Both)). IfSome v (λ pair. (s t : Row) → slice_get rows i ≡ Some s → slice_get rows j ≡ Some t → IsBoth s pair.0 × IsBoth t pair.1)) e h

module _ (rows : List Row) (i j : ℕ) (low high : Both) (li : i < length rows) (lj : j < length rows) (normal : (r : Row) → Contains rows r → IsNormal r.lin)
    (both : (s t : Row) → slice_get rows i ≡ Some s → slice_get rows j ≡ Some t → IsBoth s low × IsBoth t high) where
  first : (s : Row) × (slice_get rows i ≡ Some s)
  first = value_at rows i li

  second : (t : Row) × (slice_get rows j ≡ Some t)
  second = value_at rows j lj

  each : IsBoth first.0 low × IsBoth second.0 high
  each = both first.0 second.0 first.1 second.1

  pub first_normal : AreNormal low
  first_normal = both_normal first.0 low (normal first.0 (contains_at rows i first.0 first.1)) each.0

  pub second_normal : AreNormal high
  second_normal = both_normal second.0 high (normal second.0 (contains_at rows j second.0 second.1)) each.1

  standing : (s : Row) → Contains rows s → (p : Row) → IsOneRow s p → IsStandingIn rows p
  standing s c p (inl e) = inl (subst (Contains rows) (sym e) c)
  standing s c p (inr h) = inr (s, c, h)

  pub first_standing : AreStandingIn rows low
  first_standing p o = standing first.0 (contains_at rows i first.0 first.1) p (one_of_row first.0 low p each.0 o)

  pub second_standing : AreStandingIn rows high
  second_standing p o = standing second.0 (contains_at rows j second.0 second.1) p (one_of_row second.0 high p each.1 o)

  pub places_done : {T : Type 0} (new : List Row) (result : Result T Fail) → OnOk result ((p q : Row) → IsOneOf low p → IsOneOf high q → IsDoneOn new p q) → OnOk result (IsPairDone rows i j new)
  places_done new (Err x) h = tt
  places_done new (Ok x) h = λ s t p q a b c d.
      let k = both s t a b in
      h p q (row_one_of s low p (normal s (contains_at rows i s a)) k.0 c) (row_one_of t high q (normal t (contains_at rows j t b)) k.1 d)
