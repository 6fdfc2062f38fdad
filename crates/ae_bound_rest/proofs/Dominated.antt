-- Each row that counts is above a kept row, so the widths of the making of the point of the kept rows are licensed.
use Rattle.std.specs.Prelude.{ℕ, pos, ◌-ℤ◌, Bool, true, false, ◌&&◌, ◌||◌, List, [], ◌∷◌, map, ◌≡◌, ◌≢◌, ◌⊎◌, Option, Some, None, length}
use Rattle.std.specs.List.{Contains}
use Rattle.std.proofs.Common.{refl, sym, ap, ◌∙◌, subst, inl, inr}
use Rattle.std.proofs.lemmas.Bool.{and_parts}
use Rattle.std.proofs.lemmas.List.Elements.{Contains-append_cases}
use native.Mathlib.Decide.{ℕ_discrete}
use Rattle.ae_base.proofs.Tests.{true_false}
use Rattle.ae_math.specs.Fractions.{ℚ, zero_ℚ, one_ℚ, neg_ℚ, ◌*ℚ◌, ratio, is_positive}
use Rattle.ae_math.specs.Forms.{Form, SameForm, scale}
use Rattle.ae_math.proofs.FractionLaws.{mul_zero_q, neg_zero_q, cancel_q}
use Rattle.ae_math.proofs.FractionOrder.{positive_zero}
use Rattle.ae_math.proofs.FormLaws.{scale_one, same_trans, factor_in-scale}
use Rattle.ae_num.specs.declared.forms.Part.{Part}
use Rattle.ae_num.specs.declared.forms.Lin.{Lin}
use Rattle.ae_num.specs.Forms.{meaning, IsNormal, SameMeaning}
use Rattle.ae_num.specs.Limits.{FitsLimits}
use Rattle.ae_rows.specs.Rows.{factor_at, combination, IsOver, IsLower, IsUpper, IsCovered}
use Rattle.ae_rows.specs.Rows.IsCovered.{weaker}
use Rattle.ae_rows.proofs.Choosing.{positive_one}
use Rattle.ae_rows.proofs.Elimination.{positive_nonzero}
use Rattle.ae_journal.specs.Sides.{IsRounded}
use Rattle.ae_journal.specs.Values.{Sum, leaf_factor, sum_of_lin}
use Rattle.ae_journal.specs.Standing.{Setting}
use Rattle.ae_journal.specs.Rows.{IsRow}
use Rattle.ae_journal.specs.Licences.{IsLicensed}
use Rattle.ae_journal.specs.declared.lines.Line.{Line}
use Rattle.ae_journal.specs.declared.answers.WideAt.{WideAt}
use Rattle.ae_journal.proofs.Splits.{all_contained, contains_one}
use Rattle.ae_combine_lines.proofs.Sums.{factor_in_sum}
use Rattle.ae_combine_lines.proofs.Standing.{row_stays}
use Rattle.ae_rounding.specs.Outside.{IsOutside}
use Rattle.ae_ineq.specs.Inner.Sets.{IsMultiple}
use Rattle.ae_ineq.specs.Widths.{IsPointWide}
use Rattle.ae_ineq.proofs.RowSets.{multiples_meet}
use Rattle.ae_bounds.specs.declared.rows.Row.{Row}
use Rattle.ae_bounds.specs.declared.rows.Unrounded.{Unrounded}
use Rattle.ae_bounds.specs.declared.rows.Origin.TheVariants.{Assumed}
use Rattle.ae_bounds.specs.Rounding.{StaysUnrounded, DoesCount, IsRowOf, HasForm, IsLeastRounded, WasRounded, AreSettled}
use Rattle.ae_bounds.specs.Rounding.StaysUnrounded.{a_number, outside, no_change}
use Rattle.ae_bounds.specs.Rounding.IsRowOf.{as_it_is, rounded}
use Rattle.ae_bounds.specs.Rounding.HasForm.{own as has_own, assumed}
use Rattle.ae_bounds.specs.Combinations.{IsThere, IsCombinationOf, IsDone}
use Rattle.ae_bounds.proofs.OwnForms.{counts_of, own_unrounded}
use Rattle.ae_bounds.proofs.Rounded.{IsWeaker}
use Rattle.ae_bounds.proofs.SameDirection.{turned}
use Rattle.ae_bounds.proofs.Zeros.{bare_form}
use Rattle.ae_bound_points.specs.Points.{IsNonzeroRow}
use Rattle.ae_bound_points.proofs.Weaker.{loose_cases, multiple_weaker, weaker_on}
use Rattle.ae_bound_widths.specs.Laws.{IsNamedRow, AreAllKept}
use Rattle.ae_bound_widths.specs.Fractions.{AreFinished}
use Rattle.ae_bound_widths.proofs.Kept.{kept_licensed_by}
use Rattle.ae_bound_widths.proofs.Left.{first_some}
use Rattle.ae_bound_rest.specs.Rest.{plain, counted, counted_of, IsRoundingOf, IsStandingIn, IsFormRow, IsMade, IsGrown, AreAllNoted}
use Rattle.ae_bound_rest.specs.Rest.IsGrown.{as_it_was, one_more}
use Rattle.ae_bound_rest.specs.Laws.{IsSorted, AreAgreed, AreThoseAssumed}
use Rattle.ae_bound_rest.proofs.Agreed.{combined_sorted}
use Rattle.ae_bound_rest.proofs.Roundings.{divided_some, rounded_again}
use Rattle.ae_bound_rest.proofs.Above.{IsAbove, same_above, firm_above, above_on, weaker_factor, above_lower, above_upper, combination_above, multiple_of}
use Rattle.ae_bound_rest.proofs.Solid.{rounded_above, most_by_firm, weaker_rounded}
use Rattle.ae_bound_rest.proofs.Edges.{loose_inside, beyond, over_edge, rounded_constant}
use Rattle.ae_bound_rest.proofs.Counting.{counted_cases, counted_plain, counted_does, unrounded_none, contains_grown}
use Rattle.ae_bound_rest.proofs.Growth.{IsFine, fine_in, grown_fine, in_map, map_in}
use Rattle.ae_bound_rest.proofs.Leaving.{member, none_left}

-- a row with a name is above a kept row of its sort
pub record IsDominated (rows : List Row) (s : Row) : Type 0 where
  pub row : Row
  pub among : Contains rows row
  pub sort : row.integral ≡ s.integral
  pub names : row.lin.parts ≢ []
  pub above : IsAbove (meaning s.lin) (meaning row.lin) (s.integral && s.strict) row.strict

-- it is a multiple of a row that counts, and above a form that a strict row can't be rounded from, which is above a kept row of its sort
record IsHeldAtEdge (rows sure : List Row) (s : Row) : Type 0 where
  row : Row
  among : Contains rows row
  sort : row.integral ≡ s.integral
  names : row.lin.parts ≢ []
  edge : Lin
  edge_normal : IsNormal edge
  edge_names : edge.parts ≢ []
  outside : IsOutside true edge
  to_edge : IsWeaker (meaning s.lin) (meaning edge)
  to_row : IsWeaker (meaning edge) (meaning row.lin)
  there : IsThere sure (meaning s.lin)

data IsNear (rows sure : List Row) (s : Row) : Type 0 where
  dominated : IsDominated rows s → IsNear rows sure s
  held : IsHeldAtEdge rows sure s → IsNear rows sure s

-- a kept row over integers allows equality and isn't rounded any further, or it is strict and can't be
data IsKind (r : Row) : Type 0 where
  may_equal : r.strict ≡ false → IsRounded false r.lin r.lin → IsKind r
  stays_strict : r.strict ≡ true → IsOutside true r.lin → IsKind r

-- a form with a name has parts
no_factor : (l : Lin) (k : ℕ) → l.parts ≡ [] → factor_at k (meaning l) ≡ zero_ℚ
no_factor l k e = ap (λ (ps : List Part). factor_at k (record { parts = map (λ (p : Part). (p.key, ratio p.factor l.den)) ps; constant = ratio l.constant l.den })) e

pub some_parts : (l : Lin) (k : ℕ) → factor_at k (meaning l) ≢ zero_ℚ → l.parts ≢ []
some_parts l k m e = m (no_factor l k e)

pub some_name : (l : Lin) → IsNormal l → l.parts ≢ [] → (k : ℕ) × (factor_at k (meaning l) ≢ zero_ℚ)
some_name l n m = by_parts l.parts refl
  where
    by_parts : (ps : List Part) → l.parts ≡ ps → (k : ℕ) × (factor_at k (meaning l) ≢ zero_ℚ)
    by_parts [] e = absurd (m e)
    by_parts (p ∷ ps) e = (p.key, first_some l n p ps e)

negative_some : (c : ℚ) → is_positive (neg_ℚ c) ≡ true → c ≢ zero_ℚ
negative_some c p z = true_false (sym p ∙ ap (λ y. is_positive (neg_ℚ y)) z ∙ ap is_positive neg_zero_q ∙ positive_zero)

itself_weaker : (f : Form ℕ) → IsWeaker f f
itself_weaker f = multiple_weaker f f (record { times = one_ℚ; positive = positive_one; same = scale_one ℕ_discrete f })

-- a name of a form is one of each form that it is above
still_some : (f g : Form ℕ) → IsWeaker f g → (k : ℕ) → factor_at k f ≢ zero_ℚ → factor_at k g ≢ zero_ℚ
still_some f g w k m z = m (cancel_q w.times (factor_at k f) zero_ℚ (positive_nonzero w.times w.positive) (weaker_factor f g w k ∙ z ∙ sym (mul_zero_q w.times)))

weaker_same : (f g : Form ℕ) → SameForm ℕ_discrete f g → IsWeaker f g
weaker_same f g s = multiple_weaker f g (record { times = one_ℚ; positive = positive_one; same = same_trans ℕ_discrete (scale one_ℚ f) f g (scale_one ℕ_discrete f) s })

module _ (x : Setting) (js : List Line) (rows : List Row) (a : AreAgreed x js rows) (done : AreFinished rows) (settled : AreSettled rows) where
  normal_kept : (r : Row) → Contains rows r → IsNormal r.lin
  normal_kept r c = all_contained (λ (t : Row). IsNormal t.lin) rows r done.normal c

  -- ---- kept rows
  kind_of : (r : Row) → Contains rows r → r.integral ≡ true → r.lin.parts ≢ [] → IsKind r
  kind_of r c i m = by_unrounded r.unrounded refl
    where
      by_strict : (b : Bool) → r.strict ≡ b → IsOutside r.strict r.lin → IsKind r
      by_strict false e o = absurd (loose_inside r.lin (normal_kept r c) m (subst (λ b. IsOutside b r.lin) e o))
      by_strict true e o = stays_strict e (subst (λ b. IsOutside b r.lin) e o)

      by_stays : StaysUnrounded r.strict r.lin → IsKind r
      by_stays (a_number z) = absurd (m z)
      by_stays (outside o) = by_strict r.strict refl o
      by_stays (no_change s d) = may_equal s (subst (λ b. IsRounded b r.lin r.lin) s d)

      by_unrounded : (u : Option Unrounded) → r.unrounded ≡ u → IsKind r
      by_unrounded None e = by_stays (settled r c e i)
      by_unrounded (Some u) e = let w = done.rounded r u c e in may_equal w.loose (rounded_again u.strict u.lin w.normal w.names r.lin w.is)

  own_dominated : (r : Row) → Contains rows r → (b : Bool) → r.lin.parts ≢ [] → IsDominated rows (plain r.lin r.strict r.integral b)
  own_dominated r c b m = record { row = r; among = c; sort = refl; names = m; above = record { weaker = itself_weaker (meaning r.lin); firm = λ e. inr (and_parts r.integral r.strict e).1 } }

  counted_dominated : (r : Row) → Contains rows r → (counted r).lin.parts ≢ [] → IsDominated rows (counted r)
  counted_dominated r c =
      counted_cases (λ (y : Row). y.lin.parts ≢ [] → IsDominated rows y) r
      (λ tag u e f m. let w = done.rounded r u c f in
      record {
        row = r;
        among = c;
        sort = refl;
        names = divided_names u r w;
        above = (let h = rounded_above u.strict u.lin r.lin w.normal w.names w.row_normal w.is r.strict in record { weaker = h.weaker; firm = λ d. h.firm ((and_parts r.integral u.strict d).1) });
      })
      (λ tag e m. own_dominated r c r.counts m) (λ i j e m. own_dominated r c true m)
    where
      divided_names : (u : Unrounded) (r : Row) → WasRounded u r → r.lin.parts ≢ []
      divided_names u r w = divided_some u.strict u.lin w.normal w.names r.lin w.is

  -- ---- what is rounded
  -- a row that allows equality, where its form is above a kept row
  weakly : (p r : Row) → Contains rows r → r.integral ≡ p.integral → r.lin.parts ≢ [] → p.strict ≡ false → IsWeaker (meaning p.lin) (meaning r.lin) → IsDominated rows p
  weakly p r c i m s w = record {
    row = r;
    among = c;
    sort = i;
    names = m;
    above = record { weaker = w; firm = λ e. absurd (true_false (sym (and_parts p.integral p.strict e).1 ∙ s)) };
  }

  -- it is above the same kept row
  rounding_dominated : (s p : Row) → IsNormal s.lin → IsDominated rows s → IsRoundingOf s p → IsDominated rows p
  rounding_dominated s p n d h =
      weakly p d.row d.among (whole ∙ sym (ap (λ (y : Row). y.integral) h.own)) d.names (ap (λ (y : Row). y.strict) h.own) (by_kind (kind_of d.row d.among whole d.names))
    where
      whole : (d.row).integral ≡ true
      whole = d.sort ∙ h.whole

      by_kind : IsKind d.row → IsWeaker (meaning p.lin) (meaning d.row.lin)
      by_kind (stays_strict e o) = over_edge d.row.lin (normal_kept d.row d.among) d.names o s.strict s.lin p.lin n h.names h.normal h.is d.above.weaker
      by_kind (may_equal e k) =
          weaker_rounded s.strict s.lin p.lin d.row.lin n h.names h.normal h.is (normal_kept d.row d.among) d.names k d.above.weaker
          (most_by_firm s.strict s.lin p.lin d.row.lin n h.names h.normal h.is (normal_kept d.row d.among) d.names k d.above.weaker
          (λ t. elim (d.above.firm ((λ i. h.whole i && s.strict) ∙ t)) [ inl q ↦ q | inr q ↦ absurd (true_false (sym q ∙ e)) ]))

  -- ---- the combination of two kept rows
  -- the row that is made of it is below it
  made_above : (p q c : Row) (n : ℕ) → IsCombinationOf p q n c → IsAbove (combination n (meaning p.lin) (meaning q.lin)) (meaning c.lin) (p.strict || q.strict) c.strict
  made_above p q c n of = by_row of.of
    where
      to_form : IsWeaker (combination n (meaning p.lin) (meaning q.lin)) (meaning of.form)
      to_form =
          multiple_weaker (combination n (meaning p.lin) (meaning q.lin)) (meaning of.form)
          (turned (meaning of.form) (combination n (meaning p.lin) (meaning q.lin))
          (record { times = one_ℚ; positive = positive_one; same = same_trans ℕ_discrete (scale one_ℚ (meaning of.form)) (meaning of.form) (combination n (meaning p.lin) (meaning q.lin)) (scale_one ℕ_discrete (meaning of.form)) of.same }))

      by_row : IsRowOf of.form (p.strict || q.strict) c → IsAbove (combination n (meaning p.lin) (meaning q.lin)) (meaning c.lin) (p.strict || q.strict) c.strict
      by_row (as_it_is e s u stays) = record { weaker = subst (λ (l : Lin). IsWeaker (combination n (meaning p.lin) (meaning q.lin)) (meaning l)) (sym e) to_form; firm = λ t. inr (s ∙ t) }
      by_row (rounded i m d s u) =
          above_on (combination n (meaning p.lin) (meaning q.lin)) (meaning of.form) (meaning c.lin) (p.strict || q.strict) (p.strict || q.strict) c.strict
          (same_above (combination n (meaning p.lin) (meaning q.lin)) (meaning of.form) (p.strict || q.strict) to_form)
          (rounded_above (p.strict || q.strict) of.form c.lin of.form_normal m of.normal d c.strict)

  -- a strict one over integers can't be rounded
  made_outside : (p q c : Row) (n : ℕ) → IsCombinationOf p q n c → c.integral ≡ true → c.strict ≡ true → c.lin.parts ≢ [] → IsOutside true c.lin
  made_outside p q c n of i t m = by_row of.of
    where
      by_stays : (b : Bool) → b ≡ true → StaysUnrounded b c.lin → IsOutside true c.lin
      by_stays b e (a_number z) = absurd (m z)
      by_stays b e (no_change s d) = absurd (true_false (sym e ∙ s))
      by_stays b e (outside o) = subst (λ z. IsOutside z c.lin) e o

      by_row : IsRowOf of.form (p.strict || q.strict) c → IsOutside true c.lin
      by_row (as_it_is e s u stays) = by_stays (p.strict || q.strict) (sym s ∙ t) (subst (StaysUnrounded (p.strict || q.strict)) (sym e) (stays i))
      by_row (rounded j z d s u) = absurd (true_false (sym t ∙ s))

  -- ---- a combination of two rows that are above kept ones
  module _ (sure : List Row) (start : (r : Row) → Contains rows r → Contains sure (counted r)) (p q : Row) (n : ℕ) (form : Lin) (sorted : IsSorted x (plain form (p.strict || q.strict) (p.integral && q.integral) true))
      (d : IsDominated rows p) (e : IsDominated rows q) (low : IsLower n (meaning p.lin)) (up : IsUpper n (meaning q.lin)) (same : SameMeaning (meaning form) (combination n (meaning p.lin) (meaning q.lin)))
      (some : form.parts ≢ []) (normal : IsNormal form) where
    abbrev strict : Bool
    strict = (p.integral && q.integral) && (p.strict || q.strict)

    abbrev own : Row
    own = plain form (p.strict || q.strict) (p.integral && q.integral) true

    done_row : IsDone rows d.row e.row n
    done_row = done.closed n d.row e.row d.among e.among (above_lower n (meaning p.lin) (meaning d.row.lin) d.above.weaker low) (above_upper n (meaning q.lin) (meaning e.row.lin) e.above.weaker up)

    abbrev made : Row
    made = done_row.row

    to_made : IsAbove (meaning form) (meaning made.lin) strict made.strict
    to_made =
        let here = combination n (meaning p.lin) (meaning q.lin) in
        let there = combination n (meaning d.row.lin) (meaning e.row.lin) in
        let both = combination_above n (meaning p.lin) (meaning q.lin) (meaning d.row.lin) (meaning e.row.lin) (p.integral && p.strict) (q.integral && q.strict) d.row.strict e.row.strict strict
        d.above e.above low up (strict_one p.integral q.integral p.strict q.strict) in
        above_on (meaning form) here (meaning made.lin) strict strict made.strict (same_above (meaning form) here strict (weaker_same (meaning form) here same))
        (above_on here there (meaning made.lin) strict (d.row.strict || e.row.strict) made.strict both (made_above d.row e.row made n done_row.of))
      where
        strict_one : (i j s t : Bool) → (i && j) && (s || t) ≡ true → (i && s ≡ true) ⊎ (j && t ≡ true)
        strict_one true true true t h = inl refl
        strict_one true true false t h = inr h
        strict_one true false s t h = absurd (true_false (sym h))
        strict_one false j s t h = absurd (true_false (sym h))

    -- the names and the sort of a row that the form is above
    some_below : (l : Lin) → IsWeaker (meaning form) (meaning l) → l.parts ≢ []
    some_below l w = by_name (some_name form normal some)
      where
        by_name : (k : ℕ) × (factor_at k (meaning form) ≢ zero_ℚ) → l.parts ≢ []
        by_name (k, m) = some_parts l k (still_some (meaning form) (meaning l) w k m)

    sort_below : (r : Row) → Contains rows r → IsWeaker (meaning form) (meaning r.lin) → r.integral ≡ p.integral && q.integral
    sort_below r c w = by_name (some_name form normal some)
      where
        by_name : (k : ℕ) × (factor_at k (meaning form) ≢ zero_ℚ) → r.integral ≡ p.integral && q.integral
        by_name (k, m) = one_integral r.integral (p.integral && q.integral) refl refl
          where
            there : factor_at k (meaning r.lin) ≢ zero_ℚ
            there = still_some (meaning form) (meaning r.lin) w k m

            one_integral : (b z : Bool) → r.integral ≡ b → p.integral && q.integral ≡ z → r.integral ≡ p.integral && q.integral
            one_integral true z f g = f ∙ sym (sorted.integral k m ((a.sorted r c).whole k there f))
            one_integral false false f g = f ∙ sym g
            one_integral false true f g = absurd (true_false (sym ((a.sorted r c).integral k there (sorted.whole k m g)) ∙ f))

    near_by : (r : Row) → Contains rows r → IsAbove (meaning form) (meaning r.lin) strict r.strict → IsNear rows sure own
    near_by r c h = dominated (record { row = r; among = c; sort = sort_below r c h.weaker; names = some_below r.lin h.weaker; above = h })

    -- the row that is made is held by a row that allows equality: a positive number is left over, or no more than a multiple
    near_loose : (r : Row) → Contains rows r → DoesCount r → IsWeaker (meaning made.lin) (meaning r.lin) → ((c : made.integral ≡ true) → made.strict ≡ true → IsOutside true made.lin → IsMultiple (meaning (counted r).lin) (meaning made.lin))
        → IsNear rows sure own
    near_loose r c counts w multiple = by_strict strict refl
      where
        weak : IsWeaker (meaning form) (meaning r.lin)
        weak = weaker_on (meaning form) (meaning made.lin) (meaning r.lin) to_made.weaker w

        firmly : is_positive to_made.weaker.rest ≡ true → IsNear rows sure own
        firmly h =
            near_by r c
            (above_on (meaning form) (meaning made.lin) (meaning r.lin) strict false r.strict (firm_above (meaning form) (meaning made.lin) strict false to_made.weaker h)
            (record { weaker = w; firm = λ z. absurd (true_false (sym z)) }))

        -- nothing is left over
        at_edge : strict ≡ true → made.strict ≡ true → to_made.weaker.rest ≡ zero_ℚ → IsNear rows sure own
        at_edge s t z =
            let i = and_parts p.integral q.integral (and_parts (p.integral && q.integral) (p.strict || q.strict) s).0 in
            let whole : made.integral ≡ true = done_row.of.sort ∙ (λ k. (d.sort ∙ i.0) k && (e.sort ∙ i.1) k) in
            let names : made.lin.parts ≢ [] = some_below made.lin to_made.weaker in
            let out = made_outside d.row e.row made n done_row.of whole t names in
            let m = multiples_meet (meaning (counted r).lin) (meaning form) (meaning made.lin) (multiple whole t out) (multiple_of (meaning form) (meaning made.lin) to_made.weaker z) in
            held (record {
              row = r;
              among = c;
              sort = sort_below r c weak;
              names = some_below r.lin weak;
              edge = made.lin;
              edge_normal = done_row.of.normal;
              edge_names = names;
              outside = out;
              to_edge = to_made.weaker;
              to_row = w;
              there = record {
                row = counted r;
                among = start r c;
                form = (counted r).lin;
                of = own_unrounded (counted r) (λ tag e. counted_does r counts) (unrounded_none (counted r) (counted_plain r));
                times = m.times;
                positive = m.positive;
                same = m.same;
              };
            })

        by_rest : strict ≡ true → made.strict ≡ true → (is_positive to_made.weaker.rest ≡ true) ⊎ (to_made.weaker.rest ≡ zero_ℚ) → IsNear rows sure own
        by_rest s t (inl h) = firmly h
        by_rest s t (inr z) = at_edge s t z

        by_firm : strict ≡ true → (is_positive to_made.weaker.rest ≡ true) ⊎ (made.strict ≡ true) → IsNear rows sure own
        by_firm s (inl h) = firmly h
        by_firm s (inr t) = by_rest s t (loose_cases to_made.weaker.rest to_made.weaker.loose)

        by_strict : (b : Bool) → strict ≡ b → IsNear rows sure own
        by_strict false s = near_by r c (record { weaker = weak; firm = λ t. absurd (true_false (sym t ∙ s)) })
        by_strict true s = by_firm s (to_made.firm s)

    form_near : IsNear rows sure own
    form_near = by_form t.form t.of (record { times = t.times; positive = t.positive; same = t.same })
      where
        t : IsThere rows (meaning made.lin)
        t = done_row.held.there

        counting : DoesCount t.row
        counting = counts_of t.row t.form t.of

        down : (l : Lin) → IsMultiple (meaning l) (meaning made.lin) → IsWeaker (meaning made.lin) (meaning l)
        down l k = multiple_weaker (meaning made.lin) (meaning l) (turned (meaning l) (meaning made.lin) k)

        -- a row whose own form counts wasn't rounded, or its constant isn't the least
        own_multiple : ¬ IsLeastRounded t.row → t.row.strict ≡ false → IsMultiple (meaning t.row.lin) (meaning made.lin) → made.integral ≡ true → made.strict ≡ true → IsOutside true made.lin
            → IsMultiple (meaning (counted t.row).lin) (meaning made.lin)
        own_multiple more f k i s o =
            counted_cases (λ (y : Row). IsMultiple (meaning y.lin) (meaning made.lin)) t.row
            (λ tag u g h. let w = done.rounded t.row u t.among h in
            let names = some_below made.lin to_made.weaker in
            let again = rounded_again u.strict u.lin w.normal w.names t.row.lin w.is in
            let c = rounded_constant made.lin done_row.of.normal names o t.row.lin w.row_normal (divided_some u.strict u.lin w.normal w.names t.row.lin w.is) again k in
            absurd (more (record { tag = tag; from = g; earlier = u; was = h; least = λ z. beyond made.lin done_row.of.normal names o (subst (λ y. FitsLimits (y -ℤ pos 1)) c z) })))
            (λ tag g. k) (λ lower upper g. k)

        by_own : (b : Bool) → t.row.strict ≡ b → ¬ IsLeastRounded t.row → IsMultiple (meaning t.row.lin) (meaning made.lin) → IsNear rows sure own
        by_own true f more k =
            near_by t.row t.among (above_on (meaning form) (meaning made.lin) (meaning t.row.lin) strict made.strict t.row.strict to_made (record { weaker = down t.row.lin k; firm = λ z. inr f }))
        by_own false f more k = near_loose t.row t.among counting (down t.row.lin k) (own_multiple more f k)

        by_earlier : (u : Unrounded) (tag : ℕ) → t.row.from ≡ Assumed tag → t.row.unrounded ≡ Some u → IsMultiple (meaning u.lin) (meaning made.lin) → (b : Bool) → u.strict ≡ b → IsNear rows sure own
        by_earlier u tag f g k true h =
            let w = done.rounded t.row u t.among g in
            near_by t.row t.among
            (above_on (meaning form) (meaning made.lin) (meaning t.row.lin) strict made.strict t.row.strict to_made
            (above_on (meaning made.lin) (meaning u.lin) (meaning t.row.lin) made.strict u.strict t.row.strict (record { weaker = down u.lin k; firm = λ z. inr h })
            (rounded_above u.strict u.lin t.row.lin w.normal w.names w.row_normal w.is t.row.strict)))
        by_earlier u tag f g k false h =
            let w = done.rounded t.row u t.among g in
            let is : counted t.row ≡ plain u.lin u.strict t.row.integral t.row.counts = (λ i. counted_of (f i) (g i) t.row) in
            near_loose t.row t.among counting (weaker_on (meaning made.lin) (meaning u.lin) (meaning t.row.lin) (down u.lin k) (rounded_above u.strict u.lin t.row.lin w.normal w.names w.row_normal w.is t.row.strict).weaker)
            (λ i s o. subst (λ (y : Row). IsMultiple (meaning y.lin) (meaning made.lin)) (sym is) k)

        by_form : (l : Lin) → HasForm t.row l → IsMultiple (meaning l) (meaning made.lin) → IsNear rows sure own
        by_form _ (has_own d more) k = by_own t.row.strict refl more k
        by_form _ (assumed d tag u f g) k = by_earlier u tag f g k u.strict refl

  -- ---- all rows that count
  made_dominated : (rs : List Row) (ls : List Line) → ((r : Row) → Contains rows r → Contains rs (counted r)) → ((s : Row) → Contains rs s → IsFine x ls s) → ((s : Row) → Contains rs s → s.lin.parts ≢ [] → IsDominated rows s)
      → (r : Row) → IsMade rs r → ¬ IsThere rs (meaning r.lin) → r.lin.parts ≢ [] → IsDominated rows r
  made_dominated rs ls start fine all r m new some = by_form m.is
    where
      standing : (p : Row) → IsStandingIn rs p → p.lin.parts ≢ [] → IsDominated rows p
      standing p (inl c) n = all p c n
      standing p (inr h) n = rounding_dominated h.0 p (fine h.0 h.1).normal (all h.0 h.1 (h.2).names) h.2

      first : IsDominated rows m.first
      first = standing m.first m.opposed.first_in (some_parts m.first.lin m.name (positive_nonzero (factor_at m.name (meaning m.first.lin)) m.opposed.below.sign))

      second : IsDominated rows m.second
      second = standing m.second m.opposed.second_in (some_parts m.second.lin m.name (negative_some (factor_at m.name (meaning m.second.lin)) m.opposed.above.sign))

      sorted : IsSorted x (plain m.form (m.first.strict || m.second.strict) (m.first.integral && m.second.integral) true)
      sorted =
          combined_sorted x m.first m.second (plain m.form (m.first.strict || m.second.strict) (m.first.integral && m.second.integral) true) m.name (fine_in x ls rs fine m.first m.opposed.first_in).sorted
          (fine_in x ls rs fine m.second m.opposed.second_in).sorted m.opposed.below m.opposed.above refl (λ k h z. h (m.same.factors k ∙ z))

      near : m.form.parts ≢ [] → IsNear rows rs (plain m.form (m.first.strict || m.second.strict) (m.first.integral && m.second.integral) true)
      near n = form_near rs start m.first m.second m.name m.form sorted first second m.opposed.below m.opposed.above m.same n m.form_normal

      -- the combination as it is
      plainly : r ≡ plain m.form (m.first.strict || m.second.strict) (m.first.integral && m.second.integral) true → IsNear rows rs (plain m.form (m.first.strict || m.second.strict) (m.first.integral && m.second.integral) true) → IsDominated rows r
      plainly e (dominated d) = subst (IsDominated rows) (sym e) d
      plainly e (held k) = absurd (new (subst (λ (y : Row). IsThere rs (meaning y.lin)) (sym e) k.there))

      -- and rounded
      roundly : IsRoundingOf (plain m.form (m.first.strict || m.second.strict) (m.first.integral && m.second.integral) true) r → IsNear rows rs (plain m.form (m.first.strict || m.second.strict) (m.first.integral && m.second.integral) true) → IsDominated rows r
      roundly h (dominated d) = rounding_dominated (plain m.form (m.first.strict || m.second.strict) (m.first.integral && m.second.integral) true) r m.form_normal d h
      roundly h (held k) =
          weakly r k.row k.among (k.sort ∙ h.whole ∙ sym (ap (λ (y : Row). y.integral) h.own)) k.names (ap (λ (y : Row). y.strict) h.own)
          (weaker_on (meaning r.lin) (meaning k.edge) (meaning k.row.lin)
          (over_edge k.edge k.edge_normal k.edge_names k.outside (m.first.strict || m.second.strict) m.form r.lin m.form_normal h.names h.normal h.is k.to_edge) k.to_row)

      by_form : IsFormRow m.form (m.first.strict || m.second.strict) (m.first.integral && m.second.integral) r → IsDominated rows r
      by_form (inl e) = plainly e (near (λ z. some (ap (λ (y : Row). y.lin.parts) e ∙ z)))
      by_form (inr h) = roundly h (near h.names)

  grown_dominated : (sure : List Row) (ks : List Line) → IsGrown (map counted rows) js sure ks → (s : Row) → Contains sure s → s.lin.parts ≢ [] → IsDominated rows s
  grown_dominated _ _ as_it_was s c n = let m = in_map counted rows s c in subst (λ (y : Row). y.lin.parts ≢ [] → IsDominated rows y) m.2 (counted_dominated m.0 m.1) n
  grown_dominated _ _ (one_more rs ks r g m d t) s c n =
      elim (Contains-append_cases rs (r ∷ []) s c) [
        | inl h ↦ grown_dominated rs ks g s h n
        | inr h ↦ (let e = contains_one r s h in subst (IsDominated rows) e
            (made_dominated rs ks (λ y o. contains_grown (map counted rows) js rs ks g (counted y) (map_in counted rows y o)) (grown_fine x 0 js rows a done rs ks g).fine (grown_dominated rs ks g) r m t
            (λ z. n (ap (λ (y : Row). y.lin.parts) (sym e) ∙ z))))
      ]

  still_row : (sure : List Row) (ks : List Line) → IsGrown (map counted rows) js sure ks → (b : Bool) (g : Sum) → IsRow x js b g → IsRow x ks b g
  still_row _ _ as_it_was b g h = h
  still_row _ _ (one_more rs ks r g m d t) b f h = row_stays x ks r.strict r.lin b f (still_row rs ks g b f h)

  module _ (ks : List Line) (all : AreAllNoted rows js ks) (given : AreThoseAssumed x ks rows) where
    -- each row that stands is covered by a kept one
    kept : AreAllKept x ks rows
    kept n strict g h l =
        let p = member x js rows ks a done all given strict g h in
        let fine = (grown_fine x 0 js rows a done all.sure ks all.grown).fine in
        let some : (p.0).lin.parts ≢ [] = some_parts (p.0).lin n (λ z. l.1 (sym (ap (λ (u : Sum). leaf_factor u.parts n) p.2) ∙ factor_in_sum (p.0).lin n ∙ z)) in
        let d = standing p.0 fine p.1 some in
        let w = d.above.weaker in
        subst (IsCovered (IsNamedRow rows)) p.2
        (weaker w.times w.positive w.rest w.loose (meaning d.row.lin) (record { row = d.row; among = d.among; is = refl; names = d.names })
        (record {
          factors = λ k. factor_in-scale ℕ_discrete w.times (sum_of_lin (p.0).lin).parts k ∙ ap (λ t. w.times *ℚ t) (factor_in_sum (p.0).lin k)
              ∙ sym (factor_in-scale ℕ_discrete w.times (meaning (p.0).lin).parts k) ∙ w.same.factors k;
          constants = w.same.constants;
        }))
      where
        standing : (q : Row) → ((s : Row) → Contains all.sure s → IsFine x ks s) → IsStandingIn all.sure q → q.lin.parts ≢ [] → IsDominated rows q
        standing q fine (inl c) m = grown_dominated all.sure ks all.grown q c m
        standing q fine (inr i) m = rounding_dominated i.0 q (fine i.0 i.1).normal (grown_dominated all.sure ks all.grown i.0 i.1 (i.2).names) i.2

    stand : (r : Row) → Contains rows r → r.lin.parts ≢ [] → IsRow x ks r.strict (sum_of_lin r.lin)
    stand r c m =
        still_row all.sure ks all.grown r.strict (sum_of_lin r.lin)
        (elim (all_contained (λ (t : Row). IsOver 0 (meaning t.lin) ⊎ IsRow x js t.strict (sum_of_lin t.lin)) rows r a.standing.stand c) [ inl o ↦ absurd (m (bare_form r.lin (normal_kept r c) o)) | inr s ↦ s ])

    named : (r : Row) → Contains rows r → IsOver (length x.names) (meaning r.lin)
    named r c = all_contained (λ (t : Row). IsOver (length x.names) (meaning t.lin)) rows r a.standing.named c

    pub making_licensed : (w : WideAt) → IsPointWide (IsNonzeroRow rows) w → IsLicensed x ks w
    making_licensed w p = kept_licensed_by x ks rows done.normal w stand named kept (none_left x js rows ks a done all given) p
