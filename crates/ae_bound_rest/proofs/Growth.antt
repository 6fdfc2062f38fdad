-- Each line of the rest is legal, and each row that counts stands.
use Rattle.std.specs.Prelude.{ℕ, Bool, true, false, ◌&&◌, ◌||◌, List, [], ◌∷◌, ◌++◌, map, ◌≡◌, ◌≢◌, length, None}
use Rattle.std.specs.List.{Contains}
use Rattle.std.proofs.Common.{refl, sym, ap, ◌∙◌, subst, arith, inl, inr, append_assoc}
use Rattle.std.proofs.lemmas.List.{append-nil}
use Rattle.std.proofs.lemmas.List.Elements.{Contains-append_left, Contains-append_right, Contains-append_cases}
use Rattle.ae_math.specs.Fractions.{ℚ, zero_ℚ, neg_ℚ, is_positive}
use Rattle.ae_math.proofs.FractionLaws.{neg_zero_q}
use Rattle.ae_num.specs.declared.forms.Lin.{Lin}
use Rattle.ae_num.specs.Forms.{meaning, IsNormal, SameMeaning}
use Rattle.ae_rows.specs.Rows.{factor_at, combination, IsOver}
use Rattle.ae_rows.proofs.Elimination.{over_combination}
use Rattle.ae_journal.specs.Values.{Sum, sum_of_lin}
use Rattle.ae_journal.specs.Standing.{Setting, IsWholeRow}
use Rattle.ae_journal.specs.Standing.IsWholeRow.{of_combine, of_rounding}
use Rattle.ae_journal.specs.Rows.{IsRow, IsMultiple, MayCombine}
use Rattle.ae_journal.specs.Rows.IsRow.{of_line, of_whole}
use Rattle.ae_journal.specs.Legal.{IsLegalLine, AreLegal}
use Rattle.ae_journal.specs.declared.lines.Line.{Line}
use Rattle.ae_journal.specs.declared.lines.Line.TheVariants as line
use Rattle.ae_journal.proofs.Splits.{all_contained, contains_here, contains_later, contains_one, contains_cases}
use Rattle.ae_combine_lines.specs.Laws.{IsSure, AreOpposed}
use Rattle.ae_combine_lines.specs.Laws.IsSure.{of_literal as sure_literal, of_line as sure_line}
use Rattle.ae_combine_lines.proofs.Legal.{legal}
use Rattle.ae_combine_lines.proofs.Standing.{sure_less}
use Rattle.ae_combine_lines.proofs.Sums.{multiple_form}
use Rattle.ae_rounding.proofs.Legal.{rounded_legal}
use Rattle.ae_ineq.specs.Sums.{IsZero}
use Rattle.ae_bounds.specs.declared.rows.Row.{Row}
use Rattle.ae_bounds.specs.declared.rows.Unrounded.{Unrounded}
use Rattle.ae_bounds.specs.declared.rows.Origin.{Origin}
use Rattle.ae_bounds.specs.declared.rows.Origin.TheVariants.{Assumed, Combined}
use Rattle.ae_bounds.specs.Rounding.{WasRounded}
use Rattle.ae_bounds.specs.Combinations.{IsThere}
use Rattle.ae_bounds.proofs.OwnForms.{own_unrounded}
use Rattle.ae_bounds.proofs.Rounded.{rounded_over}
use Rattle.ae_bound_lines.proofs.Legal.{positive_apart, named_below, legal_push}
use Rattle.ae_bound_widths.specs.Fractions.{AreFinished}
use Rattle.ae_bound_rest.specs.Rest.{plain, counted, counted_of, IsRoundingOf, IsStandingIn, AreOpposedIn, IsFormRow, IsMade, IsGrown}
use Rattle.ae_bound_rest.specs.Rest.IsGrown.{as_it_was, one_more}
use Rattle.ae_bound_rest.specs.Laws.{IsStanding, IsSorted, AreAgreed}
use Rattle.ae_bound_rest.specs.Inner.Pairs.{IsPlain}
use Rattle.ae_bound_rest.proofs.Counting.{counted_cases, counted_plain, counted_does, made_counts, plain_grown, unrounded_none}
use Rattle.ae_bound_rest.proofs.Agreed.{all_whole, combined_sorted, names_weaker, standing_stays, own_standing}
use Rattle.ae_bound_rest.proofs.Pairing.{scaled, absent_back, over_back}

-- ---- the rows that count for kept ones
pub counted_combined : (r : Row) (lower upper : ℕ) → r.from ≡ Combined lower upper → counted r ≡ plain r.lin r.strict r.integral true
counted_combined r lower upper e = ap (λ (o : Origin). counted_of o r.unrounded r) e

-- what a kept row was, and the row
pub rounding_was : (u : Unrounded) (r : Row) → WasRounded u r → IsRoundingOf (plain u.lin u.strict r.integral true) (plain r.lin false true true)
rounding_was u r w = record { whole = w.integral; names = w.names; normal = w.row_normal; is = w.is; own = refl }

pub in_map : {X Y : Type 0} (f : X → Y) (xs : List X) (y : Y) → Contains (map f xs) y → (x : X) × Contains xs x × (f x ≡ y)
in_map f [] y c = absurd (let l = c.1 in omega (arith, l))
in_map f (x ∷ xs) y c =
    elim (contains_cases (f x) (map f xs) y c) [
      | inl e ↦ (x, contains_here x xs, e)
      | inr d ↦ (let h = in_map f xs y d in (h.0, contains_later x xs h.0 h.1, h.2))
    ]

pub map_in : {X Y : Type 0} (f : X → Y) (xs : List X) (x : X) → Contains xs x → Contains (map f xs) (f x)
map_in f [] x c = absurd (let l = c.1 in omega (arith, l))
map_in f (z ∷ xs) x c =
    elim (contains_cases z xs x c) [
      | inl e ↦ subst (λ w. Contains (f z ∷ map f xs) (f w)) e (contains_here (f z) (map f xs))
      | inr d ↦ contains_later (f z) (map f xs) (f x) (map_in f xs x d)
    ]

-- ---- rows that count, in a journal
pub record IsFine (x : Setting) (js : List Line) (r : Row) : Type 0 where
  pub normal : IsNormal r.lin
  pub named : IsOver (length x.names) (meaning r.lin)
  pub sorted : IsSorted x r
  pub standing : IsStanding x js r

fine_stays : (x : Setting) (js : List Line) (strict : Bool) (f : Lin) (r : Row) → IsFine x js r → IsFine x (js ++ line.Combine strict f ∷ []) r
fine_stays x js strict f r h = record { normal = h.normal; named = h.named; sorted = h.sorted; standing = standing_stays x js strict f r h.standing }

-- what such a row is rounded is one as well
fine_rounding : (x : Setting) (js : List Line) (s p : Row) → IsFine x js s → IsRoundingOf s p → IsFine x js p
fine_rounding x js s p f h =
    let wr : IsWholeRow x js false p.lin = of_rounding js s.strict s.lin p.lin (f.standing.whole h.whole h.names) h.is h.normal in
    let loose : p.strict ≡ false = ap (λ (y : Row). y.strict) h.own in
    let whole : p.integral ≡ true = ap (λ (y : Row). y.integral) h.own in
    record {
      normal = h.normal;
      named = rounded_over s.strict s.lin p.lin f.normal h.names h.normal h.is (length x.names) f.named;
      sorted = record {
        whole = λ k m i. f.sorted.whole k (names_weaker (meaning s.lin) (meaning p.lin) _ k (scaled s p f.normal h k) m) h.whole;
        integral = λ k m w. whole;
      };
      standing = record {
        stands = inr (subst (λ b. IsRow x js b (sum_of_lin p.lin)) (sym loose) (of_whole p.lin wr));
        whole = λ i m. subst (λ b. IsWholeRow x js b p.lin) (sym loose) wr;
      };
    }

pub fine_in : (x : Setting) (js : List Line) (sure : List Row) → ((r : Row) → Contains sure r → IsFine x js r) → (p : Row) → IsStandingIn sure p → IsFine x js p
fine_in x js sure all p (inl c) = all p c
fine_in x js sure all p (inr h) = fine_rounding x js h.0 p (all h.0 h.1) h.2

negative_apart : (y : ℚ) → is_positive (neg_ℚ y) ≡ true → y ≡ zero_ℚ → ⊥
negative_apart y p z = positive_apart (neg_ℚ y) p (ap neg_ℚ z ∙ neg_zero_q)

-- a row with a name stands
pub stands_named : (x : Setting) (js : List Line) (r : Row) → IsFine x js r → ¬ IsOver 0 (meaning r.lin) → IsRow x js r.strict (sum_of_lin r.lin)
stands_named x js r f m = elim f.standing.stands [ inl o ↦ absurd (m o) | inr s ↦ s ]

pub opposed_fine : (x : Setting) (js : List Line) (sure : List Row) → ((r : Row) → Contains sure r → IsFine x js r) → (p q : Row) (n : ℕ) → AreOpposedIn sure p q n → AreOpposed x js n p.strict p.lin q.strict q.lin
opposed_fine x js sure all p q n o =
    let a = fine_in x js sure all p o.first_in in
    let b = fine_in x js sure all q o.second_in in
    record {
      first = stands_named x js p a (λ z. positive_apart (factor_at n (meaning p.lin)) o.below.sign (z.absent n (omega arith)));
      second = stands_named x js q b (λ z. negative_apart (factor_at n (meaning q.lin)) o.above.sign (z.absent n (omega arith)));
      named = named_below n (length x.names) p.lin o.below a.named;
      lower = o.below;
      upper = o.above;
    }

-- ---- one combination more
module _ (x : Setting) (js : List Line) (sure : List Row) (all : (r : Row) → Contains sure r → IsFine x js r) (known : (g : Sum) → IsSure x js g → (s : Row) × Contains sure s × (s.counts ≡ true) × (sum_of_lin s.lin ≡ g)) (plain_all : (s : Row) → Contains sure s → s.unrounded ≡ None) (r : Row) (m : IsMade sure r)
    (normal : IsNormal r.lin) (new : ¬ IsThere sure (meaning r.lin)) where
  abbrev p : Row
  p = m.first

  abbrev q : Row
  q = m.second

  abbrev form_row : Row
  form_row = plain m.form (p.strict || q.strict) (p.integral && q.integral) true

  opposed : AreOpposed x js m.name p.strict p.lin q.strict q.lin
  opposed = opposed_fine x js sure all p q m.name m.opposed

  fine_first : IsFine x js p
  fine_first = fine_in x js sure all p m.opposed.first_in

  fine_second : IsFine x js q
  fine_second = fine_in x js sure all q m.opposed.second_in

  form_sorted : IsSorted x form_row
  form_sorted =
      combined_sorted x p q form_row m.name fine_first.sorted fine_second.sorted m.opposed.below m.opposed.above refl
      (λ k h z. h (m.same.factors k ∙ z))

  form_named : IsOver (length x.names) (meaning m.form)
  form_named =
      let over = over_combination m.name (meaning p.lin) (meaning q.lin) m.opposed.below.largest m.opposed.above.largest in
      let h = opposed.named in
      record { absent = λ k l. m.same.factors k ∙ over.absent k (omega (arith, h, l)) }

  no_multiple : (g : Sum) → IsSure x js g → ¬ IsMultiple (sum_of_lin r.lin) g
  no_multiple g s u =
      let a = known g s in
      let k = multiple_form r.lin (a.0).lin (subst (IsMultiple (sum_of_lin r.lin)) (sym a.3) u) in
      new (record { row = a.0; among = a.1; form = (a.0).lin; of = own_unrounded a.0 (λ tag e. a.2) (plain_all a.0 a.1); times = k.0; positive = k.1; same = k.2 })

  pub legal_line : MayCombine x js r.strict r.lin
  legal_line = by_form m.is
    where
      by_form : IsFormRow m.form (p.strict || q.strict) (p.integral && q.integral) r → MayCombine x js r.strict r.lin
      by_form (inl e) =
          let form : r.lin ≡ m.form = ap (λ (y : Row). y.lin) e in
          subst (λ b. MayCombine x js b r.lin) (sym (ap (λ (y : Row). y.strict) e))
          (legal x js m.name p.strict q.strict p.lin q.lin r.lin opposed normal
          (subst (λ (l : Lin). SameMeaning (meaning l) (combination m.name (meaning p.lin) (meaning q.lin))) (sym form) m.same) no_multiple)
      by_form (inr h) =
          subst (λ b. MayCombine x js b r.lin) (sym (ap (λ (y : Row). y.strict) h.own))
          (rounded_legal x js m.name p.strict q.strict p.lin q.lin m.form r.lin opposed m.form_normal m.same
          (all_whole x m.form m.form_normal (λ k d. form_sorted.whole k d h.whole)) h.normal h.is no_multiple)

  row_sorted : IsSorted x r
  row_sorted = by_form m.is
    where
      by_form : IsFormRow m.form (p.strict || q.strict) (p.integral && q.integral) r → IsSorted x r
      by_form (inl e) = subst (IsSorted x) (sym e) form_sorted
      by_form (inr h) = record {
        whole = λ k d i. form_sorted.whole k (names_weaker (meaning m.form) (meaning r.lin) _ k (scaled form_row r m.form_normal h k) d) h.whole;
        integral = λ k d w. ap (λ (y : Row). y.integral) h.own;
      }

  row_named : IsOver (length x.names) (meaning r.lin)
  row_named = by_form m.is
    where
      by_form : IsFormRow m.form (p.strict || q.strict) (p.integral && q.integral) r → IsOver (length x.names) (meaning r.lin)
      by_form (inl e) = subst (λ (y : Row). IsOver (length x.names) (meaning y.lin)) (sym e) form_named
      by_form (inr h) = rounded_over (p.strict || q.strict) m.form r.lin m.form_normal h.names h.normal h.is (length x.names) form_named

  pub fine_more : (s : Row) → Contains (sure ++ r ∷ []) s → IsFine x (js ++ line.Combine r.strict r.lin ∷ []) s
  fine_more s h =
      elim (Contains-append_cases sure (r ∷ []) s h) [
        | inl d ↦ fine_stays x js r.strict r.lin s (all s d)
        | inr d ↦ subst (IsFine x (js ++ line.Combine r.strict r.lin ∷ [])) (contains_one r s d)
            (record { normal = normal; named = row_named; sorted = row_sorted; standing = own_standing x js r normal row_sorted })
      ]

  pub known_more : (g : Sum) → IsSure x (js ++ line.Combine r.strict r.lin ∷ []) g → (s : Row) × Contains (sure ++ r ∷ []) s × (s.counts ≡ true) × (sum_of_lin s.lin ≡ g)
  known_more g s =
      elim (sure_less x js r.strict r.lin g s) [
        | inl h ↦ (let a = known g h in (a.0, Contains-append_left sure (r ∷ []) a.0 a.1, a.2, a.3))
        | inr e ↦ (r, Contains-append_right sure (r ∷ []) r (contains_here r []), made_counts sure r m, sym e)
      ]

-- ---- all of them
pub record AreFine (x : Setting) (bound : ℕ) (js : List Line) (sure : List Row) (ks : List Line) : Type 0 where
  pub fine : (r : Row) → Contains sure r → IsFine x ks r
  pub known : (g : Sum) → IsSure x ks g → (s : Row) × Contains sure s × (s.counts ≡ true) × (sum_of_lin s.lin ≡ g)
  pub added : List Line
  pub lines : ks ≡ js ++ added
  pub are_legal : AreLegal x bound js added

module _ (x : Setting) (bound : ℕ) (js : List Line) (rows : List Row) (a : AreAgreed x js rows) (done : AreFinished rows) where
  normal_row : (r : Row) → Contains rows r → IsNormal r.lin
  normal_row r c = all_contained (λ (t : Row). IsNormal t.lin) rows r done.normal c

  row_over : (r : Row) → Contains rows r → IsOver (length x.names) (meaning r.lin)
  row_over r c = all_contained (λ (t : Row). IsOver (length x.names) (meaning t.lin)) rows r a.standing.named c

  counted_normal : (r : Row) → Contains rows r → IsNormal (counted r).lin
  counted_normal r c = counted_cases (λ (y : Row). IsNormal y.lin) r (λ tag u e f. (done.rounded r u c f).normal) (λ tag e. normal_row r c) (λ i j e. normal_row r c)

  counted_named : (r : Row) → Contains rows r → IsOver (length x.names) (meaning (counted r).lin)
  counted_named r c =
      counted_cases (λ (y : Row). IsOver (length x.names) (meaning y.lin)) r
      (λ tag u e f. let w = done.rounded r u c f in over_back (plain u.lin u.strict r.integral true) (plain r.lin false true true) w.normal (rounding_was u r w) (length x.names) (row_over r c)) (λ tag e. row_over r c) (λ i j e. row_over r c)

  own_sorted : (r : Row) → Contains rows r → (b : Bool) → IsSorted x (plain r.lin r.strict r.integral b)
  own_sorted r c b = record { whole = (a.sorted r c).whole; integral = (a.sorted r c).integral }

  counted_sorted : (r : Row) → Contains rows r → IsSorted x (counted r)
  counted_sorted r c =
      counted_cases (IsSorted x) r
      (λ tag u e f. let w = done.rounded r u c f in
      let names : (k : ℕ) → factor_at k (meaning u.lin) ≢ zero_ℚ → factor_at k (meaning r.lin) ≢ zero_ℚ = λ k m z. m (absent_back (plain u.lin u.strict r.integral true) (plain r.lin false true true) w.normal (rounding_was u r w) k z) in
      record { whole = λ k m i. (a.sorted r c).whole k (names k m) i; integral = λ k m h. (a.sorted r c).integral k (names k m) h })
      (λ tag e. own_sorted r c r.counts) (λ i j e. own_sorted r c true)

  not_zero : (r : Row) (lower upper : ℕ) → Contains rows r → r.from ≡ Combined lower upper → ¬ IsZero (meaning r.lin)
  not_zero r lower upper c e z = done.loose (record { row = r; among = c; zero = z; lower = lower; upper = upper; from = e })

  combined_standing : (r : Row) (lower upper : ℕ) → Contains rows r → r.from ≡ Combined lower upper → IsStanding x js (plain r.lin r.strict r.integral true)
  combined_standing r lower upper c e =
      let n = a.noted r lower upper c e (not_zero r lower upper c e) in
      record {
        stands = inr (of_line n.0 n.1 r.lin n.2 n.3);
        whole = λ i m. of_combine js n.0 n.1 r.strict r.lin n.2 n.3 m (all_whole x r.lin (normal_row r c) (λ k h. (a.sorted r c).whole k h i));
      }

  counted_standing : (r : Row) → Contains rows r → IsStanding x js (counted r)
  counted_standing r c = by_origin r.from refl
    where
      by_origin : (o : Origin) → r.from ≡ o → IsStanding x js (counted r)
      by_origin (Assumed tag) e = a.was r tag c e
      by_origin (Combined lower upper) e = subst (IsStanding x js) (sym (counted_combined r lower upper e)) (combined_standing r lower upper c e)

  start_fine : (s : Row) → Contains (map counted rows) s → IsFine x js s
  start_fine s h =
      let m = in_map counted rows s h in
      subst (IsFine x js) m.2 (record { normal = counted_normal m.0 m.1; named = counted_named m.0 m.1; sorted = counted_sorted m.0 m.1; standing = counted_standing m.0 m.1 })

  start_known : (g : Sum) → IsSure x js g → (s : Row) × Contains (map counted rows) s × (s.counts ≡ true) × (sum_of_lin s.lin ≡ g)
  start_known _ (sure_literal l s t b h e) = let k = a.literals l s t b h e in (counted k.0, map_in counted rows k.0 k.2, counted_does k.0 (λ tag f. k.4), k.5)
  start_known _ (sure_line before after b h e o) =
      let k = a.lines before after b h e o in (counted k.0, map_in counted rows k.0 k.3, ap (λ (y : Row). y.counts) (counted_combined k.0 k.1 k.2 k.4), ap (λ (y : Row). sum_of_lin y.lin) (counted_combined k.0 k.1 k.2 k.4) ∙ ap sum_of_lin k.5)

  start_plain : (s : Row) → Contains (map counted rows) s → IsPlain s
  start_plain s h = let m = in_map counted rows s h in subst IsPlain m.2 (counted_plain m.0)

  pub none_unrounded : (sure : List Row) (ks : List Line) → IsGrown (map counted rows) js sure ks → (s : Row) → Contains sure s → s.unrounded ≡ None
  none_unrounded sure ks g s c = unrounded_none s (plain_grown (map counted rows) js start_plain sure ks g s c)

  pub grown_fine : (sure : List Row) (ks : List Line) → IsGrown (map counted rows) js sure ks → AreFine x bound js sure ks
  grown_fine _ _ as_it_was = record { fine = start_fine; known = start_known; added = []; lines = sym (append-nil js); are_legal = tt }
  grown_fine _ _ (one_more rs ks r g m n d) =
      let h = grown_fine rs ks g in
      let one : MayCombine x ks r.strict r.lin = legal_line x ks rs h.fine h.known (none_unrounded rs ks g) r m n d in
      let there : IsLegalLine x bound (js ++ h.added) (line.Combine r.strict r.lin) = subst (λ (w : List Line). MayCombine x w r.strict r.lin) h.lines one in
      record {
        fine = fine_more x ks rs h.fine h.known (none_unrounded rs ks g) r m n d;
        known = known_more x ks rs h.fine h.known (none_unrounded rs ks g) r m n d;
        added = h.added ++ line.Combine r.strict r.lin ∷ [];
        lines = ap (λ (w : List Line). w ++ line.Combine r.strict r.lin ∷ []) h.lines ∙ append_assoc js h.added (line.Combine r.strict r.lin ∷ []);
        are_legal = legal_push x bound js h.added (line.Combine r.strict r.lin) h.are_legal there;
      }
