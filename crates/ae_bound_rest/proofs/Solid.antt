-- A form of integers is above what it is rounded; and what is rounded is above each rounded form that the form is above.
use Rattle.std.specs.Prelude.{ℕ, zero, suc, ℤ, pos, ◌≡◌, ◌≢◌, ◌*ℤ◌, ◌-ℤ◌, ◌<ℤ◌, ◌≤ℤ◌, Bool, true, false, cond, List, [], ◌∷◌, map, unsigned_abs}
use Rattle.std.specs.List.{AllByRecursion}
use Rattle.std.specs.Int.{◌∣◌}
use Rattle.std.proofs.Common.{arith, refl, sym, ap, ◌∙◌, subst, inl}
use Rattle.std.proofs.lemmas.Int.{unsigned_abs-mul}
use native.Mathlib.Decide.{ℕ_discrete}
use native.Mathlib.Nat.{one-mul, mul_comm}
use lib.IntN.{one, *ℤ-one}
use lib.Signed.{lt_z}
use borrow.Author.Differences.{ints}
use Rattle.ae_base.proofs.Integers.{size_nonzero}
use Rattle.ae_math.specs.Fractions.{ℚ, zero_ℚ, one_ℚ, neg_ℚ, ◌+ℚ◌, ◌*ℚ◌, ratio, is_positive}
use Rattle.ae_math.specs.Forms.{Form, factor_in}
use Rattle.ae_math.proofs.FractionLaws.{add_comm_q, add_neg_cancel_q, neg_add_cancel_q, mul_comm_q, mul_zero_q, one_mul_q, cancel_q}
use Rattle.ae_math.proofs.FractionOrder.{below_crosswise, neg_difference}
use Rattle.ae_math.proofs.FormLaws.{factor_in-scale}
use Rattle.ae_math.proofs.Wholes.{ratio_of_zero}
use Rattle.ae_math.proofs.Divisors.{mul_cancel}
use Rattle.ae_num.specs.declared.forms.Part.{Part}
use Rattle.ae_num.specs.declared.forms.Lin.{Lin}
use Rattle.ae_num.specs.Forms.{meaning, IsNormal}
use Rattle.ae_rows.specs.Rows.{factor_at}
use Rattle.ae_rows.proofs.Choosing.{positive_one}
use Rattle.ae_journal.specs.Sides.{AreDivided, IsRounded}
use Rattle.ae_rounding.proofs.Quotients.{with_constant}
use Rattle.ae_ineq.specs.Inner.Primitive.{IsPrimitive}
use Rattle.ae_ineq.specs.Inner.Sets.{IsMultiple}
use Rattle.ae_ineq.proofs.Directions.{directions_same}
use Rattle.ae_ineq.proofs.LastLaws.{ratio_positive}
use Rattle.ae_ineq.proofs.RowSets.{multiples_meet}
use Rattle.ae_bounds.proofs.SameDirection.{turned}
use Rattle.ae_bounds.proofs.Rounded.{IsWeaker, above, times, share, factors, rest, weaker, weaker_rest}
use Rattle.ae_bound_points.proofs.Weaker.{plus_factor}
use Rattle.ae_bound_widths.proofs.Left.{first_some}
use Rattle.ae_bound_rest.proofs.Roundings.{floor_most, rounded_again, divided_some}
use Rattle.ae_bound_rest.proofs.Above.{IsAbove, weaker_factor}

-- ---- a fraction and a whole number
above_whole : (d : ℕ) (g : ℤ) → g ≡ pos d → pos 0 <ℤ g → (c k : ℤ) → is_positive (ratio c g +ℚ neg_ℚ (ratio k (pos 1))) ≡ lt_z (k *ℤ g) c
unfolding lib.IntN.one
above_whole zero g e p c k = absurd (let q = subst (λ z. pos 0 <ℤ z) e p in omega (arith, ints, q))
above_whole (suc d) g e p c k =
    ap (λ z. is_positive (ratio c z +ℚ neg_ℚ (ratio k (pos 1)))) e ∙ below_crosswise k c 0 d ∙ (λ i. lt_z (k *ℤ sym e i) (*ℤ-one c i))

below_whole : (d : ℕ) (g : ℤ) → g ≡ pos d → pos 0 <ℤ g → (c k : ℤ) → is_positive (ratio k (pos 1) +ℚ neg_ℚ (ratio c g)) ≡ lt_z c (k *ℤ g)
unfolding lib.IntN.one
below_whole zero g e p c k = absurd (let q = subst (λ z. pos 0 <ℤ z) e p in omega (arith, ints, q))
below_whole (suc d) g e p c k =
    ap (λ z. is_positive (ratio k (pos 1) +ℚ neg_ℚ (ratio c z))) e ∙ below_crosswise c k d 0 ∙ (λ i. lt_z (*ℤ-one c i) (k *ℤ sym e i))

is_less : (x y : ℤ) → x <ℤ y → lt_z x y ≡ true
is_less x y h = grind (arith, ints, h)

less_is : (x y : ℤ) → lt_z x y ≡ true → x <ℤ y
less_is x y h = grind (arith, ints, h)

not_less_one : (x y : ℤ) → y ≤ℤ x → lt_z x (y *ℤ pos 1) ≡ false
unfolding lib.IntN.one
not_less_one x y h = let g : lt_z x y ≡ false = grind (arith, ints, h) in subst (λ z. lt_z x z ≡ false) (sym (*ℤ-one y)) g

not_less_is : (x y : ℤ) → lt_z x y ≡ false → y ≤ℤ x
not_less_is x y h = grind (arith, ints, h)

-- ---- a form is above what it is rounded
module _ (strict : Bool) (l r : Lin) (normal : IsNormal l) (names : l.parts ≢ []) (own : IsNormal r) (rounded : IsRounded strict l r) where
  below_constant : strict ≡ true → (r.constant *ℤ pos rounded.divisor) <ℤ l.constant
  below_constant e = by_strict (subst (λ s. (r.constant *ℤ pos rounded.divisor) ≤ℤ cond s (l.constant -ℤ pos 1) l.constant) e rounded.floor.at_least)
    where
      by_strict : (r.constant *ℤ pos rounded.divisor) ≤ℤ (l.constant -ℤ pos 1) → (r.constant *ℤ pos rounded.divisor) <ℤ l.constant
      by_strict h = omega (arith, ints, h)

  pub rounded_above : (held : Bool) → IsAbove (meaning l) (meaning r) strict held
  rounded_above held = record {
    weaker = weaker strict l r normal names own rounded;
    firm = λ e. inl
        (ap is_positive (weaker_rest strict l r normal names own rounded ∙ ap (λ d. ratio l.constant (pos rounded.divisor) +ℚ neg_ℚ (ratio r.constant d)) rounded.whole)
        ∙ above_whole rounded.divisor (pos rounded.divisor) refl (above strict l r normal names own rounded) l.constant r.constant
        ∙ is_less (r.constant *ℤ pos rounded.divisor) l.constant (below_constant e));
  }

-- ---- forms whose factors have no divisor in common
self_divisor : (r : Lin) → IsNormal r → r.parts ≢ [] → (a : IsRounded false r r) → a.divisor ≡ 1
self_divisor r n m a = by_parts r.parts n.nonzero m a.divided
  where
    one_size : (x : ℤ) → x ≢ pos 0 → x ≡ x *ℤ pos a.divisor → a.divisor ≡ 1
    one_size x z e =
        mul_cancel a.divisor 1 (unsigned_abs x) (size_nonzero x z)
        (mul_comm a.divisor (unsigned_abs x) ∙ sym (unsigned_abs-mul x (pos a.divisor)) ∙ ap unsigned_abs (sym e) ∙ sym (one-mul (unsigned_abs x)))

    by_parts : (ps : List Part) → AllByRecursion (λ (p : Part). p.factor ≢ pos 0) ps → ps ≢ [] → AreDivided a.divisor ps ps → a.divisor ≡ 1
    by_parts [] z h d = absurd (h refl)
    by_parts (p ∷ ps) z h d = one_size p.factor z.0 d.1

-- such a form has no divisor
pub primitive : (r : Lin) → IsNormal r → r.parts ≢ [] → IsRounded false r r → IsPrimitive r
primitive r n m a = record { whole = a.whole; lowest = λ d h. subst (λ k. d ∣ k) (self_divisor r n m a) (a.greatest.1 d h.1) }

-- the factors alone
abbrev bare : Lin → Lin
bare r = record { den = pos 1; parts = r.parts; constant = pos 0 }

bare_normal : (r : Lin) → IsNormal r → IsNormal (bare r)
bare_normal r n = with_constant r (pos 0) n (omega arith)

bare_primitive : (r : Lin) → IsNormal r → r.parts ≢ [] → IsRounded false r r → IsPrimitive (bare r)
bare_primitive r n m a = record { whole = refl; lowest = λ d h. subst (λ k. d ∣ k) (self_divisor r n m a) (a.greatest.1 d h.1) }

bare_factor : (r : Lin) → r.den ≡ pos 1 → (k : ℕ) → factor_at k (meaning r) ≡ factor_at k (meaning (bare r))
bare_factor r w k = ap (λ d. factor_in ℕ_discrete (map (λ (p : Part). (p.key, ratio p.factor d)) r.parts) k) w

-- a form without its constant
abbrev nameless : Form ℕ → Form ℕ
nameless f = record { parts = f.parts; constant = zero_ℚ }

to_bare : (f : Form ℕ) (r : Lin) (t : ℚ) → is_positive t ≡ true → r.den ≡ pos 1 → ((k : ℕ) → t *ℚ factor_at k f ≡ factor_at k (meaning r)) → IsMultiple (nameless f) (meaning (bare r))
to_bare f r t p w e = record {
  times = t;
  positive = p;
  same = record { factors = λ k. factor_in-scale ℕ_discrete t f.parts k ∙ e k ∙ bare_factor r w k; constants = mul_zero_q t ∙ sym (ratio_of_zero (pos 1)) };
}

-- ---- what is rounded is above a rounded form that the form is above
module _ (strict : Bool) (f q r : Lin) (nf : IsNormal f) (mf : f.parts ≢ []) (nq : IsNormal q) (is : IsRounded strict f q) (nr : IsNormal r) (mr : r.parts ≢ []) (solid : IsRounded false r r)
    (w : IsWeaker (meaning f) (meaning r)) where
  abbrev g : ℤ
  g = pos is.divisor

  above_zero : pos 0 <ℤ g
  above_zero = above strict f q nf mf nq is

  abbrev t : ℚ
  t = times strict f q nf mf nq is

  scaled : (k : ℕ) → t *ℚ factor_at k (meaning f) ≡ factor_at k (meaning q)
  scaled k = factors strict f q nf mf nq is k

  same_parts : q.parts ≡ r.parts
  same_parts =
      let again = rounded_again strict f nf mf q is in
      let some = divided_some strict f nf mf q is in
      let one_way = to_bare (meaning f) q t (ratio_positive f.den g nf.positive above_zero) is.whole scaled in
      let other_way = to_bare (meaning f) r w.times w.positive solid.whole (weaker_factor (meaning f) (meaning r) w) in
      ap (λ (l : Lin). l.parts)
      (directions_same (bare q) (bare r) (bare_normal q nq) (bare_normal r nr) (bare_primitive q nq some again) (bare_primitive r nr mr solid)
      (multiples_meet (meaning (bare q)) (meaning (bare r)) (nameless (meaning f)) (turned (nameless (meaning f)) (meaning (bare q)) one_way) (turned (nameless (meaning f)) (meaning (bare r)) other_way)))

  same_factors : (k : ℕ) → factor_at k (meaning q) ≡ factor_at k (meaning r)
  same_factors k = (λ i. factor_in ℕ_discrete (map (λ (p : Part). (p.key, ratio p.factor ((is.whole ∙ sym solid.whole) i))) (same_parts i)) k)

  same_times : w.times ≡ t
  same_times = by_parts f.parts refl
    where
      by_parts : (ps : List Part) → f.parts ≡ ps → w.times ≡ t
      by_parts [] e = absurd (mf e)
      by_parts (p ∷ ps) e =
          let x = factor_at p.key (meaning f) in
          cancel_q x w.times t (first_some f nf p ps e)
          (mul_comm_q x w.times ∙ weaker_factor (meaning f) (meaning r) w p.key ∙ sym (same_factors p.key) ∙ sym (scaled p.key) ∙ mul_comm_q t x)

  -- the constant over the divisor is that of the rounded form and the rest
  constant_is : ratio f.constant g ≡ ratio r.constant (pos 1) +ℚ w.rest
  constant_is =
      sym (share strict f q nf mf nq is f.constant) ∙ ap (λ x. x *ℚ ratio f.constant f.den) (sym same_times) ∙ w.same.constants ∙ ap (λ d. ratio r.constant d +ℚ w.rest) solid.whole

  rest_is : w.rest ≡ ratio f.constant g +ℚ neg_ℚ (ratio r.constant (pos 1))
  rest_is =
      sym (add_neg_cancel_q (ratio r.constant (pos 1)) w.rest) ∙ ap (λ x. neg_ℚ (ratio r.constant (pos 1)) +ℚ x) (sym constant_is)
      ∙ add_comm_q (neg_ℚ (ratio r.constant (pos 1))) (ratio f.constant g)

  at_most_constant : (r.constant *ℤ g) ≤ℤ f.constant
  at_most_constant =
      not_less_is f.constant (r.constant *ℤ g)
      (sym (below_whole is.divisor g refl above_zero f.constant r.constant) ∙ ap is_positive (sym (neg_difference (ratio r.constant (pos 1)) (ratio f.constant g)) ∙ ap neg_ℚ (sym rest_is)) ∙ w.loose)

  module _ (firm : strict ≡ true → is_positive w.rest ≡ true) where
    below_constant_of : strict ≡ true → (r.constant *ℤ g) <ℤ f.constant
    below_constant_of e =
        less_is (r.constant *ℤ g) f.constant (sym (above_whole is.divisor g refl above_zero f.constant r.constant) ∙ ap is_positive (sym rest_is) ∙ firm e)

    slack : (s : Bool) → strict ≡ s → (r.constant *ℤ g) ≤ℤ cond s (f.constant -ℤ pos 1) f.constant
    slack false e = at_most_constant
    slack true e = let h = below_constant_of e in omega (arith, ints, h)

    pub most_by_firm : r.constant ≤ℤ q.constant
    most_by_firm = floor_most (cond strict (f.constant -ℤ pos 1) f.constant) is.divisor q.constant r.constant is.floor (slack strict refl)

  pub weaker_rounded : r.constant ≤ℤ q.constant → IsWeaker (meaning q) (meaning r)
  unfolding lib.IntN.one
  weaker_rounded most = record {
    times = one_ℚ;
    positive = positive_one;
    rest = ratio q.constant (pos 1) +ℚ neg_ℚ (ratio r.constant (pos 1));
    loose = ap is_positive (neg_difference (ratio r.constant (pos 1)) (ratio q.constant (pos 1)))
        ∙ below_whole 1 (pos 1) refl (omega (arith, ints)) q.constant r.constant
        ∙ not_less_one q.constant r.constant most;
    same = record {
      factors = λ k. factor_in-scale ℕ_discrete one_ℚ (meaning q).parts k ∙ one_mul_q (factor_at k (meaning q)) ∙ same_factors k
          ∙ sym (plus_factor (meaning r) (ratio q.constant (pos 1) +ℚ neg_ℚ (ratio r.constant (pos 1))) k);
      constants = one_mul_q (ratio q.constant q.den) ∙ ap (ratio q.constant) is.whole
          ∙ sym (ap (λ d. ratio r.constant d +ℚ (ratio q.constant (pos 1) +ℚ neg_ℚ (ratio r.constant (pos 1)))) solid.whole
          ∙ ap (λ x. ratio r.constant (pos 1) +ℚ x) (add_comm_q (ratio q.constant (pos 1)) (neg_ℚ (ratio r.constant (pos 1))))
          ∙ neg_add_cancel_q (ratio r.constant (pos 1)) (ratio q.constant (pos 1)));
    };
  }
