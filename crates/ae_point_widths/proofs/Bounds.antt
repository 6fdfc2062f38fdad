-- The bounds of a name that the rows of a journal give are those of the forms.
use Rattle.std.specs.Prelude.{ℕ, suc, ◌<◌, ◌≡◌, ◌≢◌, Bool, true, false, cond, List, [], ◌∷◌, length}
use Rattle.std.proofs.Common.{arith, refl, sym, ap, ◌∙◌, subst, inl, inr}
use native.Mathlib.Decide.{ℕ_discrete, dec_lt}
use Rattle.ae_base.specs.Decided.{pick}
use Rattle.ae_base.proofs.Tests.{true_false, by_bool}
use Rattle.ae_math.specs.Fractions.{ℚ, zero_ℚ, one_ℚ, neg_ℚ, inverse_ℚ, ◌+ℚ◌, ◌*ℚ◌, is_positive, is_below}
use Rattle.ae_math.specs.Forms.{Form, SameForm, number, plus, scale, value}
use Rattle.ae_math.proofs.FractionLaws.{field, add_zero_q, one_mul_q, one_mul_q', mul_comm_q, mul_assoc_q, mul_zero_q, zero_mul_q, neg_mul_q, mul_neg_q, neg_zero_q, add_neg_cancel_q, times_inverse}
use Rattle.ae_math.proofs.FractionOrder.{positive_zero, positive_product}
use Rattle.ae_math.proofs.FormLaws.{value-same, value-plus, value-scale, value-number, factor_in-append, factor_in-scale}
use Rattle.ae_rows.specs.Rows.{factor_at, rest_at, bound_at, IsOver, IsCovered, multiple, weaker, number as covered_number, LowerBound, UpperBound, IsGreatest, IsLeast, IsChoice, free, above, beneath, between}
use Rattle.ae_rows.proofs.Elimination.{split, positive_nonzero, both_positive}
use Rattle.ae_rows.proofs.Choosing.{below_after}
use Rattle.ae_journal.specs.Values.{Sum, leaf_factor}
use Rattle.ae_journal.specs.TermValues.{IsLargest}
use Rattle.ae_journal.specs.Standing.{Setting}
use Rattle.ae_journal.specs.Points.{IsRemaining, IsBound, IsBest, IsConstantFor}
use Rattle.ae_journal.specs.Points.IsConstantFor.{mean, above as constant_above, below as constant_below, free as constant_free}
use Rattle.ae_journal.specs.declared.lines.Line.{Line}
use Rattle.ae_evaluation.proofs.Sums.{factor-settled}
use Rattle.ae_point_widths.specs.Laws.{spelled, AreRowsOf}
use Rattle.ae_point_widths.proofs.Putting.{puts_value, puts_factor, alone}

-- ---- signs
pub negative_some : (c : ℚ) → is_positive (neg_ℚ c) ≡ true → c ≢ zero_ℚ
negative_some c p z = true_false (sym p ∙ ap (λ x. is_positive (neg_ℚ x)) z ∙ ap is_positive neg_zero_q ∙ positive_zero)

-- ---- one name apart
cancel_left : (x y z : ℚ) → x +ℚ y ≡ x +ℚ z → y ≡ z
cancel_left x y z e = sym (add_neg_cancel_q x y) ∙ ap (λ t. neg_ℚ x +ℚ t) e ∙ add_neg_cancel_q x z

only_name : (e : ℕ → ℚ) (n : ℕ) (h : Sum) → ((t : ℕ) → t ≢ n → leaf_factor h.parts t ≡ zero_ℚ) → value e one_ℚ h ≡ leaf_factor h.parts n *ℚ e n +ℚ h.constant
only_name e n h one =
    value-same ℕ_discrete e one_ℚ h (record { parts = (n, leaf_factor h.parts n) ∷ []; constant = h.constant }) (record { factors = λ t. by_case t (ℕ_discrete n t); constants = refl })
    ∙ (λ i. add_zero_q (leaf_factor h.parts n *ℚ e n) i +ℚ one_mul_q h.constant i)
  where
    by_case : (t : ℕ) (d : Dec (n ≡ t)) → leaf_factor h.parts t ≡ pick d (leaf_factor h.parts n +ℚ zero_ℚ) zero_ℚ
    by_case t (yes m) = ap (leaf_factor h.parts) (sym m) ∙ sym (add_zero_q (leaf_factor h.parts n))
    by_case t (no m) = one t (λ z. m (sym z))

-- what is left beside the name is the rest of the row
rest_left : (e : ℕ → ℚ) (n : ℕ) (f h : Sum) → value e one_ℚ h ≡ value e one_ℚ f → ((t : ℕ) → t ≢ n → leaf_factor h.parts t ≡ zero_ℚ) → leaf_factor h.parts n ≡ leaf_factor f.parts n → h.constant ≡ rest_at e n f
rest_left e n f h v one same =
    cancel_left (leaf_factor f.parts n *ℚ e n) h.constant (rest_at e n f) (ap (λ c. c *ℚ e n +ℚ h.constant) (sym same) ∙ sym (only_name e n h one) ∙ v ∙ split e n f)

-- ---- spelling
spelled_same : (f : Form ℕ) → SameForm ℕ_discrete (spelled f) f
spelled_same f = record { factors = λ t. factor-settled f.parts t; constants = refl }

same_rest : (e : ℕ → ℚ) (n : ℕ) (f g : Form ℕ) → SameForm ℕ_discrete f g → rest_at e n f ≡ rest_at e n g
same_rest e n f g s =
    cancel_left (factor_at n f *ℚ e n) (rest_at e n f) (rest_at e n g) (sym (split e n f) ∙ value-same ℕ_discrete e one_ℚ f g s ∙ split e n g ∙ ap (λ c. c *ℚ e n +ℚ rest_at e n g) (sym (s.factors n)))

same_bound : (e : ℕ → ℚ) (n : ℕ) (f g : Form ℕ) → SameForm ℕ_discrete f g → bound_at e n f ≡ bound_at e n g
same_bound e n f g s = λ i. neg_ℚ (same_rest e n f g s i) *ℚ inverse_ℚ (s.factors n i)

turned : (i r : ℚ) → neg_ℚ i *ℚ r ≡ neg_ℚ r *ℚ i
turned i r = neg_mul_q i r ∙ ap neg_ℚ (mul_comm_q i r) ∙ sym (neg_mul_q r i)

-- ---- weaker rows
undo : (c x : ℚ) → c ≢ zero_ℚ → (x *ℚ inverse_ℚ c) *ℚ c ≡ x
undo c x m = mul_assoc_q x (inverse_ℚ c) c ∙ ap (λ t. x *ℚ t) (mul_comm_q (inverse_ℚ c) c ∙ times_inverse c m) ∙ one_mul_q' x

module _ (e : ℕ → ℚ) (n : ℕ) (f r : Form ℕ) (a t : ℚ) (same : SameForm ℕ_discrete (scale a f) (plus r (number t))) where
  pub weak_factor : (k : ℕ) → factor_at k r ≡ a *ℚ factor_at k f
  weak_factor k = sym (add_zero_q (factor_at k r)) ∙ sym (factor_in-append ℕ_discrete r.parts [] k) ∙ sym (same.factors k) ∙ factor_in-scale ℕ_discrete a f.parts k

  weak_value : value e one_ℚ r +ℚ t ≡ a *ℚ value e one_ℚ f
  weak_value =
      ap (λ x. value e one_ℚ r +ℚ x) (sym (value-number e one_ℚ t ∙ one_mul_q t)) ∙ sym (value-plus e one_ℚ r (number t)) ∙ sym (value-same ℕ_discrete e one_ℚ (scale a f) (plus r (number t)) same)
      ∙ value-scale e one_ℚ a f

  left_over : (c v x y : ℚ) → ((a *ℚ c) *ℚ v +ℚ x) +ℚ t ≡ a *ℚ (c *ℚ v +ℚ y) → x +ℚ t ≡ a *ℚ y
  left_over c v x y h = cancel_left ((a *ℚ c) *ℚ v) (x +ℚ t) (a *ℚ y) (regroup c v x ∙ h ∙ spread c v y)
    where
      regroup : (c v x : ℚ) → (a *ℚ c) *ℚ v +ℚ (x +ℚ t) ≡ ((a *ℚ c) *ℚ v +ℚ x) +ℚ t
      regroup c v x = simp field

      spread : (c v y : ℚ) → a *ℚ (c *ℚ v +ℚ y) ≡ (a *ℚ c) *ℚ v +ℚ a *ℚ y
      spread c v y = simp field

  weak_rest : rest_at e n r +ℚ t ≡ a *ℚ rest_at e n f
  weak_rest =
      left_over (factor_at n f) (e n) (rest_at e n r) (rest_at e n f)
      (ap (λ c. (c *ℚ e n +ℚ rest_at e n r) +ℚ t) (sym (weak_factor n)) ∙ ap (λ x. x +ℚ t) (sym (split e n r)) ∙ weak_value ∙ ap (λ x. a *ℚ x) (split e n f))

  -- the difference of the two bounds, times the factor
  pub bounds_gap : factor_at n f ≢ zero_ℚ → factor_at n r ≢ zero_ℚ → (bound_at e n f +ℚ neg_ℚ (bound_at e n r)) *ℚ (a *ℚ factor_at n f) ≡ neg_ℚ t
  bounds_gap p q =
      spread (bound_at e n f) (bound_at e n r) (factor_at n f)
      ∙ (λ i. a *ℚ undo (factor_at n f) (neg_ℚ (rest_at e n f)) p i +ℚ neg_ℚ ((ap (λ c. bound_at e n r *ℚ c) (sym (weak_factor n)) ∙ undo (factor_at n r) (neg_ℚ (rest_at e n r)) q) i))
      ∙ finish (rest_at e n f) (rest_at e n r) ∙ ap (λ x. neg_ℚ x +ℚ rest_at e n r) (sym weak_rest) ∙ done (rest_at e n r)
    where
      spread : (x y c : ℚ) → (x +ℚ neg_ℚ y) *ℚ (a *ℚ c) ≡ a *ℚ (x *ℚ c) +ℚ neg_ℚ (y *ℚ (a *ℚ c))
      spread x y c = simp field

      finish : (x y : ℚ) → a *ℚ neg_ℚ x +ℚ neg_ℚ (neg_ℚ y) ≡ neg_ℚ (a *ℚ x) +ℚ y
      finish x y = simp field

      done : (y : ℚ) → neg_ℚ (y +ℚ t) +ℚ y ≡ neg_ℚ t
      done y = simp field

product_apart : (a c : ℚ) → is_positive a ≡ true → c ≢ zero_ℚ → a *ℚ c ≢ zero_ℚ
product_apart a c p m z = m (sym (undo a c (positive_nonzero a p)) ∙ turn ∙ zero_mul_q (inverse_ℚ a))
  where
    turn : (c *ℚ inverse_ℚ a) *ℚ a ≡ zero_ℚ *ℚ inverse_ℚ a
    turn = swap c (inverse_ℚ a) a ∙ ap (λ x. x *ℚ inverse_ℚ a) z
      where
        swap : (c i a : ℚ) → (c *ℚ i) *ℚ a ≡ (a *ℚ c) *ℚ i
        swap c i a = simp field

-- ---- the rows of a journal
module _ (x : Setting) (js : List Line) (R : Form ℕ → Type 0) (rows : AreRowsOf x js R) (e : ℕ → ℚ) (n : ℕ) where
  below_length : (f : Form ℕ) → R f → factor_at n f ≢ zero_ℚ → n < length x.names
  below_length f h m = by_case (dec_lt n (length x.names))
    where
      by_case : Dec (n < length x.names) → n < length x.names
      by_case (yes l) = l
      by_case (no l) = absurd (m ((rows.named f h).absent n (omega (arith, l))))

  pub is_largest : (f : Form ℕ) → R f → factor_at n f ≢ zero_ℚ → IsOver (suc n) f → IsLargest x.names n (spelled f)
  is_largest f h m over = (below_length f h m, λ z. m (sym (factor-settled f.parts n) ∙ z), λ k l. factor-settled f.parts k ∙ over.absent k (omega (arith, l)))

  -- the row with its other names replaced
  remaining : (f : Form ℕ) → R f → factor_at n f ≢ zero_ℚ → IsOver (suc n) f → IsRemaining x js e n (factor_at n f) (rest_at e n f)
  remaining f h m over =
      let p = alone e n (spelled f) in
      let q = p.1 in
      let same : leaf_factor (p.0).parts n ≡ factor_at n f = q.same ∙ factor-settled f.parts n in
      record {
        strict = (rows.stand f h).0;
        row = spelled f;
        stands = (rows.stand f h).1;
        largest = is_largest f h m over;
        put = p.0;
        is_put = q.put;
        one = q.one;
        factor_is = same;
        rest_is = rest_left e n (spelled f) p.0 (puts_value e (spelled f) p.0 q.put) q.one q.same ∙ same_rest e n (spelled f) f (spelled_same f);
      }

  pub lower_bound : (y : ℚ) → LowerBound R e n y → IsBound x js e true n y
  lower_bound y (f, h, l, b) =
      (factor_at n f, rest_at e n f, remaining f h (positive_nonzero (factor_at n f) l.sign) l.largest, l.sign, sym b ∙ sym (turned (inverse_ℚ (factor_at n f)) (rest_at e n f)))

  pub upper_bound : (y : ℚ) → UpperBound R e n y → IsBound x js e false n y
  upper_bound y (f, h, l, b) =
      (factor_at n f, rest_at e n f, remaining f h (negative_some (factor_at n f) l.sign) l.largest, l.sign, sym b ∙ sym (turned (inverse_ℚ (factor_at n f)) (rest_at e n f)))

  -- ---- what a bound of the journal is
  record IsFrom (below : Bool) (w : ℚ) : Type 0 where
    row : Sum
    factor : is_positive (cond below (factor_at n row) (neg_ℚ (factor_at n row))) ≡ true
    largest : IsLargest x.names n row
    covered : IsCovered R row
    is : w ≡ bound_at e n row

  nonzero_of : (below : Bool) (c : ℚ) → is_positive (cond below c (neg_ℚ c)) ≡ true → c ≢ zero_ℚ
  nonzero_of true c p = positive_nonzero c p
  nonzero_of false c p = negative_some c p

  from : (below : Bool) (w : ℚ) → IsBound x js e below n w → IsFrom below w
  from below w (factor, rest, r, sign, is) =
      let own : leaf_factor (r.put).parts n ≡ leaf_factor (r.row).parts n =
      elim (puts_factor e r.row r.put n r.is_put) [ inl a ↦ a | inr z ↦ absurd (nonzero_of below factor sign (sym r.factor_is ∙ z)) ] in
      let c : factor ≡ factor_at n r.row = sym r.factor_is ∙ own in
      let k : rest ≡ rest_at e n r.row = sym r.rest_is ∙ rest_left e n r.row r.put (puts_value e r.row r.put r.is_put) r.one own in
      record {
        row = r.row;
        factor = subst (λ z. is_positive (cond below z (neg_ℚ z)) ≡ true) c sign;
        largest = r.largest;
        covered = rows.covered n r.strict r.row r.stands r.largest;
        is = is ∙ turned (inverse_ℚ factor) rest ∙ (λ i. neg_ℚ (k i) *ℚ inverse_ℚ (c i));
      }

  -- a multiple is a weaker row with nothing added
  data IsWeaker (f : Form ℕ) : Type 0 where
    weak : (a t : ℚ) (r : Form ℕ) → is_positive a ≡ true → is_positive (neg_ℚ t) ≡ false → R r → SameForm ℕ_discrete (scale a f) (plus r (number t)) → IsWeaker f

  with_nothing : (a : ℚ) (f r : Form ℕ) → SameForm ℕ_discrete (scale a f) r → SameForm ℕ_discrete (scale a f) (plus r (number zero_ℚ))
  with_nothing a f r s = record { factors = λ k. s.factors k ∙ sym (factor_in-append ℕ_discrete r.parts [] k ∙ add_zero_q (factor_at k r)); constants = s.constants ∙ sym (add_zero_q r.constant) }

  weaker_row : (f : Form ℕ) → factor_at n f ≢ zero_ℚ → IsCovered R f → IsWeaker f
  weaker_row f m (multiple a p r h s) = weak a zero_ℚ r p (ap is_positive neg_zero_q ∙ positive_zero) h (with_nothing a f r s)
  weaker_row f m (weaker a p t u r h s) = weak a t r p u h s
  weaker_row f m (covered_number o p) = absurd (m (o.absent n (omega arith)))

  over_row : (f r : Form ℕ) (a t : ℚ) → IsLargest x.names n f → SameForm ℕ_discrete (scale a f) (plus r (number t)) → IsOver (suc n) r
  over_row f r a t l s = record { absent = λ k h. weak_factor e n f r a t s k ∙ ap (λ z. a *ℚ z) (l.2 k (omega (arith, h))) ∙ mul_zero_q a }

  pub below_some : (w : ℚ) → IsBound x js e true n w → (y : ℚ) × LowerBound R e n y × (is_below y w ≡ false)
  below_some w b = by_weak (weaker_row (from true w b).row (positive_nonzero (factor_at n (from true w b).row) (from true w b).factor) (from true w b).covered)
    where
      by_weak : IsWeaker (from true w b).row → (y : ℚ) × LowerBound R e n y × (is_below y w ≡ false)
      by_weak (weak a t r p u h s) =
          let g = from true w b in
          let c : is_positive (a *ℚ factor_at n g.row) ≡ true = both_positive a (factor_at n g.row) p g.factor in
          let own : is_positive (factor_at n r) ≡ true = ap is_positive (weak_factor e n g.row r a t s n) ∙ c in (
            bound_at e n r,
            (r, h, record { largest = over_row g.row r a t g.largest s; sign = own }, refl),
            ap (λ z. is_positive (z +ℚ neg_ℚ (bound_at e n r))) g.is ∙ sym (positive_product (bound_at e n g.row +ℚ neg_ℚ (bound_at e n r)) (a *ℚ factor_at n g.row) c)
                ∙ ap is_positive (bounds_gap e n g.row r a t s (positive_nonzero (factor_at n g.row) g.factor) (positive_nonzero (factor_at n r) own)) ∙ u,
          )

  pub above_some : (w : ℚ) → IsBound x js e false n w → (y : ℚ) × UpperBound R e n y × (is_below w y ≡ false)
  above_some w b = by_weak (weaker_row (from false w b).row (negative_some (factor_at n (from false w b).row) (from false w b).factor) (from false w b).covered)
    where
      flip : (u v c a : ℚ) → (v +ℚ neg_ℚ u) *ℚ (a *ℚ neg_ℚ c) ≡ (u +ℚ neg_ℚ v) *ℚ (a *ℚ c)
      flip u v c a = simp field

      by_weak : IsWeaker (from false w b).row → (y : ℚ) × UpperBound R e n y × (is_below w y ≡ false)
      by_weak (weak a t r p u h s) =
          let g = from false w b in
          let c : is_positive (a *ℚ neg_ℚ (factor_at n g.row)) ≡ true = both_positive a (neg_ℚ (factor_at n g.row)) p g.factor in
          let own : is_positive (neg_ℚ (factor_at n r)) ≡ true = ap (λ z. is_positive (neg_ℚ z)) (weak_factor e n g.row r a t s n) ∙ ap is_positive (sym (mul_neg_q a (factor_at n g.row))) ∙ c in (
            bound_at e n r,
            (r, h, record { largest = over_row g.row r a t g.largest s; sign = own }, refl),
            ap (λ z. is_positive (bound_at e n r +ℚ neg_ℚ z)) g.is ∙ sym (positive_product (bound_at e n r +ℚ neg_ℚ (bound_at e n g.row)) (a *ℚ neg_ℚ (factor_at n g.row)) c)
                ∙ ap is_positive (flip (bound_at e n g.row) (bound_at e n r) (factor_at n g.row) a
                ∙ bounds_gap e n g.row r a t s (negative_some (factor_at n g.row) g.factor) (negative_some (factor_at n r) own)) ∙ u,
          )

  -- ---- the best bounds
  not_both : (b : Bool) → b ≡ true → b ≡ false → ⊥
  not_both b p q = true_false (sym p ∙ q)

  not_after : (x y z : ℚ) → is_below x y ≡ false → is_below y z ≡ false → is_below x z ≡ false
  not_after x y z p q = by_bool (is_below x z) (λ t. absurd (not_both (is_below y z) (below_after x y z p t) q)) (λ t. t)

  pub greatest : (y : ℚ) → IsGreatest (LowerBound R e n) y → IsBest x js e true n y
  greatest y g = (lower_bound y g.one, λ w b. let s = below_some w b in not_after y s.0 w (g.most s.0 s.1) s.2)

  pub least : (y : ℚ) → IsLeast (UpperBound R e n) y → IsBest x js e false n y
  least y g = (upper_bound y g.one, λ w b. let s = above_some w b in not_after w s.0 y s.2 (g.least s.0 s.1))

  pub constant_for : (v : ℚ) → IsChoice (LowerBound R e n) (UpperBound R e n) v → IsConstantFor x js e n v
  constant_for v (free l u z) = subst (IsConstantFor x js e n) (sym z) (constant_free none)
    where
      none : (b : Bool) (z : ℚ) → IsBound x js e b n z → ⊥
      none true z b = let s = below_some z b in l s.0 s.1
      none false z b = let s = above_some z b in u s.0 s.1
  constant_for v (above y g u z) = subst (IsConstantFor x js e n) (sym z) (constant_above y (greatest y g) (λ w b. let s = above_some w b in u s.0 s.1))
  constant_for v (beneath y g l z) = subst (IsConstantFor x js e n) (sym z) (constant_below y (λ w b. let s = below_some w b in l s.0 s.1) (least y g))
  constant_for v (between y w g k z) = subst (IsConstantFor x js e n) (sym z) (mean y w (greatest y g) (least w k))
