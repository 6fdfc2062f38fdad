-- Maps of forms that keep sums, multiples and numbers, and what the linear operations make of mapped forms.
use Rattle.std.specs.Prelude.{ℕ, ◌≡◌, Bool, true, false, cond, List, [], ◌∷◌, map, Option, Some, None}
use Rattle.std.proofs.Common.{refl, subst}
use Rattle.std.proofs.lemmas.Option.{same_Some, none-some}
use native.Mathlib.Decide.{ℕ_discrete}
use Rattle.ae_math.specs.Fractions.{ℚ, one_ℚ, neg_ℚ, inverse_ℚ, ratio}
use Rattle.ae_math.specs.Forms.{Form, number, plus, minus, scale, is_zero}
use Rattle.ae_math.proofs.FormLaws.{same_sym, same_trans, plus-same, scale-same}
use Rattle.ae_core.specs.declared.terms.Term.{Term, Bound, Num, Fresh, Apply'}
use Rattle.ae_core.specs.declared.terms.Head.{Head}
use Rattle.ae_core.specs.declared.terms.Head.TheVariants as head
use Rattle.ae_core.specs.declared.terms.Op.TheVariants as op
use Rattle.ae_rules.specs.Linear.{form, is_number}
use Rattle.ae_num.specs.Forms.{SameMeaning}
use Rattle.ae_settled.specs.Valued.{linear_form, quotient}

-- a map of forms that keeps sums, multiples and numbers
pub record IsMap (T : Form ℕ → Form ℕ) : Type 0 where
  pub same : (f g : Form ℕ) → SameMeaning f g → SameMeaning (T f) (T g)
  pub sum : (f g : Form ℕ) → SameMeaning (T (plus f g)) (plus (T f) (T g))
  pub multiple : (c : ℚ) (f : Form ℕ) → SameMeaning (T (scale c f)) (scale c (T f))
  pub fixed : (c : ℚ) → SameMeaning (T (number c)) (number c)

-- a term with its form before and after
pub record Both (T : Form ℕ → Form ℕ) : Type 0 where
  pub term : Term
  pub before : Form ℕ
  pub after : Form ℕ
  pub mapped : SameMeaning after (T before)

module _ (T : Form ℕ → Form ℕ) where
  abbrev pub befores : List (Both T) → List (Term × Form ℕ)
  befores ps = map (λ p. (p.term, p.before)) ps

  abbrev pub afters : List (Both T) → List (Term × Form ℕ)
  afters ps = map (λ p. (p.term, p.after)) ps

  -- what the table makes before, where it makes something after
  pub record IsMade (o : Option (Form ℕ)) (g : Form ℕ) : Type 0 where
    pub made : Form ℕ
    pub is : o ≡ Some made
    pub mapped : SameMeaning g (T made)

module _ (T : Form ℕ → Form ℕ) (is_map : IsMap T) where
  by_some : (w g f : Form ℕ) → Some w ≡ Some g → SameMeaning w (T f) → IsMade T (Some f) g
  by_some w g f e h = record { made = f; is = refl; mapped = subst (λ z. SameMeaning z (T f)) (same_Some w g e) h }

  sums : (p q : Both T) → SameMeaning (plus p.after q.after) (T (plus p.before q.before))
  sums p q =
      same_trans ℕ_discrete (plus p.after q.after) (plus (T p.before) (T q.before)) (T (plus p.before q.before)) (plus-same ℕ_discrete p.after (T p.before) q.after (T q.before) p.mapped q.mapped)
      (same_sym ℕ_discrete (T (plus p.before q.before)) (plus (T p.before) (T q.before)) (is_map.sum p.before q.before))

  multiples : (c : ℚ) (p : Both T) → SameMeaning (scale c p.after) (T (scale c p.before))
  multiples c p =
      same_trans ℕ_discrete (scale c p.after) (scale c (T p.before)) (T (scale c p.before)) (scale-same ℕ_discrete c p.after (T p.before) p.mapped) (same_sym ℕ_discrete (T (scale c p.before)) (scale c (T p.before)) (is_map.multiple c p.before))

  differences : (p q : Both T) → SameMeaning (minus p.after q.after) (T (minus p.before q.before))
  differences p q =
      sums p (record { term = q.term; before = scale (neg_ℚ one_ℚ) q.before; after = scale (neg_ℚ one_ℚ) q.after; mapped = multiples (neg_ℚ one_ℚ) q })

  by_product : (a b : Bool) (y z : ℚ) (p q : Both T) (g : Form ℕ) → cond a (Some (scale y q.after)) (cond b (Some (scale z p.after)) None) ≡ Some g
      → IsMade T (cond a (Some (scale y q.before)) (cond b (Some (scale z p.before)) None)) g
  by_product true b y z p q g e = by_some (scale y q.after) g (scale y q.before) e (multiples y q)
  by_product false true y z p q g e = by_some (scale z p.after) g (scale z p.before) e (multiples z p)
  by_product false false y z p q g e = absurd (none-some g e)

  by_quotient : (b : Bool) (z : ℚ) (p : Both T) (g : Form ℕ) → cond b None (Some (scale z p.after)) ≡ Some g → IsMade T (cond b None (Some (scale z p.before))) g
  by_quotient true z p g e = absurd (none-some g e)
  by_quotient false z p g e = by_some (scale z p.after) g (scale z p.before) e (multiples z p)

  by_divisor : (p : Both T) (t : Term) (g : Form ℕ) → quotient p.after t ≡ Some g → IsMade T (quotient p.before t) g
  by_divisor p (Bound n) g e = absurd (none-some g e)
  by_divisor p (Fresh n s) g e = absurd (none-some g e)
  by_divisor p (Apply' h ss shape row) g e = absurd (none-some g e)
  by_divisor p (Num a b r) g e = by_quotient (is_zero (ratio a b)) (inverse_ℚ (ratio a b)) p g e

  pub by_head : (h : Head) (ps : List (Both T)) (g : Form ℕ) → linear_form h (afters T ps) ≡ Some g → IsMade T (linear_form h (befores T ps)) g
  by_head (head.Symbol n) ps g e = absurd (none-some g e)
  by_head (head.Build n) ps g e = absurd (none-some g e)
  by_head (head.Field n i) ps g e = absurd (none-some g e)
  by_head head.True ps g e = absurd (none-some g e)
  by_head head.False ps g e = absurd (none-some g e)
  by_head head.Void ps g e = absurd (none-some g e)
  by_head (head.Int op.Add) [] g e = absurd (none-some g e)
  by_head (head.Int op.Add) (a ∷ []) g e = absurd (none-some g e)
  by_head (head.Int op.Add) (a ∷ b ∷ []) g e = by_some (plus a.after b.after) g (plus a.before b.before) e (sums a b)
  by_head (head.Int op.Add) (a ∷ b ∷ c ∷ ps) g e = absurd (none-some g e)
  by_head (head.Int op.Sub) [] g e = absurd (none-some g e)
  by_head (head.Int op.Sub) (a ∷ []) g e = absurd (none-some g e)
  by_head (head.Int op.Sub) (a ∷ b ∷ []) g e = by_some (minus a.after b.after) g (minus a.before b.before) e (differences a b)
  by_head (head.Int op.Sub) (a ∷ b ∷ c ∷ ps) g e = absurd (none-some g e)
  by_head (head.Int op.Neg) [] g e = absurd (none-some g e)
  by_head (head.Int op.Neg) (a ∷ []) g e = by_some (scale (neg_ℚ one_ℚ) a.after) g (scale (neg_ℚ one_ℚ) a.before) e (multiples (neg_ℚ one_ℚ) a)
  by_head (head.Int op.Neg) (a ∷ b ∷ ps) g e = absurd (none-some g e)
  by_head (head.Int op.Mul) [] g e = absurd (none-some g e)
  by_head (head.Int op.Mul) (a ∷ []) g e = absurd (none-some g e)
  by_head (head.Int op.Mul) (a ∷ b ∷ []) g e = by_product (is_number (form a.term)) (is_number (form b.term)) (form a.term).constant (form b.term).constant a b g e
  by_head (head.Int op.Mul) (a ∷ b ∷ c ∷ ps) g e = absurd (none-some g e)
  by_head (head.Int op.Div) ps g e = absurd (none-some g e)
  by_head (head.Int op.Mod) ps g e = absurd (none-some g e)
  by_head (head.Real op.Add) [] g e = absurd (none-some g e)
  by_head (head.Real op.Add) (a ∷ []) g e = absurd (none-some g e)
  by_head (head.Real op.Add) (a ∷ b ∷ []) g e = by_some (plus a.after b.after) g (plus a.before b.before) e (sums a b)
  by_head (head.Real op.Add) (a ∷ b ∷ c ∷ ps) g e = absurd (none-some g e)
  by_head (head.Real op.Sub) [] g e = absurd (none-some g e)
  by_head (head.Real op.Sub) (a ∷ []) g e = absurd (none-some g e)
  by_head (head.Real op.Sub) (a ∷ b ∷ []) g e = by_some (minus a.after b.after) g (minus a.before b.before) e (differences a b)
  by_head (head.Real op.Sub) (a ∷ b ∷ c ∷ ps) g e = absurd (none-some g e)
  by_head (head.Real op.Neg) [] g e = absurd (none-some g e)
  by_head (head.Real op.Neg) (a ∷ []) g e = by_some (scale (neg_ℚ one_ℚ) a.after) g (scale (neg_ℚ one_ℚ) a.before) e (multiples (neg_ℚ one_ℚ) a)
  by_head (head.Real op.Neg) (a ∷ b ∷ ps) g e = absurd (none-some g e)
  by_head (head.Real op.Mul) [] g e = absurd (none-some g e)
  by_head (head.Real op.Mul) (a ∷ []) g e = absurd (none-some g e)
  by_head (head.Real op.Mul) (a ∷ b ∷ []) g e = by_product (is_number (form a.term)) (is_number (form b.term)) (form a.term).constant (form b.term).constant a b g e
  by_head (head.Real op.Mul) (a ∷ b ∷ c ∷ ps) g e = absurd (none-some g e)
  by_head (head.Real op.Div) [] g e = absurd (none-some g e)
  by_head (head.Real op.Div) (a ∷ []) g e = absurd (none-some g e)
  by_head (head.Real op.Div) (a ∷ b ∷ []) g e = by_divisor a b.term g e
  by_head (head.Real op.Div) (a ∷ b ∷ c ∷ ps) g e = absurd (none-some g e)
  by_head (head.Real op.Mod) ps g e = absurd (none-some g e)
