-- The values of linear forms, in their one spelling: sums, multiples, and a number put for a leaf.
use Rattle.std.specs.Prelude.{ℕ, cond, List, [], ◌∷◌, ◌++◌, ◌≡◌, ◌⊎◌}
use Rattle.std.proofs.Common.{refl, sym, ap, ◌∙◌, subst, inl, inr}
use Rattle.std.proofs.lemmas.Bool.{cases_eq, eq-eqb, ne_eqb}
use native.Mathlib.Decide.{ℕ_discrete}
use Rattle.ae_math.specs.Fractions.{ℚ, zero_ℚ, one_ℚ, neg_ℚ, ◌+ℚ◌, ◌*ℚ◌}
use Rattle.ae_math.specs.Forms.{Form, plus, minus, scale, substitute}
use Rattle.ae_math.proofs.FractionLaws.{add_comm_q, add_assoc_q, add_left_comm_q, add_mul_q, zero_add_q, zero_mul_q}
use Rattle.ae_math.proofs.FormLaws.{substitute_there, substitute_elsewhere}
use Rattle.ae_num.specs.Forms.{SameMeaning}
use Rattle.ae_journal.specs.Values.{Val, Sum, number, sum_in, settled, scaled, leaf_factor, plus_val, minus_val, scale_val}
use Rattle.ae_journal.specs.TermValues.{put_in, put_leaf}
use Rattle.ae_evaluation.proofs.Sums.{factor_same, factor_other, factor-append, factor-scaled, factor-settled, settled_same}

abbrev pub val_of : Form ℕ → Val
val_of f = number (record { parts = settled f.parts; constant = f.constant })

-- a sum with the factors of a form
made : (ps : List (ℕ × ℚ)) (c : ℚ) (g : Form ℕ) → ((j : ℕ) → leaf_factor ps j ≡ leaf_factor g.parts j) → c ≡ g.constant → number (record { parts = settled ps; constant = c }) ≡ val_of g
made ps c g h e = λ i. number (record { parts = settled_same ps g.parts h i; constant = e i })

pub same_val : (f g : Form ℕ) → SameMeaning f g → val_of f ≡ val_of g
same_val f g h = made f.parts f.constant g h.factors h.constants

pub sum_val : (f g : Form ℕ) → plus_val (val_of f) (val_of g) ≡ val_of (plus f g)
sum_val f g =
    made (settled f.parts ++ settled g.parts) (f.constant +ℚ g.constant) (plus f g)
    (λ j. factor-append (settled f.parts) (settled g.parts) j ∙ (λ i. factor-settled f.parts j i +ℚ factor-settled g.parts j i) ∙ sym (factor-append f.parts g.parts j)) refl

pub multiple_val : (z : ℚ) (f : Form ℕ) → scale_val z (val_of f) ≡ val_of (scale z f)
multiple_val z f =
    made (scaled z (settled f.parts)) (z *ℚ f.constant) (scale z f)
    (λ j. factor-scaled z (settled f.parts) j ∙ ap (λ (q : ℚ). z *ℚ q) (factor-settled f.parts j) ∙ sym (factor-scaled z f.parts j)) refl

pub difference_val : (f g : Form ℕ) → minus_val (val_of f) (val_of g) ≡ val_of (minus f g)
difference_val f g = ap (plus_val (val_of f)) (multiple_val (neg_ℚ one_ℚ) g) ∙ sum_val f (scale (neg_ℚ one_ℚ) g)

-- ---- a number put for a leaf
front_factor : (n k : ℕ) (x : ℚ) (qs : List (ℕ × ℚ)) → k ≡ n → leaf_factor ((k, x) ∷ qs) n ≡ x +ℚ leaf_factor qs n
front_factor n k x qs e = subst (λ (m : ℕ). leaf_factor ((k, x) ∷ qs) m ≡ x +ℚ leaf_factor qs m) e (factor_same k x qs)

put_there : (n : ℕ) (f : Sum) (qs : List (ℕ × ℚ)) → leaf_factor (put_in n f qs) n ≡ leaf_factor qs n *ℚ leaf_factor f.parts n
put_there n f [] = sym (zero_mul_q (leaf_factor f.parts n))
put_there n f ((k, x) ∷ qs) = elim (cases_eq k n) [
  | inl e ↦
      ap (λ b. leaf_factor (cond b (scaled x f.parts) ((k, x) ∷ []) ++ put_in n f qs) n) (eq-eqb k n e)
      ∙ factor-append (scaled x f.parts) (put_in n f qs) n
      ∙ (λ i. factor-scaled x f.parts n i +ℚ put_there n f qs i)
      ∙ sym (add_mul_q x (leaf_factor qs n) (leaf_factor f.parts n))
      ∙ ap (λ (y : ℚ). y *ℚ leaf_factor f.parts n) (sym (front_factor n k x qs e))
  | inr d ↦
      ap (λ b. leaf_factor (cond b (scaled x f.parts) ((k, x) ∷ []) ++ put_in n f qs) n) (ne_eqb k n d)
      ∙ factor_other n k x (put_in n f qs) (λ z. d (sym z))
      ∙ put_there n f qs
      ∙ ap (λ (y : ℚ). y *ℚ leaf_factor f.parts n) (sym (factor_other n k x qs (λ z. d (sym z))))
]

put_elsewhere : (n : ℕ) (f : Sum) (qs : List (ℕ × ℚ)) (j : ℕ) → ¬ (n ≡ j) → leaf_factor (put_in n f qs) j ≡ leaf_factor qs j +ℚ leaf_factor qs n *ℚ leaf_factor f.parts j
put_elsewhere n f [] j m = sym (ap (λ (y : ℚ). zero_ℚ +ℚ y) (zero_mul_q (leaf_factor f.parts j)) ∙ zero_add_q zero_ℚ)
put_elsewhere n f ((k, x) ∷ qs) j m = elim (cases_eq k n) [
  | inl e ↦
      ap (λ b. leaf_factor (cond b (scaled x f.parts) ((k, x) ∷ []) ++ put_in n f qs) j) (eq-eqb k n e)
      ∙ factor-append (scaled x f.parts) (put_in n f qs) j
      ∙ (λ i. factor-scaled x f.parts j i +ℚ put_elsewhere n f qs j m i)
      ∙ add_left_comm_q (x *ℚ leaf_factor f.parts j) (leaf_factor qs j) (leaf_factor qs n *ℚ leaf_factor f.parts j)
      ∙ ap (λ (y : ℚ). leaf_factor qs j +ℚ y) (sym (add_mul_q x (leaf_factor qs n) (leaf_factor f.parts j)))
      ∙ (λ i. sym (factor_other j k x qs (λ z. m (sym (z ∙ e)))) i +ℚ sym (front_factor n k x qs e) i *ℚ leaf_factor f.parts j)
  | inr d ↦
      ap (λ b. leaf_factor (cond b (scaled x f.parts) ((k, x) ∷ []) ++ put_in n f qs) j) (ne_eqb k n d)
      ∙ factor-append ((k, x) ∷ []) (put_in n f qs) j
      ∙ ap (λ (y : ℚ). leaf_factor ((k, x) ∷ []) j +ℚ y) (put_elsewhere n f qs j m)
      ∙ sym (add_assoc_q (leaf_factor ((k, x) ∷ []) j) (leaf_factor qs j) (leaf_factor qs n *ℚ leaf_factor f.parts j))
      ∙ (λ i. sym (factor-append ((k, x) ∷ []) qs j) i +ℚ sym (factor_other n k x qs (λ z. d (sym z))) i *ℚ leaf_factor f.parts j)
]

module _ (m : ℕ) (g f : Form ℕ) where
  put_factor : (j : ℕ) → (m ≡ j) ⊎ (m ≡ j → ⊥) → leaf_factor (put_in m (sum_in (val_of g)) (settled f.parts)) j ≡ leaf_factor (substitute ℕ_discrete f m g).parts j
  put_factor j (inl e) =
      subst (λ (i : ℕ). leaf_factor (put_in m (sum_in (val_of g)) (settled f.parts)) i ≡ leaf_factor (substitute ℕ_discrete f m g).parts i) e
      (put_there m (sum_in (val_of g)) (settled f.parts) ∙ (λ i. factor-settled f.parts m i *ℚ factor-settled g.parts m i) ∙ sym (substitute_there ℕ_discrete f m g))
  put_factor j (inr d) =
      put_elsewhere m (sum_in (val_of g)) (settled f.parts) j d
      ∙ (λ i. factor-settled f.parts j i +ℚ factor-settled f.parts m i *ℚ factor-settled g.parts j i)
      ∙ sym (substitute_elsewhere ℕ_discrete f m g j d)

  pub put_val : put_leaf m (val_of g) (val_of f) ≡ val_of (substitute ℕ_discrete f m g)
  put_val =
      made (put_in m (sum_in (val_of g)) (settled f.parts)) (leaf_factor (settled f.parts) m *ℚ g.constant +ℚ f.constant) (substitute ℕ_discrete f m g) (λ j. put_factor j (cases_eq m j))
      (ap (λ (y : ℚ). y *ℚ g.constant +ℚ f.constant) (factor-settled f.parts m) ∙ add_comm_q (leaf_factor f.parts m *ℚ g.constant) f.constant)
