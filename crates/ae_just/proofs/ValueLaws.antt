-- The lines that carry the equations of values on.
use Rattle.std.specs.Prelude.{ℤ, pos, neg_ℤ, ◌*ℤ◌, Bool, true, false, List, [], ◌∷◌, ◌≡◌}
use Rattle.std.proofs.Common.{refl, sym, ap, ◌∙◌}
use Rattle.ae_math.specs.Fractions.{ℚ, zero_ℚ, one_ℚ, neg_ℚ, whole, ◌+ℚ◌, ◌*ℚ◌}
use Rattle.ae_math.specs.Forms.{number, plus, minus, scale}
use Rattle.ae_math.proofs.FractionLaws.{field, add_assoc_q, add_zero_q, zero_add_q, add_neg_q, add_neg_cancel_q, add_left_comm_q, turn_q, mul_add_q, mul_assoc_q, one_mul_q}
use Rattle.ae_math.proofs.FormLaws.{minus_one, factor_in-append, factor_in-scale}
use Rattle.ae_math.proofs.Wholes.{whole_times, whole_neg, one_whole, zero_whole}
use Rattle.ae_core.specs.Decided.{Term_discrete}
use Rattle.ae_core.specs.declared.terms.Op.TheVariants as op
use Rattle.ae_core.specs.declared.terms.Term.{Term}
use Rattle.ae_rules.specs.Linear.{Linear, form, factor_of, IsSame, times}
use Rattle.ae_rules.specs.Lines.{Fact, equal, gap, total}
use Rattle.ae_rules.proofs.LinearLaws.{form-Num, int_sum, real_sum, int_product, real_product}
use Rattle.ae_store.specs.Terms.{named}
use Rattle.ae_just.specs.declared.steps.Times.{Times}
use Rattle.ae_just.specs.declared.steps.Side.TheVariants as side
use Rattle.ae_just.specs.Sides.{side_term, numeric, joined, product, sum_from}
use Rattle.ae_just.specs.Sides as written
use Rattle.ae_just.specs.Values.{combination, WrittenOut, IsValueOf, ValueWritten, SumLine, DifferenceLine, MultipleLine, CoveredLine, ApartLine, SolvedLine, PutLine, AlikeLine}

-- ---- what is read off a form: the factor of a term, or the constant
record IsCoordinate (φ : Linear → ℚ) : Type 0 where
  same : (f g : Linear) → IsSame f g → φ f ≡ φ g
  sum : (f g : Linear) → φ (plus f g) ≡ φ f +ℚ φ g
  multiple : (x : ℚ) (f : Linear) → φ (scale x f) ≡ x *ℚ φ f
  nothing : φ (number zero_ℚ) ≡ zero_ℚ

of_term : (t : Term) → IsCoordinate (λ f. factor_of f t)
of_term t = record {
  same = λ f g s. s.factors t;
  sum = λ f g. factor_in-append Term_discrete f.parts g.parts t;
  multiple = λ x f. factor_in-scale Term_discrete x f.parts t;
  nothing = refl;
}

of_constant : IsCoordinate (λ f. f.constant)
of_constant = record { same = λ f g s. s.constants; sum = λ f g. refl; multiple = λ x f. refl; nothing = refl }

same_by : (f g : Linear) → ((φ : Linear → ℚ) → IsCoordinate φ → φ f ≡ φ g) → IsSame f g
same_by f g h = record { factors = λ t. h (λ f. factor_of f t) (of_term t); constants = h (λ f. f.constant) of_constant }

-- ---- a value written out
sum_form : (real : Bool) (a b : Term) → form (joined (numeric real op.Add) [] a b) ≡ plus (form a) (form b)
sum_form true a b = real_sum [] a b
sum_form false a b = int_sum [] a b

product_form : (real : Bool) (ts : List Term) (p : Times) → form (product real ts p) ≡ scale (whole p.factor) (form (named ts p.name))
product_form true ts p =
    real_product [] (written.whole true p.factor) (named ts p.name) ∙ ap (λ f. times (product true ts p) f (form (named ts p.name))) (form-Num p.factor (pos 1) true)
product_form false ts p =
    int_product [] (written.whole false p.factor) (named ts p.name) ∙ ap (λ f. times (product false ts p) f (form (named ts p.name))) (form-Num p.factor (pos 1) false)

module _ (φ : Linear → ℚ) (c : IsCoordinate φ) where
  -- the sum over the parts
  abbrev parts_of : List Term → List Times → ℚ
  parts_of ts [] = zero_ℚ
  parts_of ts (p ∷ ps) = whole p.factor *ℚ φ (form (named ts p.name)) +ℚ parts_of ts ps

  combined : (ts : List Term) (ps : List Times) (k : ℤ) → φ (combination ts ps k) ≡ parts_of ts ps +ℚ φ (number (whole k))
  combined ts [] k = sym (zero_add_q (φ (number (whole k))))
  combined ts (p ∷ ps) k =
      c.sum (scale (whole p.factor) (form (named ts p.name))) (combination ts ps k)
      ∙ (λ i. c.multiple (whole p.factor) (form (named ts p.name)) i +ℚ combined ts ps k i)
      ∙ sym (add_assoc_q (whole p.factor *ℚ φ (form (named ts p.name))) (parts_of ts ps) (φ (number (whole k))))

  product_is : (real : Bool) (ts : List Term) (p : Times) → φ (form (product real ts p)) ≡ whole p.factor *ℚ φ (form (named ts p.name))
  product_is real ts p = ap φ (product_form real ts p) ∙ c.multiple (whole p.factor) (form (named ts p.name))

  summed : (real : Bool) (ts : List Term) (t : Term) (ps : List Times) → φ (form (sum_from real ts t ps)) ≡ φ (form t) +ℚ parts_of ts ps
  summed real ts t [] = sym (add_zero_q (φ (form t)))
  summed real ts t (p ∷ ps) =
      summed real ts (joined (numeric real op.Add) [] t (product real ts p)) ps
      ∙ ap (λ x. x +ℚ parts_of ts ps) (ap φ (sum_form real t (product real ts p)) ∙ c.sum (form t) (form (product real ts p)) ∙ ap (λ x. φ (form t) +ℚ x) (product_is real ts p))
      ∙ add_assoc_q (φ (form t)) (whole p.factor *ℚ φ (form (named ts p.name))) (parts_of ts ps)

  side_is : (ts : List Term) (ps : List Times) (k : ℤ) (real : Bool) → φ (form (side_term ts (side.Sum ps k real))) ≡ parts_of ts ps +ℚ φ (number (whole k))
  side_is ts [] k real = ap φ (form-Num k (pos 1) real) ∙ sym (zero_add_q (φ (number (whole k))))
  side_is ts (p ∷ ps) k real =
      ap φ (sum_form real (sum_from real ts (product real ts p) ps) (written.whole real k))
      ∙ c.sum (form (sum_from real ts (product real ts p) ps)) (form (written.whole real k))
      ∙ (λ i. (summed real ts (product real ts p) ps ∙ ap (λ x. x +ℚ parts_of ts ps) (product_is real ts p)) i +ℚ ap φ (form-Num k (pos 1) real) i)

pub written_out : WrittenOut
written_out ts ps k real = same_by (form (side_term ts (side.Sum ps k real))) (combination ts ps k) (λ φ c. side_is φ c ts ps k real ∙ sym (combined φ c ts ps k))

-- ---- the rational identities
scaled_gap : (d v n : ℚ) → d *ℚ v +ℚ neg_ℚ (d *ℚ n) ≡ d *ℚ (v +ℚ neg_ℚ n)
scaled_gap d v n = simp field

sum_q : (da db va na vb nb : ℚ) → (da *ℚ db) *ℚ ((va +ℚ vb) +ℚ neg_ℚ (na +ℚ nb)) ≡ db *ℚ (da *ℚ (va +ℚ neg_ℚ na)) +ℚ da *ℚ (db *ℚ (vb +ℚ neg_ℚ nb))
sum_q da db va na vb nb = simp field

difference_q : (da db va na vb nb : ℚ) → (da *ℚ db) *ℚ ((va +ℚ neg_ℚ vb) +ℚ neg_ℚ (na +ℚ neg_ℚ nb)) ≡ db *ℚ (da *ℚ (va +ℚ neg_ℚ na)) +ℚ neg_ℚ da *ℚ (db *ℚ (vb +ℚ neg_ℚ nb))
difference_q da db va na vb nb = simp field

multiple_q : (da d q va na : ℚ) → (da *ℚ d) *ℚ (q *ℚ va +ℚ neg_ℚ (q *ℚ na)) ≡ (d *ℚ q) *ℚ (da *ℚ (va +ℚ neg_ℚ na))
multiple_q da d q va na = simp field

telescope : (n m v : ℚ) → (m +ℚ neg_ℚ n) +ℚ (v +ℚ neg_ℚ m) ≡ v +ℚ neg_ℚ n
telescope n m v = turn_q m (neg_ℚ n) v (neg_ℚ m) ∙ ap (λ x. (v +ℚ neg_ℚ n) +ℚ x) (add_neg_q m) ∙ add_zero_q (v +ℚ neg_ℚ n)

parted : (d n m v : ℚ) → d *ℚ (v +ℚ neg_ℚ n) ≡ d *ℚ (m +ℚ neg_ℚ n) +ℚ d *ℚ (v +ℚ neg_ℚ m)
parted d n m v = ap (λ x. d *ℚ x) (sym (telescope n m v)) ∙ mul_add_q d (m +ℚ neg_ℚ n) (v +ℚ neg_ℚ m)

covered_q : (d v n m : ℚ) → one_ℚ *ℚ (d *ℚ (v +ℚ neg_ℚ n)) ≡ d *ℚ (m +ℚ neg_ℚ n) +ℚ one_ℚ *ℚ (d *ℚ (v +ℚ neg_ℚ m))
covered_q d v n m = one_mul_q (d *ℚ (v +ℚ neg_ℚ n)) ∙ parted d n m v ∙ ap (λ x. d *ℚ (m +ℚ neg_ℚ n) +ℚ x) (sym (one_mul_q (d *ℚ (v +ℚ neg_ℚ m))))

negated : (dp dq b : ℚ) → neg_ℚ ((dp *ℚ dq) *ℚ b) ≡ neg_ℚ dq *ℚ (dp *ℚ b)
negated dp dq b = simp field

apart_q : (dp dq vp p vq q : ℚ) → (dp *ℚ dq) *ℚ (vq +ℚ neg_ℚ vp) ≡ (dp *ℚ dq) *ℚ (q +ℚ neg_ℚ p) +ℚ (neg_ℚ dq *ℚ (dp *ℚ (vp +ℚ neg_ℚ p)) +ℚ dp *ℚ (dq *ℚ (vq +ℚ neg_ℚ q)))
apart_q dp dq vp p vq q =
    let e = dp *ℚ dq in
    let b = e *ℚ (vp +ℚ neg_ℚ p) in
    let x = e *ℚ (vq +ℚ neg_ℚ vp) in
    let both : b +ℚ x ≡ e *ℚ (q +ℚ neg_ℚ p) +ℚ e *ℚ (vq +ℚ neg_ℚ q) = sym (parted e p vp vq) ∙ parted e p q vq in
    sym (add_neg_cancel_q b x) ∙ ap (λ y. neg_ℚ b +ℚ y) both ∙ add_left_comm_q (neg_ℚ b) (e *ℚ (q +ℚ neg_ℚ p)) (e *ℚ (vq +ℚ neg_ℚ q))
    ∙ (λ i. e *ℚ (q +ℚ neg_ℚ p) +ℚ (negated dp dq (vp +ℚ neg_ℚ p) i +ℚ mul_assoc_q dp dq (vq +ℚ neg_ℚ q) i))

put_q : (dn dx q vn n vx x : ℚ) → (dn *ℚ dx) *ℚ ((vn +ℚ q *ℚ (vx +ℚ neg_ℚ x)) +ℚ neg_ℚ n) ≡ dx *ℚ (dn *ℚ (vn +ℚ neg_ℚ n)) +ℚ (dn *ℚ q) *ℚ (dx *ℚ (vx +ℚ neg_ℚ x))
put_q dn dx q vn n vx x = simp field

cancel_last : (x y : ℚ) → (x +ℚ y) +ℚ neg_ℚ y ≡ x
cancel_last x y = add_assoc_q x y (neg_ℚ y) ∙ ap (λ z. x +ℚ z) (add_neg_q y) ∙ add_zero_q x

alike_q : (d v a b : ℚ) → d *ℚ (b +ℚ neg_ℚ a) ≡ one_ℚ *ℚ (d *ℚ (v +ℚ neg_ℚ a)) +ℚ neg_ℚ one_ℚ *ℚ (d *ℚ (v +ℚ neg_ℚ b))
alike_q d v a b =
    let x = d *ℚ (b +ℚ neg_ℚ a) in
    let y = d *ℚ (v +ℚ neg_ℚ b) in
    sym ((λ i. (one_mul_q (d *ℚ (v +ℚ neg_ℚ a)) ∙ parted d a b v) i +ℚ minus_one y i) ∙ cancel_last x y)

-- the product of two integers, as fractions
products : (a b x y : ℤ) → a *ℤ b ≡ x *ℤ y → whole a *ℚ whole b ≡ whole x *ℚ whole y
products a b x y e = whole_times a b ∙ ap whole e ∙ sym (whole_times x y)

-- ---- what facts say, read at a coordinate
module _ (φ : Linear → ℚ) (c : IsCoordinate φ) where
  less : (f g : Linear) → φ (minus f g) ≡ φ f +ℚ neg_ℚ (φ g)
  less f g = c.sum f (scale (neg_ℚ one_ℚ) g) ∙ ap (λ x. φ f +ℚ x) (c.multiple (neg_ℚ one_ℚ) g ∙ minus_one (φ g))

  multiple_gap : (d : ℤ) (v w : Linear) (f : Fact) → IsSame (gap f) (scale (whole d) (minus v w)) → φ (gap f) ≡ whole d *ℚ (φ v +ℚ neg_ℚ (φ w))
  multiple_gap d v w f s = c.same (gap f) (scale (whole d) (minus v w)) s ∙ c.multiple (whole d) (minus v w) ∙ ap (λ x. whole d *ℚ x) (less v w)

  value_gap : (d : ℤ) (t : Term) (v : Linear) (f : Fact) → IsValueOf d t v f → φ (gap f) ≡ whole d *ℚ (φ v +ℚ neg_ℚ (φ (form t)))
  value_gap d t v f h = multiple_gap d v (form t) f h.is

  whole_of : (D : ℤ) (f : Fact) → φ (scale (whole D) (gap f)) ≡ whole D *ℚ φ (gap f)
  whole_of D f = c.multiple (whole D) (gap f)

  first_of : (p : ℤ × Fact) (ps : List (ℤ × Fact)) → φ (total (p ∷ ps)) ≡ whole p.0 *ℚ φ (gap p.1) +ℚ φ (total ps)
  first_of p ps = c.sum (scale (whole p.0) (gap p.1)) (total ps) ∙ ap (λ x. x +ℚ φ (total ps)) (c.multiple (whole p.0) (gap p.1))

  one_of : (p : ℤ × Fact) → φ (total (p ∷ [])) ≡ whole p.0 *ℚ φ (gap p.1)
  one_of p = first_of p [] ∙ ap (λ x. whole p.0 *ℚ φ (gap p.1) +ℚ x) c.nothing ∙ add_zero_q (whole p.0 *ℚ φ (gap p.1))

  two_of : (p q : ℤ × Fact) → φ (total (p ∷ q ∷ [])) ≡ whole p.0 *ℚ φ (gap p.1) +ℚ whole q.0 *ℚ φ (gap q.1)
  two_of p q = first_of p (q ∷ []) ∙ ap (λ x. whole p.0 *ℚ φ (gap p.1) +ℚ x) (one_of q)

  three_of : (p q r : ℤ × Fact) → φ (total (p ∷ q ∷ r ∷ [])) ≡ whole p.0 *ℚ φ (gap p.1) +ℚ (whole q.0 *ℚ φ (gap q.1) +ℚ whole r.0 *ℚ φ (gap r.1))
  three_of p q r = first_of p (q ∷ r ∷ []) ∙ ap (λ x. whole p.0 *ℚ φ (gap p.1) +ℚ x) (two_of q r)

  -- D times d times a difference, where D * d = x * y
  carried : (D d x y : ℤ) (z : ℚ) → D *ℤ d ≡ x *ℤ y → whole D *ℚ (whole d *ℚ z) ≡ (whole x *ℚ whole y) *ℚ z
  carried D d x y z e = sym (mul_assoc_q (whole D) (whole d) z) ∙ ap (λ u. u *ℚ z) (products D d x y e)

pub value_written : ValueWritten
value_written ts real ps k p v s = record {
  is = same_by (gap f) (scale (whole p.factor) (minus v (form t))) (λ φ c.
      less φ c (form (side_term ts (side.Sum ps k real))) (form (side_term ts (side.Sum (p ∷ []) (pos 0) real)))
      ∙ (λ i. (side_is φ c ts ps k real ∙ sym (combined φ c ts ps k) ∙ c.same (combination ts ps k) (scale (whole p.factor) v) s ∙ c.multiple (whole p.factor) v) i
      +ℚ neg_ℚ ((side_is φ c ts (p ∷ []) (pos 0) real ∙ ap (λ x. parts_of φ c ts (p ∷ []) +ℚ x) (ap (λ x. φ (number x)) (sym zero_whole) ∙ c.nothing)
      ∙ add_zero_q (parts_of φ c ts (p ∷ [])) ∙ add_zero_q (whole p.factor *ℚ φ (form t))) i))
      ∙ scaled_gap (whole p.factor) (φ v) (φ (form t)) ∙ ap (λ x. whole p.factor *ℚ x) (sym (less φ c v (form t))) ∙ sym (c.multiple (whole p.factor) (minus v (form t))));
}
  where
    t : Term
    t = named ts p.name

    f : Fact
    f = equal (side_term ts (side.Sum (p ∷ []) (pos 0) real)) (side_term ts (side.Sum ps k real))

pub sum_line : SumLine
sum_line D dn da db n a b vn va vb fn fa fb hn ha hb n_is v_is e = same_by (scale (whole D) (gap fn)) (total ((db, fa) ∷ (da, fb) ∷ [])) (λ φ c.
    whole_of φ c D fn ∙ ap (λ x. whole D *ℚ x) (value_gap φ c dn n vn fn hn) ∙ carried φ c D dn da db (φ vn +ℚ neg_ℚ (φ (form n))) e
    ∙ (λ i. (whole da *ℚ whole db) *ℚ ((c.same vn (plus va vb) v_is ∙ c.sum va vb) i +ℚ neg_ℚ ((c.same (form n) (plus (form a) (form b)) n_is ∙ c.sum (form a) (form b)) i)))
    ∙ sum_q (whole da) (whole db) (φ va) (φ (form a)) (φ vb) (φ (form b))
    ∙ sym (two_of φ c (db, fa) (da, fb) ∙ (λ i. whole db *ℚ value_gap φ c da a va fa ha i +ℚ whole da *ℚ value_gap φ c db b vb fb hb i)))

pub difference_line : DifferenceLine
difference_line D dn da db n a b vn va vb fn fa fb hn ha hb n_is v_is e = same_by (scale (whole D) (gap fn)) (total ((db, fa) ∷ (neg_ℤ da, fb) ∷ [])) (λ φ c.
    whole_of φ c D fn ∙ ap (λ x. whole D *ℚ x) (value_gap φ c dn n vn fn hn) ∙ carried φ c D dn da db (φ vn +ℚ neg_ℚ (φ (form n))) e
    ∙ (λ i. (whole da *ℚ whole db) *ℚ ((c.same vn (minus va vb) v_is ∙ less φ c va vb) i +ℚ neg_ℚ ((c.same (form n) (minus (form a) (form b)) n_is ∙ less φ c (form a) (form b)) i)))
    ∙ difference_q (whole da) (whole db) (φ va) (φ (form a)) (φ vb) (φ (form b))
    ∙ sym (two_of φ c (db, fa) (neg_ℤ da, fb) ∙ (λ i. whole db *ℚ value_gap φ c da a va fa ha i +ℚ sym (whole_neg da) i *ℚ value_gap φ c db b vb fb hb i)))

pub multiple_line : MultipleLine
multiple_line D dn da k d q n a vn va fn fa hn ha n_is v_is r e = same_by (scale (whole D) (gap fn)) (total ((k, fa) ∷ [])) (λ φ c.
    whole_of φ c D fn ∙ ap (λ x. whole D *ℚ x) (value_gap φ c dn n vn fn hn) ∙ carried φ c D dn da d (φ vn +ℚ neg_ℚ (φ (form n))) e
    ∙ (λ i. (whole da *ℚ whole d) *ℚ ((c.same vn (scale q va) v_is ∙ c.multiple q va) i +ℚ neg_ℚ ((c.same (form n) (scale q (form a)) n_is ∙ c.multiple q (form a)) i)))
    ∙ multiple_q (whole da) (whole d) q (φ va) (φ (form a)) ∙ ap (λ x. x *ℚ (whole da *ℚ (φ va +ℚ neg_ℚ (φ (form a))))) r
    ∙ sym (one_of φ c (k, fa) ∙ ap (λ x. whole k *ℚ x) (value_gap φ c da a va fa ha)))

pub covered_line : CoveredLine
covered_line d n m vn vm fn fm hn hm v_is = same_by (scale (whole (pos 1)) (gap fn)) (total ((d, equal n m) ∷ (pos 1, fm) ∷ [])) (λ φ c.
    whole_of φ c (pos 1) fn ∙ (λ i. sym one_whole i *ℚ (value_gap φ c d n vn fn hn ∙ ap (λ x. whole d *ℚ (x +ℚ neg_ℚ (φ (form n)))) (c.same vn vm v_is)) i)
    ∙ covered_q (whole d) (φ vm) (φ (form n)) (φ (form m))
    ∙ sym (two_of φ c (d, equal n m) (pos 1, fm) ∙ (λ i. whole d *ℚ less φ c (form m) (form n) i +ℚ sym one_whole i *ℚ value_gap φ c d m vm fm hm i)))

pub apart_line : ApartLine
apart_line D d dp dq p q vp vq z fp fq z_is hp hq e = same_by (scale (whole D) (gap z)) (total ((dp *ℤ dq, equal p q) ∷ (neg_ℤ dq, fp) ∷ (dp, fq) ∷ [])) (λ φ c.
    whole_of φ c D z ∙ ap (λ x. whole D *ℚ x) (multiple_gap φ c d vq vp z z_is) ∙ carried φ c D d dp dq (φ vq +ℚ neg_ℚ (φ vp)) e
    ∙ apart_q (whole dp) (whole dq) (φ vp) (φ (form p)) (φ vq) (φ (form q))
    ∙ sym (three_of φ c (dp *ℤ dq, equal p q) (neg_ℤ dq, fp) (dp, fq)
    ∙ (λ i. sym (whole_times dp dq) i *ℚ less φ c (form q) (form p) i +ℚ (sym (whole_neg dq) i *ℚ value_gap φ c dp p vp fp hp i +ℚ whole dp *ℚ value_gap φ c dq q vq fq hq i))))

pub solved_line : SolvedLine
solved_line D d e sign x v z f z_is h p = same_by (scale (whole D) (gap f)) (total ((sign, z) ∷ [])) (λ φ c.
    whole_of φ c D f ∙ ap (λ y. whole D *ℚ y) (value_gap φ c d x v f h) ∙ carried φ c D d sign e (φ v +ℚ neg_ℚ (φ (form x))) p
    ∙ mul_assoc_q (whole sign) (whole e) (φ v +ℚ neg_ℚ (φ (form x))) ∙ sym (one_of φ c (sign, z) ∙ ap (λ y. whole sign *ℚ y) (multiple_gap φ c e v (form x) z z_is)))

pub put_line : PutLine
put_line D dn' dn dx k q n x vn' vn vx fn' fn fx hn' hn hx v_is r e = same_by (scale (whole D) (gap fn')) (total ((dx, fn) ∷ (k, fx) ∷ [])) (λ φ c.
    whole_of φ c D fn' ∙ ap (λ y. whole D *ℚ y) (value_gap φ c dn' n vn' fn' hn') ∙ carried φ c D dn' dn dx (φ vn' +ℚ neg_ℚ (φ (form n))) e
    ∙ ap (λ y. (whole dn *ℚ whole dx) *ℚ (y +ℚ neg_ℚ (φ (form n))))
    (c.same vn' (plus vn (scale q (minus vx (form x)))) v_is ∙ c.sum vn (scale q (minus vx (form x))) ∙ ap (λ y. φ vn +ℚ y) (c.multiple q (minus vx (form x)) ∙ ap (λ y. q *ℚ y) (less φ c vx (form x))))
    ∙ put_q (whole dn) (whole dx) q (φ vn) (φ (form n)) (φ vx) (φ (form x)) ∙ ap (λ y. whole dx *ℚ (whole dn *ℚ (φ vn +ℚ neg_ℚ (φ (form n)))) +ℚ y *ℚ (whole dx *ℚ (φ vx +ℚ neg_ℚ (φ (form x))))) r
    ∙ sym (two_of φ c (dx, fn) (k, fx) ∙ (λ i. whole dx *ℚ value_gap φ c dn n vn fn hn i +ℚ whole k *ℚ value_gap φ c dx x vx fx hx i)))

pub alike_line : AlikeLine
alike_line d a b va vb fa fb ha hb v_is = same_by (scale (whole d) (gap (equal a b))) (total ((pos 1, fa) ∷ (neg_ℤ (pos 1), fb) ∷ [])) (λ φ c.
    whole_of φ c d (equal a b) ∙ ap (λ x. whole d *ℚ x) (less φ c (form b) (form a)) ∙ alike_q (whole d) (φ va) (φ (form a)) (φ (form b))
    ∙ sym (two_of φ c (pos 1, fa) (neg_ℤ (pos 1), fb)
    ∙ (λ i. sym one_whole i *ℚ value_gap φ c d a va fa ha i
    +ℚ (sym (whole_neg (pos 1)) ∙ ap neg_ℚ (sym one_whole)) i *ℚ (value_gap φ c d b vb fb hb ∙ ap (λ x. whole d *ℚ (x +ℚ neg_ℚ (φ (form b)))) (sym (c.same va vb v_is))) i)))
