-- The linear forms of terms of sort `int` have whole factors and a whole constant.
use Rattle.std.specs.Prelude.{ℤ, pos, negsuc, ◌+ℤ◌, ◌*ℤ◌, neg_ℤ, Bool, true, false, cond, not, int_lt, ◌&&◌, List, [], ◌∷◌, ◌≡◌, map, Some}
use Rattle.std.specs.List.{AllByRecursion}
use Rattle.std.proofs.Common.{refl, sym, ap, ◌∙◌, subst, arith}
use Rattle.std.proofs.lemmas.Bool.{and_parts, not-true}
use Rattle.std.proofs.lemmas.Bool.Decides.{nat_tests}
use Rattle.ae_base.specs.Decided.{pick}
use Rattle.ae_base.specs.Options.{all_known}
use Rattle.ae_base.proofs.Decided.{decided_yes}
use Rattle.ae_base.proofs.Options.{cons_some, when_some}
use Rattle.ae_base.proofs.Tests.{false_true, four_parts}
use Rattle.ae_math.specs.Fractions.{ℚ, zero_ℚ, one_ℚ, neg_ℚ, ◌+ℚ◌, ◌*ℚ◌, ratio, whole}
use Rattle.ae_math.specs.Forms.{number, single, plus, minus, scale}
use Rattle.ae_math.proofs.FormLaws.{factor_in-append, factor_in-scale}
use Rattle.ae_math.proofs.Wholes.{whole_plus, whole_times, whole_neg, zero_whole, one_whole}
use Rattle.ae_core.specs.Decided.{Term_discrete, Sorts_discrete}
use Rattle.ae_core.specs.Inner.Induction.{by_terms}
use Rattle.ae_core.specs.Sorts.{sort_of, is_closed_sort, same_sorts, operands, on_real, within, numeral_ok}
use Rattle.ae_core.specs.declared.problems.Signature.{Signature}
use Rattle.ae_core.specs.declared.terms.Sort.{Sort, Int, Real}
use Rattle.ae_core.specs.declared.terms.Op.{Op}
use Rattle.ae_core.specs.declared.terms.Op.TheVariants as op
use Rattle.ae_core.specs.declared.terms.Head.{Head}
use Rattle.ae_core.specs.declared.terms.Head.TheVariants as head
use Rattle.ae_core.specs.declared.terms.Term.{Term, Bound, Num, Fresh, Apply}
use Rattle.ae_core.proofs.ClosedSorts.{applied_is}
use Rattle.ae_core.proofs.SortLaws.{sort_in_num}
use Rattle.ae_rules.specs.Linear.{Linear, form, factor_of, times}
use Rattle.ae_rules.proofs.LinearLaws.{form-Apply, form-Bound, form-Num, form-Fresh, int_sum, int_difference, int_negation, int_product}

-- ---- whole fractions
abbrev pub IsIntegral : ℚ → Type 0
IsIntegral q = (z : ℤ) × (q ≡ whole z)

zero_integer : IsIntegral zero_ℚ
zero_integer = (pos 0, zero_whole)

one_integer : IsIntegral one_ℚ
one_integer = (pos 1, one_whole)

minus_integer : IsIntegral (neg_ℚ one_ℚ)
minus_integer = (neg_ℤ (pos 1), ap neg_ℚ one_whole ∙ whole_neg (pos 1))

add_integers : (a b : ℚ) → IsIntegral a → IsIntegral b → IsIntegral (a +ℚ b)
add_integers a b x y = (x.0 +ℤ y.0, (λ i. x.1 i +ℚ y.1 i) ∙ whole_plus x.0 y.0)

multiply_integers : (a b : ℚ) → IsIntegral a → IsIntegral b → IsIntegral (a *ℚ b)
multiply_integers a b x y = (x.0 *ℤ y.0, (λ i. x.1 i *ℚ y.1 i) ∙ whole_times x.0 y.0)

-- ---- forms of them
pub record IsWholeForm (f : Linear) : Type 0 where
  pub factors : (u : Term) → IsIntegral (factor_of f u)
  pub constant : IsIntegral f.constant

number_whole : (q : ℚ) → IsIntegral q → IsWholeForm (number q)
number_whole q x = record { factors = λ u. zero_integer; constant = x }

pub single_whole : (t : Term) → IsWholeForm (single t)
single_whole t = record { factors = λ u. factor u (Term_discrete t u); constant = zero_integer }
  where
    factor : (u : Term) (d : Dec (t ≡ u)) → IsIntegral (pick d (one_ℚ +ℚ zero_ℚ) zero_ℚ)
    factor u (yes e) = add_integers one_ℚ zero_ℚ one_integer zero_integer
    factor u (no n) = zero_integer

plus_whole : (f g : Linear) → IsWholeForm f → IsWholeForm g → IsWholeForm (plus f g)
plus_whole f g a b =
    record {
      factors = λ u. subst IsIntegral (sym (factor_in-append Term_discrete f.parts g.parts u)) (add_integers (factor_of f u) (factor_of g u) (a.factors u) (b.factors u));
      constant = add_integers f.constant g.constant a.constant b.constant;
    }

scale_whole : (q : ℚ) (f : Linear) → IsIntegral q → IsWholeForm f → IsWholeForm (scale q f)
scale_whole q f x a =
    record {
      factors = λ u. subst IsIntegral (sym (factor_in-scale Term_discrete q f.parts u)) (multiply_integers q (factor_of f u) x (a.factors u));
      constant = multiply_integers q f.constant x a.constant;
    }

minus_whole : (f g : Linear) → IsWholeForm f → IsWholeForm g → IsWholeForm (minus f g)
minus_whole f g a b = plus_whole f (scale (neg_ℚ one_ℚ) g) a (scale_whole (neg_ℚ one_ℚ) g minus_integer b)

choice_whole : (b : Bool) (f g : Linear) → IsWholeForm f → IsWholeForm g → IsWholeForm (cond b f g)
choice_whole true f g x y = x
choice_whole false f g x y = y

times_whole : (t : Term) (f g : Linear) → IsWholeForm f → IsWholeForm g → IsWholeForm (times t f g)
times_whole t f g a b =
    choice_whole _ (scale f.constant g) _ (scale_whole f.constant g a.constant b)
    (choice_whole _ (scale g.constant f) (single t) (scale_whole g.constant f b.constant a) (single_whole t))

-- a numeral that is whole
bottom_by : (b : ℤ) → int_lt (pos 0) b ≡ true → int_lt (pos 1) b ≡ false → b ≡ pos 1
bottom_by (pos n) p q = ap pos (let e : n ≡ 1 = grind (arith, nat_tests) in e)
bottom_by (negsuc n) p q = false_true p

whole_bottom : (a b : ℤ) → numeral_ok a b false ≡ true → b ≡ pos 1
whole_bottom a b e =
    let parts = four_parts (within a) (within b) (int_lt (pos 0) b) (not (int_lt (pos 1) b)) e in
    bottom_by b parts.2 (not-true (int_lt (pos 1) b) parts.3)

-- ---- forms of terms of sort `int`
module _ (sig : Signature) where
  abbrev IsWholeTerm : Term → Type 0
  IsWholeTerm t = sort_of sig t ≡ Some Int → IsWholeForm (form t)

  pub two_sorted : (a b : Term) → all_known (map (sort_of sig) (a ∷ b ∷ [])) ≡ Some (Int ∷ Int ∷ []) → (sort_of sig a ≡ Some Int) × (sort_of sig b ≡ Some Int)
  two_sorted a b k =
      let p = cons_some (sort_of sig a) (all_known (map (sort_of sig) (b ∷ []))) (Int ∷ Int ∷ []) k in
      let q = cons_some (sort_of sig b) (all_known (map (sort_of sig) [])) p.1 p.3 in
      let x : p.0 ≡ Int = cc p.4 in
      let y : q.0 ≡ Int = cc (p.4, q.4) in
      (p.2 ∙ ap Some x, q.2 ∙ ap Some y)

  pub one_sorted : (a : Term) → all_known (map (sort_of sig) (a ∷ [])) ≡ Some (Int ∷ []) → sort_of sig a ≡ Some Int
  one_sorted a k = let p = cons_some (sort_of sig a) (all_known (map (sort_of sig) [])) (Int ∷ []) k in let x : p.0 ≡ Int = cc p.4 in p.2 ∙ ap Some x

  opaque_whole : (h : Head) (ss : List Sort) (us : List Term) → form (Apply h ss us) ≡ single (Apply h ss us) → IsWholeForm (form (Apply h ss us))
  opaque_whole h ss us e = subst IsWholeForm (sym e) (single_whole (Apply h ss us))

  operation_whole : (o : Op) (ss : List Sort) (us : List Term) → AllByRecursion IsWholeTerm us → all_known (map (sort_of sig) us) ≡ Some (operands o (Int ∷ [])) → IsWholeForm (form (Apply (head.Int o) ss us))
  operation_whole op.Add ss (a ∷ b ∷ []) all k = let s = two_sorted a b k in subst IsWholeForm (sym (int_sum ss a b)) (plus_whole (form a) (form b) (all.0 s.0) (all.1.0 s.1))
  operation_whole op.Sub ss (a ∷ b ∷ []) all k = let s = two_sorted a b k in subst IsWholeForm (sym (int_difference ss a b)) (minus_whole (form a) (form b) (all.0 s.0) (all.1.0 s.1))
  operation_whole op.Mul ss (a ∷ b ∷ []) all k =
      let s = two_sorted a b k in subst IsWholeForm (sym (int_product ss a b)) (times_whole (Apply (head.Int op.Mul) ss (a ∷ b ∷ [])) (form a) (form b) (all.0 s.0) (all.1.0 s.1))
  operation_whole op.Neg ss (a ∷ []) all k = subst IsWholeForm (sym (int_negation ss a)) (scale_whole (neg_ℚ one_ℚ) (form a) minus_integer (all.0 (one_sorted a k)))
  operation_whole op.Add ss [] all k = opaque_whole (head.Int op.Add) ss [] (form-Apply (head.Int op.Add) ss [])
  operation_whole op.Add ss (a ∷ []) all k = opaque_whole (head.Int op.Add) ss (a ∷ []) (form-Apply (head.Int op.Add) ss (a ∷ []))
  operation_whole op.Add ss (a ∷ b ∷ c ∷ us) all k = opaque_whole (head.Int op.Add) ss (a ∷ b ∷ c ∷ us) (form-Apply (head.Int op.Add) ss (a ∷ b ∷ c ∷ us))
  operation_whole op.Sub ss [] all k = opaque_whole (head.Int op.Sub) ss [] (form-Apply (head.Int op.Sub) ss [])
  operation_whole op.Sub ss (a ∷ []) all k = opaque_whole (head.Int op.Sub) ss (a ∷ []) (form-Apply (head.Int op.Sub) ss (a ∷ []))
  operation_whole op.Sub ss (a ∷ b ∷ c ∷ us) all k = opaque_whole (head.Int op.Sub) ss (a ∷ b ∷ c ∷ us) (form-Apply (head.Int op.Sub) ss (a ∷ b ∷ c ∷ us))
  operation_whole op.Mul ss [] all k = opaque_whole (head.Int op.Mul) ss [] (form-Apply (head.Int op.Mul) ss [])
  operation_whole op.Mul ss (a ∷ []) all k = opaque_whole (head.Int op.Mul) ss (a ∷ []) (form-Apply (head.Int op.Mul) ss (a ∷ []))
  operation_whole op.Mul ss (a ∷ b ∷ c ∷ us) all k = opaque_whole (head.Int op.Mul) ss (a ∷ b ∷ c ∷ us) (form-Apply (head.Int op.Mul) ss (a ∷ b ∷ c ∷ us))
  operation_whole op.Neg ss [] all k = opaque_whole (head.Int op.Neg) ss [] (form-Apply (head.Int op.Neg) ss [])
  operation_whole op.Neg ss (a ∷ b ∷ us) all k = opaque_whole (head.Int op.Neg) ss (a ∷ b ∷ us) (form-Apply (head.Int op.Neg) ss (a ∷ b ∷ us))
  operation_whole op.Div ss us all k = opaque_whole (head.Int op.Div) ss us (form-Apply (head.Int op.Div) ss us)
  operation_whole op.Mod ss us all k = opaque_whole (head.Int op.Mod) ss us (form-Apply (head.Int op.Mod) ss us)

  applied_whole : (h : Head) (ss : List Sort) (us : List Term) → AllByRecursion IsWholeTerm us → IsWholeTerm (Apply h ss us)
  applied_whole (head.Int o) ss us all e =
      let a = applied_is sig (head.Int o) ss us Int e in
      let w = when_some (same_sorts ss [] && same_sorts a.args (operands o (Int ∷ []))) Int Int a.is in
      let b = and_parts (same_sorts ss []) (same_sorts a.args (operands o (Int ∷ []))) w.0 in
      operation_whole o ss us all (a.are ∙ ap Some (decided_yes (Sorts_discrete a.args (operands o (Int ∷ []))) b.1))
  applied_whole (head.Real o) ss us all e =
      let a = applied_is sig (head.Real o) ss us Int e in
      let w = when_some (on_real o && same_sorts ss [] && same_sorts a.args (operands o (Real ∷ []))) Real Int a.is in
      absurd (let d : Real ≡ Int = w.1 in cc d)
  applied_whole (head.Symbol n) ss us all e = opaque_whole (head.Symbol n) ss us (form-Apply (head.Symbol n) ss us)
  applied_whole (head.Build n) ss us all e = opaque_whole (head.Build n) ss us (form-Apply (head.Build n) ss us)
  applied_whole (head.Field n place) ss us all e = opaque_whole (head.Field n place) ss us (form-Apply (head.Field n place) ss us)
  applied_whole head.True ss us all e = opaque_whole head.True ss us (form-Apply head.True ss us)
  applied_whole head.False ss us all e = opaque_whole head.False ss us (form-Apply head.False ss us)
  applied_whole head.Void ss us all e = opaque_whole head.Void ss us (form-Apply head.Void ss us)

  numeral_whole : (a b : ℤ) (real : Bool) → IsWholeTerm (Num a b real)
  numeral_whole a b true e =
      absurd (let w = when_some (numeral_ok a b true) Real Int (sym (sort_in_num sig (is_closed_sort sig) [] a b true) ∙ e) in let d : Real ≡ Int = w.1 in cc d)
  numeral_whole a b false e =
      let w = when_some (numeral_ok a b false) Int Int (sym (sort_in_num sig (is_closed_sort sig) [] a b false) ∙ e) in
      let one : b ≡ pos 1 = whole_bottom a b w.0 in
      subst IsWholeForm (sym (form-Num a b false ∙ ap (λ z. number (ratio a z)) one)) (number_whole (whole a) (a, refl))

  -- each term of sort `int` has such a form
  pub form_whole : (t : Term) → IsWholeTerm t
  form_whole =
      by_terms IsWholeTerm (λ n e. subst IsWholeForm (sym (form-Bound n)) (single_whole (Bound n))) numeral_whole (λ n s e. subst IsWholeForm (sym (form-Fresh n s)) (single_whole (Fresh n s))) applied_whole
