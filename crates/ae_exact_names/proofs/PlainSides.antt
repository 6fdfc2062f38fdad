-- Sums over plain names are plain, and so are multisets of them that are no products.
use Rattle.std.specs.Prelude.{ℕ, ℤ, pos, ◌≡◌, Bool, true, false, ◌&&◌, ◌||◌, List, [], ◌∷◌, slice_get, Option, Some, None}
use Rattle.std.proofs.Common.{refl, sym, ap, ◌∙◌, subst, inl, inr}
use Rattle.ae_base.specs.Options.{or_else}
use Rattle.ae_base.proofs.Tests.{false_true}
use Rattle.ae_core.specs.declared.problems.Signature.{Signature}
use Rattle.ae_core.specs.declared.terms.Op.TheVariants as op
use Rattle.ae_core.specs.declared.terms.Head.{Head}
use Rattle.ae_core.specs.declared.terms.Head.TheVariants as head
use Rattle.ae_core.specs.declared.terms.Sort.{Sort}
use Rattle.ae_core.specs.declared.terms.Term.{Term, Bound, Num, para-roll-Term}
use Rattle.ae_core.specs.declared.terms.Term.TheOpen as layer
use Rattle.ae_core.specs.declared.terms.Term.TheVariants.{rolls-Bound, rolls-Num}
use Rattle.ae_evaluation.proofs.Plainness.{plain-Apply}
use Rattle.ae_exact_names.specs.Exact.{ArePlain, PlainNamesMakePlainSteps}
use Rattle.ae_just.specs.Sides.{whole, numeric, joined, product, sum_from, sum_of, many_from, many_of, side_term}
use Rattle.ae_just.specs.Steps.{IsOfNames}
use Rattle.ae_just.specs.declared.steps.Side.{Side}
use Rattle.ae_just.specs.declared.steps.Side.TheVariants as side
use Rattle.ae_just.specs.declared.steps.Times.{Times}
use Rattle.ae_rules.proofs.LinearLaws.{form-Num}
use Rattle.ae_rules.specs.Linear.{form, is_number, is_plain, plain_step}
use Rattle.ae_rules.specs.Lines.{equal, fact_ok, plain_ok}
use Rattle.ae_store.specs.Terms.{named}

plain-Bound : (n : ℕ) → is_plain (Bound n) ≡ true
unfolding is_plain
plain-Bound n = ap is_plain (sym (rolls-Bound n)) ∙ para-roll-Term Bool plain_step (layer.Bound n)

plain-Num : (top bottom : ℤ) (real : Bool) → is_plain (Num top bottom real) ≡ true
unfolding is_plain
plain-Num a b r = ap is_plain (sym (rolls-Num a b r)) ∙ para-roll-Term Bool plain_step (layer.Num a b r)

numeral_number : (top bottom : ℤ) (real : Bool) → is_number (form (Num top bottom real)) ≡ true
numeral_number a b r = ap is_number (form-Num a b r)

-- facts of plain terms
pub plain_fact : (sig : Signature) (u w : Term) → is_plain u ≡ true → is_plain w ≡ true → fact_ok sig (equal u w) ≡ true → plain_ok sig (equal u w) ≡ true
plain_fact sig u w p q o = λ i. o i && p i && q i

plain_sum : (real : Bool) (a b : Term) → is_plain a ≡ true → is_plain b ≡ true → is_plain (joined (numeric real op.Add) [] a b) ≡ true
plain_sum true a b p q = plain-Apply (head.Real op.Add) [] (a ∷ b ∷ []) ∙ (λ i. p i && (q i && true))
plain_sum false a b p q = plain-Apply (head.Int op.Add) [] (a ∷ b ∷ []) ∙ (λ i. p i && (q i && true))

plain_multiple : (real : Bool) (z : ℤ) (a : Term) → is_plain a ≡ true → is_plain (joined (numeric real op.Mul) [] (whole real z) a) ≡ true
plain_multiple true z a p =
    plain-Apply (head.Real op.Mul) [] (whole true z ∷ a ∷ []) ∙ (λ i. (numeral_number z (pos 1) true i || is_number (form a)) && (plain-Num z (pos 1) true i && (p i && true)))
plain_multiple false z a p =
    plain-Apply (head.Int op.Mul) [] (whole false z ∷ a ∷ []) ∙ (λ i. (numeral_number z (pos 1) false i || is_number (form a)) && (plain-Num z (pos 1) false i && (p i && true)))

module _ (ts : List Term) (plain : ArePlain ts) where
  plain_or : (n : ℕ) (q : Option Term) → slice_get ts n ≡ q → is_plain (or_else q (Bound 0)) ≡ true
  plain_or n None at = plain-Bound 0
  plain_or n (Some t) at = plain n t at

  pub plain_name : (n : ℕ) → is_plain (named ts n) ≡ true
  plain_name n = plain_or n (slice_get ts n) refl

  plain_product : (real : Bool) (p : Times) → is_plain (product real ts p) ≡ true
  plain_product real p = plain_multiple real p.factor (named ts p.name) (plain_name p.name)

  plain_from : (real : Bool) (t : Term) (ps : List Times) → is_plain t ≡ true → is_plain (sum_from real ts t ps) ≡ true
  plain_from real t [] h = h
  plain_from real t (p ∷ ps) h = plain_from real (joined (numeric real op.Add) [] t (product real ts p)) ps (plain_sum real t (product real ts p) h (plain_product real p))

  pub plain_sums : (real : Bool) (ps : List Times) (z : ℤ) → is_plain (sum_of real ts ps z) ≡ true
  plain_sums real [] z = plain-Num z (pos 1) real
  plain_sums real (p ∷ ps) z =
      plain_sum real (sum_from real ts (product real ts p) ps) (whole real z) (plain_from real (product real ts p) ps (plain_product real p)) (plain-Num z (pos 1) real)

  -- ---- multisets
  plain_applied : (k : ℕ) (ss : List Sort) (a b : Term) → is_plain a ≡ true → is_plain b ≡ true → is_plain (joined (head.Symbol k) ss a b) ≡ true
  plain_applied k ss a b p q = plain-Apply (head.Symbol k) ss (a ∷ b ∷ []) ∙ (λ i. p i && (q i && true))

  plain_many : (h : Head) (k : ℕ) → h ≡ head.Symbol k → (ss : List Sort) (t : Term) (ns : List ℕ) → is_plain t ≡ true → is_plain (many_from h ss ts t ns) ≡ true
  plain_many h k e ss t [] p = p
  plain_many h k e ss t (n ∷ ns) p =
      plain_many h k e ss (joined h ss t (named ts n)) ns (subst (λ (g : Head). is_plain (joined g ss t (named ts n)) ≡ true) (sym e) (plain_applied k ss t (named ts n) p (plain_name n)))

  plain_multiset : (h : Head) (k : ℕ) → h ≡ head.Symbol k → (ss : List Sort) (ns : List ℕ) → is_plain (many_of h ss ts ns) ≡ true
  plain_multiset h k e ss [] = plain-Bound 0
  plain_multiset h k e ss (n ∷ ns) = plain_many h k e ss (named ts n) ns (plain_name n)

  plain_side : (sig : Signature) (x : Side) → IsOfNames sig ts x → is_plain (side_term ts x) ≡ true
  plain_side sig (side.Name n) h = plain_name n
  plain_side sig (side.Sum ps z real) h = plain_sums real ps z
  plain_side sig (side.Many u ns) h = elim h [
    | inl d ↦ plain_multiset u.head d.0 d.1 u.sorts ns
    | inr w ↦ false_true (sym w.3 ∙ plain w.0 w.1 w.2)
  ]

pub plain_names_make_plain_steps : PlainNamesMakePlainSteps
plain_names_make_plain_steps sig ts steps fits plain id p at = let w = fits.built.each id p at in (plain_side ts plain sig p.left w.0, plain_side ts plain sig p.right w.1)
