-- Terms that nothing computes are opaque.
use Rattle.std.specs.Prelude.{ℕ, zero, suc, Bool, true, false, cond, List, [], ◌∷◌, ◌≡◌, map, Some, None}
use Rattle.std.specs.List.{AllByRecursion}
use Rattle.std.proofs.Common.{refl, sym, ◌∙◌}
use Rattle.std.proofs.lemmas.Option.{none-some}
use Rattle.ae_core.specs.declared.terms.Head.{Head}
use Rattle.ae_core.specs.declared.terms.Head.TheVariants as head
use Rattle.ae_core.specs.declared.terms.Op.TheVariants as op
use Rattle.ae_core.specs.declared.terms.Sort.{Sort, Sort-F, out-Sort}
use Rattle.ae_core.specs.declared.terms.Sort.TheOpen as layer
use Rattle.ae_core.specs.declared.terms.Term.{Term, Bound, Num, Fresh, Apply, Apply'}
use Rattle.ae_journal.specs.Systems.{linear, product, quotient, field_terms, field_terms_of}
use Rattle.ae_journal.specs.Values.{Val, scale_val}
use Rattle.ae_math.specs.Forms.{single, scale, is_zero}
use Rattle.ae_math.specs.Fractions.{ratio, inverse_ℚ}
use Rattle.ae_rules.proofs.LinearLaws.{form-Apply}
use Rattle.ae_rules.specs.Linear.{Linear, form, is_number, times, over}
use Rattle.ae_rules.specs.Lines.{fields_from}

abbrev pub IsOpaque : Term → Type 0
IsOpaque t = form t ≡ single t

-- ---- fields
from_opaque : (n : ℕ) (ss : List Sort) (t : Term) (i k : ℕ) → AllByRecursion IsOpaque (fields_from n ss t i k)
from_opaque n ss t i zero = tt
from_opaque n ss t i (suc k) = (form-Apply (head.Field n i) ss (t ∷ []), from_opaque n ss t (suc i) k)

pub fields_opaque : (s : Sort) (t : Term) (k : ℕ) → AllByRecursion IsOpaque (field_terms s t k)
fields_opaque s t k = by_layer (out-Sort s)
  where
    by_layer : (l : Sort-F Sort) → AllByRecursion IsOpaque (field_terms_of l t k)
    by_layer (layer.Var i) = tt
    by_layer (layer.Rigid i) = tt
    by_layer layer.Int = tt
    by_layer layer.Real = tt
    by_layer layer.Bool = tt
    by_layer layer.Unit = tt
    by_layer (layer.Named n ss) = from_opaque n ss t 0 k

-- ---- applications
module _ (w : Term) where
  times_single : (a b : Term × Val) → product a b ≡ None → times w (form a.0) (form b.0) ≡ single w
  times_single a b e = by_first (is_number (form a.0)) (is_number (form b.0)) e
    where
      by_first : (c d : Bool) → cond c (Some (scale_val (form a.0).constant b.1)) (cond d (Some (scale_val (form b.0).constant a.1)) None) ≡ None
          → cond c (scale (form a.0).constant (form b.0)) (cond d (scale (form b.0).constant (form a.0)) (single w)) ≡ single w
      by_first true d h = absurd (none-some _ (sym h))
      by_first false true h = absurd (none-some _ (sym h))
      by_first false false h = refl

  over_single : (v : Val) (f : Linear) (t : Term) → quotient v t ≡ None → over w f t ≡ single w
  over_single v f (Num a b real) e = by_zero (is_zero (ratio a b)) e
    where
      by_zero : (c : Bool) → cond c None (Some (scale_val (inverse_ℚ (ratio a b)) v)) ≡ None → cond c (single w) (scale (inverse_ℚ (ratio a b)) f) ≡ single w
      by_zero true h = refl
      by_zero false h = absurd (none-some _ (sym h))
  over_single v f (Bound n) e = refl
  over_single v f (Fresh n s) e = refl
  over_single v f (Apply' h ss shape row) e = refl

module _ (V : Term → Val) where
  abbrev With : List Term → List (Term × Val)
  With us = map (λ u. (u, V u)) us

  -- where no linear operation computes the value, the term is opaque
  pub none_linear : (h : Head) (ss : List Sort) (us : List Term) → linear h (With us) ≡ None → IsOpaque (Apply h ss us)
  none_linear (head.Int op.Add) ss (a ∷ b ∷ []) e = absurd (none-some _ (sym e))
  none_linear (head.Int op.Sub) ss (a ∷ b ∷ []) e = absurd (none-some _ (sym e))
  none_linear (head.Int op.Neg) ss (a ∷ []) e = absurd (none-some _ (sym e))
  none_linear (head.Int op.Mul) ss (a ∷ b ∷ []) e = form-Apply (head.Int op.Mul) ss (a ∷ b ∷ []) ∙ times_single (Apply (head.Int op.Mul) ss (a ∷ b ∷ [])) (a, V a) (b, V b) e
  none_linear (head.Real op.Add) ss (a ∷ b ∷ []) e = absurd (none-some _ (sym e))
  none_linear (head.Real op.Sub) ss (a ∷ b ∷ []) e = absurd (none-some _ (sym e))
  none_linear (head.Real op.Neg) ss (a ∷ []) e = absurd (none-some _ (sym e))
  none_linear (head.Real op.Mul) ss (a ∷ b ∷ []) e = form-Apply (head.Real op.Mul) ss (a ∷ b ∷ []) ∙ times_single (Apply (head.Real op.Mul) ss (a ∷ b ∷ [])) (a, V a) (b, V b) e
  none_linear (head.Real op.Div) ss (a ∷ b ∷ []) e = form-Apply (head.Real op.Div) ss (a ∷ b ∷ []) ∙ over_single (Apply (head.Real op.Div) ss (a ∷ b ∷ [])) (V a) (form a) b e
  none_linear (head.Int op.Add) ss [] e = form-Apply (head.Int op.Add) ss []
  none_linear (head.Int op.Add) ss (a ∷ []) e = form-Apply (head.Int op.Add) ss (a ∷ [])
  none_linear (head.Int op.Add) ss (a ∷ b ∷ c ∷ us) e = form-Apply (head.Int op.Add) ss (a ∷ b ∷ c ∷ us)
  none_linear (head.Int op.Sub) ss [] e = form-Apply (head.Int op.Sub) ss []
  none_linear (head.Int op.Sub) ss (a ∷ []) e = form-Apply (head.Int op.Sub) ss (a ∷ [])
  none_linear (head.Int op.Sub) ss (a ∷ b ∷ c ∷ us) e = form-Apply (head.Int op.Sub) ss (a ∷ b ∷ c ∷ us)
  none_linear (head.Int op.Neg) ss [] e = form-Apply (head.Int op.Neg) ss []
  none_linear (head.Int op.Neg) ss (a ∷ b ∷ us) e = form-Apply (head.Int op.Neg) ss (a ∷ b ∷ us)
  none_linear (head.Int op.Mul) ss [] e = form-Apply (head.Int op.Mul) ss []
  none_linear (head.Int op.Mul) ss (a ∷ []) e = form-Apply (head.Int op.Mul) ss (a ∷ [])
  none_linear (head.Int op.Mul) ss (a ∷ b ∷ c ∷ us) e = form-Apply (head.Int op.Mul) ss (a ∷ b ∷ c ∷ us)
  none_linear (head.Int op.Div) ss us e = form-Apply (head.Int op.Div) ss us
  none_linear (head.Int op.Mod) ss us e = form-Apply (head.Int op.Mod) ss us
  none_linear (head.Real op.Add) ss [] e = form-Apply (head.Real op.Add) ss []
  none_linear (head.Real op.Add) ss (a ∷ []) e = form-Apply (head.Real op.Add) ss (a ∷ [])
  none_linear (head.Real op.Add) ss (a ∷ b ∷ c ∷ us) e = form-Apply (head.Real op.Add) ss (a ∷ b ∷ c ∷ us)
  none_linear (head.Real op.Sub) ss [] e = form-Apply (head.Real op.Sub) ss []
  none_linear (head.Real op.Sub) ss (a ∷ []) e = form-Apply (head.Real op.Sub) ss (a ∷ [])
  none_linear (head.Real op.Sub) ss (a ∷ b ∷ c ∷ us) e = form-Apply (head.Real op.Sub) ss (a ∷ b ∷ c ∷ us)
  none_linear (head.Real op.Neg) ss [] e = form-Apply (head.Real op.Neg) ss []
  none_linear (head.Real op.Neg) ss (a ∷ b ∷ us) e = form-Apply (head.Real op.Neg) ss (a ∷ b ∷ us)
  none_linear (head.Real op.Mul) ss [] e = form-Apply (head.Real op.Mul) ss []
  none_linear (head.Real op.Mul) ss (a ∷ []) e = form-Apply (head.Real op.Mul) ss (a ∷ [])
  none_linear (head.Real op.Mul) ss (a ∷ b ∷ c ∷ us) e = form-Apply (head.Real op.Mul) ss (a ∷ b ∷ c ∷ us)
  none_linear (head.Real op.Div) ss [] e = form-Apply (head.Real op.Div) ss []
  none_linear (head.Real op.Div) ss (a ∷ []) e = form-Apply (head.Real op.Div) ss (a ∷ [])
  none_linear (head.Real op.Div) ss (a ∷ b ∷ c ∷ us) e = form-Apply (head.Real op.Div) ss (a ∷ b ∷ c ∷ us)
  none_linear (head.Real op.Mod) ss us e = form-Apply (head.Real op.Mod) ss us
  none_linear (head.Symbol n) ss us e = form-Apply (head.Symbol n) ss us
  none_linear (head.Build n) ss us e = form-Apply (head.Build n) ss us
  none_linear (head.Field n i) ss us e = form-Apply (head.Field n i) ss us
  none_linear head.True ss us e = form-Apply head.True ss us
  none_linear head.False ss us e = form-Apply head.False ss us
  none_linear head.Void ss us e = form-Apply head.Void ss us
