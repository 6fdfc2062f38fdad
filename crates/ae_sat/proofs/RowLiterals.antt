-- The literals of a formula's defining clauses are of the formula itself, or say of its parts that they hold or fail.
use Rattle.std.specs.Prelude.{◌≡◌, ℕ, Bool, true, false, cond, nat_eq, List, [], ◌∷◌, Some}
use Rattle.std.specs.List.{AllByRecursion, Contains}
use Rattle.std.proofs.Common.{refl, sym, ap, ◌∙◌, subst}
use Rattle.std.proofs.lemmas.Option.{same_Some}
use Rattle.ae_base.proofs.Options.{never_some}
use Rattle.ae_base.proofs.Tests.{by_bool}
use Rattle.ae_core.specs.declared.formulas.Formula.{Formula, Formula-F, out-Formula}
use Rattle.ae_core.specs.declared.formulas.Formula.TheOpen as layer
use Rattle.ae_core.specs.declared.formulas.Lit.{Lit}
use Rattle.ae_core.specs.declared.formulas.Quant.{Quant}
use Rattle.ae_journal.proofs.Splits.{all_contained, contains_here, contains_later}
use Rattle.ae_journal.specs.Standing.{parts_by, parts_of}
use Rattle.ae_rules.specs.Clauses.{Clause, literal, yes_of, no_of, is_true, is_false, row, row_at, row_of}
use Rattle.ae_rules.specs.declared.rows.TheConstants.{AND_TO_LEFT, AND_TO_RIGHT, AND_FROM_BOTH, OR_FROM_LEFT, OR_FROM_RIGHT, OR_TO_EITHER, IFF_TO_RIGHT, IFF_TO_LEFT, IFF_FROM_NEITHER, IFF_FROM_BOTH}
use Rattle.ae_rules.specs.declared.rows.TheConstants.{XOR_TO_EITHER, XOR_TO_NOT_BOTH, XOR_FROM_LEFT, XOR_FROM_RIGHT, TRUE_STANDS, FALSE_FAILS}

-- what holds of a formula holds of the formulas of its parts' literals
module _ (P : Formula → Type 0) (said : (h a : Formula) (sign : Bool) → P h → Contains (parts_of h) a → P (literal sign a).formula) where
  abbrev Each : Clause → Type 0
  Each c = AllByRecursion (λ (l : Lit). P l.formula) c

  module _ (f a b : Formula) (e : parts_of f ≡ a ∷ b ∷ []) (p : P f) where
    left : (sign : Bool) → P (literal sign a).formula
    left sign = said f a sign p (subst (λ (w : List Formula). Contains w a) (sym e) (contains_here a (b ∷ [])))

    right : (sign : Bool) → P (literal sign b).formula
    right sign = said f b sign p (subst (λ (w : List Formula). Contains w b) (sym e) (contains_later a (b ∷ []) b (contains_here b [])))

  from_table : (r : ℕ) (table : List (ℕ × Clause)) (c : Clause) → row_at r table ≡ Some c → AllByRecursion (λ t. Each t.1) table → Each c
  from_table r [] c e a = never_some c e
  from_table r (t ∷ ts) c e a =
      by_bool (nat_eq r t.0) (λ y. subst Each (same_Some t.1 c (sym (ap (λ b. cond b (Some t.1) (row_at r ts)) y) ∙ e)) a.0)
      (λ n. from_table r ts c (sym (ap (λ b. cond b (Some t.1) (row_at r ts)) n) ∙ e) a.1)

  from_layer : (f : Formula) (l : Formula-F Formula Quant) → out-Formula f ≡ l → P f → (r : ℕ) (c : Clause) → row_of r f l ≡ Some c → Each c
  unfolding row_of
  from_layer f layer.True o p r c e = from_table r ((TRUE_STANDS, is_true f ∷ []) ∷ []) c e ((p, tt), tt)
  from_layer f layer.False o p r c e = from_table r ((FALSE_FAILS, is_false f ∷ []) ∷ []) c e ((p, tt), tt)
  from_layer f (layer.And a b) o p r c e =
      let x : ((sign : Bool) → P (literal sign a).formula) = left f a b (ap parts_by o) p in
      let y : ((sign : Bool) → P (literal sign b).formula) = right f a b (ap parts_by o) p in
      from_table r ((AND_TO_LEFT, is_false f ∷ yes_of a ∷ []) ∷ (AND_TO_RIGHT, is_false f ∷ yes_of b ∷ []) ∷ (AND_FROM_BOTH, is_true f ∷ no_of a ∷ no_of b ∷ []) ∷ []) c e
      ((p, (x true, tt)), ((p, (y true, tt)), ((p, (x false, (y false, tt))), tt)))
  from_layer f (layer.Or a b) o p r c e =
      let x : ((sign : Bool) → P (literal sign a).formula) = left f a b (ap parts_by o) p in
      let y : ((sign : Bool) → P (literal sign b).formula) = right f a b (ap parts_by o) p in
      from_table r ((OR_FROM_LEFT, is_true f ∷ no_of a ∷ []) ∷ (OR_FROM_RIGHT, is_true f ∷ no_of b ∷ []) ∷ (OR_TO_EITHER, is_false f ∷ yes_of a ∷ yes_of b ∷ []) ∷ []) c e
      ((p, (x false, tt)), ((p, (y false, tt)), ((p, (x true, (y true, tt))), tt)))
  from_layer f (layer.Iff a b) o p r c e =
      let x : ((sign : Bool) → P (literal sign a).formula) = left f a b (ap parts_by o) p in
      let y : ((sign : Bool) → P (literal sign b).formula) = right f a b (ap parts_by o) p in
      from_table r
      (
      (IFF_TO_RIGHT, is_false f ∷ no_of a ∷ yes_of b ∷ []) ∷ (IFF_TO_LEFT, is_false f ∷ yes_of a ∷ no_of b ∷ [])
      ∷ (IFF_FROM_NEITHER, is_true f ∷ yes_of a ∷ yes_of b ∷ []) ∷ (IFF_FROM_BOTH, is_true f ∷ no_of a ∷ no_of b ∷ []) ∷ []
      ) c e
      ((p, (x false, (y true, tt))), ((p, (x true, (y false, tt))), ((p, (x true, (y true, tt))), ((p, (x false, (y false, tt))), tt))))
  from_layer f (layer.Xor a b) o p r c e =
      let x : ((sign : Bool) → P (literal sign a).formula) = left f a b (ap parts_by o) p in
      let y : ((sign : Bool) → P (literal sign b).formula) = right f a b (ap parts_by o) p in
      from_table r
      (
      (XOR_TO_EITHER, is_false f ∷ yes_of a ∷ yes_of b ∷ []) ∷ (XOR_TO_NOT_BOTH, is_false f ∷ no_of a ∷ no_of b ∷ [])
      ∷ (XOR_FROM_LEFT, is_true f ∷ no_of a ∷ yes_of b ∷ []) ∷ (XOR_FROM_RIGHT, is_true f ∷ yes_of a ∷ no_of b ∷ []) ∷ []
      ) c e
      ((p, (x true, (y true, tt))), ((p, (x false, (y false, tt))), ((p, (x false, (y true, tt))), ((p, (x true, (y false, tt))), tt))))
  from_layer f (layer.Eq a b) o p r c e = never_some c e
  from_layer f (layer.Lt a b) o p r c e = never_some c e
  from_layer f (layer.Le a b) o p r c e = never_some c e
  from_layer f (layer.Pred q ss us) o p r c e = never_some c e
  from_layer f (layer.Not a) o p r c e = never_some c e
  from_layer f (layer.All q) o p r c e = never_some c e
  from_layer f (layer.Ex q) o p r c e = never_some c e

  pub row_literals : (f : Formula) → P f → (r : ℕ) (c : Clause) → row r f ≡ Some c → (l : Lit) → Contains c l → P l.formula
  unfolding row
  row_literals f p r c e l i = all_contained (λ (m : Lit). P m.formula) c l (from_layer f (out-Formula f) refl p r c e) i
