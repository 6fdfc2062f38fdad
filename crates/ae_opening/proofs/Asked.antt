-- A literal asks for terms where it is a block and isn't universal.
use Rattle.std.specs.Prelude.{true, false, not, ◌≡◌, Some}
use Rattle.std.proofs.Common.{refl, sym, ap, ◌∙◌}
use Rattle.ae_base.proofs.Options.{never_some}
use Rattle.ae_base.proofs.Tests.{false_true, not_not}
use Rattle.ae_core.specs.declared.formulas.Formula.{Formula, Formula-F, out-Formula}
use Rattle.ae_core.specs.declared.formulas.Formula.TheOpen as layer
use Rattle.ae_core.specs.declared.formulas.Lit.{Lit}
use Rattle.ae_core.specs.declared.formulas.Quant.{Quant}
use Rattle.ae_journal.specs.States.{quant_of, is_universal, is_universal_by}
use Rattle.ae_opening.specs.Asking.{asks_by, asks_for_terms}

pub asking : (k : Lit) (q : Quant) → is_universal k ≡ false → quant_of (out-Formula k.formula) ≡ Some q → asks_for_terms k ≡ true
asking k q u e = from (out-Formula k.formula) u e
  where
    from : (o : Formula-F Formula Quant) → is_universal_by k.positive o ≡ false → quant_of o ≡ Some q → asks_by k.positive o ≡ true
    from (layer.All r) u e = ap not u
    from (layer.Ex r) u e = sym (not_not k.positive) ∙ ap not u
    from layer.True u e = never_some q e
    from layer.False u e = never_some q e
    from (layer.Eq x y) u e = never_some q e
    from (layer.Lt x y) u e = never_some q e
    from (layer.Le x y) u e = never_some q e
    from (layer.Pred p ss us) u e = never_some q e
    from (layer.Not x) u e = never_some q e
    from (layer.And x y) u e = never_some q e
    from (layer.Or x y) u e = never_some q e
    from (layer.Xor x y) u e = never_some q e
    from (layer.Iff x y) u e = never_some q e

pub asked : (k : Lit) → asks_for_terms k ≡ true → (is_universal k ≡ false) × (q : Quant) × (quant_of (out-Formula k.formula) ≡ Some q)
asked k e = from (out-Formula k.formula) e
  where
    from : (o : Formula-F Formula Quant) → asks_by k.positive o ≡ true → (is_universal_by k.positive o ≡ false) × (q : Quant) × (quant_of o ≡ Some q)
    from (layer.All r) e = (sym (not_not k.positive) ∙ ap not e, r, refl)
    from (layer.Ex r) e = (ap not e, r, refl)
    from layer.True e = false_true e
    from layer.False e = false_true e
    from (layer.Eq x y) e = false_true e
    from (layer.Lt x y) e = false_true e
    from (layer.Le x y) e = false_true e
    from (layer.Pred p ss us) e = false_true e
    from (layer.Not x) e = false_true e
    from (layer.And x y) e = false_true e
    from (layer.Or x y) e = false_true e
    from (layer.Xor x y) e = false_true e
    from (layer.Iff x y) e = false_true e
