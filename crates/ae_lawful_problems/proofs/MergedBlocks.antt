-- A block without triggers over a formula: merged with it where that is a block of the same quantifier, and else around it.
use Rattle.std.proofs.Common.{◌≡◌, List, [], refl}
use Rattle.ae_core.specs.declared.terms.Sort.{Sort}
use Rattle.ae_core.specs.declared.formulas.Formula.{Formula, Formula-F, All, Ex, out-Formula}
use Rattle.ae_core.specs.declared.formulas.Formula.TheOpen as layer
use Rattle.ae_core.specs.declared.formulas.Quant.{Quant}
use Rattle.ae_elab.specs.Elaboration.{block, merged_quant, all_over, some_over}

module _ (P : Formula → Type 0) (ss : List Sort) (f : Formula) where
  module _ (plain : P (All (block ss [] f))) (merged : (b : Quant) → out-Formula f ≡ layer.All b → P (All (merged_quant ss b))) where
    all_by : (l : Formula-F Formula Quant) → out-Formula f ≡ l → P (all_over ss f l)
    all_by (layer.All b) e = merged b e
    all_by layer.True e = plain
    all_by layer.False e = plain
    all_by (layer.Eq s t) e = plain
    all_by (layer.Lt s t) e = plain
    all_by (layer.Le s t) e = plain
    all_by (layer.Pred p os us) e = plain
    all_by (layer.Not g) e = plain
    all_by (layer.And g h) e = plain
    all_by (layer.Or g h) e = plain
    all_by (layer.Xor g h) e = plain
    all_by (layer.Iff g h) e = plain
    all_by (layer.Ex b) e = plain

    pub all_over_by : P (all_over ss f (out-Formula f))
    all_over_by = all_by (out-Formula f) refl

  module _ (plain : P (Ex (block ss [] f))) (merged : (b : Quant) → out-Formula f ≡ layer.Ex b → P (Ex (merged_quant ss b))) where
    some_by : (l : Formula-F Formula Quant) → out-Formula f ≡ l → P (some_over ss f l)
    some_by (layer.Ex b) e = merged b e
    some_by layer.True e = plain
    some_by layer.False e = plain
    some_by (layer.Eq s t) e = plain
    some_by (layer.Lt s t) e = plain
    some_by (layer.Le s t) e = plain
    some_by (layer.Pred p os us) e = plain
    some_by (layer.Not g) e = plain
    some_by (layer.And g h) e = plain
    some_by (layer.Or g h) e = plain
    some_by (layer.Xor g h) e = plain
    some_by (layer.Iff g h) e = plain
    some_by (layer.All b) e = plain

    pub some_over_by : P (some_over ss f (out-Formula f))
    some_over_by = some_by (out-Formula f) refl
