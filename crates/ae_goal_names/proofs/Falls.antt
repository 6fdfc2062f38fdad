-- Parts of a formula are smaller than it is.
use Rattle.std.specs.Prelude.{◌≡◌, ◌<◌}
use Rattle.std.proofs.Common.{arith, sym, subst}
use Rattle.ae_core.specs.declared.formulas.Formula.{Formula, Not, And, Or, Xor, Iff, size-Formula, size_is-Formula}
use Rattle.ae_core.specs.declared.formulas.Formula.TheVariants.{outs-Not, outs-And, outs-Or, outs-Xor, outs-Iff}

falls : (f w v p : Formula) → f ≡ w → v ≡ p → size-Formula p < size-Formula w → size-Formula v < size-Formula f
falls f w v p e g h = subst (λ (x : Formula). size-Formula v < size-Formula x) (sym e) (subst (λ (x : Formula). size-Formula x < size-Formula w) (sym g) h)

pub not_falls : (f v a : Formula) → f ≡ Not a → v ≡ a → size-Formula v < size-Formula f
not_falls f v a e g = falls f (Not a) v a e g (grind (arith, size_is-Formula (Not a), outs-Not a))

pub and_falls : (f v a b : Formula) → f ≡ And a b → (v ≡ a → size-Formula v < size-Formula f) × (v ≡ b → size-Formula v < size-Formula f)
and_falls f v a b e = (
  λ g. falls f (And a b) v a e g (grind (arith, size_is-Formula (And a b), outs-And a b)),
  λ g. falls f (And a b) v b e g (grind (arith, size_is-Formula (And a b), outs-And a b)),
)

pub or_falls : (f v a b : Formula) → f ≡ Or a b → (v ≡ a → size-Formula v < size-Formula f) × (v ≡ b → size-Formula v < size-Formula f)
or_falls f v a b e = (
  λ g. falls f (Or a b) v a e g (grind (arith, size_is-Formula (Or a b), outs-Or a b)),
  λ g. falls f (Or a b) v b e g (grind (arith, size_is-Formula (Or a b), outs-Or a b)),
)

pub xor_falls : (f v a b : Formula) → f ≡ Xor a b → (v ≡ a → size-Formula v < size-Formula f) × (v ≡ b → size-Formula v < size-Formula f)
xor_falls f v a b e = (
  λ g. falls f (Xor a b) v a e g (grind (arith, size_is-Formula (Xor a b), outs-Xor a b)),
  λ g. falls f (Xor a b) v b e g (grind (arith, size_is-Formula (Xor a b), outs-Xor a b)),
)

pub iff_falls : (f v a b : Formula) → f ≡ Iff a b → (v ≡ a → size-Formula v < size-Formula f) × (v ≡ b → size-Formula v < size-Formula f)
iff_falls f v a b e = (
  λ g. falls f (Iff a b) v a e g (grind (arith, size_is-Formula (Iff a b), outs-Iff a b)),
  λ g. falls f (Iff a b) v b e g (grind (arith, size_is-Formula (Iff a b), outs-Iff a b)),
)
