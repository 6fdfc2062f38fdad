-- What is instantiated, at each variant of formulas.
use Rattle.std.specs.Prelude.{ℕ, ◌≡◌, ◌≢◌, cond, List, [], ◌∷◌}
use Rattle.std.proofs.Common.{refl, sym, ap, ◌∙◌}
use Rattle.std.proofs.lemmas.Bool.{eq-eqb, ne_eqb}
use Rattle.ae_core.specs.declared.terms.Term.{Term}
use Rattle.ae_core.specs.declared.formulas.Formula.{Formula, Formula-F, All, Ex, out-Formula, roll-Formula, roll-out-Formula}
use Rattle.ae_core.specs.declared.formulas.Formula.TheOpen as layer
use Rattle.ae_core.specs.declared.formulas.Formula.TheVariants.{outs-All, outs-Ex, rolls-All, rolls-Ex}
use Rattle.ae_core.specs.declared.formulas.Quant.{Quant}
use Rattle.ae_core.specs.declared.problems.Signature.{Signature}
use Rattle.ae_journal.specs.States as states
use Rattle.ae_journal.specs.Triggers.{triggers, made}
use Rattle.ae_trigger.specs.Patterns.{block_pattern, bare_pattern, instantiated_by, instantiated}

pub written_are : (sig : Signature) (v n : ℕ) (ts : List (List Term)) (body : Formula) → ts ≢ [] → ts ≡ triggers sig v n ts body
written_are sig v n [] body m = absurd (m refl)
written_are sig v n (t ∷ ts) body m = refl

pub made_are : (sig : Signature) (v n : ℕ) (ts : List (List Term)) (body : Formula) → ts ≡ [] → made sig v n body ≡ triggers sig v n ts body
made_are sig v n ts body e = sym (ap (λ ws. triggers sig v n ws body) e)

module _ (sig : Signature) (v : ℕ) (f : Formula) where
  pub all_block : (q : Quant) → f ≡ All q → instantiated sig v f ≡ block_pattern sig v q
  all_block q e = ap (instantiated_by sig v f) (ap out-Formula e ∙ outs-All q)

  pub literal_block : (q : Quant) → f ≡ Ex q → v ≡ 0 → instantiated sig v f ≡ block_pattern sig 0 q
  literal_block q e z =
      ap (instantiated_by sig v f) (ap out-Formula e ∙ outs-Ex q) ∙ ap (λ b. cond b (states.literal_pattern sig q) (states.axiom_pattern sig v f (layer.Ex q))) (eq-eqb v 0 z)

  pub axiom_bare : (q : Quant) → f ≡ Ex q → v ≢ 0 → instantiated sig v f ≡ bare_pattern sig v f
  axiom_bare q e n =
      ap (instantiated_by sig v f) (ap out-Formula e ∙ outs-Ex q) ∙ ap (λ b. cond b (states.literal_pattern sig q) (states.axiom_pattern sig v f (layer.Ex q))) (ne_eqb v 0 n)

  module _ (all : (q : Quant) → f ≡ All q → ⊥) (ex : (q : Quant) → f ≡ Ex q → ⊥) where
    by_layer : (l : Formula-F Formula Quant) → roll-Formula l ≡ f → instantiated_by sig v f l ≡ bare_pattern sig v f
    by_layer layer.True e = refl
    by_layer layer.False e = refl
    by_layer (layer.Eq a b) e = refl
    by_layer (layer.Lt a b) e = refl
    by_layer (layer.Le a b) e = refl
    by_layer (layer.Pred p ss us) e = refl
    by_layer (layer.Not a) e = refl
    by_layer (layer.And a b) e = refl
    by_layer (layer.Or a b) e = refl
    by_layer (layer.Xor a b) e = refl
    by_layer (layer.Iff a b) e = refl
    by_layer (layer.All q) e = absurd (all q (sym e ∙ rolls-All q))
    by_layer (layer.Ex q) e = absurd (ex q (sym e ∙ rolls-Ex q))

    pub other_bare : instantiated sig v f ≡ bare_pattern sig v f
    other_bare = by_layer (out-Formula f) (roll-out-Formula f)
