-- Blocks: which formulas are blocks, and which of them have a clause with terms or constants put.
use Rattle.std.specs.Prelude.{ℕ, Bool, true, false, List, ◌≡◌, ◌⊎◌, Option, Some, None}
use Rattle.std.proofs.Common.{refl, sym, ap, ◌∙◌, inl, inr}
use Rattle.std.proofs.lemmas.Option.{same_Some}
use Rattle.ae_base.proofs.Options.{never_some}
use Rattle.ae_core.specs.declared.terms.Term.{Term}
use Rattle.ae_core.specs.declared.formulas.Formula.{Formula, Formula-F, All, out-Formula, roll-Formula, roll-out-Formula}
use Rattle.ae_core.specs.declared.formulas.Formula.TheOpen as layer
use Rattle.ae_core.specs.declared.formulas.Formula.TheVariants.{outs-All, rolls-All}
use Rattle.ae_core.specs.declared.formulas.Quant.{Quant}
use Rattle.ae_core.specs.declared.problems.Signature.{Signature}
use Rattle.ae_rules.specs.Clauses.{Clause}
use Rattle.ae_rules.specs.Instances.{instance_clause, fresh_clause}
use Rattle.ae_journal.specs.Ground.{is_simple}
use Rattle.ae_journal.specs.States.{inequality_of, quant_of}
use Rattle.ae_reach.specs.Reach.{IsGoalInReach, plain, block}
use Rattle.ae_rules.specs.Instances.{count_from}
use Rattle.ae_reach.proofs.Simple.{simple_put}

pub block_no_order : (b : Bool) (r : Quant) → inequality_of b (layer.All r) ≡ None
block_no_order true r = refl
block_no_order false r = refl

-- one block's quantifier
pub one_block : (q r : Quant) → All q ≡ All r → q ≡ r
one_block q r e = same_Some q r (ap quant_of (sym (outs-All q)) ∙ ap (λ (f : Formula). quant_of (out-Formula f)) e ∙ ap quant_of (outs-All r))

-- a formula is a `forall` block or not
pub block_or_not : (o : Option Formula) → ((q : Quant) × (o ≡ Some (All q))) ⊎ ((q : Quant) → o ≡ Some (All q) → ⊥)
block_or_not None = inr (λ q e. never_some (All q) e)
block_or_not (Some f) = go (out-Formula f) refl
  where
    Either : Type 0
    Either = ((q : Quant) × (Some f ≡ Some (All q))) ⊎ ((q : Quant) → Some f ≡ Some (All q) → ⊥)

    -- a block has a layer of its own
    other : (o : Formula-F Formula Quant) → out-Formula f ≡ o → ((q : Quant) → quant_of o ≡ Some q → ⊥) → Either
    other o i n = inr (λ q e. n q (ap quant_of (sym i) ∙ ap (λ (g : Formula). quant_of (out-Formula g)) (same_Some f (All q) e) ∙ ap quant_of (outs-All q)))

    go : (o : Formula-F Formula Quant) → out-Formula f ≡ o → Either
    go (layer.All r) i = inl (r, ap (λ (g : Formula). Some g) (sym (roll-out-Formula f) ∙ ap roll-Formula i ∙ rolls-All r))
    go (layer.Ex r) i = inr (λ q e. is_ex r q (sym i ∙ ap out-Formula (same_Some f (All q) e) ∙ outs-All q))
      where
        is_ex : (r q : Quant) → ◌≡◌ {A = Formula-F Formula Quant} (layer.Ex r) (layer.All q) → ⊥
        is_ex r q e = cc
    go layer.True i = other layer.True i (λ q h. never_some q h)
    go layer.False i = other layer.False i (λ q h. never_some q h)
    go (layer.Eq u v) i = other (layer.Eq u v) i (λ q h. never_some q h)
    go (layer.Lt u v) i = other (layer.Lt u v) i (λ q h. never_some q h)
    go (layer.Le u v) i = other (layer.Le u v) i (λ q h. never_some q h)
    go (layer.Pred n ss us) i = other (layer.Pred n ss us) i (λ q h. never_some q h)
    go (layer.Not u) i = other (layer.Not u) i (λ q h. never_some q h)
    go (layer.And u v) i = other (layer.And u v) i (λ q h. never_some q h)
    go (layer.Or u v) i = other (layer.Or u v) i (λ q h. never_some q h)
    go (layer.Xor u v) i = other (layer.Xor u v) i (λ q h. never_some q h)
    go (layer.Iff u v) i = other (layer.Iff u v) i (λ q h. never_some q h)

-- ---- clauses with terms put, and with constants
pub instance_quant : (sig : Signature) (f : Formula) (ts : List Term) (c : Clause) (o : Formula-F Formula Quant) → instance_clause sig f ts o ≡ Some c → (q : Quant) × (quant_of o ≡ Some q)
instance_quant sig f ts c (layer.All q) e = (q, refl)
instance_quant sig f ts c (layer.Ex q) e = (q, refl)
instance_quant sig f ts c layer.True e = never_some c e
instance_quant sig f ts c layer.False e = never_some c e
instance_quant sig f ts c (layer.Eq u v) e = never_some c e
instance_quant sig f ts c (layer.Lt u v) e = never_some c e
instance_quant sig f ts c (layer.Le u v) e = never_some c e
instance_quant sig f ts c (layer.Pred n ss us) e = never_some c e
instance_quant sig f ts c (layer.Not u) e = never_some c e
instance_quant sig f ts c (layer.And u v) e = never_some c e
instance_quant sig f ts c (layer.Or u v) e = never_some c e
instance_quant sig f ts c (layer.Xor u v) e = never_some c e
instance_quant sig f ts c (layer.Iff u v) e = never_some c e

pub fresh_quant : (f : Formula) (m : ℕ) (c : Clause) (o : Formula-F Formula Quant) → fresh_clause f m o ≡ Some c → (q : Quant) × (quant_of o ≡ Some q)
fresh_quant f m c (layer.All q) e = (q, refl)
fresh_quant f m c (layer.Ex q) e = (q, refl)
fresh_quant f m c layer.True e = never_some c e
fresh_quant f m c layer.False e = never_some c e
fresh_quant f m c (layer.Eq u v) e = never_some c e
fresh_quant f m c (layer.Lt u v) e = never_some c e
fresh_quant f m c (layer.Le u v) e = never_some c e
fresh_quant f m c (layer.Pred n ss us) e = never_some c e
fresh_quant f m c (layer.Not u) e = never_some c e
fresh_quant f m c (layer.And u v) e = never_some c e
fresh_quant f m c (layer.Or u v) e = never_some c e
fresh_quant f m c (layer.Xor u v) e = never_some c e
fresh_quant f m c (layer.Iff u v) e = never_some c e

-- ---- goals in the reach
pub goal_cases : (sig : Signature) (f : Formula) → IsGoalInReach sig f → (is_simple f ≡ true) ⊎ ((q : Quant) × (f ≡ All q) × (is_simple q.body ≡ true))
goal_cases sig f (plain h) = inl h.simple
goal_cases sig f (block q h) = inr (q, refl, sym (simple_put (count_from 0 q.sorts) q.body 0) ∙ h.simple)
