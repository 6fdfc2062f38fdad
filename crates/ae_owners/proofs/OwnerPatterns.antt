-- The patterns of owners.
use Rattle.std.specs.Prelude.{ℕ, ◌<◌, Bool, true, false, cond, nat_lt, List, ◌≡◌, slice_get, Option, Some, None}
use Rattle.std.proofs.Common.{refl, sym, ap, ◌∙◌, lt-ltb, ne_eqb, arith}
use Rattle.std.proofs.lemmas.Bool.{le-ltb}
use Rattle.ae_base.specs.Options.{only, ◌>>=◌}
use Rattle.ae_base.proofs.Tests.{false_true}
use Rattle.ae_core.specs.declared.formulas.Formula.{Formula, Formula-F, out-Formula}
use Rattle.ae_core.specs.declared.formulas.Formula.TheOpen as layer
use Rattle.ae_core.specs.declared.formulas.Lit.{Lit}
use Rattle.ae_core.specs.declared.formulas.Quant.{Quant}
use Rattle.ae_core.specs.declared.problems.Item.{Item}
use Rattle.ae_core.specs.declared.problems.Item.TheVariants.{Axiom, Goal}
use Rattle.ae_core.specs.declared.problems.Problem.{Problem}
use Rattle.ae_core.specs.declared.problems.Signature.{Signature}
use Rattle.ae_journal.specs.States as states
use Rattle.ae_trigger.specs.Patterns.{patterns_of, instantiated, instantiated_by}
use Rattle.ae_trigger.specs.declared.patterns.Pattern.{Pattern}
use Rattle.ae_owners.specs.Owners.{IsOwnerIn, owner_of}
use Rattle.ae_owners.specs.declared.owners.Owner.{Owner}

-- ---- of a literal
record IsBlock (sig : Signature) (f : Formula) (y : Formula-F Formula Quant) : Type 0 where
  quant : Quant
  is : states.quant_of y ≡ Some quant
  same : instantiated_by sig 0 f y ≡ states.literal_pattern sig quant

block_of : (sig : Signature) (f : Formula) (sign : Bool) (y : Formula-F Formula Quant) → states.is_universal_by sign y ≡ true → IsBlock sig f y
block_of sig f sign (layer.All q) u = record { quant = q; is = refl; same = refl }
block_of sig f sign (layer.Ex q) u = record { quant = q; is = refl; same = refl }
block_of sig f sign layer.True u = false_true u
block_of sig f sign layer.False u = false_true u
block_of sig f sign (layer.Eq a b) u = false_true u
block_of sig f sign (layer.Lt a b) u = false_true u
block_of sig f sign (layer.Le a b) u = false_true u
block_of sig f sign (layer.Pred p ss us) u = false_true u
block_of sig f sign (layer.Not a) u = false_true u
block_of sig f sign (layer.And a b) u = false_true u
block_of sig f sign (layer.Or a b) u = false_true u
block_of sig f sign (layer.Xor a b) u = false_true u
block_of sig f sign (layer.Iff a b) u = false_true u

pub literal_patterns : (sig : Signature) (l : Lit) (o : Owner) → states.is_universal l ≡ true → owner_of o ≡ states.of_literal l → o.patterns ≡ patterns_of (instantiated sig 0 l.formula) → (p : Problem) (g : ℕ) → p.signature ≡ sig → IsOwnerIn p g o
literal_patterns sig l o u own e p g same =
    let b = block_of sig l.formula l.positive (out-Formula l.formula) u in
    record {
      pattern = states.literal_pattern p.signature b.quant;
      is =
          ap (states.pattern_of p g) own
          ∙ ap (λ (t : Bool). only t (states.quant_of (out-Formula l.formula)) >>= λ q. Some (states.literal_pattern p.signature q)) u
          ∙ ap (λ (z : Option Quant). z >>= λ q. Some (states.literal_pattern p.signature q)) b.is;
      patterns = e ∙ ap patterns_of (b.same ∙ ap (λ (z : Signature). states.literal_pattern z b.quant) (sym same));
    }

-- ---- of an axiom
varied : (sig : Signature) (v : ℕ) (f : Formula) (y : Formula-F Formula Quant) → ¬ (v ≡ 0) → instantiated_by sig v f y ≡ states.axiom_pattern sig v f y
varied sig v f (layer.Ex q) n = ap (λ (b : Bool). cond b (states.literal_pattern sig q) (states.axiom_pattern sig v f (layer.Ex q))) (ne_eqb v 0 n)
varied sig v f (layer.All q) n = refl
varied sig v f layer.True n = refl
varied sig v f layer.False n = refl
varied sig v f (layer.Eq a b) n = refl
varied sig v f (layer.Lt a b) n = refl
varied sig v f (layer.Le a b) n = refl
varied sig v f (layer.Pred p ss us) n = refl
varied sig v f (layer.Not a) n = refl
varied sig v f (layer.And a b) n = refl
varied sig v f (layer.Or a b) n = refl
varied sig v f (layer.Xor a b) n = refl
varied sig v f (layer.Iff a b) n = refl

pub varied_patterns : (sig : Signature) (v : ℕ) (f : Formula) (ps : List Pattern) → ¬ (v ≡ 0) → ps ≡ patterns_of (instantiated sig v f) → ps ≡ patterns_of (states.axiom_pattern sig v f (out-Formula f))
varied_patterns sig v f ps n e = e ∙ ap patterns_of (varied sig v f (out-Formula f) n)

module _ (p : Problem) (g k : ℕ) where
  abbrev of_item : Option Item → Option states.Pattern
  of_item o = o >>= λ i. elim i as (λ _. Option states.Pattern) [ Axiom n v f ↦ only (nat_lt 0 v) (Some (states.axiom_pattern p.signature v f (out-Formula f))) | Goal n v f ↦ None ]

  pub late_none : ¬ (k < g) → states.pattern_of p g (states.of_axiom k) ≡ None
  late_none n = ap (λ (b : Bool). of_item (only b (slice_get p.items k))) (le-ltb k g (omega (arith, n)))

  pub absent_none : slice_get p.items k ≡ None → states.pattern_of p g (states.of_axiom k) ≡ None
  absent_none e = ap (λ (z : Option Item). of_item (only (nat_lt k g) z)) e ∙ by (nat_lt k g)
    where
      by : (b : Bool) → of_item (only b None) ≡ None
      by true = refl
      by false = refl

  pub of_axiom_at : k < g → (i : Item) → slice_get p.items k ≡ Some i → states.pattern_of p g (states.of_axiom k) ≡ of_item (Some i)
  of_axiom_at lt i e = ap (λ (b : Bool). of_item (only b (slice_get p.items k))) (lt-ltb k g lt) ∙ ap of_item e
