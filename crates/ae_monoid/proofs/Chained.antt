-- What the rules' view says of a chain that was read from their fields.
use Rattle.std.specs.Prelude.{◌≡◌, ℕ, List}
use Rattle.std.proofs.Common.{sym, subst}
use Rattle.ae_core.specs.declared.problems.AcSymbol.{AcSymbol}
use Rattle.ae_base.proofs.AllOf.{all_weaker}
use Rattle.ae_monoid.specs.declared.chains.Link.{Link}
use Rattle.ae_monoid.specs.Rules.{Contents, rule_at, IsUnfit}
use Rattle.ae_monoid.specs.Inner.Chains.{IsOn, IsOnOf}
use Rattle.ae_monoid.specs.Inner.Indexes.{hiding, IsOf, AreTestedOn}
use Rattle.ae_monoid.proofs.Seeking.{AreTestedOf}

module _ (now inside : Contents) (e : inside ≡ now) (first second : List Link) (f : first ≡ inside.links) (s : second ≡ inside.links) (x head : ℕ)
    (all : (n : ℕ) → IsOnOf inside.largest first x n → IsOn first head n) (only : (n : ℕ) → IsOn first head n → IsOnOf inside.largest first x n) where
  pub chain_of : (n : ℕ) → IsOnOf now.largest now.links x n → IsOn second head n
  chain_of n o =
      subst (λ (ls : List Link). IsOn ls head n) (sym s)
      (subst (λ (ls : List Link). IsOn ls head n) f
      (all n (subst (λ (ls : List Link). IsOnOf inside.largest ls x n) (sym f) (subst (λ (c : Contents). IsOnOf c.largest c.links x n) (sym e) o))))

  pub of_chain : (n : ℕ) → IsOn second head n → IsOnOf now.largest now.links x n
  of_chain n o =
      subst (λ (c : Contents). IsOnOf c.largest c.links x n) e
      (subst (λ (ls : List Link). IsOnOf inside.largest ls x n) f
      (only n (subst (λ (ls : List Link). IsOn ls head n) (sym f) (subst (λ (ls : List Link). IsOn ls head n) s o))))

  -- the rule of a number is left out
  module _ (but : ℕ) (symbol : AcSymbol) where
    pub unfit_of : (names : List ℕ) → ((n : ℕ) → IsOn second head n → IsUnfit (hiding (λ m. rule_at inside m) but n) symbol names)
        → (n : ℕ) → IsOnOf now.largest now.links x n → IsUnfit (hiding (λ m. rule_at now m) but n) symbol names
    unfit_of names u n o = subst (λ (c : Contents). IsUnfit (hiding (λ m. rule_at c m) but n) symbol names) e (u n (chain_of n o))

    pub tested_of : (old new : ℕ) → AreTestedOn (hiding (λ m. rule_at inside m) but) second head symbol old new → AreTestedOf (hiding (λ m. rule_at now m) but) (λ y n. IsOnOf now.largest now.links y n) x symbol old new
    tested_of old new t = record {
      tests = t.tests;
      steps = t.steps;
      different = t.different;
      each =
          all_weaker (λ n. IsOn second head n × IsOf (hiding (λ m. rule_at inside m) but n) symbol) (λ n. IsOnOf now.largest now.links x n × IsOf (hiding (λ m. rule_at now m) but n) symbol)
          (λ n p. (of_chain n p.0, subst (λ (c : Contents). IsOf (hiding (λ m. rule_at c m) but n) symbol) e p.1)) t.tests t.each;
    }
