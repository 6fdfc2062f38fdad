-- What a derivation of a chain is worth.
use Rattle.std.specs.Prelude.{ℕ, ◌≡◌, Some}
use Rattle.ae_rules.specs.Derivations.{Derives, goal_body}
use Rattle.ae_core.specs.Signatures.{IsLawful}
use Rattle.ae_core.specs.declared.formulas.Formula.{Formula}
use Rattle.ae_core.specs.declared.problems.Signature.{Signature}
use Rattle.ae_core.specs.declared.problems.Problem.{Problem}
use Rattle.ae_core.specs.declared.proofs.Proof.{Proof}
use Rattle.ae_chains.specs.Reach.{IsPlainEquation, IsChain, last, implies, IsInReach}

-- the two sides have one value
abbrev pub IsKept : {sig : Signature} {f : Formula} → (ℕ → ℕ) → IsPlainEquation sig f → Type 0
IsKept value e = value e.left ≡ value e.right

-- where each hypothesis holds between the values of constants, so does the last equation
abbrev pub Follows : {sig : Signature} {f : Formula} → (ℕ → ℕ) → IsChain sig f → Type 0
Follows value (last f e) = IsKept value e
Follows value (implies e c first rest) = IsKept value first → Follows value rest

-- what is derived follows, whatever values the constants have
abbrev pub IsSound : Type 0
IsSound =
    (p : Problem) (k : ℕ) (f : Formula) (proof : Proof) → IsLawful p.signature → IsInReach p → Derives p k proof → goal_body p k ≡ Some f
    → (chain : IsChain p.signature f) (value : ℕ → ℕ) → Follows value chain
