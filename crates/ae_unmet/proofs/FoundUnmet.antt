-- What a search found that isn't met, or that all is met.
use Rattle.std.specs.Prelude.{ℕ, List, ◌≡◌, Option, Some, None, IfSome, IfNone}
use Rattle.std.proofs.Common.{subst}
use Rattle.ae_store.specs.Stores.{Stored}
use Rattle.ae_sweeps.specs.Given.{rep_in}
use Rattle.ae_literals.specs.declared.said.Said.{Said}
use Rattle.ae_literals.specs.declared.unmet.Unmet.{Unmet}
use Rattle.ae_literals.specs.Unmet.{IsUnmet, AreAllMet}
use Rattle.ae_state.specs.declared.holding.Holding.{Holding}
use Rattle.ae_turns.specs.Representing.{AreRepresentatives}
use Rattle.ae_unmet.specs.Inner.Found.{AreSaidBy, IsFound, IsNoneFound}

module _ (s : Stored) (o : Holding) (reps : List ℕ) where
  pub found_some : AreRepresentatives o reps → (said : List Said) → AreSaidBy o said → (now : List Said) → now ≡ said → (u : Option Unmet) → IfSome u (λ x. IsUnmet s.signature s.nodes (rep_in reps) now x)
      → IfSome u (IsFound s o)
  found_some r said are now e None h = tt
  found_some r said are now e (Some x) h =
      record { reps = reps; representatives = r; said = said; are = are; is = subst (λ (ys : List Said). IsUnmet s.signature s.nodes (rep_in reps) ys x) e h }

  pub found_none : (said : List Said) → AreSaidBy o said → (now : List Said) → now ≡ said → (u : Option Unmet) → IfNone u (AreAllMet s.signature s.nodes (rep_in reps) now) → IfNone u (IsNoneFound s o reps)
  found_none said are now e (Some x) h = tt
  found_none said are now e None h = record { said = said; are = are; all = subst (λ (ys : List Said). AreAllMet s.signature s.nodes (rep_in reps) ys) e h }

pub found_is : (s : Stored) (o : Holding) (u v : Unmet) → u ≡ v → IsFound s o u → IsFound s o v
found_is s o u v e h = subst (IsFound s o) e h
