-- Links that lead to the chains of earlier places, and heads that are places.
use Rattle.std.specs.Prelude.{ℕ, ◌+◌, ◌≤◌, ◌≡◌, List, ◌∷◌, length, slice_get, Some}
use Rattle.ae_pmap.specs.Forest.{present}
use Rattle.ae_pmap.specs.Pairs.{found}
use Rattle.ae_equations.specs.declared.pairs.Link.{Link}
use Rattle.ae_equations.specs.declared.pairs.Pairs.{Pairs}
use Rattle.ae_equations.specs.Paired.{chain_at}

pub record IsChained (links : List Link) (k : ℕ) (l : Link) : Type 0 where
  pub before : l.next ≤ k
  pub chain : chain_at links (k + 1) ≡ l.number ∷ chain_at links l.next

pub record AreChained (links : List Link) : Type 0 where
  pub each : (k : ℕ) (l : Link) → slice_get links k ≡ Some l → IsChained links k l

pub record AreNoted (c : Pairs) : Type 0 where
  pub chained : AreChained c.links
  pub within : (n head : ℕ) → found (present c.heads) n ≡ Some head → head ≤ length c.links
