-- Nodes behind others.
use Rattle.std.specs.Prelude.{ℕ, List, ◌≡◌, map}
use Rattle.ae_elab.specs.declared.typings.Bound as code
use Rattle.ae_elab.specs.Environments.{Bench, entries, locals}
use Rattle.ae_elab.specs.Nodes.{IsTree, IsClaim, AreTrees}
use Rattle.ae_elab.specs.Trees.{Tree, Trees, Claim, trees, variable}
use Rattle.ae_elab.specs.Typings.{Begins}

-- the variables of formal parameters
abbrev pub own_args : List code.Bound → Trees
own_args bs = trees (map (λ b. variable b.number) bs)

-- nodes behind others, and the same bound names
pub record Adds (old new : Bench) : Type 0 where
  pub kept : Begins (entries old) (entries new)
  pub locals : locals new ≡ locals old

pub record AddsTrees (old new : Bench) (ts : Trees) (ns : List ℕ) : Type 0 where
  pub adds : Adds old new
  pub stand : AreTrees (entries new) ns ts

pub record AddsTree (old new : Bench) (t : Tree) (n : ℕ) : Type 0 where
  pub adds : Adds old new
  pub stands : IsTree (entries new) n t

pub record AddsClaim (old new : Bench) (f : Claim) (n : ℕ) : Type 0 where
  pub adds : Adds old new
  pub stands : IsClaim (entries new) n f
