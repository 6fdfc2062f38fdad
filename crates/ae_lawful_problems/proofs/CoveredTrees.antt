-- Typed trees whose triggers may stand: each trigger has all variables of its block, and of the blocks that this one is merged with.
use Rattle.std.proofs.Common.{◌≡◌, ◌<◌, ℕ, suc, true, not, ◌&&◌, nat_eq, List, [], ◌++◌, length, Option, Some, None}
use Rattle.std.specs.List.{AllByRecursion, IsDistinct}
use Rattle.ae_syntax.specs.declared.exprs.Quantifier.{Quantifier}
use Rattle.ae_syntax.specs.declared.exprs.Quantifier.TheVariants as quantifier
use Rattle.ae_elab.specs.Trees.{Tree, Trees, Patterns, Claim, none, more, no_pattern, and_pattern, variable, numeral, apply, operation, build, update}
use Rattle.ae_elab.specs.Trees.{choice}
use Rattle.ae_elab.specs.Trees.{truth, falsity, relation, predicate, distinct, holds, negation, conjunction, disjunction, exclusion, equivalence}
use Rattle.ae_elab.specs.Trees.{implication, conditional, quantified, has_choice, is_application}
use Rattle.ae_elab.specs.Rules.{Around}
use Rattle.ae_elab.specs.Formulas.{merged_with, covers, covering_all, merging, merging_into}
use Rattle.ae_typed_laws.proofs.MetConditions.{IsMetOne}
use Rattle.ae_core.specs.declared.terms.Sort.{Sort}
use Rattle.ae_lawful_problems.proofs.WrittenPlaces.{Once}

-- the variables of a block, and of the blocks that are bodies in it
abbrev pub bound_in : Claim → List ℕ
bound_in (quantified q xs ss ps f) = xs ++ bound_in f
bound_in _ = []

-- the block that its body would be merged with
abbrev pub around_of : Quantifier → List ℕ → Patterns → Around
around_of q xs no_pattern = Some (q, xs)
around_of q xs (and_pattern place us ps) = None

abbrev pub how_many : Trees → ℕ
how_many none = 0
how_many (more t us) = suc (how_many us)

-- values of fields, each of another place among n
pub record AreFields (n : ℕ) (places : List ℕ) (us : Trees) : Type 0 where
  pub once : Once [] places
  pub within : AllByRecursion (λ k. k < n) places
  pub count : how_many us ≡ length places

-- terms of a trigger are applications, and no `if` stands in them
abbrev pub AreApplied : Trees → Type 0
AreApplied none = Unit {0}
AreApplied (more t us) = (is_application t && not (has_choice t) ≡ true) × AreApplied us

-- something of a formula that is no block's body, with the variables of its own blocks
pub record Alone (Fine : Type 0) (xs : List ℕ) : Type 0 where
  pub fine : Fine
  pub distinct : IsDistinct nat_eq xs

-- a trigger with all of these variables
pub record IsCovering (xs : List ℕ) (us : Trees) (Fine : Type 0) : Type 0 where
  pub fine : Fine
  pub applied : AreApplied us
  pub covers : covers xs us ≡ true

abbrev mutual
  pub CoveredTerm : Tree → Type 0
  CoveredTerm (variable x) = Unit {0}
  CoveredTerm (numeral a b r) = Unit {0}
  CoveredTerm (apply h ss us) = CoveredTerms us
  CoveredTerm (operation o s us) = CoveredTerms us
  CoveredTerm (build of ss n ps us) = AreFields n ps us × CoveredTerms us
  CoveredTerm (update of ss n b ps us) = AreFields n ps us × CoveredTerm b × CoveredTerms us
  CoveredTerm (choice c s t) = Alone (Covered None c) (bound_in c) × CoveredTerm s × CoveredTerm t

  pub CoveredTerms : Trees → Type 0
  CoveredTerms none = Unit {0}
  CoveredTerms (more t us) = CoveredTerm t × CoveredTerms us

  -- triggers of a block that has these variables once it is merged
  pub CoveredTriggers : List ℕ → Patterns → Type 0
  CoveredTriggers xs no_pattern = Unit {0}
  CoveredTriggers xs (and_pattern place us ps) = IsCovering xs us (CoveredTerms us) × CoveredTriggers xs ps

  -- a formula in this block
  pub Covered : Around → Claim → Type 0
  Covered around truth = Unit {0}
  Covered around falsity = Unit {0}
  Covered around (relation r s t) = CoveredTerm s × CoveredTerm t
  Covered around (predicate k ss us) = CoveredTerms us
  Covered around (distinct us) = CoveredTerms us
  Covered around (holds t) = CoveredTerm t
  Covered around (negation a) = Alone (Covered None a) (bound_in a)
  Covered around (conjunction a b) = Alone (Covered None a) (bound_in a) × Alone (Covered None b) (bound_in b)
  Covered around (disjunction a b) = Alone (Covered None a) (bound_in a) × Alone (Covered None b) (bound_in b)
  Covered around (exclusion a b) = Alone (Covered None a) (bound_in a) × Alone (Covered None b) (bound_in b)
  Covered around (equivalence a b) = Alone (Covered None a) (bound_in a) × Alone (Covered None b) (bound_in b)
  Covered around (implication a b) = Alone (Covered None a) (bound_in a) × Alone (Covered None b) (bound_in b)
  Covered around (conditional c a b) = Alone (Covered None c) (bound_in c) × Alone (Covered None a) (bound_in a) × Alone (Covered None b) (bound_in b)
  Covered around (quantified q xs ss ps f) =
      (length xs ≡ length ss) × CoveredTriggers (merged_with q around ++ xs) ps × Covered (around_of q (merged_with q around ++ xs) ps) f

-- a formula that is no block's body
abbrev pub IsAlone : Claim → Type 0
IsAlone c = Alone (Covered None c) (bound_in c)

-- ---- a formula that a `let` names, in the place of a block's body
module _ (m : ℕ → Sort) where
  covered_by : (xs ws : List ℕ) (ps : Patterns) → CoveredTriggers ws ps → AllByRecursion (IsMetOne m) (covering_all xs ps) → CoveredTriggers xs ps
  covered_by xs ws no_pattern h c = tt
  covered_by xs ws (and_pattern place us ps) h c =
      (record { fine = h.0.fine; applied = h.0.applied; covers = c.0 }, covered_by xs ws ps h.1 c.1)

  -- the block of these variables, or none
  abbrev block_of : Quantifier → Option (List ℕ) → Around
  block_of q None = None
  block_of q (Some xs) = Some (q, xs)

  merged_block : (q : Quantifier) (xs : List ℕ) (before : Option (List ℕ)) (f : Claim) → Covered (block_of q before) f
      → AllByRecursion (IsMetOne m) (merging q xs f) → Covered (Some (q, xs)) f
  merged_block quantifier.Forall xs before (quantified quantifier.Forall ys ss no_pattern f) h c =
      (h.0, tt, merged_block quantifier.Forall (xs ++ ys) (Some (merged_with quantifier.Forall (block_of quantifier.Forall before) ++ ys)) f h.2 c)
  merged_block quantifier.Forall xs before (quantified quantifier.Forall ys ss (and_pattern place us ps) f) h c =
      (h.0, covered_by (xs ++ ys) (merged_with quantifier.Forall (block_of quantifier.Forall before) ++ ys) (and_pattern place us ps) h.1 c, h.2)
  merged_block quantifier.Exists xs before (quantified quantifier.Exists ys ss no_pattern f) h c =
      (h.0, tt, merged_block quantifier.Exists (xs ++ ys) (Some (merged_with quantifier.Exists (block_of quantifier.Exists before) ++ ys)) f h.2 c)
  merged_block quantifier.Exists xs before (quantified quantifier.Exists ys ss (and_pattern place us ps) f) h c =
      (h.0, covered_by (xs ++ ys) (merged_with quantifier.Exists (block_of quantifier.Exists before) ++ ys) (and_pattern place us ps) h.1 c, h.2)
  merged_block quantifier.Forall xs None (quantified quantifier.Exists ys ss ps f) h c = h
  merged_block quantifier.Forall xs (Some ws) (quantified quantifier.Exists ys ss ps f) h c = h
  merged_block quantifier.Exists xs None (quantified quantifier.Forall ys ss ps f) h c = h
  merged_block quantifier.Exists xs (Some ws) (quantified quantifier.Forall ys ss ps f) h c = h
  merged_block q xs before truth h c = tt
  merged_block q xs before falsity h c = tt
  merged_block q xs before (relation r s t) h c = h
  merged_block q xs before (predicate k ss us) h c = h
  merged_block q xs before (distinct us) h c = h
  merged_block q xs before (holds t) h c = h
  merged_block q xs before (negation a) h c = h
  merged_block q xs before (conjunction a b) h c = h
  merged_block q xs before (disjunction a b) h c = h
  merged_block q xs before (exclusion a b) h c = h
  merged_block q xs before (equivalence a b) h c = h
  merged_block q xs before (implication a b) h c = h
  merged_block q xs before (conditional c a b) h d = h

  pub covered_around : (around : Around) (f : Claim) → Covered None f → AllByRecursion (IsMetOne m) (merging_into around f) → Covered around f
  covered_around None f h c = h
  covered_around (Some a) f h c = merged_block a.0 a.1 None f h c
