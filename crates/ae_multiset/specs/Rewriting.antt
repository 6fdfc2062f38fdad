-- Rewriting of multisets by a set of rules. `R l r` says that there is a rule from `l` to `r`.
use Rattle.std.specs.Prelude.{ℕ, ◌<◌, List, ◌++◌}
use Rattle.std.specs.List.Sorted.{IsNonDecreasing}
use Rattle.ae_multiset.specs.Multisets.{IsSame, IsPart, IsLess, minus, common, count}

-- the right side of a rule is put for its left side inside `a`
pub record Step (R : List ℕ → List ℕ → Type 0) (a b : List ℕ) : Type 0 where
  pub left : List ℕ
  pub right : List ℕ
  pub rule : R left right
  pub rest : List ℕ
  pub before : IsSame a (left ++ rest)
  pub after : IsSame b (right ++ rest)

-- some steps, or none, lead from the one to the other
pub data ReducesTo (R : List ℕ → List ℕ → Type 0) : List ℕ → List ℕ → Type 0 where
  done : {a b : List ℕ} → IsSame a b → ReducesTo R a b
  more : {a b c : List ℕ} → Step R a b → ReducesTo R b c → ReducesTo R a c

-- steps lead from the one to the other, each taken in either direction
pub data IsLinked (R : List ℕ → List ℕ → Type 0) : List ℕ → List ℕ → Type 0 where
  alike : {a b : List ℕ} → IsSame a b → IsLinked R a b
  down : {a b c : List ℕ} → Step R a b → IsLinked R b c → IsLinked R a c
  up : {a b c : List ℕ} → Step R b a → IsLinked R b c → IsLinked R a c

-- both reduce to one multiset
pub record Joins (R : List ℕ → List ℕ → Type 0) (a b : List ℕ) : Type 0 where
  pub at : List ℕ
  pub first : ReducesTo R a at
  pub second : ReducesTo R b at

-- no left side is a part of it
abbrev pub IsReduced : (List ℕ → List ℕ → Type 0) → List ℕ → Type 0
IsReduced R a = (l r : List ℕ) → R l r → IsPart l a → ⊥

-- some left side is a part of it
pub record Fits (R : List ℕ → List ℕ → Type 0) (a : List ℕ) : Type 0 where
  pub left : List ℕ
  pub right : List ℕ
  pub rule : R left right
  pub part : IsPart left a

-- it reduces to one that is reduced
pub record HasReduced (R : List ℕ → List ℕ → Type 0) (a : List ℕ) : Type 0 where
  pub names : List ℕ
  pub follows : ReducesTo R a names
  pub reduced : IsReduced R names

-- each right side is smaller than its left side
abbrev pub Decreases : (List ℕ → List ℕ → Type 0) → Type 0
Decreases R = (l r : List ℕ) → R l r → IsLess r l

-- Deduce: the two results of the overlap of two left sides, which share their greatest common part
abbrev pub overlap_first : List ℕ → List ℕ → List ℕ → List ℕ
overlap_first l1 r1 l2 = r1 ++ minus l2 (common l1 l2)

abbrev pub overlap_second : List ℕ → List ℕ → List ℕ → List ℕ
overlap_second l1 l2 r2 = r2 ++ minus l1 (common l1 l2)

-- the rules from `l1` to `r1` and from `l2` to `r2` are not one rule
abbrev pub AreDifferent : List ℕ → List ℕ → List ℕ → List ℕ → Type 0
AreDifferent l1 r1 l2 r2 = IsSame l1 l2 → IsSame r1 r2 → ⊥

-- for two different rules whose left sides share a name, both results of Deduce reduce to one multiset
abbrev pub OverlapsJoin : (List ℕ → List ℕ → Type 0) → Type 0
OverlapsJoin R = (l1 r1 l2 r2 : List ℕ) → R l1 r1 → R l2 r2 → AreDifferent l1 r1 l2 r2
    → (x : ℕ) → 0 < count x l1 → 0 < count x l2 → Joins R (overlap_first l1 r1 l2) (overlap_second l1 l2 r2)

-- `nf` gives each multiset what it reduces to that is reduced, in the canonical spelling
pub record IsNormalForm (R : List ℕ → List ℕ → Type 0) (nf : List ℕ → List ℕ) : Type 0 where
  pub follows : (a : List ℕ) → ReducesTo R a (nf a)
  pub reduced : (a : List ℕ) → IsReduced R (nf a)
  pub rises : (a : List ℕ) → IsNonDecreasing (nf a)
