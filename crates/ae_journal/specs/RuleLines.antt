-- The lines on rules of AC symbols: what rules stand and where they come from, and when `Orient` of a rule, `Drop` and `Pair` may come.
use Rattle.std.specs.Prelude.{ℕ, ◌<◌, ◌≤◌, List, [], ◌∷◌, ◌++◌, ◌≡◌, ◌⊎◌, length}
use Rattle.std.specs.List.{AllByRecursion, Contains}
use Rattle.ae_core.specs.declared.terms.Term.{Term, Apply}
use Rattle.ae_multiset.specs.Multisets.{count, IsSame, IsPart, IsLess}
use Rattle.ae_multiset.specs.Rewriting.{IsReduced, overlap_first, overlap_second}
use Rattle.ae_journal.specs.Systems.{IsJoin}
use Rattle.ae_journal.specs.Journals.{live}
use Rattle.ae_journal.specs.Standing.{Setting, IsNameAt, Represents, DidRepresent}
use Rattle.ae_core.specs.declared.problems.AcSymbol.{AcSymbol}
use Rattle.ae_journal.specs.declared.lines.Oriented.TheVariants as oriented
use Rattle.ae_journal.specs.declared.lines.Line.{Line}
use Rattle.ae_journal.specs.declared.lines.Line.TheVariants as line

-- a rule stands where it was noted and, after its line, not dropped; a `Drop` line's right side counts for nothing
pub record IsStanding (js : List Line) (u : AcSymbol) (l r : List ℕ) : Type 0 where
  pub before : List Line
  pub after : List Line
  pub is : live js ≡ before ++ line.Orient (oriented.Rule u l r) ∷ after
  pub kept : (d : List ℕ) → ¬ Contains after (line.Drop (oriented.Rule u l d))

-- a rule that was noted, dropped since or not
abbrev pub WasNoted : List Line → AcSymbol → List ℕ → List ℕ → Type 0
WasNoted js u l r = Contains (live js) (line.Orient (oriented.Rule u l r))

-- the two were paired, in either order, and since then neither was dropped
pub record IsPaired (js : List Line) (u : AcSymbol) (l m : List ℕ) : Type 0 where
  pub before : List Line
  pub after : List Line
  pub is : (live js ≡ before ++ line.Pair u l m ∷ after) ⊎ (live js ≡ before ++ line.Pair u m l ∷ after)
  pub kept : (d : List ℕ) → ¬ Contains after (line.Drop (oriented.Rule u l d)) × ¬ Contains after (line.Drop (oriented.Rule u m d))

-- the rules that stand reduce it no further
abbrev pub IsNowReduced : List Line → AcSymbol → List ℕ → Type 0
IsNowReduced js u = IsReduced (IsStanding js u)

-- a `Drop` line names, by its symbol and left side, a rule that stands. Another rule that stands reduces this left side, or a name in it is no representative.
pub record MayDrop (x : Setting) (js : List Line) (u : AcSymbol) (l : List ℕ) : Type 0 where
  pub right : List ℕ
  pub stands : IsStanding js u l right
  pub cause : ((m : List ℕ) × (r : List ℕ) × IsStanding js u m r × ¬ IsSame m l × IsPart m l) ⊎ ((n : ℕ) × (0 < count n l) × ¬ Represents x js n n)

-- a `Pair` line takes the left sides of two rules that stand, that have a common name and weren't paired while both stood
pub record MayPair (js : List Line) (u : AcSymbol) (l m : List ℕ) : Type 0 where
  pub first : (r : List ℕ) × IsStanding js u l r
  pub second : (r : List ℕ) × IsStanding js u m r
  pub two : ¬ IsSame l m
  pub common : (n : ℕ) × (0 < count n l) × (0 < count n m)
  pub new : ¬ IsPaired js u l m

module _ (x : Setting) where
  -- a source: the two arguments of a name that applies the symbol, against that name; the two results of Deduce of a pair; the two sides of a dropped rule
  pub data IsSource (js : List Line) (u : AcSymbol) : List ℕ → List ℕ → Type 0 where
    of_name : (n i j : ℕ) (a b : Term) → IsNameAt x js n (Apply u.head u.sorts (a ∷ b ∷ [])) → IsJoin x.problem.signature u.head a b → IsNameAt x js i a → IsNameAt x js j b → IsSource js u (i ∷ j ∷ []) (n ∷ [])
    of_pair : (l m q r : List ℕ) → Contains (live js) (line.Pair u l m) → WasNoted js u l q → WasNoted js u m r → IsSource js u (overlap_first l q m) (overlap_second l m r)
    of_drop : (l d r : List ℕ) → Contains (live js) (line.Drop (oriented.Rule u l d)) → WasNoted js u l r → IsSource js u l r

  -- b descends from a: by putting for a name a representative that it has or had, and the right side of a noted rule for its left side, any number of times
  pub data Descends (js : List Line) (u : AcSymbol) : List ℕ → List ℕ → Type 0 where
    itself : (a b : List ℕ) → IsSame a b → Descends js u a b
    by_representative : (n r : ℕ) (a b rest : List ℕ) → IsSame a (n ∷ rest) → DidRepresent x js n r → Descends js u (r ∷ rest) b → Descends js u a b
    by_rule : (l r a b rest : List ℕ) → IsSame a (l ++ rest) → WasNoted js u l r → Descends js u (r ++ rest) b → Descends js u a b

  -- an `Orient` line of a rule has two multisets of representatives that descend from the two sides of one source, the larger one, of at least two elements, on the left. The rules that stand reduce neither.
  pub record MayOrientRule (js : List Line) (u : AcSymbol) (l r : List ℕ) : Type 0 where
    pub one : List ℕ
    pub other : List ℕ
    pub source : IsSource js u one other
    pub descend : (Descends js u one l × Descends js u other r) ⊎ (Descends js u one r × Descends js u other l)
    pub representatives : AllByRecursion (λ n. Represents x js n n) (l ++ r)
    pub falls : IsLess r l
    pub two : 2 ≤ length l
    pub reduced : IsNowReduced js u l × IsNowReduced js u r
