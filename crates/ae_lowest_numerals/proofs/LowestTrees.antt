-- Typed trees whose numerals are in lowest terms.
use Rattle.std.specs.Prelude.{ℤ, pos, unsigned_abs}
use Rattle.std.specs.Int.{IsGcd}
use Rattle.std.specs.List.{AllByRecursion}
use Rattle.ae_core.specs.declared.terms.Head.{Head}
use Rattle.ae_core.specs.declared.terms.Head.TheVariants as head
use Rattle.ae_syntax.specs.declared.spans.Span.{Span}
use Rattle.ae_syntax.specs.declared.exprs.Number.{Number}
use Rattle.ae_syntax.specs.declared.exprs.Number.TheVariants as number
use Rattle.ae_elab.specs.Trees.{Tree, Trees, Patterns, Claim, none, more, no_pattern, and_pattern, variable, numeral, apply, operation, build}
use Rattle.ae_elab.specs.Trees.{update, choice, truth, falsity, relation, predicate, distinct, holds, negation, conjunction, disjunction}
use Rattle.ae_elab.specs.Trees.{exclusion, equivalence, implication, conditional, quantified, claim_of, claim_of_head, pattern_of}
use Rattle.ae_elab.specs.Scope.{Meaning, a_variable, a_term, a_formula, Local, Scope}
use Rattle.ae_elab.specs.Rules.{Passed, Rule, Typed, Around, Part, Set}

abbrev pub InLowestTerms : ℤ → ℤ → Type 0
InLowestTerms a b = IsGcd (unsigned_abs a) (unsigned_abs b) 1

abbrev pub IsLowestNumber : Number → Type 0
IsLowestNumber (number.Whole n) = InLowestTerms n (pos 1)
IsLowestNumber (number.Decimal top bottom) = InLowestTerms top bottom

-- ---- trees
abbrev mutual
  pub LowestTree : Tree → Type 0
  LowestTree (variable x) = Unit {0}
  LowestTree (numeral a b r) = InLowestTerms a b
  LowestTree (apply h ss us) = LowestTrees us
  LowestTree (operation o s us) = LowestTrees us
  LowestTree (build of ss n ps us) = LowestTrees us
  LowestTree (update of ss n b ps us) = LowestTree b × LowestTrees us
  LowestTree (choice c s t) = LowestClaim c × LowestTree s × LowestTree t

  pub LowestTrees : Trees → Type 0
  LowestTrees none = Unit {0}
  LowestTrees (more t us) = LowestTree t × LowestTrees us

  pub LowestPatterns : Patterns → Type 0
  LowestPatterns no_pattern = Unit {0}
  LowestPatterns (and_pattern place us ps) = LowestTrees us × LowestPatterns ps

  pub LowestClaim : Claim → Type 0
  LowestClaim truth = Unit {0}
  LowestClaim falsity = Unit {0}
  LowestClaim (relation r s t) = LowestTree s × LowestTree t
  LowestClaim (predicate k ss us) = LowestTrees us
  LowestClaim (distinct us) = LowestTrees us
  LowestClaim (holds t) = LowestTree t
  LowestClaim (negation a) = LowestClaim a
  LowestClaim (conjunction a b) = LowestClaim a × LowestClaim b
  LowestClaim (disjunction a b) = LowestClaim a × LowestClaim b
  LowestClaim (exclusion a b) = LowestClaim a × LowestClaim b
  LowestClaim (equivalence a b) = LowestClaim a × LowestClaim b
  LowestClaim (implication a b) = LowestClaim a × LowestClaim b
  LowestClaim (conditional c a b) = LowestClaim c × LowestClaim a × LowestClaim b
  LowestClaim (quantified q xs ss ps f) = LowestPatterns ps × LowestClaim f

-- a term in a formula's place
head_lowest : (h : Head) (t : Tree) → LowestTree t → LowestClaim (claim_of_head h (holds t))
head_lowest head.True t k = tt
head_lowest head.False t k = tt
head_lowest h t k = k

pub claim_lowest : (t : Tree) → LowestTree t → LowestClaim (claim_of t)
claim_lowest (choice c s t) h = (h.0, claim_lowest s h.1, claim_lowest t h.2)
claim_lowest (apply f ss us) h = head_lowest f (apply f ss us) h
claim_lowest t h = h

-- a formula in a trigger
pub pattern_lowest : (f : Claim) → LowestClaim f → LowestTree (pattern_of f)
pattern_lowest (predicate k ss us) h = h
pattern_lowest f h = tt

-- ---- what is known at a place of a text
abbrev pub LowestMeaning : Meaning → Type 0
LowestMeaning (a_variable x s) = Unit {0}
LowestMeaning (a_term c t s) = LowestTree t
LowestMeaning (a_formula f) = LowestClaim f

abbrev pub LowestLocal : Local → Type 0
LowestLocal l = LowestMeaning l.meaning

abbrev pub LowestLocals : Scope → Type 0
LowestLocals sc = AllByRecursion LowestLocal sc.locals

-- ---- rules
-- whatever is passed on to a rule, its value is such
abbrev pub Gives : {A : Type 0} → (A → Type 0) → Rule A → Type 0
Gives Q r = (p : Passed) → Q (r p).value

abbrev pub TypedLowest : Typed → Type 0
TypedLowest t = LowestTree t.tree

-- an expression that has such trees where what it names has
pub record LowestPart (e : Part) : Type 0 where
  pub term : (sc : Scope) → LowestLocals sc → (at : Span) → Gives TypedLowest (e.term sc at)
  pub formula : (sc : Scope) → LowestLocals sc → (around : Around) (at : Span) → Gives LowestClaim (e.formula sc around at)

abbrev pub LowestSet : Set → Type 0
LowestSet x = LowestPart x.value
