-- What journals and widths have to be, beside legal, to have a text.
use Rattle.std.specs.Prelude.{ℕ, ◌≡◌, ◌≤◌, ◌<◌, ◌⊎◌, ◌^◌, [], ◌∷◌, ◌++◌, length, map, Option, Some, None}
use Rattle.std.specs.List.{AllByRecursion, flat_map}
use Rattle.ae_core.specs.Sorts.{sort_of}
use Rattle.ae_core.specs.declared.problems.Signature.{Signature}
use Rattle.ae_core.specs.declared.terms.Sort.{Sort}
use Rattle.ae_core.specs.declared.terms.Term.{Term}
use Rattle.ae_journal.specs.Systems.{IsPredicateName}
use Rattle.ae_journal.specs.declared.answers.WideAt.{WideAt}
use Rattle.ae_journal.specs.declared.lines.Line.{Line}
use Rattle.ae_journal.specs.declared.lines.Line.TheVariants as line
use Rattle.ae_journal.specs.declared.lines.Oriented.{Oriented}
use Rattle.ae_journal.specs.declared.lines.Oriented.TheVariants as oriented
use Rattle.ae_journal.specs.declared.lines.Story.{Story}
use Rattle.ae_legal_texts.specs.Numbers.{count, AreWithin, sort_numbers, term_numbers, formula_numbers, literal_numbers}
use Rattle.ae_num.specs.declared.forms.Lin.{Lin}
use Rattle.ae_stategrammar.specs.Fitting.{Rises, names_in}
use Rattle.ae_valuetext.specs.Texts.{AreNames}

-- a closed and well sorted term, or a predicate applied to such
abbrev pub IsSortedName : Signature → Term → Type 0
IsSortedName sig t = ((s : Sort) × (sort_of sig t ≡ Some s)) ⊎ IsPredicateName sig t

abbrev pub AreFormNames : Lin → Type 0
AreFormNames f = AreNames (map (λ q. q.key) f.parts)

abbrev pub IsKeyWithin : Option ℕ → Type 0
IsKeyWithin (Some n) = n < 2 ^ 64
IsKeyWithin None = Unit {0}

abbrev pub IsOrientedWithin : Oriented → Type 0
IsOrientedWithin (oriented.Named n v) = AreNames (n ∷ names_in v)
IsOrientedWithin (oriented.Rule s l r) = Rises 0 l × Rises 0 r

-- each number that the line shows is within its limits, and both multisets are written rising
abbrev pub IsLineWithin : Line → Type 0
IsLineWithin (line.Decide l) = AreWithin (literal_numbers l)
IsLineWithin (line.Orient o) = IsOrientedWithin o
IsLineWithin (line.Drop o) = IsOrientedWithin o
IsLineWithin (line.Pair s l m) = Rises 0 l × Rises 0 m
IsLineWithin (line.Learn c) = AreWithin (flat_map literal_numbers c)
IsLineWithin (line.TypeInstance k ss) = AreWithin (count k ∷ flat_map sort_numbers ss)
IsLineWithin (line.TermInstance f ts) = AreWithin (formula_numbers f ++ flat_map term_numbers ts)
IsLineWithin (line.Combine strict f) = Unit {0}
IsLineWithin (line.Back n) = AreWithin (count n ∷ [])

-- the names are well sorted, and all numbers are within their limits
pub record IsStoryWithin (sig : Signature) (s : Story) : Type 0 where
  pub sorted : AllByRecursion (IsSortedName sig) s.names
  pub name_limits : AreWithin (flat_map term_numbers s.names)
  pub names : length s.names ≤ 2 ^ 64
  pub lines : AllByRecursion IsLineWithin s.lines

-- a width with its journal
pub record IsWidthWithin (sig : Signature) (s : Story) (w : WideAt) : Type 0 where
  pub story : IsStoryWithin sig s
  pub left : AreFormNames w.left
  pub right : AreFormNames w.right
  pub key : IsKeyWithin w.key
