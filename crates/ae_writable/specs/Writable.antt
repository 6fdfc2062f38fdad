-- Proofs, states and journals that have a text wherever they are in memory.
use Rattle.std.specs.Prelude.{true, ◌++◌, ◌≡◌}
use Rattle.std.specs.List.{AllByRecursion, flat_map, list_all}
use Rattle.std.specs.List.Sorted.{IsNonDecreasing}
use Rattle.ae_core.specs.Sorts.{is_closed_sort}
use Rattle.ae_core.specs.declared.problems.Signature.{Signature}
use Rattle.ae_core.specs.declared.proofs.Proof.{Proof}
use Rattle.ae_journal.specs.declared.answers.Answer.{Answer}
use Rattle.ae_journal.specs.declared.answers.Answer.TheVariants.{Valid, Unknown, Steps, Number}
use Rattle.ae_journal.specs.declared.lines.Line.{Line}
use Rattle.ae_journal.specs.declared.lines.Line.TheVariants as line
use Rattle.ae_journal.specs.declared.lines.Oriented.{Oriented}
use Rattle.ae_journal.specs.declared.lines.Oriented.TheVariants as oriented
use Rattle.ae_journal.specs.declared.lines.Story.{Story}
use Rattle.ae_journal.specs.declared.systems.RuleEntry.{RuleEntry}
use Rattle.ae_journal.specs.declared.systems.Saturated.{Saturated}
use Rattle.ae_legal_states.specs.Writable.{SortsFor}
use Rattle.ae_legal_stories.specs.Writable.{IsSortedName}
use Rattle.ae_legal_texts.specs.Numbers.{term_numbers, formula_numbers, literal_numbers, line_numbers}
use Rattle.ae_legal_texts.specs.Writable.{no_negations, no_negations_in}
use Rattle.ae_rules.specs.Derivations.{clause_ok}
use Rattle.ae_stategrammar.specs.Points.{PointStands}
use Rattle.ae_writable.specs.Numbers.{AreValuesWithin}

-- numerals and factors are within their limits, and literals are written without negations
pub record IsWritableProof (proof : Proof) : Type 0 where
  pub values : AreValuesWithin (flat_map line_numbers proof.lines)
  pub direct : list_all no_negations_in proof.lines ≡ true

-- ---- states
-- the symbol has the sorts that it takes, which are closed, and both multisets are written rising
pub record IsWritableRule (sig : Signature) (r : RuleEntry) : Type 0 where
  pub sorts : SortsFor sig r.symbol.head r.symbol.sorts
  pub closed : list_all (is_closed_sort sig) r.symbol.sorts ≡ true
  pub left : IsNonDecreasing r.left
  pub right : IsNonDecreasing r.right

-- literals are well sorted and written without negations, and numerals are in lowest terms
pub record IsWritableState (sig : Signature) (s : Saturated) : Type 0 where
  pub sorted : clause_ok sig s.literals ≡ true
  pub direct : no_negations s.literals ≡ true
  pub literals : AreValuesWithin (flat_map literal_numbers s.literals)
  pub names : AreValuesWithin (flat_map term_numbers s.system.names)
  pub rules : AllByRecursion (IsWritableRule sig) s.system.rules
  pub points : AllByRecursion PointStands s.point

-- ---- journals
abbrev pub IsWritableOriented : Oriented → Type 0
IsWritableOriented (oriented.Named n v) = Unit {0}
IsWritableOriented (oriented.Rule u l r) = IsNonDecreasing l × IsNonDecreasing r

-- numerals are in lowest terms, and multisets are written rising
abbrev pub IsWritableLine : Line → Type 0
IsWritableLine (line.Decide l) = AreValuesWithin (literal_numbers l)
IsWritableLine (line.Orient o) = IsWritableOriented o
IsWritableLine (line.Drop o) = IsWritableOriented o
IsWritableLine (line.Pair u l m) = IsNonDecreasing l × IsNonDecreasing m
IsWritableLine (line.Learn c) = AreValuesWithin (flat_map literal_numbers c)
IsWritableLine (line.TypeInstance k ss) = Unit {0}
IsWritableLine (line.TermInstance f ts) = AreValuesWithin (formula_numbers f ++ flat_map term_numbers ts)
IsWritableLine (line.Combine strict f) = Unit {0}
IsWritableLine (line.Back n) = Unit {0}

pub record IsWritableStory (sig : Signature) (s : Story) : Type 0 where
  pub sorted : AllByRecursion (IsSortedName sig) s.names
  pub names : AreValuesWithin (flat_map term_numbers s.names)
  pub lines : AllByRecursion IsWritableLine s.lines

-- ---- answers
abbrev pub IsWritable : Signature → Answer → Type 0
IsWritable sig (Valid proof) = IsWritableProof proof
IsWritable sig (Unknown state) = IsWritableState sig state
IsWritable sig (Steps story) = IsWritableStory sig story
IsWritable sig (Number story at) = IsWritableStory sig story
