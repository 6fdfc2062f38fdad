-- What states have to be, beside completed, to have a text.
use Rattle.std.specs.Prelude.{◌≡◌, ◌≤◌, ◌^◌, true, List, [], length, slice_get, Some}
use Rattle.std.specs.List.{AllByRecursion, flat_map, list_all}
use Rattle.ae_core.specs.Sorts.{is_closed_sort}
use Rattle.ae_core.specs.declared.problems.AcSymbol.{AcSymbol}
use Rattle.ae_core.specs.declared.problems.Signature.{Signature}
use Rattle.ae_core.specs.declared.problems.SymbolEntry.{SymbolEntry}
use Rattle.ae_core.specs.declared.terms.Head.{Head}
use Rattle.ae_core.specs.declared.terms.Head.TheVariants as head
use Rattle.ae_core.specs.declared.terms.Sort.{Sort}
use Rattle.ae_journal.specs.declared.systems.RuleEntry.{RuleEntry}
use Rattle.ae_journal.specs.declared.systems.Saturated.{Saturated}
use Rattle.ae_legal_texts.specs.Numbers.{AreWithin, sort_numbers, term_numbers, literal_numbers}
use Rattle.ae_legal_texts.specs.Writable.{no_negations}
use Rattle.ae_stategrammar.specs.Fitting.{Rises, names_in}
use Rattle.ae_stategrammar.specs.Points.{PointStands}
use Rattle.ae_valuetext.specs.Texts.{AreNames}

-- a sort for each type variable of a declared symbol; none for a product of numbers
abbrev pub SortsFor : Signature → Head → List Sort → Type 0
SortsFor sig (head.Symbol n) ss = (e : SymbolEntry) × (slice_get sig.symbols n ≡ Some e) × (length ss ≡ e.vars)
SortsFor sig _ ss = ss ≡ []

-- the symbol has the sorts that it takes, which are closed, with numbers of 64 bits
pub record HasSorts (sig : Signature) (s : AcSymbol) : Type 0 where
  pub each : SortsFor sig s.head s.sorts
  pub closed : list_all (is_closed_sort sig) s.sorts ≡ true
  pub numbers : AreWithin (flat_map sort_numbers s.sorts)

-- the symbol with its sorts, and both multisets written rising, of names of 64 bits
pub record IsRuleWithin (sig : Signature) (r : RuleEntry) : Type 0 where
  pub symbol : HasSorts sig r.symbol
  pub left : Rises 0 r.left
  pub right : Rises 0 r.right

-- all numbers are within their limits, literals are written without negations, and multisets rise
pub record IsWithinLimits (sig : Signature) (s : Saturated) : Type 0 where
  pub literals : no_negations s.literals ≡ true
  pub literal_limits : AreWithin (flat_map literal_numbers s.literals)
  pub name_limits : AreWithin (flat_map term_numbers s.system.names)
  pub names : length s.system.names ≤ 2 ^ 64
  pub value_names : AllByRecursion (λ v. AreNames (names_in v)) s.system.values
  pub rules : AllByRecursion (IsRuleWithin sig) s.system.rules
  pub points : AllByRecursion PointStands s.point
