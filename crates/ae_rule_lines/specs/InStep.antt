-- The lines that stand in a journal are in step with rules by their numbers, with the numbers that each number is paired with, and with equations
-- that wait to be taken up.
use Rattle.std.specs.Prelude.{ℕ, ◌↔◌, List, ◌≡◌, ◌⊎◌, Option, Some}
use Rattle.std.specs.List.{Contains}
use Rattle.ae_core.specs.declared.terms.Term.{Term}
use Rattle.ae_core.specs.declared.problems.Signature.{Signature}
use Rattle.ae_core.specs.declared.problems.AcSymbol.{AcSymbol}
use Rattle.ae_journal.specs.RuleLines.{IsStanding, IsPaired}
use Rattle.ae_journal.specs.declared.systems.RuleEntry.{RuleEntry}
use Rattle.ae_journal.specs.declared.lines.Line.{Line}
use Rattle.ae_rule_lines.specs.Lineage.{DescendsIn, IsSourceOf}

-- an equation of two multisets that waits
pub record Waiting : Type 0 where
  pub symbol : AcSymbol
  pub left : List ℕ
  pub right : List ℕ

-- its sides descend from those of one source
pub record HasSource (sig : Signature) (ts : List Term) (js : List Line) (w : Waiting) : Type 0 where
  pub one : List ℕ
  pub other : List ℕ
  pub source : IsSourceOf sig ts js w.symbol one other
  pub left : DescendsIn sig ts js w.symbol one w.left
  pub right : DescendsIn sig ts js w.symbol other w.right

-- the rule was noted with its left side, and its right side descends from the one that it was noted with
pub record IsNotedRule (sig : Signature) (ts : List Term) (js : List Line) (e : RuleEntry) : Type 0 where
  pub right : List ℕ
  pub stands : IsStanding js e.symbol e.left right
  pub descends : DescendsIn sig ts js e.symbol right e.right

-- rule number n is one of the symbol with this left side
pub record IsLeftOf (rules : ℕ → Option RuleEntry) (u : AcSymbol) (l : List ℕ) (n : ℕ) : Type 0 where
  pub rule : RuleEntry
  pub there : rules n ≡ Some rule
  pub symbol : rule.symbol ≡ u
  pub left : rule.left ≡ l

-- one of the numbers is in the list of the other
abbrev pub ArePaired : (ℕ → List ℕ) → ℕ → ℕ → Type 0
ArePaired paired m n = Contains (paired m) n ⊎ Contains (paired n) m

-- the left sides of two rules of the symbol whose numbers are paired
pub record ArePairedSides (rules : ℕ → Option RuleEntry) (paired : ℕ → List ℕ) (u : AcSymbol) (l m : List ℕ) : Type 0 where
  pub first : ℕ
  pub second : ℕ
  pub first_is : IsLeftOf rules u l first
  pub second_is : IsLeftOf rules u m second
  pub are_paired : ArePaired paired first second

pub record AreRulesInStep (sig : Signature) (ts : List Term) (js : List Line) (rules : ℕ → Option RuleEntry) (paired : ℕ → List ℕ) (waiting : List Waiting) : Type 0 where
  -- each rule stands in the lines, and each that stands there is one, under one number
  pub standing : (n : ℕ) (e : RuleEntry) → rules n ≡ Some e → IsNotedRule sig ts js e
  pub all : (u : AcSymbol) (l r : List ℕ) → IsStanding js u l r → (n : ℕ) × IsLeftOf rules u l n
  pub distinct : (u : AcSymbol) (l : List ℕ) (m n : ℕ) → IsLeftOf rules u l m → IsLeftOf rules u l n → m ≡ n
  -- two are paired by the lines exactly where their numbers are
  pub pairs : (u : AcSymbol) (l m : List ℕ) → IsPaired js u l m ↔ ArePairedSides rules paired u l m
  pub sources : (w : Waiting) → Contains waiting w → HasSource sig ts js w
