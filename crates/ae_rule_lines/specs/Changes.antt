-- How rules, pairs and waiting equations change.
use Rattle.std.specs.Prelude.{ℕ, ◌↔◌, Bool, true, false, List, ◌++◌, ◌≡◌, ◌≢◌, ◌⊎◌, Option, Some, None}
use Rattle.std.specs.List.{Contains}
use Rattle.ae_core.specs.declared.terms.Term.{Term}
use Rattle.ae_core.specs.declared.problems.Signature.{Signature}
use Rattle.ae_multiset.specs.Rewriting.{overlap_first, overlap_second}
use Rattle.ae_journal.specs.TermValues.{IsLeast}
use Rattle.ae_journal.specs.declared.systems.RuleEntry.{RuleEntry}
use Rattle.ae_journal.specs.declared.lines.Oriented.TheVariants as oriented
use Rattle.ae_journal.specs.declared.lines.Line.{Line}
use Rattle.ae_journal.specs.declared.lines.Line.TheVariants as line
use Rattle.ae_theory.specs.Noting.{is_silent}
use Rattle.ae_rule_lines.specs.Lineage.{DescendsIn}
use Rattle.ae_rule_lines.specs.InStep.{Waiting, IsLeftOf, ArePaired}

-- ---- lines and names
-- a line that leaves rules and pairs as they are, and undoes nothing
abbrev pub leaves_rules : Line → Bool
leaves_rules (line.Orient (oriented.Named n v)) = true
leaves_rules (line.Orient (oriented.Rule u l r)) = false
leaves_rules j = is_silent j

-- what the first lines make the representative of a name among the terms ts is it among all the terms
abbrev pub KeepsLeast : Signature → List Term → List Term → List Line → Type 0
KeepsLeast sig ts all js = (before after : List Line) (n r : ℕ) → js ≡ before ++ after → IsLeast sig ts before n r → IsLeast sig all before n r

-- ---- rules
-- the rule is entered under a number that is free and paired with none; no other rule of its symbol has its left side
pub record IsRuleEntered (old new : ℕ → Option RuleEntry) (paired : ℕ → List ℕ) (n : ℕ) (e : RuleEntry) : Type 0 where
  pub free : old n ≡ None
  pub there : new n ≡ Some e
  pub others : (m : ℕ) → m ≢ n → new m ≡ old m
  pub unpaired : (m : ℕ) → ¬ ArePaired paired m n
  pub new_left : (m : ℕ) → ¬ IsLeftOf old e.symbol e.left m

pub record IsRuleTakenOut (old new : ℕ → Option RuleEntry) (n : ℕ) (e : RuleEntry) : Type 0 where
  pub there : old n ≡ Some e
  pub gone : new n ≡ None
  pub others : (m : ℕ) → m ≢ n → new m ≡ old m

-- one rule comes of another by a right side that descends from that one's
pub record HasNewRight (sig : Signature) (ts : List Term) (js : List Line) (d e : RuleEntry) : Type 0 where
  pub symbol : e.symbol ≡ d.symbol
  pub left : e.left ≡ d.left
  pub right : DescendsIn sig ts js d.symbol d.right e.right

-- each rule stays, or gets such a right side
pub record HaveNewRights (sig : Signature) (ts : List Term) (js : List Line) (old new : ℕ → Option RuleEntry) : Type 0 where
  pub each : (n : ℕ) (d : RuleEntry) → old n ≡ Some d → (e : RuleEntry) × (new n ≡ Some e) × HasNewRight sig ts js d e
  pub no_more : (n : ℕ) → old n ≡ None → new n ≡ None

-- ---- pairs
-- the two numbers are paired, beside those that were
abbrev pub ArePairedToo : (ℕ → List ℕ) → (ℕ → List ℕ) → ℕ → ℕ → Type 0
ArePairedToo old new m n = (a b : ℕ) → ArePaired new a b ↔ (ArePaired old a b ⊎ ((a ≡ m) × (b ≡ n)) ⊎ ((a ≡ n) × (b ≡ m)))

-- ---- equations
-- the two sides of a rule
abbrev pub equation_of : RuleEntry → Waiting
equation_of e = record { symbol = e.symbol; left = e.left; right = e.right }

-- the two results of Deduce
abbrev pub overlap_of : RuleEntry → RuleEntry → Waiting
overlap_of d e = record { symbol = d.symbol; left = overlap_first d.left d.right e.left; right = overlap_second d.left e.left e.right }

-- one equation comes of another by sides that descend from that one's
pub record HasNewSides (sig : Signature) (ts : List Term) (js : List Line) (v w : Waiting) : Type 0 where
  pub symbol : w.symbol ≡ v.symbol
  pub left : DescendsIn sig ts js v.symbol v.left w.left
  pub right : DescendsIn sig ts js v.symbol v.right w.right

-- each equation that waits now waited before, or comes of one that did
abbrev pub HaveNewSides : Signature → List Term → List Line → List Waiting → List Waiting → Type 0
HaveNewSides sig ts js old new = (w : Waiting) → Contains new w → (v : Waiting) × Contains old v × HasNewSides sig ts js v w
