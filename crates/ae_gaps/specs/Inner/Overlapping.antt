-- Two rules that overlap: whether they were paired, their equation with its step, and that its sides come down to one multiset.
use Rattle.std.specs.Prelude.{ℕ, ◌<◌, ◌⊎◌, ◌≡◌, List, Option, Some}
use Rattle.std.specs.List.{Contains}
use Rattle.ae_core.specs.declared.terms.Term.{Term}
use Rattle.ae_core.specs.declared.problems.Signature.{Signature}
use Rattle.ae_equation_turns.specs.Said.{IsWaitingSaid}
use Rattle.ae_equations.specs.declared.queue.Waiting.{Waiting}
use Rattle.ae_journal.specs.Journals.{live}
use Rattle.ae_journal.specs.declared.lines.Line.{Line}
use Rattle.ae_journal.specs.declared.lines.Line.TheVariants as line
use Rattle.ae_journal.specs.declared.systems.RuleEntry.{RuleEntry}
use Rattle.ae_just.specs.declared.steps.Step.{Step}
use Rattle.ae_monoid.specs.Equations.{IsOverlap, AreApart}
use Rattle.ae_monoid.specs.declared.pending.PendingPair.{PendingPair}
use Rattle.ae_monoid.specs.declared.rules.Kept.{Kept}
use Rattle.ae_multiset.specs.Multisets.{count}
use Rattle.ae_multiset.specs.Rewriting.{Joins, overlap_first, overlap_second}
use Rattle.ae_multiset_steps.specs.Equating.{RestsOnThese}
use Rattle.ae_rule_lines.specs.InStep.{ArePaired}
use Rattle.ae_settled.specs.Held.{HasRule}

-- ---- pairs
-- the two rules overlap, and aren't paired
pub record AreUnpaired (kept : ℕ → Option Kept) (paired : ℕ → List ℕ) (m n : ℕ) : Type 0 where
  pub pair : PendingPair
  pub overlap : IsOverlap (kept m) (kept n) pair
  pub unpaired : ArePaired paired m n → ⊥

-- they are paired, or they don't overlap
abbrev pub ArePairedOrApart : (ℕ → Option Kept) → (ℕ → List ℕ) → ℕ → ℕ → Type 0
ArePairedOrApart kept paired m n = ArePaired paired m n ⊎ AreApart (kept m) (kept n)

-- a `Pair` line of the left sides, in this order, stands after the lines
abbrev pub IsLineOf : List Line → Kept → Kept → Type 0
IsLineOf js d e = Contains (live js) (line.Pair d.entry.symbol d.entry.left e.entry.left)

-- where the two stand and have one symbol, there is such a line
abbrev pub ArePairedInOrder : (ℕ → Option Kept) → List Line → ℕ → ℕ → Type 0
ArePairedInOrder kept js m n = (d e : Kept) → kept m ≡ Some d → kept n ≡ Some e → d.entry.symbol ≡ e.entry.symbol → IsLineOf js d e

-- there is none
abbrev pub AreNotPairedInOrder : (ℕ → Option Kept) → List Line → ℕ → ℕ → Type 0
AreNotPairedInOrder kept js m n = (d e : Kept) → kept m ≡ Some d → kept n ≡ Some e → IsLineOf js d e → ⊥

-- they were paired in this order, or don't overlap
abbrev pub AreApartOrInOrder : (ℕ → Option Kept) → List Line → ℕ → ℕ → Type 0
AreApartOrInOrder kept js m n = AreApart (kept m) (kept n) ⊎ ArePairedInOrder kept js m n

-- ---- their equation
-- the equation of the overlap of two rules, which a new step states
pub record IsOverlapSaid (sig : Signature) (ts : List Term) (old new : List Step) (kept : ℕ → Option Kept) (m n : ℕ) (w : Waiting) : Type 0 where
  pub pair : PendingPair
  pub overlap : IsOverlap (kept m) (kept n) pair
  pub symbol : w.symbol ≡ pair.symbol
  pub left : w.left ≡ pair.left
  pub right : w.right ≡ pair.right
  pub said : IsWaitingSaid sig ts new w
  pub rests : RestsOnThese old new w.step pair.justs

-- where the two rules overlap, both results reduce to one multiset
pub record AreJoined (rules : ℕ → Option RuleEntry) (m n : ℕ) : Type 0 where
  pub each : (d e : RuleEntry) → rules m ≡ Some d → rules n ≡ Some e → d.symbol ≡ e.symbol → (x : ℕ) → 0 < count x d.left → 0 < count x e.left
      → Joins (HasRule rules d.symbol) (overlap_first d.left d.right e.left) (overlap_second d.left e.left e.right)
