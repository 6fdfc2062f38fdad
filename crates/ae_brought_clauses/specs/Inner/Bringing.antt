-- What holds while clauses are brought.
use Rattle.std.specs.Prelude.{ℕ, ◌<◌, ◌≤◌, List, [], length, slice_get, ◌≡◌, ◌⊎◌, Some}
use Rattle.std.specs.List.{Contains}
use Rattle.ae_ages.specs.Ages.{HasAge}
use Rattle.ae_ages.specs.Interned.{IsHad}
use Rattle.ae_ages.specs.Laws.{AreJustifiedAges}
use Rattle.ae_ages.specs.declared.entries.Aged.{Aged}
use Rattle.ae_base.specs.Options.{or_else}
use Rattle.ae_block_constants.specs.Blocks.{opened_pairs}
use Rattle.ae_block_constants.specs.declared.opened.Opened.{Opened}
use Rattle.ae_core.specs.declared.formulas.Formula.{Formula, out-Formula}
use Rattle.ae_core.specs.declared.formulas.Lit.{Lit}
use Rattle.ae_core.specs.declared.terms.Term.{Term}
use Rattle.ae_goal_names.specs.Named.{HasNamed, clause_terms}
use Rattle.ae_journal.specs.InstanceLines.{HasGeneration}
use Rattle.ae_journal.specs.Standing.{Setting}
use Rattle.ae_journal.specs.declared.lines.Line.{Line}
use Rattle.ae_owed.specs.Generations.{IsJustified}
use Rattle.ae_owed.specs.Known.{IsYoung}
use Rattle.ae_owed.specs.Recorded.{AreOpenedIn}
use Rattle.ae_rules.specs.Instances.{fresh_clause}
use Rattle.ae_store.specs.Stores.{Stored}
use Rattle.ae_theory.specs.Names.{terms_in}

-- the `fresh` clause of an opened block; where there is none, no literals
abbrev pub said_by : Opened → List Lit
said_by o = or_else (fresh_clause o.formula o.first (out-Formula o.formula)) []

-- the terms that stand in the `fresh` clauses have names
abbrev pub HaveNames : List Opened → Stored → Type 0
HaveNames opened s = (o : Opened) (t : Term) → Contains opened o → Contains (clause_terms (said_by o)) t → Contains (terms_in s) t

-- these literals were brought at g, and perhaps others that were had
pub record Brings (opened : List Opened) (g : ℕ) (old : Stored) (es : List Aged) (new : Stored) (fs : List Aged) (ls : List Lit) : Type 0 where
  pub named : HasNamed old new (clause_terms ls)
  pub had : (l : Lit) → Contains ls l → IsHad new fs g l.formula
  pub stay : (m : ℕ) (h : Formula) → IsHad old es m h → IsHad new fs m h
  pub known : (m : ℕ) (t : Term) → IsYoung old m t → IsYoung new m t
  pub kept : (m : ℕ) (h : Formula) → HasAge es m h → HasAge fs m h
  pub only : (m : ℕ) (h : Formula) → HasAge fs m h → HasAge es m h ⊎ ((g ≤ m) × HasAge fs g h)
  pub late : (k : ℕ) (t : Term) → k < g → IsYoung new k t → IsYoung old k t
  pub justified : (x : Setting) (bound : ℕ) (js : List Line) → old.signature ≡ x.problem.signature → AreOpenedIn x (opened_pairs opened)
      → ((l : Lit) → Contains ls l → g < bound → HasGeneration x js g l.formula) → IsJustified x bound old js → AreJustifiedAges x bound es js → IsJustified x bound new js × AreJustifiedAges x bound fs js

-- places of blocks
abbrev pub AreWithin : List Opened → List ℕ → Type 0
AreWithin opened places = (k : ℕ) → Contains places k → k < length opened

-- the block at the place has this generation
abbrev pub IsAgedAt : List Opened → ℕ → List Aged → ℕ → Type 0
IsAgedAt opened g es k = (o : Opened) → slice_get opened k ≡ Some o → HasAge es g o.formula

-- each block has this generation, or its place is among these
abbrev pub AreAgedBut : List Opened → ℕ → List Aged → List ℕ → Type 0
AreAgedBut opened g es places = (k : ℕ) (o : Opened) → slice_get opened k ≡ Some o → HasAge es g o.formula ⊎ Contains places k

-- none of the blocks at these places has it
abbrev pub AreNotAged : List Opened → ℕ → List Aged → List ℕ → Type 0
AreNotAged opened g es places = (k : ℕ) (o : Opened) → Contains places k → slice_get opened k ≡ Some o → ¬ HasAge es g o.formula

-- a place was taken out, whose block has it
pub record IsTakenOut (opened : List Opened) (g : ℕ) (es : List Aged) (old new : List ℕ) (k : ℕ) : Type 0 where
  pub was : Contains old k
  pub aged : IsAgedAt opened g es k
  pub rest : (m : ℕ) → Contains old m → (m ≡ k) ⊎ Contains new m
  pub still : (m : ℕ) → Contains new m → Contains old m
  pub fewer : length new < length old

-- what is said by the block at the place is had
abbrev pub IsServed : List Opened → ℕ → Stored → List Aged → ℕ → Type 0
IsServed opened g s es k = (o : Opened) (l : Lit) → slice_get opened k ≡ Some o → Contains (said_by o) l → IsHad s es g l.formula
