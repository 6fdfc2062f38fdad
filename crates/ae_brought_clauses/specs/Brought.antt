-- What it is to bring the literals of a clause at a generation.
use Rattle.std.specs.Prelude.{ℕ, ◌<◌, List, ◌≡◌, ◌⊎◌, Some}
use Rattle.std.specs.List.{Contains}
use Rattle.ae_ages.specs.Ages.{HasAge}
use Rattle.ae_ages.specs.Interned.{IsHad}
use Rattle.ae_ages.specs.Laws.{AreJustifiedAges}
use Rattle.ae_ages.specs.declared.entries.Aged.{Aged}
use Rattle.ae_block_constants.specs.Blocks.{opened_pairs}
use Rattle.ae_block_constants.specs.declared.opened.Opened.{Opened}
use Rattle.ae_core.specs.declared.formulas.Formula.{Formula, out-Formula}
use Rattle.ae_core.specs.declared.formulas.Lit.{Lit}
use Rattle.ae_core.specs.declared.terms.Term.{Term}
use Rattle.ae_goal_names.specs.Named.{HasNamed, clause_terms}
use Rattle.ae_journal.specs.InstanceLines.{HasGeneration}
use Rattle.ae_journal.specs.Standing.{Setting}
use Rattle.ae_journal.specs.declared.lines.Line.{Line}
use Rattle.ae_owed.specs.Generations.{IsJustified}
use Rattle.ae_owed.specs.Known.{IsYoung}
use Rattle.ae_owed.specs.Recorded.{AreOpenedIn}
use Rattle.ae_rules.specs.Clauses.{Clause}
use Rattle.ae_rules.specs.Instances.{fresh_clause}
use Rattle.ae_store.specs.Stores.{Stored}

-- what the `fresh` clause of an opened block says beside the block itself is had at each generation of the block
abbrev pub HaveBodies : List Opened → Stored → List Aged → Type 0
HaveBodies opened s es = (f : Formula) (m n : ℕ) (c : Clause) (l : Lit) → Contains (opened_pairs opened) (f, m) → HasAge es n f → fresh_clause f m (out-Formula f) ≡ Some c → Contains c l
    → (l.formula ≡ f) ⊎ IsHad s es n l.formula

-- the literals were brought at n, where these blocks are opened
pub record AreBrought (opened : List Opened) (n : ℕ) (old : Stored) (es : List Aged) (new : Stored) (fs : List Aged) (ls : List Lit) : Type 0 where
  -- names are new only for what stands in the literals
  pub named : HasNamed old new (clause_terms ls)
  -- they are had at n, what was had stays so, and so does what blocks say
  pub had : (l : Lit) → Contains ls l → IsHad new fs n l.formula
  pub stay : (m : ℕ) (h : Formula) → IsHad old es m h → IsHad new fs m h
  pub known : (m : ℕ) (t : Term) → IsYoung old m t → IsYoung new m t
  pub kept : (m : ℕ) (h : Formula) → HasAge es m h → HasAge fs m h
  pub bodies : HaveBodies opened old es → HaveBodies opened new fs
  -- where the literals have this generation by a journal, no generation is too small
  pub justified : (x : Setting) (bound : ℕ) (js : List Line) → old.signature ≡ x.problem.signature → AreOpenedIn x (opened_pairs opened)
      → ((l : Lit) → Contains ls l → n < bound → HasGeneration x js n l.formula) → IsJustified x bound old js → AreJustifiedAges x bound es js → IsJustified x bound new js × AreJustifiedAges x bound fs js
  -- what is known at smaller generations stays as it is
  pub late : (k : ℕ) (t : Term) → k < n → IsYoung new k t → IsYoung old k t
  pub late_ages : (k : ℕ) (h : Formula) → k < n → HasAge fs k h → HasAge es k h
