-- How the lines of a block and of a proof are read.
use Rattle.std.specs.Prelude.{ℕ, ◌⊎◌, ◌||◌, Bool, true, false, nat_eq, List, [], ◌∷◌, codes}
use mathlib.Core.Logic.{inl, inr}
use mathlib.Core.Path.{refl}
use Rattle.ae_codes.specs.Codes.{Code, Read, got, stops, mapped}
use Rattle.ae_codes.specs.Closers.{by_blank, by_line, sizes}
use Rattle.ae_codes.specs.Numbers.{number}
use Rattle.ae_core.specs.declared.formulas.Lit.{Lit}
use Rattle.ae_core.specs.declared.problems.Signature.{Signature}
use Rattle.ae_core.specs.declared.proofs.Block.{Block}
use Rattle.ae_core.specs.declared.proofs.ClauseLine.{ClauseLine}
use Rattle.ae_core.specs.declared.proofs.ClauseLine.TheVariants.{Hyp, Goal, Def, Inst, Fresh, Exh, Tri, Block as BlockLine, Rup}
use Rattle.ae_core.specs.declared.proofs.EqLine.{EqLine}
use Rattle.ae_core.specs.declared.proofs.Ending.{Ending}
use Rattle.ae_core.specs.declared.terms.Term.{Term}
use Rattle.ae_formulareader.specs.Formulas.{square_terms}
use Rattle.ae_formulareader.specs.Literals.{literal_code}
use Rattle.ae_prooftext.specs.Clauses.{literals}
use Rattle.ae_prooftext.specs.Grammar.{is_real, block_code, formula_code, term_code}
use Rattle.ae_prooftext.specs.Proofs as proofs
use Rattle.ae_prooftext.specs.Rules.{hyp_word, ending_code}
use Rattle.ae_choices.specs.Choices.{Arms, picked}
use Rattle.ae_linereader.specs.Rules.{eq_arms, le_arms, lt_arms, eq_all, le_all, lt_all, numbers_read}
use Rattle.ae_linereader.specs.declared.steps.DerivedStep.{DerivedStep}
use Rattle.ae_linereader.specs.declared.steps.DerivedStep.TheVariants as derived
use Rattle.ae_linereader.specs.declared.steps.BlockStep.{BlockStep}
use Rattle.ae_linereader.specs.declared.steps.BlockStep.TheVariants as blocks
use Rattle.ae_linereader.specs.declared.steps.ProofStep.{ProofStep}
use Rattle.ae_linereader.specs.declared.steps.ProofStep.TheVariants as clausal
use Rattle.ae_readers.specs.Readers.{after_read, fixed_read, list_read}
use Rattle.ae_termreader.specs.Sorts.{sorts_read}

-- what a step gives: one more, or the last
abbrev pub derived_part : DerivedStep → EqLine ⊎ Ending
derived_part (derived.Line a) = inl a
derived_part (derived.End b) = inr b

abbrev pub block_part : BlockStep → Lit ⊎ ((ls : List EqLine) × Ending)
block_part (blocks.Hypothesis a) = inl a
block_part (blocks.Derivation ls b) = inr (ls, b)

abbrev pub proof_part : ProofStep → ClauseLine ⊎ Unit {0}
proof_part (clausal.Line a) = inl a
proof_part clausal.End = inr tt

abbrev pub derived_all : List (List ℕ)
derived_all = codes "eq " ∷ codes "le " ∷ codes "lt " ∷ []

abbrev pub line_all : List (List ℕ)
line_all = hyp_word ∷ codes "goal\n" ∷ codes "def " ∷ codes "inst " ∷ codes "fresh " ∷ codes "exh " ∷ codes "tri " ∷ codes "block\n" ∷ codes "rup [" ∷ codes "end\n" ∷ []

-- a list between square brackets, to the end of the line
abbrev pub bracketed_read : {X : Type 0} → (List ℕ → Read X) → List ℕ → Read X
bracketed_read inside bytes =
    after_read (fixed_read (91 ∷ []) bytes) (λ u q.
    after_read (inside q) (λ x e.
    after_read (fixed_read (10 ∷ []) e) (λ w rest. got x rest)))

module _ (sig : Signature) where
  -- ---- derived lines, and the ending
  abbrev pub sides_read : List ℕ → Read ((s : Term) × Term)
  sides_read bytes =
      after_read ((term_code sig [] by_blank).read bytes) (λ s r.
      after_read ((term_code sig [] by_blank).read r) (λ t rest. got (s.0, t.0) rest))

  abbrev pub derived_arms : Arms EqLine
  derived_arms =
      (codes "eq ", λ bytes. after_read (sides_read bytes) (λ p rest. picked eq_all (eq_arms p.0 p.1) rest))
      ∷ (codes "le ", λ bytes. after_read (sides_read bytes) (λ p rest. picked le_all (le_arms p.0 p.1) rest))
      ∷ (codes "lt ", λ bytes. after_read (sides_read bytes) (λ p rest. picked lt_all (lt_arms p.0 p.1) rest))
      ∷ []

  abbrev pub derived_code : Code EqLine
  derived_code = proofs.derived_line sig (is_real sig)

  abbrev pub derivation_code : Code ((ls : List EqLine) × Ending)
  derivation_code = proofs.derivation sig (is_real sig)

  abbrev pub derived_by : Bool → List ℕ → Read DerivedStep
  derived_by true bytes = after_read ((derived_code).read bytes) (λ a rest. got (derived.Line a) rest)
  derived_by false bytes = after_read (ending_code.read bytes) (λ b rest. got (derived.End b) rest)

  abbrev pub derived_step_read : List ℕ → Read DerivedStep
  derived_step_read [] = stops []
  derived_step_read (x ∷ xs) = derived_by (nat_eq x 101 || nat_eq x 108) (x ∷ xs)

  -- ---- blocks
  abbrev pub hypothesis_read : List ℕ → Read Lit
  hypothesis_read bytes =
      after_read (fixed_read (104 ∷ 32 ∷ []) bytes) (λ u r.
      after_read ((literal_code sig by_line).read r) (λ v rest. got v.0 rest))

  abbrev pub block_by : Bool → List ℕ → Read BlockStep
  block_by true bytes = after_read (hypothesis_read bytes) (λ a rest. got (blocks.Hypothesis a) rest)
  block_by false bytes = after_read (derivation_code.read bytes) (λ d rest. got (blocks.Derivation d.0 d.1) rest)

  abbrev pub block_step_read : List ℕ → Read BlockStep
  block_step_read [] = stops []
  block_step_read (x ∷ xs) = block_by (nat_eq x 104) (x ∷ xs)

  abbrev pub block_lines_code : Code ((hs : List Lit) × ((ls : List EqLine) × Ending))
  block_lines_code = proofs.block_lines sig (is_real sig)

  abbrev pub block_read : List ℕ → Read Block
  block_read bytes = after_read (block_lines_code.read bytes) (λ v rest. got (record { deriv = record { hyps = v.0; lines = v.1.0 }; ending = v.1.1 }) rest)

  -- ---- clause lines, each behind its word
  abbrev pub axiom_read : List ℕ → Read ProofStep
  axiom_read bytes =
      after_read ((number (sizes by_blank)).read bytes) (λ n r.
      after_read (bracketed_read (sorts_read sig) r) (λ ss rest. got (clausal.Line (Hyp n.0 ss)) rest))

  abbrev pub definition_read : List ℕ → Read ProofStep
  definition_read bytes = after_read ((number (sizes by_blank)).read bytes) (λ n r. after_read ((formula_code sig [] by_line).read r) (λ f rest. got (clausal.Line (Def n.0 f.0)) rest))

  abbrev pub instance_read : List ℕ → Read ProofStep
  instance_read bytes =
      after_read ((formula_code sig [] by_blank).read bytes) (λ f r.
      after_read (bracketed_read (list_read 93 (square_terms sig [])) r) (λ ts rest. got (clausal.Line (Inst f.0 ts)) rest))

  abbrev pub fresh_read : List ℕ → Read ProofStep
  fresh_read bytes = after_read ((formula_code sig [] by_blank).read bytes) (λ f r. after_read ((number (sizes by_line)).read r) (λ n rest. got (clausal.Line (Fresh f.0 n.0)) rest))

  abbrev pub exhaustion_read : List ℕ → Read ProofStep
  exhaustion_read bytes = after_read ((term_code sig [] by_line).read bytes) (λ t rest. got (clausal.Line (Exh t.0)) rest)

  abbrev pub trichotomy_read : List ℕ → Read ProofStep
  trichotomy_read bytes = after_read ((term_code sig [] by_blank).read bytes) (λ s r. after_read ((term_code sig [] by_line).read r) (λ t rest. got (clausal.Line (Tri s.0 t.0)) rest))

  abbrev pub block_line_read : List ℕ → Read ProofStep
  block_line_read bytes = after_read ((block_code sig).read bytes) (λ b rest. got (clausal.Line (BlockLine b)) rest)

  abbrev pub propagation_read : List ℕ → Read ProofStep
  propagation_read bytes = after_read ((literals sig (is_real sig)).read bytes) (λ c r. after_read (numbers_read r) (λ ks rest. got (clausal.Line (Rup c ks)) rest))

  abbrev pub late_arms : Arms ProofStep
  late_arms = (codes "tri ", trichotomy_read) ∷ (codes "block\n", block_line_read) ∷ (codes "rup [", propagation_read) ∷ (codes "end\n", λ bytes. got clausal.End bytes) ∷ []

  abbrev pub middle_arms : Arms ProofStep
  middle_arms = (codes "inst ", instance_read) ∷ (codes "fresh ", fresh_read) ∷ (codes "exh ", exhaustion_read) ∷ late_arms

  abbrev pub line_arms : Arms ProofStep
  line_arms = (hyp_word, axiom_read) ∷ (codes "goal\n", λ bytes. got (clausal.Line Goal) bytes) ∷ (codes "def ", definition_read) ∷ middle_arms

  abbrev pub proof_lines_code : Code ((ls : List ClauseLine) × Unit {0})
  proof_lines_code = proofs.proof_lines sig (is_real sig)

  abbrev pub lines_read : List ℕ → Read (List ClauseLine)
  lines_read bytes = after_read (proof_lines_code.read bytes) (λ v rest. got v.0 rest)

  -- the clause lines up to the line `end`
  unfoldable pub lines_code : Code (List ClauseLine)
  lines_code = mapped (λ v. v.0) (λ ls. (ls, tt)) proof_lines_code (λ v f. refl)
