-- What lines and proof texts have to be, to have a text.
use Rattle.std.specs.Prelude.{ℕ, Bool, true, false, not, ◌&&◌, ◌||◌, nat_eq, List, [], ◌≡◌, IsTrue}
use Rattle.std.specs.List.{list_all}
use Rattle.std.specs.List.Sorted.{IsStrictlyIncreasing}
use Rattle.ae_base.specs.Options.{or_else}
use Rattle.ae_codes.specs.Closers.{Close, closers}
use Rattle.ae_codes.specs.Codes.{Code}
use Rattle.ae_core.specs.Sorts.{is_closed_sort, term_ok, formula_ok}
use Rattle.ae_rules.specs.Derivations.{clause_ok}
use Rattle.ae_rules.specs.Lines.{states}
use Rattle.ae_core.specs.declared.formulas.Formula.{Formula, Formula-F, out-Formula}
use Rattle.ae_core.specs.declared.formulas.Formula.TheOpen as layer
use Rattle.ae_core.specs.declared.formulas.Quant.{Quant}
use Rattle.ae_core.specs.declared.formulas.Lit.{Lit}
use Rattle.ae_core.specs.declared.problems.Signature.{Signature}
use Rattle.ae_core.specs.declared.proofs.EqLine.{EqLine}
use Rattle.ae_core.specs.declared.proofs.ClauseLine.{ClauseLine}
use Rattle.ae_core.specs.declared.proofs.ClauseLine.TheVariants.{Hyp, Goal, Def, Inst, Fresh, Exh, Tri, Block, Rup}
use Rattle.ae_prooftext.specs.declared.proofs.ProofText.{ProofText}
use Rattle.ae_legal_texts.specs.Numbers.{AreWithin, proof_numbers}

-- ---- the bytes that close the parts of a proof text: a blank, `)`, `]` and the end of a line
abbrev pub closes_parts : ℕ → Bool
closes_parts x = nat_eq x 32 || nat_eq x 41 || nat_eq x 93 || nat_eq x 10

-- both bytes are of these
abbrev pub ClosesParts : Close → Type 0
ClosesParts k = (closes_parts k.one ≡ true) × (closes_parts k.two ≡ true)

-- the value has a text with each byte that may close it
abbrev pub HasText : {A : Type 0} → (Close → Code ((a : A) × ℕ)) → A → Type 0
HasText code a = (k : Close) → ClosesParts k → (e : ℕ) → IsTrue (closers k.one k.two e) → (code k).Fits (a, e)

-- ---- literals: the sign says whether the formula is denied, so it is no negation itself
abbrev pub is_negation : Formula-F Formula Quant → Bool
is_negation (layer.Not a) = true
is_negation _ = false

abbrev pub no_negations : List Lit → Bool
no_negations ls = list_all (λ l. not (is_negation (out-Formula l.formula))) ls

-- ---- lines: each formula, term and sort that the line states is closed and well sorted
abbrev pub derived_sorted : Signature → EqLine → Bool
derived_sorted sig l = term_ok sig (states l).left && term_ok sig (states l).right

abbrev pub line_sorted : Signature → ClauseLine → Bool
line_sorted sig (Hyp k ss) = list_all (is_closed_sort sig) ss
line_sorted sig Goal = true
line_sorted sig (Def r f) = formula_ok sig f
line_sorted sig (Inst f ts) = formula_ok sig f && list_all (term_ok sig) ts
line_sorted sig (Fresh f m) = formula_ok sig f
line_sorted sig (Exh t) = term_ok sig t
line_sorted sig (Tri s t) = term_ok sig s && term_ok sig t
line_sorted sig (Block b) = clause_ok sig b.deriv.hyps && list_all (derived_sorted sig) b.deriv.lines
line_sorted sig (Rup c ks) = clause_ok sig c

-- its literals are written without a negation
abbrev pub no_negations_in : ClauseLine → Bool
no_negations_in (Block b) = no_negations b.deriv.hyps
no_negations_in (Rup c ks) = no_negations c
no_negations_in _ = true

-- ---- proof texts
-- all numbers are within their limits, literals are written without negations, and the places of axioms rise
pub record IsWithinLimits (p : ProofText) : Type 0 where
  pub numbers : AreWithin (proof_numbers p)
  pub literals : list_all no_negations_in p.proof.lines ≡ true
  pub rising : IsStrictlyIncreasing (or_else p.axioms [])

-- and what the lines state is closed and well sorted
pub record IsWritable (sig : Signature) (p : ProofText) : Type 0 where
  pub sorted : list_all (line_sorted sig) p.proof.lines ≡ true
  pub limits : IsWithinLimits p
