-- The numbers that the text of a value shows, and their limits.
use Rattle.std.specs.Prelude.{ℕ, ℤ, true, ◌<◌, ◌^◌, List, [], ◌∷◌, ◌++◌, ◌≡◌, map, unsigned_abs}
use Rattle.std.specs.List.{AllByRecursion, flat_map}
use Rattle.std.specs.Int.{IsGcd}
use Rattle.ae_base.specs.Options.{or_else}
use Rattle.ae_core.specs.Sorts.{within}
use Rattle.ae_core.specs.declared.terms.Sort.{Sort, Sort-F, fold-Sort}
use Rattle.ae_core.specs.declared.terms.Sort.TheOpen as sort_layer
use Rattle.ae_core.specs.declared.terms.Term.{Term, Term-F, fold-Term}
use Rattle.ae_core.specs.declared.terms.Term.TheOpen as term_layer
use Rattle.ae_core.specs.declared.formulas.Formula.{Formula, Formula-F, fold-Formula}
use Rattle.ae_core.specs.declared.formulas.Formula.TheOpen as formula_layer
use Rattle.ae_core.specs.declared.formulas.Quant.{Quant, Quant-F, fold-Quant}
use Rattle.ae_core.specs.declared.formulas.Lit.{Lit}
use Rattle.ae_core.specs.declared.proofs.Scaled.{Scaled}
use Rattle.ae_core.specs.declared.proofs.EqLine.{EqLine}
use Rattle.ae_core.specs.declared.proofs.EqLine.TheVariants.{EqHyp, EqRefl, EqSym, EqTrans, EqCong, EqAc, EqLin, EqField, EqFields, LeHyp, LtHyp, LeSum, LtSum, LeRound}
use Rattle.ae_core.specs.declared.proofs.Ending.{Ending}
use Rattle.ae_core.specs.declared.proofs.Ending.TheVariants.{Neq, Const, Clash, Pred, Zero, Gcd}
use Rattle.ae_core.specs.declared.proofs.Block.{Block as BlockOf}
use Rattle.ae_core.specs.declared.proofs.ClauseLine.{ClauseLine}
use Rattle.ae_core.specs.declared.proofs.ClauseLine.TheVariants.{Hyp, Goal, Def, Inst, Fresh, Exh, Tri, Block, Rup}
use Rattle.ae_prooftext.specs.declared.proofs.ProofText.{ProofText}

pub data Number : Type 0 where
  -- a number of something, or a place
  count : ℕ → Number
  -- a numeral of a term, by what stands above its stroke and below it
  numeral : ℤ → ℤ → Number
  -- a factor of a sum
  factor : ℤ → Number

-- a number of 64 bits; a numeral in lowest terms; a factor of 127 bits beside its sign
abbrev pub IsWithin : Number → Type 0
IsWithin (count n) = n < 2 ^ 64
IsWithin (numeral a b) = IsGcd (unsigned_abs a) (unsigned_abs b) 1
IsWithin (factor z) = within z ≡ true

abbrev pub AreWithin : List Number → Type 0
AreWithin = AllByRecursion IsWithin

-- ---- sorts, terms, formulas
abbrev pub sort_numbers_step : Sort-F (List Number) → List Number
sort_numbers_step (sort_layer.Rigid n) = count n ∷ []
sort_numbers_step (sort_layer.Named h args) = flat_map (λ a. a) args
sort_numbers_step _ = []

unfoldable pub sort_numbers : Sort → List Number
sort_numbers = fold-Sort (List Number) sort_numbers_step

abbrev pub term_numbers_step : Term-F (List Number) → List Number
term_numbers_step (term_layer.Bound n) = count n ∷ []
term_numbers_step (term_layer.Num a b real) = numeral a b ∷ []
term_numbers_step (term_layer.Fresh n s) = count n ∷ sort_numbers s
term_numbers_step (term_layer.Apply h ss us) = flat_map sort_numbers ss ++ flat_map (λ u. u) us

unfoldable pub term_numbers : Term → List Number
term_numbers = fold-Term (List Number) term_numbers_step

abbrev pub formula_numbers_step : Formula-F (List Number) (List Number) → List Number
formula_numbers_step formula_layer.True = []
formula_numbers_step formula_layer.False = []
formula_numbers_step (formula_layer.Eq a b) = term_numbers a ++ term_numbers b
formula_numbers_step (formula_layer.Lt a b) = term_numbers a ++ term_numbers b
formula_numbers_step (formula_layer.Le a b) = term_numbers a ++ term_numbers b
formula_numbers_step (formula_layer.Pred p ss us) = flat_map sort_numbers ss ++ flat_map term_numbers us
formula_numbers_step (formula_layer.Not a) = a
formula_numbers_step (formula_layer.And a b) = a ++ b
formula_numbers_step (formula_layer.Or a b) = a ++ b
formula_numbers_step (formula_layer.Xor a b) = a ++ b
formula_numbers_step (formula_layer.Iff a b) = a ++ b
formula_numbers_step (formula_layer.All q) = q
formula_numbers_step (formula_layer.Ex q) = q

-- those of the triggers too
abbrev pub quant_numbers_step : Quant-F (List Number) (List Number) → List Number
quant_numbers_step q = flat_map sort_numbers q.sorts ++ (flat_map (flat_map term_numbers) q.triggers ++ q.body)

unfoldable pub formula_numbers : Formula → List Number
formula_numbers = fold-Formula (List Number) (List Number) formula_numbers_step quant_numbers_step

unfoldable pub quant_numbers : Quant → List Number
quant_numbers = fold-Quant (List Number) (List Number) formula_numbers_step quant_numbers_step

abbrev pub literal_numbers : Lit → List Number
literal_numbers l = formula_numbers l.formula

-- ---- lines
abbrev pub counts : List ℕ → List Number
counts ks = map count ks

abbrev pub part_numbers : Scaled → List Number
part_numbers x = factor x.factor ∷ count x.line ∷ []

abbrev pub sum_numbers : ℤ → List Scaled → List Number
sum_numbers d xs = factor d ∷ flat_map part_numbers xs

abbrev pub sides_numbers : Term → Term → List Number
sides_numbers s t = term_numbers s ++ term_numbers t

abbrev pub derived_numbers : EqLine → List Number
derived_numbers (EqHyp s t i) = sides_numbers s t ++ count i ∷ []
derived_numbers (EqRefl s t) = sides_numbers s t
derived_numbers (EqSym s t k) = sides_numbers s t ++ count k ∷ []
derived_numbers (EqTrans s t j k) = sides_numbers s t ++ count j ∷ count k ∷ []
derived_numbers (EqCong s t ks) = sides_numbers s t ++ counts ks
derived_numbers (EqAc s t) = sides_numbers s t
derived_numbers (EqLin s t d xs) = sides_numbers s t ++ sum_numbers d xs
derived_numbers (EqField s t) = sides_numbers s t
derived_numbers (EqFields s t ks) = sides_numbers s t ++ counts ks
derived_numbers (LeHyp s t i) = sides_numbers s t ++ count i ∷ []
derived_numbers (LtHyp s t i) = sides_numbers s t ++ count i ∷ []
derived_numbers (LeSum s t d xs) = sides_numbers s t ++ sum_numbers d xs
derived_numbers (LtSum s t d xs) = sides_numbers s t ++ sum_numbers d xs
derived_numbers (LeRound s t k) = sides_numbers s t ++ count k ∷ []

abbrev pub ending_numbers : Ending → List Number
ending_numbers (Neq k i) = count k ∷ count i ∷ []
ending_numbers (Const k) = count k ∷ []
ending_numbers (Clash k) = count k ∷ []
ending_numbers (Pred i j ks) = count i ∷ count j ∷ counts ks
ending_numbers (Zero k) = count k ∷ []
ending_numbers (Gcd k) = count k ∷ []

abbrev pub block_numbers : BlockOf → List Number
block_numbers b = flat_map literal_numbers b.deriv.hyps ++ (flat_map derived_numbers b.deriv.lines ++ ending_numbers b.ending)

abbrev pub line_numbers : ClauseLine → List Number
line_numbers (Hyp k ss) = count k ∷ flat_map sort_numbers ss
line_numbers Goal = []
line_numbers (Def r f) = count r ∷ formula_numbers f
line_numbers (Inst f ts) = formula_numbers f ++ flat_map term_numbers ts
line_numbers (Fresh f m) = formula_numbers f ++ count m ∷ []
line_numbers (Exh t) = term_numbers t
line_numbers (Tri s t) = sides_numbers s t
line_numbers (Block b) = block_numbers b
line_numbers (Rup c ks) = flat_map literal_numbers c ++ counts ks

-- ---- proof texts
abbrev pub proof_numbers : ProofText → List Number
proof_numbers p = counts (or_else p.axioms []) ++ flat_map line_numbers p.proof.lines
