-- What is computed of a line is what its numbers say.
use Rattle.std.specs.Prelude.{ℕ, ℤ, Bool, ◌&&◌, Option, Some, None, List, [], ◌∷◌, ◌++◌, ◌≡◌}
use Rattle.std.specs.List.{flat_map, list_all}
use Rattle.std.proofs.Common.{refl, sym, ap, ◌∙◌}
use Rattle.std.proofs.lemmas.List.Folds.{list_all-map}
use Rattle.ae_base.specs.Options.{or_else}
use Rattle.ae_core.specs.declared.terms.Term.{Term}
use Rattle.ae_core.specs.declared.formulas.Formula.{Formula}
use Rattle.ae_core.specs.declared.formulas.Lit.{Lit}
use Rattle.ae_core.specs.declared.proofs.Scaled.{Scaled}
use Rattle.ae_core.specs.declared.proofs.EqLine.{EqLine}
use Rattle.ae_core.specs.declared.proofs.EqLine.TheVariants.{EqHyp, EqRefl, EqSym, EqTrans, EqCong, EqAc, EqLin, EqField, EqFields, LeHyp, LtHyp, LeSum, LtSum, LeRound}
use Rattle.ae_core.specs.declared.proofs.Ending.{Ending}
use Rattle.ae_core.specs.declared.proofs.Ending.TheVariants.{Neq, Const, Clash, Pred, Zero, Gcd}
use Rattle.ae_core.specs.declared.proofs.ClauseLine.{ClauseLine}
use Rattle.ae_core.specs.declared.proofs.ClauseLine.TheVariants.{Hyp, Goal, Def, Inst, Fresh, Exh, Tri, Block, Rup}
use Rattle.ae_legal_texts.specs.Numbers.{Number, count, counts, term_numbers, formula_numbers, literal_numbers, part_numbers, sum_numbers, sides_numbers, derived_numbers, ending_numbers, line_numbers, proof_numbers}
use Rattle.ae_prooftext.specs.declared.proofs.ProofText.{ProofText}
use Rattle.ae_counts.specs.Inner.Counted.{count_within, counts_within, number_counts, numbers_count, term_counts, formula_counts, sides_count, part_counts, derived_counts, ending_counts, literal_counts, line_counts, places_count}
use Rattle.ae_counts.proofs.TreeRules.{one_number, both_numbers, all_numbers, sorts_numbers, terms_numbers}

-- ---- numbers, terms, formulas
pub counts_numbers : (ks : List ℕ) → counts_within ks ≡ numbers_count (counts ks)
counts_numbers ks = sym (list_all-map number_counts count ks)

pub one_count : (n : ℕ) → count_within n ≡ numbers_count (count n ∷ [])
one_count n = sym (one_number (count n))

pub term_is : (t : Term) → term_counts t ≡ numbers_count (term_numbers t)
unfolding term_counts
term_is t = refl

pub formula_is : (f : Formula) → formula_counts f ≡ numbers_count (formula_numbers f)
unfolding formula_counts
formula_is f = refl

pub literals_are : (c : List Lit) → list_all literal_counts c ≡ numbers_count (flat_map literal_numbers c)
literals_are [] = refl
literals_are (l ∷ c) = (λ i. formula_is l.formula i && literals_are c i) ∙ sym (both_numbers (literal_numbers l) (flat_map literal_numbers c))

-- one part of the numbers, and the other
pub joined : (a b : Bool) (xs ys : List Number) → a ≡ numbers_count xs → b ≡ numbers_count ys → (a && b) ≡ numbers_count (xs ++ ys)
joined a b xs ys e f = (λ i. e i && f i) ∙ sym (both_numbers xs ys)

sides_are : (s t : Term) → sides_count s t ≡ numbers_count (sides_numbers s t)
sides_are s t = joined (term_counts s) (term_counts t) (term_numbers s) (term_numbers t) (term_is s) (term_is t)

-- ---- derived lines
parts_are : (d : ℤ) (xs : List Scaled) → list_all part_counts xs ≡ numbers_count (sum_numbers d xs)
parts_are d [] = refl
parts_are d (x ∷ xs) = (λ i. one_count x.line i && parts_are d xs i) ∙ sym (both_numbers (part_numbers x) (flat_map part_numbers xs))

with_more : (s t : Term) (b : Bool) (more : List Number) → b ≡ numbers_count more → (sides_count s t && b) ≡ numbers_count (sides_numbers s t ++ more)
with_more s t b more e = joined (sides_count s t) b (sides_numbers s t) more (sides_are s t) e

derived_is : (l : EqLine) → derived_counts l ≡ numbers_count (derived_numbers l)
derived_is (EqHyp s t i) = with_more s t (count_within i) (count i ∷ []) (one_count i)
derived_is (EqRefl s t) = sides_are s t
derived_is (EqSym s t k) = with_more s t (count_within k) (count k ∷ []) (one_count k)
derived_is (EqTrans s t j k) = with_more s t (count_within j && count_within k) (count j ∷ count k ∷ []) (ap (λ b. count_within j && b) (one_count k))
derived_is (EqCong s t ks) = with_more s t (counts_within ks) (counts ks) (counts_numbers ks)
derived_is (EqAc s t) = sides_are s t
derived_is (EqLin s t d xs) = with_more s t (list_all part_counts xs) (sum_numbers d xs) (parts_are d xs)
derived_is (EqField s t) = sides_are s t
derived_is (EqFields s t ks) = with_more s t (counts_within ks) (counts ks) (counts_numbers ks)
derived_is (LeHyp s t i) = with_more s t (count_within i) (count i ∷ []) (one_count i)
derived_is (LtHyp s t i) = with_more s t (count_within i) (count i ∷ []) (one_count i)
derived_is (LeSum s t d xs) = with_more s t (list_all part_counts xs) (sum_numbers d xs) (parts_are d xs)
derived_is (LtSum s t d xs) = with_more s t (list_all part_counts xs) (sum_numbers d xs) (parts_are d xs)
derived_is (LeRound s t k) = with_more s t (count_within k) (count k ∷ []) (one_count k)

all_derived : (ls : List EqLine) → list_all derived_counts ls ≡ numbers_count (flat_map derived_numbers ls)
all_derived ls = (λ i. list_all (λ l. derived_is l i) ls) ∙ sym (all_numbers derived_numbers ls)

ending_is : (e : Ending) → ending_counts e ≡ numbers_count (ending_numbers e)
ending_is (Neq k i) = ap (λ b. count_within k && b) (one_count i)
ending_is (Const k) = one_count k
ending_is (Clash k) = one_count k
ending_is (Pred i j ks) = ap (λ b. count_within i && (count_within j && b)) (counts_numbers ks)
ending_is (Zero k) = one_count k
ending_is (Gcd k) = one_count k

-- ---- the lines of proofs
line_is : (l : ClauseLine) → line_counts l ≡ numbers_count (line_numbers l)
line_is (Hyp k ss) = ap (λ b. count_within k && b) (sym (sorts_numbers ss))
line_is Goal = refl
line_is (Def r f) = ap (λ b. count_within r && b) (formula_is f)
line_is (Inst f ts) = joined (formula_counts f) (list_all term_counts ts) (formula_numbers f) (flat_map term_numbers ts) (formula_is f) (sym (terms_numbers ts))
line_is (Fresh f m) = joined (formula_counts f) (count_within m) (formula_numbers f) (count m ∷ []) (formula_is f) (one_count m)
line_is (Exh t) = term_is t
line_is (Tri s t) = sides_are s t
line_is (Block b) =
    joined (list_all literal_counts b.deriv.hyps) (list_all derived_counts b.deriv.lines && ending_counts b.ending) (flat_map literal_numbers b.deriv.hyps)
    (flat_map derived_numbers b.deriv.lines ++ ending_numbers b.ending) (literals_are b.deriv.hyps)
    (joined (list_all derived_counts b.deriv.lines) (ending_counts b.ending) (flat_map derived_numbers b.deriv.lines) (ending_numbers b.ending) (all_derived b.deriv.lines) (ending_is b.ending))
line_is (Rup c ks) = joined (list_all literal_counts c) (counts_within ks) (flat_map literal_numbers c) (counts ks) (literals_are c) (counts_numbers ks)

lines_are : (ls : List ClauseLine) → list_all line_counts ls ≡ numbers_count (flat_map line_numbers ls)
lines_are ls = (λ i. list_all (λ l. line_is l i) ls) ∙ sym (all_numbers line_numbers ls)

places_are : (axioms : Option (List ℕ)) → places_count axioms ≡ numbers_count (counts (or_else axioms []))
places_are None = refl
places_are (Some ks) = counts_numbers ks

-- ---- proof texts
pub text_is : (p : ProofText) → (places_count p.axioms && list_all line_counts p.proof.lines) ≡ numbers_count (proof_numbers p)
text_is p =
    joined (places_count p.axioms) (list_all line_counts p.proof.lines) (counts (or_else p.axioms [])) (flat_map line_numbers p.proof.lines) (places_are p.axioms) (lines_are p.proof.lines)
