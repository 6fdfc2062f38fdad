-- Lines that a search derives can be written: those over formulas that can, and blocks of lines between terms that are built of its names.
use Rattle.std.specs.Prelude.{ℕ, ℤ, true, cond, List, [], ◌∷◌, ◌++◌, ◌≡◌}
use Rattle.std.specs.List.{AllByRecursion, Contains, flat_map}
use Rattle.std.proofs.Common.{refl, sym, subst}
use Rattle.ae_base.proofs.AllOf.{all_append, all_weaker}
use Rattle.ae_core.specs.Sorts.{within}
use Rattle.ae_core.specs.declared.formulas.Formula.{Formula}
use Rattle.ae_core.specs.declared.formulas.Lit.{Lit}
use Rattle.ae_core.specs.declared.problems.Signature.{Signature}
use Rattle.ae_core.specs.declared.proofs.Block.{Block as BlockOf}
use Rattle.ae_core.specs.declared.proofs.ClauseLine.{ClauseLine}
use Rattle.ae_core.specs.declared.proofs.ClauseLine.TheVariants.{Hyp, Goal, Def, Inst, Fresh, Exh, Tri, Block, Rup}
use Rattle.ae_core.specs.declared.proofs.Ending.{Ending}
use Rattle.ae_core.specs.declared.proofs.Ending.TheVariants.{Neq, Const, Clash, Pred, Zero, Gcd}
use Rattle.ae_core.specs.declared.proofs.EqLine.{EqLine}
use Rattle.ae_core.specs.declared.proofs.EqLine.TheVariants.{EqHyp, EqRefl, EqSym, EqTrans, EqCong, EqAc, EqLin, EqField, EqFields, LeHyp, LtHyp, LeSum, LtSum, LeRound}
use Rattle.ae_core.specs.declared.proofs.Scaled.{Scaled}
use Rattle.ae_core.specs.declared.terms.Head.{Head}
use Rattle.ae_core.specs.declared.terms.Head.TheVariants as head
use Rattle.ae_core.specs.declared.terms.Op.TheVariants as op
use Rattle.ae_core.specs.declared.terms.Sort.{Sort}
use Rattle.ae_core.specs.declared.terms.Term.{Term, Apply}
use Rattle.ae_rules.specs.Built.{numeral, IsBuilt, of_name, of_number, of_product, of_sum, of_symbol, of_unplain, AreFactorsWithin}
use Rattle.ae_rules.specs.Clauses.{Clause}
use Rattle.ae_journal.proofs.Splits.{all_contained}
use Rattle.ae_legal_texts.specs.Numbers.{Number, count, counts, part_numbers, sum_numbers, sides_numbers, derived_numbers, ending_numbers, line_numbers, literal_numbers, term_numbers}
use Rattle.ae_legal_texts.specs.Writable.{no_negations_in}
use Rattle.ae_store.specs.Stores.{Stored}
use Rattle.ae_theory.specs.Names.{terms_in}
use Rattle.ae_sat.specs.Lines.{IsBlockOver, IsBuiltLine, IsLineOver}
use Rattle.ae_writable.specs.Numbers.{IsValueWithin, AreValuesWithin}
use Rattle.ae_numerals_kept.specs.Lowest.{IsLowestTerm}
use Rattle.ae_numerals_kept.proofs.Lowest.{whole_lowest, apply_lowest}
use Rattle.ae_written_lines.proofs.Fine.{IsFine, values_of, signs_of}

-- ---- numbers of lines
counts_within : (ks : List ℕ) → AreValuesWithin (counts ks)
counts_within [] = tt
counts_within (k ∷ ks) = (tt, counts_within ks)

ending_within : (e : Ending) → AreValuesWithin (ending_numbers e)
ending_within (Neq k i) = (tt, (tt, tt))
ending_within (Const k) = (tt, tt)
ending_within (Clash k) = (tt, tt)
ending_within (Pred i j ks) = (tt, (tt, counts_within ks))
ending_within (Zero k) = (tt, tt)
ending_within (Gcd k) = (tt, tt)

parts_within : (xs : List Scaled) → AllByRecursion (λ x. within x.factor ≡ true) xs → AreValuesWithin (flat_map part_numbers xs)
parts_within [] a = tt
parts_within (x ∷ xs) a = (a.0, (tt, parts_within xs a.1))

sum_within : (d : ℤ) (xs : List Scaled) → AreFactorsWithin d xs → AreValuesWithin (sum_numbers d xs)
sum_within d xs a = (a.0, parts_within xs a.1)

-- ---- terms that are built of names
module _ (sig : Signature) (ts : List Term) (names : (t : Term) → Contains ts t → IsLowestTerm t) where
  two_lowest : (h : Head) (ss : List Sort) (u s t : Term) → u ≡ Apply h ss (s ∷ t ∷ []) → IsLowestTerm s → IsLowestTerm t → IsLowestTerm u
  two_lowest h ss u s t e a b = subst IsLowestTerm (sym e) (apply_lowest h ss (s ∷ t ∷ []) (a, (b, tt)))

  built_lowest : (u : Term) → IsBuilt sig ts u → IsLowestTerm u
  built_lowest u (of_name _ i) = names u i
  built_lowest u (of_number _ real z e k) = subst IsLowestTerm (sym e) (whole_lowest z real)
  built_lowest u (of_product _ real z t e i) = two_lowest (cond real (head.Real op.Mul) (head.Int op.Mul)) [] u (numeral real z) t e (whole_lowest z real) (names t i)
  built_lowest u (of_sum _ real s t e a b) = two_lowest (cond real (head.Real op.Add) (head.Int op.Add)) [] u s t e (built_lowest s a) (built_lowest t b)
  built_lowest u (of_symbol _ k ss s t e ac o a b) = two_lowest (head.Symbol k) ss u s t e (built_lowest s a) (built_lowest t b)
  built_lowest u (of_unplain _ h ss s t e some a b) = two_lowest h ss u s t e (built_lowest s a) (built_lowest t b)

  sides_within : (s t : Term) → IsBuilt sig ts s → IsBuilt sig ts t → (ns : List Number) → AreValuesWithin ns → AreValuesWithin (sides_numbers s t ++ ns)
  sides_within s t a b ns r =
      all_append IsValueWithin (sides_numbers s t) ns (all_append IsValueWithin (term_numbers s) (term_numbers t) (built_lowest s a) (built_lowest t b)) r

  two_within : (s t : Term) → IsBuilt sig ts s → IsBuilt sig ts t → AreValuesWithin (sides_numbers s t)
  two_within s t a b = all_append IsValueWithin (term_numbers s) (term_numbers t) (built_lowest s a) (built_lowest t b)

  derived_within : (l : EqLine) → IsBuiltLine sig ts l → AreValuesWithin (derived_numbers l)
  derived_within (EqHyp s t i) b = sides_within s t b.left b.right (count i ∷ []) (tt, tt)
  derived_within (EqRefl s t) b = two_within s t b.left b.right
  derived_within (EqSym s t k) b = sides_within s t b.left b.right (count k ∷ []) (tt, tt)
  derived_within (EqTrans s t j k) b = sides_within s t b.left b.right (count j ∷ count k ∷ []) (tt, (tt, tt))
  derived_within (EqCong s t ks) b = sides_within s t b.left b.right (counts ks) (counts_within ks)
  derived_within (EqAc s t) b = two_within s t b.left b.right
  derived_within (EqLin s t d xs) b = sides_within s t b.left b.right (sum_numbers d xs) (sum_within d xs b.factors)
  derived_within (EqField s t) b = two_within s t b.left b.right
  derived_within (EqFields s t ks) b = sides_within s t b.left b.right (counts ks) (counts_within ks)
  derived_within (LeHyp s t i) b = sides_within s t b.left b.right (count i ∷ []) (tt, tt)
  derived_within (LtHyp s t i) b = sides_within s t b.left b.right (count i ∷ []) (tt, tt)
  derived_within (LeSum s t d xs) b = sides_within s t b.left b.right (sum_numbers d xs) (sum_within d xs b.factors)
  derived_within (LtSum s t d xs) b = sides_within s t b.left b.right (sum_numbers d xs) (sum_within d xs b.factors)
  derived_within (LeRound s t k) b = sides_within s t b.left b.right (count k ∷ []) (tt, tt)

  each_within : (ls : List EqLine) → AllByRecursion (IsBuiltLine sig ts) ls → AreValuesWithin (flat_map derived_numbers ls)
  each_within [] a = tt
  each_within (l ∷ ls) a = all_append IsValueWithin (derived_numbers l) (flat_map derived_numbers ls) (derived_within l a.0) (each_within ls a.1)

-- ---- lines
abbrev pub IsFineLine : ClauseLine → Type 0
IsFineLine l = AreValuesWithin (line_numbers l) × (no_negations_in l ≡ true)

module _ (s : Stored) (names : (t : Term) → Contains (terms_in s) t → IsLowestTerm t) (fs : List Formula) (fine : AllByRecursion IsFine fs) where
  formula_fine : (f : Formula) → Contains fs f → IsFine f
  formula_fine f h = all_contained IsFine fs f fine h

  literals_fine : (c : Clause) → AllByRecursion (λ (l : Lit). Contains fs l.formula) c → AllByRecursion (λ (l : Lit). IsFine l.formula) c
  literals_fine c a = all_weaker (λ (l : Lit). Contains fs l.formula) (λ (l : Lit). IsFine l.formula) (λ l h. formula_fine l.formula h) c a

  block_fine : (b : BlockOf) → IsBlockOver s fs b → IsFineLine (Block b)
  block_fine b i =
      let hs = literals_fine b.deriv.hyps i.hyps in (
        all_append IsValueWithin (flat_map literal_numbers b.deriv.hyps) (flat_map derived_numbers b.deriv.lines ++ ending_numbers b.ending) (values_of b.deriv.hyps hs)
            (all_append IsValueWithin (flat_map derived_numbers b.deriv.lines) (ending_numbers b.ending) (each_within s.signature (terms_in s) names b.deriv.lines i.lines) (ending_within b.ending)),
        signs_of b.deriv.hyps hs,
      )

  pub over_fine : (l : ClauseLine) → IsLineOver s fs l → IsFineLine l
  over_fine (Def r f) i = ((tt, (formula_fine f i).0), refl)
  over_fine (Block b) i = block_fine b i
  over_fine (Rup c ks) i =
      let ls = literals_fine c i in
      (all_append IsValueWithin (flat_map literal_numbers c) (counts ks) (values_of c ls) (counts_within ks), signs_of c ls)
  over_fine (Hyp k ss) i = absurd i
  over_fine Goal i = absurd i
  over_fine (Inst f ts) i = absurd i
  over_fine (Fresh f m) i = absurd i
  over_fine (Exh t) i = absurd i
  over_fine (Tri u t) i = absurd i
