-- The formulas of the demo's goals have no quantifier, no inequality and no type variable: whatever sorts are put in them they stay, and they are closed.
use Rattle.std.proofs.Common.{ℕ, Bool, true, ◌&&◌, List, [], ◌∷◌, ◌≡◌, map, sym, ap, ◌∙◌}
use Rattle.std.specs.Prelude.{pos, Option}
use Rattle.ae_base.specs.Options.{all_known, ◌>>=◌}
use Rattle.ae_core.proofs.Recursion.{fold_eq, fold_not, fold_or}
use Rattle.ae_core.proofs.SortLaws.{formula_in_eq, formula_in_not, formula_in_or, sort_in_apply, sort_in_num}
use Rattle.ae_core.specs.Sorts.{formula_in, head_sort, same_known, sort_in}
use Rattle.ae_core.specs.declared.formulas.Formula.{Formula, Eq, Not, Or}
use Rattle.ae_core.specs.declared.problems.Signature.{Signature}
use Rattle.ae_core.specs.declared.terms.Head.{Head}
use Rattle.ae_core.specs.declared.terms.Head.TheVariants as head
use Rattle.ae_core.specs.declared.terms.Op.TheVariants as op
use Rattle.ae_core.specs.declared.terms.Sort.{Sort}
use Rattle.ae_core.specs.declared.terms.Term.{Term, Num, Apply}
use Rattle.ae_elab.specs.Numbering.{with_sorts, with_sorts_term}
use Rattle.ae_elab.proofs.NumberRules.{with_apply, with_eq, with_not, with_num, with_or}
use Rattle.ae_journal.specs.Ground.{is_simple, simple_step}
use Rattle.ae_demo_texts.proofs.Elaborated.{argument_term, chain_formula, equation_formula, side_term}
use Rattle.ae_demo_texts.proofs.Phrases.{Argument, named, plus, Side, alone, one, two, Equation}

-- ---- sorts that are put change nothing
module _ (r : Sort → Sort) where
  argument_kept : (u : Argument) → with_sorts_term r (argument_term u) ≡ argument_term u
  argument_kept (named w k) = with_apply r (head.Symbol k) [] []
  argument_kept (plus w k m) =
      with_apply r (head.Real op.Add) [] (Apply (head.Symbol k) [] [] ∷ Num (pos m) (pos 1) true ∷ [])
      ∙ (λ i. Apply (head.Real op.Add) [] (with_apply r (head.Symbol k) [] [] i ∷ with_num r (pos m) (pos 1) true i ∷ []))

  side_kept : (s : Side) → with_sorts_term r (side_term s) ≡ side_term s
  side_kept (alone u) = argument_kept u
  side_kept (one f k u) = with_apply r (head.Symbol k) [] (argument_term u ∷ []) ∙ (λ i. Apply (head.Symbol k) [] (argument_kept u i ∷ []))
  side_kept (two f k u v) = with_apply r (head.Symbol k) [] (argument_term u ∷ argument_term v ∷ []) ∙ (λ i. Apply (head.Symbol k) [] (argument_kept u i ∷ argument_kept v i ∷ []))

  equation_kept : (e : Equation) → with_sorts r (equation_formula e) ≡ equation_formula e
  equation_kept e = with_eq r (side_term e.left) (side_term e.right) ∙ (λ i. Eq (side_kept e.left i) (side_kept e.right i))

  pub chain_kept : (hs : List Equation) (c : Equation) → with_sorts r (chain_formula hs c) ≡ chain_formula hs c
  chain_kept [] c = equation_kept c
  chain_kept (h ∷ hs) c =
      with_or r (Not (equation_formula h)) (chain_formula hs c) ∙ (λ i. Or ((with_not r (equation_formula h) ∙ ap Not (equation_kept h)) i) (chain_kept hs c i))

-- ---- no quantifier and no inequality
simple_eq : (a b : Term) → is_simple (Eq a b) ≡ true
unfolding is_simple
simple_eq = fold_eq Bool (Unit {0}) simple_step (λ q. tt)

simple_not : (a : Formula) → is_simple (Not a) ≡ is_simple a
unfolding is_simple
simple_not = fold_not Bool (Unit {0}) simple_step (λ q. tt)

simple_or : (a b : Formula) → is_simple (Or a b) ≡ is_simple a && is_simple b
unfolding is_simple
simple_or = fold_or Bool (Unit {0}) simple_step (λ q. tt)

pub simple_chain : (hs : List Equation) (c : Equation) → is_simple (chain_formula hs c) ≡ true
simple_chain [] c = simple_eq (side_term c.left) (side_term c.right)
simple_chain (h ∷ hs) c =
    simple_or (Not (equation_formula h)) (chain_formula hs c)
    ∙ (λ i. (simple_not (equation_formula h) ∙ simple_eq (side_term h.left) (side_term h.right)) i && simple_chain hs c i)

-- ---- which type variables may stand makes no difference
module _ (sig : Signature) (may be : Sort → Bool) where
  abbrev in_may : Term → Option Sort
  in_may = sort_in sig may []

  abbrev in_be : Term → Option Sort
  in_be = sort_in sig be []

  -- an application without sorts, of terms of which each is sorted alike
  applied : (h : Head) (us : List Term) → map in_may us ≡ map in_be us → in_may (Apply h [] us) ≡ in_be (Apply h [] us)
  applied h us e = sort_in_apply sig may [] h [] us ∙ ap (λ os. all_known os >>= head_sort sig h []) e ∙ sym (sort_in_apply sig be [] h [] us)

  number_alike : (m : ℕ) → in_may (Num (pos m) (pos 1) true) ≡ in_be (Num (pos m) (pos 1) true)
  number_alike m = sort_in_num sig may [] (pos m) (pos 1) true ∙ sym (sort_in_num sig be [] (pos m) (pos 1) true)

  argument_alike : (u : Argument) → in_may (argument_term u) ≡ in_be (argument_term u)
  argument_alike (named w k) = applied (head.Symbol k) [] (λ i. [])
  argument_alike (plus w k m) =
      applied (head.Real op.Add) (Apply (head.Symbol k) [] [] ∷ Num (pos m) (pos 1) true ∷ []) (λ i. applied (head.Symbol k) [] (λ j. []) i ∷ number_alike m i ∷ [])

  side_alike : (s : Side) → in_may (side_term s) ≡ in_be (side_term s)
  side_alike (alone u) = argument_alike u
  side_alike (one f k u) = applied (head.Symbol k) (argument_term u ∷ []) (λ i. argument_alike u i ∷ [])
  side_alike (two f k u v) = applied (head.Symbol k) (argument_term u ∷ argument_term v ∷ []) (λ i. argument_alike u i ∷ argument_alike v i ∷ [])

  equation_alike : (e : Equation) → formula_in sig may [] (equation_formula e) ≡ formula_in sig be [] (equation_formula e)
  equation_alike e =
      formula_in_eq sig may [] (side_term e.left) (side_term e.right)
      ∙ (λ i. same_known (side_alike e.left i) (side_alike e.right i))
      ∙ sym (formula_in_eq sig be [] (side_term e.left) (side_term e.right))

  pub chain_alike : (hs : List Equation) (c : Equation) → formula_in sig may [] (chain_formula hs c) ≡ formula_in sig be [] (chain_formula hs c)
  chain_alike [] c = equation_alike c
  chain_alike (h ∷ hs) c =
      formula_in_or sig may [] (Not (equation_formula h)) (chain_formula hs c)
      ∙ (λ i. (formula_in_not sig may [] (equation_formula h) ∙ equation_alike h ∙ sym (formula_in_not sig be [] (equation_formula h))) i && chain_alike hs c i)
      ∙ sym (formula_in_or sig be [] (Not (equation_formula h)) (chain_formula hs c))
