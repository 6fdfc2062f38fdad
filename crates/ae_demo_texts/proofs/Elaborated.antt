-- The formulas of the demo's goals: what their claims are, and how large they are.
use Rattle.std.proofs.Common.{ℕ, Bool, true, List, [], ◌∷◌, ◌++◌, ◌≡◌, map, refl, ap, ◌∙◌}
use Rattle.std.specs.Prelude.{pos, ℤ}
use Rattle.ae_core.proofs.Recursion.{fold_apply, fold_eq, fold_num}
use Rattle.ae_core.specs.declared.terms.Head.{Head}
use Rattle.ae_core.specs.declared.formulas.Formula.{Formula, Eq, Not, Or}
use Rattle.ae_core.specs.declared.terms.Head.TheVariants as head
use Rattle.ae_core.specs.declared.terms.Op.TheVariants as op
use Rattle.ae_core.specs.declared.terms.Sort.{Sort, Real, out-Sort}
use Rattle.ae_core.specs.declared.terms.Sort.TheVariants.{outs-Real}
use Rattle.ae_core.specs.declared.terms.Term.{Term, Num, Apply}
use Rattle.ae_elab.specs.Elaboration.{Cases, leaf, ◌|>◌, formula_of, head_on, related, term_cases, formula_in}
use Rattle.ae_elab.specs.Sizes.{Size, round, sort_size, term_size, term_size_step, formula_size, formula_size_step, quant_size_step}
use Rattle.ae_elab.specs.Trees.{equal}
use Rattle.ae_elab.proofs.PutLaws.{put_real}
use Rattle.ae_elab.proofs.WeightLaws.{size_not, size_or}
use Rattle.ae_demo_texts.proofs.Phrases.{Argument, named, plus, Side, alone, one, two, Equation}
use Rattle.ae_demo_texts.proofs.Parses.{argument_tree, side_tree, equation_claim, chain_claim}

-- ---- terms
abbrev pub argument_term : Argument → Term
argument_term (named w k) = Apply (head.Symbol k) [] []
argument_term (plus w k m) = Apply (head.Real op.Add) [] (Apply (head.Symbol k) [] [] ∷ Num (pos m) (pos 1) true ∷ [])

abbrev pub side_term : Side → Term
side_term (alone u) = argument_term u
side_term (one f k u) = Apply (head.Symbol k) [] (argument_term u ∷ [])
side_term (two f k u v) = Apply (head.Symbol k) [] (argument_term u ∷ argument_term v ∷ [])

module _ (m : ℕ → Sort) where
  argument_cases : (u : Argument) → term_cases m [] (argument_tree u) ≡ leaf (argument_term u)
  argument_cases (named w k) = refl
  argument_cases (plus w k n) = ap (λ o. leaf (Apply (head_on op.Add o) [] (Apply (head.Symbol k) [] [] ∷ Num (pos n) (pos 1) true ∷ []))) (ap out-Sort (put_real m) ∙ outs-Real)

  side_cases : (s : Side) → term_cases m [] (side_tree s) ≡ leaf (side_term s)
  side_cases (alone u) = argument_cases u
  side_cases (one f k u) = ap (λ (c : Cases Term). (c |> (λ v. leaf (v ∷ []))) |> (λ vs. leaf (Apply (head.Symbol k) [] vs))) (argument_cases u)
  side_cases (two f k u v) =
      ap (λ (c : Cases Term). (c |> (λ x. (term_cases m [] (argument_tree v) |> (λ y. leaf (y ∷ []))) |> (λ ys. leaf (x ∷ ys)))) |> (λ vs. leaf (Apply (head.Symbol k) [] vs))) (argument_cases u)
      ∙ ap (λ (c : Cases Term). ((c |> (λ y. leaf (y ∷ []))) |> (λ ys. leaf (argument_term u ∷ ys))) |> (λ vs. leaf (Apply (head.Symbol k) [] vs))) (argument_cases v)

-- ---- formulas
abbrev pub equation_formula : Equation → Formula
equation_formula e = Eq (side_term e.left) (side_term e.right)

abbrev pub chain_formula : List Equation → Equation → Formula
chain_formula [] c = equation_formula c
chain_formula (h ∷ hs) c = Or (Not (equation_formula h)) (chain_formula hs c)

module _ (m : ℕ → Sort) where
  equation_in : (e : Equation) → formula_in m [] (equation_claim e) ≡ equation_formula e
  equation_in e =
      ap (λ (c : Cases Term). formula_of (c |> (λ u. term_cases m [] (side_tree e.right) |> (λ v. leaf (related equal u v))))) (side_cases m e.left)
      ∙ ap (λ (c : Cases Term). formula_of (c |> (λ v. leaf (related equal (side_term e.left) v)))) (side_cases m e.right)

  pub chain_in : (hs : List Equation) (c : Equation) → formula_in m [] (chain_claim hs c) ≡ chain_formula hs c
  chain_in [] c = equation_in c
  chain_in (h ∷ hs) c = λ i. Or (Not (equation_in h i)) (chain_in hs c i)

-- ---- sizes
size_num : (a b : ℤ) (r : Bool) → term_size (Num a b r) ≡ round []
unfolding term_size
size_num = fold_num Size term_size_step

size_apply : (h : Head) (ss : List Sort) (us : List Term) → term_size (Apply h ss us) ≡ round (map sort_size ss ++ map term_size us)
unfolding term_size
size_apply = fold_apply Size term_size_step

size_eq : (a b : Term) → formula_size (Eq a b) ≡ round (term_size a ∷ term_size b ∷ [])
unfolding formula_size
size_eq = fold_eq Size Size formula_size_step quant_size_step

abbrev pub argument_size : Argument → Size
argument_size (named w k) = round []
argument_size (plus w k m) = round (round [] ∷ round [] ∷ [])

abbrev pub side_size : Side → Size
side_size (alone u) = argument_size u
side_size (one f k u) = round (argument_size u ∷ [])
side_size (two f k u v) = round (argument_size u ∷ argument_size v ∷ [])

abbrev pub chain_size : List Equation → Equation → Size
chain_size [] c = round (side_size c.left ∷ side_size c.right ∷ [])
chain_size (h ∷ hs) c = round (round (round (side_size h.left ∷ side_size h.right ∷ []) ∷ []) ∷ chain_size hs c ∷ [])

argument_sized : (u : Argument) → term_size (argument_term u) ≡ argument_size u
argument_sized (named w k) = size_apply (head.Symbol k) [] []
argument_sized (plus w k m) =
    size_apply (head.Real op.Add) [] (Apply (head.Symbol k) [] [] ∷ Num (pos m) (pos 1) true ∷ [])
    ∙ (λ i. round (size_apply (head.Symbol k) [] [] i ∷ size_num (pos m) (pos 1) true i ∷ []))

side_sized : (s : Side) → term_size (side_term s) ≡ side_size s
side_sized (alone u) = argument_sized u
side_sized (one f k u) = size_apply (head.Symbol k) [] (argument_term u ∷ []) ∙ (λ i. round (argument_sized u i ∷ []))
side_sized (two f k u v) = size_apply (head.Symbol k) [] (argument_term u ∷ argument_term v ∷ []) ∙ (λ i. round (argument_sized u i ∷ argument_sized v i ∷ []))

equation_sized : (e : Equation) → formula_size (equation_formula e) ≡ round (side_size e.left ∷ side_size e.right ∷ [])
equation_sized e = size_eq (side_term e.left) (side_term e.right) ∙ (λ i. round (side_sized e.left i ∷ side_sized e.right i ∷ []))

pub chain_sized : (hs : List Equation) (c : Equation) → formula_size (chain_formula hs c) ≡ chain_size hs c
chain_sized [] c = equation_sized c
chain_sized (h ∷ hs) c =
    size_or (Not (equation_formula h)) (chain_formula hs c)
    ∙ (λ i. round ((size_not (equation_formula h) ∙ ap (λ z. round (z ∷ [])) (equation_sized h)) i ∷ chain_sized hs c i ∷ []))
