-- The structural orders of sorts, terms and formulas: by variant, then by the parts from left to right.
-- Each variant's rank stands before its parts below; a smaller rank comes first. Numbers go by size, `false` before `true`.
-- Lists go by their first elements that differ; where one list begins another, the shorter comes first.
use Rattle.std.specs.Prelude.{ℕ, ℤ, Bool, cond, List, [], ◌∷◌, map}
use Rattle.std.specs.declared.cmp.Ordering.{Ordering}
use Rattle.std.specs.declared.cmp.Ordering.TheVariants.{Less, Greater}
use Rattle.std.specs.Ordering.{nat_cmp, int_cmp, ordering_then}
use Rattle.ae_core.specs.declared.terms.Sort.{Sort, Sort-F, fold-Sort}
use Rattle.ae_core.specs.declared.terms.Sort.TheOpen as sort_layer
use Rattle.ae_core.specs.declared.terms.Term.{Term, Term-F, fold-Term}
use Rattle.ae_core.specs.declared.terms.Term.TheOpen as layer
use Rattle.ae_core.specs.declared.terms.Head.{Head}
use Rattle.ae_core.specs.declared.terms.Head.TheVariants as head
use Rattle.ae_core.specs.declared.terms.Op.{Op}
use Rattle.ae_core.specs.declared.terms.Op.TheVariants as op
use Rattle.ae_core.specs.declared.formulas.Formula.{Formula, Formula-F, fold-Formula}
use Rattle.ae_core.specs.declared.formulas.Formula.TheOpen as formula_layer
use Rattle.ae_core.specs.declared.formulas.Quant.{Quant, Quant-F, fold-Quant}
use Rattle.ae_core.specs.declared.formulas.Lit.{Lit}

-- what the orders read of a value: a number, or a first part and the rest
infixr 12 ◌▸◌
pub data Tree : Type 0 where
  number : ℕ → Tree
  whole : ℤ → Tree
  ◌▸◌ : Tree → Tree → Tree

-- a number, a whole number, parts: in this order; of parts the left one decides first
abbrev pub tree_order : Tree → Tree → Ordering
tree_order (number a) (number b) = nat_cmp a b
tree_order (number a) (whole b) = Less
tree_order (number a) (c ▸ d) = Less
tree_order (whole a) (number b) = Greater
tree_order (whole a) (whole b) = int_cmp a b
tree_order (whole a) (c ▸ d) = Less
tree_order (a ▸ b) (number c) = Greater
tree_order (a ▸ b) (whole c) = Greater
tree_order (a ▸ b) (c ▸ d) = ordering_then (tree_order a c) (tree_order b d)

-- a list comes before the lists that it begins
abbrev pub trees : List Tree → Tree
trees [] = number 0
trees (t ∷ ts) = t ▸ trees ts

-- the rank that stands before the parts
abbrev pub rank : Tree → ℕ
rank (number r ▸ t) = r
rank t = 0

-- a variant without parts has this for its parts
abbrev pub none : Tree
none = number 0

abbrev pub flag : Bool → Tree
flag b = number (cond b 1 0)

abbrev pub sort_tree_step : Sort-F Tree → Tree
sort_tree_step (sort_layer.Var i) = number 0 ▸ number i
sort_tree_step (sort_layer.Rigid i) = number 1 ▸ number i
sort_tree_step sort_layer.Int = number 2 ▸ none
sort_tree_step sort_layer.Real = number 3 ▸ none
sort_tree_step sort_layer.Bool = number 4 ▸ none
sort_tree_step sort_layer.Unit = number 5 ▸ none
sort_tree_step (sort_layer.Named h args) = number 6 ▸ number h ▸ trees args

unfoldable pub sort_tree : Sort → Tree
sort_tree = fold-Sort Tree sort_tree_step

abbrev pub op_tree : Op → Tree
op_tree op.Add = number 0
op_tree op.Sub = number 1
op_tree op.Neg = number 2
op_tree op.Mul = number 3
op_tree op.Div = number 4
op_tree op.Mod = number 5

abbrev pub head_tree : Head → Tree
head_tree (head.Symbol n) = number 0 ▸ number n
head_tree (head.Build n) = number 1 ▸ number n
head_tree (head.Field n place) = number 2 ▸ number n ▸ number place
head_tree (head.Int o) = number 3 ▸ op_tree o
head_tree (head.Real o) = number 4 ▸ op_tree o
head_tree head.True = number 5 ▸ none
head_tree head.False = number 6 ▸ none
head_tree head.Void = number 7 ▸ none

abbrev pub term_tree_step : Term-F Tree → Tree
term_tree_step (layer.Bound i) = number 0 ▸ number i
term_tree_step (layer.Num top bottom real) = number 1 ▸ whole top ▸ whole bottom ▸ flag real
term_tree_step (layer.Fresh n s) = number 2 ▸ number n ▸ sort_tree s
term_tree_step (layer.Apply h ss args) = number 3 ▸ head_tree h ▸ trees (map sort_tree ss) ▸ trees args

unfoldable pub term_tree : Term → Tree
term_tree = fold-Term Tree term_tree_step

abbrev pub terms_tree : List Term → Tree
terms_tree ts = trees (map term_tree ts)

abbrev pub formula_tree_step : Formula-F Tree Tree → Tree
formula_tree_step formula_layer.True = number 0 ▸ none
formula_tree_step formula_layer.False = number 1 ▸ none
formula_tree_step (formula_layer.Eq a b) = number 2 ▸ term_tree a ▸ term_tree b
formula_tree_step (formula_layer.Lt a b) = number 3 ▸ term_tree a ▸ term_tree b
formula_tree_step (formula_layer.Le a b) = number 4 ▸ term_tree a ▸ term_tree b
formula_tree_step (formula_layer.Pred p ss args) = number 5 ▸ number p ▸ trees (map sort_tree ss) ▸ terms_tree args
formula_tree_step (formula_layer.Not a) = number 6 ▸ a
formula_tree_step (formula_layer.And a b) = number 7 ▸ a ▸ b
formula_tree_step (formula_layer.Or a b) = number 8 ▸ a ▸ b
formula_tree_step (formula_layer.Xor a b) = number 9 ▸ a ▸ b
formula_tree_step (formula_layer.Iff a b) = number 10 ▸ a ▸ b
formula_tree_step (formula_layer.All q) = number 11 ▸ q
formula_tree_step (formula_layer.Ex q) = number 12 ▸ q

abbrev pub quant_tree_step : Quant-F Tree Tree → Tree
quant_tree_step q = trees (map sort_tree q.sorts) ▸ trees (map terms_tree q.triggers) ▸ q.body

unfoldable pub formula_tree : Formula → Tree
formula_tree = fold-Formula Tree Tree formula_tree_step quant_tree_step

unfoldable pub quant_tree : Quant → Tree
quant_tree = fold-Quant Tree Tree formula_tree_step quant_tree_step

-- ---- the orders
abbrev pub sort_order : Sort → Sort → Ordering
sort_order a b = tree_order (sort_tree a) (sort_tree b)

abbrev pub head_order : Head → Head → Ordering
head_order a b = tree_order (head_tree a) (head_tree b)

abbrev pub term_order : Term → Term → Ordering
term_order a b = tree_order (term_tree a) (term_tree b)

abbrev pub formula_order : Formula → Formula → Ordering
formula_order a b = tree_order (formula_tree a) (formula_tree b)

abbrev pub quant_order : Quant → Quant → Ordering
quant_order a b = tree_order (quant_tree a) (quant_tree b)

-- a literal goes by its formula, then by its sign, the negative one first
abbrev pub lit_order : Lit → Lit → Ordering
lit_order a b = tree_order (formula_tree a.formula ▸ flag a.positive) (formula_tree b.formula ▸ flag b.positive)
