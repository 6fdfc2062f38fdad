-- What stands at a place of a text beside the declarations: the typed trees, and the bound names that stand for some of them.
use Rattle.std.specs.Prelude.{ℕ, List, [], ◌∷◌, ◌≡◌, Option, Some, None}
use Rattle.ae_elab.specs.declared.environment.Class.{Class}
use Rattle.ae_elab.specs.declared.environment.Class.TheVariants.{Formula, Either, Term}
use Rattle.ae_elab.specs.declared.environment.Meaning.{Meaning}
use Rattle.ae_elab.specs.declared.environment.Meaning.TheVariants as code
use Rattle.ae_elab.specs.declared.environment.Local as code_local
use Rattle.ae_elab.specs.declared.nodes.Node.{Node}
use Rattle.ae_elab.specs.Nodes.{Entry, IsTree, IsClaim, tree_at, claim_at, entries_of}
use Rattle.ae_elab.specs.Scope as scope
use Rattle.ae_elab.specs.Scope.{Local, Named, named, look_up, a_variable, a_term, a_formula, of_class, bound}

pub record Bench : Type 0 where
  pub nodes : List Node
  pub locals : List code_local.Local

abbrev pub class_in : Class → scope.Class
class_in Formula = scope.formula
class_in Either = scope.either
class_in Term = scope.term

-- what a bound name stands for
abbrev pub meaning_in : List Entry → Meaning → scope.Meaning
meaning_in es (code.Variable x s) = a_variable x s
meaning_in es (code.Term c n s) = a_term (class_in c) (tree_at es n) s
meaning_in es (code.Formula n) = a_formula (claim_at es n)
meaning_in es (code.Untyped c) = of_class (class_in c)

-- the tree that it stands for is there
abbrev pub IsMeaning : List Entry → Meaning → Type 0
IsMeaning es (code.Variable x s) = Unit {0}
IsMeaning es (code.Term c n s) = IsTree es n (tree_at es n)
IsMeaning es (code.Formula n) = IsClaim es n (claim_at es n)
IsMeaning es (code.Untyped c) = Unit {0}

-- the typed trees, and the bound names in the order of a scope, the innermost first
abbrev pub entries : Bench → List Entry
entries b = entries_of b.nodes

abbrev pub local_in : List Entry → code_local.Local → Local
local_in es l = named l.name.now (meaning_in es l.meaning)

abbrev pub locals_inside : List Entry → List Local → List code_local.Local → List Local
locals_inside es outer [] = outer
locals_inside es outer (l ∷ ls) = locals_inside es (local_in es l ∷ outer) ls

abbrev pub locals : Bench → List Local
locals b = locals_inside (entries b) [] b.locals

-- what a name stands for among the bound names; another name stands for what it does outside them
abbrev pub FindsAmong : List Entry → List Local → List ℕ → Option Meaning → Type 0
FindsAmong es ls name (Some m) = IsMeaning es m × ((outside : Named) → look_up ls outside name ≡ bound (meaning_in es m))
FindsAmong es ls name None = (outside : Named) → look_up ls outside name ≡ outside

abbrev pub Finds : Bench → List ℕ → Option Meaning → Type 0
Finds b name o = FindsAmong (entries b) (locals b) name o
