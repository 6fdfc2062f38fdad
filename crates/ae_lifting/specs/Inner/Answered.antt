-- What is made of two answers, each of which may be an error.
use Rattle.std.specs.Prelude.{◌≡◌, Result, Ok}
use Rattle.ae_core.specs.declared.formulas.Formula.{Formula}
use Rattle.ae_elab.specs.declared.nodes.Relation.{Relation}
use Rattle.ae_elab.specs.Elaboration.{◌|>◌, leaf, branch, either_way, formula_of}
use Rattle.ae_lifting.specs.declared.cases.Cases as held
use Rattle.ae_lifting.specs.declared.cases.Atom.TheVariants as atom
use Rattle.ae_lifting.specs.Lifting.{cases_of, said_of}

-- both answers are values, and these
abbrev pub AreOk : {A B E : Type 0} → Result A E → Result B E → A → B → Type 0
AreOk r s x y = (r ≡ Ok x) × (s ≡ Ok y)

-- the cases of a choice between the values of two answers
abbrev pub IsChoice : {E : Type 0} → Formula → Result held.Cases E → Result held.Cases E → held.Cases → Type 0
IsChoice c r s w = (x : held.Cases) × (y : held.Cases) × AreOk r s x y × (cases_of w ≡ branch c (cases_of x) (cases_of y))

-- `if` between the formulas of two answers
abbrev pub IsEitherWay : {E : Type 0} → Formula → Result Formula E → Result Formula E → Formula → Type 0
IsEitherWay c r s f = (x : Formula) × (y : Formula) × AreOk r s x y × (f ≡ either_way c x y)

-- a relation of the terms of an answer
abbrev pub IsRelation : {E : Type 0} → Result held.Cases E → Relation → Formula → Type 0
IsRelation r k f = (x : held.Cases) × (r ≡ Ok x) × (f ≡ formula_of (cases_of x |> λ us. leaf (said_of (atom.Relation k) us)))
