-- Terms that hang on conditions, as they are held, and what an atom says of its terms.
use Rattle.std.specs.Prelude.{ℕ, List, [], ◌∷◌}
use Rattle.ae_core.specs.declared.terms.Sort.{Sort}
use Rattle.ae_core.specs.declared.terms.Term.{Term}
use Rattle.ae_core.specs.declared.formulas.Formula.{Formula, True, Pred, Eq}
use Rattle.ae_lifting.specs.declared.cases.Cases as held
use Rattle.ae_lifting.specs.declared.cases.Cases.{Cases-F, fold-Cases}
use Rattle.ae_lifting.specs.declared.cases.Cases.TheOpen as layer
use Rattle.ae_lifting.specs.declared.cases.Atom.{Atom}
use Rattle.ae_lifting.specs.declared.cases.Atom.TheVariants.{Relation, Predicate, Distinct, Holds}
use Rattle.ae_elab.specs.Elaboration.{Cases, leaf, branch, related, true_term, record_of, differences, all_true}
use Rattle.ae_elab.specs.Nodes.{relation_of}

abbrev pub cases_step : Cases-F (Cases (List Term)) → Cases (List Term)
cases_step (layer.Leaf us) = leaf us
cases_step (layer.Branch c a b) = branch c a b

-- the cases that are held
unfoldable pub cases_of : held.Cases → Cases (List Term)
cases_of = fold-Cases (Cases (List Term)) cases_step

-- an atom of terms without `if`. A relation is of two terms, and one term stands for a formula: of other numbers of them
-- nothing is said.
abbrev pub said_of : Atom → List Term → Formula
said_of (Relation r) (s ∷ t ∷ []) = related (relation_of r) s t
said_of (Relation r) us = True
said_of (Predicate p ss) us = Pred p ss us
said_of Distinct us = all_true (differences us)
said_of Holds (u ∷ []) = Eq u true_term
said_of Holds us = True

-- a record of which the fields at these places are changed: the first term is the record, and the others are their values
abbrev pub changed_in : ℕ → List Sort → ℕ → List ℕ → List Term → Term
changed_in of ss count ps (b ∷ us) = record_of of ss count b ps us
changed_in of ss count ps [] = true_term
