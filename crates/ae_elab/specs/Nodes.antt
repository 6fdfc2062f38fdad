-- Typed trees that stand in one list: what each entry is, told from the entries before it.
use Rattle.std.specs.Prelude.{ℕ, List, [], ◌∷◌, ◌++◌, ◌≡◌, map, Option, Some, None, slice_get}
use Rattle.ae_elab.specs.declared.nodes.Node.{Node}
use Rattle.ae_elab.specs.declared.nodes.Node.TheVariants as node
use Rattle.ae_elab.specs.declared.nodes.Relation.{Relation}
use Rattle.ae_elab.specs.declared.nodes.Relation.TheVariants.{Equal, Unequal, Less, AtMost, Greater, AtLeast}
use Rattle.ae_elab.specs.declared.nodes.Connective.{Connective}
use Rattle.ae_elab.specs.declared.nodes.Connective.TheVariants.{Conjunction, Disjunction, Exclusion, Equivalence, Implication}
use Rattle.ae_elab.specs.declared.nodes.Pattern.{Pattern}
use Rattle.ae_elab.specs.Trees as tree
use Rattle.ae_elab.specs.Trees.{Tree, Trees, Patterns, Claim, trees}
use Rattle.ae_elab.specs.Rules.{no_tree}

-- what stands at a place: a term or a formula
pub data Entry : Type 0 where
  a_tree : (t : Tree) → Entry
  a_claim : (f : Claim) → Entry

abbrev pub tree_in : Option Entry → Tree
tree_in (Some (a_tree t)) = t
tree_in (Some (a_claim f)) = no_tree
tree_in None = no_tree

abbrev pub claim_in : Option Entry → Claim
claim_in (Some (a_claim f)) = f
claim_in (Some (a_tree t)) = tree.falsity
claim_in None = tree.falsity

-- the term, or the formula, at a place; another one where there is none
abbrev pub tree_at : List Entry → ℕ → Tree
tree_at es n = tree_in (slice_get es n)

abbrev pub claim_at : List Entry → ℕ → Claim
claim_at es n = claim_in (slice_get es n)

-- this term, or this formula, stands at the place
abbrev pub IsTree : List Entry → ℕ → Tree → Type 0
IsTree es n t = slice_get es n ≡ Some (a_tree t)

abbrev pub IsClaim : List Entry → ℕ → Claim → Type 0
IsClaim es n f = slice_get es n ≡ Some (a_claim f)

-- these terms stand at the places
abbrev pub AreTrees : List Entry → List ℕ → Trees → Type 0
AreTrees es [] tree.none = Unit {0}
AreTrees es (n ∷ ns) (tree.more t ts) = IsTree es n t × AreTrees es ns ts
AreTrees es [] (tree.more t ts) = ⊥
AreTrees es (n ∷ ns) tree.none = ⊥

abbrev pub trees_at : List Entry → List ℕ → Trees
trees_at es ns = trees (map (tree_at es) ns)

abbrev pub patterns_at : List Entry → List Pattern → Patterns
patterns_at es [] = tree.no_pattern
patterns_at es (p ∷ ps) = tree.and_pattern p.place (trees_at es p.terms) (patterns_at es ps)

abbrev pub relation_of : Relation → tree.Relation
relation_of Equal = tree.equal
relation_of Unequal = tree.unequal
relation_of Less = tree.less
relation_of AtMost = tree.at_most
relation_of Greater = tree.greater
relation_of AtLeast = tree.at_least

abbrev pub join_of : Connective → Claim → Claim → Claim
join_of Conjunction = tree.conjunction
join_of Disjunction = tree.disjunction
join_of Exclusion = tree.exclusion
join_of Equivalence = tree.equivalence
join_of Implication = tree.implication

-- what a node is behind these entries
abbrev pub entry_of : List Entry → Node → Entry
entry_of es (node.Variable x) = a_tree (tree.variable x)
entry_of es (node.Numeral a b r) = a_tree (tree.numeral a b r)
entry_of es (node.Apply h ss us) = a_tree (tree.apply h ss (trees_at es us))
entry_of es (node.Operation o s us) = a_tree (tree.operation o s (trees_at es us))
entry_of es (node.Build of ss n ps us) = a_tree (tree.build of ss n ps (trees_at es us))
entry_of es (node.Update of ss n b ps us) = a_tree (tree.update of ss n (tree_at es b) ps (trees_at es us))
entry_of es (node.Choice c a b) = a_tree (tree.choice (claim_at es c) (tree_at es a) (tree_at es b))
entry_of es node.Truth = a_claim tree.truth
entry_of es node.Falsity = a_claim tree.falsity
entry_of es (node.Relation r a b) = a_claim (tree.relation (relation_of r) (tree_at es a) (tree_at es b))
entry_of es (node.Predicate k ss us) = a_claim (tree.predicate k ss (trees_at es us))
entry_of es (node.Distinct us) = a_claim (tree.distinct (trees_at es us))
entry_of es (node.Holds t) = a_claim (tree.claim_of (tree_at es t))
entry_of es (node.Negation a) = a_claim (tree.negation (claim_at es a))
entry_of es (node.Joined c a b) = a_claim (join_of c (claim_at es a) (claim_at es b))
entry_of es (node.Conditional c a b) = a_claim (tree.conditional (claim_at es c) (claim_at es a) (claim_at es b))
entry_of es (node.Quantified q xs ss ps f) = a_claim (tree.quantified q xs ss (patterns_at es ps) (claim_at es f))

-- the entries of nodes in order, behind those that are there
abbrev pub entries_after : List Entry → List Node → List Entry
entries_after es [] = es
entries_after es (n ∷ ns) = entries_after (es ++ entry_of es n ∷ []) ns

abbrev pub entries_of : List Node → List Entry
entries_of ns = entries_after [] ns
