-- Nodes behind others, and what stands at their places.
use Rattle.std.proofs.Common.{arith, ◌≡◌, ◌∙◌, ◌+◌, ℕ, List, [], ◌∷◌, ◌++◌, length, length-append, Some, refl, sym, ap, slice_get}
use Rattle.std.proofs.lemmas.List.{append_assoc, append-nil}
use Rattle.ae_base.proofs.ListFacts.{get_append, get_seam}
use Rattle.ae_elab.specs.declared.nodes.Node.{Node}
use Rattle.ae_elab.specs.Nodes.{Entry, a_tree, a_claim, tree_in, claim_in, tree_at, claim_at, IsTree, IsClaim, AreTrees, trees_at, entry_of, entries_after, entries_of}
use Rattle.ae_elab.specs.Trees as tree
use Rattle.ae_elab.specs.Trees.{Tree, Trees, Claim, trees, more}
use Rattle.ae_elab.specs.Typings.{Begins}

-- ---- nodes behind others
pub begins_itself : (es : List Entry) → Begins es es
begins_itself es = ([], sym (append-nil es))

pub begins_on : (es fs gs : List Entry) → Begins es fs → Begins fs gs → Begins es gs
begins_on es fs gs a b = (a.0 ++ b.0, b.1 ∙ ap (λ z. z ++ b.0) a.1 ∙ append_assoc es a.0 b.0)

-- ---- what stands at a place
module _ (es fs : List Entry) (b : Begins es fs) where
  later : (n : ℕ) (e : Entry) → slice_get es n ≡ Some e → slice_get fs n ≡ Some e
  later n e h = ap (λ z. slice_get z n) b.1 ∙ get_append es b.0 n e h

  pub later_tree : (n : ℕ) (t : Tree) → IsTree es n t → IsTree fs n t
  later_tree n t h = later n (a_tree t) h

  pub later_claim : (n : ℕ) (f : Claim) → IsClaim es n f → IsClaim fs n f
  later_claim n f h = later n (a_claim f) h

  pub later_trees : (ns : List ℕ) (ts : Trees) → AreTrees es ns ts → AreTrees fs ns ts
  later_trees [] tree.none h = tt
  later_trees (n ∷ ns) (more t ts) h = (later_tree n t h.0, later_trees ns ts h.1)
  later_trees [] (more t ts) h = absurd h
  later_trees (n ∷ ns) tree.none h = absurd h

pub tree_is : (es : List Entry) (n : ℕ) (t : Tree) → IsTree es n t → tree_at es n ≡ t
tree_is es n t h = ap tree_in h

pub claim_is : (es : List Entry) (n : ℕ) (f : Claim) → IsClaim es n f → claim_at es n ≡ f
claim_is es n f h = ap claim_in h

pub trees_are : (es : List Entry) (ns : List ℕ) (ts : Trees) → AreTrees es ns ts → trees_at es ns ≡ ts
trees_are es [] tree.none h = refl
trees_are es (n ∷ ns) (more t ts) h = ap (λ z. more z (trees_at es ns)) (tree_is es n t h.0) ∙ ap (more t) (trees_are es ns ts h.1)
trees_are es [] (more t ts) h = absurd h
trees_are es (n ∷ ns) tree.none h = absurd h

-- ---- one node more
pub entries_more : (es : List Entry) (ns : List Node) (n : Node) → entries_after es (ns ++ n ∷ []) ≡ entries_after es ns ++ entry_of (entries_after es ns) n ∷ []
entries_more es [] n = refl
entries_more es (m ∷ ns) n = entries_more (es ++ entry_of es m ∷ []) ns n

entries_longer : (es : List Entry) (ns : List Node) → length (entries_after es ns) ≡ length es + length ns
entries_longer es [] = omega arith
entries_longer es (m ∷ ns) = entries_longer (es ++ entry_of es m ∷ []) ns ∙ (let e : length (es ++ entry_of es m ∷ []) ≡ length es + 1 = length-append es (entry_of es m ∷ []) in omega (arith, e))

pub entries_long : (ns : List Node) → length (entries_of ns) ≡ length ns
entries_long ns = entries_longer [] ns ∙ (let e : 0 + length ns ≡ length ns = omega arith in e)

-- the new node stands at the end
pub pushed : (es : List Entry) (e : Entry) → slice_get (es ++ e ∷ []) (length es) ≡ Some e
pushed es e = get_seam es [] e

-- ---- one term, and two
module _ (es : List Entry) (us vs : List ℕ) (m : ℕ) (t : Tree) (none_yet : us ≡ []) (first : vs ≡ us ++ m ∷ []) (a : IsTree es m t) where
  pub one_tree : trees_at es vs ≡ more t tree.none
  one_tree = ap (trees_at es) (first ∙ ap (λ z. z ++ m ∷ []) none_yet) ∙ ap (λ z. more z tree.none) (tree_is es m t a)

pub two_trees : (es : List Entry) (us vs ws : List ℕ) (m n : ℕ) (t u : Tree) → us ≡ [] → vs ≡ us ++ m ∷ [] → ws ≡ vs ++ n ∷ [] → IsTree es m t → IsTree es n u
    → trees_at es ws ≡ more t (more u tree.none)
two_trees es us vs ws m n t u none_yet first second a b =
    ap (trees_at es) (second ∙ ap (λ z. z ++ n ∷ []) (first ∙ ap (λ z. z ++ m ∷ []) none_yet))
    ∙ ap (λ z. more z (more (tree_at es n) tree.none)) (tree_is es m t a) ∙ ap (λ z. more t (more z tree.none)) (tree_is es n u b)
