-- Predicates' applications that stand for terms in triggers.
use Rattle.std.proofs.Common.{arith, ◌≡◌, ◌∙◌, ℕ, ◌<◌, ◌≤◌, Bool, true, false, List, [], ◌∷◌, ◌++◌, map, length, take, drop, get_or, nat_lt, Some, None, slice_get, refl, sym, ap}
use Rattle.std.proofs.lemmas.Bool.{ltb-true, ltb-false}
use Rattle.std.proofs.lemmas.List.{take-append-drop, length-take-le}
use Rattle.std.proofs.lemmas.Option.{slice_get_past, slice_get_within, slice_get-get_or}
use Rattle.ae_base.proofs.ListFacts.{get_append}
use Rattle.ae_core.specs.declared.terms.Head.{Head}
use Rattle.ae_core.specs.declared.terms.Head.TheVariants as head
use Rattle.ae_core.specs.declared.terms.Sort.{Sort}
use Rattle.ae_elab.specs.declared.nodes.Connective.{Connective}
use Rattle.ae_elab.specs.declared.nodes.Connective.TheVariants as connective
use Rattle.ae_elab.specs.declared.nodes.Node.{Node}
use Rattle.ae_elab.specs.declared.nodes.Node.TheVariants as node
use Rattle.ae_elab.specs.Nodes.{Entry, a_tree, tree_in, tree_at, trees_at, claim_in, claim_at, entry_of, entries_after, entries_of, join_of}
use Rattle.ae_elab.specs.Trees as tree
use Rattle.ae_elab.specs.Trees.{Tree, Trees, Claim, trees, pattern_of, variable, claim_of, claim_of_head, holds}
use Rattle.ae_elab.proofs.NodeLaws.{entries_long}
use Rattle.ae_typing.specs.Inner.Earlier.{earlier}
use Rattle.ae_expressions.proofs.MergeLaws.{claim_there, claim_missing, later_entries}

entries_join : (es : List Entry) (ns ms : List Node) → entries_after es (ns ++ ms) ≡ entries_after (entries_after es ns) ms
entries_join es [] ms = refl
entries_join es (n ∷ ns) ms = entries_join (es ++ entry_of es n ∷ []) ns ms

module _ (ns : List Node) (n : ℕ) (within : n < length ns) where
  abbrev before : List Entry
  before = entries_of (take n ns)

  goes_on : (more : List Entry) × (entries_of ns ≡ before ++ more)
  goes_on =
      let r = later_entries before (drop n ns) in
      (r.0, ap entries_of (sym (take-append-drop n ns)) ∙ entries_join [] (take n ns) (drop n ns) ∙ r.1)

  before_long : length before ≡ n
  before_long = entries_long (take n ns) ∙ length-take-le n ns (omega (arith, within))

  early : (u : ℕ) (b : Bool) → nat_lt u n ≡ b → tree_at before u ≡ tree_at (entries_of ns) (elim b [ true ↦ u | false ↦ length ns ])
  early u true e =
      let d : Entry = a_tree (variable 0) in
      let l : u < length before = omega (arith, ltb-true u n e, before_long) in
      let here = slice_get-get_or before u d l in
      ap tree_in (here ∙ sym (ap (λ es. slice_get es u) goes_on.1 ∙ get_append before goes_on.0 u (get_or before u d) here))
  early u false e =
      let past : length before ≤ u = omega (arith, ltb-false u n e, before_long) in
      let end : length (entries_of ns) ≤ length ns = omega (arith, entries_long ns) in
      ap tree_in (slice_get_past before u past ∙ sym (slice_get_past (entries_of ns) (length ns) end))

  early_trees : (us : List ℕ) → trees_at before us ≡ trees_at (entries_of ns) (map (earlier n (length ns)) us)
  early_trees [] = refl
  early_trees (u ∷ us) =
      ap (λ z. tree.more z (trees_at before us)) (early u (nat_lt u n) refl) ∙ ap (tree.more (tree_at (entries_of ns) (earlier n (length ns) u))) (early_trees us)

pub pattern_there : (ns : List Node) (n k : ℕ) (ss zs : List Sort) (us ws : List ℕ) → slice_get ns n ≡ Some (node.Predicate k ss us) → zs ≡ ss → ws ≡ map (earlier n (length ns)) us
    → entry_of (entries_of ns) (node.Apply (head.Symbol k) zs ws) ≡ a_tree (pattern_of (claim_at (entries_of ns) n))
pattern_there ns n k ss zs us ws h sorts args =
    ap (λ z. a_tree (tree.apply (head.Symbol k) z (trees_at (entries_of ns) ws))) sorts
    ∙ ap (λ z. a_tree (tree.apply (head.Symbol k) ss (trees_at (entries_of ns) z))) args
    ∙ ap (λ z. a_tree (tree.apply (head.Symbol k) ss z)) (sym (early_trees ns n (slice_get_within ns n (node.Predicate k ss us) h) us))
    ∙ ap (λ f. a_tree (pattern_of f)) (sym (claim_there ns n (node.Predicate k ss us) h))

pub pattern_missing : (ns : List Node) (n : ℕ) → slice_get ns n ≡ None → a_tree (variable 0) ≡ a_tree (pattern_of (claim_at (entries_of ns) n))
pattern_missing ns n h = ap (λ f. a_tree (pattern_of f)) (sym (claim_missing ns n h))

-- ---- any other formula stands for a variable
abbrev pub IsNoPredicate : Node → Type 0
IsNoPredicate x = (k : ℕ) (ss : List Sort) (us : List ℕ) → x ≡ node.Predicate k ss us → ⊥

head_pattern : (h : Head) (t : Tree) → pattern_of (claim_of_head h (holds t)) ≡ variable 0
head_pattern (head.Symbol k) t = refl
head_pattern (head.Field k p) t = refl
head_pattern (head.Build k) t = refl
head_pattern (head.Int o) t = refl
head_pattern (head.Real o) t = refl
head_pattern head.True t = refl
head_pattern head.False t = refl
head_pattern head.Void t = refl

term_pattern : (t : Tree) → pattern_of (claim_of t) ≡ variable 0
term_pattern (tree.variable x) = refl
term_pattern (tree.numeral a b r) = refl
term_pattern (tree.apply h ss us) = head_pattern h (tree.apply h ss us)
term_pattern (tree.operation o s us) = refl
term_pattern (tree.build k ss n ps us) = refl
term_pattern (tree.update k ss n b ps us) = refl
term_pattern (tree.choice c s t) = refl

joined_pattern : (j : Connective) (a b : Claim) → pattern_of (join_of j a b) ≡ variable 0
joined_pattern connective.Conjunction a b = refl
joined_pattern connective.Disjunction a b = refl
joined_pattern connective.Exclusion a b = refl
joined_pattern connective.Equivalence a b = refl
joined_pattern connective.Implication a b = refl

node_pattern : (es : List Entry) (x : Node) → IsNoPredicate x → pattern_of (claim_in (Some (entry_of es x))) ≡ variable 0
node_pattern es (node.Variable x) h = refl
node_pattern es (node.Numeral a b r) h = refl
node_pattern es (node.Apply k ss us) h = refl
node_pattern es (node.Operation o s us) h = refl
node_pattern es (node.Build k ss n ps us) h = refl
node_pattern es (node.Update k ss n b ps us) h = refl
node_pattern es (node.Choice c a b) h = refl
node_pattern es node.Truth h = refl
node_pattern es node.Falsity h = refl
node_pattern es (node.Relation r a b) h = refl
node_pattern es (node.Predicate k ss us) h = absurd (h k ss us refl)
node_pattern es (node.Distinct us) h = refl
node_pattern es (node.Holds t) h = term_pattern _
node_pattern es (node.Negation a) h = refl
node_pattern es (node.Joined j a b) h = joined_pattern j _ _
node_pattern es (node.Conditional c a b) h = refl
node_pattern es (node.Quantified r ys ss ps f) h = refl

pub pattern_other : (ns : List Node) (n : ℕ) (x : Node) → slice_get ns n ≡ Some x → IsNoPredicate x → a_tree (variable 0) ≡ a_tree (pattern_of (claim_at (entries_of ns) n))
pattern_other ns n x h other = ap a_tree (sym (ap pattern_of (claim_there ns n x h) ∙ node_pattern (entries_of (take n ns)) x other))
