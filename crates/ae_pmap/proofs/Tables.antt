use Rattle.std.proofs.Common.{◌≡◌, ℕ, ◌+◌, ◌<◌, ◌≤◌, List, [], ◌∷◌, ◌++◌, length, zero, suc, get_or, refl, ◌∙◌, subst, max, arith, length-append, inl, inr}
use Rattle.std.specs.List.{fold}
use Rattle.std.proofs.Math.ListN.{get_or-append}
use Rattle.std.proofs.Math.Seq.{get_or-append_seam}
use Rattle.std.proofs.lemmas.List.Sums.{fold_push}
use Rattle.std.proofs.lemmas.Bool.{cases_lt}
use Rattle.ae_pmap.specs.declared.nodes.Node.{Node}
use Rattle.ae_pmap.specs.Trees.{Tree, Leaf, Fork, levels, IsBalanced}
use Rattle.ae_pmap.specs.Nodes.{with_node, trees_of, tree_at}
use Rattle.ae_pmap.specs.Inner.Nodes.{IsSoundNode, IsSound, Keeps}

-- what stands over the two children of a node
abbrev pub fork_of : List Node → Node → Tree
fork_of nodes n = Fork (tree_at nodes n.left) n.key n.value (tree_at nodes n.right)

trees_push : (nodes : List Node) (n : Node) → trees_of (nodes ++ n ∷ []) ≡ with_node (trees_of nodes) n
unfolding trees_of
trees_push nodes n = fold_push with_node (Leaf ∷ []) nodes n

length-fold : (t : List Tree) (nodes : List Node) → length (fold with_node t nodes) ≡ length t + length nodes
length-fold t [] = omega arith
length-fold t (n ∷ ns) = omega (arith, length-fold (with_node t n) ns, length-append t (Fork (get_or t n.left Leaf) n.key n.value (get_or t n.right Leaf) ∷ []))

length-trees : (nodes : List Node) → length (trees_of nodes) ≡ length nodes + 1
unfolding trees_of
length-trees nodes = omega (arith, length-fold (Leaf ∷ []) nodes)

leaf-fold : (t : List Tree) (nodes : List Node) → 0 < length t → get_or (fold with_node t nodes) 0 Leaf ≡ get_or t 0 Leaf
leaf-fold t [] h = refl
leaf-fold t (n ∷ ns) h =
    let e = Fork (get_or t n.left Leaf) n.key n.value (get_or t n.right Leaf) ∷ [] in
    leaf-fold (with_node t n) ns (omega (arith, length-append t e)) ∙ get_or-append t e Leaf 0 h

-- nothing stands at place 0
pub tree_at-zero : (nodes : List Node) → tree_at nodes 0 ≡ Leaf
unfolding tree_at trees_of
tree_at-zero nodes = leaf-fold (Leaf ∷ []) nodes (omega arith)

-- what stood before a node was added
pub tree_kept : (nodes : List Node) (n : Node) (k : ℕ) → k ≤ length nodes → tree_at (nodes ++ n ∷ []) k ≡ tree_at nodes k
unfolding tree_at
tree_kept nodes n k h =
    rw trees_push (get_or-append (trees_of nodes) (Fork (get_or (trees_of nodes) n.left Leaf) n.key n.value (get_or (trees_of nodes) n.right Leaf) ∷ []) Leaf k (omega (arith, length-trees nodes)))

-- what stands at the node that was added
pub tree_new : (nodes : List Node) (n : Node) → tree_at (nodes ++ n ∷ []) (length nodes + 1) ≡ fork_of nodes n
unfolding tree_at
tree_new nodes n =
    rw (trees_push, ← length-trees nodes) (get_or-append_seam (trees_of nodes) (Fork (get_or (trees_of nodes) n.left Leaf) n.key n.value (get_or (trees_of nodes) n.right Leaf)) [] Leaf)

pub keeps_push : (nodes : List Node) (n : Node) → Keeps nodes (nodes ++ n ∷ [])
keeps_push nodes n = record { size = omega (arith, length-append nodes (n ∷ [])); trees = λ k h. tree_kept nodes n k h }

pub keeps_same : (nodes : List Node) → Keeps nodes nodes
keeps_same nodes = record { size = omega arith; trees = λ k h. refl }

pub keeps_then : {a b c : List Node} → Keeps a b → Keeps b c → Keeps a c
keeps_then p q = record { size = omega (arith, p.size, q.size); trees = λ k h. q.trees k (omega (arith, p.size)) ∙ p.trees k h }

-- a tree is no higher than its place, and balanced
pub at_place : (nodes : List Node) (k : ℕ) → IsSound nodes → k ≤ length nodes → (levels (tree_at nodes k) ≤ k) × IsBalanced (tree_at nodes k)
at_place nodes zero s h = rw (tree_at-zero nodes) (omega arith, tt)
at_place nodes (suc k) s h =
    let n = s.each k (record { key = 0; value = 0; left = 0; right = 0; height = 0 }) (omega arith) in
    subst (λ (p : ℕ). (levels (tree_at nodes p) ≤ p) × IsBalanced (tree_at nodes p)) (omega arith) (n.low, n.balanced)

module _ (nodes : List Node) (n : Node) (sound : IsSound nodes) where
  kept_node : (k : ℕ) (m : Node) → k < length nodes → IsSoundNode nodes k m → IsSoundNode (nodes ++ n ∷ []) k m
  kept_node k m h s = record {
    left = s.left;
    right = s.right;
    tree = rw (tree_kept nodes n (k + 1) (omega arith), tree_kept nodes n m.left (omega (arith, s.left)), tree_kept nodes n m.right (omega (arith, s.right))) s.tree;
    height = rw (tree_kept nodes n (k + 1) (omega arith)) s.height;
    low = rw (tree_kept nodes n (k + 1) (omega arith)) s.low;
    balanced = rw (tree_kept nodes n (k + 1) (omega arith)) s.balanced;
  }

  pub sound_push : n.left ≤ length nodes → n.right ≤ length nodes
      → levels (tree_at nodes n.left) ≤ levels (tree_at nodes n.right) + 1 → levels (tree_at nodes n.right) ≤ levels (tree_at nodes n.left) + 1
      → n.height ≡ max (levels (tree_at nodes n.left)) (levels (tree_at nodes n.right)) + 1 → IsSound (nodes ++ n ∷ [])
  sound_push l r ll rl e = record {
    each = λ k d h. elim (cases_lt k (length nodes)) as (λ _. IsSoundNode (nodes ++ n ∷ []) k (get_or (nodes ++ n ∷ []) k d)) [
      | inl p ↦ rw get_or-append (kept_node k (get_or nodes k d) p (sound.each k d p))
      | inr p ↦ let i : k ≡ length nodes = omega (arith, length-append nodes (n ∷ [])) in rw (i, get_or-append_seam) new_node
    ];
  }
    where
      new_node : IsSoundNode (nodes ++ n ∷ []) (length nodes) n
      new_node = record {
        left = l;
        right = r;
        tree = rw (tree_new nodes n, tree_kept nodes n n.left l, tree_kept nodes n n.right r) refl;
        height = rw (tree_new nodes n) e;
        low = rw (tree_new nodes n) (omega (arith, (at_place nodes n.left sound l).0, (at_place nodes n.right sound r).0));
        balanced = rw (tree_new nodes n) (ll, rl, (at_place nodes n.left sound l).1, (at_place nodes n.right sound r).1);
      }
