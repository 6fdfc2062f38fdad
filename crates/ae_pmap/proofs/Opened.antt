use Rattle.std.proofs.Common.{◌≡◌, ℕ, ◌+◌, ◌-◌, ◌<◌, ◌≤◌, List, length, get_or, sym, subst, arith}
use Rattle.ae_pmap.specs.declared.nodes.Node.{Node}
use Rattle.ae_pmap.specs.Trees.{Fork, levels}
use Rattle.ae_pmap.specs.Nodes.{tree_at}
use Rattle.ae_pmap.specs.Inner.Nodes.{IsSound}

-- the node at a place
pub record Opened (nodes : List Node) (place : ℕ) (n : Node) : Type 0 where
  pub left : n.left < place
  pub right : n.right < place
  pub tree : tree_at nodes place ≡ Fork (tree_at nodes n.left) n.key n.value (tree_at nodes n.right)
  pub height : n.height ≡ levels (tree_at nodes place)

pub opened : (nodes : List Node) (place : ℕ) (d : Node) → IsSound nodes → 0 < place → place ≤ length nodes → Opened nodes place (get_or nodes (place - 1) d)
opened nodes place d s h l =
    let n = get_or nodes (place - 1) d in
    let e = s.each (place - 1) d (omega arith) in
    let i : place - 1 + 1 ≡ place = omega arith in
    record {
      left = omega (arith, e.left);
      right = omega (arith, e.right);
      tree = subst (λ (p : ℕ). tree_at nodes p ≡ Fork (tree_at nodes n.left) n.key n.value (tree_at nodes n.right)) i e.tree;
      height = subst (λ (p : ℕ). n.height ≡ levels (tree_at nodes p)) i e.height;
    }

pub opened_at : (nodes : List Node) (place : ℕ) (n : Node) → n ≡ get_or nodes (place - 1) n → IsSound nodes → 0 < place → place ≤ length nodes → Opened nodes place n
opened_at nodes place n e s h l = subst (λ (m : Node). Opened nodes place m) (sym e) (opened nodes place n s h l)
