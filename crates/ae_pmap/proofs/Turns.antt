use Rattle.std.proofs.Common.{◌≡◌, ℕ, ◌+◌, ◌<◌, ◌≤◌, List, length, subst, arith}
use Rattle.ae_pmap.specs.declared.nodes.Node.{Node}
use Rattle.ae_pmap.specs.Trees.{Tree, Fork, levels, IsBalanced}
use Rattle.ae_pmap.specs.Nodes.{tree_at}
use Rattle.ae_pmap.specs.Inner.Nodes.{Keeps, IsJoined}
use Rattle.ae_pmap.proofs.Opened.{Opened}
use Rattle.ae_pmap.proofs.Joins.{joined-right, joined-left, joined-right_twice, joined-left_twice}

module _ (old m1 new : List Node) (key value : ℕ) (top : Node) (p : ℕ) where
  pub turned_right : (left right below : ℕ) → Opened old left top → IsBalanced (tree_at old left) → left ≤ length old
      → levels (tree_at old left) ≡ levels (tree_at old right) + 2 → levels (tree_at old top.right) ≤ levels (tree_at old top.left)
      → Keeps old m1 → tree_at m1 below ≡ Fork (tree_at old top.right) key value (tree_at old right)
      → tree_at new p ≡ Fork (tree_at m1 top.left) top.key top.value (tree_at m1 below)
      → IsJoined (tree_at old left) key value (tree_at old right) (tree_at new p)
  turned_right left right below o b li h i k e1 e2 =
      let w : levels (Fork (tree_at old top.left) top.key top.value (tree_at old top.right)) ≡ levels (tree_at old right) + 2 = subst (λ (t : Tree). levels t ≡ levels (tree_at old right) + 2) o.tree h in
      rw (e2, e1, k.trees top.left (omega (arith, o.left)), o.tree)
      (joined-right key value top.key top.value (tree_at old top.left) (tree_at old top.right) (tree_at old right) i (subst IsBalanced o.tree b).0 w)

  pub turned_left : (left right below : ℕ) → Opened old right top → IsBalanced (tree_at old right) → right ≤ length old
      → levels (tree_at old right) ≡ levels (tree_at old left) + 2 → levels (tree_at old top.left) ≤ levels (tree_at old top.right)
      → Keeps old m1 → tree_at m1 below ≡ Fork (tree_at old left) key value (tree_at old top.left)
      → tree_at new p ≡ Fork (tree_at m1 below) top.key top.value (tree_at m1 top.right)
      → IsJoined (tree_at old left) key value (tree_at old right) (tree_at new p)
  turned_left left right below o b li h i k e1 e2 =
      let w : levels (Fork (tree_at old top.left) top.key top.value (tree_at old top.right)) ≡ levels (tree_at old left) + 2 = subst (λ (t : Tree). levels t ≡ levels (tree_at old left) + 2) o.tree h in
      rw (e2, e1, k.trees top.right (omega (arith, o.right)), o.tree)
      (joined-left key value top.key top.value (tree_at old top.left) (tree_at old top.right) (tree_at old left) i (subst IsBalanced o.tree b).1 w)

module _ (old m1 m2 new : List Node) (key value : ℕ) (top middle : Node) (p first second : ℕ) where
  pub turned_right_twice : (left right : ℕ) → Opened old left top → Opened old top.right middle → IsBalanced (tree_at old left) → left ≤ length old → right ≤ length old
      → levels (tree_at old left) ≡ levels (tree_at old right) + 2 → levels (tree_at old top.left) < levels (tree_at old top.right)
      → Keeps old m1 → first ≤ length m1 → tree_at m1 first ≡ Fork (tree_at old top.left) top.key top.value (tree_at old middle.left)
      → Keeps m1 m2 → tree_at m2 second ≡ Fork (tree_at m1 middle.right) key value (tree_at m1 right)
      → tree_at new p ≡ Fork (tree_at m2 first) middle.key middle.value (tree_at m2 second)
      → IsJoined (tree_at old left) key value (tree_at old right) (tree_at new p)
  turned_right_twice left right o o' b li ri h i k1 f e1 k2 e2 e3 =
      let t : tree_at old left ≡ Fork (tree_at old top.left) top.key top.value (Fork (tree_at old middle.left) middle.key middle.value (tree_at old middle.right)) =
      subst (λ (t : Tree). tree_at old left ≡ Fork (tree_at old top.left) top.key top.value t) o'.tree o.tree in
      let w : levels (Fork (tree_at old top.left) top.key top.value (Fork (tree_at old middle.left) middle.key middle.value (tree_at old middle.right))) ≡ levels (tree_at old right) + 2 = subst (λ (t : Tree). levels t ≡ levels (tree_at old right) + 2) t h in
      let v : levels (Fork (tree_at old middle.left) middle.key middle.value (tree_at old middle.right)) ≡ levels (tree_at old top.left) + 1 =
      subst (λ (t : Tree). levels t ≡ levels (tree_at old top.left) + 1) o'.tree (omega (arith, (subst IsBalanced o.tree b).1)) in
      rw (e3, e2, k2.trees first f, e1, k1.trees middle.right (omega (arith, o.right, o'.right)), k1.trees right ri, t)
      (joined-right_twice key value top.key top.value middle.key middle.value (tree_at old top.left) (tree_at old middle.left) (tree_at old middle.right) (tree_at old right) v w)

  pub turned_left_twice : (left right : ℕ) → Opened old right top → Opened old top.left middle → IsBalanced (tree_at old right) → left ≤ length old → right ≤ length old
      → levels (tree_at old right) ≡ levels (tree_at old left) + 2 → levels (tree_at old top.right) < levels (tree_at old top.left)
      → Keeps old m1 → first ≤ length m1 → tree_at m1 first ≡ Fork (tree_at old left) key value (tree_at old middle.left)
      → Keeps m1 m2 → tree_at m2 second ≡ Fork (tree_at m1 middle.right) top.key top.value (tree_at m1 top.right)
      → tree_at new p ≡ Fork (tree_at m2 first) middle.key middle.value (tree_at m2 second)
      → IsJoined (tree_at old left) key value (tree_at old right) (tree_at new p)
  turned_left_twice left right o o' b li ri h i k1 f e1 k2 e2 e3 =
      let t : tree_at old right ≡ Fork (Fork (tree_at old middle.left) middle.key middle.value (tree_at old middle.right)) top.key top.value (tree_at old top.right) =
      subst (λ (t : Tree). tree_at old right ≡ Fork t top.key top.value (tree_at old top.right)) o'.tree o.tree in
      let w : levels (Fork (Fork (tree_at old middle.left) middle.key middle.value (tree_at old middle.right)) top.key top.value (tree_at old top.right)) ≡ levels (tree_at old left) + 2 = subst (λ (t : Tree). levels t ≡ levels (tree_at old left) + 2) t h in
      let v : levels (Fork (tree_at old middle.left) middle.key middle.value (tree_at old middle.right)) ≡ levels (tree_at old top.right) + 1 =
      subst (λ (t : Tree). levels t ≡ levels (tree_at old top.right) + 1) o'.tree (omega (arith, (subst IsBalanced o.tree b).0)) in
      rw (e3, e2, k2.trees first f, e1, k1.trees middle.right (omega (arith, o.left, o'.right)), k1.trees top.right (omega (arith, o.right)), t)
      (joined-left_twice key value top.key top.value middle.key middle.value (tree_at old middle.left) (tree_at old middle.right) (tree_at old top.right) (tree_at old left) v w)
