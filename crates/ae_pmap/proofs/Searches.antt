use Rattle.std.proofs.Common.{◌≡◌, ℕ, ◌<◌, List, ◌∷◌, ◌++◌, sym, subst, ap, ◌∙◌, Some}
use Rattle.ae_pmap.specs.declared.nodes.Node.{Node}
use Rattle.ae_pmap.specs.Pairs.{found, put_in, take_out, Rises}
use Rattle.ae_pmap.specs.Trees.{pairs}
use Rattle.ae_pmap.specs.Nodes.{tree_at}
use Rattle.ae_pmap.proofs.Opened.{Opened}
use Rattle.ae_pmap.proofs.PairLemmas.{Parted, parted, found_left, found_right, found_here, put-left, put-here, put-right, out-left, out-here, out-right}

-- what a search finds at a node
module _ (nodes : List Node) (place : ℕ) (n : Node) (o : Opened nodes place n) (rises : Rises (pairs (tree_at nodes place))) where
  abbrev here : List (ℕ × ℕ)
  here = pairs (tree_at nodes place)

  abbrev left : List (ℕ × ℕ)
  left = pairs (tree_at nodes n.left)

  abbrev right : List (ℕ × ℕ)
  right = pairs (tree_at nodes n.right)

  pub entries : here ≡ left ++ (n.key, n.value) ∷ right
  entries = ap pairs o.tree

  pub parts : Parted n.key left right
  parts = parted n.key n.value left right (subst Rises entries rises)

  pub go_left : (key : ℕ) → key < n.key → found left key ≡ found here key
  go_left key h = sym (ap (λ (ps : List (ℕ × ℕ)). found ps key) entries ∙ found_left key n.key n.value left right h parts.above)

  pub go_right : (key : ℕ) → n.key < key → found right key ≡ found here key
  go_right key h = sym (ap (λ (ps : List (ℕ × ℕ)). found ps key) entries ∙ found_right key n.key n.value left right h parts.below)

  pub stop_here : (key : ℕ) → key ≡ n.key → Some n.value ≡ found here key
  stop_here key e = sym (ap (λ (ps : List (ℕ × ℕ)). found ps key) entries ∙ (ap (found (left ++ (n.key, n.value) ∷ right)) e ∙ found_here n.key n.value left right parts.below))

  -- what an insertion makes of it
  pub put_less : (key v : ℕ) → key < n.key → put_in key v left ++ (n.key, n.value) ∷ right ≡ put_in key v here
  put_less key v h = sym (ap (put_in key v) entries ∙ put-left key v n.key n.value left right h)

  pub put_more : (key v : ℕ) → n.key < key → left ++ (n.key, n.value) ∷ put_in key v right ≡ put_in key v here
  put_more key v h = sym (ap (put_in key v) entries ∙ put-right key v n.key n.value left right h parts.below)

  pub put_same : (key v : ℕ) → key ≡ n.key → left ++ (key, v) ∷ right ≡ put_in key v here
  put_same key v e = rw e (sym (ap (put_in n.key v) entries ∙ put-here v n.key n.value left right parts.below))

  -- and a removal
  pub out_less : (key : ℕ) → key < n.key → take_out key left ++ (n.key, n.value) ∷ right ≡ take_out key here
  out_less key h = sym (ap (take_out key) entries ∙ out-left key n.key n.value left right h parts.above)

  pub out_more : (key : ℕ) → n.key < key → left ++ (n.key, n.value) ∷ take_out key right ≡ take_out key here
  out_more key h = sym (ap (take_out key) entries ∙ out-right key n.key n.value left right h parts.below)

  pub out_same : (key : ℕ) → key ≡ n.key → left ++ right ≡ take_out key here
  out_same key e = rw e (sym (ap (take_out n.key) entries ∙ out-here n.key n.value left right parts.below))
