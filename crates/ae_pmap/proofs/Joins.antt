use Rattle.std.proofs.Common.{◌≡◌, ℕ, ◌+◌, ◌≤◌, append_assoc, arith, refl}
use Rattle.ae_pmap.specs.Trees.{Tree, Fork, levels}
use Rattle.ae_pmap.specs.Inner.Nodes.{IsJoined}

-- a fork over two trees of nearly one height
pub joined-fork : (l r : Tree) (key value : ℕ) → levels l ≤ levels r + 1 → levels r ≤ levels l + 1 → IsJoined l key value r (Fork l key value r)
joined-fork l r key value a b = record { entries = refl; low = omega arith; high = omega arith; near = λ x y. refl }

module _ (key value k v : ℕ) (a b r : Tree) where
  -- one turn to the right
  pub joined-right : levels b ≤ levels a → levels a ≤ levels b + 1 → levels (Fork a k v b) ≡ levels r + 2
      → IsJoined (Fork a k v b) key value r (Fork a k v (Fork b key value r))
  joined-right i o h = record {
    entries = simp append_assoc;
    low = omega arith;
    high = omega arith;
    near = λ x y. omega arith;
  }

  -- one turn to the left
  pub joined-left : levels a ≤ levels b → levels b ≤ levels a + 1 → levels (Fork a k v b) ≡ levels r + 2
      → IsJoined r key value (Fork a k v b) (Fork (Fork r key value a) k v b)
  joined-left i o h = record {
    entries = simp append_assoc;
    low = omega arith;
    high = omega arith;
    near = λ x y. omega arith;
  }

module _ (key value k v m w : ℕ) (a b c r : Tree) where
  -- two turns
  pub joined-right_twice : levels (Fork b m w c) ≡ levels a + 1 → levels (Fork a k v (Fork b m w c)) ≡ levels r + 2
      → IsJoined (Fork a k v (Fork b m w c)) key value r (Fork (Fork a k v b) m w (Fork c key value r))
  joined-right_twice o h = record {
    entries = simp append_assoc;
    low = omega arith;
    high = omega arith;
    near = λ x y. omega arith;
  }

  pub joined-left_twice : levels (Fork a m w b) ≡ levels c + 1 → levels (Fork (Fork a m w b) k v c) ≡ levels r + 2
      → IsJoined r key value (Fork (Fork a m w b) k v c) (Fork (Fork r key value a) m w (Fork b k v c))
  joined-left_twice o h = record {
    entries = simp append_assoc;
    low = omega arith;
    high = omega arith;
    near = λ x y. omega arith;
  }
