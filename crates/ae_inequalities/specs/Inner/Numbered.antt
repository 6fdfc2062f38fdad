-- Rows of some numbers, one by one.
use Rattle.std.specs.Prelude.{ℕ, List, [], ◌∷◌}
use Rattle.ae_store.specs.Stores.{Stored}
use Rattle.ae_inequalities.specs.declared.rows.Row.{Row}
use Rattle.ae_inequalities.specs.Held.{Held}
use Rattle.ae_inequalities.specs.Tight.{IsRowAt}

abbrev pub AreRowsAt : Stored → Held → List ℕ → List Row → Type 0
AreRowsAt s b [] [] = Unit {0}
AreRowsAt s b (k ∷ ks) (r ∷ rs) = IsRowAt s b k r × AreRowsAt s b ks rs
AreRowsAt s b _ _ = ⊥
