-- What is unmet, by what a single literal says.
use Rattle.std.specs.Prelude.{ℕ, true, false, ◌≡◌, ◌≢◌, List}
use Rattle.ae_store.specs.declared.nodes.Node.{Node}
use Rattle.ae_literals.specs.Unmet.{AreCongruentNames}
use Rattle.ae_literals.specs.declared.said.Said.{Said}
use Rattle.ae_literals.specs.declared.said.Said.TheVariants.{Equal, Atom, Other}

-- it says that two names are equal that have different representatives
abbrev pub LeavesOut : (ℕ → ℕ) → Said → Type 0
LeavesOut rep (Equal b l r) = (b ≡ true) × (rep l ≢ rep r)
LeavesOut rep (Atom b n) = ⊥
LeavesOut rep Other = ⊥

-- it says that two names differ that have one representative
abbrev pub Contradicts : (ℕ → ℕ) → Said → Type 0
Contradicts rep (Equal b l r) = (b ≡ false) × (rep l ≡ rep r)
Contradicts rep (Atom b n) = ⊥
Contradicts rep Other = ⊥

-- it says that an atom such as that of the name is false
abbrev pub Opposes : List Node → (ℕ → ℕ) → ℕ → Said → Type 0
Opposes nodes rep name (Equal b l r) = ⊥
Opposes nodes rep name (Atom b n) = (b ≡ false) × AreCongruentNames nodes rep name n
Opposes nodes rep name Other = ⊥
