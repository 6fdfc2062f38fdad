-- An input that is to be checked: a problem, a line of exactly `%%`, and an output for it. The first such line parts the two; that it may stand in a comment of the
-- problem counts for nothing.
use Rattle.std.specs.Prelude.{◌≡◌, ◌≤◌, List, [], ◌++◌, ℕ, length, codes}
use Rattle.ae_report.specs.Lines.{AreLines}

-- a line of exactly `%%` stands between the two, behind whole lines; its end may be that of the input
pub data Separates (input : List ℕ) : List ℕ → List ℕ → Type 0 where
  line : (before after : List ℕ) → AreLines before → input ≡ before ++ (codes "%%\n" ++ after) → Separates input before after
  last : (before : List ℕ) → AreLines before → input ≡ before ++ codes "%%" → Separates input before []

-- the first such line
pub record IsParted (input before after : List ℕ) : Type 0 where
  pub here : Separates input before after
  pub first : (b a : List ℕ) → Separates input b a → length before ≤ length b

abbrev pub HasNoSeparator : List ℕ → Type 0
HasNoSeparator input = (b a : List ℕ) → Separates input b a → ⊥
