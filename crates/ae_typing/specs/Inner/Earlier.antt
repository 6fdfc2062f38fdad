-- Places before another one.
use Rattle.std.specs.Prelude.{ℕ, nat_lt, true, false}

-- a place, or `none` where it isn't before the end
abbrev pub earlier : ℕ → ℕ → ℕ → ℕ
earlier end none n = elim (nat_lt n end) [ true ↦ n | false ↦ none ]
