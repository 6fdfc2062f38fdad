-- Multisets of names: numbers that rise, where one may stand again.
use Rattle.std.specs.Prelude.{ℕ, List}
use Rattle.ae_codes.specs.Codes.{Code}
use Rattle.ae_codes.specs.Rising.{rising}

abbrev pub same_number : ℕ → ℕ
same_number n = n

-- up to the square bracket that closes it
abbrev pub multiset : Code (List ℕ)
multiset = rising same_number
