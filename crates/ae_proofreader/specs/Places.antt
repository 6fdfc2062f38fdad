-- How the places of axioms are read, number by number.
use Rattle.std.specs.Prelude.{ℕ, suc, true, nat_eq, List, [], ◌∷◌}
use Rattle.ae_codes.specs.Codes.{Read, stops}
use Rattle.ae_codes.specs.Rising.{some_rising, lowest_of_all, top}
use Rattle.ae_readers.specs.Readers.{end_or}
use Rattle.ae_valuereader.specs.declared.spans.Span.{Span}

-- none stands behind the greatest number
abbrev pub place_span : ℕ → Span
place_span low = record { low = low; high = top; last = 93; may_end = true; greatest = 18446744073709551614 }

-- one place or more, each above the one before
abbrev pub place_row_read : List ℕ → Read (List ℕ)
place_row_read bytes = (some_rising suc (lowest_of_all suc)).read bytes

abbrev pub places_read : List ℕ → Read (List ℕ)
places_read [] = stops []
places_read (x ∷ xs) = end_or (nat_eq x 93) xs (place_row_read (x ∷ xs))
