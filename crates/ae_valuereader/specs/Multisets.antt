-- How a multiset is read, number by number.
use Rattle.std.specs.Prelude.{ℕ, true, nat_eq, List, [], ◌∷◌}
use Rattle.ae_codes.specs.Codes.{Read, stops}
use Rattle.ae_codes.specs.Rising.{some_rising, lowest_of_all, top}
use Rattle.ae_readers.specs.Readers.{end_or}
use Rattle.ae_valuereader.specs.declared.spans.Span.{Span}

abbrev pub rising_span : ℕ → Span
rising_span low = record { low = low; high = top; last = 93; may_end = true; greatest = top }

-- one number or more; the same one may stand again
abbrev pub rising_read : List ℕ → Read (List ℕ)
rising_read bytes = (some_rising (λ n. n) (lowest_of_all (λ n. n))).read bytes

abbrev pub multiset_read : List ℕ → Read (List ℕ)
multiset_read [] = stops []
multiset_read (x ∷ xs) = end_or (nat_eq x 93) xs (rising_read (x ∷ xs))
