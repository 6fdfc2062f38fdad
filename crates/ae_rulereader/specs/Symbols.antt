-- How a symbol, both sides and a rule are read, word by word.
use Rattle.std.specs.Prelude.{ℕ, Bool, true, false, ◌&&◌, nat_eq, nat_lt, List, [], ◌∷◌, get_or}
use Rattle.ae_codes.specs.Closers.{by_blank, closers}
use Rattle.ae_codes.specs.Codes.{Read, got, stops}
use Rattle.ae_core.specs.declared.problems.AcSymbol.{AcSymbol}
use Rattle.ae_core.specs.declared.problems.Signature.{Signature}
use Rattle.ae_core.specs.declared.terms.Head.TheVariants as head
use Rattle.ae_core.specs.declared.terms.Op.TheVariants as op
use Rattle.ae_journal.specs.declared.systems.RuleEntry.{RuleEntry}
use Rattle.ae_prooftext.specs.SortTexts.{fine}
use Rattle.ae_readers.specs.Readers.{after_read, fixed_read, named_read}
use Rattle.ae_stategrammar.specs.Multisets.{multiset}
use Rattle.ae_stategrammar.specs.Sides.{plain_symbols, plain_table, sorted_symbols, sorted_table, SidesOf, sides, symbol}
use Rattle.ae_termreader.specs.Sorts.{has_name, sorts_read}

abbrev pub int_read : List ℕ → Read AcSymbol
int_read bytes = after_read (fixed_read (105 ∷ 110 ∷ 116 ∷ 32 ∷ []) bytes) (λ u rest. got (record { head = head.Int op.Mul; sorts = [] }) rest)

abbrev pub real_read : List ℕ → Read AcSymbol
real_read bytes = after_read (fixed_read (114 ∷ 101 ∷ 97 ∷ 108 ∷ 32 ∷ []) bytes) (λ u rest. got (record { head = head.Real op.Mul; sorts = [] }) rest)

abbrev pub product_by : Bool → List ℕ → Read AcSymbol
product_by true bytes = int_read bytes
product_by false bytes = real_read bytes

-- behind a star
abbrev pub product_read : List ℕ → Read AcSymbol
product_read [] = stops []
product_read (x ∷ xs) = product_by (nat_eq x 105) (x ∷ xs)

abbrev pub star_read : List ℕ → Read AcSymbol
star_read bytes = after_read (fixed_read (42 ∷ []) bytes) (λ u r. product_read r)

module _ (sig : Signature) where
  abbrev pub plain_read : List ℕ → Read AcSymbol
  plain_read bytes = after_read (named_read fine (closers by_blank.one by_blank.two) (plain_table sig) bytes) (λ w rest. got (record { head = head.Symbol (get_or (plain_symbols sig) w.0 0); sorts = [] }) rest)

  -- behind an opening bracket
  abbrev pub sorted_read : List ℕ → Read AcSymbol
  sorted_read bytes =
      after_read (named_read fine (closers by_blank.one by_blank.two) (sorted_table sig) bytes) (λ w r.
      after_read (fixed_read (91 ∷ []) r) (λ u q.
      after_read (sorts_read sig q) (λ ss m.
      after_read (fixed_read (41 ∷ 32 ∷ []) m) (λ v rest. got (record { head = head.Symbol (get_or (sorted_symbols sig) w.0 0); sorts = ss }) rest))))

  abbrev pub symbol_by : Bool → Bool → ℕ → List ℕ → Read AcSymbol
  symbol_by true b x xs = plain_read (x ∷ xs)
  symbol_by false true x xs = sorted_read xs
  symbol_by false false x xs = star_read (x ∷ xs)

  abbrev pub symbol_read : List ℕ → Read AcSymbol
  symbol_read [] = stops []
  symbol_read (x ∷ xs) = symbol_by (has_name (plain_table sig) && nat_lt 64 x) (has_name (sorted_table sig) && nat_eq x 40) x xs

  abbrev pub sides_read : List ℕ → Read (SidesOf sig)
  sides_read bytes =
      after_read ((symbol sig).read bytes) (λ s r.
      after_read (fixed_read (91 ∷ []) r) (λ u q.
      after_read (multiset.read q) (λ left p.
      after_read (fixed_read (32 ∷ 91 ∷ []) p) (λ v m.
      after_read (multiset.read m) (λ right n.
      after_read (fixed_read (10 ∷ []) n) (λ w rest. got (s, (left, right)) rest))))))

  abbrev pub rule_read : List ℕ → Read RuleEntry
  rule_read bytes =
      after_read (fixed_read (114 ∷ 117 ∷ 108 ∷ 101 ∷ 32 ∷ []) bytes) (λ u r.
      after_read ((sides sig).read r) (λ v rest. got (record { symbol = v.0; left = v.1.0; right = v.1.1 }) rest))
