-- How a sort is read, byte by byte. What stands inside is read by the grammar's own code.
use Rattle.std.specs.Prelude.{ℕ, zero, suc, Bool, true, false, ◌&&◌, nat_eq, List, [], ◌∷◌}
use Rattle.std.specs.List.{list_any}
use Rattle.ae_codes.specs.Codes.{Read, got, stops, Code}
use Rattle.ae_codes.specs.Closers.{Close, by_blank, closers, sizes, square}
use Rattle.ae_codes.specs.Numbers.{number}
use Rattle.ae_codes.specs.Rows.{Row, rows}
use Rattle.ae_core.specs.declared.problems.Signature.{Signature}
use Rattle.ae_core.specs.declared.terms.Sort.{Sort}
use Rattle.ae_core.specs.declared.terms.Sort.TheVariants as sort
use Rattle.ae_prooftext.specs.SortTexts.{SortEnd, fine, above_round, atoms, inner_sort, inner_is_shaped, some_type}
use Rattle.ae_prooftext.specs.TermTexts.{above_square, sort_in, sorts_shaped}
use Rattle.ae_prooftext.specs.Words.{type_names}
use Rattle.ae_readers.specs.Readers.{after_read, closing_read, named_read, no_end, row_read, list_read}
use Rattle.ae_readers.specs.declared.closing.Closing.{Closing}
use Rattle.ae_readers.specs.declared.closing.Closing.TheVariants as closing

-- some type has a name that can be read
abbrev pub has_name : List (List ℕ) → Bool
has_name types = list_any (λ w. fine w && no_end (closers by_blank.one by_blank.two) w) types

-- in round brackets a row of sorts ends with `)`, in square ones with `]`
abbrev pub side : Bool → Closing
side true = closing.Square
side false = closing.Round

unfoldable pub round_sorts : Signature → Code (Row Sort)
round_sorts sig = rows 41 above_round (inner_sort (type_names sig) (some_type (type_names sig))) sort.Int (inner_is_shaped (type_names sig) (some_type (type_names sig)))

unfoldable pub square_sorts : Signature → Code (Row Sort)
square_sorts sig = rows 93 above_square (sort_in sig square) sort.Int (sorts_shaped sig)

abbrev pub sort_rows : Signature → Bool → Code (Row Sort)
sort_rows sig true = square_sorts sig
sort_rows sig false = round_sorts sig

-- the sort of a name alone, by its place
abbrev pub atom_of : ℕ → Sort
atom_of zero = sort.Int
atom_of (suc zero) = sort.Real
atom_of (suc (suc zero)) = sort.Bool
atom_of (suc (suc (suc zero))) = sort.Unit
atom_of (suc (suc (suc (suc k)))) = sort.Named k []

abbrev pub rigid_read : Close → List ℕ → Read SortEnd
rigid_read k bytes = after_read ((number (sizes k)).read bytes) (λ v rest. got (sort.Rigid v.0, v.1) rest)

abbrev pub atom_read : Signature → Close → List ℕ → Read SortEnd
atom_read sig k bytes = after_read (named_read fine (closers k.one k.two) (atoms (type_names sig)) bytes) (λ v rest. got (atom_of v.0, v.1) rest)

abbrev pub compound_read : Signature → Close → List ℕ → Read SortEnd
compound_read sig k bytes =
    after_read (named_read fine (closers by_blank.one by_blank.two) (type_names sig) bytes) (λ w r.
    after_read (row_read (round_sorts sig) r) (λ ss q.
    after_read (closing_read k q) (λ e rest. got (sort.Named w.0 ss, e) rest)))

abbrev pub sort_by : Bool → Bool → Signature → Close → ℕ → List ℕ → Read SortEnd
sort_by true b sig k x xs = compound_read sig k xs
sort_by false true sig k x xs = rigid_read k xs
sort_by false false sig k x xs = atom_read sig k (x ∷ xs)

abbrev pub sort_turn : Signature → Close → List ℕ → Read SortEnd
sort_turn sig k [] = stops []
sort_turn sig k (x ∷ xs) = sort_by (has_name (type_names sig) && nat_eq x 40) (nat_eq x 39) sig k x xs

-- sorts behind `[`
abbrev pub sorts_read : Signature → List ℕ → Read (List Sort)
sorts_read sig bytes = list_read 93 (square_sorts sig) bytes
