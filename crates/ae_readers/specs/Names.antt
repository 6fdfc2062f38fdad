-- Names of a table: which words may be names, and what their texts are.
use Rattle.std.specs.Prelude.{ℕ, Bool, false, true, not, ◌&&◌, nat_eq, nat_le, nat_lt, List, [], ◌∷◌, get_or, Result, Ok, Err}
use Rattle.ae_codes.specs.Closers.{close_end}
use Rattle.ae_codes.specs.Codes.{Code}
use Rattle.ae_codes.specs.Names.{WordEnd, In, Proper, names}
use Rattle.ae_readers.specs.Readers.{close_of, closes, no_end}
use Rattle.ae_readers.specs.declared.closing.Closing.{Closing}
use Rattle.ae_readers.specs.declared.fault.Fault.{Fault}
use Rattle.ae_readers.specs.declared.names.Form.{Form}
use Rattle.ae_readers.specs.declared.names.Form.TheVariants as form

-- by the first byte of the word
abbrev pub form_byte : Form → ℕ → Bool
form_byte form.Lone x = nat_lt 64 x && not (nat_eq x 93)
form_byte form.Head x = nat_le 34 x
form_byte form.Word x = true
form_byte form.Leaf x = nat_le 64 x

abbrev pub form_of : Form → List ℕ → Bool
form_of f [] = false
form_of f (x ∷ xs) = form_byte f x

-- no byte of it closes
abbrev pub may_stand : Form → Closing → List ℕ → Bool
may_stand f c w = form_of f w && no_end (closes c) w

abbrev pub SomeName : Form → Closing → List (List ℕ) → Type 0
SomeName f c table = (w : List ℕ) × In (form_of f) table (closes c) table w × Proper (form_of f) table (closes c) w

-- the words of the table that may stand, each with a byte that closes it
abbrev pub names_at : (f : Form) (c : Closing) (table : List (List ℕ)) → SomeName f c table → Code WordEnd
names_at f c table some = names (form_of f) table (closes c) (close_end (close_of c)) some

-- the word at the place that was read
abbrev pub word_at : List (List ℕ) → Result ((ℕ × ℕ) × ℕ) Fault → Result (WordEnd × ℕ) Fault
word_at table (Ok v) = Ok ((get_or table v.0.0 [], v.0.1), v.1)
word_at table (Err f) = Err f
