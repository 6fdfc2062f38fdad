-- The words of a signature: how texts name its types, symbols, records and fields, and which word names what.
use Rattle.std.specs.Prelude.{ℕ, Bool, false, not, nat_eq, List, [], ◌∷◌, ◌++◌, length, map, slice_get, Some, codes}
use Rattle.std.specs.List.{find, filter, flat_map, range_with_len}
use Rattle.std.specs.Str.{bytes_eq}
use Rattle.ae_base.specs.Options.{or_else, ◌>>=◌}
use Rattle.ae_core.specs.Signatures.{fields_of}
use Rattle.ae_core.specs.declared.problems.Signature.{Signature}
use Rattle.ae_core.specs.declared.problems.TypeEntry.{TypeEntry}
use Rattle.ae_core.specs.declared.terms.Head.{Head}
use Rattle.ae_core.specs.declared.terms.Head.TheVariants as head
use Rattle.ae_core.specs.declared.terms.Op.{Op}
use Rattle.ae_core.specs.declared.terms.Op.TheVariants as op

-- ---- names, by numbers; a number that the signature lacks has none
unfoldable pub type_names : Signature → List (List ℕ)
type_names sig = map (λ e. e.name) sig.types

abbrev pub type_name : Signature → ℕ → List ℕ
type_name sig n = or_else (slice_get sig.types n >>= λ e. Some e.name) []

abbrev pub symbol_name : Signature → ℕ → List ℕ
symbol_name sig n = or_else (slice_get sig.symbols n >>= λ e. Some e.name) []

abbrev pub field_in : TypeEntry → ℕ → List ℕ
field_in e place = or_else (slice_get (fields_of e) place >>= λ f. Some f.name) []

abbrev pub field_name : Signature → ℕ → ℕ → List ℕ
field_name sig of place = or_else (slice_get sig.types of >>= λ e. Some (field_in e place)) []

-- ---- what stands for a head: a sign, a symbol's name, `:p` for the record of type p, `.x` for its field x
abbrev pub op_sign : Op → List ℕ
op_sign op.Add = codes "+"
op_sign op.Sub = codes "-"
op_sign op.Neg = codes "~"
op_sign op.Mul = codes "*"
op_sign op.Div = codes "/"
op_sign op.Mod = codes "%"

unfoldable pub head_word : Signature → Head → List ℕ
head_word sig (head.Symbol n) = symbol_name sig n
head_word sig (head.Build n) = codes ":" ++ type_name sig n
head_word sig (head.Field of place) = codes "." ++ field_name sig of place
head_word sig (head.Int o) = op_sign o
head_word sig (head.Real o) = op_sign o
head_word sig head.True = codes "true"
head_word sig head.False = codes "false"
head_word sig head.Void = codes "void"

-- the symbol has type variables, the type has parameters
abbrev pub has_variables : Signature → ℕ → Bool
has_variables sig n = or_else (slice_get sig.symbols n >>= λ e. Some (not (nat_eq e.vars 0))) false

abbrev pub has_parameters : Signature → ℕ → Bool
has_parameters sig n = or_else (slice_get sig.types n >>= λ e. Some (not (nat_eq e.arity 0))) false

-- whether sorts in square brackets stand behind the head
unfoldable pub takes_sorts : Signature → Head → Bool
takes_sorts sig (head.Symbol n) = has_variables sig n
takes_sorts sig (head.Build n) = has_parameters sig n
takes_sorts sig (head.Field of place) = has_parameters sig of
takes_sorts sig _ = false

-- ---- which heads there are
abbrev pub places : {A : Type 0} → List A → List ℕ
places xs = range_with_len 0 (length xs)

-- a record and its fields
abbrev pub record_heads : ℕ → List ℕ → List Head
record_heads n [] = []
record_heads n (p ∷ ps) = head.Build n ∷ map (λ place. head.Field n place) (p ∷ ps)

abbrev pub type_heads : Signature → ℕ → List Head
type_heads sig n = record_heads n (or_else (slice_get sig.types n >>= λ e. Some (places (fields_of e))) [])

abbrev pub symbols : Signature → List ℕ
symbols sig = places sig.symbols

-- what may stand first in brackets; an operation on `real` is written as the one on `int`
unfoldable pub bracket_heads : Signature → List Head
bracket_heads sig = head.Int op.Add ∷ head.Int op.Sub ∷ head.Int op.Neg ∷ head.Int op.Mul ∷ head.Int op.Div ∷ head.Int op.Mod ∷ (map (λ n. head.Symbol n) (symbols sig) ++ flat_map (type_heads sig) (places sig.types))

-- what may stand alone
unfoldable pub lone_heads : Signature → List Head
lone_heads sig = head.True ∷ head.False ∷ head.Void ∷ filter (λ h. not (takes_sorts sig h)) (map (λ n. head.Symbol n) (symbols sig))

-- symbols whose name may stand alone
unfoldable pub lone_symbols : Signature → List ℕ
lone_symbols sig = filter (λ n. not (has_variables sig n)) (symbols sig)

-- ---- what a word names: the first that has it
abbrev pub named : {A : Type 0} → (A → List ℕ) → A → List A → List ℕ → A
named word other xs w = or_else (find (λ a. bytes_eq (word a) w) xs) other

unfoldable pub head_of : Signature → List ℕ → Head
head_of sig w = named (head_word sig) head.Void (bracket_heads sig) w

unfoldable pub lone_head_of : Signature → List ℕ → Head
lone_head_of sig w = named (head_word sig) head.Void (lone_heads sig) w

unfoldable pub symbol_of : Signature → List ℕ → ℕ
symbol_of sig w = named (symbol_name sig) 0 (symbols sig) w

unfoldable pub lone_symbol_of : Signature → List ℕ → ℕ
lone_symbol_of sig w = named (symbol_name sig) 0 (lone_symbols sig) w
