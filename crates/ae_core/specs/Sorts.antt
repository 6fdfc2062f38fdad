-- Well-sorted terms and formulas.
use Rattle.std.specs.Prelude.{ℕ, ℤ, pos, Bool, true, false, cond, not, ◌&&◌, ◌||◌, nat_eq, nat_lt, ◌^◌, unsigned_abs, int_lt, List, [], ◌∷◌, ◌++◌, map, length, slice_get, reverse, Option, Some, None}
use Rattle.std.specs.List.{list_all}
use Rattle.ae_base.specs.Options.{or_else, ◌>>=◌, only, when, all_known, known}
use Rattle.ae_base.specs.Decided.{decided}
use Rattle.ae_core.specs.Putting.{put_sort}
use Rattle.ae_core.specs.Decided.{Sort_discrete, Sorts_discrete}
use Rattle.ae_core.specs.declared.terms.Sort.{Sort, Sort-F, Int, Real, Bool as BoolSort, Unit as UnitSort, Named, fold-Sort}
use Rattle.ae_core.specs.declared.terms.Sort.TheOpen as sort_layer
use Rattle.ae_core.specs.declared.terms.Term.{Term, Term-F, fold-Term, out-Term}
use Rattle.ae_core.specs.declared.terms.Term.TheOpen as layer
use Rattle.ae_core.specs.declared.terms.Head.{Head}
use Rattle.ae_core.specs.declared.terms.Head.TheVariants as head
use Rattle.ae_core.specs.declared.terms.Op.{Op}
use Rattle.ae_core.specs.declared.terms.Op.TheVariants as op
use Rattle.ae_core.specs.declared.formulas.Formula.{Formula, Formula-F, fold-Formula}
use Rattle.ae_core.specs.declared.formulas.Formula.TheOpen as formula_layer
use Rattle.ae_core.specs.declared.formulas.Quant.{Quant, Quant-F, fold-Quant}
use Rattle.ae_core.specs.declared.problems.Signature.{Signature}
use Rattle.ae_core.specs.declared.problems.SymbolEntry.{SymbolEntry}
use Rattle.ae_core.specs.declared.problems.TypeEntry.{TypeEntry}
use Rattle.ae_core.specs.declared.problems.FieldEntry.{FieldEntry}
use Rattle.ae_core.specs.declared.problems.Kind.TheVariants.{Abstract, Choices, Fields}

abbrev pub same_sort : Sort → Sort → Bool
same_sort a b = decided (Sort_discrete a b)

abbrev pub same_sorts : List Sort → List Sort → Bool
same_sorts xs ys = decided (Sorts_discrete xs ys)

-- a named sort has its type's number of arguments; `vars` and `rigids` say which variables may stand
abbrev pub type_fits : Signature → ℕ → ℕ → Bool
type_fits sig h n = or_else (slice_get sig.types h >>= λ e. Some (nat_eq e.arity n)) false

abbrev pub sort_ok_step : Signature → (ℕ → Bool) → (ℕ → Bool) → Sort-F Bool → Bool
sort_ok_step sig vars rigids (sort_layer.Var i) = vars i
sort_ok_step sig vars rigids (sort_layer.Rigid i) = rigids i
sort_ok_step sig vars rigids (sort_layer.Named h args) = type_fits sig h (length args) && list_all (λ b. b) args
sort_ok_step sig vars rigids _ = true

unfoldable pub sort_ok : Signature → (ℕ → Bool) → (ℕ → Bool) → Sort → Bool
sort_ok sig vars rigids = fold-Sort Bool (sort_ok_step sig vars rigids)

-- no type variable stands in it
abbrev pub is_closed_sort : Signature → Sort → Bool
is_closed_sort sig = sort_ok sig (λ i. false) (λ i. true)

abbrev pub symbol_sort : List Sort → List Sort → SymbolEntry → Option Sort
symbol_sort ss args e =
    only (nat_eq (length ss) e.vars && same_sorts args (map (put_sort ss) e.args)) e.result >>= λ s. Some (put_sort ss s)

abbrev pub record_sort : ℕ → List Sort → List Sort → TypeEntry → Option Sort
record_sort n ss args e =
    elim e.kind [ Fields fs ↦ when (nat_eq (length ss) e.arity && same_sorts args (map (λ f. put_sort ss f.sort) fs)) (Named n ss) | Abstract ↦ None | Choices cs ↦ None ]

abbrev pub field_at : List Sort → List FieldEntry → ℕ → Option Sort
field_at ss fs place = slice_get fs place >>= λ f. Some (put_sort ss f.sort)

abbrev pub field_sort : ℕ → ℕ → List Sort → List Sort → TypeEntry → Option Sort
field_sort n place ss args e =
    elim e.kind [ Fields fs ↦ only (nat_eq (length ss) e.arity && same_sorts args (Named n ss ∷ [])) (field_at ss fs place) | Abstract ↦ None | Choices cs ↦ None ]

abbrev pub operands : Op → List Sort → List Sort
operands op.Neg s = s
operands _ s = s ++ s

-- there is no remainder on `real`
abbrev pub on_real : Op → Bool
on_real op.Mod = false
on_real _ = true

abbrev pub head_sort : Signature → Head → List Sort → List Sort → Option Sort
head_sort sig (head.Symbol n) ss args = slice_get sig.symbols n >>= symbol_sort ss args
head_sort sig (head.Build n) ss args = slice_get sig.types n >>= record_sort n ss args
head_sort sig (head.Field n place) ss args = slice_get sig.types n >>= field_sort n place ss args
head_sort sig (head.Int o) ss args = when (same_sorts ss [] && same_sorts args (operands o (Int ∷ []))) Int
head_sort sig (head.Real o) ss args = when (on_real o && same_sorts ss [] && same_sorts args (operands o (Real ∷ []))) Real
head_sort sig head.True ss args = when (same_sorts ss [] && same_sorts args []) BoolSort
head_sort sig head.False ss args = when (same_sorts ss [] && same_sorts args []) BoolSort
head_sort sig head.Void ss args = when (same_sorts ss [] && same_sorts args []) UnitSort

-- a numeral: both numbers are within the limits, the lower one is positive, and 1 where the numeral is whole
abbrev pub within : ℤ → Bool
within z = nat_lt (unsigned_abs z) (2 ^ 127)

abbrev pub numeral_ok : ℤ → ℤ → Bool → Bool
numeral_ok a b real = within a && within b && int_lt (pos 0) b && (real || not (int_lt (pos 1) b))

-- a variable by its distance among the sorts, the innermost last
abbrev pub variable_sort : List Sort → ℕ → Option Sort
variable_sort env i = slice_get (reverse env) i

-- `may` says which sorts may stand
abbrev pub sort_step : Signature → (Sort → Bool) → List Sort → Term-F (Option Sort) → Option Sort
sort_step sig may env (layer.Bound i) = variable_sort env i
sort_step sig may env (layer.Num a b real) = when (numeral_ok a b real) (cond real Real Int)
sort_step sig may env (layer.Fresh n s) = when (may s) s
sort_step sig may env (layer.Apply h ss args) = only (list_all may ss) (all_known args) >>= head_sort sig h ss

-- the sort of a term under variables of the sorts `env`, where it is well sorted
unfoldable pub sort_in : Signature → (Sort → Bool) → List Sort → Term → Option Sort
sort_in sig may env = fold-Term (Option Sort) (sort_step sig may env)

-- the sort of a closed term
abbrev pub sort_of : Signature → Term → Option Sort
sort_of sig = sort_in sig (is_closed_sort sig) []

abbrev pub sorts_of : Signature → List Term → Option (List Sort)
sorts_of sig ts = all_known (map (sort_of sig) ts)

abbrev pub term_ok : Signature → Term → Bool
term_ok sig t = known (sort_of sig t)

-- ---- formulas
abbrev pub same_known : Option Sort → Option Sort → Bool
same_known (Some s) (Some t) = same_sort s t
same_known _ _ = false

abbrev pub is_numeric : Sort → Bool
is_numeric s = same_sort s Int || same_sort s Real

-- both have one sort, which is numeric
abbrev pub same_numeric : Option Sort → Option Sort → Bool
same_numeric (Some s) (Some t) = same_sort s t && is_numeric s
same_numeric _ _ = false

abbrev pub predicate_fits : List Sort → List Sort → SymbolEntry → Bool
predicate_fits ss args e =
    elim e.result [ Some r ↦ false | None ↦ nat_eq (length ss) e.vars && same_sorts args (map (put_sort ss) e.args) ]

abbrev pub predicate_ok : Signature → (Sort → Bool) → ℕ → List Sort → Option (List Sort) → Bool
predicate_ok sig may p ss (Some args) = list_all may ss && or_else (slice_get sig.symbols p >>= λ e. Some (predicate_fits ss args e)) false
predicate_ok sig may p ss None = false

-- a term of a trigger is well sorted, or a predicate's application that is
abbrev pub applied_ok : Signature → (Sort → Bool) → List Sort → Term-F Term → Bool
applied_ok sig may env (layer.Apply (head.Symbol p) ss us) = predicate_ok sig may p ss (all_known (map (sort_in sig may env) us))
applied_ok sig may env _ = false

abbrev pub trigger_ok : Signature → (Sort → Bool) → List Sort → Term → Bool
trigger_ok sig may env t = known (sort_in sig may env t) || applied_ok sig may env (out-Term t)

abbrev pub formula_step : Signature → (Sort → Bool) → Formula-F (List Sort → Bool) (List Sort → Bool) → List Sort → Bool
formula_step sig may formula_layer.True env = true
formula_step sig may formula_layer.False env = true
formula_step sig may (formula_layer.Eq a b) env = same_known (sort_in sig may env a) (sort_in sig may env b)
formula_step sig may (formula_layer.Lt a b) env = same_numeric (sort_in sig may env a) (sort_in sig may env b)
formula_step sig may (formula_layer.Le a b) env = same_numeric (sort_in sig may env a) (sort_in sig may env b)
formula_step sig may (formula_layer.Pred p ss us) env = predicate_ok sig may p ss (all_known (map (sort_in sig may env) us))
formula_step sig may (formula_layer.Not a) env = a env
formula_step sig may (formula_layer.And a b) env = a env && b env
formula_step sig may (formula_layer.Or a b) env = a env && b env
formula_step sig may (formula_layer.Xor a b) env = a env && b env
formula_step sig may (formula_layer.Iff a b) env = a env && b env
formula_step sig may (formula_layer.All q) env = q env
formula_step sig may (formula_layer.Ex q) env = q env

-- the sorts of a block's variables stand behind those of the blocks around it
abbrev pub quant_step : Signature → (Sort → Bool) → Quant-F (List Sort → Bool) (List Sort → Bool) → List Sort → Bool
quant_step sig may q env =
    list_all may q.sorts && list_all (list_all (trigger_ok sig may (env ++ q.sorts))) q.triggers && q.body (env ++ q.sorts)

-- a formula is well sorted under variables of the sorts `env`
unfoldable pub formula_in : Signature → (Sort → Bool) → List Sort → Formula → Bool
formula_in sig may env f = fold-Formula (List Sort → Bool) (List Sort → Bool) (formula_step sig may) (quant_step sig may) f env

-- the same for a block
unfoldable pub quant_in : Signature → (Sort → Bool) → List Sort → Quant → Bool
quant_in sig may env q = fold-Quant (List Sort → Bool) (List Sort → Bool) (formula_step sig may) (quant_step sig may) q env

-- a formula is closed and well sorted
abbrev pub formula_ok : Signature → Formula → Bool
formula_ok sig = formula_in sig (is_closed_sort sig) []
