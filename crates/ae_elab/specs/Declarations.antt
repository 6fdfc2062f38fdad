-- The typing rules of declarations, one for each production, and of a whole file.
use Rattle.std.specs.Prelude.{ℕ, zero, suc, Bool, true, false, not, ◌||◌, List, [], ◌∷◌, ◌++◌, map, length, Option, Some, None}
use Rattle.std.specs.Option.{is_some}
use Rattle.ae_core.specs.declared.terms.Sort.{Sort, Sort-F, Var, Rigid, Int, Real, Bool as BoolSort, Unit as UnitSort, Named, fold-Sort}
use Rattle.ae_core.specs.declared.terms.Sort.TheOpen as sort_layer
use Rattle.ae_core.specs.declared.terms.Head.TheVariants as head
use Rattle.ae_core.specs.declared.problems.Signature.{Signature}
use Rattle.ae_core.specs.declared.problems.SymbolEntry.{SymbolEntry}
use Rattle.ae_core.specs.declared.problems.TypeEntry.{TypeEntry}
use Rattle.ae_core.specs.declared.problems.FieldEntry.{FieldEntry}
use Rattle.ae_core.specs.declared.problems.Kind.{Kind}
use Rattle.ae_core.specs.declared.problems.Kind.TheVariants.{Abstract, Choices, Fields}
use Rattle.ae_core.specs.declared.problems.Nature.{Nature}
use Rattle.ae_core.specs.declared.problems.Nature.TheVariants.{Free, Ac, Choice}
use Rattle.ae_core.specs.Sorts.{same_sort}
use Rattle.ae_syntax.specs.declared.spans.Span.{Span}
use Rattle.ae_syntax.specs.declared.types.WrittenType.{WrittenType}
use Rattle.ae_syntax.specs.declared.exprs.Expr.{Expr}
use Rattle.ae_syntax.specs.declared.exprs.Quantifier.TheVariants as quantifier
use Rattle.ae_syntax.specs.declared.decls.TypedName.{TypedName}
use Rattle.ae_syntax.specs.declared.decls.SymbolResult.{SymbolResult}
use Rattle.ae_syntax.specs.declared.decls.Decl.{Decl}
use Rattle.ae_syntax.specs.declared.decls.DeclKind.{DeclKind}
use Rattle.ae_syntax.specs.declared.decls.DeclKind.TheVariants as kind
use Rattle.ae_syntax.specs.declared.decls.File.{File}
use Rattle.ae_elab.specs.declared.faults.TypeFault.{TypeFault}
use Rattle.ae_elab.specs.declared.faults.TypeFault.TheVariants as fault
use Rattle.ae_elab.specs.Conditions.{Condition, test}
use Rattle.ae_elab.specs.Trees.{Tree, Trees, Claim, none, more, trees, no_pattern, and_pattern, equal, variable, apply, relation, predicate, equivalence, quantified}
use Rattle.ae_elab.specs.Scope.{Scope, name_in, is_among, type_number, symbol_number, field_place}
use Rattle.ae_elab.specs.Rules.{Stated, Rule, give, ◌>>◌, ◌⇒◌, all_of, each, fresh, count_written, as_formula, wanted}
use Rattle.ae_elab.specs.declared.grounds.Ground.{Ground}
use Rattle.ae_elab.specs.declared.grounds.Ground.TheVariants as ground
use Rattle.ae_elab.specs.WrittenTypes.{type_rule}
use Rattle.ae_elab.specs.Formulas.{Bound, with_block}
use Rattle.ae_elab.specs.Expressions.{part_of}

-- an axiom or a goal that is typed and not yet elaborated, with its declaration's place
pub record Draft : Type 0 where
  pub place : Span
  pub is_goal : Bool
  pub name : List ℕ
  pub claim : Claim

-- what a declaration gives: the declarations so far, and the axiom or goal that it is
pub record Declared : Type 0 where
  pub signature : Signature
  pub drafts : List Draft

abbrev pub only_declared : Signature → Declared
only_declared sig = record { signature = sig; drafts = [] }

abbrev pub declared : Signature → Rule Declared
declared sig = give (only_declared sig)

abbrev pub drafted : Signature → Span → Bool → List ℕ → Claim → Rule Declared
drafted sig place is_goal name f = give (record { signature = sig; drafts = record { place = place; is_goal = is_goal; name = name; claim = f } ∷ [] })

-- ---- names that are declared once
abbrev pub twice : List ℕ → Span → TypeFault
twice text s = fault.Twice (name_in text s) s.from s.to

abbrev pub new_type : List ℕ → Signature → Span → Condition
new_type text sig s = test (not (is_some (type_number sig (name_in text s)))) (twice text s)

abbrev pub new_symbol : List ℕ → Signature → Span → Condition
new_symbol text sig s = test (not (is_some (symbol_number sig (name_in text s)))) (twice text s)

abbrev pub has_field : List TypeEntry → List ℕ → Bool
has_field es name = elim (field_place (record { types = es; symbols = [] }) name) [ Some f ↦ true | None ↦ false ]

-- names of which none is among those before it
abbrev pub all_different : List ℕ → List (List ℕ) → List Span → List Condition
all_different text seen [] = []
all_different text seen (s ∷ ss) = test (not (is_among (name_in text s) seen)) (twice text s) ∷ all_different text (name_in text s ∷ seen) ss

-- ---- entries
abbrev pub with_types : Signature → List TypeEntry → Signature
with_types sig es = record { types = sig.types ++ es; symbols = sig.symbols }

abbrev pub with_symbols : Signature → List SymbolEntry → Signature
with_symbols sig es = record { types = sig.types; symbols = sig.symbols ++ es }

abbrev pub type_entry : List ℕ → ℕ → Kind → TypeEntry
type_entry name arity kind = record { name = name; arity = arity; kind = kind }

-- a symbol's entry: its written type variables are those of the entry
abbrev pub generalize_step : Sort-F Sort → Sort
generalize_step (sort_layer.Rigid i) = Var i
generalize_step (sort_layer.Var i) = Var i
generalize_step sort_layer.Int = Int
generalize_step sort_layer.Real = Real
generalize_step sort_layer.Bool = BoolSort
generalize_step sort_layer.Unit = UnitSort
generalize_step (sort_layer.Named h args) = Named h args

unfoldable pub generalize : Sort → Sort
generalize = fold-Sort Sort generalize_step

abbrev pub generalized : Option Sort → Option Sort
generalized (Some s) = Some (generalize s)
generalized None = None

abbrev pub symbol_entry : List ℕ → ℕ → List Sort → Option Sort → Nature → SymbolEntry
symbol_entry name vars args result nature = record {
  name = name;
  vars = vars;
  args = map generalize args;
  result = generalized result;
  nature = nature;
}

abbrev pub scope_of : List ℕ → Signature → Scope
scope_of text sig = record { text = text; signature = sig; locals = [] }

-- ---- `type`
-- Fields, each with its name looked at before its sort. The type's name is known in them, and their own names before
-- them. `before` are the types before, `entry` makes the type's entry.
abbrev pub fields_rule : List ℕ → Signature → Ground → (List FieldEntry → TypeEntry) → List FieldEntry → List TypedName → Rule (List FieldEntry)
fields_rule text sig g entry got [] = give got
fields_rule text sig g entry got (x ∷ xs) =
    let here = with_types sig (entry got ∷ []) in
    test (not (has_field here.types (name_in text x.name))) (twice text x.name)
    ⇒ type_rule x.sort g (scope_of text here) >> λ s. fields_rule text sig g entry (got ++ record { name = name_in text x.name; sort = s } ∷ []) xs

abbrev pub type_decl : List ℕ → Signature → List Span → Span → List TypedName → Rule Declared
type_decl text sig params n [] =
    all_of (all_different text [] params) (new_type text sig n ⇒ declared (with_types sig (type_entry (name_in text n) (length params) Abstract ∷ [])))
type_decl text sig params n (x ∷ xs) =
    let entry = λ (fs : List FieldEntry). type_entry (name_in text n) (length params) (Fields fs) in
    all_of (all_different text [] params) (new_type text sig n
    ⇒ fields_rule text sig (ground.InField (map (name_in text) params) (length sig.types)) entry [] (x ∷ xs) >> λ fs. declared (with_types sig (entry fs ∷ [])))

-- ---- `type` with constructors
abbrev pub constructors_from : List ℕ → ℕ → ℕ → List Span → List SymbolEntry
constructors_from text of place [] = []
constructors_from text of place (c ∷ cs) =
    symbol_entry (name_in text c) 0 [] (Some (Named of [])) (Choice of place) ∷ constructors_from text of (suc place) cs

-- constructors' names: no symbol has them, and none of those before
abbrev pub new_symbols : List ℕ → Signature → List (List ℕ) → List Span → List Condition
new_symbols text sig seen [] = []
new_symbols text sig seen (c ∷ cs) =
    test (not (is_some (symbol_number sig (name_in text c)) || is_among (name_in text c) seen)) (twice text c)
    ∷ new_symbols text sig (name_in text c ∷ seen) cs

abbrev pub count_from : {A : Type 0} → ℕ → List A → List ℕ
count_from n [] = []
count_from n (x ∷ xs) = n ∷ count_from (suc n) xs

abbrev pub enumeration_decl : List ℕ → Signature → Span → List Span → Rule Declared
enumeration_decl text sig n cs =
    new_type text sig n
    ⇒ all_of (new_symbols text sig [] cs)
    (declared
    (with_symbols (with_types sig (type_entry (name_in text n) 0 (Choices (count_from (length sig.symbols) cs)) ∷ []))
    (constructors_from text (length sig.types) 0 cs)))

-- ---- `logic`
abbrev pub result_rule : List ℕ → Signature → Option WrittenType → Rule (Option Sort)
result_rule text sig None = give None
result_rule text sig (Some w) = type_rule w ground.Free (scope_of text sig) >> λ s. give (Some s)

-- two equal arguments, and that same result
abbrev pub is_ac : List Sort → Option Sort → Bool
is_ac (s ∷ t ∷ []) (Some r) = elim (same_sort s t) [ true ↦ same_sort s r | false ↦ false ]
is_ac ss r = false

abbrev pub may_be_ac : Bool → List Sort → Option Sort → Bool
may_be_ac true ss r = is_ac ss r
may_be_ac false ss r = true

abbrev pub nature_of : Bool → Nature
nature_of true = Ac
nature_of false = Free

abbrev pub logic_decl : List ℕ → Signature → Span → Bool → List Span → List WrittenType → SymbolResult → Rule Declared
logic_decl text sig place ac names args result =
    all_of (new_symbols text sig [] names) (
    each (λ w. type_rule w ground.Free (scope_of text sig)) args >> λ ss. result_rule text sig result.sort >> λ r.
    test (may_be_ac ac ss r) (fault.BadAc place.from place.to)
    ⇒ count_written >> λ n. declared (with_symbols sig (map (λ x. symbol_entry (name_in text x) n ss r (nature_of ac)) names)))

-- ---- `function` and `predicate`
-- formals: each name is looked at before its sort
abbrev pub formals_rule : List ℕ → Signature → List (List ℕ) → List TypedName → Rule (List Bound)
formals_rule text sig seen [] = give []
formals_rule text sig seen (x ∷ xs) =
    test (not (is_among (name_in text x.name) seen)) (twice text x.name)
    ⇒ type_rule x.sort ground.Free (scope_of text sig) >> λ s. fresh >> λ n. formals_rule text sig (name_in text x.name ∷ seen) xs >> λ bs.
    give (record { name = name_in text x.name; number = n; sort = s } ∷ bs)

abbrev pub rigids : ℕ → ℕ → List Sort
rigids i zero = []
rigids i (suc n) = Rigid i ∷ rigids (suc i) n

abbrev pub sorts_of : List Bound → List Sort
sorts_of bs = map (λ b. b.sort) bs

-- the defined symbol, of number k, applied to the formals
abbrev pub formal_args : List Bound → Trees
formal_args bs = trees (map (λ b. variable b.number) bs)

-- the axiom of a definition: for all formals, with the defined application as the trigger; without formals no block
abbrev pub defining : List Bound → Span → Tree → Claim → Claim
defining [] place t f = f
defining (b ∷ bs) place t f =
    quantified quantifier.Forall (map (λ b. b.number) (b ∷ bs)) (sorts_of (b ∷ bs)) (and_pattern place (more t none) no_pattern) f

-- the symbol is known in its own body
abbrev pub function_decl : List ℕ → Signature → Span → Span → List TypedName → WrittenType → Expr → Rule Declared
function_decl text sig place n formals result body =
    new_symbol text sig n
    ⇒ formals_rule text sig [] formals >> λ bs. type_rule result ground.Free (scope_of text sig) >> λ s. count_written >> λ vars.
    let after = with_symbols sig (symbol_entry (name_in text n) vars (sorts_of bs) (Some s) Free ∷ []) in
    wanted (with_block bs (scope_of text after)) s (part_of body) >> λ t.
    let head = apply (head.Symbol (length sig.symbols)) (rigids 0 vars) (formal_args bs) in
    drafted after place false (name_in text n) (defining bs n head (relation equal head t))

abbrev pub predicate_decl : List ℕ → Signature → Span → Span → List TypedName → Expr → Rule Declared
predicate_decl text sig place n formals body =
    new_symbol text sig n
    ⇒ formals_rule text sig [] formals >> λ bs. count_written >> λ vars.
    let after = with_symbols sig (symbol_entry (name_in text n) vars (sorts_of bs) None Free ∷ []) in
    as_formula (with_block bs (scope_of text after)) (part_of body) >> λ f.
    let k = length sig.symbols in
    drafted after place false (name_in text n)
    (defining bs n (apply (head.Symbol k) (rigids 0 vars) (formal_args bs)) (equivalence (predicate k (rigids 0 vars) (formal_args bs)) f))

-- ---- `axiom` and `goal`: their names aren't looked up
abbrev pub statement_decl : List ℕ → Signature → Span → Bool → Span → Expr → Rule Declared
statement_decl text sig place is_goal n body = as_formula (scope_of text sig) (part_of body) >> λ f. drafted sig place is_goal (name_in text n) f

-- ---- one case for each production
abbrev pub kind_rule : List ℕ → Signature → Span → DeclKind → Rule Declared
kind_rule text sig place (kind.Type params n fields) = type_decl text sig params n fields
kind_rule text sig place (kind.Enumeration n cs) = enumeration_decl text sig n cs
kind_rule text sig place (kind.Logic ac names args result) = logic_decl text sig place ac names args result
kind_rule text sig place (kind.Function n formals result body) = function_decl text sig place n formals result body
kind_rule text sig place (kind.Predicate n formals body) = predicate_decl text sig place n formals body
kind_rule text sig place (kind.Axiom n body) = statement_decl text sig place false n body
kind_rule text sig place (kind.Goal n body) = statement_decl text sig place true n body

-- a declaration begins without type variables of its own
abbrev pub alone : {A : Type 0} → Rule A → Rule A
alone r p = r (record { next = p.next; written = [] })

abbrev pub decl_rule : List ℕ → Signature → Decl → Rule Declared
decl_rule text sig d = alone (kind_rule text sig d.span d.kind)

-- declarations are taken in order
abbrev pub decls_rule : List ℕ → Signature → List Decl → Rule Declared
decls_rule text sig [] = declared sig
decls_rule text sig (d ∷ ds) =
    decl_rule text sig d >> λ a. decls_rule text a.signature ds >> λ b. give (record { signature = b.signature; drafts = a.drafts ++ b.drafts })

abbrev pub no_declarations : Signature
no_declarations = record { types = []; symbols = [] }

-- what a file states
abbrev pub file_states : List ℕ → File → Stated Declared
file_states text file = decls_rule text no_declarations file.decls (record { next = 0; written = [] })

abbrev pub conditions_of : List ℕ → File → List Condition
conditions_of text file = (file_states text file).conditions

abbrev pub declared_by : List ℕ → File → Declared
declared_by text file = (file_states text file).value
