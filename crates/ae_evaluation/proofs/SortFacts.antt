-- What the sort of an application says of its arguments and its head.
use Rattle.std.specs.Prelude.{ℕ, Bool, true, false, ◌&&◌, ◌||◌, nat_eq, List, [], ◌∷◌, ◌≡◌, map, length, slice_get, Option, Some, None}
use Rattle.std.specs.List.{list_all}
use Rattle.std.proofs.Common.{inl, inr}
use mathlib.Core.Path.{refl, sym, ap, ◌∙◌, subst}
use Rattle.ae_base.specs.Options.{or_else, all_known, only, when, ◌>>=◌}
use Rattle.ae_core.specs.Sorts.{sort_of, sort_in, is_closed_sort, same_sorts, same_sort, is_numeric, symbol_sort, record_sort, field_sort, field_at, head_sort}
use Rattle.ae_core.specs.Sorts.{operands, on_real, predicate_ok, predicate_fits, formula_ok}
use Rattle.ae_core.specs.Putting.{put_sort}
use Rattle.ae_rules.specs.Lines.{IsAc, IsNumeric}
use Rattle.ae_core.specs.Signatures.{IsLawful, IsLawfulNature, IsEnumerated}
use Rattle.ae_core.specs.declared.terms.Sort.{Sort, Int, Real, Bool as BoolSort, Unit as UnitSort, Named}
use Rattle.ae_core.specs.declared.terms.Term.{Term, Apply}
use Rattle.ae_core.specs.declared.terms.Head.{Head}
use Rattle.ae_core.specs.declared.terms.Head.TheVariants as head
use Rattle.ae_core.specs.declared.terms.Op.TheVariants as op
use Rattle.ae_core.specs.declared.problems.Signature.{Signature}
use Rattle.ae_core.specs.declared.problems.SymbolEntry.{SymbolEntry}
use Rattle.ae_core.specs.declared.problems.TypeEntry.{TypeEntry}
use Rattle.ae_core.specs.declared.problems.FieldEntry.{FieldEntry}
use Rattle.ae_core.specs.declared.problems.Kind.{Kind}
use Rattle.ae_core.specs.declared.problems.Kind.TheVariants.{Abstract, Choices, Fields}
use Rattle.ae_core.specs.declared.problems.Nature.{Nature}
use Rattle.ae_core.specs.declared.problems.Nature.TheVariants.{Free, Ac, Choice}
use Rattle.ae_journal.specs.Systems.{record_fields}
use Rattle.ae_journal.specs.Evaluation.{result_sort}
use Rattle.ae_evaluation.proofs.Decisions.{same_list}
use Rattle.ae_base.specs.Decided.{decided}
use Rattle.ae_core.specs.Decided.{Sort_discrete}
use Rattle.ae_core.proofs.SortLaws.{formula_in_pred}
use Rattle.ae_core.specs.declared.formulas.Formula.{Pred}
use Rattle.ae_evaluation.proofs.Plainness.{sort-Apply}
use Rattle.ae_evaluation.proofs.Respect.{fields_named}
use Rattle.ae_base.proofs.Decided.{decided_of}
use Rattle.ae_base.proofs.ListFacts.{get_map}
use Rattle.ae_base.proofs.Options.{bind_some, only_some, when_some}
use Rattle.std.proofs.lemmas.Bool.{and_parts}
use Rattle.std.proofs.lemmas.Option.{same_Some}
use Rattle.std.proofs.Math.Bool.{or-true}

-- ---- options

-- ---- the arguments of a well-sorted application
pub record IsApplied (sig : Signature) (h : Head) (ss : List Sort) (ts : List Term) (s : Sort) : Type 0 where
  pub args : List Sort
  pub known : all_known (map (sort_of sig) ts) ≡ Some args
  pub headed : head_sort sig h ss args ≡ Some s

pub is_applied : (sig : Signature) (h : Head) (ss : List Sort) (ts : List Term) (s : Sort) → sort_of sig (Apply h ss ts) ≡ Some s
    → IsApplied sig h ss ts s
is_applied sig h ss ts s e =
    let b =
    bind_some (only (list_all (is_closed_sort sig) ss) (all_known (map (sort_of sig) ts))) (head_sort sig h ss) s
    (sym (sort-Apply sig h ss ts) ∙ e) in
    record { args = b.0; known = (only_some (list_all (is_closed_sort sig) ss) (all_known (map (sort_of sig) ts)) b.0 b.1).1; headed = b.2 }

-- ---- the result's sort, by the head and its sorts alone
pub record IsSymbol (ss args : List Sort) (e : SymbolEntry) (s : Sort) : Type 0 where
  pub args_are : args ≡ map (put_sort ss) e.args
  pub result : Sort
  pub results : e.result ≡ Some result
  pub put : put_sort ss result ≡ s

pub is_symbol : (ss args : List Sort) (e : SymbolEntry) (s : Sort) → symbol_sort ss args e ≡ Some s → IsSymbol ss args e s
is_symbol ss args e s h =
    let b =
    bind_some (only (nat_eq (length ss) e.vars && same_sorts args (map (put_sort ss) e.args)) e.result) (λ s. Some (put_sort ss s)) s h in
    let o = only_some (nat_eq (length ss) e.vars && same_sorts args (map (put_sort ss) e.args)) e.result b.0 b.1 in
    record {
      args_are = same_list args (map (put_sort ss) e.args)
          (and_parts (nat_eq (length ss) e.vars) (same_sorts args (map (put_sort ss) e.args)) o.0).1;
      result = b.0;
      results = o.1;
      put = same_Some (put_sort ss b.0) s b.2;
    }

pub record IsBuilt (sig : Signature) (n : ℕ) (ss args : List Sort) (s : Sort) : Type 0 where
  pub fields : record_fields sig (Named n ss) ≡ Some args
  pub is : Named n ss ≡ s

pub is_built : (sig : Signature) (n : ℕ) (ss args : List Sort) (s : Sort) → head_sort sig (head.Build n) ss args ≡ Some s
    → IsBuilt sig n ss args s
is_built sig n ss args s h =
    let b = bind_some (slice_get sig.types n) (record_sort n ss args) s h in
    go b.0 b.1 (b.0).kind refl b.2
  where
    go : (e : TypeEntry) → slice_get sig.types n ≡ Some e → (k : Kind) → e.kind ≡ k
        → elim k as (λ _. Option Sort) [
          | Fields fs ↦ when (nat_eq (length ss) e.arity && same_sorts args (map (λ f. put_sort ss f.sort) fs))
              (Named n ss)
          | Abstract ↦ None
          | Choices cs ↦ None
        ] ≡ Some s
        → IsBuilt sig n ss args s
    go e at Abstract k h = absurd (cc)
    go e at (Choices cs) k h = absurd (cc)
    go e at (Fields fs) k h =
        let w =
        when_some (nat_eq (length ss) e.arity && same_sorts args (map (λ (f : FieldEntry). put_sort ss f.sort) fs)) (Named n ss) s h in
        let same =
        same_list args (map (λ (f : FieldEntry). put_sort ss f.sort) fs)
        (and_parts (nat_eq (length ss) e.arity) (same_sorts args (map (λ (f : FieldEntry). put_sort ss f.sort) fs)) w.0).1 in
        record { fields = fields_named sig n ss e fs at k ∙ ap (λ (os : List Sort). Some os) (sym same); is = w.1 }

pub record IsField (sig : Signature) (n place : ℕ) (ss args : List Sort) (s : Sort) : Type 0 where
  pub args_are : args ≡ Named n ss ∷ []
  pub sorts : List Sort
  pub fields : record_fields sig (Named n ss) ≡ Some sorts
  pub at : slice_get sorts place ≡ Some s

pub is_field : (sig : Signature) (n place : ℕ) (ss args : List Sort) (s : Sort) → head_sort sig (head.Field n place) ss args ≡ Some s
    → IsField sig n place ss args s
is_field sig n place ss args s h =
    let b = bind_some (slice_get sig.types n) (field_sort n place ss args) s h in
    go b.0 b.1 (b.0).kind refl b.2
  where
    go : (e : TypeEntry) → slice_get sig.types n ≡ Some e → (k : Kind) → e.kind ≡ k
        → elim k as (λ _. Option Sort) [
          | Fields fs ↦ only (nat_eq (length ss) e.arity && same_sorts args (Named n ss ∷ []))
              (field_at ss fs place)
          | Abstract ↦ None
          | Choices cs ↦ None
        ] ≡ Some s
        → IsField sig n place ss args s
    go e at Abstract k h = absurd (cc)
    go e at (Choices cs) k h = absurd (cc)
    go e at (Fields fs) k h =
        let o = only_some (nat_eq (length ss) e.arity && same_sorts args (Named n ss ∷ [])) (field_at ss fs place) s h in
        let f = bind_some (slice_get fs place) (λ f. Some (put_sort ss f.sort)) s o.1 in
        record {
          args_are = same_list args (Named n ss ∷ []) (and_parts (nat_eq (length ss) e.arity) (same_sorts args (Named n ss ∷ [])) o.0).1;
          sorts = map (λ (f : FieldEntry). put_sort ss f.sort) fs;
          fields = fields_named sig n ss e fs at k;
          at = get_map (λ (f : FieldEntry). put_sort ss f.sort) fs place f.0 f.1 ∙ f.2;
        }

pub result_is : (sig : Signature) (h : Head) (ss args : List Sort) (s : Sort) → head_sort sig h ss args ≡ Some s
    → result_sort sig h ss ≡ Some s
result_is sig (head.Symbol n) ss args s h =
    let b = bind_some (slice_get sig.symbols n) (symbol_sort ss args) s h in
    let i = is_symbol ss args b.0 s b.2 in
    ap (λ (o : Option SymbolEntry). o >>= λ e. e.result >>= λ s. Some (put_sort ss s)) b.1 ∙ ap
    (λ (o : Option Sort). o >>= λ s. Some (put_sort ss s)) i.results ∙ ap (λ (q : Sort). Some q) i.put
result_is sig (head.Build n) ss args s h = ap (λ (q : Sort). Some q) (is_built sig n ss args s h).is
result_is sig (head.Field n i) ss args s h =
    let f = is_field sig n i ss args s h in ap (λ (o : Option (List Sort)). o >>= λ fs. slice_get fs i) f.fields ∙ f.at
result_is sig (head.Int o) ss args s h =
    ap (λ (q : Sort). Some q) (when_some (same_sorts ss [] && same_sorts args (operands o (Int ∷ []))) Int s h).1
result_is sig (head.Real o) ss args s h =
    ap (λ (q : Sort). Some q) (when_some (on_real o && same_sorts ss [] && same_sorts args (operands o (Real ∷ []))) Real s h).1
result_is sig head.True ss args s h = ap (λ (q : Sort). Some q) (when_some (same_sorts ss [] && same_sorts args []) BoolSort s h).1
result_is sig head.False ss args s h = ap (λ (q : Sort). Some q) (when_some (same_sorts ss [] && same_sorts args []) BoolSort s h).1
result_is sig head.Void ss args s h = ap (λ (q : Sort). Some q) (when_some (same_sorts ss [] && same_sorts args []) UnitSort s h).1

-- ---- an AC application joins two arguments of its own sort
ac_sorts : (sig : Signature) (e : SymbolEntry) → e.nature ≡ Ac → IsLawfulNature sig e
    → (o : Sort) × (e.args ≡ o ∷ o ∷ []) × (e.result ≡ Some o)
ac_sorts sig e n l = go e.nature n l
  where
    go : (m : Nature) → m ≡ Ac
        → elim m as (λ _. Type 0) [
          | Free ↦ Unit {0}
          | Ac ↦ (s : Sort) × (e.args ≡ s ∷ s ∷ []) × (e.result ≡ Some s)
          | Choice of place ↦
              (e.vars ≡ 0) × (e.args ≡ []) × (e.result ≡ Some (Named of [])) × IsEnumerated sig of
        ]
        → (o : Sort) × (e.args ≡ o ∷ o ∷ []) × (e.result ≡ Some o)
    go Free n l = absurd (cc)
    go Ac n l = l
    go (Choice of place) n l = absurd (cc)

ac_symbol : (sig : Signature) (ss args : List Sort) (s : Sort) (e : SymbolEntry) → IsLawfulNature sig e → e.nature ≡ Ac
    → symbol_sort ss args e ≡ Some s → args ≡ s ∷ s ∷ []
ac_symbol sig ss args s e l n h =
    let j = is_symbol ss args e s h in
    let a = ac_sorts sig e n l in
    let r : a.0 ≡ j.result = same_Some a.0 j.result (sym a.2 ∙ j.results) in
    j.args_are ∙ ap (map (put_sort ss)) a.1 ∙ ap (λ (o : Sort). put_sort ss o ∷ put_sort ss o ∷ []) r ∙ ap (λ (o : Sort). o ∷ o ∷ []) j.put

-- the product of a numeric sort
product_arguments : (b : Bool) (ss args : List Sort) (o s : Sort) → when (same_sorts ss [] && same_sorts args (o ∷ o ∷ [])) o ≡ Some s
    → args ≡ s ∷ s ∷ []
product_arguments b ss args o s h =
    let w = when_some (same_sorts ss [] && same_sorts args (o ∷ o ∷ [])) o s h in
    same_list args (o ∷ o ∷ []) (and_parts (same_sorts ss []) (same_sorts args (o ∷ o ∷ [])) w.0).1 ∙ ap (λ (o : Sort). o ∷ o ∷ []) w.1

pub ac_arguments : (sig : Signature) → IsLawful sig → (h : Head) (ss args : List Sort) (s : Sort) → IsAc sig h
    → head_sort sig h ss args ≡ Some s → args ≡ s ∷ s ∷ []
ac_arguments sig lawful (head.Symbol n) ss args s i h =
    let b = bind_some (slice_get sig.symbols n) (symbol_sort ss args) s h in
    let same : b.0 ≡ i.0 = same_Some b.0 i.0 (sym b.1 ∙ i.1) in
    ac_symbol sig ss args s i.0 (lawful.symbols n i.0 i.1).2 i.2 (subst (λ (e : SymbolEntry). symbol_sort ss args e ≡ Some s) same b.2)
ac_arguments sig lawful (head.Int op.Mul) ss args s i h = product_arguments true ss args Int s h
ac_arguments sig lawful (head.Real op.Mul) ss args s i h = product_arguments true ss args Real s h
ac_arguments sig lawful (head.Build n) ss args s i h = absurd i
ac_arguments sig lawful (head.Field n k) ss args s i h = absurd i
ac_arguments sig lawful head.True ss args s i h = absurd i
ac_arguments sig lawful head.False ss args s i h = absurd i
ac_arguments sig lawful head.Void ss args s i h = absurd i
ac_arguments sig lawful (head.Int op.Add) ss args s i h = absurd i
ac_arguments sig lawful (head.Int op.Sub) ss args s i h = absurd i
ac_arguments sig lawful (head.Int op.Neg) ss args s i h = absurd i
ac_arguments sig lawful (head.Int op.Div) ss args s i h = absurd i
ac_arguments sig lawful (head.Int op.Mod) ss args s i h = absurd i
ac_arguments sig lawful (head.Real op.Add) ss args s i h = absurd i
ac_arguments sig lawful (head.Real op.Sub) ss args s i h = absurd i
ac_arguments sig lawful (head.Real op.Neg) ss args s i h = absurd i
ac_arguments sig lawful (head.Real op.Div) ss args s i h = absurd i
ac_arguments sig lawful (head.Real op.Mod) ss args s i h = absurd i

-- ---- numeric sorts
pub numeric_is : (s : Sort) → is_numeric s ≡ true → IsNumeric s
numeric_is s e = go (Sort_discrete s Int) (Sort_discrete s Real) e
  where
    go : (d : Dec (s ≡ Int)) (f : Dec (s ≡ Real)) → decided d || decided f ≡ true → IsNumeric s
    go (yes p) f e = inl p
    go (no n) (yes p) e = inr p
    go (no n) (no m) e = absurd (cc)

pub of_numeric : (s : Sort) → IsNumeric s → is_numeric s ≡ true
of_numeric s (inl e) = ap (λ b. b || same_sort s Real) (decided_of (Sort_discrete s Int) e)
of_numeric s (inr e) = ap (λ b. same_sort s Int || b) (decided_of (Sort_discrete s Real) e) ∙ or-true (same_sort s Int)

-- ---- a predicate's application has no sort
predicate_none : (ss args : List Sort) (e : SymbolEntry) → predicate_fits ss args e ≡ true → e.result ≡ None
predicate_none ss args e h = go e.result h
  where
    go : (o : Option Sort)
        → elim o as (λ _. Bool) [ Some r ↦ false | None ↦ nat_eq (length ss) e.vars && same_sorts args (map (put_sort ss) e.args) ] ≡ true
        → o ≡ None
    go None h = refl
    go (Some r) h = absurd (cc)

pub no_result : (sig : Signature) (p : ℕ) (ss : List Sort) (us : List Term) → formula_ok sig (Pred p ss us) ≡ true → (os : List Sort)
    → result_sort sig (head.Symbol p) os ≡ None
no_result sig p ss us h os =
    by_args (all_known (map (sort_in sig (is_closed_sort sig) []) us)) (sym (formula_in_pred sig (is_closed_sort sig) [] p ss us) ∙ h)
  where
    by_entry : (args : List Sort) (o : Option SymbolEntry) → or_else (o >>= λ e. Some (predicate_fits ss args e)) false ≡ true
        → (o >>= λ e. e.result >>= λ s. Some (put_sort os s)) ≡ None
    by_entry args None h = refl
    by_entry args (Some e) h = ap (λ (r : Option Sort). r >>= λ s. Some (put_sort os s)) (predicate_none ss args e h)

    by_args : (m : Option (List Sort)) → predicate_ok sig (is_closed_sort sig) p ss m ≡ true → result_sort sig (head.Symbol p) os ≡ None
    by_args None h = absurd (cc)
    by_args (Some args) h =
        by_entry args (slice_get sig.symbols p)
        (and_parts (list_all (is_closed_sort sig) ss)
        (or_else (slice_get sig.symbols p >>= λ e. Some (predicate_fits ss args e)) false) h).1
