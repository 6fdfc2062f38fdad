-- The sort of a node is that of its term.
use Rattle.std.specs.Prelude.{ℕ, Bool, true, false, nat_eq, ◌&&◌, List, [], ◌∷◌, ◌≡◌, map, length, slice_get, Option, Some, None}
use Rattle.std.proofs.Common.{refl, ap, ◌∙◌}
use Rattle.ae_core.specs.Sorts.{same_sorts, symbol_sort, record_sort, field_at, field_sort, operands, on_real, head_sort}
use Rattle.ae_core.specs.Putting.{put_sort}
use Rattle.ae_base.specs.Options.{or_else, ◌>>=◌, only, when}
use Rattle.ae_core.specs.Signatures.{fields_of}
use Rattle.ae_core.specs.declared.terms.Sort.{Sort, Int, Real, Named, Bool as BoolSort, Unit as UnitSort}
use Rattle.ae_core.specs.declared.terms.Head.{Head}
use Rattle.ae_core.specs.declared.terms.Head.TheVariants as head
use Rattle.ae_core.specs.declared.problems.Signature.{Signature}
use Rattle.ae_core.specs.declared.problems.SymbolEntry.{SymbolEntry}
use Rattle.ae_core.specs.declared.problems.TypeEntry.{TypeEntry}
use Rattle.ae_core.specs.declared.problems.FieldEntry.{FieldEntry}
use Rattle.ae_core.specs.declared.problems.Kind.{Kind}
use Rattle.ae_core.specs.declared.problems.Kind.TheVariants.{Abstract, Choices, Fields}
use Rattle.ae_store.specs.Terms.{node_sort}

when_is : (b : Bool) (t s : Sort) → when b t ≡ Some s → t ≡ s
when_is true t s e = let f : ◌≡◌ {A = Option Sort} (Some t) (Some s) = e in cc f
when_is false t s e = cc e

only_is : (b : Bool) (o : Option Sort) (f : Sort → Sort) (s : Sort) → (only b o >>= λ t. Some (f t)) ≡ Some s → (o >>= λ t. Some (f t)) ≡ Some s
only_is true o f s e = e
only_is false o f s e = cc e

symbol_is : (sig : Signature) (n : ℕ) (ss args : List Sort) (s : Sort) (o : Option SymbolEntry) → slice_get sig.symbols n ≡ o → (o >>= symbol_sort ss args) ≡ Some s
    → or_else (slice_get sig.symbols n >>= λ (e : SymbolEntry). e.result >>= λ t. Some (put_sort ss t)) BoolSort ≡ s
symbol_is sig n ss args s None p e = cc e
symbol_is sig n ss args s (Some x) p e =
    let q : (x.result >>= λ t. Some (put_sort ss t)) ≡ Some s = only_is (nat_eq (length ss) x.vars && same_sorts args (map (put_sort ss) x.args)) x.result (put_sort ss) s e in
    (λ i. or_else (p i >>= λ (e : SymbolEntry). e.result >>= λ t. Some (put_sort ss t)) BoolSort) ∙ ap (λ o. or_else o BoolSort) q

record_is : (n : ℕ) (ss args : List Sort) (s : Sort) (x : TypeEntry) (k : Kind) → x.kind ≡ k → record_sort n ss args x ≡ Some s → Named n ss ≡ s
record_is n ss args s x (Fields fs) p e =
    let q : when (nat_eq (length ss) x.arity && same_sorts args (map (λ (f : FieldEntry). put_sort ss f.sort) fs)) (Named n ss) ≡ Some s = rw p at e in
    when_is (nat_eq (length ss) x.arity && same_sorts args (map (λ (f : FieldEntry). put_sort ss f.sort) fs)) (Named n ss) s q
record_is n ss args s x Abstract p e = let q : ◌≡◌ {A = Option Sort} None (Some s) = rw p at e in cc q
record_is n ss args s x (Choices cs) p e = let q : ◌≡◌ {A = Option Sort} None (Some s) = rw p at e in cc q

build_is : (n : ℕ) (ss args : List Sort) (s : Sort) (o : Option TypeEntry) → (o >>= record_sort n ss args) ≡ Some s → Named n ss ≡ s
build_is n ss args s None e = cc e
build_is n ss args s (Some x) e = record_is n ss args s x x.kind refl e

only_some : {A : Type 0} (b : Bool) (o : Option A) (s : A) → only b o ≡ Some s → o ≡ Some s
only_some true o s e = e
only_some false o s e = cc e

field_is : (n place : ℕ) (ss args : List Sort) (s : Sort) (x : TypeEntry) (k : Kind) → x.kind ≡ k → field_sort n place ss args x ≡ Some s → (slice_get (fields_of x) place >>= λ (f : FieldEntry). Some (put_sort ss f.sort)) ≡ Some s
field_is n place ss args s x (Fields fs) p e =
    let q : only (nat_eq (length ss) x.arity && same_sorts args (Named n ss ∷ [])) (field_at ss fs place) ≡ Some s = rw p at e in
    let r : field_at ss fs place ≡ Some s = only_some (nat_eq (length ss) x.arity && same_sorts args (Named n ss ∷ [])) (field_at ss fs place) s q in
    let t : fields_of x ≡ fs = ap (λ k. elim k [ Fields fs ↦ fs | Abstract ↦ [] | Choices cs ↦ [] ]) p in
    ap (λ l. slice_get l place >>= λ (f : FieldEntry). Some (put_sort ss f.sort)) t ∙ r
field_is n place ss args s x Abstract p e = let q : ◌≡◌ {A = Option Sort} None (Some s) = rw p at e in cc q
field_is n place ss args s x (Choices cs) p e = let q : ◌≡◌ {A = Option Sort} None (Some s) = rw p at e in cc q

place_is : (sig : Signature) (n place : ℕ) (ss args : List Sort) (s : Sort) (o : Option TypeEntry) → slice_get sig.types n ≡ o → (o >>= field_sort n place ss args) ≡ Some s → node_sort sig (head.Field n place) ss ≡ s
place_is sig n place ss args s None p e = cc e
place_is sig n place ss args s (Some x) p e =
    let q = field_is n place ss args s x x.kind refl e in
    (λ i. or_else (p i >>= λ (e : TypeEntry). slice_get (fields_of e) place >>= λ f. Some (put_sort ss f.sort)) BoolSort) ∙ ap (λ o. or_else o BoolSort) q

-- where an application is well sorted, its node has its sort
pub node_sort_is : (sig : Signature) (h : Head) (ss args : List Sort) (s : Sort) → head_sort sig h ss args ≡ Some s → node_sort sig h ss ≡ s
node_sort_is sig (head.Symbol n) ss args s e = symbol_is sig n ss args s (slice_get sig.symbols n) refl e
node_sort_is sig (head.Build n) ss args s e = build_is n ss args s (slice_get sig.types n) e
node_sort_is sig (head.Field n place) ss args s e = place_is sig n place ss args s (slice_get sig.types n) refl e
node_sort_is sig (head.Int o) ss args s e = when_is (same_sorts ss [] && same_sorts args (operands o (Int ∷ []))) Int s e
node_sort_is sig (head.Real o) ss args s e = when_is (on_real o && same_sorts ss [] && same_sorts args (operands o (Real ∷ []))) Real s e
node_sort_is sig head.True ss args s e = when_is (same_sorts ss [] && same_sorts args []) BoolSort s e
node_sort_is sig head.False ss args s e = when_is (same_sorts ss [] && same_sorts args []) BoolSort s e
node_sort_is sig head.Void ss args s e = when_is (same_sorts ss [] && same_sorts args []) UnitSort s e
