-- Sorts of records, of predicates' applications, and of the arguments of a head.
use Rattle.std.specs.Prelude.{ℕ, Bool, true, ◌&&◌, List, [], ◌∷◌, ◌≡◌, map, length, slice_get, Option, Some, None}
use Rattle.std.proofs.Common.{refl, sym, ap, ◌∙◌}
use Rattle.std.proofs.lemmas.Bool.{and_parts}
use Rattle.std.proofs.lemmas.List.{length-map}
use Rattle.std.proofs.lemmas.Option.{same_Some, none-some}
use Rattle.ae_base.specs.Options.{or_else, when, ◌>>=◌}
use Rattle.ae_base.proofs.Options.{bind_some, when_some}
use Rattle.ae_base.proofs.Tests.{false_true}
use Rattle.ae_core.specs.Putting.{put_sort}
use Rattle.ae_core.specs.Signatures.{fields_of}
use Rattle.ae_core.specs.Sorts.{sort_of, is_closed_sort, same_sorts, head_sort, symbol_sort, operands, on_real, applied_ok}
use Rattle.ae_core.proofs.SortLaws.{formula_in_pred}
use Rattle.ae_core.specs.declared.terms.Sort.{Sort, Sort-F, Int, Real, Bool as BoolSort, Unit as UnitSort, out-Sort}
use Rattle.ae_core.specs.declared.terms.Sort.TheOpen as sort_layer
use Rattle.ae_core.specs.declared.terms.Term.{Term, Term-F, Apply, out-Term, roll-Term, roll-out-Term}
use Rattle.ae_core.specs.declared.terms.Term.TheOpen as layer
use Rattle.ae_core.specs.declared.terms.Term.TheVariants.{rolls-Apply, outs-Apply}
use Rattle.ae_core.specs.declared.terms.Head.{Head}
use Rattle.ae_core.specs.declared.terms.Head.TheVariants as head
use Rattle.ae_core.specs.declared.problems.Signature.{Signature}
use Rattle.ae_core.specs.declared.problems.SymbolEntry.{SymbolEntry}
use Rattle.ae_core.specs.declared.problems.TypeEntry.{TypeEntry}
use Rattle.ae_core.specs.declared.problems.FieldEntry.{FieldEntry}
use Rattle.ae_core.specs.declared.problems.Kind.{Kind}
use Rattle.ae_core.specs.declared.problems.Kind.TheVariants.{Abstract, Choices, Fields}
use Rattle.ae_journal.specs.Systems.{IsPredicateName, record_fields, fields_of as layer_fields}
use Rattle.ae_journal.specs.Evaluation.{result_sort}
use Rattle.ae_evaluation.proofs.Decisions.{same_list}
use Rattle.ae_evaluation.proofs.SortFacts.{is_applied, is_symbol, is_built, is_field, result_is, no_result}
use Rattle.ae_store.specs.Fields.{count_of, field_count, head_of, field_head, args_of, sort_args}

-- ---- records
pub record IsRecord (sig : Signature) (s : Sort) (ss : List Sort) : Type 0 where
  pub type : ℕ
  pub sorts : List Sort
  pub out : out-Sort s ≡ sort_layer.Named type sorts
  pub entry : TypeEntry
  pub at : slice_get sig.types type ≡ Some entry
  pub fields : List FieldEntry
  pub kind : entry.kind ≡ Fields fields
  pub are : ss ≡ map (λ f. put_sort sorts f.sort) fields

by_kind : (sig : Signature) (s : Sort) (ss : List Sort) (n : ℕ) (us : List Sort) → out-Sort s ≡ sort_layer.Named n us → (e : TypeEntry) → slice_get sig.types n ≡ Some e → (k : Kind) → e.kind ≡ k
    → elim k as (λ _. Option (List Sort)) [ Fields fs ↦ Some (map (λ f. put_sort us f.sort) fs) | Abstract ↦ None | Choices cs ↦ None ] ≡ Some ss → IsRecord sig s ss
by_kind sig s ss n us o e g Abstract k h = absurd (none-some ss h)
by_kind sig s ss n us o e g (Choices cs) k h = absurd (none-some ss h)
by_kind sig s ss n us o e g (Fields fs) k h =
    record { type = n; sorts = us; out = o; entry = e; at = g; fields = fs; kind = k; are = sym (same_Some (map (λ (f : FieldEntry). put_sort us f.sort) fs) ss h) }

by_layer : (sig : Signature) (s : Sort) (ss : List Sort) (l : Sort-F Sort) → out-Sort s ≡ l → layer_fields sig l ≡ Some ss → IsRecord sig s ss
by_layer sig s ss (sort_layer.Named n us) o h =
    let b = bind_some (slice_get sig.types n) (λ (e : TypeEntry). elim e.kind as (λ _. Option (List Sort)) [ Fields fs ↦ Some (map (λ f. put_sort us f.sort) fs) | Abstract ↦ None | Choices cs ↦ None ]) ss h in
    by_kind sig s ss n us o b.0 b.1 (b.0).kind refl b.2
by_layer sig s ss (sort_layer.Var i) o h = absurd (none-some ss h)
by_layer sig s ss (sort_layer.Rigid i) o h = absurd (none-some ss h)
by_layer sig s ss sort_layer.Int o h = absurd (none-some ss h)
by_layer sig s ss sort_layer.Real o h = absurd (none-some ss h)
by_layer sig s ss sort_layer.Bool o h = absurd (none-some ss h)
by_layer sig s ss sort_layer.Unit o h = absurd (none-some ss h)

pub is_record : (sig : Signature) (s : Sort) (ss : List Sort) → record_fields sig s ≡ Some ss → IsRecord sig s ss
is_record sig s ss h = by_layer sig s ss (out-Sort s) refl h

pub count_is : (sig : Signature) (s : Sort) (ss : List Sort) → IsRecord sig s ss → field_count sig s ≡ length ss
unfolding field_count
count_is sig s ss r =
    ap (count_of sig) r.out ∙ ap (λ (o : Option TypeEntry). length (or_else (o >>= λ e. Some (fields_of e)) [])) r.at
    ∙ ap (λ (k : Kind). length (elim k as (λ _. List FieldEntry) [ Fields fs ↦ fs | Abstract ↦ [] | Choices cs ↦ [] ])) r.kind
    ∙ sym (ap length r.are ∙ length-map r.fields (λ (f : FieldEntry). put_sort r.sorts f.sort))

pub head_is : (sig : Signature) (s : Sort) (ss : List Sort) (r : IsRecord sig s ss) (k : ℕ) → field_head s k ≡ head.Field r.type k
unfolding field_head
head_is sig s ss r k = ap (λ l. head_of l k) r.out

pub args_is : (sig : Signature) (s : Sort) (ss : List Sort) (r : IsRecord sig s ss) → sort_args s ≡ r.sorts
unfolding sort_args
args_is sig s ss r = ap args_of r.out

-- ---- predicates
predicate_by : (sig : Signature) (t : Term) (l : Term-F Term) → out-Term t ≡ l → applied_ok sig (is_closed_sort sig) [] l ≡ true → IsPredicateName sig t
predicate_by sig t (layer.Apply (head.Symbol p) ss us) o h =
    (p, ss, us, sym (roll-out-Term t) ∙ ap roll-Term o ∙ rolls-Apply (head.Symbol p) ss us, formula_in_pred sig (is_closed_sort sig) [] p ss us ∙ h)
predicate_by sig t (layer.Apply (head.Build n) ss us) o h = false_true h
predicate_by sig t (layer.Apply (head.Field n k) ss us) o h = false_true h
predicate_by sig t (layer.Apply (head.Int op) ss us) o h = false_true h
predicate_by sig t (layer.Apply (head.Real op) ss us) o h = false_true h
predicate_by sig t (layer.Apply head.True ss us) o h = false_true h
predicate_by sig t (layer.Apply head.False ss us) o h = false_true h
predicate_by sig t (layer.Apply head.Void ss us) o h = false_true h
predicate_by sig t (layer.Bound n) o h = false_true h
predicate_by sig t (layer.Num a b r) o h = false_true h
predicate_by sig t (layer.Fresh n s) o h = false_true h

pub predicate_of : (sig : Signature) (t : Term) → applied_ok sig (is_closed_sort sig) [] (out-Term t) ≡ true → IsPredicateName sig t
predicate_of sig t h = predicate_by sig t (out-Term t) refl h

-- a predicate's application has no sort
pub predicate_unsorted : (sig : Signature) (t : Term) (s : Sort) → IsPredicateName sig t → sort_of sig t ≡ Some s → ⊥
predicate_unsorted sig t s h o =
    let a = is_applied sig (head.Symbol h.0) h.1 h.2 s (ap (sort_of sig) (sym h.3) ∙ o) in
    none-some s (sym (no_result sig h.0 h.1 h.2 h.4 h.1) ∙ result_is sig (head.Symbol h.0) h.1 a.args s a.headed)

-- where a head has a result of a sort, no application of it is a predicate's
pub predicate_apart : (sig : Signature) (h : Head) (ss : List Sort) (us : List Term) (s : Sort) → IsPredicateName sig (Apply h ss us) → result_sort sig h ss ≡ Some s → ⊥
predicate_apart sig h ss us s p r =
    let e : ◌≡◌ {A = Term-F Term} (layer.Apply h ss us) (layer.Apply (head.Symbol p.0) p.1 p.2) = sym (outs-Apply h ss us) ∙ ap out-Term p.3 ∙ outs-Apply (head.Symbol p.0) p.1 p.2 in
    let is : h ≡ head.Symbol p.0 = cc e in
    none-some s (sym (no_result sig p.0 p.1 p.2 p.4 ss) ∙ ap (λ (k : Head). result_sort sig k ss) (sym is) ∙ r)

-- ---- the sorts of the arguments hang on the head and its sorts alone
by_when : (c : Bool) (os xs ys : List Sort) (o s t : Sort) → when (c && same_sorts xs os) o ≡ Some s → when (c && same_sorts ys os) o ≡ Some t → xs ≡ ys
by_when c os xs ys o s t e f =
    let a = and_parts c (same_sorts xs os) (when_some (c && same_sorts xs os) o s e).0 in
    let b = and_parts c (same_sorts ys os) (when_some (c && same_sorts ys os) o t f).0 in
    same_list xs os a.1 ∙ sym (same_list ys os b.1)

pub same_arguments : (sig : Signature) (h : Head) (ss xs ys : List Sort) (s t : Sort) → head_sort sig h ss xs ≡ Some s → head_sort sig h ss ys ≡ Some t → xs ≡ ys
same_arguments sig (head.Symbol n) ss xs ys s t e f =
    let a = bind_some (slice_get sig.symbols n) (symbol_sort ss xs) s e in
    let b = bind_some (slice_get sig.symbols n) (symbol_sort ss ys) t f in
    let same : a.0 ≡ b.0 = same_Some a.0 b.0 (sym a.1 ∙ b.1) in
    (is_symbol ss xs a.0 s a.2).args_are ∙ ap (λ (e : SymbolEntry). map (put_sort ss) e.args) same ∙ sym (is_symbol ss ys b.0 t b.2).args_are
same_arguments sig (head.Build n) ss xs ys s t e f = same_Some xs ys (sym (is_built sig n ss xs s e).fields ∙ (is_built sig n ss ys t f).fields)
same_arguments sig (head.Field n k) ss xs ys s t e f = (is_field sig n k ss xs s e).args_are ∙ sym (is_field sig n k ss ys t f).args_are
same_arguments sig (head.Int o) ss xs ys s t e f = by_when (same_sorts ss []) (operands o (Int ∷ [])) xs ys Int s t e f
same_arguments sig (head.Real o) ss xs ys s t e f = by_when (on_real o && same_sorts ss []) (operands o (Real ∷ [])) xs ys Real s t e f
same_arguments sig head.True ss xs ys s t e f = by_when (same_sorts ss []) [] xs ys BoolSort s t e f
same_arguments sig head.False ss xs ys s t e f = by_when (same_sorts ss []) [] xs ys BoolSort s t e f
same_arguments sig head.Void ss xs ys s t e f = by_when (same_sorts ss []) [] xs ys UnitSort s t e f
