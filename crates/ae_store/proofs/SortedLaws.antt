-- Terms that may be entered are of the sorts of their nodes, and so are their fields.
use Rattle.std.specs.Prelude.{ℕ, ℤ, ◌<◌, Bool, true, false, cond, ◌||◌, List, [], ◌∷◌, ◌≡◌, map, length, slice_get, Option, Some, None}
use Rattle.std.specs.List.{list_all}
use Rattle.std.proofs.Common.{refl, sym, ap, ◌∙◌, subst, arith, inl, inr}
use Rattle.std.proofs.lemmas.Bool.{and_parts, or_cases, or_right}
use Rattle.ae_base.proofs.Tests.{false_true}
use Rattle.ae_base.proofs.Options.{known_some}
use Rattle.ae_core.proofs.ClosedSorts.{applied_is, field_sorted}
use Rattle.std.proofs.lemmas.List.{length-map}
use Rattle.std.proofs.lemmas.Option.{slice_get_within}
use Rattle.ae_base.specs.Options.{or_else, ◌>>=◌, when, all_known, known}
use Rattle.ae_core.specs.Putting.{put_sort}
use Rattle.ae_core.specs.Sorts.{is_closed_sort, sort_of, numeral_ok, applied_ok, predicate_ok, predicate_fits}
use Rattle.ae_core.specs.Signatures.{fields_of, IsLawful}
use Rattle.ae_core.proofs.SortLaws.{sort_in_num, sort_in_fresh}
use Rattle.ae_core.specs.declared.terms.Sort.{Sort, Sort-F, Int, Real, Bool as BoolSort, Named, out-Sort}
use Rattle.ae_core.specs.declared.terms.Sort.TheOpen as sort_layer
use Rattle.ae_core.specs.declared.terms.Sort.TheVariants.{outs-Named, outs-Bool}
use Rattle.ae_core.specs.declared.terms.Head.{Head}
use Rattle.ae_core.specs.declared.terms.Head.TheVariants as head
use Rattle.ae_core.specs.declared.terms.Term.{Term, Bound, Num, Fresh, Apply, out-Term}
use Rattle.ae_core.specs.declared.terms.Term.TheOpen as layer
use Rattle.ae_core.specs.declared.terms.Term.TheVariants.{outs-Apply, outs-Num, outs-Fresh}
use Rattle.ae_core.specs.declared.problems.Signature.{Signature}
use Rattle.ae_core.specs.declared.problems.SymbolEntry.{SymbolEntry}
use Rattle.ae_core.specs.declared.problems.TypeEntry.{TypeEntry}
use Rattle.ae_store.specs.declared.nodes.Node.{Node}
use Rattle.ae_store.specs.declared.nodes.Shape.{Shape}
use Rattle.ae_store.specs.Shapes.{shape_of, shapes}
use Rattle.ae_store.specs.Terms.{terms, named, node_sort, IsOfSort, IsSound}
use Rattle.ae_store.specs.Names.{enterable}
use Rattle.ae_store.specs.Fields.{count_of, field_count, head_of, field_head, args_of, sort_args}
use Rattle.ae_base.proofs.ListFacts.{value_at, get_map}
use Rattle.ae_store.proofs.NodeSortLaws.{node_sort_is}
use Rattle.ae_store.proofs.FieldLaws.{named_back}
use Rattle.ae_store.proofs.TermLaws.{length_terms}

when_same : (b : Bool) (t : Sort) → known (when b t) ≡ true → when b t ≡ Some t
when_same true t e = refl
when_same false t e = false_true e

pub number_of : (sig : Signature) (a b : ℤ) (r : Bool) → enterable sig (Num a b r) ≡ true → IsOfSort sig (Num a b r) (cond r Real Int)
number_of sig a b r e = elim (or_cases (known (sort_of sig (Num a b r))) (applied_ok sig (is_closed_sort sig) [] (out-Term (Num a b r))) e) [
  | inl h ↦ inl (let p = sort_in_num sig (is_closed_sort sig) [] a b r in p ∙ when_same (numeral_ok a b r) (cond r Real Int) (ap known (sym p) ∙ h))
  | inr h ↦ false_true (sym (ap (applied_ok sig (is_closed_sort sig) []) (outs-Num a b r)) ∙ h)
]

pub fresh_of : (sig : Signature) (n : ℕ) (s : Sort) → enterable sig (Fresh n s) ≡ true → IsOfSort sig (Fresh n s) s
fresh_of sig n s e = elim (or_cases (known (sort_of sig (Fresh n s))) (applied_ok sig (is_closed_sort sig) [] (out-Term (Fresh n s))) e) [
  | inl h ↦ inl (let p = sort_in_fresh sig (is_closed_sort sig) [] n s in p ∙ when_same (is_closed_sort sig s) s (ap known (sym p) ∙ h))
  | inr h ↦ false_true (sym (ap (applied_ok sig (is_closed_sort sig) []) (outs-Fresh n s)) ∙ h)
]

-- ---- applications
-- the node of a predicate's application has the sort `bool`
no_result : (x : SymbolEntry) (ss args : List Sort) (o : Option Sort) → x.result ≡ o → predicate_fits ss args x ≡ true → o ≡ None
no_result x ss args None p e = refl
no_result x ss args (Some r) p e = let f : ◌≡◌ {A = Bool} false true = rw p at e in cc f

symbol_bool : (sig : Signature) (n : ℕ) (ss args : List Sort) (o : Option SymbolEntry) → slice_get sig.symbols n ≡ o → or_else (o >>= λ x. Some (predicate_fits ss args x)) false ≡ true → node_sort sig (head.Symbol n) ss ≡ BoolSort
symbol_bool sig n ss args None p e = false_true e
symbol_bool sig n ss args (Some x) p e =
    let q : x.result ≡ None = no_result x ss args x.result refl e in
    (λ i. or_else (p i >>= λ (x : SymbolEntry). x.result >>= λ s. Some (put_sort ss s)) BoolSort) ∙ ap (λ (o : Option Sort). or_else (o >>= λ s. Some (put_sort ss s)) BoolSort) q

predicate_bool : (sig : Signature) (n : ℕ) (ss : List Sort) (o : Option (List Sort)) → predicate_ok sig (is_closed_sort sig) n ss o ≡ true → node_sort sig (head.Symbol n) ss ≡ BoolSort
predicate_bool sig n ss None e = false_true e
predicate_bool sig n ss (Some args) e =
    symbol_bool sig n ss args (slice_get sig.symbols n) refl (and_parts (list_all (is_closed_sort sig) ss) (or_else (slice_get sig.symbols n >>= λ x. Some (predicate_fits ss args x)) false) e).1

bool_of : (sig : Signature) (h : Head) (ss : List Sort) (us : List Term) → applied_ok sig (is_closed_sort sig) [] (layer.Apply h ss us) ≡ true → node_sort sig h ss ≡ BoolSort
bool_of sig (head.Symbol p) ss us e = predicate_bool sig p ss (all_known (map (sort_of sig) us)) e
bool_of sig (head.Build n) ss us e = false_true e
bool_of sig (head.Field n place) ss us e = false_true e
bool_of sig (head.Int o) ss us e = false_true e
bool_of sig (head.Real o) ss us e = false_true e
bool_of sig head.True ss us e = false_true e
bool_of sig head.False ss us e = false_true e
bool_of sig head.Void ss us e = false_true e

pub applied_of : (sig : Signature) (h : Head) (ss : List Sort) (us : List Term) → enterable sig (Apply h ss us) ≡ true → IsOfSort sig (Apply h ss us) (node_sort sig h ss)
applied_of sig h ss us e = elim (or_cases (known (sort_of sig (Apply h ss us))) (applied_ok sig (is_closed_sort sig) [] (out-Term (Apply h ss us))) e) [
  | inl k ↦ inl (
      let s = known_some (sort_of sig (Apply h ss us)) k in
      let a = applied_is sig h ss us s.0 s.1 in
      s.1 ∙ ap Some (sym (node_sort_is sig h ss a.args s.0 a.is)))
  | inr k ↦ inr (k, bool_of sig h ss us (sym (ap (applied_ok sig (is_closed_sort sig) []) (outs-Apply h ss us)) ∙ k))
]

pub of_enterable : (sig : Signature) (t : Term) (s : Sort) → IsOfSort sig t s → enterable sig t ≡ true
of_enterable sig t s (inl e) = ap (λ o. known o || applied_ok sig (is_closed_sort sig) [] (out-Term t)) e
of_enterable sig t s (inr e) = or_right (known (sort_of sig t)) (applied_ok sig (is_closed_sort sig) [] (out-Term t)) e.0

-- ---- fields
module _ (sig : Signature) (law : IsLawful sig) where
  named_of : (h k : ℕ) (ss : List Sort) (t : Term) (o : Option TypeEntry) → slice_get sig.types h ≡ o → k < length (or_else (o >>= λ (e : TypeEntry). Some (fields_of e)) []) → sort_of sig t ≡ Some (Named h ss)
      → IsOfSort sig (Apply (head.Field h k) ss (t ∷ [])) (node_sort sig (head.Field h k) ss)
  named_of h k ss t None p l e = absurd (omega (arith, l))
  named_of h k ss t (Some x) p l e =
      let f = value_at (fields_of x) k l in
      let q : node_sort sig (head.Field h k) ss ≡ put_sort ss f.0.sort =
      (λ i. or_else (p i >>= λ (e : TypeEntry). slice_get (fields_of e) k >>= λ f. Some (put_sort ss f.sort)) BoolSort) ∙ (λ i. or_else (f.1 i >>= λ f. Some (put_sort ss f.sort)) BoolSort) in
      inl (field_sorted sig law h k ss t x f.0 p f.1 e ∙ ap Some (sym q))

  owner_sort : (t : Term) (h : ℕ) (ss : List Sort) → IsOfSort sig t (Named h ss) → sort_of sig t ≡ Some (Named h ss)
  owner_sort t h ss (inl e) = e
  owner_sort t h ss (inr e) = let f : ◌≡◌ {A = Sort-F Sort} (sort_layer.Named h ss) sort_layer.Bool = sym (outs-Named h ss) ∙ ap out-Sort e.1 ∙ outs-Bool in cc f

  field_by : (t : Term) (s : Sort) (k : ℕ) (l : Sort-F Sort) → out-Sort s ≡ l → k < count_of sig l → IsOfSort sig t s → IsOfSort sig (Apply (head_of l k) (args_of l) (t ∷ [])) (node_sort sig (head_of l k) (args_of l))
  field_by t s k (sort_layer.Named h ss) p c o =
      named_of h k ss t (slice_get sig.types h) refl c (owner_sort t h ss (subst (IsOfSort sig t) (sym (named_back s h ss p)) o))
  field_by t s k (sort_layer.Var i) p c o = absurd (omega (arith, c))
  field_by t s k (sort_layer.Rigid i) p c o = absurd (omega (arith, c))
  field_by t s k sort_layer.Int p c o = absurd (omega (arith, c))
  field_by t s k sort_layer.Real p c o = absurd (omega (arith, c))
  field_by t s k sort_layer.Bool p c o = absurd (omega (arith, c))
  field_by t s k sort_layer.Unit p c o = absurd (omega (arith, c))

  pub field_of : (t : Term) (s : Sort) (k : ℕ) → k < field_count sig s → IsOfSort sig t s → IsOfSort sig (Apply (field_head s k) (sort_args s) (t ∷ [])) (node_sort sig (field_head s k) (sort_args s))
  unfolding field_count field_head sort_args
  field_of t s k c o = field_by t s k (out-Sort s) refl c o

  -- a field of the name a
  pub field_at_name : (ns : List Node) (a : ℕ) (s : Sort) (k : ℕ) (hd : Head) (ss : List Sort) → IsSound sig (shapes ns) → a < length ns → ((x : Shape) → slice_get (shapes ns) a ≡ Some x → x.sort ≡ s)
      → k < field_count sig s → hd ≡ field_head s k → ss ≡ sort_args s → IsOfSort sig (Apply hd ss (named (terms (shapes ns)) a ∷ [])) (node_sort sig hd ss)
  field_at_name ns a s k hd ss sound l q c e1 e2 =
      let n : length (shapes ns) ≡ length ns = length-map ns shape_of in
      let g = value_at (shapes ns) a (omega (arith, l, n)) in
      let t = value_at (terms (shapes ns)) a (omega (arith, l, n, length_terms (shapes ns))) in
      let o : IsOfSort sig t.0 s = subst (IsOfSort sig t.0) (q g.0 g.1) (sound.sorted.each a g.0 t.0 g.1 t.1) in
      let m : t.0 ≡ named (terms (shapes ns)) a = sym (ap (λ o. or_else o (Bound 0)) t.1) in
      let r = field_of t.0 s k c o in
      subst (λ u. IsOfSort sig (Apply hd ss (u ∷ [])) (node_sort sig hd ss)) m
      (subst (λ h. IsOfSort sig (Apply h ss (t.0 ∷ [])) (node_sort sig h ss)) (sym e1) (subst (λ z. IsOfSort sig (Apply (field_head s k) z (t.0 ∷ [])) (node_sort sig (field_head s k) z)) (sym e2) r))

pub node_sorted : (sig : Signature) (ns : List Node) (i : ℕ) (n : Node) (t : Term) → IsSound sig (shapes ns) → slice_get ns i ≡ Some n → slice_get (terms (shapes ns)) i ≡ Some t → IsOfSort sig t n.sort
node_sorted sig ns i n t sound e f = sound.sorted.each i (shape_of n) t (get_map shape_of ns i n e) f

pub term_enterable_at : (sig : Signature) (ns : List Node) (i : ℕ) (t : Term) → IsSound sig (shapes ns) → slice_get (terms (shapes ns)) i ≡ Some t → enterable sig t ≡ true
term_enterable_at sig ns i t sound e =
    let l : i < length (terms (shapes ns)) = slice_get_within (terms (shapes ns)) i t e in
    let g = value_at (shapes ns) i (omega (arith, l, length_terms (shapes ns))) in
    of_enterable sig t g.0.sort (sound.sorted.each i g.0 t g.1 e)
