-- A constructor's term has no sorts and no arguments, and its node is the constructor's.
use Rattle.std.proofs.lemmas.List.{nil_from_length}
use Rattle.std.specs.Prelude.{ℕ, ℤ, Bool, true, false, ◌&&◌, nat_eq, List, [], ◌∷◌, ◌≡◌, map, length, slice_get, Option, Some, None}
use Rattle.std.specs.List.{list_all}
use Rattle.std.proofs.Common.{refl, sym, ap, ◌∙◌, inl, inr}
use Rattle.std.proofs.lemmas.Bool.{and_parts, eqb-true}
use Rattle.std.proofs.lemmas.Option.{same_Some}
use Rattle.ae_base.specs.Options.{or_else, ◌>>=◌, only, when, all_known}
use Rattle.ae_base.proofs.Decided.{decided_yes}
use Rattle.ae_base.proofs.Options.{bind_some, only_some, when_some, cons_some}
use Rattle.ae_base.proofs.Tests.{false_true}
use Rattle.ae_base.proofs.ListFacts.{get_map}
use Rattle.ae_core.specs.Decided.{Sorts_discrete}
use Rattle.ae_core.specs.Putting.{put_sort}
use Rattle.ae_core.specs.Sorts.{sort_of, same_sort, same_sorts, is_closed_sort, symbol_sort, head_sort, predicate_fits, predicate_ok, applied_ok}
use Rattle.ae_core.specs.Signatures.{IsLawful, IsLawfulNature, IsEnumerated}
use Rattle.ae_core.proofs.ClosedSorts.{IsApplied, applied_is}
use Rattle.ae_core.specs.declared.problems.Signature.{Signature}
use Rattle.ae_core.specs.declared.problems.SymbolEntry.{SymbolEntry}
use Rattle.ae_core.specs.declared.problems.Nature.TheVariants.{Choice}
use Rattle.ae_core.specs.declared.terms.Sort.{Sort, Real, Named, Bool as BoolSort, Unit as UnitSort}
use Rattle.ae_core.specs.declared.terms.Head.{Head}
use Rattle.ae_core.specs.declared.terms.Head.TheVariants as head
use Rattle.ae_core.specs.declared.terms.Term.{Term, Term-F, Apply, Num, Fresh, out-Term}
use Rattle.ae_core.specs.declared.terms.Term.TheOpen as layer
use Rattle.ae_core.specs.declared.terms.Term.TheVariants.{outs-Apply, outs-Num, outs-Fresh}
use Rattle.ae_rules.specs.Derivations.{IsConstructor}
use Rattle.ae_store.specs.declared.nodes.NodeHead.{NodeHead}
use Rattle.ae_store.specs.declared.nodes.NodeHead.TheVariants as node
use Rattle.ae_store.specs.declared.nodes.Node.{Node}
use Rattle.ae_store.specs.Shapes.{shape_of, shapes}
use Rattle.ae_store.specs.Stores.{IsStore}
use Rattle.ae_store.specs.Terms.{terms, named, term_of, IsOfSort}
use Rattle.ae_store.proofs.TermLaws.{term_placed, placed}
use Rattle.ae_store.proofs.SortedLaws.{node_sorted}
use Rattle.ae_data.specs.Constructors.{NamesConstructor}

-- ---- what stands alone
none_known : (sig : Signature) (us : List Term) → all_known (map (sort_of sig) us) ≡ Some [] → us ≡ []
none_known sig [] e = refl
none_known sig (u ∷ us) e = let p = cons_some (sort_of sig u) (all_known (map (sort_of sig) us)) [] e in cc p.4

abbrev Alone : List Sort → List Term → Type 0
Alone ss us = (ss ≡ []) × (us ≡ [])

module _ (sig : Signature) (law : IsLawful sig) where
  -- a constant of the calculus' own
  own_alone : (h : Head) (ss : List Sort) (us : List Term) (s r : Sort) → IsApplied sig h ss us s
      → ((args : List Sort) → head_sort sig h ss args ≡ when (same_sorts ss [] && same_sorts args []) r) → Alone ss us
  own_alone h ss us s r a is =
      let w = when_some (same_sorts ss [] && same_sorts a.args []) r s (sym (is a.args) ∙ a.is) in
      let b = and_parts (same_sorts ss []) (same_sorts a.args []) w.0 in
      (decided_yes (Sorts_discrete ss []) b.0, none_known sig us (a.are ∙ ap Some (decided_yes (Sorts_discrete a.args []) b.1)))

  -- a declared constructor
  symbol_alone : (n : ℕ) (ss : List Sort) (us : List Term) (s : Sort) (e : SymbolEntry) (of place : ℕ) → slice_get sig.symbols n ≡ Some e → e.nature ≡ Choice of place
      → IsApplied sig (head.Symbol n) ss us s → Alone ss us
  symbol_alone n ss us s e of place at nature a =
      let lawful : IsLawfulNature sig e = (law.symbols n e at).2 in
      let parts : (e.vars ≡ 0) × (e.args ≡ []) × (e.result ≡ Some (Named of [])) × IsEnumerated sig of = rw nature at lawful in
      let b : Bool = nat_eq (length ss) e.vars && same_sorts a.args (map (put_sort ss) e.args) in
      let i : symbol_sort ss a.args e ≡ Some s = sym (ap (λ (o : Option SymbolEntry). o >>= symbol_sort ss a.args) at) ∙ a.is in
      let y = bind_some (only b e.result) (λ s. Some (put_sort ss s)) s i in
      let z = only_some b e.result y.0 y.1 in
      let w = and_parts (nat_eq (length ss) e.vars) (same_sorts a.args (map (put_sort ss) e.args)) z.0 in
      let none : a.args ≡ [] = decided_yes (Sorts_discrete a.args (map (put_sort ss) e.args)) w.1 ∙ ap (map (put_sort ss)) parts.1 in
      (nil_from_length ss (eqb-true (length ss) e.vars w.0 ∙ parts.0), none_known sig us (a.are ∙ ap Some none))

  no_predicate : (ss args : List Sort) (e : SymbolEntry) (r : Sort) → e.result ≡ Some r → predicate_fits ss args e ≡ false
  no_predicate ss args e r p = rw p refl

  fits_no_predicate : (n : ℕ) (ss : List Sort) (e : SymbolEntry) (of place : ℕ) → slice_get sig.symbols n ≡ Some e → e.nature ≡ Choice of place
      → (os : Option (List Sort)) → predicate_ok sig (is_closed_sort sig) n ss os ≡ true → ⊥
  fits_no_predicate n ss e of place at nature None o = false_true o
  fits_no_predicate n ss e of place at nature (Some args) o =
      let lawful : IsLawfulNature sig e = (law.symbols n e at).2 in
      let parts : (e.vars ≡ 0) × (e.args ≡ []) × (e.result ≡ Some (Named of [])) × IsEnumerated sig of = rw nature at lawful in
      let fits = (and_parts (list_all (is_closed_sort sig) ss) (or_else (slice_get sig.symbols n >>= λ x. Some (predicate_fits ss args x)) false) o).1 in
      false_true (sym (ap (λ (o : Option SymbolEntry). or_else (o >>= λ x. Some (predicate_fits ss args x)) false) at ∙ no_predicate ss args e (Named of []) parts.2) ∙ fits)

  alone_of : (h : Head) (ss : List Sort) (us : List Term) (s : Sort) → IsConstructor sig h → sort_of sig (Apply h ss us) ≡ Some s → Alone ss us
  alone_of (head.Symbol n) ss us s k e = symbol_alone n ss us s k.0 k.1 k.2 k.3 k.4 (applied_is sig (head.Symbol n) ss us s e)
  alone_of head.True ss us s k e = own_alone head.True ss us s BoolSort (applied_is sig head.True ss us s e) (λ args. refl)
  alone_of head.False ss us s k e = own_alone head.False ss us s BoolSort (applied_is sig head.False ss us s e) (λ args. refl)
  alone_of head.Void ss us s k e = own_alone head.Void ss us s UnitSort (applied_is sig head.Void ss us s e) (λ args. refl)
  alone_of (head.Build n) ss us s k e = absurd k
  alone_of (head.Field n place) ss us s k e = absurd k
  alone_of (head.Int o) ss us s k e = absurd k
  alone_of (head.Real o) ss us s k e = absurd k

  no_predicate_of : (h : Head) (ss : List Sort) (us : List Term) → IsConstructor sig h → applied_ok sig (is_closed_sort sig) [] (layer.Apply h ss us) ≡ true → ⊥
  no_predicate_of (head.Symbol n) ss us k o = fits_no_predicate n ss k.0 k.1 k.2 k.3 k.4 (all_known (map (sort_of sig) us)) o
  no_predicate_of head.True ss us k o = false_true o
  no_predicate_of head.False ss us k o = false_true o
  no_predicate_of head.Void ss us k o = false_true o
  no_predicate_of (head.Build n) ss us k o = absurd k
  no_predicate_of (head.Field n place) ss us k o = absurd k
  no_predicate_of (head.Int p) ss us k o = absurd k
  no_predicate_of (head.Real p) ss us k o = absurd k

  stands_alone : (h : Head) (ss : List Sort) (us : List Term) (s : Sort) → IsConstructor sig h → IsOfSort sig (Apply h ss us) s → Alone ss us
  stands_alone h ss us s k (inl e) = alone_of h ss us s k e
  stands_alone h ss us s k (inr e) = absurd (no_predicate_of h ss us k (sym (ap (applied_ok sig (is_closed_sort sig) []) (outs-Apply h ss us)) ∙ e.0))

-- ---- the node of a constructor
apply_head : (h k : Head) (ss rs : List Sort) (us vs : List Term) → Apply h ss us ≡ Apply k rs vs → h ≡ k
apply_head h k ss rs us vs e = let f : ◌≡◌ {A = Term-F Term} (layer.Apply h ss us) (layer.Apply k rs vs) = sym (outs-Apply h ss us) ∙ ap out-Term e ∙ outs-Apply k rs vs in cc f

num_apart : (h : Head) (a b : ℤ) (r : Bool) → Num a b r ≡ Apply h [] [] → ⊥
num_apart h a b r e = let f : ◌≡◌ {A = Term-F Term} (layer.Num a b r) (layer.Apply h [] []) = sym (outs-Num a b r) ∙ ap out-Term e ∙ outs-Apply h [] [] in cc f

fresh_apart : (h : Head) (n : ℕ) (s : Sort) → Fresh n s ≡ Apply h [] [] → ⊥
fresh_apart h n s e = let f : ◌≡◌ {A = Term-F Term} (layer.Fresh n s) (layer.Apply h [] []) = sym (outs-Fresh n s) ∙ ap out-Term e ∙ outs-Apply h [] [] in cc f

module _ (sig : Signature) (nodes : List Node) (store : IsStore sig nodes) (i : ℕ) (n : Node) (at : slice_get nodes i ≡ Some n) where
  abbrev ts : List Term
  ts = terms (shapes nodes)

  term_is : slice_get ts i ≡ Some (term_of ts (shape_of n))
  term_is = term_placed (shapes nodes) (placed sig (shapes nodes) store.sound) i (shape_of n) (get_map shape_of nodes i n at)

  -- the name of a constructor's node is that of the constructor
  pub named_by : (h : Head) → n.head ≡ node.Of h → IsConstructor sig h → NamesConstructor sig ts i h
  named_by h is k =
      let q : term_of ts (shape_of n) ≡ Apply h n.sorts (map (named ts) n.args) = cc is in
      let t : slice_get ts i ≡ Some (Apply h n.sorts (map (named ts) n.args)) = term_is ∙ ap Some q in
      let alone = stands_alone sig store.lawful h n.sorts (map (named ts) n.args) n.sort k (node_sorted sig nodes i n (Apply h n.sorts (map (named ts) n.args)) store.sound at t) in
      record { term = t ∙ (λ j. Some (Apply h (alone.0 j) (alone.1 j))); constructor = k }

  head_by : (h : Head) (k : NodeHead) → n.head ≡ k → term_of ts (shape_of n) ≡ Apply h [] [] → k ≡ node.Of h
  head_by h (node.Of k) is e =
      let q : Apply k n.sorts (map (named ts) n.args) ≡ Apply h [] [] = cc (is, e) in
      ap node.Of (apply_head k h n.sorts [] (map (named ts) n.args) [] q)
  head_by h (node.Num a b) is e = absurd (num_apart h a b (same_sort n.sort Real) (cc (is, e)))
  head_by h (node.Fresh m) is e = absurd (fresh_apart h m n.sort (cc (is, e)))

  -- and only that
  pub node_by : (h : Head) → NamesConstructor sig ts i h → n.head ≡ node.Of h
  node_by h c = head_by h n.head refl (same_Some (term_of ts (shape_of n)) (Apply h [] []) (sym term_is ∙ c.term))
