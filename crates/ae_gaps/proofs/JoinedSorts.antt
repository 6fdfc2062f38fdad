-- Names that apply a value's head are well sorted; those that apply an AC symbol are of the sort of their two arguments.
use Rattle.std.specs.Prelude.{ℕ, ◌≡◌, Bool, true, false, ◌&&◌, ◌||◌, List, [], ◌∷◌, map, slice_get, Option, Some, None}
use Rattle.std.specs.List.{list_all}
use Rattle.std.proofs.Common.{refl, sym, ap, ◌∙◌, subst, inl, inr}
use Rattle.std.proofs.lemmas.Bool.{and_parts}
use Rattle.std.proofs.lemmas.Option.{none-some, same_Some}
use Rattle.ae_base.specs.Options.{or_else, ◌>>=◌, known, all_known}
use Rattle.ae_base.proofs.ListFacts.{cons_head, cons_tail}
use Rattle.ae_base.proofs.Options.{known_each, known_some}
use Rattle.ae_base.proofs.Tests.{false_true}
use Rattle.ae_core.specs.Signatures.{IsLawful, IsLawfulNature}
use Rattle.ae_core.specs.Sorts.{sort_of, is_closed_sort, head_sort, predicate_ok, predicate_fits, applied_ok}
use Rattle.ae_core.specs.declared.problems.AcSymbol.{AcSymbol}
use Rattle.ae_core.specs.declared.problems.Nature.{Nature}
use Rattle.ae_core.specs.declared.problems.Nature.TheVariants.{Free, Ac, Choice}
use Rattle.ae_core.specs.declared.problems.Signature.{Signature}
use Rattle.ae_core.specs.declared.problems.SymbolEntry.{SymbolEntry}
use Rattle.ae_core.specs.declared.terms.Head.{Head}
use Rattle.ae_core.specs.declared.terms.Head.TheVariants as head
use Rattle.ae_core.specs.declared.terms.Op.TheVariants as op
use Rattle.ae_core.specs.declared.terms.Sort.{Sort}
use Rattle.ae_core.specs.declared.terms.Term.{Term, Apply}
use Rattle.ae_core.specs.declared.terms.Term.TheOpen as layer
use Rattle.ae_core.specs.declared.terms.Term.TheVariants.{outs-Apply}
use Rattle.ae_core.proofs.ClosedSorts.{applied_is}
use Rattle.ae_evaluation.proofs.Plainness.{plain-Apply}
use Rattle.ae_evaluation.proofs.SortFacts.{ac_arguments}
use Rattle.ae_journal.specs.Systems.{IsJoin}
use Rattle.ae_just.specs.Steps.{IsSymbolOfNames}
use Rattle.ae_multiset_steps.specs.Equating.{AreNamesOf}
use Rattle.ae_rules.specs.Linear.{form, is_number, is_plain, plain_here}
use Rattle.ae_rules.specs.Lines.{IsAc}
use Rattle.ae_settled.specs.Swept.{IsJoinOf}
use Rattle.ae_store.specs.Shapes.{shapes}
use Rattle.ae_store.specs.Stores.{IsStore}
use Rattle.ae_store.specs.Terms.{terms, named, IsOfSort as IsTermOfSort}
use Rattle.ae_store.specs.declared.nodes.Node.{Node}
use Rattle.ae_store.specs.declared.nodes.NodeHead.TheVariants.{Of}
use Rattle.ae_store.proofs.SortedLaws.{node_sorted}
use Rattle.ae_store.proofs.StoreLaws.{name_term}
use Rattle.ae_strips.proofs.FieldTerms.{term_there}
use Rattle.ae_sweeps.specs.Gaps.{IsPredicate}

-- ---- heads of values
fits_none : (x : SymbolEntry) (ss args : List Sort) (o : Option Sort) → x.result ≡ o → predicate_fits ss args x ≡ true → o ≡ None
fits_none x ss args None p e = refl
fits_none x ss args (Some r) p e = let f : ◌≡◌ {A = Bool} false true = rw p at e in cc f

-- what a predicate's application applies is a predicate
predicate_by_entry : (sig : Signature) (p : ℕ) (ss args : List Sort) (o : Option SymbolEntry) → slice_get sig.symbols p ≡ o → or_else (o >>= λ e. Some (predicate_fits ss args e)) false ≡ true → IsPredicate sig (head.Symbol p)
predicate_by_entry sig p ss args None at e = false_true e
predicate_by_entry sig p ss args (Some x) at e = (x, at, fits_none x ss args x.result refl e)

predicate_by_args : (sig : Signature) (p : ℕ) (ss : List Sort) (o : Option (List Sort)) → predicate_ok sig (is_closed_sort sig) p ss o ≡ true → IsPredicate sig (head.Symbol p)
predicate_by_args sig p ss None e = false_true e
predicate_by_args sig p ss (Some args) e =
    predicate_by_entry sig p ss args (slice_get sig.symbols p) refl
    (and_parts (list_all (is_closed_sort sig) ss) (or_else (slice_get sig.symbols p >>= λ x. Some (predicate_fits ss args x)) false) e).1

predicate_head : (sig : Signature) (h : Head) (ss : List Sort) (us : List Term) → applied_ok sig (is_closed_sort sig) [] (layer.Apply h ss us) ≡ true → IsPredicate sig h
predicate_head sig (head.Symbol p) ss us e = predicate_by_args sig p ss (all_known (map (sort_of sig) us)) e
predicate_head sig (head.Build n) ss us e = false_true e
predicate_head sig (head.Field n i) ss us e = false_true e
predicate_head sig (head.Int o) ss us e = false_true e
predicate_head sig (head.Real o) ss us e = false_true e
predicate_head sig head.True ss us e = false_true e
predicate_head sig head.False ss us e = false_true e
predicate_head sig head.Void ss us e = false_true e

-- a name that applies the head of a value is well sorted
pub value_sorted : (sig : Signature) (nodes : List Node) → IsStore sig nodes → (n : ℕ) (p : Node) (h : Head) → slice_get nodes n ≡ Some p → p.head ≡ Of h → ¬ IsPredicate sig h
    → known (sort_of sig (named (terms (shapes nodes)) n)) ≡ true
value_sorted sig nodes store n p h at is value = by_sort (node_sorted sig nodes n p t store.sound at there)
  where
    us : List Term
    us = map (named (terms (shapes nodes))) p.args

    t : Term
    t = Apply h p.sorts us

    there : slice_get (terms (shapes nodes)) n ≡ Some t
    there = term_there sig nodes store n p h at is

    by_sort : IsTermOfSort sig t p.sort → known (sort_of sig (named (terms (shapes nodes)) n)) ≡ true
    by_sort (inl e) = ap (λ (u : Term). known (sort_of sig u)) (name_term (terms (shapes nodes)) n t there) ∙ ap known e
    by_sort (inr e) = absurd (value (predicate_head sig h p.sorts us (ap (applied_ok sig (is_closed_sort sig) []) (sym (outs-Apply h p.sorts us)) ∙ e.0)))

-- ---- AC symbols
join_ac : (sig : Signature) (h : Head) (a b : Term) → IsJoin sig h a b → IsAc sig h
join_ac sig (head.Symbol n) a b j = j
join_ac sig (head.Build n) a b j = absurd j
join_ac sig (head.Field n i) a b j = absurd j
join_ac sig (head.Int op.Add) a b j = absurd j
join_ac sig (head.Int op.Sub) a b j = absurd j
join_ac sig (head.Int op.Neg) a b j = absurd j
join_ac sig (head.Int op.Mul) a b j = tt
join_ac sig (head.Int op.Div) a b j = absurd j
join_ac sig (head.Int op.Mod) a b j = absurd j
join_ac sig (head.Real op.Add) a b j = absurd j
join_ac sig (head.Real op.Sub) a b j = absurd j
join_ac sig (head.Real op.Neg) a b j = absurd j
join_ac sig (head.Real op.Mul) a b j = tt
join_ac sig (head.Real op.Div) a b j = absurd j
join_ac sig (head.Real op.Mod) a b j = absurd j
join_ac sig head.True a b j = absurd j
join_ac sig head.False a b j = absurd j
join_ac sig head.Void a b j = absurd j

-- the symbol is declared, or the product of two terms that are no numbers isn't plain
unplain_product : (h : Head) (ss : List Sort) (a b : Term) → plain_here h (a ∷ b ∷ []) ≡ is_number (form a) || is_number (form b) → is_number (form a) ≡ false → is_number (form b) ≡ false
    → is_plain (Apply h ss (a ∷ b ∷ [])) ≡ false
unplain_product h ss a b e f g = plain-Apply h ss (a ∷ b ∷ []) ∙ ap (λ (z : Bool). z && list_all is_plain (a ∷ b ∷ [])) (e ∙ (λ i. f i || g i))

join_of_names : (sig : Signature) (ts : List Term) (n : ℕ) (h : Head) (ss : List Sort) (a b : Term) → slice_get ts n ≡ Some (Apply h ss (a ∷ b ∷ [])) → IsJoin sig h a b → IsSymbolOfNames sig ts h ss
join_of_names sig ts n (head.Symbol k) ss a b at j = inl (k, refl, j, record { name = n; arguments = a ∷ b ∷ []; there = at })
join_of_names sig ts n (head.Int op.Mul) ss a b at j = inr (n, Apply (head.Int op.Mul) ss (a ∷ b ∷ []), at, unplain_product (head.Int op.Mul) ss a b refl j.0 j.1)
join_of_names sig ts n (head.Real op.Mul) ss a b at j = inr (n, Apply (head.Real op.Mul) ss (a ∷ b ∷ []), at, unplain_product (head.Real op.Mul) ss a b refl j.0 j.1)
join_of_names sig ts n (head.Build m) ss a b at j = absurd j
join_of_names sig ts n (head.Field m i) ss a b at j = absurd j
join_of_names sig ts n (head.Int op.Add) ss a b at j = absurd j
join_of_names sig ts n (head.Int op.Sub) ss a b at j = absurd j
join_of_names sig ts n (head.Int op.Neg) ss a b at j = absurd j
join_of_names sig ts n (head.Int op.Div) ss a b at j = absurd j
join_of_names sig ts n (head.Int op.Mod) ss a b at j = absurd j
join_of_names sig ts n (head.Real op.Add) ss a b at j = absurd j
join_of_names sig ts n (head.Real op.Sub) ss a b at j = absurd j
join_of_names sig ts n (head.Real op.Neg) ss a b at j = absurd j
join_of_names sig ts n (head.Real op.Div) ss a b at j = absurd j
join_of_names sig ts n (head.Real op.Mod) ss a b at j = absurd j
join_of_names sig ts n head.True ss a b at j = absurd j
join_of_names sig ts n head.False ss a b at j = absurd j
join_of_names sig ts n head.Void ss a b at j = absurd j

ac_result : (sig : Signature) (e : SymbolEntry) (k : Nature) → e.nature ≡ k → k ≡ Ac → IsLawfulNature sig e → e.result ≡ None → ⊥
ac_result sig e Ac p q l r =
    let s : (s : Sort) × (e.args ≡ s ∷ s ∷ []) × (e.result ≡ Some s) = rw p at l in
    none-some s.0 (sym r ∙ s.2)
ac_result sig e Free p q l r = cc q
ac_result sig e (Choice n k) p q l r = cc q

ac_value : (sig : Signature) → IsLawful sig → (h : Head) → IsAc sig h → ¬ IsPredicate sig h
ac_value sig lawful (head.Symbol n) a p =
    let e = a.0 in
    let same : p.0 ≡ e = same_Some p.0 e (sym p.1 ∙ a.1) in
    ac_result sig e e.nature refl a.2 (lawful.symbols n e a.1).2 (ap (λ (x : SymbolEntry). x.result) (sym same) ∙ p.2)
ac_value sig lawful (head.Int o) a p = p
ac_value sig lawful (head.Real o) a p = p
ac_value sig lawful (head.Build n) a p = p
ac_value sig lawful (head.Field n i) a p = p
ac_value sig lawful head.True a p = p
ac_value sig lawful head.False a p = p
ac_value sig lawful head.Void a p = p

module _ (sig : Signature) (nodes : List Node) (store : IsStore sig nodes) (n : ℕ) (p : Node) (u : AcSymbol) (i j : ℕ) (at : slice_get nodes n ≡ Some p) (join : IsJoinOf sig nodes p u i j) where
  abbrev ts : List Term
  ts = terms (shapes nodes)

  is_ac : IsAc sig u.head
  is_ac = join_ac sig u.head (named ts i) (named ts j) join.joins

  -- its term is the symbol's, of the terms of the two names
  pub join_there : slice_get ts n ≡ Some (Apply u.head u.sorts (named ts i ∷ named ts j ∷ []))
  join_there = term_there sig nodes store n p u.head at join.head ∙ (λ k. Some (Apply u.head (join.sorts k) (map (named ts) (join.args k))))

  pub join_named : named ts n ≡ Apply u.head u.sorts (named ts i ∷ named ts j ∷ [])
  join_named = name_term ts n (Apply u.head u.sorts (named ts i ∷ named ts j ∷ [])) join_there

  pub join_names : AreNamesOf sig ts u (i ∷ j ∷ n ∷ [])
  join_names =
      let k = known_some (sort_of sig (named ts n)) (value_sorted sig nodes store n p u.head at join.head (ac_value sig store.lawful u.head is_ac)) in
      let s = k.0 in
      let a = applied_is sig u.head u.sorts (named ts i ∷ named ts j ∷ []) s (ap (sort_of sig) (sym join_named) ∙ k.1) in
      let two : a.args ≡ s ∷ s ∷ [] = ac_arguments sig store.lawful u.head u.sorts a.args s is_ac a.is in
      let each : ◌≡◌ {A = List (Option Sort)} (sort_of sig (named ts i) ∷ sort_of sig (named ts j) ∷ []) (Some s ∷ Some s ∷ []) =
      known_each (sort_of sig) (named ts i ∷ named ts j ∷ []) a.args a.are ∙ ap (map Some) two in
      let first = cons_head (sort_of sig (named ts i)) (Some s) (sort_of sig (named ts j) ∷ []) (Some s ∷ []) each in
      let second = cons_head (sort_of sig (named ts j)) (Some s) [] [] (cons_tail (sort_of sig (named ts i)) (Some s) (sort_of sig (named ts j) ∷ []) (Some s ∷ []) each) in
      record {
        sort = s;
        symbol = record { ac = is_ac; closed = a.closed; headed = subst (λ (os : List Sort). head_sort sig u.head u.sorts os ≡ Some s) two a.is };
        of_names = join_of_names sig ts n u.head u.sorts (named ts i) (named ts j) join_there join.joins;
        sorted = (first, (second, (k.1, tt)));
      }
