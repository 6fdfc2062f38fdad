-- A formula whose sorts are changed part by part is well sorted where it was, and where each changed sort may stand: formulas.
use Rattle.std.proofs.Common.{◌≡◌, ◌∙◌, ℕ, Bool, true, false, ◌&&◌, ◌||◌, nat_eq, List, [], ◌∷◌, ◌++◌, map, length, refl, sym, ap, subst, Option}
use Rattle.std.proofs.Common.{Some, None, slice_get, true≢false}
use Rattle.std.specs.List.{AllByRecursion, list_all, flat_map}
use Rattle.std.proofs.lemmas.Bool.{and_parts, and_from, or_right, eqb-true, eq-eqb}
use Rattle.std.proofs.lemmas.List.{length-map, map-append}
use Rattle.std.proofs.lemmas.Option.{same_Some}
use Rattle.ae_base.specs.Options.{or_else, ◌>>=◌, all_known, known}
use Rattle.ae_base.proofs.AllOf.{all_front, all_back}
use Rattle.ae_base.proofs.Decided.{decided_of, decided_yes}
use Rattle.ae_base.proofs.Options.{known_some, cons_some}
use Rattle.ae_base.proofs.Tests.{by_either, three_parts, false_true}
use Rattle.ae_core.specs.Decided.{Sort_discrete, Sorts_discrete}
use Rattle.ae_core.specs.Inner.Induction.{by_terms, by_formulas}
use Rattle.ae_core.specs.Putting.{put_sort}
use Rattle.ae_core.specs.Signatures.{is_sort_over, IsLawful}
use Rattle.ae_core.specs.Sorts.{sort_in, same_sort, same_sorts, same_known, same_numeric, is_numeric, predicate_fits, predicate_ok, applied_ok}
use Rattle.ae_core.specs.Sorts.{trigger_ok, formula_in, quant_in}
use Rattle.ae_core.proofs.SortFacts.{same_known_is, same_known_of, numeric_known}
use Rattle.ae_core.proofs.SortLaws.{formula_in_true, formula_in_false, formula_in_eq, formula_in_lt, formula_in_le, formula_in_pred, formula_in_not}
use Rattle.ae_core.proofs.SortLaws.{formula_in_and, formula_in_or, formula_in_xor, formula_in_iff, formula_in_all, formula_in_ex, quant_in_block}
use Rattle.ae_core.specs.declared.terms.Sort.{Sort, Int, Real}
use Rattle.ae_core.specs.declared.terms.Head.{Head}
use Rattle.ae_core.specs.declared.terms.Head.TheVariants as head
use Rattle.ae_core.specs.declared.terms.Term.{Term, Term-F, Bound, Num, Fresh, Apply, out-Term, out-roll-Term}
use Rattle.ae_core.specs.declared.terms.Term.TheOpen as layer
use Rattle.ae_core.specs.declared.terms.Term.TheVariants.{rolls-Bound, rolls-Num, rolls-Fresh, rolls-Apply}
use Rattle.ae_core.specs.declared.formulas.Formula.{Formula, And, Or, Xor, Iff}
use Rattle.ae_core.specs.declared.formulas.Quant.{Quant}
use Rattle.ae_core.specs.declared.problems.Signature.{Signature}
use Rattle.ae_core.specs.declared.problems.SymbolEntry.{SymbolEntry}
use Rattle.ae_elab.specs.Numbering.{sorts_in_term, sorts_in, sorts_in_block, with_sorts_term, with_sorts, with_sorts_block}
use Rattle.ae_elab.proofs.NumberRules.{with_apply, in_apply, with_true, with_false, with_eq, with_lt, with_le, with_pred, with_not, with_and, with_or}
use Rattle.ae_elab.proofs.NumberRules.{with_xor, with_iff, with_all, with_ex, with_block, in_eq, in_lt, in_le, in_pred, in_not, in_and, in_or, in_xor}
use Rattle.ae_elab.proofs.NumberRules.{in_iff, in_all, in_ex, in_block}
use Rattle.ae_lawful_problems.proofs.NumberedSorts.{term_changed}
use Rattle.ae_lawful_problems.proofs.PutFits.{Changes, puts_changed}

module _ (F : Signature) (law : IsLawful F) (r : Sort → Sort) (change : Changes r) (may may' : Sort → Bool) where
  abbrev May : List Sort → Type 0
  May ss = AllByRecursion (λ s. may s ≡ true → may' (r s) ≡ true) ss

  abbrev terms : Term → Term
  terms = with_sorts_term r

  module _ (E : List Sort) where
    abbrev sort : Term → Option Sort
    sort = sort_in F may E

    abbrev sort' : Term → Option Sort
    sort' = sort_in F may' (map r E)

    changed : (t : Term) (s : Sort) → sort t ≡ Some s → May (sorts_in_term t) → sort' (terms t) ≡ Some (r s)
    changed t s e a = term_changed F law r change may may' E t s e a

    two_changed : (a b : Term) → same_known (sort a) (sort b) ≡ true → May (sorts_in_term a ++ sorts_in_term b) → (s : Sort) × (sort a ≡ Some s) × (sort b ≡ Some s) × (sort' (terms a) ≡ Some (r s)) × (sort' (terms b) ≡ Some (r s))
    two_changed a b h c =
        let k = same_known_is (sort a) (sort b) h in
        let x = known_some (sort a) k.0 in
        let b_is = sym k.1 ∙ x.1 in
        let Kept = λ (s : Sort). may s ≡ true → may' (r s) ≡ true in
        (x.0, x.1, b_is, changed a x.0 x.1 (all_front Kept (sorts_in_term a) (sorts_in_term b) c), changed b x.0 b_is (all_back Kept (sorts_in_term a) (sorts_in_term b) c))

    same_changed : (a b : Term) → same_known (sort a) (sort b) ≡ true → May (sorts_in_term a ++ sorts_in_term b) → same_known (sort' (terms a)) (sort' (terms b)) ≡ true
    same_changed a b h c =
        let x = two_changed a b h c in
        same_known_of (sort' (terms a)) (sort' (terms b)) (ap known x.3) (x.3 ∙ sym x.4)

    numeric_of : (a b : Option Sort) (s : Sort) → a ≡ Some s → b ≡ Some s → same_numeric a b ≡ true → is_numeric s ≡ true
    numeric_of a b s i j h = (and_parts (same_sort s s) (is_numeric s) (sym (ap (λ o. same_numeric o b) i ∙ ap (same_numeric (Some s)) j) ∙ h)).1

    numeric_stays : (s : Sort) → is_numeric s ≡ true → is_numeric (r s) ≡ true
    numeric_stays s h =
        by_either (same_sort s Int) (same_sort s Real) h
        (λ i. ap (λ b. b || same_sort (r s) Real) (decided_of (Sort_discrete (r s) Int) (ap r (decided_yes (Sort_discrete s Int) i) ∙ change.int)))
        (λ i. or_right (same_sort (r s) Int) (same_sort (r s) Real) (decided_of (Sort_discrete (r s) Real) (ap r (decided_yes (Sort_discrete s Real) i) ∙ change.real)))

    numeric_changed : (a b : Term) → same_numeric (sort a) (sort b) ≡ true → May (sorts_in_term a ++ sorts_in_term b) → same_numeric (sort' (terms a)) (sort' (terms b)) ≡ true
    numeric_changed a b h c =
        let x = two_changed a b (numeric_known (sort a) (sort b) h) c in
        ap (λ o. same_numeric o (sort' (terms b))) x.3 ∙ ap (same_numeric (Some (r x.0))) x.4
        ∙ and_from (same_sort (r x.0) (r x.0)) (is_numeric (r x.0)) (decided_of (Sort_discrete (r x.0) (r x.0)) refl) (numeric_stays x.0 (numeric_of (sort a) (sort b) x.0 x.1 x.2 h))

    lists_changed : (us : List Term) (args : List Sort) → all_known (map sort us) ≡ Some args → May (flat_map sorts_in_term us) → all_known (map sort' (map terms us)) ≡ Some (map r args)
    lists_changed [] args h a = ap (λ (xs : List Sort). Some (map r xs)) (same_Some [] args h)
    lists_changed (u ∷ us) args h a =
        let x = cons_some (sort u) (all_known (map sort us)) args h in
        let one = changed u x.0 x.2 (all_front (λ s. may s ≡ true → may' (r s) ≡ true) (sorts_in_term u) (flat_map sorts_in_term us) a) in
        let rest = lists_changed us x.1 x.3 (all_back (λ s. may s ≡ true → may' (r s) ≡ true) (sorts_in_term u) (flat_map sorts_in_term us) a) in
        ap (λ o. o >>= λ z. all_known (map sort' (map terms us)) >>= λ zs. Some (z ∷ zs)) one ∙ ap (λ o. o >>= λ zs. Some (r x.0 ∷ zs)) rest ∙ ap (λ (xs : List Sort). Some (map r xs)) x.4

    all_may : (ss : List Sort) → list_all may ss ≡ true → May ss → list_all may' (map r ss) ≡ true
    all_may [] h a = refl
    all_may (s ∷ ss) h a =
        let p = and_parts (may s) (list_all may ss) h in
        and_from (may' (r s)) (list_all may' (map r ss)) (a.0 p.0) (all_may ss p.1 a.1)

    entry_changed : (k : ℕ) (ss args : List Sort) (e : SymbolEntry) (o : Option Sort) → slice_get F.symbols k ≡ Some e → e.result ≡ o → predicate_fits ss args e ≡ true → predicate_fits (map r ss) (map r args) e ≡ true
    entry_changed k ss args e (Some s) g q h = let f : ◌≡◌ {A = Bool} false true = rw q at h in absurd (true≢false (sym f))
    entry_changed k ss args e None g q h =
        let h' : nat_eq (length ss) e.vars && same_sorts args (map (put_sort ss) e.args) ≡ true = rw q at h in
        let p = and_parts (nat_eq (length ss) e.vars) (same_sorts args (map (put_sort ss) e.args)) h' in
        let n : length ss ≡ e.vars = eqb-true (length ss) e.vars p.0 in
        let over = subst (λ (n : ℕ). list_all (is_sort_over F n) e.args ≡ true) (sym n) (law.symbols k e g).0 in
        let whole : nat_eq (length (map r ss)) e.vars && same_sorts (map r args) (map (put_sort (map r ss)) e.args) ≡ true =
        and_from (nat_eq (length (map r ss)) e.vars) (same_sorts (map r args) (map (put_sort (map r ss)) e.args)) (eq-eqb (length (map r ss)) e.vars (length-map ss r ∙ n))
        (decided_of (Sorts_discrete (map r args) (map (put_sort (map r ss)) e.args))
        (ap (map r) (decided_yes (Sorts_discrete args (map (put_sort ss) e.args)) p.1) ∙ puts_changed F r change ss e.args over)) in
        rw q whole

    symbol_case : (k : ℕ) (ss args : List Sort) (o : Option SymbolEntry) → slice_get F.symbols k ≡ o → or_else (o >>= λ (e : SymbolEntry). Some (predicate_fits ss args e)) false ≡ true
        → or_else (o >>= λ (e : SymbolEntry). Some (predicate_fits (map r ss) (map r args) e)) false ≡ true
    symbol_case k ss args (Some e) g h = entry_changed k ss args e e.result g refl h
    symbol_case k ss args None g h = h

    predicate_case : (k : ℕ) (ss : List Sort) (us : List Term) (o : Option (List Sort)) → all_known (map sort us) ≡ o → predicate_ok F may k ss o ≡ true → May (ss ++ flat_map sorts_in_term us)
        → predicate_ok F may' k (map r ss) (all_known (map sort' (map terms us))) ≡ true
    predicate_case k ss us None g h a = absurd (true≢false (sym h))
    predicate_case k ss us (Some args) g h a =
        let p = and_parts (list_all may ss) (or_else (slice_get F.symbols k >>= λ (e : SymbolEntry). Some (predicate_fits ss args e)) false) h in
        ap (predicate_ok F may' k (map r ss)) (lists_changed us args g (all_back (λ s. may s ≡ true → may' (r s) ≡ true) ss (flat_map sorts_in_term us) a))
        ∙ and_from (list_all may' (map r ss)) (or_else (slice_get F.symbols k >>= λ (e : SymbolEntry). Some (predicate_fits (map r ss) (map r args) e)) false)
        (all_may ss p.0 (all_front (λ s. may s ≡ true → may' (r s) ≡ true) ss (flat_map sorts_in_term us) a)) (symbol_case k ss args (slice_get F.symbols k) refl p.1)

    predicate_changed : (k : ℕ) (ss : List Sort) (us : List Term) → predicate_ok F may k ss (all_known (map sort us)) ≡ true → May (ss ++ flat_map sorts_in_term us)
        → predicate_ok F may' k (map r ss) (all_known (map sort' (map terms us))) ≡ true
    predicate_changed k ss us h a = predicate_case k ss us (all_known (map sort us)) refl h a

    -- a term of a trigger
    out_apply : (h : Head) (ss : List Sort) (us : List Term) → out-Term (Apply h ss us) ≡ layer.Apply h ss us
    out_apply h ss us = ap out-Term (sym (rolls-Apply h ss us)) ∙ out-roll-Term (layer.Apply h ss us)

    AppliedChanged : Term → Type 0
    AppliedChanged t = applied_ok F may E (out-Term t) ≡ true → May (sorts_in_term t) → applied_ok F may' (map r E) (out-Term (terms t)) ≡ true

    never_applied : (t : Term) (l : Term-F Term) → out-Term t ≡ l → applied_ok F may E l ≡ false → AppliedChanged t
    unfolding AppliedChanged
    never_applied t l o n h a = absurd (true≢false (sym h ∙ ap (applied_ok F may E) o ∙ n))

    joined_args : (us : List Term) → flat_map (λ u. u) (map sorts_in_term us) ≡ flat_map sorts_in_term us
    joined_args [] = refl
    joined_args (u ∷ us) = ap (λ xs. sorts_in_term u ++ xs) (joined_args us)

    head_applied : (h : Head) (ss : List Sort) (us : List Term) → applied_ok F may E (layer.Apply h ss us) ≡ true → May (ss ++ flat_map sorts_in_term us)
        → applied_ok F may' (map r E) (layer.Apply h (map r ss) (map terms us)) ≡ true
    head_applied (head.Symbol k) ss us h a = predicate_changed k ss us h a
    head_applied (head.Build k) ss us h a = false_true h
    head_applied (head.Field k n) ss us h a = false_true h
    head_applied (head.Int o) ss us h a = false_true h
    head_applied (head.Real o) ss us h a = false_true h
    head_applied head.True ss us h a = false_true h
    head_applied head.False ss us h a = false_true h
    head_applied head.Void ss us h a = false_true h

    applied_changed : (t : Term) → AppliedChanged t
    unfolding AppliedChanged
    applied_changed =
        by_terms AppliedChanged
        (λ i. never_applied (Bound i) (layer.Bound i) (ap out-Term (sym (rolls-Bound i)) ∙ out-roll-Term (layer.Bound i)) refl)
        (λ a b k. never_applied (Num a b k) (layer.Num a b k) (ap out-Term (sym (rolls-Num a b k)) ∙ out-roll-Term (layer.Num a b k)) refl)
        (λ n s. never_applied (Fresh n s) (layer.Fresh n s) (ap out-Term (sym (rolls-Fresh n s)) ∙ out-roll-Term (layer.Fresh n s)) refl)
        (λ h ss us c e a. ap (λ t. applied_ok F may' (map r E) (out-Term t)) (with_apply r h ss us) ∙ ap (applied_ok F may' (map r E)) (out_apply h (map r ss) (map terms us))
        ∙ head_applied h ss us (sym (ap (applied_ok F may E) (out_apply h ss us)) ∙ e) (subst May (in_apply h ss us ∙ ap (λ xs. ss ++ xs) (joined_args us)) a))

    trigger_changed : (t : Term) → trigger_ok F may E t ≡ true → May (sorts_in_term t) → trigger_ok F may' (map r E) (terms t) ≡ true
    unfolding AppliedChanged
    trigger_changed t h a =
        by_either (known (sort t)) (applied_ok F may E (out-Term t)) h
        (λ k. let x = known_some (sort t) k in ap (λ b. b || applied_ok F may' (map r E) (out-Term (terms t))) (ap known (changed t x.0 x.1 a)))
        (λ k. or_right (known (sort' (terms t))) (applied_ok F may' (map r E) (out-Term (terms t))) (applied_changed t k a))

    trigger_list : (us : List Term) → list_all (trigger_ok F may E) us ≡ true → May (flat_map sorts_in_term us) → list_all (trigger_ok F may' (map r E)) (map terms us) ≡ true
    trigger_list [] h a = refl
    trigger_list (u ∷ us) h a =
        let p = and_parts (trigger_ok F may E u) (list_all (trigger_ok F may E) us) h in
        and_from (trigger_ok F may' (map r E) (terms u)) (list_all (trigger_ok F may' (map r E)) (map terms us))
        (trigger_changed u p.0 (all_front (λ s. may s ≡ true → may' (r s) ≡ true) (sorts_in_term u) (flat_map sorts_in_term us) a))
        (trigger_list us p.1 (all_back (λ s. may s ≡ true → may' (r s) ≡ true) (sorts_in_term u) (flat_map sorts_in_term us) a))

    triggers_changed : (ts : List (List Term)) → list_all (list_all (trigger_ok F may E)) ts ≡ true → May (flat_map (flat_map sorts_in_term) ts)
        → list_all (list_all (trigger_ok F may' (map r E))) (map (map terms) ts) ≡ true
    triggers_changed [] h a = refl
    triggers_changed (us ∷ ts) h a =
        let p = and_parts (list_all (trigger_ok F may E) us) (list_all (list_all (trigger_ok F may E)) ts) h in
        and_from (list_all (trigger_ok F may' (map r E)) (map terms us)) (list_all (list_all (trigger_ok F may' (map r E))) (map (map terms) ts))
        (trigger_list us p.0 (all_front (λ s. may s ≡ true → may' (r s) ≡ true) (flat_map sorts_in_term us) (flat_map (flat_map sorts_in_term) ts) a))
        (triggers_changed ts p.1 (all_back (λ s. may s ≡ true → may' (r s) ≡ true) (flat_map sorts_in_term us) (flat_map (flat_map sorts_in_term) ts) a))

  -- ---- formulas
  FormulaChanged : Formula → Type 0
  FormulaChanged f = (E : List Sort) → formula_in F may E f ≡ true → May (sorts_in f) → formula_in F may' (map r E) (with_sorts r f) ≡ true

  BlockChanged : Quant → Type 0
  BlockChanged q = (E : List Sort) → quant_in F may E q ≡ true → May (sorts_in_block q) → quant_in F may' (map r E) (with_sorts_block r q) ≡ true

  both_changed : (C : Formula → Formula → Formula) → ((m : Sort → Bool) (E : List Sort) (a b : Formula) → formula_in F m E (C a b) ≡ (formula_in F m E a && formula_in F m E b))
      → ((a b : Formula) → with_sorts r (C a b) ≡ C (with_sorts r a) (with_sorts r b)) → ((a b : Formula) → sorts_in (C a b) ≡ sorts_in a ++ sorts_in b)
      → (a b : Formula) → FormulaChanged a → FormulaChanged b → FormulaChanged (C a b)
  unfolding FormulaChanged
  both_changed C rule with ins a b x y E h may0 =
      let p = and_parts (formula_in F may E a) (formula_in F may E b) (sym (rule may E a b) ∙ h) in
      let all = subst May (ins a b) may0 in
      ap (formula_in F may' (map r E)) (with a b) ∙ rule may' (map r E) (with_sorts r a) (with_sorts r b)
      ∙ and_from (formula_in F may' (map r E) (with_sorts r a)) (formula_in F may' (map r E) (with_sorts r b))
      (x E p.0 (all_front (λ s. may s ≡ true → may' (r s) ≡ true) (sorts_in a) (sorts_in b) all)) (y E p.1 (all_back (λ s. may s ≡ true → may' (r s) ≡ true) (sorts_in a) (sorts_in b) all))

  block_changed : (q : Quant) → FormulaChanged q.body → BlockChanged q
  unfolding FormulaChanged BlockChanged
  block_changed q x E h may0 =
      let p = three_parts (list_all may q.sorts) (list_all (list_all (trigger_ok F may (E ++ q.sorts))) q.triggers) (formula_in F may (E ++ q.sorts) q.body) (sym (quant_in_block F may E q) ∙ h) in
      let all = subst May (in_block q) may0 in
      let rest = all_back (λ s. may s ≡ true → may' (r s) ≡ true) q.sorts (flat_map (flat_map sorts_in_term) q.triggers ++ sorts_in q.body) all in
      let under : map r (E ++ q.sorts) ≡ map r E ++ map r q.sorts = map-append r E q.sorts in
      let here : Quant = record { sorts = map r q.sorts; triggers = map (map terms) q.triggers; body = with_sorts r q.body } in
      ap (quant_in F may' (map r E)) (with_block r q) ∙ quant_in_block F may' (map r E) here
      ∙ and_from (list_all may' (map r q.sorts) && list_all (list_all (trigger_ok F may' (map r E ++ map r q.sorts))) (map (map terms) q.triggers))
      (formula_in F may' (map r E ++ map r q.sorts) (with_sorts r q.body))
      (and_from (list_all may' (map r q.sorts)) (list_all (list_all (trigger_ok F may' (map r E ++ map r q.sorts))) (map (map terms) q.triggers))
      (all_may [] q.sorts p.0 (all_front (λ s. may s ≡ true → may' (r s) ≡ true) q.sorts (flat_map (flat_map sorts_in_term) q.triggers ++ sorts_in q.body) all))
      (subst (λ G. list_all (list_all (trigger_ok F may' G)) (map (map terms) q.triggers) ≡ true) under
      (triggers_changed (E ++ q.sorts) q.triggers p.1 (all_front (λ s. may s ≡ true → may' (r s) ≡ true) (flat_map (flat_map sorts_in_term) q.triggers) (sorts_in q.body) rest))))
      (subst (λ G. formula_in F may' G (with_sorts r q.body) ≡ true) under
      (x (E ++ q.sorts) p.2 (all_back (λ s. may s ≡ true → may' (r s) ≡ true) (flat_map (flat_map sorts_in_term) q.triggers) (sorts_in q.body) rest)))

  pub formula_changed : (f : Formula) (E : List Sort) → formula_in F may E f ≡ true → May (sorts_in f) → formula_in F may' (map r E) (with_sorts r f) ≡ true
  unfolding FormulaChanged BlockChanged
  formula_changed =
      by_formulas FormulaChanged BlockChanged
      (λ E h a. ap (formula_in F may' (map r E)) (with_true r) ∙ formula_in_true F may' (map r E))
      (λ E h a. ap (formula_in F may' (map r E)) (with_false r) ∙ formula_in_false F may' (map r E))
      (λ a b E h c. ap (formula_in F may' (map r E)) (with_eq r a b) ∙ formula_in_eq F may' (map r E) (terms a) (terms b) ∙ same_changed E a b (sym (formula_in_eq F may E a b) ∙ h) (subst May (in_eq a b) c))
      (λ a b E h c. ap (formula_in F may' (map r E)) (with_lt r a b) ∙ formula_in_lt F may' (map r E) (terms a) (terms b) ∙ numeric_changed E a b (sym (formula_in_lt F may E a b) ∙ h) (subst May (in_lt a b) c))
      (λ a b E h c. ap (formula_in F may' (map r E)) (with_le r a b) ∙ formula_in_le F may' (map r E) (terms a) (terms b) ∙ numeric_changed E a b (sym (formula_in_le F may E a b) ∙ h) (subst May (in_le a b) c))
      (λ k ss us E h c. ap (formula_in F may' (map r E)) (with_pred r k ss us) ∙ formula_in_pred F may' (map r E) k (map r ss) (map terms us)
      ∙ predicate_changed E k ss us (sym (formula_in_pred F may E k ss us) ∙ h) (subst May (in_pred k ss us) c))
      (λ a x E h c. ap (formula_in F may' (map r E)) (with_not r a) ∙ formula_in_not F may' (map r E) (with_sorts r a) ∙ x E (sym (formula_in_not F may E a) ∙ h) (subst May (in_not a) c))
      (λ a b x y. both_changed And (formula_in_and F) (with_and r) in_and a b x y)
      (λ a b x y. both_changed Or (formula_in_or F) (with_or r) in_or a b x y)
      (λ a b x y. both_changed Xor (formula_in_xor F) (with_xor r) in_xor a b x y)
      (λ a b x y. both_changed Iff (formula_in_iff F) (with_iff r) in_iff a b x y)
      (λ q x E h c. ap (formula_in F may' (map r E)) (with_all r q) ∙ formula_in_all F may' (map r E) (with_sorts_block r q) ∙ x E (sym (formula_in_all F may E q) ∙ h) (subst May (in_all q) c))
      (λ q x E h c. ap (formula_in F may' (map r E)) (with_ex r q) ∙ formula_in_ex F may' (map r E) (with_sorts_block r q) ∙ x E (sym (formula_in_ex F may E q) ∙ h) (subst May (in_ex q) c))
      block_changed
