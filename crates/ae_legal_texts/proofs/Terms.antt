-- Each well sorted term has a text, and so has a predicate's application in a trigger.
use Rattle.std.specs.Prelude.{ℕ, ℤ, ◌≡◌, Bool, true, false, cond, ◌&&◌, nat_eq, List, [], ◌∷◌, map, length, slice_get, Option, Some, None}
use Rattle.std.specs.List.{AllByRecursion, flat_map, list_all}
use Rattle.std.proofs.Common.{refl, sym, ap, ◌∙◌, subst}
use Rattle.std.proofs.lemmas.Bool.{and_parts, eqb-true}
use Rattle.ae_base.specs.Options.{or_else, ◌>>=◌, only, all_known, known}
use Rattle.ae_base.proofs.Options.{bind_some, only_some, when_some, known_some, each_known}
use Rattle.ae_base.proofs.Tests.{by_either, false_true}
use Rattle.ae_base.proofs.AllOf.{all_front, all_back}
use Rattle.ae_codes.specs.Closers.{by_bracket, round, square}
use Rattle.ae_core.specs.Inner.Induction.{by_terms}
use Rattle.ae_core.specs.Putting.{put_sort}
use Rattle.ae_core.specs.Signatures.{IsLawful}
use Rattle.ae_core.specs.Sorts.{sort_in, is_closed_sort, head_sort, same_sorts, numeral_ok, predicate_ok, predicate_fits, applied_ok, trigger_ok}
use Rattle.ae_core.proofs.SortLaws.{sort_in_num, sort_in_fresh, sort_in_apply}
use Rattle.ae_core.specs.declared.problems.Signature.{Signature}
use Rattle.ae_core.specs.declared.problems.SymbolEntry.{SymbolEntry}
use Rattle.ae_core.specs.declared.terms.Sort.{Sort, Int, Real}
use Rattle.ae_core.specs.declared.terms.Term.{Term, Term-F, Bound, Num, Fresh, Apply, roll-Term, out-Term, roll-out-Term}
use Rattle.ae_core.specs.declared.terms.Term.TheOpen as layer
use Rattle.ae_core.specs.declared.terms.Term.TheVariants.{rolls-Apply}
use Rattle.ae_core.specs.declared.terms.Head.{Head}
use Rattle.ae_core.specs.declared.terms.Head.TheVariants as head
use Rattle.ae_prooftext.specs.Grammar.{is_real, sort_code, term_code}
use Rattle.ae_legal_texts.specs.Numbers.{IsWithin, AreWithin, sort_numbers, term_numbers}
use Rattle.ae_legal_texts.specs.Writable.{HasText}
use Rattle.ae_legal_texts.proofs.Places.{all_parts}
use Rattle.ae_legal_texts.proofs.Closing.{names_apart, stroke_apart, round_parts, square_parts, bracket_parts}
use Rattle.ae_legal_texts.proofs.Sorts.{sorts_have}
use Rattle.ae_legal_texts.proofs.TermLayers.{numbers_bound, numbers_num, numbers_fresh, numbers_apply, apply_fits, bound_fits, fresh_fits, num_fits}
use Rattle.ae_legal_texts.proofs.Applications.{application_written, symbol_written}

-- inside square brackets, and inside round ones
abbrev pub SquareItem : Signature → Sort → Type 0
SquareItem sig s = (sort_code sig square).Fits (s, 32) × (sort_code sig square).Fits (s, 93)

abbrev pub RoundItem : Signature → List Sort → Term → Type 0
RoundItem sig env t = (term_code sig env round).Fits (t, 32) × (term_code sig env round).Fits (t, 41)

module _ (sig : Signature) (lawful : IsLawful sig) where
  -- sorts in square brackets
  square_items : (ss : List Sort) → list_all (is_closed_sort sig) ss ≡ true → AllByRecursion (λ s. AreWithin (sort_numbers s)) ss → AllByRecursion (SquareItem sig) ss
  unfolding square
  square_items [] o w = tt
  square_items (s ∷ ss) o w =
      let p = and_parts (is_closed_sort sig s) (list_all (is_closed_sort sig) ss) o in
      ((sorts_have sig lawful s p.0 w.0 square (names_apart square square_parts) 32 refl, sorts_have sig lawful s p.0 w.0 square (names_apart square square_parts) 93 refl), square_items ss p.1 w.1)

  pub sort_items : (ss : List Sort) → list_all (is_closed_sort sig) ss ≡ true → AreWithin (flat_map sort_numbers ss) → AllByRecursion (SquareItem sig) ss
  sort_items ss o w = square_items ss o (all_parts IsWithin sort_numbers ss w)

  module _ (env : List Sort) where
    abbrev sort_here : Term → Option Sort
    sort_here = sort_in sig (is_closed_sort sig) env

    abbrev Has : Term → Type 0
    Has t = known (sort_here t) ≡ true → AreWithin (term_numbers t) → HasText (term_code sig env) t

    has_bound : (n : ℕ) → Has (Bound n)
    has_bound n o w k p e c = bound_fits sig (is_real sig env) k n e (subst AreWithin (numbers_bound n) w).0 c

    has_num : (a b : ℤ) (r : Bool) → Has (Num a b r)
    has_num a b r o w k p e c =
        let s = known_some (sort_here (Num a b r)) o in
        let n = when_some (numeral_ok a b r) (cond r Real Int) s.0 (sym (sort_in_num sig (is_closed_sort sig) env a b r) ∙ s.1) in
        num_fits sig (is_real sig env) k a b r e n.0 (subst AreWithin (numbers_num a b r) w).0 (stroke_apart k p) c

    has_fresh : (n : ℕ) (s : Sort) → Has (Fresh n s)
    unfolding by_bracket
    has_fresh n s o w k p e c =
        let r = known_some (sort_here (Fresh n s)) o in
        let m = when_some (is_closed_sort sig s) s r.0 (sym (sort_in_fresh sig (is_closed_sort sig) env n s) ∙ r.1) in
        let v = subst AreWithin (numbers_fresh n s) w in
        fresh_fits sig (is_real sig env) k n s e v.0 (sorts_have sig lawful s m.0 v.1 by_bracket (names_apart by_bracket bracket_parts) 41 refl) c

    round_items : (us : List Term) → AllByRecursion Has us → AllByRecursion (λ t. (s : Sort) × (sort_here t ≡ Some s)) us → AllByRecursion (λ t. AreWithin (term_numbers t)) us → AllByRecursion (RoundItem sig env) us
    unfolding round
    round_items [] ih o w = tt
    round_items (t ∷ us) ih o w =
        let q = ap known (o.0).1 in
        ((ih.0 q w.0 round round_parts 32 refl, ih.0 q w.0 round round_parts 41 refl), round_items us ih.1 o.1 w.1)

    has_apply : (h : Head) (ss : List Sort) (us : List Term) → AllByRecursion Has us → Has (Apply h ss us)
    has_apply h ss us ih o w k p e c =
        let r = known_some (sort_here (Apply h ss us)) o in
        let b = bind_some (only (list_all (is_closed_sort sig) ss) (all_known (map sort_here us))) (head_sort sig h ss) r.0 (sym (sort_in_apply sig (is_closed_sort sig) env h ss us) ∙ r.1) in
        let m = only_some (list_all (is_closed_sort sig) ss) (all_known (map sort_here us)) b.0 b.1 in
        let v = subst AreWithin (numbers_apply h ss us) w in
        apply_fits sig (is_real sig env) k h ss us e (application_written sig lawful env h ss b.0 us r.0 m.1 b.2)
        (sort_items ss m.0 (all_front IsWithin (flat_map sort_numbers ss) (flat_map term_numbers us) v))
        (round_items us ih (each_known sort_here us b.0 m.1) (all_parts IsWithin term_numbers us (all_back IsWithin (flat_map sort_numbers ss) (flat_map term_numbers us) v)))
        (names_apart k p) c

    pub terms_have : (t : Term) → Has t
    terms_have = by_terms Has has_bound has_num has_fresh has_apply

    -- ---- predicates' arguments, and their applications in triggers
    pub record IsPredicate (p : ℕ) (ss : List Sort) (us : List Term) : Type 0 where
      pub entry : SymbolEntry
      pub at : slice_get sig.symbols p ≡ Some entry
      pub count : length ss ≡ entry.vars
      pub closed : list_all (is_closed_sort sig) ss ≡ true
      pub sorted : AllByRecursion (λ t. (s : Sort) × (sort_here t ≡ Some s)) us

    predicate_by : (p : ℕ) (ss args : List Sort) (e : SymbolEntry) (r : Option Sort) → elim r as (λ _. Bool) [ Some x ↦ false | None ↦ nat_eq (length ss) e.vars && same_sorts args (map (put_sort ss) e.args) ] ≡ true → length ss ≡ e.vars
    predicate_by p ss args e (Some x) h = false_true h
    predicate_by p ss args e None h = eqb-true (length ss) e.vars (and_parts (nat_eq (length ss) e.vars) (same_sorts args (map (put_sort ss) e.args)) h).0

    predicate_at : (p : ℕ) (ss args : List Sort) (o : Option SymbolEntry) → slice_get sig.symbols p ≡ o → or_else (o >>= λ e. Some (predicate_fits ss args e)) false ≡ true
        → (e : SymbolEntry) × (slice_get sig.symbols p ≡ Some e) × (length ss ≡ e.vars)
    predicate_at p ss args None g h = false_true h
    predicate_at p ss args (Some e) g h = (e, g, predicate_by p ss args e e.result h)

    predicate_known : (p : ℕ) (ss : List Sort) (us : List Term) (o : Option (List Sort)) → all_known (map sort_here us) ≡ o → predicate_ok sig (is_closed_sort sig) p ss o ≡ true → IsPredicate p ss us
    predicate_known p ss us None q h = false_true h
    predicate_known p ss us (Some args) q h =
        let a = and_parts (list_all (is_closed_sort sig) ss) (or_else (slice_get sig.symbols p >>= λ e. Some (predicate_fits ss args e)) false) h in
        let b = predicate_at p ss args (slice_get sig.symbols p) refl a.1 in
        record { entry = b.0; at = b.1; count = b.2; closed = a.0; sorted = each_known sort_here us args q }

    pub is_predicate : (p : ℕ) (ss : List Sort) (us : List Term) → predicate_ok sig (is_closed_sort sig) p ss (all_known (map sort_here us)) ≡ true → IsPredicate p ss us
    is_predicate p ss us h = predicate_known p ss us (all_known (map sort_here us)) refl h

    -- terms that have sorts have texts inside round brackets
    pub term_items : (us : List Term) → AllByRecursion (λ t. (s : Sort) × (sort_here t ≡ Some s)) us → AreWithin (flat_map term_numbers us) → AllByRecursion (RoundItem sig env) us
    term_items us o w = round_items us (all_has us) o (all_parts IsWithin term_numbers us w)
      where
        all_has : (us : List Term) → AllByRecursion Has us
        all_has [] = tt
        all_has (u ∷ us) = (terms_have u, all_has us)

    applied_has : (t : Term) (l : Term-F Term) → out-Term t ≡ l → applied_ok sig (is_closed_sort sig) env l ≡ true → AreWithin (term_numbers t) → HasText (term_code sig env) t
    applied_has t (layer.Apply (head.Symbol p) ss us) o h w k c e d =
        let i = is_predicate p ss us h in
        let is : t ≡ Apply (head.Symbol p) ss us = sym (roll-out-Term t) ∙ ap roll-Term o ∙ rolls-Apply (head.Symbol p) ss us in
        let v = subst AreWithin (ap term_numbers is ∙ numbers_apply (head.Symbol p) ss us) w in
        subst (λ z. (term_code sig env k).Fits (z, e)) (sym is) (apply_fits sig (is_real sig env) k (head.Symbol p) ss us e (symbol_written sig lawful env p i.entry ss us i.at i.count)
        (sort_items ss i.closed (all_front IsWithin (flat_map sort_numbers ss) (flat_map term_numbers us) v))
        (term_items us i.sorted (all_back IsWithin (flat_map sort_numbers ss) (flat_map term_numbers us) v))
        (names_apart k c) d)
    applied_has t (layer.Apply (head.Build n) ss us) o h w k c e d = false_true h
    applied_has t (layer.Apply (head.Field n i) ss us) o h w k c e d = false_true h
    applied_has t (layer.Apply (head.Int op) ss us) o h w k c e d = false_true h
    applied_has t (layer.Apply (head.Real op) ss us) o h w k c e d = false_true h
    applied_has t (layer.Apply head.True ss us) o h w k c e d = false_true h
    applied_has t (layer.Apply head.False ss us) o h w k c e d = false_true h
    applied_has t (layer.Apply head.Void ss us) o h w k c e d = false_true h
    applied_has t (layer.Bound n) o h w k c e d = false_true h
    applied_has t (layer.Num a b r) o h w k c e d = false_true h
    applied_has t (layer.Fresh n s) o h w k c e d = false_true h

    -- a term of a trigger
    pub trigger_terms_have : (t : Term) → trigger_ok sig (is_closed_sort sig) env t ≡ true → AreWithin (term_numbers t) → HasText (term_code sig env) t
    trigger_terms_have t h w k c e d =
        by_either (known (sort_here t)) (applied_ok sig (is_closed_sort sig) env (out-Term t)) h (λ o. terms_have t o w k c e d) (λ a. applied_has t (out-Term t) refl a w k c e d)
