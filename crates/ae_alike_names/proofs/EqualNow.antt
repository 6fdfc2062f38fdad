-- Names that are alike are equal by equations that may stand.
use Rattle.std.specs.Prelude.{ℕ, ◌<◌, List, ◌≡◌, nat_eq, slice_get, IsTrue, Option, Some}
use Rattle.std.proofs.Common.{sym, ap, ◌∙◌, subst, arith, inl, inr}
use Rattle.std.proofs.lemmas.Bool.{eqb-true}
use Rattle.std.proofs.lemmas.Option.{same_Some, slice_get_within}
use Rattle.ae_alike_names.proofs.SameTerms.{sorted_or_one}
use Rattle.ae_alike_names.specs.Alike.{AlikeNamesAreEqualNow}
use Rattle.ae_base.proofs.ListFacts.{get_front, value_at as term_at}
use Rattle.ae_base.proofs.Tests.{by_either}
use Rattle.ae_core.specs.Sorts.{sort_of}
use Rattle.ae_core.specs.declared.formulas.Formula.{Eq}
use Rattle.ae_core.specs.declared.problems.Signature.{Signature}
use Rattle.ae_core.specs.declared.terms.Sort.{Sort}
use Rattle.ae_core.specs.declared.terms.Term.{Term}
use Rattle.ae_evaluation.specs.Consequences.{Stated}
use Rattle.ae_exact_names.specs.Exact.{assumed_of, AreOfOneSort, PredicatesAreThemselvesAlone, SameIsConsequence}
use Rattle.ae_journal.proofs.Splits.{contains_at}
use Rattle.ae_journal.specs.InstanceLines.{AreEqualNow}
use Rattle.ae_journal.specs.Standing.{Setting, MayEquate, MayFollow}
use Rattle.ae_journal.specs.declared.lines.Line.{Line}
use Rattle.ae_owed.proofs.Following.{conseq_more}
use Rattle.ae_owed.specs.Known.{AreAlike}
use Rattle.ae_rules.specs.Clauses.{is_true}
use Rattle.ae_rules.specs.Lines.{Conseq}
use Rattle.ae_state.proofs.Alikeness.{AreOne, one_by, had}
use Rattle.ae_state.proofs.Shown.{within_store}
use Rattle.ae_state.specs.Names.{assumed_in}
use Rattle.ae_state.specs.declared.holding.Holding.{Holding}
use Rattle.ae_store.proofs.StoreLaws.{name_term}
use Rattle.ae_store.specs.Stores.{Stored}
use Rattle.ae_store.specs.Terms.{named}
use Rattle.ae_theory.specs.Names.{Extends, terms_in}
use Rattle.ae_theory.specs.Noting.{MayAll, literals}
use Rattle.ae_turns.specs.Representing.{IsTaken}
use Rattle.ae_value_table.specs.Alike.{alike, alike_entries}
use Rattle.ae_value_table.specs.Table.{held}
use Rattle.ae_value_table.specs.declared.patterns.Entry.{Entry}

module _ (law : SameIsConsequence) (alone : PredicatesAreThemselvesAlone) (x : Setting) (o : Holding) (s more : Stored) (js : List Line) (signature : x.problem.signature ≡ s.signature)
    (t : IsTaken o s) (grows : Extends s more) (may : MayAll x (literals (assumed_in o)) js) where
  abbrev sig : Signature
  sig = s.signature

  abbrev ts : List Term
  ts = terms_in s

  abbrev at : ℕ → Option Entry
  at n = slice_get (held o.values) n

  -- the equations that are assumed may stand
  may_equate : (u w : Term) → Stated (assumed_of o) u w → MayEquate x js u w
  may_equate u w h = may (is_true (Eq u w)) (contains_at (assumed_of o) h.0 (is_true (Eq u w)) h.1)

  names_follow : (m n : ℕ) → AreOfOneSort s m n → IsTrue (alike o.values m n) → MayFollow x js (named ts m) (named ts n)
  names_follow m n one h =
      subst (λ (z : Signature). Conseq z (MayEquate x js) (named ts m) (named ts n)) (sym signature)
      (conseq_more sig (Stated (assumed_of o)) (MayEquate x js) may_equate (named ts m) (named ts n) (law o s t m n one h))

  terms_follow : (m n : ℕ) (u w : Term) → slice_get ts m ≡ Some u → slice_get ts n ≡ Some w → IsTrue (alike o.values m n) → (sort : Sort) → sort_of sig u ≡ Some sort → sort_of sig w ≡ Some sort
      → MayFollow x js u w
  terms_follow m n u w f g h sort left right =
      let first : named ts m ≡ u = name_term ts m u f in
      let second : named ts n ≡ w = name_term ts n w g in
      let one : AreOfOneSort s m n = record {
        sort = sort;
        left_within = slice_get_within ts m u f;
        right_within = slice_get_within ts n w g;
        left = ap (sort_of sig) first ∙ left;
        right = ap (sort_of sig) second ∙ right;
      } in
      subst (λ (z : Term × Term). MayFollow x js z.0 z.1) (λ i. (first i, second i)) (names_follow m n one h)

  -- a name that has a value is one of the store's
  earlier : (n : ℕ) (e : Entry) (u : Term) → at n ≡ Some e → slice_get (terms_in more) n ≡ Some u → slice_get ts n ≡ Some u
  earlier n e u there is =
      let l : n < o.values.taken = (get_front o.values.entries o.values.taken n e there).1 in
      let w = term_at ts n (omega (arith, l, within_store o s t.fits)) in
      w.1 ∙ ap Some (same_Some w.0 u (sym (grows.keeps n w.0 w.1) ∙ is))

  entries_equal : (u w : Term) → (a : AreAlike more (alike o.values) u w) → AreOne o.values (at a.left) (at a.right) → AreEqualNow x js u w
  entries_equal u w a one =
      let f : slice_get ts a.left ≡ Some u = earlier a.left one.first u one.first_is a.left_at in
      let g : slice_get ts a.right ≡ Some w = earlier a.right one.second w one.second_is a.right_at in
      sorted_or_one alone o s t (AreEqualNow x js u w) a.left a.right u w f g a.alike_ones one.first.sort (had o s t.fits a.left one.first u one.first_is f).sort
      (λ e. inl e)
      (λ both. inr (terms_follow a.left a.right u w f g a.alike_ones one.first.sort both.left both.right))

  pub equal_now : (u w : Term) → AreAlike more (alike o.values) u w → AreEqualNow x js u w
  equal_now u w a =
      by_either (nat_eq a.left a.right) (alike_entries o.values (at a.left) (at a.right)) a.alike_ones
      (λ e. inl (same_Some u w (sym a.left_at ∙ ap (slice_get (terms_in more)) (eqb-true a.left a.right e) ∙ a.right_at)))
      (λ e. entries_equal u w a (one_by o.values (at a.left) (at a.right) e))

pub alike_names_are_equal_now : SameIsConsequence → PredicatesAreThemselvesAlone → AlikeNamesAreEqualNow
alike_names_are_equal_now law alone x o s more js signature t grows may = equal_now law alone x o s more js signature t grows may
