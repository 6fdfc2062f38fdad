-- What is held where all names of a store have values, and representatives of names.
use Rattle.std.specs.Prelude.{ℕ, ◌<◌, ◌≤◌, List, [], ◌++◌, ◌≡◌, map, length, Some, IsTrue}
use Rattle.std.specs.List.{AllByRecursion}
use Rattle.std.proofs.Common.{sym, ap, ◌∙◌, subst, arith, inl, inr, length-take-le}
use Rattle.std.proofs.lemmas.Bool.{cases_lt}
use Rattle.std.proofs.lemmas.List.{take_all, get_or_past}
use Rattle.std.proofs.lemmas.Option.{none-some, slice_get_past}
use Rattle.ae_base.specs.Options.{or_else, known}
use Rattle.ae_base.proofs.AllOf.{all_weaker, all_append, all_of_map}
use Rattle.ae_core.specs.Sorts.{sort_of, is_closed_sort}
use Rattle.ae_core.specs.declared.terms.Sort.{Sort}
use Rattle.ae_core.specs.declared.terms.Term.{Term, Bound}
use Rattle.ae_core.specs.declared.problems.AcSymbol.{AcSymbol}
use Rattle.ae_core.specs.declared.problems.Signature.{Signature}
use Rattle.ae_core.proofs.SortLaws.{sort_in_bound}
use Rattle.ae_entering.specs.Laws.{EntriesFit}
use Rattle.ae_equation_turns.specs.Said.{IsHeld}
use Rattle.ae_just.specs.Steps.{Fits}
use Rattle.ae_multiset_steps.specs.Equating.{AreNamesOf}
use Rattle.ae_patterns.specs.Patterns.{AreEntriesOf}
use Rattle.ae_settled.proofs.Nodes.{named_at}
use Rattle.ae_state_steps.specs.ManySteps.{IsOfSort}
use Rattle.ae_store.specs.Stores.{Stored}
use Rattle.ae_store.specs.Terms.{named}
use Rattle.ae_sweeps.specs.Given.{rep_in}
use Rattle.ae_theory.specs.Names.{terms_in}
use Rattle.ae_value_table.specs.Table.{held}
use Rattle.ae_value_table.specs.Alike.{alike}
use Rattle.ae_value_table.proofs.Least.{alike_itself}
use Rattle.ae_value_fitting.specs.Fitting.{ArePatterns, AreSaid}
use Rattle.ae_state.specs.declared.holding.Holding.{Holding}
use Rattle.ae_state.specs.Names.{all_terms, terms_now}
use Rattle.ae_state.proofs.Alikeness.{alike_turned, alike_sorted}
use Rattle.ae_state.proofs.Growing.{keeps_long}
use Rattle.ae_turns.specs.Representing.{IsTaken, AreRepresentatives}
use Rattle.ae_turns.proofs.Representatives.{rep_least, representatives_are_least}
use Rattle.ae_representatives.specs.Equal.{IsRepresented}

module _ (o : Holding) (s : Stored) (t : IsTaken o s) where
  -- ---- names, terms and entries
  taken_within : o.values.taken ≤ length (all_terms o)
  taken_within = omega (arith, ((t.fits).right).within, (((t.fits).right).entries).within)

  pub as_many : length (terms_in s) ≡ o.values.taken
  as_many = ap length (sym t.all) ∙ length-take-le o.values.taken (all_terms o) taken_within

  no_more : length (all_terms o) ≤ o.values.taken
  no_more = omega (arith, keeps_long (all_terms o) (terms_in s) ((t.fits).terms).keeps, as_many)

  -- all names that ever came have values
  pub all_taken : all_terms o ≡ terms_in s
  all_taken = sym (take_all o.values.taken (all_terms o) no_more) ∙ t.all

  pub seen_now : ◌≡◌ {A = Signature × List Term} (o.signature, terms_now o) (s.signature, terms_in s)
  seen_now = λ i. (sym ((t.fits).terms).signature i, t.all i)

  pub seen_all : ◌≡◌ {A = Signature × List Term} (o.signature, all_terms o) (s.signature, terms_in s)
  seen_all = λ i. (sym ((t.fits).terms).signature i, all_taken i)

  all_entries : held o.values ≡ o.values.entries
  all_entries = take_all o.values.taken o.values.entries (omega (arith, (((t.fits).right).entries).within, no_more))

  pub patterns : EntriesFit → ArePatterns s.signature (terms_in s) (held o.values)
  patterns law =
      subst (ArePatterns s.signature (terms_in s)) (sym all_entries)
      (law s.signature s.nodes o.values.entries t.store (subst (λ (z : Signature × List Term). AreEntriesOf z.0 z.1 o.values.entries) seen_all ((t.fits).right).entries)
      (omega (arith, ((t.fits).right).within, (((t.fits).right).entries).within, ap length all_taken, as_many)))

  -- ---- steps
  pub said_all : AreSaid s.signature (terms_in s) o.justs o.values
  said_all = subst (λ (z : Signature × List Term). AreSaid z.0 z.1 o.justs o.values) seen_now ((t.fits).right).said

  pub fits_all : Fits s.signature (terms_in s) o.justs
  fits_all = subst (λ (z : Signature × List Term). Fits z.0 z.1 o.justs) seen_all ((t.fits).right).steps

  pub ruled_all : IsHeld s.signature (terms_in s) o.justs o.equations
  ruled_all = subst (λ (z : Signature × List Term). IsHeld z.0 z.1 o.justs o.equations) seen_now ((t.fits).right).ruled

  -- ---- names of a sort
  pub sorted_within : (sort : Sort) (n : ℕ) → sort_of s.signature (named (terms_in s) n) ≡ Some sort → n < length (terms_in s)
  sorted_within sort n e = elim (cases_lt n (length (terms_in s))) [
    | inl l ↦ l
    | inr l ↦
        let past : named (terms_in s) n ≡ Bound 0 = ap (λ o. or_else o (Bound 0)) (slice_get_past (terms_in s) n l) in
        absurd (none-some sort (sym (sort_in_bound s.signature (is_closed_sort s.signature) [] 0) ∙ ap (sort_of s.signature) (sym past) ∙ e))
  ]

  -- ---- representatives
  module _ (reps : List ℕ) (r : AreRepresentatives o reps) where
    pub alike_rep : (n : ℕ) → IsTrue (alike o.values (rep_in reps n) n)
    alike_rep n = elim (cases_lt n (length reps)) [
      | inl l ↦ (rep_least o reps r n l).alike_to
      | inr l ↦ subst (λ (k : ℕ). IsTrue (alike o.values k n)) (sym (get_or_past reps n n l)) (alike_itself o.values n)
    ]

    -- a representative is of its name's sort
    pub same_sort : (sort : Sort) (n : ℕ) → IsOfSort s.signature (terms_in s) sort n → IsOfSort s.signature (terms_in s) sort (rep_in reps n)
    same_sort sort n e =
        let q = rep_in reps n in
        let l = sorted_within sort n e in
        let low : q ≤ n = (representatives_are_least o reps r).below n in
        alike_sorted o s t.fits q n (alike_rep n) (named (terms_in s) q) (named (terms_in s) n) (named_at (terms_in s) q (omega (arith, low, l))) (named_at (terms_in s) n l) ∙ e

    pub represented : (sort : Sort) (names : List ℕ) → AllByRecursion (IsOfSort s.signature (terms_in s) sort) names → AllByRecursion (IsRepresented s.signature (terms_in s) o.values reps) names
    represented sort names all = all_weaker (IsOfSort s.signature (terms_in s) sort) (IsRepresented s.signature (terms_in s) o.values reps) one names all
      where
        one : (n : ℕ) → IsOfSort s.signature (terms_in s) sort n → IsRepresented s.signature (terms_in s) o.values reps n
        one n e = record { name_sorted = ap known e; rep_sorted = ap known (same_sort sort n e); same = alike_turned o.values (rep_in reps n) n (alike_rep n) }

    pub names_with_reps : (u : AcSymbol) (names : List ℕ) → AreNamesOf s.signature (terms_in s) u names → AreNamesOf s.signature (terms_in s) u (names ++ map (rep_in reps) names)
    names_with_reps u names a =
        let P = IsOfSort s.signature (terms_in s) a.sort in
        record {
          sort = a.sort;
          symbol = a.symbol;
          of_names = a.of_names;
          sorted = all_append P names (map (rep_in reps) names) a.sorted (all_of_map P (rep_in reps) names (all_weaker P (λ n. P (rep_in reps n)) (same_sort a.sort) names a.sorted));
        }

    -- two names that are their own and the same are one
    pub own_apart : (m n : ℕ) → m < length reps → n < length reps → rep_in reps m ≡ m → rep_in reps n ≡ n → IsTrue (alike o.values m n) → m ≡ n
    own_apart m n l k e f h =
        let a : rep_in reps m ≤ n = (rep_least o reps r m l).first n (alike_turned o.values m n h) in
        let b : rep_in reps n ≤ m = (rep_least o reps r n k).first m h in
        omega (arith, a, b, e, f)
