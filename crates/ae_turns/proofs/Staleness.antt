-- Names that aren't their own representatives.
use Rattle.std.specs.Prelude.{ℕ, ◌<◌, ◌≤◌, ◌⊎◌, List, ◌++◌, ◌≡◌, ◌≢◌, map, length, Option, Some}
use Rattle.std.specs.List.{Contains}
use Rattle.std.proofs.Common.{sym, ap, ◌∙◌, subst, arith, inl, inr}
use Rattle.std.proofs.lemmas.Bool.{cases_lt, cases_eq}
use Rattle.std.proofs.lemmas.List.{get_or_past}
use Rattle.std.proofs.lemmas.Option.{none-some, same_Some}
use Rattle.ae_base.specs.Options.{◌>>=◌}
use Rattle.ae_base.proofs.AllOf.{all_front, all_from_places}
use Rattle.ae_base.proofs.ListFacts.{value_at as there}
use Rattle.ae_core.specs.Sorts.{sort_of}
use Rattle.ae_core.specs.declared.terms.Sort.{Sort}
use Rattle.ae_core.specs.declared.terms.Term.{Term}
use Rattle.ae_core.specs.declared.problems.Signature.{Signature}
use Rattle.ae_num.specs.declared.forms.Value.{Value}
use Rattle.ae_multiset.specs.Multisets.{count}
use Rattle.ae_journal.specs.Values.{meaning}
use Rattle.ae_journal.specs.Systems.{Has, Represents}
use Rattle.ae_journal.specs.Journals.{live}
use Rattle.ae_journal.specs.Legal.{AreLegal}
use Rattle.ae_journal.specs.Standing.{Setting}
use Rattle.ae_journal.specs.declared.lines.Line.{Line}
use Rattle.ae_journal.specs.declared.systems.RuleEntry.{RuleEntry}
use Rattle.ae_journal.specs.declared.systems.System.{System}
use Rattle.ae_store.specs.Stores.{Stored}
use Rattle.ae_store.specs.Terms.{named}
use Rattle.ae_store.proofs.StoreLaws.{name_term}
use Rattle.ae_settled.specs.Swept.{AreOwn}
use Rattle.ae_theory.specs.Names.{IsNamedBy, terms_in}
use Rattle.ae_monoid.specs.Changes.{AreTakenOut}
use Rattle.ae_monoid.specs.Rules.{rule_at, AreRules}
use Rattle.ae_monoid.specs.declared.rules.Kept.{Kept}
use Rattle.ae_monoid.specs.declared.pending.PendingPair.{PendingPair}
use Rattle.ae_multiset_steps.proofs.Lists.{count_at, counted}
use Rattle.ae_sweeps.specs.Given.{rep_in, entries_of, entry_of as entry_in}
use Rattle.ae_equations.specs.Held.{Contents as Equations}
use Rattle.ae_equations.specs.Queued.{waiting, equation_of}
use Rattle.ae_equations.specs.Stale.{IsStale}
use Rattle.ae_name_lines.specs.Closed.{AreClosed}
use Rattle.ae_name_lines.specs.InStep.{AreLineValues}
use Rattle.ae_name_lines.specs.Laws.{OtherNamesRepresentNothing}
use Rattle.ae_rule_passes.specs.Laws.{IsStaleAfter}
use Rattle.ae_rule_passes.specs.Passes.{drop_line}
use Rattle.ae_rule_passes.proofs.Reasons.{stale_go}
use Rattle.ae_rule_changes.specs.Entries.{entry_of}
use Rattle.ae_rule_changes.proofs.TakenOut.{rising_rights}
use Rattle.ae_value_table.specs.Table.{values}
use Rattle.ae_value_fitting.specs.Fitting.{system_in}
use Rattle.ae_state.specs.declared.holding.Holding.{Holding}
use Rattle.ae_state.specs.Names.{terms_now}
use Rattle.ae_state.specs.Stepping.{equations_now, paired_now, IsInStep}
use Rattle.ae_turns.specs.Representing.{IsTaken, AreRepresentatives}
use Rattle.ae_state.proofs.Shown.{within_store}
use Rattle.ae_turns.proofs.DroppedRules.{kept_in, entries_are, stays, live_drops, rules_out, values_drops}
use Rattle.ae_turns.proofs.Representatives.{least_names_represent, valued}

-- what is not stale is of names that are their own
pub own_left : (reps : List ℕ) (o : Option Kept) (rule : Kept) → o ≡ Some rule → ¬ IsStale reps o → AreOwn (rep_in reps) rule.entry.left
own_left reps o rule at none = all_from_places (λ n. rep_in reps n ≡ n) rule.entry.left (λ k n e. by_case n (count_at rule.entry.left k n e) (cases_eq (rep_in reps n) n))
  where
    by_case : (n : ℕ) → 0 < count n rule.entry.left → (rep_in reps n ≡ n) ⊎ (rep_in reps n ≢ n) → rep_in reps n ≡ n
    by_case n c (inl e) = e
    by_case n c (inr d) = absurd (none (record { rule = rule; there = at; name = n; stale = d; has = c }))

-- the rules that stay after those with stale names have gone
pub own_after : (reps : List ℕ) (o : Holding) (e : Equations) (pairs : List PendingPair) (out : AreTakenOut (kept_in o.equations) (kept_in e) (λ n. IsStale reps (rule_at o.equations.rules n)) pairs)
    → waiting e.queue ≡ waiting o.equations.queue ++ map equation_of pairs → (n : ℕ) (rule : Kept) → rule_at e.rules n ≡ Some rule → AreOwn (rep_in reps) rule.entry.left
own_after reps o e pairs out queue n rule at =
    let before = stays o e (λ k. IsStale reps (rule_at o.equations.rules k)) pairs out queue n rule at in
    own_left reps (rule_at e.rules n) rule at (λ st. none-some rule (sym (out.gone n (subst (IsStale reps) (at ∙ sym before) st)) ∙ at))

module _ (o : Holding) (s : Stored) (reps : List ℕ) (t : IsTaken o s) (r : AreRepresentatives o reps) (others : OtherNamesRepresentNothing) (x : Setting) (js : List Line) (named_by : IsNamedBy x s js)
    (step : IsInStep o (live js)) where
  abbrev y : System
  y = system_in (terms_in s) o.values

  same : ◌≡◌ {A = Signature × List Term} (o.signature, terms_now o) (s.signature, terms_in s)
  same = λ i. (sym ((t.fits).terms).signature i, t.all i)

  closed : AreClosed s.signature (terms_in s)
  closed = subst (λ (z : Signature × List Term). AreClosed z.0 z.1) same ((t.fits).right).closed

  lines : AreLineValues s.signature (terms_in s) (values o.values) (live js)
  lines = subst (λ (z : Signature × List Term). AreLineValues z.0 z.1 (values o.values) (live js)) same step.valued

  -- a name of a sort that isn't its own representative represents nothing, also after lines that drop rules
  stale_here : (sort : Sort) (k : ℕ) → k < length (terms_in s) → sort_of s.signature (named (terms_in s) k) ≡ Some sort → rep_in reps k ≢ k → IsStaleAfter x js k
  stale_here sort k l sorted apart rules h =
      let w = there (terms_in s) k l in
      let v = there (values o.values) k (omega (arith, l, (valued o s t).one_each)) in
      let has : Has s.signature y sort (meaning v.0) k =
      record {
        term = w.0;
        is = w.1;
        sort = ap (sort_of s.signature) (sym (name_term (terms_in s) k w.0 w.1)) ∙ sorted;
        value = ap (λ z. z >>= (λ (u : Value). Some (meaning u))) v.1;
      } in
      let represents : Represents s.signature y sort (meaning v.0) (rep_in reps k) = least_names_represent o s reps t r sort (meaning v.0) k has in
      let e = named_by.signature in
      others x y named_by.more (js ++ map drop_line rules) sort (meaning v.0) k (rep_in reps k) named_by.names (subst (λ (sg : Signature). AreClosed sg (terms_in s)) (sym e) closed) (valued o s t).one_each
      (subst (λ (z : Signature × List Line). AreLineValues z.0 (terms_in s) (values o.values) z.1) (λ i. (sym e i, sym (live_drops js rules) i))
      (values_drops s.signature (terms_in s) (values o.values) (live js) rules lines))
      (subst (λ (sg : Signature). Has sg y sort (meaning v.0) k) (sym e) has) (subst (λ (sg : Signature). Represents sg y sort (meaning v.0) (rep_in reps k)) (sym e) represents) apart k h

  stale_after : (sort : Sort) (k : ℕ) → sort_of s.signature (named (terms_in s) k) ≡ Some sort → rep_in reps k ≢ k → IsStaleAfter x js k
  stale_after sort k sorted apart = by_place (cases_lt k (length (terms_in s)))
    where
      by_place : (k < length (terms_in s)) ⊎ (length (terms_in s) ≤ k) → IsStaleAfter x js k
      by_place (inl l) = stale_here sort k l sorted apart
      by_place (inr l) = absurd (apart (get_or_past reps k k (omega (arith, l, r.one_each, within_store o s t.fits))))

  -- the lines that drop such rules are legal
  module _ (well : AreRules (kept_in o.equations) o.equations.rules.next) (bound : ℕ) (e : Equations) (pairs : List PendingPair) (out : AreTakenOut (kept_in o.equations) (kept_in e) (λ n. IsStale reps (rule_at o.equations.rules n)) pairs)
      (queue : waiting e.queue ≡ waiting o.equations.queue ++ map equation_of pairs) where
    why : (n : ℕ) (d : RuleEntry) → Contains out.numbers n → entries_of o.equations.rules n ≡ Some d → (k : ℕ) × (0 < count k d.left) × IsStaleAfter x js k
    why n d c u =
        let st = (out.are n).0 c in
        let is : st.rule.entry ≡ d = same_Some (st.rule).entry d (sym (ap entry_in st.there) ∙ u) in
        let names = (((((t.fits).right).ruled).rules).each n st.rule st.there).names in
        let sorted : sort_of o.signature (named (terms_now o) st.name) ≡ Some names.sort =
        counted (λ k. sort_of o.signature (named (terms_now o) k) ≡ Some names.sort) st.name (st.rule).entry.left
        (all_front (λ k. sort_of o.signature (named (terms_now o) k) ≡ Some names.sort) (st.rule).entry.left (st.rule).entry.right names.sorted) st.has in (
          st.name,
          subst (λ (f : RuleEntry). 0 < count st.name f.left) is st.has,
          stale_after names.sort st.name (subst (λ (z : Signature × List Term). sort_of z.0 (named z.1 st.name) ≡ Some names.sort) same sorted) st.stale,
        )

    pub stale_legal : AreLegal x bound js (map drop_line (map entry_of pairs))
    stale_legal =
        stale_go x bound o.signature (terms_now o) js (entries_of o.equations.rules) (entries_of e.rules) (paired_now o) (equations_now o) out.numbers (map entry_of pairs)
        (rules_out o e (λ n. IsStale reps (rule_at o.equations.rules n)) pairs out queue) step.ruled
        (rising_rights (kept_in o.equations) (entries_of o.equations.rules) o.equations.rules.next well (entries_are o.equations)) why
