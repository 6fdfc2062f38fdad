-- Where a sweep finds nothing left to do, what is held is complete.
use Rattle.std.specs.Prelude.{ℕ, ◌≤◌, ◌<◌, ◌⊎◌, ◌&&◌, nat_eq, List, [], ◌∷◌, ◌++◌, ◌≡◌, map, length, slice_get, Option, Some, None}
use Rattle.std.proofs.Common.{refl, sym, ap, ◌∙◌, subst, inl, inr}
use Rattle.std.proofs.lemmas.Bool.{cases_lt}
use Rattle.std.proofs.lemmas.Option.{slice_get_past}
use Rattle.ae_base.specs.Options.{◌>>=◌, only, or_else}
use Rattle.ae_base.proofs.AllOf.{all_weaker}
use Rattle.ae_base.proofs.ListFacts.{value_at as there}
use Rattle.ae_base.proofs.Options.{bind_some, only_some, when_some}
use Rattle.ae_core.specs.Putting.{put_sort}
use Rattle.ae_core.specs.Sorts.{sort_of, head_sort, symbol_sort, same_sorts, operands, on_real, is_closed_sort}
use Rattle.ae_core.specs.declared.formulas.Lit.{Lit}
use Rattle.ae_core.specs.declared.terms.Head.{Head}
use Rattle.ae_core.specs.declared.terms.Head.TheVariants as head
use Rattle.ae_core.specs.declared.terms.Op.TheVariants as op
use Rattle.ae_core.specs.declared.terms.Sort.{Sort, Int, Real}
use Rattle.ae_core.specs.declared.terms.Term.{Term, Bound}
use Rattle.ae_core.specs.declared.problems.Signature.{Signature}
use Rattle.ae_core.specs.declared.problems.SymbolEntry.{SymbolEntry}
use Rattle.ae_core.proofs.SortLaws.{sort_in_bound}
use Rattle.ae_rules.specs.Lines.{IsAc}
use Rattle.ae_journal.specs.Systems.{IsCompleted, ac_sort}
use Rattle.ae_journal.specs.declared.systems.RuleEntry.{RuleEntry}
use Rattle.ae_journal.specs.declared.systems.System.{System}
use Rattle.ae_store.specs.Stores.{Stored}
use Rattle.ae_store.proofs.StoreLaws.{name_term}
use Rattle.ae_just.specs.declared.steps.Step.{Step}
use Rattle.ae_monoid.specs.declared.rules.Kept.{Kept}
use Rattle.ae_monoid.specs.Rules.{rule_at, AreRules, IsWellKept}
use Rattle.ae_rule_steps.specs.Said.{IsSaid}
use Rattle.ae_settled.specs.Held.{Held, system_of, entries}
use Rattle.ae_settled.specs.Met.{AreMet, Satisfies}
use Rattle.ae_settled.specs.Ruled.{IsOfSort, IsRuleOver}
use Rattle.ae_settled.specs.Settled.{IsSettled}
use Rattle.ae_settled.specs.Swept.{IsSwept}
use Rattle.ae_state_steps.specs.ManySteps.{IsOfSort as IsSorted}
use Rattle.ae_sweeps.specs.Given.{rep_in}
use Rattle.ae_sweeps.proofs.Bridges.{entry_is}
use Rattle.ae_theory.specs.Names.{terms_in}
use Rattle.ae_theory.specs.Noting.{literals}
use Rattle.ae_value_table.specs.Table.{values}
use Rattle.ae_state.specs.declared.holding.Holding.{Holding}
use Rattle.ae_state.specs.Names.{assumed_in, rules_now, system_now, terms_now}
use Rattle.ae_state.specs.Complete.{AreWellSorted, IsComplete}
use Rattle.ae_turns.specs.Ending.{seen}
use Rattle.ae_turns.specs.Representing.{IsTaken, AreRepresentatives}
use Rattle.ae_turns.proofs.Representatives.{valued, least_names_represent}
use Rattle.ae_saturation.proofs.OtherRules.{has_under, represents_under, values_with}

-- ---- symbols and names of rules
-- a symbol that joins two terms of a sort to one of it is an AC symbol of the sort
ac_of : (sig : Signature) (ss : List Sort) (s : Sort) (h : Head) → IsAc sig h → head_sort sig h ss (s ∷ s ∷ []) ≡ Some s → ac_sort sig h ss ≡ Some s
ac_of sig ss s (head.Symbol n) ac e =
    let x = bind_some (slice_get sig.symbols n) (symbol_sort ss (s ∷ s ∷ [])) s e in
    let y = bind_some (only (nat_eq (length ss) x.0.vars && same_sorts (s ∷ s ∷ []) (map (put_sort ss) x.0.args)) x.0.result) (λ (r : Sort). Some (put_sort ss r)) s x.2 in
    let z = only_some (nat_eq (length ss) x.0.vars && same_sorts (s ∷ s ∷ []) (map (put_sort ss) x.0.args)) x.0.result y.0 y.1 in
    ap (λ (o : Option SymbolEntry). o >>= λ u. u.result >>= λ r. Some (put_sort ss r)) x.1 ∙ ap (λ (o : Option Sort). o >>= λ r. Some (put_sort ss r)) z.1 ∙ y.2
ac_of sig ss s (head.Int op.Mul) ac e =
    ap (λ (q : Sort). Some q) (when_some (same_sorts ss [] && same_sorts (s ∷ s ∷ []) (operands op.Mul (Int ∷ []))) Int s e).1
ac_of sig ss s (head.Real op.Mul) ac e =
    ap (λ (q : Sort). Some q) (when_some (on_real op.Mul && same_sorts ss [] && same_sorts (s ∷ s ∷ []) (operands op.Mul (Real ∷ []))) Real s e).1
ac_of sig ss s h ac e = absurd ac

module _ (sig : Signature) (ts : List Term) (y : System) (names : y.names ≡ ts) where
  -- a name of a sort is there
  of_sort : (s : Sort) (n : ℕ) → IsSorted sig ts s n → IsOfSort sig y s n
  of_sort s n sorted = by_place (cases_lt n (length ts))
    where
      by_place : (n < length ts) ⊎ (length ts ≤ n) → IsOfSort sig y s n
      by_place (inl l) =
          let t = there ts n l in
          record { term = t.0; is = ap (λ (us : List Term). slice_get us n) names ∙ t.1; sort = ap (sort_of sig) (sym (name_term ts n t.0 t.1)) ∙ sorted }
      by_place (inr l) =
          let none : ◌≡◌ {A = Option Sort} None (Some s) =
          sym (sort_in_bound sig (is_closed_sort sig) [] 0) ∙ sym (ap (λ o. sort_of sig (or_else o (Bound 0))) (slice_get_past ts n l)) ∙ sorted in
          absurd (cc none)

  rule_over : (steps : List Step) (k : Kept) → IsWellKept k → IsSaid sig ts steps k → IsRuleOver sig y k.entry
  rule_over steps k well said =
      let on = (said.names).symbol in
      record {
        sort = (said.names).sort;
        symbol = ac_of sig (k.entry).symbol.sorts (said.names).sort (k.entry).symbol.head on.ac on.headed;
        ac = on.ac;
        names = all_weaker (IsSorted sig ts (said.names).sort) (IsOfSort sig y (said.names).sort) (of_sort (said.names).sort) ((k.entry).left ++ (k.entry).right) (said.names).sorted;
        some = well.some;
        two = well.two;
        falls = well.falls;
      }

-- ---- what is seen is settled
module _ (o : Holding) (s : Stored) (reps : List ℕ) (t : IsTaken o s) (r : AreRepresentatives o reps) (well : AreRules (λ n. rule_at o.equations.rules n) o.equations.rules.next)
    (swept : IsSwept s.signature s.nodes (rep_in reps) (rules_now o)) where
  same : ◌≡◌ {A = Signature × List Term} (o.signature, terms_now o) (s.signature, terms_in s)
  same = λ i. (sym ((t.fits).terms).signature i, t.all i)

  rule_of : (n : ℕ) (e : RuleEntry) → rules_now o n ≡ Some e → IsRuleOver s.signature (system_of (seen o s reps)) e
  rule_of n e at =
      let k = entry_is (rule_at o.equations.rules n) e at in
      let said = ((((t.fits).right).ruled).rules).each n k.0 k.1 in
      subst (IsRuleOver s.signature (system_of (seen o s reps))) k.2
      (rule_over s.signature (terms_in s) (system_of (seen o s reps)) refl o.justs k.0 (well.well n k.0 k.1) (subst (λ (z : Signature × List Term). IsSaid z.0 z.1 o.justs k.0) same said))

  pub settled : IsSettled (seen o s reps)
  settled =
      record {
        store = t.store;
        values = values_with s.signature (terms_in s) (values o.values) [] (system_of (seen o s reps)).rules (valued o s t);
        representatives = λ sort v n has.
            represents_under s.signature (terms_in s) (values o.values) [] (system_of (seen o s reps)).rules sort v (rep_in reps n)
            (least_names_represent o s reps t r sort v n (has_under s.signature (terms_in s) (values o.values) (system_of (seen o s reps)).rules [] sort v n has));
        rules = record { each = rule_of; below = λ n e at. let k = entry_is (rule_at o.equations.rules n) e at in well.below n k.0 k.1 };
        swept = swept;
      }

  -- the system that is shown is that of what is seen
  shown : ◌≡◌ {A = Signature × System} (s.signature, system_of (seen o s reps)) (o.signature, system_now o)
  shown = λ i. (((t.fits).terms).signature i, record { names = sym t.all i; values = values o.values; rules = entries (rules_now o) o.equations.rules.next })

  pub complete : ((x : Held) → IsSettled x → IsCompleted x.signature (system_of x)) → ((x : Held) → IsSettled x → (ls : List Lit) → AreMet x ls → Satisfies x.signature (system_of x) ls)
      → (AreWellSorted o → AreMet (seen o s reps) (literals (assumed_in o))) → IsComplete o
  complete completed satisfied met =
      record {
        completed = subst (λ (z : Signature × System). IsCompleted z.0 z.1) shown (completed (seen o s reps) settled);
        satisfied = λ sorted. subst (λ (z : Signature × System). Satisfies z.0 z.1 (literals (assumed_in o))) shown (satisfied (seen o s reps) settled (literals (assumed_in o)) (met sorted));
      }
