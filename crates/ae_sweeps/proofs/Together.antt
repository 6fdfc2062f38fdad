-- All parts of a sweep together.
use Rattle.std.specs.Prelude.{ℕ, ◌<◌, true, List, ◌≡◌, map, length, slice_get, Option, Some}
use Rattle.std.proofs.Common.{sym, ap, ◌∙◌}
use Rattle.std.proofs.lemmas.Option.{same_Some, none-some, slice_get_within}
use Rattle.ae_base.proofs.Options.{bind_some, known_some}
use Rattle.ae_base.proofs.ListFacts.{get_map}
use Rattle.ae_core.specs.Sorts.{sort_of, term_ok, head_sort, symbol_sort, same_sort}
use Rattle.ae_core.specs.declared.terms.Sort.{Sort, Real}
use Rattle.ae_core.specs.declared.terms.Term.{Term, Num, Fresh, Apply}
use Rattle.ae_core.specs.declared.terms.Head.{Head}
use Rattle.ae_core.specs.declared.terms.Head.TheVariants as head
use Rattle.ae_core.specs.declared.problems.Signature.{Signature}
use Rattle.ae_core.specs.declared.problems.SymbolEntry.{SymbolEntry}
use Rattle.ae_evaluation.proofs.SortFacts.{is_applied, is_symbol}
use Rattle.ae_journal.specs.declared.systems.RuleEntry.{RuleEntry}
use Rattle.ae_monoid.specs.declared.rules.Kept.{Kept}
use Rattle.ae_monoid.specs.Rules.{AreRules}
use Rattle.ae_store.specs.declared.nodes.Node.{Node}
use Rattle.ae_store.specs.declared.nodes.NodeHead.TheVariants as node
use Rattle.ae_store.specs.Shapes.{shapes, shape_of}
use Rattle.ae_store.specs.Terms.{terms, named, term_of}
use Rattle.ae_store.specs.Stores.{IsStore}
use Rattle.ae_store.proofs.TermLaws.{term_at}
use Rattle.ae_store.proofs.StoreLaws.{name_term}
use Rattle.ae_settled.specs.Swept.{AreCongruent, IsSwept}
use Rattle.ae_sweeps.specs.Given.{entry_of}
use Rattle.ae_sweeps.specs.Gaps.{IsPredicate}
use Rattle.ae_sweeps.specs.Inner.Parts.{AreSidesSwept, IsPairSwept, IsNameSwept}
use Rattle.ae_sweeps.specs.Inner.Entered.{AreEqual}
use Rattle.ae_sweeps.proofs.Bridges.{entry_is}
use Rattle.ae_sweeps.proofs.RulePairs.{left_alone, all_join}

-- ---- a well-sorted term applies no predicate
headed_value : (sig : Signature) (h : Head) (ss args : List Sort) (s : Sort) → head_sort sig h ss args ≡ Some s → ¬ IsPredicate sig h
headed_value sig (head.Symbol n) ss args s e p =
    let b = bind_some (slice_get sig.symbols n) (symbol_sort ss args) s e in
    let i = is_symbol ss args b.0 s b.2 in
    let z : p.0 ≡ b.0 = same_Some p.0 b.0 (sym p.1 ∙ b.1) in
    none-some i.result (sym p.2 ∙ ap (λ (q : SymbolEntry). q.result) z ∙ i.results)
headed_value sig (head.Build n) ss args s e p = p
headed_value sig (head.Field n i) ss args s e p = p
headed_value sig (head.Int o) ss args s e p = p
headed_value sig (head.Real o) ss args s e p = p
headed_value sig head.True ss args s e p = p
headed_value sig head.False ss args s e p = p
headed_value sig head.Void ss args s e p = p

module _ (sig : Signature) (nodes : List Node) (store : IsStore sig nodes) where
  abbrev ts : List Term
  ts = terms (shapes nodes)

  applied_value : (n : ℕ) (p : Node) (h : Head) → slice_get nodes n ≡ Some p → p.head ≡ node.Of h → term_ok sig (named ts n) ≡ true → ¬ IsPredicate sig h
  applied_value n p h at is ok =
      let there : slice_get ts n ≡ Some (term_of ts (shape_of p)) = term_at sig (shapes nodes) store.sound n (shape_of p) (get_map shape_of nodes n p at) in
      let applies : term_of ts (shape_of p) ≡ Apply h p.sorts (map (named ts) p.args) =
      ap (λ k. elim k [ node.Of g ↦ Apply g p.sorts (map (named ts) p.args) | node.Num a b ↦ Num a b (same_sort p.sort Real) | node.Fresh m ↦ Fresh m p.sort ]) is in
      let term : named ts n ≡ Apply h p.sorts (map (named ts) p.args) = name_term ts n (term_of ts (shape_of p)) there ∙ applies in
      let s = known_some (sort_of sig (named ts n)) ok in
      let a = is_applied sig h p.sorts (map (named ts) p.args) s.0 (ap (sort_of sig) (sym term) ∙ s.1) in
      headed_value sig h p.sorts a.args s.0 a.headed

  module _ (rep : ℕ → ℕ) (kept : ℕ → Option Kept) (next : ℕ) (are_rules : AreRules kept next) where
    abbrev entries : ℕ → Option RuleEntry
    entries n = entry_of (kept n)

    below : (n : ℕ) (e : RuleEntry) → entries n ≡ Some e → n < next
    below n e t = let k = entry_is (kept n) e t in are_rules.below n k.0 k.1

    congruent : AreEqual sig nodes rep (length nodes) → (m n : ℕ) (p q : Node) → slice_get nodes m ≡ Some p → slice_get nodes n ≡ Some q → AreCongruent rep p q → term_ok sig (named ts m) ≡ true → rep m ≡ rep n
    congruent equal m n p q e f c ok =
        equal.each m n (slice_get_within nodes m p e) (slice_get_within nodes n q f)
        (record { first = p; second = q; first_at = e; second_at = f; congruent = c; value = applied_value m p c.head e c.first ok })

    pub swept : ((n : ℕ) → n < next → AreSidesSwept rep entries n) → AreEqual sig nodes rep (length nodes) → ((n : ℕ) → n < length nodes → IsNameSwept sig nodes rep entries n)
        → ((m n : ℕ) → m < n → n < next → IsPairSwept entries m n) → IsSwept sig nodes rep entries
    swept sides equal names pairs = record {
      congruent = congruent equal;
      left_own = λ n e t. (sides n (below n e t)).left_own e t;
      right_own = λ n e t. (sides n (below n e t)).right_own e t;
      left_alone = left_alone entries next below pairs;
      right_reduced = λ n e t. (sides n (below n e t)).right_reduced e t;
      overlaps = all_join entries next below pairs;
      flat = λ n p u i j at k. (names n (slice_get_within nodes n p at)).flat p u i j at k;
    }
