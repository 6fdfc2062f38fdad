-- Patterns of names by their nodes.
use Rattle.std.specs.Prelude.{ℕ, ◌+◌, ◌-◌, ◌<◌, List, [], ◌∷◌, ◌++◌, ◌≡◌, length, slice_get, Some}
use Rattle.std.proofs.Common.{sym, ap, ◌∙◌, arith}
use Rattle.std.proofs.lemmas.Option.{same_Some, slice_get_within}
use Rattle.ae_core.specs.declared.terms.Sort.{Sort, Int, Real, Named}
use Rattle.ae_core.specs.declared.terms.Term.{Term, Apply}
use Rattle.ae_core.specs.declared.terms.Head.TheVariants as head
use Rattle.ae_core.specs.declared.problems.Signature.{Signature}
use Rattle.ae_rules.specs.Lines.{fields_from}
use Rattle.ae_settled.proofs.Sorts.{is_record, count_is}
use Rattle.ae_store.specs.declared.nodes.Node.{Node}
use Rattle.ae_store.specs.Fields.{field_count}
use Rattle.ae_store.specs.Shapes.{shapes}
use Rattle.ae_store.specs.Stores.{IsStore}
use Rattle.ae_store.specs.Terms.{terms, named, IsOfSort}
use Rattle.ae_store.proofs.SortedLaws.{node_sorted}
use Rattle.ae_strips.specs.Applied.{IsAppliedTo}
use Rattle.ae_strips.proofs.FieldTerms.{name_there, applied_is, applied_above}
use Rattle.ae_strips.proofs.FieldSorts.{field_of_node}
use Rattle.ae_value_table.specs.declared.patterns.Pattern.{Pattern, Number, Leaf, Fields as FieldsOf}
use Rattle.ae_patterns.specs.Patterns.{IsPatternOf, ArePatternsOf}
use Rattle.ae_patterns.specs.Inner.Counts.{count_in}
use Rattle.ae_patterns.proofs.PatternLaws.{HasCount, counted, IsPlain, leaf_pattern, int_pattern, real_pattern, record_pattern, patterns_more}

module _ (sig : Signature) (nodes : List Node) (store : IsStore sig nodes) (n : ℕ) (p : Node) (at : slice_get nodes n ≡ Some p) where
  abbrev ts : List Term
  ts = terms (shapes nodes)

  there : slice_get ts n ≡ Some (named ts n)
  there = name_there sig nodes store n (slice_get_within nodes n p at)

  pub sorted : IsOfSort sig (named ts n) p.sort
  sorted = node_sorted sig nodes n p (named ts n) store.sound at there

  pub leaf_here : IsPlain sig p.sort → IsPatternOf sig ts n (Leaf n)
  leaf_here h = leaf_pattern sig ts n (named ts n) there p.sort sorted h

  pub int_here : p.sort ≡ Int → IsPatternOf sig ts n (Number n)
  int_here e = int_pattern sig ts n (named ts n) there p.sort sorted e

  pub real_here : p.sort ≡ Real → IsPatternOf sig ts n (Number n)
  real_here e = real_pattern sig ts n (named ts n) there p.sort sorted e

  module _ (k count : ℕ) (ss : List Sort) (is : p.sort ≡ Named k ss) (counts : count_in sig k ≡ Some count) where
    has : HasCount sig k count ss
    has = counted sig k ss count counts

    pub record_here : (ps : List Pattern) → ArePatternsOf sig ts (fields_from k ss (named ts n) 0 count) ps → IsPatternOf sig ts n (FieldsOf n ps)
    record_here ps are = record_pattern sig ts n (named ts n) there p.sort k count ss ps sorted is has are

    -- each field has a name, above its record's
    pub field_here : (place : ℕ) → place < count → (m : ℕ) × IsAppliedTo nodes m (head.Field k place) ss n
    field_here place l =
        let fields : field_count sig (Named k ss) ≡ length has.sorts = count_is sig (Named k ss) has.sorts (is_record sig (Named k ss) has.sorts has.fields) in
        let c : length has.sorts ≡ count = has.count in
        field_of_node sig nodes store n k place ss p at is (omega (arith, l, fields, c))

  module _ (k place m : ℕ) (ss : List Sort) (i : IsAppliedTo nodes m (head.Field k place) ss n) where
    pub part_above : n < m
    part_above = applied_above sig nodes store m (head.Field k place) ss n i

    pub part_within : m < length nodes
    part_within = slice_get_within nodes m i.node i.there

    pub part_falls : length nodes - m < length nodes - n
    part_falls = let a : n < m = part_above in let l : m < length nodes = part_within in omega (arith, a, l)

    pub part_more : (ps qs : List Pattern) (q : Pattern) → ArePatternsOf sig ts (fields_from k ss (named ts n) 0 place) ps → IsPatternOf sig ts m q → qs ≡ ps ++ q ∷ [] → ArePatternsOf sig ts (fields_from k ss (named ts n) 0 (place + 1)) qs
    part_more ps qs q are h e =
        let f = applied_is sig nodes store m k place ss n i in
        let owner : f.owner ≡ named ts n = same_Some f.owner (named ts n) (sym f.owner_is ∙ there) in
        patterns_more sig ts k ss (named ts n) place ps qs m q are (f.is ∙ ap (λ (r : Term). Some (Apply (head.Field k place) ss (r ∷ []))) owner) h e
