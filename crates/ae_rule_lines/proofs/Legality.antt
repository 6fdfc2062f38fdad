-- Lines that may come after lines that are in step.
use Rattle.std.proofs.Common.{◌≡◌, ℕ, ◌⊎◌, inl, inr, List, ◌∷◌, ◌++◌, Option, Some, refl, sym, ap, ◌∙◌, subst, slice_get}
use Rattle.ae_base.proofs.ListFacts.{get_append}
use Rattle.ae_core.specs.declared.terms.Term.{Term}
use Rattle.ae_core.specs.declared.problems.Signature.{Signature}
use Rattle.ae_core.specs.declared.problems.AcSymbol.{AcSymbol}
use Rattle.ae_multiset.specs.Multisets.{IsSame}
use Rattle.ae_multiset.specs.Rewriting.{IsReduced}
use Rattle.ae_multiset.proofs.Rising.{one_spelling}
use Rattle.ae_descents.specs.Descents.Descends.{itself, by_name, by_rule}
use Rattle.ae_journal.specs.Systems.{IsJoin}
use Rattle.ae_journal.specs.Journals.{live}
use Rattle.ae_journal.specs.Standing.{Setting, IsNameAt, DidRepresent}
use Rattle.ae_journal.specs.TermValues.{IsLeast}
use Rattle.ae_journal.specs.RuleLines.{IsStanding, IsNowReduced, IsSource, Descends}
use Rattle.ae_journal.specs.RuleLines.IsSource.{of_name as source_name, of_pair as source_pair, of_drop as source_drop}
use Rattle.ae_journal.specs.RuleLines.Descends.{itself as then_itself, by_representative as then_name, by_rule as then_rule}
use Rattle.ae_journal.specs.declared.systems.RuleEntry.{RuleEntry}
use Rattle.ae_journal.specs.declared.lines.Oriented.TheVariants as oriented
use Rattle.ae_journal.specs.declared.lines.Line.{Line}
use Rattle.ae_journal.specs.declared.lines.Line.TheVariants as line
use Rattle.ae_journal.proofs.Splits.{contains_at}
use Rattle.ae_store.specs.Stores.{Stored}
use Rattle.ae_store.specs.Terms.{Keeps}
use Rattle.ae_settled.specs.Held.{HasRule}
use Rattle.ae_theory.specs.Names.{IsNamedBy, terms_in}
use Rattle.ae_rule_lines.specs.Lineage.{HadRepresentative, DescendsIn, IsSourceOf}
use Rattle.ae_rule_lines.specs.Lineage.IsSourceOf.{of_name, of_pair, of_drop}
use Rattle.ae_rule_lines.specs.InStep.{Waiting, HasSource, IsLeftOf, ArePaired, AreRulesInStep}
use Rattle.ae_rule_lines.specs.Changes.{KeepsLeast}
use Rattle.ae_rule_lines.specs.Laws.{RuleMayCome, HaveRisingSides, ReducibleMayBeDropped, StaleMayBeDropped, RulesMayBePaired}
use Rattle.ae_rule_lines.proofs.LiveLines.{line_in, standing_live, standing_in, paired_live}

-- ---- what is in step with the lines that stand, in the words of a setting
module _ (x : Setting) (s : Stored) (ts : List Term) (js : List Line) (named : IsNamedBy x s js) (keeps : Keeps ts (terms_in s)) (least : KeepsLeast s.signature ts x.names (live js)) where
  name_at : (n : ℕ) (t : Term) → slice_get ts n ≡ Some t → IsNameAt x js n t
  name_at n t e =
      let f = keeps n t e in
      (ap (λ (us : List Term). slice_get us n) named.names ∙ get_append (terms_in s) named.more n t f, named.entered t (contains_at (terms_in s) n t f))

  did_represent : (n r : ℕ) → HadRepresentative s.signature ts (live js) n r → DidRepresent x js n r
  did_represent n r h = (h.0, h.1, h.2, subst (λ (g : Signature). IsLeast g x.names h.0 n r) (sym named.signature) (least h.0 h.1 n r h.2 h.3))

  to_source : (u : AcSymbol) (a b : List ℕ) → IsSourceOf s.signature ts (live js) u a b → IsSource x js u a b
  to_source u _ _ (of_name n i k a b e f g h) =
      source_name n i k a b (name_at n _ e) (subst (λ (y : Signature). IsJoin y u.head a b) (sym named.signature) f) (name_at i a g) (name_at k b h)
  to_source u _ _ (of_pair l m q r c a b) =
      source_pair l m q r (line_in js (line.Pair u l m) c) (line_in js (line.Orient (oriented.Rule u l q)) a) (line_in js (line.Orient (oriented.Rule u m r)) b)
  to_source u _ _ (of_drop l d r c a) = source_drop l d r (line_in js (line.Drop (oriented.Rule u l d)) c) (line_in js (line.Orient (oriented.Rule u l r)) a)

  to_descent : (u : AcSymbol) (a b : List ℕ) → DescendsIn s.signature ts (live js) u a b → Descends x js u a b
  to_descent u a b (itself t) = then_itself a b t
  to_descent u a b (by_name n r rest t h d) = then_name n r a b rest t (did_represent n r h) (to_descent u (r ∷ rest) b d)
  to_descent u a b (by_rule l r rest t h d) = then_rule l r a b rest t (line_in js (line.Orient (oriented.Rule u l r)) h) (to_descent u (r ++ rest) b d)

-- what rules reduce no further the rules that stand in the lines don't
now_reduced : (sig : Signature) (ts : List Term) (js : List Line) (rules : ℕ → Option RuleEntry) (paired : ℕ → List ℕ) (waiting : List Waiting) → AreRulesInStep sig ts (live js) rules paired waiting
    → (u : AcSymbol) (a : List ℕ) → IsReduced (HasRule rules u) a → IsNowReduced js u a
now_reduced sig ts js rules paired waiting i u a h l r s p =
    let k = i.all u l r (standing_live js u l r s) in
    let q = k.1 in
    h l q.rule.right (record { number = k.0; there = q.there ∙ (λ z. Some (record { symbol = q.symbol z; left = q.left z; right = q.rule.right })) }) p

pub rule_may_come : RuleMayCome
rule_may_come x s ts js rules paired waiting w l r named keeps least i c sides falls two own rl rr = record {
  one = from.one;
  other = from.other;
  source = to_source x s ts js named keeps least w.symbol from.one from.other from.source;
  descend = by_order sides;
  representatives = own;
  falls = falls;
  two = two;
  reduced = (now_reduced s.signature ts js rules paired waiting i w.symbol l rl, now_reduced s.signature ts js rules paired waiting i w.symbol r rr);
}
  where
    from : HasSource s.signature ts (live js) w
    from = i.sources w c

    first : Descends x js w.symbol from.one w.left
    first = to_descent x s ts js named keeps least w.symbol from.one w.left from.left

    second : Descends x js w.symbol from.other w.right
    second = to_descent x s ts js named keeps least w.symbol from.other w.right from.right

    by_order : ((l ≡ w.left) × (r ≡ w.right)) ⊎ ((l ≡ w.right) × (r ≡ w.left))
        → (Descends x js w.symbol from.one l × Descends x js w.symbol from.other r) ⊎ (Descends x js w.symbol from.one r × Descends x js w.symbol from.other l)
    by_order (inl e) = inl (subst (Descends x js w.symbol from.one) (sym e.0) first, subst (Descends x js w.symbol from.other) (sym e.1) second)
    by_order (inr e) = inr (subst (Descends x js w.symbol from.one) (sym e.1) first, subst (Descends x js w.symbol from.other) (sym e.0) second)

-- ---- rules that are dropped and paired
left_of : (rules : ℕ → Option RuleEntry) (n : ℕ) (e : RuleEntry) → rules n ≡ Some e → IsLeftOf rules e.symbol e.left n
left_of rules n e t = record { rule = e; there = t; symbol = refl; left = refl }

apart : (sig : Signature) (ts : List Term) (js : List Line) (rules : ℕ → Option RuleEntry) (paired : ℕ → List ℕ) (waiting : List Waiting) (m n : ℕ) (d e : RuleEntry)
    → AreRulesInStep sig ts js rules paired waiting → HaveRisingSides rules → rules m ≡ Some d → rules n ≡ Some e → (m ≡ n → ⊥) → d.symbol ≡ e.symbol → ¬ IsSame d.left e.left
apart sig ts js rules paired waiting m n d e i rise f g other one s =
    let q = one_spelling d.left e.left (rise m d f) (rise n e g) s in
    other (i.distinct e.symbol e.left m n (record { rule = d; there = f; symbol = one; left = q }) (left_of rules n e g))

pub reducible_dropped : ReducibleMayBeDropped
reducible_dropped x sig ts js rules paired waiting m n d e i rise f g other one part =
    let p = i.standing m d f in
    let q = i.standing n e g in
    record {
      right = q.right;
      stands = standing_in js e.symbol e.left q.right q.stands;
      cause = inl (
        d.left,
        p.right,
        subst (λ (u : AcSymbol). IsStanding js u d.left p.right) one (standing_in js d.symbol d.left p.right p.stands),
        apart sig ts (live js) rules paired waiting m n d e i rise f g other one,
        part,
      );
    }

pub stale_dropped : StaleMayBeDropped
stale_dropped x sig ts js rules paired waiting n k e i g has own =
    let q = i.standing n e g in
    record { right = q.right; stands = standing_in js e.symbol e.left q.right q.stands; cause = inr (k, has, own) }

pub rules_paired : RulesMayBePaired
rules_paired sig ts js rules paired waiting m n k d e i rise f g other one a b free =
    let p = i.standing m d f in
    let q = i.standing n e g in
    record {
      first = (p.right, standing_in js d.symbol d.left p.right p.stands);
      second = (q.right, subst (λ (u : AcSymbol). IsStanding js u e.left q.right) (sym one) (standing_in js e.symbol e.left q.right q.stands));
      two = apart sig ts (live js) rules paired waiting m n d e i rise f g other one;
      common = (k, a, b);
      new = λ h.
          let t = (i.pairs d.symbol d.left e.left).0 (paired_live js d.symbol d.left e.left h) in
          let v : t.first ≡ m = i.distinct d.symbol d.left t.first m t.first_is (left_of rules m d f) in
          let y : t.second ≡ n = i.distinct d.symbol e.left t.second n t.second_is (record { rule = e; there = g; symbol = sym one; left = refl }) in
          free (subst (λ (c : ℕ × ℕ). ArePaired paired c.0 c.1) (λ z. (v z, y z)) t.are_paired);
    }
