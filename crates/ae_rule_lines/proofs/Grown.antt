-- What representatives, sources and descents are after one more line, and among more terms.
use Rattle.std.proofs.Common.{◌≡◌, ℕ, List, [], ◌∷◌, ◌++◌, ap, ◌∙◌, append_assoc}
use Rattle.ae_core.specs.declared.terms.Term.{Term}
use Rattle.ae_core.specs.declared.problems.Signature.{Signature}
use Rattle.ae_core.specs.declared.problems.AcSymbol.{AcSymbol}
use Rattle.ae_descents.proofs.Descending.{wider}
use Rattle.ae_journal.specs.Journals.{live}
use Rattle.ae_journal.specs.RuleLines.{WasNoted}
use Rattle.ae_journal.specs.declared.systems.RuleEntry.{RuleEntry}
use Rattle.ae_journal.specs.declared.lines.Oriented.TheVariants as oriented
use Rattle.ae_journal.specs.declared.lines.Line.{Line}
use Rattle.ae_journal.specs.declared.lines.Line.TheVariants as line
use Rattle.ae_store.specs.Terms.{Keeps}
use Rattle.ae_rule_lines.specs.Lineage.{HadRepresentative, DescendsIn, IsSourceOf}
use Rattle.ae_rule_lines.specs.Lineage.IsSourceOf.{of_name, of_pair, of_drop}
use Rattle.ae_rule_lines.specs.InStep.{Waiting, HasSource, IsNotedRule}
use Rattle.ae_rule_lines.specs.Changes.{KeepsLeast}
use Rattle.ae_rule_lines.proofs.LiveLines.{DropsNot, line_more, standing_kept}

-- ---- one line more
module _ (sig : Signature) (ts : List Term) (js : List Line) (j : Line) (pushed : live (js ++ j ∷ []) ≡ live js ++ j ∷ []) where
  had_more : (n r : ℕ) → HadRepresentative sig ts js n r → HadRepresentative sig ts (js ++ j ∷ []) n r
  had_more n r h = (h.0, h.1 ++ j ∷ [], ap (λ (ls : List Line). ls ++ j ∷ []) h.2 ∙ append_assoc h.0 h.1 (j ∷ []), h.3)

  pub noted_more : (u : AcSymbol) (l r : List ℕ) → WasNoted js u l r → WasNoted (js ++ j ∷ []) u l r
  noted_more u l r h = line_more js j pushed (line.Orient (oriented.Rule u l r)) h

  pub descends_more : (u : AcSymbol) {a b : List ℕ} → DescendsIn sig ts js u a b → DescendsIn sig ts (js ++ j ∷ []) u a b
  descends_more u d = wider (HadRepresentative sig ts js) (HadRepresentative sig ts (js ++ j ∷ [])) (WasNoted js u) (WasNoted (js ++ j ∷ []) u) had_more (noted_more u) d

  source_more : (u : AcSymbol) (a b : List ℕ) → IsSourceOf sig ts js u a b → IsSourceOf sig ts (js ++ j ∷ []) u a b
  source_more u _ _ (of_name n i k a b e f g h) = of_name n i k a b e f g h
  source_more u _ _ (of_pair l m q r c a b) = of_pair l m q r (line_more js j pushed (line.Pair u l m) c) (noted_more u l q a) (noted_more u m r b)
  source_more u _ _ (of_drop l d r c a) = of_drop l d r (line_more js j pushed (line.Drop (oriented.Rule u l d)) c) (noted_more u l r a)

  pub has_source_more : (w : Waiting) → HasSource sig ts js w → HasSource sig ts (js ++ j ∷ []) w
  has_source_more w s = record {
    one = s.one;
    other = s.other;
    source = source_more w.symbol s.one s.other s.source;
    left = descends_more w.symbol s.left;
    right = descends_more w.symbol s.right;
  }

  pub noted_rule_more : (e : RuleEntry) → DropsNot j e.symbol e.left → IsNotedRule sig ts js e → IsNotedRule sig ts (js ++ j ∷ []) e
  noted_rule_more e d q = record {
    right = q.right;
    stands = standing_kept js j pushed e.symbol e.left q.right d q.stands;
    descends = descends_more e.symbol q.descends;
  }

-- ---- more terms
module _ (sig : Signature) (ts all : List Term) (js : List Line) (keeps : Keeps ts all) (least : KeepsLeast sig ts all js) where
  had_among : (n r : ℕ) → HadRepresentative sig ts js n r → HadRepresentative sig all js n r
  had_among n r h = (h.0, h.1, h.2, least h.0 h.1 n r h.2 h.3)

  pub descends_among : (u : AcSymbol) {a b : List ℕ} → DescendsIn sig ts js u a b → DescendsIn sig all js u a b
  descends_among u d = wider (HadRepresentative sig ts js) (HadRepresentative sig all js) (WasNoted js u) (WasNoted js u) had_among (λ l r h. h) d

  source_among : (u : AcSymbol) (a b : List ℕ) → IsSourceOf sig ts js u a b → IsSourceOf sig all js u a b
  source_among u _ _ (of_name n i k a b e f g h) = of_name n i k a b (keeps n _ e) f (keeps i a g) (keeps k b h)
  source_among u _ _ (of_pair l m q r c a b) = of_pair l m q r c a b
  source_among u _ _ (of_drop l d r c a) = of_drop l d r c a

  pub has_source_among : (w : Waiting) → HasSource sig ts js w → HasSource sig all js w
  has_source_among w s = record {
    one = s.one;
    other = s.other;
    source = source_among w.symbol s.one s.other s.source;
    left = descends_among w.symbol s.left;
    right = descends_among w.symbol s.right;
  }

  pub noted_rule_among : (e : RuleEntry) → IsNotedRule sig ts js e → IsNotedRule sig all js e
  noted_rule_among e q = record { right = q.right; stands = q.stands; descends = descends_among e.symbol q.descends }
