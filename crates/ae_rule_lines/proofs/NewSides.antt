-- Right sides and equations that descend from those of before, and descents by representatives and rules.
use Rattle.std.proofs.Common.{◌≡◌, ℕ, ◌⊎◌, inl, inr, List, [], ◌∷◌, ◌++◌, Option, Some, None, refl, sym, ◌∙◌, subst}
use Rattle.std.specs.List.{Contains}
use Rattle.std.proofs.lemmas.Option.{none-some, same_Some}
use Rattle.std.proofs.lemmas.List.Elements.{Contains-append_cases}
use Rattle.ae_core.specs.declared.terms.Term.{Term}
use Rattle.ae_core.specs.declared.problems.Signature.{Signature}
use Rattle.ae_core.specs.declared.problems.AcSymbol.{AcSymbol}
use Rattle.ae_multiset.proofs.Counts.{same}
use Rattle.ae_descents.specs.Descents.Descends.{itself}
use Rattle.ae_descents.proofs.Descending.{descends_then, through}
use Rattle.ae_journal.specs.RuleLines.{IsStanding, WasNoted}
use Rattle.ae_journal.specs.declared.systems.RuleEntry.{RuleEntry}
use Rattle.ae_journal.specs.declared.lines.Line.{Line}
use Rattle.ae_journal.proofs.Splits.{contains_one}
use Rattle.ae_settled.specs.Held.{HasRule}
use Rattle.ae_rule_lines.specs.Lineage.{HadRepresentative, DescendsIn, IsSourceOf}
use Rattle.ae_rule_lines.specs.Lineage.IsSourceOf.{of_name}
use Rattle.ae_rule_lines.specs.InStep.{Waiting, HasSource, IsNotedRule, IsLeftOf, ArePairedSides, AreRulesInStep}
use Rattle.ae_rule_lines.specs.Changes.{HasNewRight, HaveNewRights, HasNewSides}
use Rattle.ae_rule_lines.specs.Laws.{NewRightsKeepStep, NewSidesKeepStep, ForgettingKeepsStep, NameEquationsKeepStep, DescentsAreOfLines}
use Rattle.ae_rule_lines.proofs.LiveLines.{noted_of}

-- ---- right sides
module _ (sig : Signature) (ts : List Term) (js : List Line) (old new : ℕ → Option RuleEntry) (paired : ℕ → List ℕ) (waiting : List Waiting) (c : HaveNewRights sig ts js old new)
    (i : AreRulesInStep sig ts js old paired waiting) where
  abbrev Came : RuleEntry → ℕ → Type 0
  Came e n = (d : RuleEntry) × (old n ≡ Some d) × HasNewRight sig ts js d e

  came_by : (n : ℕ) (e : RuleEntry) → new n ≡ Some e → (o : Option RuleEntry) → old n ≡ o → Came e n
  came_by n e t None q = absurd (none-some e (sym (c.no_more n q) ∙ t))
  came_by n e t (Some d) q = let a = c.each n d q in (d, q, subst (HasNewRight sig ts js d) (same_Some a.0 e (sym a.1 ∙ t)) a.2)

  came : (n : ℕ) (e : RuleEntry) → new n ≡ Some e → Came e n
  came n e t = came_by n e t (old n) refl

  left_new : (u : AcSymbol) (l : List ℕ) (n : ℕ) → IsLeftOf old u l n → IsLeftOf new u l n
  left_new u l n p = let a = c.each n p.rule p.there in record { rule = a.0; there = a.1; symbol = a.2.symbol ∙ p.symbol; left = a.2.left ∙ p.left }

  left_old : (u : AcSymbol) (l : List ℕ) (n : ℕ) → IsLeftOf new u l n → IsLeftOf old u l n
  left_old u l n p = let a = came n p.rule p.there in record { rule = a.0; there = a.1; symbol = sym a.2.symbol ∙ p.symbol; left = sym a.2.left ∙ p.left }

  standing_by : (d e : RuleEntry) → HasNewRight sig ts js d e → IsNotedRule sig ts js d → IsNotedRule sig ts js e
  standing_by d e h q = record {
    right = q.right;
    stands = subst (λ (t : AcSymbol × List ℕ). IsStanding js t.0 t.1 q.right) (λ z. (sym h.symbol z, sym h.left z)) q.stands;
    descends = subst (λ (u : AcSymbol). DescendsIn sig ts js u q.right e.right) (sym h.symbol) (descends_then (HadRepresentative sig ts js) (WasNoted js d.symbol) q.descends h.right);
  }

  sides_new : (u : AcSymbol) (l m : List ℕ) → ArePairedSides old paired u l m → ArePairedSides new paired u l m
  sides_new u l m s = record { first = s.first; second = s.second; first_is = left_new u l s.first s.first_is; second_is = left_new u m s.second s.second_is; are_paired = s.are_paired }

  sides_old : (u : AcSymbol) (l m : List ℕ) → ArePairedSides new paired u l m → ArePairedSides old paired u l m
  sides_old u l m s = record { first = s.first; second = s.second; first_is = left_old u l s.first s.first_is; second_is = left_old u m s.second s.second_is; are_paired = s.are_paired }

  pub rights_new : AreRulesInStep sig ts js new paired waiting
  rights_new = record {
    standing = λ n e t. let a = came n e t in standing_by a.0 e a.2 (i.standing n a.0 a.1);
    all = λ u l r s. let a = i.all u l r s in (a.0, left_new u l a.0 a.1);
    distinct = λ u l m n p q. i.distinct u l m n (left_old u l m p) (left_old u l n q);
    pairs = λ u l m. ((λ p. sides_new u l m ((i.pairs u l m).0 p)), λ s. (i.pairs u l m).1 (sides_old u l m s));
    sources = i.sources;
  }

pub new_rights_keep : NewRightsKeepStep
new_rights_keep sig ts js old new paired waiting c i = rights_new sig ts js old new paired waiting c i

-- ---- equations
with_sources : (sig : Signature) (ts : List Term) (js : List Line) (rules : ℕ → Option RuleEntry) (paired : ℕ → List ℕ) (old new : List Waiting) → ((w : Waiting) → Contains new w → HasSource sig ts js w)
    → AreRulesInStep sig ts js rules paired old → AreRulesInStep sig ts js rules paired new
with_sources sig ts js rules paired old new s i = record { standing = i.standing; all = i.all; distinct = i.distinct; pairs = i.pairs; sources = s }

source_by : (sig : Signature) (ts : List Term) (js : List Line) (v w : Waiting) → HasNewSides sig ts js v w → HasSource sig ts js v → HasSource sig ts js w
source_by sig ts js v w h s = record {
  one = s.one;
  other = s.other;
  source = subst (λ (u : AcSymbol). IsSourceOf sig ts js u s.one s.other) (sym h.symbol) s.source;
  left = subst (λ (u : AcSymbol). DescendsIn sig ts js u s.one w.left) (sym h.symbol) (descends_then (HadRepresentative sig ts js) (WasNoted js v.symbol) s.left h.left);
  right = subst (λ (u : AcSymbol). DescendsIn sig ts js u s.other w.right) (sym h.symbol) (descends_then (HadRepresentative sig ts js) (WasNoted js v.symbol) s.right h.right);
}

pub new_sides_keep : NewSidesKeepStep
new_sides_keep sig ts js rules paired old new c i = with_sources sig ts js rules paired old new (λ w k. let a = c w k in source_by sig ts js a.0 w a.2 (i.sources a.0 a.1)) i

pub forgetting_keeps : ForgettingKeepsStep
forgetting_keeps sig ts js rules paired old new f i = with_sources sig ts js rules paired old new (λ w k. i.sources w (f w k)) i

pub name_equations_keep : NameEquationsKeepStep
name_equations_keep sig ts js rules paired waiting u n k j a b e f g h i =
    with_sources sig ts js rules paired waiting (waiting ++ it ∷ []) (λ w c. by_place w (Contains-append_cases waiting (it ∷ []) w c)) i
  where
    it : Waiting
    it = record { symbol = u; left = k ∷ j ∷ []; right = n ∷ [] }

    its_source : HasSource sig ts js it
    its_source = record { one = k ∷ j ∷ []; other = n ∷ []; source = of_name n k j a b e f g h; left = itself (same (k ∷ j ∷ [])); right = itself (same (n ∷ [])) }

    by_place : (w : Waiting) → Contains waiting w ⊎ Contains (it ∷ []) w → HasSource sig ts js w
    by_place w (inl c) = i.sources w c
    by_place w (inr c) = subst (HasSource sig ts js) (contains_one it w c) its_source

-- ---- descents
pub descents_of_lines : DescentsAreOfLines
descents_of_lines sig ts js rep rules paired waiting u a b i o d =
    through (HadRepresentative sig ts js) (λ n r. rep n ≡ r) (WasNoted js u) (HasRule rules u) names by d
  where
    names : (n r : ℕ) → rep n ≡ r → (n ≡ r) ⊎ HadRepresentative sig ts js n r
    names n r e = elim (o n) [ inl f ↦ inl (sym f ∙ e) | inr h ↦ inr (subst (HadRepresentative sig ts js n) e h) ]

    by : (l r : List ℕ) → HasRule rules u l r → (q : List ℕ) × WasNoted js u l q × DescendsIn sig ts js u q r
    by l r h = let q = i.standing h.number (record { symbol = u; left = l; right = r }) h.there in (q.right, noted_of js u l q.right q.stands, q.descends)
