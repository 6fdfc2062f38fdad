-- A rule that is noted and entered.
use Rattle.std.proofs.Common.{◌≡◌, ◌≢◌, ℕ, ◌⊎◌, inl, inr, List, [], ◌∷◌, ◌++◌, Option, Some, refl, sym, ap, ◌∙◌, subst}
use Rattle.std.proofs.lemmas.Option.{none-some, same_Some}
use native.Mathlib.Decide.{ℕ_discrete}
use Rattle.ae_core.specs.declared.terms.Term.{Term}
use Rattle.ae_core.specs.declared.problems.Signature.{Signature}
use Rattle.ae_core.specs.declared.problems.AcSymbol.{AcSymbol}
use Rattle.ae_multiset.proofs.Counts.{same}
use Rattle.ae_descents.specs.Descents.Descends.{itself}
use Rattle.ae_journal.specs.Journals.{live}
use Rattle.ae_journal.specs.RuleLines.{IsStanding, IsPaired}
use Rattle.ae_journal.specs.declared.systems.RuleEntry.{RuleEntry}
use Rattle.ae_journal.specs.declared.lines.Oriented.TheVariants as oriented
use Rattle.ae_journal.specs.declared.lines.Line.{Line}
use Rattle.ae_journal.specs.declared.lines.Line.TheVariants as line
use Rattle.ae_journal.proofs.Living.{live_push}
use Rattle.ae_rule_lines.specs.InStep.{Waiting, IsNotedRule, IsLeftOf, ArePaired, ArePairedSides, AreRulesInStep}
use Rattle.ae_rule_lines.specs.Changes.{IsRuleEntered}
use Rattle.ae_rule_lines.specs.Laws.{RulesKeepStep}
use Rattle.ae_rule_lines.proofs.LiveLines.{DropsNot, standing_last, standing_before, paired_kept, paired_before}
use Rattle.ae_rule_lines.proofs.Grown.{noted_rule_more, has_source_more}

-- a rule that one function of numbers has the other has too
pub left_there : (old new : ℕ → Option RuleEntry) (u : AcSymbol) (l : List ℕ) (k : ℕ) → new k ≡ old k → IsLeftOf old u l k → IsLeftOf new u l k
left_there old new u l k e p = record { rule = p.rule; there = e ∙ p.there; symbol = p.symbol; left = p.left }

pub turned_pair : (paired : ℕ → List ℕ) (a b : ℕ) → ArePaired paired a b → ArePaired paired b a
turned_pair paired a b (inl h) = inr h
turned_pair paired a b (inr h) = inl h

module _ (sig : Signature) (ts : List Term) (js : List Line) (old new : ℕ → Option RuleEntry) (paired : ℕ → List ℕ) (waiting : List Waiting) (n : ℕ) (e : RuleEntry) (c : IsRuleEntered old new paired n e)
    (i : AreRulesInStep sig ts js old paired waiting) where
  abbrev The : Line
  The = line.Orient (oriented.Rule e.symbol e.left e.right)

  pushed : live (js ++ The ∷ []) ≡ live js ++ The ∷ []
  pushed = live_push js The

  no_drop : (u : AcSymbol) (l : List ℕ) → DropsNot The u l
  no_drop u l d q = cc

  no_pair : (u : AcSymbol) (l m : List ℕ) → The ≢ line.Pair u l m
  no_pair u l m q = cc

  -- numbers of old and of the new one
  is_other : (u : AcSymbol) (l : List ℕ) (k : ℕ) → IsLeftOf old u l k → k ≢ n
  is_other u l k p q = none-some p.rule (sym c.free ∙ sym (ap old q) ∙ p.there)

  left_new : (u : AcSymbol) (l : List ℕ) (k : ℕ) → IsLeftOf old u l k → IsLeftOf new u l k
  left_new u l k p = left_there old new u l k (c.others k (is_other u l k p)) p

  left_old : (u : AcSymbol) (l : List ℕ) (k : ℕ) → k ≢ n → IsLeftOf new u l k → IsLeftOf old u l k
  left_old u l k d p = left_there new old u l k (sym (c.others k d)) p

  the_rule : (k : ℕ) (d : RuleEntry) → k ≡ n → new k ≡ Some d → e ≡ d
  the_rule k d q t = same_Some e d (sym c.there ∙ sym (ap new q) ∙ t)

  -- the new rule
  is_noted : IsNotedRule sig ts (js ++ The ∷ []) e
  is_noted = record { right = e.right; stands = standing_last js The pushed e.symbol e.left e.right refl; descends = itself (same e.right) }

  standing_new : (k : ℕ) (d : RuleEntry) → new k ≡ Some d → Dec (k ≡ n) → IsNotedRule sig ts (js ++ The ∷ []) d
  standing_new k d t (yes q) = subst (IsNotedRule sig ts (js ++ The ∷ [])) (the_rule k d q t) is_noted
  standing_new k d t (no f) = noted_rule_more sig ts js The pushed d (no_drop d.symbol d.left) (i.standing k d (sym (c.others k f) ∙ t))

  all_new : (u : AcSymbol) (l r : List ℕ) → (The ≡ line.Orient (oriented.Rule u l r)) ⊎ (IsStanding js u l r × DropsNot The u l) → (k : ℕ) × IsLeftOf new u l k
  all_new u l r (inl q) = (n, record { rule = e; there = c.there; symbol = (let h : e.symbol ≡ u = cc in h); left = (let h : e.left ≡ l = cc in h) })
  all_new u l r (inr s) = let a = i.all u l r s.0 in (a.0, left_new u l a.0 a.1)

  clash : (u : AcSymbol) (l : List ℕ) (a b : ℕ) → IsLeftOf new u l a → IsLeftOf new u l b → a ≡ n → b ≢ n → ⊥
  clash u l a b p q s f =
      let o = left_old u l b f q in
      let r = the_rule a p.rule s p.there in
      c.new_left b (record {
        rule = o.rule;
        there = o.there;
        symbol = o.symbol ∙ sym p.symbol ∙ ap (λ (x : RuleEntry). x.symbol) (sym r);
        left = o.left ∙ sym p.left ∙ ap (λ (x : RuleEntry). x.left) (sym r);
      })

  distinct_new : (u : AcSymbol) (l : List ℕ) (a b : ℕ) → IsLeftOf new u l a → IsLeftOf new u l b → Dec (a ≡ n) → Dec (b ≡ n) → a ≡ b
  distinct_new u l a b p q (yes s) (yes t) = s ∙ sym t
  distinct_new u l a b p q (yes s) (no f) = absurd (clash u l a b p q s f)
  distinct_new u l a b p q (no f) (yes t) = absurd (clash u l b a q p t f)
  distinct_new u l a b p q (no f) (no g) = i.distinct u l a b (left_old u l a f p) (left_old u l b g q)

  -- pairs are those of old rules
  sides_new : (u : AcSymbol) (l m : List ℕ) → ArePairedSides old paired u l m → ArePairedSides new paired u l m
  sides_new u l m s = record { first = s.first; second = s.second; first_is = left_new u l s.first s.first_is; second_is = left_new u m s.second s.second_is; are_paired = s.are_paired }

  first_old : (a b : ℕ) → ArePaired paired a b → a ≢ n
  first_old a b p q = c.unpaired b (subst (λ (x : ℕ). ArePaired paired b x) q (turned_pair paired a b p))

  second_old : (a b : ℕ) → ArePaired paired a b → b ≢ n
  second_old a b p q = c.unpaired a (subst (λ (x : ℕ). ArePaired paired a x) q p)

  sides_old : (u : AcSymbol) (l m : List ℕ) → ArePairedSides new paired u l m → ArePairedSides old paired u l m
  sides_old u l m s = record {
    first = s.first;
    second = s.second;
    first_is = left_old u l s.first (first_old s.first s.second s.are_paired) s.first_is;
    second_is = left_old u m s.second (second_old s.first s.second s.are_paired) s.second_is;
    are_paired = s.are_paired;
  }

  pairs_before : (u : AcSymbol) (l m : List ℕ) → IsPaired (js ++ The ∷ []) u l m → IsPaired js u l m
  pairs_before u l m q =
      elim (paired_before js The pushed u l m q) [ inl f ↦ absurd (elim f [ inl g ↦ no_pair u l m g | inr g ↦ no_pair u m l g ]) | inr r ↦ r.0 ]

  pub entered : AreRulesInStep sig ts (js ++ The ∷ []) new paired waiting
  entered = record {
    standing = λ k d t. standing_new k d t (ℕ_discrete k n);
    all = λ u l r s. all_new u l r (standing_before js The pushed u l r s);
    distinct = λ u l a b p q. distinct_new u l a b p q (ℕ_discrete a n) (ℕ_discrete b n);
    pairs = λ u l m. (
      (λ q. sides_new u l m ((i.pairs u l m).0 (pairs_before u l m q))),
      λ s. paired_kept js The pushed u l m (no_drop u l) (no_drop u m) ((i.pairs u l m).1 (sides_old u l m s)),
    );
    sources = λ w k. has_source_more sig ts js The pushed w (i.sources w k);
  }

pub rules_keep : RulesKeepStep
rules_keep sig ts js old new paired waiting n e c i = entered sig ts js old new paired waiting n e c i
