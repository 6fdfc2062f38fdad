-- Two rules that are paired.
use Rattle.std.proofs.Common.{◌≡◌, ◌≢◌, ℕ, ◌⊎◌, inl, inr, List, [], ◌∷◌, ◌++◌, Option, Some, refl, sym, ap, ◌∙◌, subst}
use Rattle.std.specs.List.{Contains}
use Rattle.std.proofs.lemmas.Option.{same_Some}
use Rattle.std.proofs.lemmas.List.Elements.{Contains-append_cases}
use Rattle.ae_core.specs.declared.terms.Term.{Term}
use Rattle.ae_core.specs.declared.problems.Signature.{Signature}
use Rattle.ae_core.specs.declared.problems.AcSymbol.{AcSymbol}
use Rattle.ae_multiset.specs.Multisets.{minus, common}
use Rattle.ae_descents.proofs.Descending.{descends_inside}
use Rattle.ae_journal.specs.Journals.{live}
use Rattle.ae_journal.specs.RuleLines.{IsPaired, WasNoted}
use Rattle.ae_journal.specs.declared.systems.RuleEntry.{RuleEntry}
use Rattle.ae_journal.specs.declared.lines.Oriented.TheVariants as oriented
use Rattle.ae_journal.specs.declared.lines.Line.{Line}
use Rattle.ae_journal.specs.declared.lines.Line.TheVariants as line
use Rattle.ae_journal.proofs.Living.{live_push}
use Rattle.ae_journal.proofs.Splits.{contains_one}
use Rattle.ae_rule_lines.specs.Lineage.{HadRepresentative, DescendsIn}
use Rattle.ae_rule_lines.specs.Lineage.IsSourceOf.{of_pair}
use Rattle.ae_rule_lines.specs.InStep.{Waiting, HasSource, IsLeftOf, ArePaired, ArePairedSides, AreRulesInStep}
use Rattle.ae_rule_lines.specs.Changes.{ArePairedToo, overlap_of}
use Rattle.ae_rule_lines.specs.Laws.{PairsKeepStep}
use Rattle.ae_rule_lines.proofs.LiveLines.{DropsNot, noted_of, line_last, standing_before, paired_kept, paired_last, paired_before}
use Rattle.ae_rule_lines.proofs.Grown.{noted_more, descends_more, noted_rule_more, has_source_more}

module _ (sig : Signature) (ts : List Term) (js : List Line) (rules : ℕ → Option RuleEntry) (old new : ℕ → List ℕ) (waiting : List Waiting) (m n : ℕ) (d e : RuleEntry)
    (first : rules m ≡ Some d) (second : rules n ≡ Some e) (one : d.symbol ≡ e.symbol) (too : ArePairedToo old new m n) (i : AreRulesInStep sig ts js rules old waiting) where
  abbrev The : Line
  The = line.Pair d.symbol d.left e.left

  pushed : live (js ++ The ∷ []) ≡ live js ++ The ∷ []
  pushed = live_push js The

  no_drop : (u : AcSymbol) (l : List ℕ) → DropsNot The u l
  no_drop u l f q = cc

  no_rule : (u : AcSymbol) (l r : List ℕ) → The ≢ line.Orient (oriented.Rule u l r)
  no_rule u l r q = cc

  -- ---- pairs
  of_line : (u : AcSymbol) (l k : List ℕ) → The ≡ line.Pair u l k → (d.symbol ≡ u) × (d.left ≡ l) × (e.left ≡ k)
  of_line u l k q = ((let h : d.symbol ≡ u = cc in h), (let h : d.left ≡ l = cc in h), (let h : e.left ≡ k = cc in h))

  first_left : (u : AcSymbol) (l : List ℕ) → d.symbol ≡ u → d.left ≡ l → IsLeftOf rules u l m
  first_left u l s t = record { rule = d; there = first; symbol = s; left = t }

  second_left : (u : AcSymbol) (l : List ℕ) → d.symbol ≡ u → e.left ≡ l → IsLeftOf rules u l n
  second_left u l s t = record { rule = e; there = second; symbol = sym one ∙ s; left = t }

  sides_new : (u : AcSymbol) (l k : List ℕ) → ((The ≡ line.Pair u l k) ⊎ (The ≡ line.Pair u k l)) ⊎ (IsPaired js u l k × DropsNot The u l × DropsNot The u k) → ArePairedSides rules new u l k
  sides_new u l k (inl (inl q)) =
      let p = of_line u l k q in
      record { first = m; second = n; first_is = first_left u l p.0 p.1; second_is = second_left u k p.0 p.2; are_paired = (too m n).1 (inr (inl (refl, refl))) }
  sides_new u l k (inl (inr q)) =
      let p = of_line u k l q in
      record { first = n; second = m; first_is = second_left u l p.0 p.2; second_is = first_left u k p.0 p.1; are_paired = (too n m).1 (inr (inr (refl, refl))) }
  sides_new u l k (inr p) =
      let s = (i.pairs u l k).0 p.0 in
      record { first = s.first; second = s.second; first_is = s.first_is; second_is = s.second_is; are_paired = (too s.first s.second).1 (inl s.are_paired) }

  -- the sides of the rules with these numbers
  is_first : (u : AcSymbol) (l : List ℕ) (a : ℕ) → IsLeftOf rules u l a → a ≡ m → (d.symbol ≡ u) × (d.left ≡ l)
  is_first u l a p q =
      let r : d ≡ p.rule = same_Some d p.rule (sym first ∙ sym (ap rules q) ∙ p.there) in
      (ap (λ (x : RuleEntry). x.symbol) r ∙ p.symbol, ap (λ (x : RuleEntry). x.left) r ∙ p.left)

  is_second : (u : AcSymbol) (l : List ℕ) (a : ℕ) → IsLeftOf rules u l a → a ≡ n → e.left ≡ l
  is_second u l a p q =
      let r : e ≡ p.rule = same_Some e p.rule (sym second ∙ sym (ap rules q) ∙ p.there) in
      ap (λ (x : RuleEntry). x.left) r ∙ p.left

  the_line : (u : AcSymbol) (l k : List ℕ) → d.symbol ≡ u → d.left ≡ l → e.left ≡ k → The ≡ line.Pair u l k
  the_line u l k s t r = λ z. line.Pair (s z) (t z) (r z)

  pairs_new : (u : AcSymbol) (l k : List ℕ) (s : ArePairedSides rules new u l k) → ArePaired old s.first s.second ⊎ ((s.first ≡ m) × (s.second ≡ n)) ⊎ ((s.first ≡ n) × (s.second ≡ m)) → IsPaired (js ++ The ∷ []) u l k
  pairs_new u l k s (inl p) =
      paired_kept js The pushed u l k (no_drop u l) (no_drop u k) ((i.pairs u l k).1 (record { first = s.first; second = s.second; first_is = s.first_is; second_is = s.second_is; are_paired = p }))
  pairs_new u l k s (inr (inl q)) =
      let f = is_first u l s.first s.first_is q.0 in
      paired_last js The pushed u l k (inl (the_line u l k f.0 f.1 (is_second u k s.second s.second_is q.1)))
  pairs_new u l k s (inr (inr q)) =
      let f = is_first u k s.second s.second_is q.1 in
      paired_last js The pushed u l k (inr (the_line u k l f.0 f.1 (is_second u l s.first s.first_is q.0)))

  -- ---- the results of Deduce
  its_source : HasSource sig ts (js ++ The ∷ []) (overlap_of d e)
  its_source =
      let p = i.standing m d first in
      let q = i.standing n e second in
      let noted : WasNoted js d.symbol e.left q.right = subst (λ (u : AcSymbol). WasNoted js u e.left q.right) (sym one) (noted_of js e.symbol e.left q.right q.stands) in
      let down : DescendsIn sig ts js d.symbol q.right e.right = subst (λ (u : AcSymbol). DescendsIn sig ts js u q.right e.right) (sym one) q.descends in
      let had = HadRepresentative sig ts (js ++ The ∷ []) in
      let by = WasNoted (js ++ The ∷ []) d.symbol in
      record {
        one = p.right ++ minus e.left (common d.left e.left);
        other = q.right ++ minus d.left (common d.left e.left);
        source =
            of_pair d.left e.left p.right q.right (line_last js The pushed)
            (noted_more sig ts js The pushed d.symbol d.left p.right (noted_of js d.symbol d.left p.right p.stands))
            (noted_more sig ts js The pushed d.symbol e.left q.right noted);
        left = descends_inside had by (minus e.left (common d.left e.left)) (descends_more sig ts js The pushed d.symbol p.descends);
        right = descends_inside had by (minus d.left (common d.left e.left)) (descends_more sig ts js The pushed d.symbol down);
      }

  sources_new : (w : Waiting) → Contains waiting w ⊎ Contains (overlap_of d e ∷ []) w → HasSource sig ts (js ++ The ∷ []) w
  sources_new w (inl k) = has_source_more sig ts js The pushed w (i.sources w k)
  sources_new w (inr k) = subst (HasSource sig ts (js ++ The ∷ [])) (contains_one (overlap_of d e) w k) its_source

  pub coupled : AreRulesInStep sig ts (js ++ The ∷ []) rules new (waiting ++ overlap_of d e ∷ [])
  coupled = record {
    standing = λ k f t. noted_rule_more sig ts js The pushed f (no_drop f.symbol f.left) (i.standing k f t);
    all = λ u l r s. i.all u l r (elim (standing_before js The pushed u l r s) [ inl q ↦ absurd (no_rule u l r q) | inr q ↦ q.0 ]);
    distinct = i.distinct;
    pairs = λ u l k. ((λ q. sides_new u l k (paired_before js The pushed u l k q)), λ s. pairs_new u l k s ((too s.first s.second).0 s.are_paired));
    sources = λ w k. sources_new w (Contains-append_cases waiting (overlap_of d e ∷ []) w k);
  }

pub pairs_keep : PairsKeepStep
pairs_keep sig ts js rules old new waiting m n d e f g o t i = coupled sig ts js rules old new waiting m n d e f g o t i
