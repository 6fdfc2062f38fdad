-- A rule that is dropped and taken out.
use Rattle.std.proofs.Common.{◌≡◌, ◌≢◌, ℕ, ◌⊎◌, inl, inr, List, [], ◌∷◌, ◌++◌, Option, Some, refl, sym, ap, ◌∙◌, subst}
use Rattle.std.specs.List.{Contains}
use Rattle.std.proofs.lemmas.Option.{none-some, same_Some}
use Rattle.std.proofs.lemmas.List.Elements.{Contains-append_cases}
use Rattle.ae_core.specs.declared.terms.Term.{Term}
use Rattle.ae_core.specs.declared.problems.Signature.{Signature}
use Rattle.ae_core.specs.declared.problems.AcSymbol.{AcSymbol}
use Rattle.ae_multiset.proofs.Counts.{same}
use Rattle.ae_descents.specs.Descents.Descends.{itself}
use Rattle.ae_journal.specs.Journals.{live}
use Rattle.ae_journal.specs.RuleLines.{IsStanding, IsPaired}
use Rattle.ae_journal.specs.declared.systems.RuleEntry.{RuleEntry}
use Rattle.ae_journal.specs.declared.lines.Oriented.TheVariants as oriented
use Rattle.ae_journal.specs.declared.lines.Line.{Line}
use Rattle.ae_journal.specs.declared.lines.Line.TheVariants as line
use Rattle.ae_journal.proofs.Living.{live_push}
use Rattle.ae_journal.proofs.Splits.{contains_one}
use Rattle.ae_rule_lines.specs.Lineage.IsSourceOf.{of_drop}
use Rattle.ae_rule_lines.specs.InStep.{Waiting, HasSource, IsNotedRule, IsLeftOf, ArePairedSides, AreRulesInStep}
use Rattle.ae_rule_lines.specs.Changes.{IsRuleTakenOut, equation_of}
use Rattle.ae_rule_lines.specs.Laws.{DropsKeepStep}
use Rattle.ae_rule_lines.proofs.LiveLines.{DropsNot, noted_of, line_last, standing_before, paired_kept, paired_before}
use Rattle.ae_rule_lines.proofs.Grown.{noted_more, descends_more, noted_rule_more, has_source_more}
use Rattle.ae_rule_lines.proofs.Entered.{left_there}

module _ (sig : Signature) (ts : List Term) (js : List Line) (old new : ℕ → Option RuleEntry) (paired : ℕ → List ℕ) (waiting : List Waiting) (n : ℕ) (e : RuleEntry) (right : List ℕ)
    (c : IsRuleTakenOut old new n e) (i : AreRulesInStep sig ts js old paired waiting) where
  abbrev The : Line
  The = line.Drop (oriented.Rule e.symbol e.left right)

  pushed : live (js ++ The ∷ []) ≡ live js ++ The ∷ []
  pushed = live_push js The

  no_rule : (u : AcSymbol) (l r : List ℕ) → The ≢ line.Orient (oriented.Rule u l r)
  no_rule u l r q = cc

  no_pair : (u : AcSymbol) (l m : List ℕ) → The ≢ line.Pair u l m
  no_pair u l m q = cc

  -- ---- the rules that stay
  stays : (u : AcSymbol) (l : List ℕ) (k : ℕ) → IsLeftOf new u l k → k ≢ n
  stays u l k p q = none-some p.rule (sym c.gone ∙ sym (ap new q) ∙ p.there)

  left_old : (u : AcSymbol) (l : List ℕ) (k : ℕ) → IsLeftOf new u l k → IsLeftOf old u l k
  left_old u l k p = left_there new old u l k (sym (c.others k (stays u l k p))) p

  -- the line drops none of them
  dropped_left : (u : AcSymbol) (l d : List ℕ) → The ≡ line.Drop (oriented.Rule u l d) → IsLeftOf old u l n
  dropped_left u l d q = record { rule = e; there = c.there; symbol = (let h : e.symbol ≡ u = cc in h); left = (let h : e.left ≡ l = cc in h) }

  not_dropped : (u : AcSymbol) (l : List ℕ) (k : ℕ) → IsLeftOf new u l k → DropsNot The u l
  not_dropped u l k p d q = stays u l k p (i.distinct u l k n (left_old u l k p) (dropped_left u l d q))

  -- what the line doesn't drop stays
  another : (u : AcSymbol) (l : List ℕ) (k : ℕ) → DropsNot The u l → IsLeftOf old u l k → k ≢ n
  another u l k d p q =
      let r : e ≡ p.rule = same_Some e p.rule (sym c.there ∙ sym (ap old q) ∙ p.there) in
      let s : e.symbol ≡ u = ap (λ (x : RuleEntry). x.symbol) r ∙ p.symbol in
      let t : e.left ≡ l = ap (λ (x : RuleEntry). x.left) r ∙ p.left in
      d right (λ z. line.Drop (oriented.Rule (s z) (t z) right))

  left_new : (u : AcSymbol) (l : List ℕ) (k : ℕ) → DropsNot The u l → IsLeftOf old u l k → IsLeftOf new u l k
  left_new u l k d p = left_there old new u l k (c.others k (another u l k d p)) p

  standing_new : (k : ℕ) (d : RuleEntry) → new k ≡ Some d → IsNotedRule sig ts (js ++ The ∷ []) d
  standing_new k d t =
      let p : IsLeftOf new d.symbol d.left k = record { rule = d; there = t; symbol = refl; left = refl } in
      let f = stays d.symbol d.left k p in
      noted_rule_more sig ts js The pushed d (not_dropped d.symbol d.left k p) (i.standing k d (sym (c.others k f) ∙ t))

  all_new : (u : AcSymbol) (l r : List ℕ) → (The ≡ line.Orient (oriented.Rule u l r)) ⊎ (IsStanding js u l r × DropsNot The u l) → (k : ℕ) × IsLeftOf new u l k
  all_new u l r (inl q) = absurd (no_rule u l r q)
  all_new u l r (inr s) = let a = i.all u l r s.0 in (a.0, left_new u l a.0 s.1 a.1)

  sides_new : (u : AcSymbol) (l m : List ℕ) → ((The ≡ line.Pair u l m) ⊎ (The ≡ line.Pair u m l)) ⊎ (IsPaired js u l m × DropsNot The u l × DropsNot The u m) → ArePairedSides new paired u l m
  sides_new u l m (inl (inl q)) = absurd (no_pair u l m q)
  sides_new u l m (inl (inr q)) = absurd (no_pair u m l q)
  sides_new u l m (inr p) =
      let s = (i.pairs u l m).0 p.0 in
      record { first = s.first; second = s.second; first_is = left_new u l s.first p.1 s.first_is; second_is = left_new u m s.second p.2 s.second_is; are_paired = s.are_paired }

  still_paired : (u : AcSymbol) (l m : List ℕ) → ArePairedSides new paired u l m → IsPaired (js ++ The ∷ []) u l m
  still_paired u l m s =
      paired_kept js The pushed u l m (not_dropped u l s.first s.first_is) (not_dropped u m s.second s.second_is)
      ((i.pairs u l m).1 (record { first = s.first; second = s.second; first_is = left_old u l s.first s.first_is; second_is = left_old u m s.second s.second_is; are_paired = s.are_paired }))

  -- ---- the equation of the rule
  its_source : HasSource sig ts (js ++ The ∷ []) (equation_of e)
  its_source =
      let q = i.standing n e c.there in
      record {
        one = e.left;
        other = q.right;
        source = of_drop e.left right q.right (line_last js The pushed) (noted_more sig ts js The pushed e.symbol e.left q.right (noted_of js e.symbol e.left q.right q.stands));
        left = itself (same e.left);
        right = descends_more sig ts js The pushed e.symbol q.descends;
      }

  sources_new : (w : Waiting) → Contains waiting w ⊎ Contains (equation_of e ∷ []) w → HasSource sig ts (js ++ The ∷ []) w
  sources_new w (inl k) = has_source_more sig ts js The pushed w (i.sources w k)
  sources_new w (inr k) = subst (HasSource sig ts (js ++ The ∷ [])) (contains_one (equation_of e) w k) its_source

  pub dropped : AreRulesInStep sig ts (js ++ The ∷ []) new paired (waiting ++ equation_of e ∷ [])
  dropped = record {
    standing = standing_new;
    all = λ u l r s. all_new u l r (standing_before js The pushed u l r s);
    distinct = λ u l a b p q. i.distinct u l a b (left_old u l a p) (left_old u l b q);
    pairs = λ u l m. ((λ q. sides_new u l m (paired_before js The pushed u l m q)), still_paired u l m);
    sources = λ w k. sources_new w (Contains-append_cases waiting (equation_of e ∷ []) w k);
  }

pub drops_keep : DropsKeepStep
drops_keep sig ts js old new paired waiting n e right c i = dropped sig ts js old new paired waiting n e right c i
