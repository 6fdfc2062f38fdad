-- Kept rules that are entered, changed and paired.
use Rattle.std.proofs.Common.{◌≡◌, ◌≢◌, ℕ, ◌⊎◌, inl, inr, List, ◌∷◌, Option, Some, None, refl, sym, ap, ◌∙◌, subst, arith}
use Rattle.std.specs.List.{Contains}
use Rattle.std.proofs.lemmas.Option.{none-some, same_Some}
use native.Mathlib.Decide.{ℕ_discrete}
use Rattle.ae_core.specs.declared.problems.AcSymbol.{AcSymbol}
use Rattle.ae_multiset.specs.Multisets.{rising}
use Rattle.ae_multiset.specs.Rewriting.{IsReduced}
use Rattle.ae_multiset.proofs.Counts.{back, same}
use Rattle.ae_multiset.proofs.Rising.{count-rising}
use Rattle.ae_descents.specs.Descents.Descends.{itself}
use Rattle.ae_descents.proofs.Descending.{to_same, wider}
use Rattle.ae_journal.specs.RuleLines.{WasNoted}
use Rattle.ae_journal.specs.declared.systems.RuleEntry.{RuleEntry}
use Rattle.ae_journal.proofs.Splits.{contains_here, contains_later, contains_cases}
use Rattle.ae_settled.specs.Held.{HasRule}
use Rattle.ae_monoid.specs.Rules.{AreRules, IsRuleOf}
use Rattle.ae_monoid.specs.Changes.{with_right, rule_from}
use Rattle.ae_monoid.specs.declared.rules.Kept.{Kept}
use Rattle.ae_rule_lines.specs.Lineage.{HadRepresentative}
use Rattle.ae_rule_lines.specs.InStep.{IsLeftOf, ArePaired}
use Rattle.ae_rule_lines.specs.Changes.{IsRuleEntered, HasNewRight}
use Rattle.ae_rule_changes.specs.Entries.{AreEntries, ArePairedBelow}
use Rattle.ae_rule_changes.specs.Laws.{OrientedRulesAreEntered, ComposedRulesHaveNewRights, NotedPairsArePaired, DeducedPairsHaveNewSides, KeptRulesDescend}
use Rattle.ae_rule_changes.proofs.TakenOut.{same_entry}

-- ---- entered
-- a number that wasn't given is free
free_next : (kept : ℕ → Option Kept) (next : ℕ) → AreRules kept next → kept next ≡ None
free_next kept next r = by_option (kept next) refl
  where
    by_option : (o : Option Kept) → kept next ≡ o → kept next ≡ None
    by_option None q = q
    by_option (Some k) q = absurd (omega (arith, r.below next k q))

module _ (next : ℕ) (old new : ℕ → Option Kept) (rules more : ℕ → Option RuleEntry) (paired : ℕ → List ℕ) (u : AcSymbol) (r : AreRules old next) (a : AreEntries old rules) (b : AreEntries new more)
    (others : (n : ℕ) → n ≢ next → new n ≡ old n) (given : ArePairedBelow paired next) where
  unpaired : (m : ℕ) → ¬ ArePaired paired m next
  unpaired m (inl c) = omega (arith, (given m next c).1)
  unpaired m (inr c) = omega (arith, (given next m c).0)

  -- no rule has the left side: it would reduce it
  new_left : (l : List ℕ) → IsReduced (HasRule rules u) l → (m : ℕ) → ¬ IsLeftOf rules u (rising l) m
  new_left l h m p =
      h (rising l) p.rule.right (record { number = m; there = p.there ∙ (λ z. Some (record { symbol = p.symbol z; left = p.left z; right = p.rule.right })) })
      (record { each = λ z. omega (arith, count-rising z l) })

  enter : (l s : List ℕ) (just : ℕ) → IsReduced (HasRule rules u) l → new next ≡ Some (rule_from u l s just) → IsRuleEntered rules more paired next (record { symbol = u; left = rising l; right = rising s })
  enter l s just h t = record {
    free = a.none next (free_next old next r);
    there = b.some next (rule_from u l s just) t;
    others = λ m d. same_entry old new rules more a b m (others m d);
    unpaired = unpaired;
    new_left = new_left l h;
  }

pub oriented_entered : OrientedRulesAreEntered
oriented_entered next just old new rules more paired u l s r a b o others given h k =
    (λ d. enter next old new rules more paired u r a b others given l s just h (o.first_larger d), λ d. enter next old new rules more paired u r a b others given s l just k (o.second_larger d))

-- ---- changed
pub composed_new : ComposedRulesHaveNewRights
composed_new sig ts js n just k right old new rules later a b t v others d = record {
  each = λ m e u. by_number m e u (ℕ_discrete m n);
  no_more = λ m u. none_by m u (ℕ_discrete m n);
}
  where
    itself_new : (e : RuleEntry) → HasNewRight sig ts js e e
    itself_new e = record { symbol = refl; left = refl; right = itself (same e.right) }

    changed : HasNewRight sig ts js k.entry (with_right k right just).entry
    changed = record {
      symbol = refl;
      left = refl;
      right = to_same (HadRepresentative sig ts js) (WasNoted js k.entry.symbol) d (record { each = λ z. sym (count-rising z right) });
    }

    by_number : (m : ℕ) (e : RuleEntry) → rules m ≡ Some e → Dec (m ≡ n) → (f : RuleEntry) × (later m ≡ Some f) × HasNewRight sig ts js e f
    by_number m e u (yes q) =
        let s : k.entry ≡ e = same_Some k.entry e (sym (a.some n k t) ∙ ap rules (sym q) ∙ u) in
        ((with_right k right just).entry, ap later q ∙ b.some n (with_right k right just) v, subst (λ (c : RuleEntry). HasNewRight sig ts js c (with_right k right just).entry) s changed)
    by_number m e u (no f) = (e, same_entry old new rules later a b m (others m f) ∙ u, itself_new e)

    none_by : (m : ℕ) → rules m ≡ None → Dec (m ≡ n) → later m ≡ None
    none_by m u (yes q) = absurd (none-some k.entry (sym u ∙ ap rules q ∙ a.some n k t))
    none_by m u (no f) = same_entry old new rules later a b m (others m f) ∙ u

-- ---- paired
module _ (m n : ℕ) (old new : ℕ → List ℕ) (more : new m ≡ n ∷ old m) (others : (k : ℕ) → k ≢ m → new k ≡ old k) where
  abbrev Too : ℕ → ℕ → Type 0
  Too c d = ArePaired old c d ⊎ ((c ≡ m) × (d ≡ n)) ⊎ ((c ≡ n) × (d ≡ m))

  there_then : (c d : ℕ) → Contains (new c) d → Dec (c ≡ m) → Contains (old c) d ⊎ ((c ≡ m) × (d ≡ n))
  there_then c d h (yes q) =
      elim (contains_cases n (old m) d (subst (λ (ns : List ℕ). Contains ns d) (ap new q ∙ more) h)) [
        | inl e ↦ inr (q, sym e)
        | inr k ↦ inl (subst (λ (x : ℕ). Contains (old x) d) (sym q) k)
      ]
  there_then c d h (no f) = inl (subst (λ (ns : List ℕ). Contains ns d) (others c f) h)

  still_there : (c d : ℕ) → Contains (old c) d → Dec (c ≡ m) → Contains (new c) d
  still_there c d h (yes q) = subst (λ (ns : List ℕ). Contains ns d) (sym (ap new q ∙ more)) (contains_later n (old m) d (subst (λ (x : ℕ). Contains (old x) d) q h))
  still_there c d h (no f) = subst (λ (ns : List ℕ). Contains ns d) (sym (others c f)) h

  now_there : Contains (new m) n
  now_there = subst (λ (ns : List ℕ). Contains ns n) (sym more) (contains_here n (old m))

  forth : (c d : ℕ) → ArePaired new c d → Too c d
  forth c d (inl h) = elim (there_then c d h (ℕ_discrete c m)) [ inl k ↦ inl (inl k) | inr e ↦ inr (inl e) ]
  forth c d (inr h) = elim (there_then d c h (ℕ_discrete d m)) [ inl k ↦ inl (inr k) | inr e ↦ inr (inr (e.1, e.0)) ]

  back_again : (c d : ℕ) → Too c d → ArePaired new c d
  back_again c d (inl (inl h)) = inl (still_there c d h (ℕ_discrete c m))
  back_again c d (inl (inr h)) = inr (still_there d c h (ℕ_discrete d m))
  back_again c d (inr (inl e)) = inl (subst (λ (p : ℕ × ℕ). Contains (new p.0) p.1) (λ z. (sym e.0 z, sym e.1 z)) now_there)
  back_again c d (inr (inr e)) = inr (subst (λ (p : ℕ × ℕ). Contains (new p.0) p.1) (λ z. (sym e.1 z, sym e.0 z)) now_there)

pub noted_paired : NotedPairsArePaired
noted_paired m n old new more others c d = (forth m n old new more others c d, back_again m n old new more others c d)

pub deduced_new : DeducedPairsHaveNewSides
deduced_new sig ts js p q pair h = record { symbol = h.symbol; left = itself (back h.left); right = itself (back h.right) }

-- ---- descent
pub kept_descend : KeptRulesDescend
kept_descend rep kept rules u a b e d = wider (λ n r. rep n ≡ r) (λ n r. rep n ≡ r) (IsRuleOf kept u) (HasRule rules u) (λ n r h. h) rule_there d
  where
    rule_there : (l r : List ℕ) → IsRuleOf kept u l r → HasRule rules u l r
    rule_there l r h = record { number = h.number; there = e.some h.number h.rule h.there ∙ (λ z. Some (record { symbol = h.of z; left = h.left z; right = h.right z })) }
