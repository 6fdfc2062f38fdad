-- Kept rules that are taken out.
use Rattle.std.proofs.Common.{◌≡◌, ℕ, ◌<◌, List, [], ◌∷◌, map, Option, Some, None, refl, sym, ◌∙◌, subst}
use Rattle.std.specs.List.{Contains}
use Rattle.std.specs.List.Sorted.{IsNonDecreasing}
use Rattle.std.proofs.lemmas.Option.{none-some, same_Some}
use Rattle.ae_base.specs.Relations.{Pairwise}
use Rattle.ae_multiset.specs.Multisets.{count}
use Rattle.ae_journal.specs.Journals.{live}
use Rattle.ae_journal.specs.declared.systems.RuleEntry.{RuleEntry}
use Rattle.ae_monoid.specs.Rules.{AreRules}
use Rattle.ae_monoid.specs.Changes.{AreTakenOut, IsReducible, IsEquationOf}
use Rattle.ae_monoid.specs.declared.rules.Kept.{Kept}
use Rattle.ae_monoid.specs.declared.pending.PendingPair.{PendingPair}
use Rattle.ae_rule_lines.specs.Laws.{HaveRisingSides}
use Rattle.ae_rule_passes.specs.Passes.{AreRulesTakenOut, IsReducibleRule}
use Rattle.ae_rule_passes.specs.Laws.{IsStaleAfter, HaveRisingRights}
use Rattle.ae_rule_passes.proofs.Chains.{passes_keep}
use Rattle.ae_rule_passes.proofs.Reasons.{stale_go, reducible_go}
use Rattle.ae_rule_changes.specs.Entries.{AreEntries, entry_of, HasStaleName}
use Rattle.ae_rule_changes.specs.Laws.{StaleRulesAreDropped, ReducibleRulesAreDropped}

-- ---- rules and kept rules
-- a rule is that of one that is kept
pub kept_by : (kept : ℕ → Option Kept) (rules : ℕ → Option RuleEntry) → AreEntries kept rules → (n : ℕ) (e : RuleEntry) → rules n ≡ Some e → (k : Kept) × (kept n ≡ Some k) × (k.entry ≡ e)
kept_by kept rules a n e t = by_option (kept n) refl
  where
    by_option : (o : Option Kept) → kept n ≡ o → (k : Kept) × (kept n ≡ Some k) × (k.entry ≡ e)
    by_option None q = absurd (none-some e (sym (a.none n q) ∙ t))
    by_option (Some k) q = (k, q, same_Some k.entry e (sym (a.some n k q) ∙ t))

-- where the same is kept under a number, the same rule has it
pub same_entry : (old new : ℕ → Option Kept) (rules later : ℕ → Option RuleEntry) → AreEntries old rules → AreEntries new later → (n : ℕ) → new n ≡ old n → later n ≡ rules n
same_entry old new rules later a b n e = by_option (old n) refl
  where
    by_option : (o : Option Kept) → old n ≡ o → later n ≡ rules n
    by_option None q = b.none n (e ∙ q) ∙ sym (a.none n q)
    by_option (Some k) q = b.some n k (e ∙ q) ∙ sym (a.some n k q)

pub rising_sides : (kept : ℕ → Option Kept) (rules : ℕ → Option RuleEntry) (next : ℕ) → AreRules kept next → AreEntries kept rules → HaveRisingSides rules
rising_sides kept rules next r a n e t = let k = kept_by kept rules a n e t in subst (λ (d : RuleEntry). IsNonDecreasing d.left) k.2 (r.well n k.0 k.1).left_rises

pub rising_rights : (kept : ℕ → Option Kept) (rules : ℕ → Option RuleEntry) (next : ℕ) → AreRules kept next → AreEntries kept rules → HaveRisingRights rules
rising_rights kept rules next r a n e t = let k = kept_by kept rules a n e t in subst (λ (d : RuleEntry). IsNonDecreasing d.right) k.2 (r.well n k.0 k.1).right_rises

-- ---- taken out
equations_are : (kept : ℕ → Option Kept) (rules : ℕ → Option RuleEntry) → AreEntries kept rules → (ns : List ℕ) (ps : List PendingPair) → Pairwise (λ n p. IsEquationOf (kept n) p) ns ps
    → Pairwise (λ n e. rules n ≡ Some e) ns (map entry_of ps)
equations_are kept rules a [] [] w = tt
equations_are kept rules a [] (p ∷ ps) w = absurd w
equations_are kept rules a (n ∷ ns) [] w = absurd w
equations_are kept rules a (n ∷ ns) (p ∷ ps) w =
    let q = w.0 in
    (a.some n q.rule q.there ∙ (λ z. Some (record { symbol = sym q.symbol z; left = sym q.left z; right = sym q.right z })), equations_are kept rules a ns ps w.1)

pub taken_out : (P : ℕ → Type 0) (old new : ℕ → Option Kept) (rules stay : ℕ → Option RuleEntry) (pairs : List PendingPair) → AreEntries old rules → AreEntries new stay → (t : AreTakenOut old new P pairs)
    → AreRulesTakenOut rules stay t.numbers (map entry_of pairs)
taken_out P old new rules stay pairs a b t = record {
  different = t.different;
  are = equations_are old rules a t.numbers pairs t.equations;
  gone = λ n c. b.none n (t.gone n ((t.are n).0 c));
  others = λ n d. same_entry old new rules stay a b n (t.others n (λ p. d ((t.are n).1 p)));
}

pub stale_dropped : StaleRulesAreDropped
stale_dropped x bound sig ts js rep next old new rules stay paired waiting pairs r a b t stale i =
    let out = taken_out (λ n. HasStaleName rep (old n)) old new rules stay pairs a b t in
    record {
      legal = stale_go x bound sig ts js rules stay paired waiting t.numbers (map entry_of pairs) out i (rising_rights old rules next r a) why;
      step = passes_keep sig ts (live js) rules stay paired waiting t.numbers (map entry_of pairs) out i;
    }
  where
    why : (n : ℕ) (e : RuleEntry) → Contains t.numbers n → rules n ≡ Some e → (k : ℕ) × (0 < count k e.left) × IsStaleAfter x js k
    why n e c u =
        let s = (t.are n).0 c in
        let same : s.rule.entry ≡ e = same_Some s.rule.entry e (sym (a.some n s.rule s.there) ∙ u) in
        (s.name, subst (λ (d : RuleEntry). 0 < count s.name d.left) same s.has, stale s.name s.stale)

pub reducible_dropped : ReducibleRulesAreDropped
reducible_dropped x bound sig ts js next old new rules stay paired waiting pairs r a b t i =
    let out = taken_out (IsReducible old) old new rules stay pairs a b t in
    record {
      legal = reducible_go x bound sig ts js rules stay paired waiting t.numbers (map entry_of pairs) out i (rising_sides old rules next r a) (rising_rights old rules next r a) why;
      step = passes_keep sig ts (live js) rules stay paired waiting t.numbers (map entry_of pairs) out i;
    }
  where
    why : (n : ℕ) → Contains t.numbers n → IsReducibleRule rules n
    why n c =
        let s = (t.are n).0 c in
        record {
          rule = s.rule.entry;
          there = a.some n s.rule s.there;
          other = s.other;
          by = s.fits.rule.entry;
          other_there = a.some s.other s.fits.rule s.fits.there;
          apart = s.is_other;
          symbol = s.fits.of;
          part = s.fits.part;
        }
