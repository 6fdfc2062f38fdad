-- Why the rules of a pass may go: stale names, and rules that stay.
use Rattle.std.proofs.Common.{◌≡◌, ℕ, zero, suc, ◌<◌, inl, inr, List, [], ◌∷◌, ◌++◌, length, map, Option, Some, refl, sym, ap, ◌∙◌, subst, arith, length-append}
use Rattle.std.specs.List.{Contains}
use Rattle.std.proofs.lemmas.Option.{same_Some}
use Rattle.ae_core.specs.declared.terms.Term.{Term}
use Rattle.ae_core.specs.declared.problems.Signature.{Signature}
use Rattle.ae_multiset.specs.Multisets.{IsSame, IsPart, minus}
use Rattle.ae_multiset.proofs.Counts.{count-append, count-minus, length_same}
use Rattle.ae_multiset.proofs.Rising.{one_spelling}
use Rattle.ae_journal.specs.Journals.{live}
use Rattle.ae_journal.specs.declared.systems.RuleEntry.{RuleEntry}
use Rattle.ae_journal.specs.declared.lines.Line.{Line}
use Rattle.ae_rule_lines.specs.InStep.{Waiting, AreRulesInStep}
use Rattle.ae_rule_lines.specs.Laws.{HaveRisingSides}
use Rattle.ae_rule_lines.proofs.Legality.{reducible_dropped, stale_dropped}
use Rattle.ae_rule_passes.specs.Passes.{drop_line, IsReducibleRule}
use Rattle.ae_rule_passes.specs.Laws.{StaleRulesMayGo, ReducibleRulesMayGo}
use Rattle.ae_rule_passes.proofs.Chains.{among, all_legal}

pub stale_go : StaleRulesMayGo
stale_go x bound sig ts js old new paired waiting numbers rules t i rise stale =
    all_legal x bound sig ts js old paired numbers new waiting rules
    (λ n e gone now w c here from same k. let s = stale n e c (from n e here) in stale_dropped x sig ts (js ++ map drop_line gone) now paired w n s.0 e k here s.1 (s.2 gone)) rise t i

-- ---- a part that isn't the whole is shorter
shorter : (a b : List ℕ) → IsPart a b → ¬ IsSame a b → length a < length b
shorter a b p d = by_rest (minus b a) (record { each = λ z. omega (arith, p.each z, count-append z a (minus b a), count-minus z b a) })
  where
    by_rest : (r : List ℕ) → IsSame b (a ++ r) → length a < length b
    by_rest [] s = absurd (d (record { each = λ z. omega (arith, s.each z, count-append z a []) }))
    by_rest (n ∷ r) s = omega (arith, length_same b (a ++ n ∷ r) s, length-append a (n ∷ r))

-- ---- a rule that stays reduces each that goes
module _ (sig : Signature) (ts : List Term) (js : List Line) (old : ℕ → Option RuleEntry) (paired : ℕ → List ℕ) (waiting : List Waiting) (numbers : List ℕ) (i : AreRulesInStep sig ts js old paired waiting)
    (rise : HaveRisingSides old) (go : (n : ℕ) → Contains numbers n → IsReducibleRule old n) where
  record HasReason (n : ℕ) (e : RuleEntry) : Type 0 where
    pub other : ℕ
    pub by : RuleEntry
    pub there : old other ≡ Some by
    pub stays : ¬ Contains numbers other
    pub symbol : by.symbol ≡ e.symbol
    pub part : IsPart by.left e.left

  less : (n : ℕ) (r : IsReducibleRule old n) → length r.by.left < length r.rule.left
  less n r =
      shorter r.by.left r.rule.left r.part (λ s.
      let q = one_spelling r.by.left r.rule.left (rise r.other r.by r.other_there) (rise n r.rule r.there) s in
      r.apart (i.distinct r.rule.symbol r.rule.left r.other n (record { rule = r.by; there = r.other_there; symbol = r.symbol; left = q }) (record { rule = r.rule; there = r.there; symbol = refl; left = refl })))

  reason : (bound n : ℕ) (e : RuleEntry) → length e.left < bound → Contains numbers n → old n ≡ Some e → HasReason n e
  reason zero n e l c t = absurd (omega (arith, l))
  reason (suc b) n e l c t =
      let r = go n c in
      let q : r.rule ≡ e = same_Some r.rule e (sym r.there ∙ t) in
      let f : length r.by.left < b = omega (arith, less n r, ap (λ (y : RuleEntry). length y.left) q, l) in
      let s : r.by.symbol ≡ e.symbol = r.symbol ∙ ap (λ (y : RuleEntry). y.symbol) q in
      let p : IsPart r.by.left e.left = subst (λ (y : RuleEntry). IsPart r.by.left y.left) q r.part in
      elim (among numbers r.other) [
        | inl k ↦ (
            let h = reason b r.other r.by f k r.other_there in
            record { other = h.other; by = h.by; there = h.there; stays = h.stays; symbol = h.symbol ∙ s; part = record { each = λ z. omega (arith, h.part.each z, p.each z) } })
        | inr k ↦ record { other = r.other; by = r.by; there = r.other_there; stays = k; symbol = s; part = p }
      ]

pub reducible_go : ReducibleRulesMayGo
reducible_go x bound sig ts js old new paired waiting numbers rules t i rise rights go =
    all_legal x bound sig ts js old paired numbers new waiting rules
    (λ n e gone now w c here from same k.
    let h = reason sig ts (live js) old paired waiting numbers i rise go (suc (length e.left)) n e (omega arith) c (from n e here) in
    reducible_dropped x sig ts (js ++ map drop_line gone) now paired w h.other n h.by e k (λ m d u. rise m d (from m d u)) (same h.other h.stays ∙ h.there) here (λ q. h.stays (subst (Contains numbers) (sym q) c)) h.symbol h.part) rights t i
