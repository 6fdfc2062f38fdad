-- No rule reduces a side of another, or a right side.
use Rattle.std.specs.Prelude.{ℕ, ◌≡◌, ◌≢◌, length, slice_get, Some}
use Rattle.std.proofs.Common.{sym, ap, ◌∙◌, subst}
use Rattle.ae_core.specs.declared.problems.AcSymbol.{AcSymbol}
use Rattle.ae_multiset.specs.Multisets.{IsPart}
use Rattle.ae_journal.specs.declared.systems.RuleEntry.{RuleEntry}
use Rattle.ae_settled.specs.Held.{Held, HasRule, entries}
use Rattle.ae_settled.specs.Settled.{IsSettled}
use Rattle.ae_settled.proofs.Entries.{entry_of}

module _ (x : Held) (settled : IsSettled x) where
  pub left_reduced : (j k : ℕ) (d e : RuleEntry) → j ≢ k → slice_get (entries x.rules x.next) j ≡ Some d → slice_get (entries x.rules x.next) k ≡ Some e → d.symbol ≡ e.symbol → ¬ IsPart d.left e.left
  left_reduced j k d e apart f g same part =
      let m = entry_of x.rules x.next j d f in
      let n = entry_of x.rules x.next k e g in
      settled.swept.left_alone m.number n.number d e (λ (q : m.number ≡ n.number). apart (m.place ∙ ap (λ (i : ℕ). length (entries x.rules i)) q ∙ sym n.place)) m.there n.there same part

  pub right_reduced : (j k : ℕ) (d e : RuleEntry) → slice_get (entries x.rules x.next) j ≡ Some d → slice_get (entries x.rules x.next) k ≡ Some e → d.symbol ≡ e.symbol → ¬ IsPart d.left e.right
  right_reduced j k d e f g same part =
      let m = entry_of x.rules x.next j d f in
      let n = entry_of x.rules x.next k e g in
      let rule : HasRule x.rules e.symbol d.left d.right = subst (λ (u : AcSymbol). HasRule x.rules u d.left d.right) same (record { number = m.number; there = m.there }) in
      settled.swept.right_reduced n.number e n.there d.left d.right rule part
