-- Two rules that are paired, as a step of saturation.
use Rattle.std.specs.Prelude.{ℕ, ◌<◌, ◌≡◌, ◌≢◌, List, [], ◌∷◌, ◌++◌}
use Rattle.std.specs.List.{AllByRecursion}
use Rattle.std.proofs.Common.{sym, ◌∙◌, subst}
use Rattle.std.proofs.lemmas.List.{append-nil}
use Rattle.ae_core.specs.declared.problems.Signature.{Signature}
use Rattle.ae_core.specs.declared.terms.Term.{Term}
use Rattle.ae_equation_turns.specs.Said.{IsWaitingSaid}
use Rattle.ae_equations.specs.Held.{Contents as Equations}
use Rattle.ae_equations.specs.Paired.{partners}
use Rattle.ae_equations.specs.Queued.{waiting}
use Rattle.ae_equations.specs.Versions.{Lasts as EquationsLast}
use Rattle.ae_equations.specs.declared.queue.Waiting.{Waiting}
use Rattle.ae_journal.specs.Journals.{live}
use Rattle.ae_journal.specs.Noted.{Noted}
use Rattle.ae_journal.specs.declared.lines.Line.{Line}
use Rattle.ae_journal.specs.declared.lines.Line.TheVariants as line
use Rattle.ae_journal.specs.declared.systems.RuleEntry.{RuleEntry}
use Rattle.ae_just.specs.Steps.{Fits}
use Rattle.ae_just.specs.declared.steps.Step.{Step}
use Rattle.ae_monoid.specs.Rules.{AreRules}
use Rattle.ae_store.specs.Growing.{IsFront}
use Rattle.ae_store.specs.Stores.{Stored}
use Rattle.ae_theory.specs.Names.{terms_in}
use Rattle.ae_state.specs.declared.holding.Holding.{Holding}
use Rattle.ae_state.specs.Names.{terms_now}
use Rattle.ae_state.specs.Stepping.{paired_now, IsInStep}
use Rattle.ae_turns.specs.Leading.{Leads}
use Rattle.ae_turns.specs.Representing.{IsTaken}
use Rattle.ae_turns.proofs.DroppedRules.{with_equations, kept_in}
use Rattle.ae_turns.proofs.Steps.{going_on_leads}
use Rattle.ae_representatives.proofs.MoreSteps.{with_steps, step_more, taken_more, steps_lead}
use Rattle.ae_representatives.proofs.Taken.{seen_now}
use Rattle.ae_gaps.specs.Inner.Overlapping.{AreUnpaired, IsOverlapSaid}
use Rattle.ae_gaps.proofs.Coupled.{pair_noted, pair_legal, pair_live, may_pair, step_coupled}
use Rattle.ae_gaps.proofs.Grounds.{overlap_rests}
use Rattle.ae_gaps.proofs.Pushed.{IsGrounded, leads_pushed, taken_pushed}

-- an equation that is said of the store's names is said of the names that have values
pub said_now : (o : Holding) (s : Stored) → IsTaken o s → (js : List Step) (w : Waiting) → IsWaitingSaid s.signature (terms_in s) js w → IsWaitingSaid o.signature (terms_now o) js w
said_now o s t js w h = subst (λ (z : Signature × List Term). IsWaitingSaid z.0 z.1 js w) (sym (seen_now o s t)) h

module _ (s : Stored) (o : Holding) (t : IsTaken o s) (js : List Step) (front : IsFront o.justs js) (fits : Fits s.signature (terms_in s) js) (m n : ℕ) (before : m < n)
    (un : AreUnpaired (kept_in o.equations) (paired_now o) m n) (are : AreRules (kept_in o.equations) o.equations.rules.next) (j k : Noted) (l : Line) (made : k ≡ record j { lines = j.lines ++ l ∷ [] })
    (is_line : l ≡ line.Pair ((un.overlap).first).entry.symbol ((un.overlap).first).entry.left ((un.overlap).second).entry.left) (step : IsInStep o (live j.lines)) (f : Equations)
    (rules : f.rules ≡ o.equations.rules) (lasts : EquationsLast o.equations f) where
  abbrev d : RuleEntry
  d = ((un.overlap).first).entry

  abbrev e : RuleEntry
  e = ((un.overlap).second).entry

  abbrev mid : Holding
  mid = with_steps o js

  abbrev last : Holding
  last = with_equations (with_steps o js) f

  leads_by : (more : List Waiting) → waiting f.queue ≡ waiting o.equations.queue ++ more → AllByRecursion (IsWaitingSaid o.signature (terms_now o) js) more → AllByRecursion (IsGrounded mid) more → Leads s o j last k
  leads_by more queue said grounded =
      going_on_leads s o mid last j j k (steps_lead o js front s t fits j)
      (leads_pushed mid f more rules queue said grounded s (taken_more o js front s t fits).fits lasts j k (pair_noted j k l made d.symbol d.left e.left is_line)
      (λ x bound named. pair_legal j k l made x bound d.symbol d.left e.left is_line (may_pair o m n before un are j.lines step)))

  -- a refusal, after the line was noted
  pub refused_leads : waiting f.queue ≡ waiting o.equations.queue → Leads s o j last k
  refused_leads queue = leads_by [] (queue ∙ sym (append-nil (waiting o.equations.queue))) tt tt

  module _ (w : Waiting) (said : IsOverlapSaid s.signature (terms_in s) o.justs js (kept_in o.equations) m n w) (queue : waiting f.queue ≡ waiting o.equations.queue ++ w ∷ []) where
    its_said : AllByRecursion (IsWaitingSaid o.signature (terms_now o) js) (w ∷ [])
    its_said = (said_now o s t js w said.said, tt)

    its_ground : AllByRecursion (IsGrounded mid) (w ∷ [])
    its_ground = (overlap_rests o js s.signature (terms_in s) m n w (t.fits).right said, tt)

    pub coupled_leads : Leads s o j last k
    coupled_leads = leads_by (w ∷ []) queue its_said its_ground

    pub coupled_taken : IsTaken last s
    coupled_taken = taken_pushed mid f (w ∷ []) rules queue its_said its_ground s (taken_more o js front s t fits)

pub coupled_step : (o : Holding) (js : List Step) (m n : ℕ) (before : m < n) (un : AreUnpaired (kept_in o.equations) (paired_now o) m n) (j k : Noted) (l : Line) → k ≡ record j { lines = j.lines ++ l ∷ [] }
    → l ≡ line.Pair ((un.overlap).first).entry.symbol ((un.overlap).first).entry.left ((un.overlap).second).entry.left → IsInStep o (live j.lines) → (f : Equations) (w : Waiting) → w.symbol ≡ (un.pair).symbol
    → w.left ≡ (un.pair).left → w.right ≡ (un.pair).right → f.rules ≡ o.equations.rules → waiting f.queue ≡ waiting o.equations.queue ++ w ∷ [] → partners f.pairs m ≡ n ∷ partners o.equations.pairs m
    → ((i : ℕ) → i ≢ m → partners f.pairs i ≡ partners o.equations.pairs i) → IsInStep (with_equations (with_steps o js) f) (live k.lines)
coupled_step o js m n before un j k l made is_line step f w symbol left right rules queue paired others =
    let d = ((un.overlap).first).entry in
    let e = ((un.overlap).second).entry in
    subst (IsInStep (with_equations (with_steps o js) f)) (sym (pair_live j k l made d.symbol d.left e.left is_line))
    (step_coupled (with_steps o js) m n before un f w symbol left right rules queue paired others (live j.lines) (step_more o js (live j.lines) step))
