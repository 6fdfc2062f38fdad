-- An equation that is put behind those that wait, where none waits.
use Rattle.std.specs.Prelude.{ℕ, ◌≡◌, List, [], ◌∷◌, ◌++◌, drop, Some}
use Rattle.std.specs.List.{AllByRecursion}
use Rattle.std.proofs.Common.{sym, ap, ◌∙◌, subst}
use Rattle.std.proofs.lemmas.List.{append-nil}
use Rattle.ae_conflicts.specs.Saying.{RestsOnAssumed}
use Rattle.ae_equation_turns.specs.Said.{IsWaitingSaid}
use Rattle.ae_equation_turns.specs.Turned.{AreRightsOwn}
use Rattle.ae_equations.specs.Held.{Contents as Equations}
use Rattle.ae_equations.specs.Queued.{waiting}
use Rattle.ae_equations.specs.Versions.{Lasts as EquationsLast}
use Rattle.ae_equations.specs.declared.queue.Waiting.{Waiting}
use Rattle.ae_journal.specs.Noted.{Noted}
use Rattle.ae_monoid.specs.Rules.{Contents as Rules, rule_at}
use Rattle.ae_orienting.specs.Meeting.{Meets}
use Rattle.ae_pmap.specs.Forest.{present}
use Rattle.ae_pmap.specs.Walk.{first_of}
use Rattle.ae_store.specs.Stores.{Stored}
use Rattle.ae_theory.specs.Names.{terms_in}
use Rattle.ae_state.specs.declared.holding.Holding.{Holding}
use Rattle.ae_state.specs.Names.{all_terms, terms_now}
use Rattle.ae_turns.specs.Leading.{Leads}
use Rattle.ae_turns.specs.Representing.{IsTaken}
use Rattle.ae_turns.proofs.DroppedRules.{with_equations}
use Rattle.ae_turns.proofs.Steps.{noted_none, legal_none}
use Rattle.ae_gaps.specs.Inner.Idle.{IsIdle}
use Rattle.ae_gaps.proofs.CoupledLeads.{said_now}
use Rattle.ae_gaps.proofs.Pushed.{IsGrounded, leads_pushed, taken_pushed}

module _ (s : Stored) (o : Holding) (t : IsTaken o s) (j : Noted) (e : Equations) (rules : e.rules ≡ o.equations.rules) (lasts : EquationsLast o.equations e) where
  -- a refusal
  pub refused_push : waiting e.queue ≡ waiting o.equations.queue → Leads s o j (with_equations o e) j
  refused_push queue =
      leads_pushed o e [] rules (queue ∙ sym (append-nil (waiting o.equations.queue))) tt tt s t.fits lasts j j (noted_none j) (λ x bound named. legal_none x bound j.lines)

  module _ (w : Waiting) (queue : waiting e.queue ≡ waiting o.equations.queue ++ w ∷ []) (said : IsWaitingSaid s.signature (terms_in s) o.justs w) (rests : RestsOnAssumed (all_terms o) o.justs (present o.assumed) w.step) where
    its_said : AllByRecursion (IsWaitingSaid o.signature (terms_now o) o.justs) (w ∷ [])
    its_said = (said_now o s t o.justs w said, tt)

    its_ground : AllByRecursion (IsGrounded o) (w ∷ [])
    its_ground = (rests, tt)

    pub pushed_leads : Leads s o j (with_equations o e) j
    pushed_leads = leads_pushed o e (w ∷ []) rules queue its_said its_ground s t.fits lasts j j (noted_none j) (λ x bound named. legal_none x bound j.lines)

    pub pushed_taken : IsTaken (with_equations o e) s
    pushed_taken = taken_pushed o e (w ∷ []) rules queue its_said its_ground s t

-- ---- the queue, where none waited before
module _ (o : Holding) (e : Equations) (w : Waiting) (queue : waiting e.queue ≡ waiting o.equations.queue ++ w ∷ []) (none : waiting o.equations.queue ≡ []) where
  pub one_waits : waiting e.queue ≡ w ∷ []
  one_waits = queue ∙ ap (λ (ws : List Waiting). ws ++ w ∷ []) none

  pub some_waits : waiting e.queue ≡ [] → ⊥
  some_waits q = let f : ◌≡◌ {A = List Waiting} (w ∷ []) [] = sym one_waits ∙ q in cc f

  pub first_waits : first_of (waiting e.queue) ≡ Some w
  first_waits = ap first_of one_waits

  pub none_then : (ws : List Waiting) → ws ≡ drop 1 (waiting e.queue) → ws ≡ []
  none_then ws q = q ∙ ap (drop 1) one_waits

-- it was given up
pub given_up : (o p q : Holding) (j l : Noted) → p ≡ record o { equations = p.equations } → q ≡ record p { equations = q.equations; justs = q.justs } → p.equations.rules ≡ o.equations.rules → p.equations.pairs ≡ o.equations.pairs
    → q.equations.rules ≡ p.equations.rules → q.equations.pairs ≡ p.equations.pairs → waiting q.equations.queue ≡ [] → l ≡ j → IsIdle o j q l
given_up o p q j l a b rules pairs more_rules more_pairs none lines =
    record {
      stays = b ∙ ap (λ (h : Holding). record h { equations = q.equations; justs = q.justs }) a;
      rules = more_rules ∙ rules;
      pairs = more_pairs ∙ pairs;
      none = none;
      lines = lines;
    }

pub rights_same : (reps : List ℕ) (r q : Rules) → q ≡ r → AreRightsOwn reps (λ n. rule_at r n) → AreRightsOwn reps (λ n. rule_at q n)
rights_same reps r q e h = subst (λ (z : Rules). AreRightsOwn reps (λ n. rule_at z n)) (sym e) h

pub meets_same : (reps : List ℕ) (r q : Rules) (w : Waiting) → q ≡ r → Meets reps (λ n. rule_at q n) w → Meets reps (λ n. rule_at r n) w
meets_same reps r q w e h = subst (λ (z : Rules). Meets reps (λ n. rule_at z n) w) e h
