-- Parts of a step one after another, where the first ones took up nothing.
use Rattle.std.specs.Prelude.{ℕ, ◌<◌, List, [], ◌≡◌}
use Rattle.std.proofs.Common.{Result, Err, IsErrAnd, refl, sym, ap, ◌∙◌, subst}
use Rattle.std.proofs.lemmas.Result.{err_from_is_err_and}
use Rattle.ae_equations.specs.Paired.{partners}
use Rattle.ae_equations.specs.Queued.{waiting}
use Rattle.ae_journal.specs.Journals.{live, counted_in}
use Rattle.ae_journal.specs.Licences.{IsLicensed}
use Rattle.ae_journal.specs.Noted.{Noted}
use Rattle.ae_journal.specs.Standing.{Setting}
use Rattle.ae_journal.specs.declared.answers.WideAt.{WideAt}
use Rattle.ae_journal.specs.declared.lines.Line.{Line}
use Rattle.ae_monoid.specs.Rules.{Contents as Rules, rule_at}
use Rattle.ae_equations.specs.declared.pairs.Pairs.{Pairs}
use Rattle.ae_store.specs.Stores.{Stored}
use Rattle.ae_sweeps.specs.Given.{entries_of}
use Rattle.ae_theory.specs.Names.{IsNamedBy}
use Rattle.ae_theory.specs.Noting.{MayAll, literals}
use Rattle.ae_theory.specs.Tagged.{Tagged}
use Rattle.ae_theory.specs.declared.theory.Fail.{Fail}
use Rattle.ae_theory.specs.declared.theory.Fail.TheVariants.{Number}
use Rattle.ae_turns.specs.Cleared.{AreComposed}
use Rattle.ae_turns.specs.Ending.{MayBeWide}
use Rattle.ae_turns.specs.Leading.{Leads}
use Rattle.ae_turns.specs.Representing.{IsTaken, AreRepresentatives}
use Rattle.ae_turns.proofs.Steps.{staying_leads, going_on_leads}
use Rattle.ae_state.specs.declared.holding.Holding.{Holding}
use Rattle.ae_state.specs.Names.{rules_now}
use Rattle.ae_state.specs.Stepping.{paired_now, IsInStep}
use Rattle.ae_value_table.specs.Alike.{IsLeastAlike}
use Rattle.ae_value_table.specs.Table.{Contents as Values}
use Rattle.ae_gaps.specs.Inner.Idle.{IsIdle}
use Rattle.ae_gaps.specs.Inner.Overlapping.{AreJoined, ArePairedOrApart}

-- the failure of a call that a `?` hands on
pub same_fail : {S T : Type 0} (r : Result T Fail) (x : Fail) (w : WideAt) → IsErrAnd r (λ z. z ≡ x) → r ≡ Err (Number w) → ◌≡◌ {A = Result S Fail} (Err x) (Err (Number w))
same_fail r x w h e =
    let p = err_from_is_err_and r h in
    let k : x ≡ Number w = cc in
    λ i. Err (k i)

-- nothing was taken up so far, and all is right
pub record IsGoingOn (s : Stored) (o : Holding) (before : Noted) (p : Holding) (after : Noted) : Type 0 where
  pub leads : Leads s o before p after
  pub taken : IsTaken p s
  pub step : IsInStep p (live after.lines)
  pub idle : IsIdle o before p after

pub idle_none : (o : Holding) (j : Noted) → waiting o.equations.queue ≡ [] → IsIdle o j o j
idle_none o j none = record { stays = refl; rules = refl; pairs = refl; none = none; lines = refl }

pub idle_then : (o p q : Holding) (j k l : Noted) → IsIdle o j p k → IsIdle p k q l → IsIdle o j q l
idle_then o p q j k l a b =
    record {
      stays = b.stays ∙ ap (λ (h : Holding). record h { equations = q.equations; justs = q.justs }) a.stays;
      rules = b.rules ∙ a.rules;
      pairs = b.pairs ∙ a.pairs;
      none = b.none;
      lines = b.lines ∙ a.lines;
    }

pub going_first : (s : Stored) (o : Holding) (j : Noted) → IsTaken o s → IsInStep o (live j.lines) → waiting o.equations.queue ≡ [] → IsGoingOn s o j o j
going_first s o j taken step none = record { leads = staying_leads s o j taken.fits; taken = taken; step = step; idle = idle_none o j none }

module _ (s : Stored) (o : Holding) (j : Noted) (p : Holding) (k : Noted) (g : IsGoingOn s o j p k) where
  -- what the next part is given
  values_same : p.values ≡ o.values
  values_same = ap (λ (h : Holding). h.values) (g.idle).stays

  pub reps_still : (reps : List ℕ) → AreRepresentatives o reps → AreRepresentatives p reps
  reps_still reps r =
      record {
        one_each = r.one_each ∙ ap (λ (v : Values). v.taken) (sym values_same);
        least = λ n q e. subst (λ (v : Values). IsLeastAlike v n q) (sym values_same) (r.least n q e);
      }

  pub composed_still : (reps : List ℕ) → AreComposed reps (λ n. rule_at o.equations.rules n) → AreComposed reps (λ n. rule_at p.equations.rules n)
  composed_still reps c = subst (λ (r : Rules). AreComposed reps (λ n. rule_at r n)) (sym (g.idle).rules) c

  pub paired_still : (m n : ℕ) → ArePairedOrApart (λ i. rule_at o.equations.rules i) (paired_now o) m n → ArePairedOrApart (λ i. rule_at p.equations.rules i) (paired_now p) m n
  paired_still m n h =
      subst (λ (z : Rules × Pairs). ArePairedOrApart (λ i. rule_at z.0 i) (λ i. partners z.1 i) m n) (λ i. (sym (g.idle).rules i, sym (g.idle).pairs i)) h

  -- and what it leaves
  pub joined_still : (m n : ℕ) → AreJoined (rules_now p) m n → AreJoined (rules_now o) m n
  joined_still m n h = subst (λ (r : Rules). AreJoined (λ i. entries_of r i) m n) (g.idle).rules h

  pub leads_on : (q : Holding) (l : Noted) → Leads s p k q l → Leads s o j q l
  leads_on q l h = going_on_leads s o p q j k l g.leads h

  pub wide_on : (lines : List Line) (wide : WideAt) → MayBeWide s p k.lines lines wide → MayBeWide s o j.lines lines wide
  wide_on lines wide h =
      subst (λ (z : List Tagged × List Line). (x : Setting) → IsNamedBy x s z.1 → MayAll x (literals z.0) z.1 → IsLicensed x lines wide)
      (λ i. ((g.leads).assumed i, ap (λ (n : Noted). n.lines) (g.idle).lines i)) h

  pub more_on : (l : Noted) → counted_in k.lines < counted_in l.lines → counted_in j.lines < counted_in l.lines
  more_on l h = subst (λ (n : Noted). counted_in n.lines < counted_in l.lines) (g.idle).lines h

  pub going_more : (q : Holding) (l : Noted) → Leads s p k q l → IsTaken q s → IsInStep q (live l.lines) → IsIdle p k q l → IsGoingOn s o j q l
  going_more q l leads taken step idle = record { leads = leads_on q l leads; taken = taken; step = step; idle = idle_then o p q j k l g.idle idle }

  pub all_still : ((m n : ℕ) → m < n → n < p.equations.rules.next → AreJoined (rules_now p) m n) → (m n : ℕ) → m < n → n < o.equations.rules.next → AreJoined (rules_now o) m n
  all_still h m n l i = joined_still m n (h m n l (subst (λ (r : Rules). n < r.next) (sym (g.idle).rules) i))
