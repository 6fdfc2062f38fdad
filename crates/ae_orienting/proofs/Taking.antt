-- The oldest equation is taken up, and equations are taken up one after another.
use Rattle.std.specs.Prelude.{ℕ, ◌<◌, ◌⊎◌, List, [], ◌≡◌, drop, Option, Some}
use Rattle.std.proofs.Common.{refl, sym, ap, ◌∙◌, subst, inl, inr}
use Rattle.std.proofs.lemmas.Option.{same_Some}
use Rattle.ae_equation_turns.specs.Turned.{DescendsBy, AreRightsOwn}
use Rattle.ae_equations.specs.Held.{Contents as Equations}
use Rattle.ae_equations.specs.Queued.{waiting}
use Rattle.ae_equations.specs.Versions.{Lasts as EquationsLast}
use Rattle.ae_equations.specs.declared.queue.Waiting.{Waiting}
use Rattle.ae_journal.specs.Journals.{live, counted_in}
use Rattle.ae_journal.specs.Noted.{Noted}
use Rattle.ae_journal.specs.declared.answers.WideAt.{WideAt}
use Rattle.ae_journal.specs.declared.lines.Line.{Line}
use Rattle.ae_monoid.specs.Rules.{Contents as Rules, rule_at}
use Rattle.ae_monoid.specs.declared.rules.Kept.{Kept}
use Rattle.ae_multiset.specs.Multisets.{IsLess}
use Rattle.ae_pmap.specs.Walk.{first_of}
use Rattle.ae_store.specs.Stores.{Stored}
use Rattle.ae_theory.specs.Names.{IsNamedBy}
use Rattle.ae_theory.specs.Noting.{MayAll, literals}
use Rattle.ae_theory.specs.Tagged.{Tagged}
use Rattle.ae_state.specs.declared.holding.Holding.{Holding}
use Rattle.ae_state.specs.Names.{assumed_in}
use Rattle.ae_state.specs.Stepping.{IsInStep}
use Rattle.ae_turns.specs.Ending.{MayBeWide}
use Rattle.ae_turns.specs.Leading.{Leads}
use Rattle.ae_turns.specs.Representing.{IsTaken, AreRepresentatives}
use Rattle.ae_turns.proofs.DroppedRules.{with_equations}
use Rattle.ae_turns.proofs.Steps.{staying_leads, going_on_leads}
use Rattle.ae_representatives.proofs.MoreSteps.{step_more, reps_more}
use Rattle.ae_orienting.specs.Meeting.{Meets}
use Rattle.ae_orienting.specs.Inner.Reduced.{Descend, IsFirstReduced}
use Rattle.ae_orienting.proofs.Forgetting.{right_fewer, step_fewer}
use Rattle.ae_orienting.proofs.Frames.{taken_after, equations_lead}

-- ---- what is held with more steps alone
module _ (o p : Holding) (only_steps : p ≡ record o { justs = p.justs }) where
  pub step_then : (ls : List Line) → IsInStep o ls → IsInStep p ls
  step_then ls h = subst (λ (q : Holding). IsInStep q ls) (sym only_steps) (step_more o p.justs ls h)

  pub reps_then : (reps : List ℕ) → AreRepresentatives o reps → AreRepresentatives p reps
  reps_then reps r = subst (λ (q : Holding). AreRepresentatives q reps) (sym only_steps) (reps_more o p.justs reps r)

  pub equations_then : p.equations ≡ o.equations
  equations_then = ap (λ (q : Holding). q.equations) only_steps

  -- with other equations
  pub stays_then : (e : Equations) → with_equations p e ≡ record o { equations = e; justs = p.justs }
  stays_then e = ap (λ (q : Holding). record q { equations = e }) only_steps

-- ---- widths
pub wide_then : (s : Stored) (o p : Holding) (a b c : List Line) (wide : WideAt) → assumed_in p ≡ assumed_in o → b ≡ a → MayBeWide s p b c wide → MayBeWide s o a c wide
wide_then s o p a b c wide e f h x named may =
    h x (subst (IsNamedBy x s) (sym f) named) (subst (λ (y : List Tagged × List Line). MayAll x (literals y.0) y.1) (λ i. (sym e i, sym f i)) may)

-- ---- an equation whose sides came together is given up
module _ (s : Stored) (o p : Holding) (j : Noted) (leads : Leads s o j p j) (t : IsTaken p s) (e : Equations) (rules : e.rules ≡ p.equations.rules) (pairs : e.pairs ≡ p.equations.pairs)
    (lasts : EquationsLast p.equations e) where
  pub given_leads : waiting e.queue ≡ drop 1 (waiting p.equations.queue) → Leads s o j (with_equations p e) j
  given_leads queue = going_on_leads s o p (with_equations p e) j j j leads (equations_lead p s t e (right_fewer p e queue rules pairs (t.fits).right) lasts j)

  pub given_taken : waiting e.queue ≡ drop 1 (waiting p.equations.queue) → IsTaken (with_equations p e) s
  given_taken queue = taken_after p s t e (right_fewer p e queue rules pairs (t.fits).right)

  pub given_step : waiting e.queue ≡ drop 1 (waiting p.equations.queue) → (ls : List Line) → IsInStep p ls → IsInStep (with_equations p e) ls
  given_step queue ls h = step_fewer p e queue rules pairs ls h

-- it meets
module _ (s : Stored) (o : Holding) (reps : List ℕ) (e : Waiting) (h : IsFirstReduced s o reps e) (one : e.left ≡ e.right) where
  abbrev kept : ℕ → Option Kept
  kept n = rule_at o.equations.rules n

  meet : Descend reps kept h.first e.left e.right ⊎ Descend reps kept h.first e.right e.left → Meets reps kept h.first
  meet (inl d) = record { common = e.left; left = d.0; right = subst (λ (xs : List ℕ). DescendsBy reps kept (h.first).symbol (h.first).right xs) (sym one) d.1 }
  meet (inr d) = record { common = e.left; left = subst (λ (xs : List ℕ). DescendsBy reps kept (h.first).symbol (h.first).left xs) (sym one) d.0; right = d.1 }

  pub came_together : (before : Equations) → o.equations ≡ before → (w : Waiting) → first_of (waiting before.queue) ≡ Some w → Meets reps (λ n. rule_at before.rules n) w
  came_together before same w at =
      let first : h.first ≡ w = same_Some h.first w (sym h.at ∙ ap (λ (d : Equations). first_of (waiting d.queue)) same ∙ at) in
      subst (λ (z : Equations × Waiting). Meets reps (λ n. rule_at (z.0).rules n) z.1) (λ i. (same i, first i)) (meet (h.to).descend)

-- ---- equations that are given up one after another
pub record IsGivingUp (s : Stored) (reps : List ℕ) (o now : Holding) (j k : Noted) : Type 0 where
  pub leads : Leads s o j now k
  pub taken : IsTaken now s
  pub step : IsInStep now (live k.lines)
  pub reps_are : AreRepresentatives now reps
  pub lines : k ≡ j
  pub stays : now ≡ record o { equations = now.equations; justs = now.justs }
  pub rules : now.equations.rules ≡ o.equations.rules
  pub pairs : now.equations.pairs ≡ o.equations.pairs
  -- where none waited none came
  pub idle : waiting o.equations.queue ≡ [] → waiting now.equations.queue ≡ []

pub giving_none : (s : Stored) (reps : List ℕ) (o : Holding) (j : Noted) → IsTaken o s → IsInStep o (live j.lines) → AreRepresentatives o reps → IsGivingUp s reps o o j j
giving_none s reps o j t step r = record { leads = staying_leads s o j t.fits; taken = t; step = step; reps_are = r; lines = refl; stays = refl; rules = refl; pairs = refl; idle = λ e. e }

module _ (s : Stored) (reps : List ℕ) (o now : Holding) (j k : Noted) (g : IsGivingUp s reps o now j k) where
  pub giving_rights : AreRightsOwn reps (λ n. rule_at o.equations.rules n) → AreRightsOwn reps (λ n. rule_at now.equations.rules n)
  giving_rights h = subst (λ (r : Rules). AreRightsOwn reps (λ n. rule_at r n)) (sym g.rules) h

  module _ (p : Holding) (l : Noted) (leads : Leads s now k p l) where
    pub giving_leads : Leads s o j p l
    giving_leads = going_on_leads s o now p j k l g.leads leads

    pub giving_wide : (wide : WideAt) → MayBeWide s now k.lines l.lines wide → MayBeWide s o j.lines l.lines wide
    giving_wide wide h = wide_then s o now j.lines k.lines l.lines wide (g.leads).assumed (ap (λ (z : Noted). z.lines) g.lines) h

    pub giving_counted : counted_in k.lines < counted_in l.lines → counted_in j.lines < counted_in l.lines
    giving_counted h = subst (λ (z : Noted). counted_in z.lines < counted_in l.lines) g.lines h

    -- one equation more
    pub giving_more : IsTaken p s → IsInStep p (live l.lines) → p ≡ record now { equations = p.equations; justs = p.justs } → p.equations.rules ≡ now.equations.rules → p.equations.pairs ≡ now.equations.pairs → l ≡ k
        → waiting p.equations.queue ≡ drop 1 (waiting now.equations.queue) → IsGivingUp s reps o p j l
    giving_more t step stays rules pairs lines given =
        record {
          leads = giving_leads;
          taken = t;
          step = step;
          reps_are = subst (λ (q : Holding). AreRepresentatives q reps) (sym stays) (record { one_each = (g.reps_are).one_each; least = (g.reps_are).least });
          lines = lines ∙ g.lines;
          stays = stays ∙ ap (λ (q : Holding). record q { equations = p.equations; justs = p.justs }) g.stays;
          rules = rules ∙ g.rules;
          pairs = pairs ∙ g.pairs;
          idle = λ e. given ∙ ap (drop 1) (g.idle e);
        }

-- ---- sides that differ
pub falls_from : (l r : List ℕ) → (l ≡ r → ⊥) → (l ≡ r) ⊎ IsLess r l → IsLess r l
falls_from l r apart (inl e) = absurd (apart e)
falls_from l r apart (inr h) = h
