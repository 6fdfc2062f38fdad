-- How it ends to take up what isn't met.
use Rattle.std.specs.Prelude.{ℕ, ◌<◌, List, ◌≡◌, Result, Ok, Err, OnOk, IsErrAnd}
use Rattle.std.specs.declared.alloc.AllocError.{AllocError}
use Rattle.std.proofs.Common.{refl, sym, ◌∙◌, subst}
use Rattle.ae_journal.specs.Journals.{live, counted_in}
use Rattle.ae_journal.specs.Noted.{Noted}
use Rattle.ae_journal.specs.declared.answers.WideAt.{WideAt}
use Rattle.ae_store.specs.Stores.{Stored}
use Rattle.ae_theory.specs.Noting.{MayAll, literals}
use Rattle.ae_theory.specs.Tagged.{Tagged}
use Rattle.ae_theory.specs.declared.theory.Fail.{Fail}
use Rattle.ae_theory.specs.declared.theory.Fail.TheVariants.{Steps as OutOfSteps, Number, Memory}
use Rattle.ae_state.specs.declared.holding.Holding.{Holding}
use Rattle.ae_state.specs.Stepping.{IsInStep}
use Rattle.ae_state.specs.Complete.{IsOwnConflict}
use Rattle.ae_turns.specs.declared.found.Found.{Found}
use Rattle.ae_turns.specs.declared.found.Found.TheVariants.{Nothing, Advanced, Conflict}
use Rattle.ae_turns.specs.Budget.{MayNote, KeepsWithin}
use Rattle.ae_turns.specs.Ending.{MayBeWide}
use Rattle.ae_turns.specs.Leading.{Leads}
use Rattle.ae_turns.specs.Representing.{IsTaken}
use Rattle.ae_turns.proofs.Budgets.{within_still}
use Rattle.ae_turns.proofs.Steps.{staying_leads, going_on_leads}
use Rattle.ae_unmet.specs.Inner.Ending.{IsTakenUp}
use Rattle.ae_unmet.specs.Inner.Growing.{HasGrown}
use Rattle.ae_unmet.proofs.Growth.{taken_grown, step_grown, grown_leads, assumed_grown}

-- ---- results that differ
ok_err : {A E : Type 0} (x : A) (e : E) → ◌≡◌ {A = Result A E} (Ok x) (Err e) → ⊥
ok_err x e p = cc p

err_ok : {A E : Type 0} (e : E) (x : A) → ◌≡◌ {A = Result A E} (Err e) (Ok x) → ⊥
err_ok e x p = cc p

memory_steps : (r : Fail) (m : AllocError) → r ≡ Memory m → ◌≡◌ {A = Result Found Fail} (Err r) (Err OutOfSteps) → ⊥
memory_steps r m e p = let f : r ≡ OutOfSteps = cc p in let z : Memory m ≡ OutOfSteps = sym e ∙ f in cc z

memory_number : (r : Fail) (m : AllocError) (w : WideAt) → r ≡ Memory m → ◌≡◌ {A = Result Found Fail} (Err r) (Err (Number w)) → ⊥
memory_number r m w e p = let f : r ≡ Number w = cc p in let z : Memory m ≡ Number w = sym e ∙ f in cc z

conflict_advanced : (k : ℕ) → ◌≡◌ {A = Result Found Fail} (Ok (Conflict k)) (Ok Advanced) → ⊥
conflict_advanced k p = cc p

conflict_nothing : (k : ℕ) → ◌≡◌ {A = Result Found Fail} (Ok (Conflict k)) (Ok Nothing) → ⊥
conflict_nothing k p = cc p

conflict_same : (k j : ℕ) → ◌≡◌ {A = Result Found Fail} (Ok (Conflict k)) (Ok (Conflict j)) → k ≡ j
conflict_same k j p = cc p

nothing_advanced : ◌≡◌ {A = Result Found Fail} (Ok Nothing) (Ok Advanced) → ⊥
nothing_advanced p = cc p

nothing_conflict : (k : ℕ) → ◌≡◌ {A = Result Found Fail} (Ok Nothing) (Ok (Conflict k)) → ⊥
nothing_conflict k p = cc p

-- ---- ends
module _ (s : Stored) (o : Holding) (t : IsTaken o s) (j : Noted) (step : IsInStep o (live j.lines)) (why : Type 0) where
  pub conflict_ends : (p : Holding) → HasGrown s o p → (k : ℕ) → IsOwnConflict p k → IsTakenUp s o j p j why (Ok (Conflict k))
  conflict_ends p g k own =
      record {
        leads = grown_leads s o p t g j;
        taken = taken_grown s o p t g;
        step = step_grown s o p t g (live j.lines) step;
        steps = λ e. absurd (ok_err (Conflict k) OutOfSteps e);
        number = λ wide e. absurd (ok_err (Conflict k) (Number wide) e);
        advanced = λ e. absurd (conflict_advanced k e);
        conflict = λ i e. subst (IsOwnConflict p) (conflict_same k i e) own;
        budget = within_still s o p j.lines j.lines refl Found (Ok (Conflict k)) (λ n h. subst (λ (q : Holding). MayNote q s n) (sym g.others) h) (λ e. ok_err (Conflict k) OutOfSteps e);
        stays = λ e. absurd (conflict_nothing k e);
        lines = λ e. absurd (conflict_nothing k e);
        reason = λ e. absurd (conflict_nothing k e);
      }

  -- nothing changed
  pub nothing_ends : (p : Holding) → p ≡ o → why → IsTakenUp s o j p j why (Ok Nothing)
  nothing_ends p same w =
      subst (λ (q : Holding). IsTakenUp s o j q j why (Ok Nothing)) (sym same)
      (record {
        leads = staying_leads s o j t.fits;
        taken = t;
        step = step;
        steps = λ e. absurd (ok_err Nothing OutOfSteps e);
        number = λ wide e. absurd (ok_err Nothing (Number wide) e);
        advanced = λ e. absurd (nothing_advanced e);
        conflict = λ i e. absurd (nothing_conflict i e);
        budget = within_still s o o j.lines j.lines refl Found (Ok Nothing) (λ n h. h) (λ e. ok_err Nothing OutOfSteps e);
        stays = λ e. refl;
        lines = λ e. refl;
        reason = λ e. w;
      })

  -- a refusal
  refused_memory : (p : Holding) → HasGrown s o p → (r : Fail) (m : AllocError) → r ≡ Memory m → IsTakenUp s o j p j why (Err r)
  refused_memory p g r m is =
      record {
        leads = grown_leads s o p t g j;
        taken = tt;
        step = tt;
        steps = λ e. absurd (memory_steps r m is e);
        number = λ wide e. absurd (memory_number r m wide is e);
        advanced = λ e. absurd (err_ok r Advanced e);
        conflict = λ i e. absurd (err_ok r (Conflict i) e);
        budget = within_still s o p j.lines j.lines refl Found (Err r) tt (λ e. memory_steps r m is e);
        stays = λ e. absurd (err_ok r Nothing e);
        lines = λ e. absurd (err_ok r Nothing e);
        reason = λ e. absurd (err_ok r Nothing e);
      }

  pub refused : (p : Holding) → HasGrown s o p → (r : Result Found Fail) (m : AllocError) → IsErrAnd r (λ e. e ≡ Memory m) → IsTakenUp s o j p j why r
  refused p g (Ok x) m h = absurd h
  refused p g (Err e) m h = refused_memory p g e m h

  -- an equation of names that is taken up after steps came
  pub solved : (p q : Holding) → HasGrown s o p → (k : Noted) (r : Result Found Fail) → Leads s p j q k → OnOk r (IsTaken q s) → OnOk r (IsInStep q (live k.lines)) → (r ≡ Err OutOfSteps → counted_in k.lines ≡ k.limit)
      → ((wide : WideAt) → r ≡ Err (Number wide) → MayBeWide s p j.lines k.lines wide) → (r ≡ Ok Advanced → counted_in j.lines < counted_in k.lines) → ((i : ℕ) → r ≡ Ok (Conflict i) → IsOwnConflict q i) → (r ≡ Ok Nothing → ⊥)
      → KeepsWithin Found s p j.lines r q k.lines → IsTakenUp s o j q k why r
  solved p q g k r leads taken now steps number advanced conflict never budget =
      let b = subst (λ (h : Holding). KeepsWithin Found s h j.lines r q k.lines) g.others budget in
      record {
        leads = going_on_leads s o p q j j k (grown_leads s o p t g j) leads;
        taken = taken;
        step = now;
        steps = steps;
        number = λ wide e x named may. number wide e x named (subst (λ (ts : List Tagged). MayAll x (literals ts) j.lines) (sym (assumed_grown s o p t g)) may);
        advanced = advanced;
        conflict = conflict;
        budget = record { most = b.most; left = b.left; fewer = b.fewer };
        stays = λ e. absurd (never e);
        lines = λ e. absurd (never e);
        reason = λ e. absurd (never e);
      }

-- another reason
pub taken_up_weaker : (s : Stored) (o : Holding) (j : Noted) (p : Holding) (k : Noted) (why more : Type 0) (r : Result Found Fail) → (why → more) → IsTakenUp s o j p k why r → IsTakenUp s o j p k more r
taken_up_weaker s o j p k why more r f h =
    record {
      leads = h.leads;
      taken = h.taken;
      step = h.step;
      steps = h.steps;
      number = h.number;
      advanced = h.advanced;
      conflict = h.conflict;
      budget = h.budget;
      stays = h.stays;
      lines = h.lines;
      reason = λ e. f (h.reason e);
    }
