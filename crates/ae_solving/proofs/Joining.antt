-- The line that puts a leaf for a name is legal where a step equates the two, and what is held then.
use Rattle.std.specs.Prelude.{ℕ, ◌<◌, ◌≡◌, ◌≢◌, ◌⊎◌, List, [], ◌∷◌, ◌++◌, length, Result, Ok, Err, IsErrAnd}
use Rattle.std.specs.declared.alloc.AllocError.{AllocError}
use Rattle.std.proofs.Common.{refl, sym, ap, ◌∙◌, subst, arith, inl, inr}
use Rattle.std.proofs.lemmas.Result.{err_from_is_err_and}
use Rattle.ae_conflicts.specs.Saying.{RestsOnAssumed}
use Rattle.ae_core.specs.declared.terms.Sort.{Sort}
use Rattle.ae_core.specs.declared.terms.Term.{Term}
use Rattle.ae_core.specs.declared.problems.Signature.{Signature}
use Rattle.ae_journal.specs.Journals.{live, counted_in}
use Rattle.ae_journal.specs.Noted.{Noted}
use Rattle.ae_journal.specs.SolverLines.{MayOrientName}
use Rattle.ae_journal.specs.Standing.{Setting, MayFollow}
use Rattle.ae_journal.specs.declared.answers.WideAt.{WideAt}
use Rattle.ae_journal.specs.declared.lines.Line.{Line}
use Rattle.ae_journal.specs.declared.systems.System.{System}
use Rattle.ae_just.specs.Steps.{Fits}
use Rattle.ae_just.specs.declared.steps.Step.{Step}
use Rattle.ae_name_licences.specs.Joining.{IsInStepWith}
use Rattle.ae_name_licences.specs.Laws.{StoresAreInStep, TurnedLeavesAreLegal}
use Rattle.ae_name_lines.specs.InStep.{AreLineValues}
use Rattle.ae_num.specs.declared.forms.Value.{Leaf}
use Rattle.ae_pmap.specs.Forest.{present}
use Rattle.ae_settled.specs.Valued.{AreValues, IsOwnLeaf}
use Rattle.ae_solving.specs.Inner.Taking.{HasTakenUp}
use Rattle.ae_solving.specs.declared.leaves.Joined.{Joined}
use Rattle.ae_state.specs.Names.{all_terms, assumed_in}
use Rattle.ae_state.specs.Right.{of_value}
use Rattle.ae_state.specs.Stepping.{IsInStep}
use Rattle.ae_state.specs.declared.holding.Holding.{Holding}
use Rattle.ae_state_steps.specs.ValueSteps.{StatesEqual}
use Rattle.ae_store.specs.Growing.{IsFront}
use Rattle.ae_store.specs.Stores.{Stored}
use Rattle.ae_store.proofs.PartLaws.{is_one}
use Rattle.ae_store.proofs.StoreLaws.{name_term}
use Rattle.ae_theory.specs.Names.{IsNamedBy, terms_in}
use Rattle.ae_theory.specs.Noting.{MayAll, literals}
use Rattle.ae_theory.specs.declared.theory.Fail.{Fail}
use Rattle.ae_theory.specs.declared.theory.Fail.TheVariants.{Memory, Steps as OutOfSteps, Number}
use Rattle.ae_turns.specs.Budget.{IsUnsolved}
use Rattle.ae_turns.specs.Leading.{Leads}
use Rattle.ae_turns.specs.Representing.{IsTaken}
use Rattle.ae_turns.specs.declared.found.Found.{Found}
use Rattle.ae_turns.specs.declared.found.Found.TheVariants.{Advanced}
use Rattle.ae_turns.proofs.Budgets.{within_refused, within_one}
use Rattle.ae_turns.proofs.Steps.{staying_leads}
use Rattle.ae_value_fitting.specs.Fitting.{system_in, AreSaid}
use Rattle.ae_value_fitting.specs.Sources.{AreFromValues}
use Rattle.ae_value_table.specs.Table.{Contents, values}
use Rattle.ae_value_table.specs.Versions.{Lasts}
use Rattle.ae_value_turns.specs.Renewed.{renewed, KeepsEntries, AreRenewed}
use Rattle.ae_value_turns.proofs.Consequences.{may_follow}
use Rattle.ae_value_turns.proofs.GroundedSteps.{put_ground}
use Rattle.ae_value_turns.proofs.RenewedValues.{taken_after, leads_after}
use Rattle.ae_value_turns.proofs.SolveLines.{solve_line, solve_noted, solve_one, solve_counted, solve_live, solve_legal, step_after}
use Rattle.ae_value_turns.proofs.TakenNames.{all_are, taken_is, values_are, steps_are, closed_are, lines_are}

module _ (stores : StoresAreInStep) (turned : TurnedLeavesAreLegal) (o : Holding) (s : Stored) (t : IsTaken o s) (js : List Line) (step : IsInStep o (live js)) (sort : Sort) (name leaf id : ℕ)
    (own : IsOwnLeaf s.signature (system_in (terms_in s) o.values) sort name) (over : IsOwnLeaf s.signature (system_in (terms_in s) o.values) sort leaf) (states : StatesEqual o.justs id name leaf)
    (rests : RestsOnAssumed (all_terms o) o.justs (present o.assumed) id) (x : Setting) (named_by : IsNamedBy x s js) (may : MayAll x (literals (assumed_in o)) js) where
  abbrev y : System
  y = system_in (terms_in s) o.values

  in_step : IsInStepWith x js y
  in_step = stores x js s y named_by refl (closed_are o s t) (values_are o s t) (lines_are o s t (live js) step)

  follows : MayFollow x js own.term over.term
  follows =
      subst (λ (z : Term × Term). MayFollow x js z.0 z.1) (λ i. (name_term (terms_in s) name own.term own.is i, name_term (terms_in s) leaf over.term over.is i))
      (may_follow o s o.justs (steps_are o s t) x js named_by may id name leaf states (subst (λ (ts : List Term). RestsOnAssumed ts o.justs (present o.assumed) id) (all_are o s t) rests))

  pub leaf_legal : leaf < name → MayOrientName x js name (Leaf leaf)
  leaf_legal l =
      turned x js y leaf name in_step l
      (record {
        first = name;
        second = leaf;
        left = own.term;
        right = over.term;
        first_is = own.is;
        second_is = over.is;
        first_value = own.own;
        second_value = over.own;
        follows = follows;
      })

-- ---- what is held where the leaf is put
module _ (o : Holding) (s : Stored) (t : IsTaken o s) (c : Contents) (steps : List Step) (id : ℕ) (rests : RestsOnAssumed (all_terms o) o.justs (present o.assumed) id) where
  pub put_renewed : IsFront o.justs steps → Fits s.signature (terms_in s) steps → KeepsEntries o.values c → AreValues s.signature (system_in (terms_in s) c)
      → AreSaid s.signature (terms_in s) steps c → AreFromValues o.justs steps o.values c (id ∷ []) → Lasts o.values c → AreRenewed s o c steps
  put_renewed front fits entries valued said sources lasts =
      record {
        front = front;
        fits = fits;
        entries = entries;
        valued = valued;
        said = said;
        grounded = put_ground (all_terms o) (present o.assumed) o.justs steps o.values c (id ∷ [])
            (λ p m. subst (RestsOnAssumed (all_terms o) o.justs (present o.assumed)) (sym (is_one p id m)) rests) (λ k v. t.fits.right.grounded k (of_value v)) sources;
        lasts = lasts;
      }

-- ---- the equation is taken up
module _ (o : Holding) (s : Stored) (t : IsTaken o s) (j k : Noted) (name leaf : ℕ) (is : k ≡ record j { lines = j.lines ++ solve_line name (Leaf leaf) ∷ [] })
    (legal : (x : Setting) → IsNamedBy x s j.lines → MayAll x (literals (assumed_in o)) j.lines → MayOrientName x j.lines name (Leaf leaf)) (c : Contents) (steps : List Step) (n : AreRenewed s o c steps)
    (there : IsUnsolved s o.values name) where
  abbrev after : Holding
  after = renewed o c steps

  put_leads : Leads s o j after k
  put_leads = leads_after o s t c steps n j k (solve_noted j k name (Leaf leaf) is) (λ x bound named may. solve_legal j k name (Leaf leaf) is x bound (legal x named may))

  pub put_taken : IsInStep o (live j.lines) → name < length (terms_in s) → AreLineValues s.signature (terms_in s) (values c) (live j.lines ++ solve_line name (Leaf leaf) ∷ [])
      → ((m : ℕ) → IsUnsolved s c m → IsUnsolved s o.values m × (m ≢ name)) → HasTakenUp s o j after k (Ok Advanced)
  put_taken step l lines solved =
      record {
        leads = put_leads;
        taken = taken_after o s t c steps n;
        step = subst (IsInStep after) (sym (solve_live j k name (Leaf leaf) is)) (step_after o s t c steps n (live j.lines) name (Leaf leaf) (omega (arith, l, taken_is o s t)) lines step);
        steps = λ e. absurd (cc e);
        number = λ wide e. absurd (cc e);
        advanced = λ e. solve_counted j k name (Leaf leaf) is;
        conflict = λ m e. absurd (cc e);
        never = λ e. cc e;
        budget = within_one s o after j.lines k.lines (solve_one j k name (Leaf leaf) is) name there Found (Ok Advanced) (solved, refl) (λ e. cc e);
        others = refl;
      }

  memory_refused : (e : AllocError) → HasTakenUp s o j after k (Err (Memory e))
  memory_refused e =
      record {
        leads = put_leads;
        taken = tt;
        step = tt;
        steps = λ z. absurd (cc z);
        number = λ wide z. absurd (cc z);
        advanced = λ z. absurd (cc z);
        conflict = λ m z. absurd (cc z);
        never = λ z. cc z;
        budget = within_one s o after j.lines k.lines (solve_one j k name (Leaf leaf) is) name there Found (Err (Memory e)) tt (λ z. cc z);
        others = refl;
      }

  pub put_refused : (r : Result Found Fail) (e : AllocError) → IsErrAnd r (λ x. x ≡ Memory e) → HasTakenUp s o j after k r
  put_refused r e h = let p = err_from_is_err_and r h in subst (HasTakenUp s o j after k) (sym (p.1 ∙ ap Err p.2)) (memory_refused e)

-- the line is refused
pub line_refused : (o : Holding) (s : Stored) → IsTaken o s → (name : ℕ) → IsUnsolved s o.values name → (j k : Noted) → k ≡ j → (r : Result Found Fail) (e : Fail) → IsErrAnd r (λ x. x ≡ e) → (e ≡ OutOfSteps → counted_in j.lines ≡ j.limit)
    → ((wide : WideAt) → e ≡ Number wide → ⊥) → HasTakenUp s o j o k r
line_refused o s t name there j k is r e h full wide =
    let p = err_from_is_err_and r h in
    subst (λ (z : Noted × Result Found Fail). HasTakenUp s o j o z.0 z.1) (λ i. (sym is i, sym (p.1 ∙ ap Err p.2) i))
    (record {
      leads = staying_leads s o j t.fits;
      taken = tt;
      step = tt;
      steps = λ z. full (cc z);
      number = λ w z. absurd (wide w (cc z));
      advanced = λ z. absurd (cc z);
      conflict = λ m z. absurd (cc z);
      never = λ z. cc z;
      budget = within_refused s o o j.lines j.lines refl Found name there (Err e) e refl;
      others = refl;
    })

-- the leaves of two plain names, the larger first
pub own_both : (sig : Signature) (y : System) (sort : Sort) (a b : ℕ) (j : Joined) → IsOwnLeaf sig y sort a → IsOwnLeaf sig y sort b → ((j.name ≡ a) × (j.leaf ≡ b)) ⊎ ((j.name ≡ b) × (j.leaf ≡ a))
    → IsOwnLeaf sig y sort j.name × IsOwnLeaf sig y sort j.leaf
own_both sig y sort a b j p q (inl (e, f)) = (subst (IsOwnLeaf sig y sort) (sym e) p, subst (IsOwnLeaf sig y sort) (sym f) q)
own_both sig y sort a b j p q (inr (e, f)) = (subst (IsOwnLeaf sig y sort) (sym e) q, subst (IsOwnLeaf sig y sort) (sym f) p)
