-- Rules that go, of which the equations wait then.
use Rattle.std.specs.Prelude.{ℕ, zero, suc, ◌+◌, ◌≤◌, ◌⊎◌, true, List, [], ◌∷◌, ◌++◌, ◌≡◌, map, take, drop, length, slice_get, slice_index_or, Option, Some}
use Rattle.std.specs.List.{AllByRecursion, Contains}
use Rattle.std.proofs.Common.{refl, sym, ap, ◌∙◌, subst, arith, inl, inr, append_assoc, take-append-drop}
use Rattle.std.proofs.lemmas.List.{append-nil, append_cancel_left, map-append, take_all}
use Rattle.std.proofs.lemmas.List.Elements.{Contains-append_cases}
use Rattle.std.proofs.lemmas.Option.{none-some}
use Rattle.ae_base.specs.Relations.{Pairwise}
use Rattle.ae_base.proofs.AllOf.{all_append}
use Rattle.ae_core.specs.declared.terms.Term.{Term}
use Rattle.ae_core.specs.declared.problems.Signature.{Signature}
use Rattle.ae_num.specs.declared.forms.Value.{Value}
use Rattle.ae_journal.specs.Journals.{live}
use Rattle.ae_journal.specs.Noted.{Noted}
use Rattle.ae_journal.specs.Legal.{AreLegal}
use Rattle.ae_journal.specs.Standing.{Setting}
use Rattle.ae_journal.specs.declared.lines.Line.{Line}
use Rattle.ae_store.specs.Stores.{Stored}
use Rattle.ae_journal.specs.declared.systems.RuleEntry.{RuleEntry}
use Rattle.ae_journal.proofs.Living.{live_push}
use Rattle.ae_journal.proofs.LegalFronts.{front}
use Rattle.ae_theory.specs.Names.{IsNamedBy}
use Rattle.ae_theory.specs.Noting.{HasNoted, NotesLegal, is_theory_line}
use Rattle.ae_monoid.specs.Rules.{rule_at, AreRules}
use Rattle.ae_monoid.specs.Changes.{AreTakenOut, IsEquationOf}
use Rattle.ae_monoid.specs.declared.rules.Kept.{Kept}
use Rattle.ae_monoid.specs.declared.pending.PendingPair.{PendingPair}
use Rattle.ae_sweeps.specs.Given.{entries_of, entry_of as entry_in}
use Rattle.ae_equations.specs.Held.{Contents as Equations}
use Rattle.ae_equations.specs.Paired.{partners}
use Rattle.ae_equations.specs.Queued.{waiting, equation_of}
use Rattle.ae_equations.specs.Versions.{Lasts as EquationsLast, IsAs}
use Rattle.ae_equations.specs.declared.queue.Waiting.{Waiting}
use Rattle.ae_equation_turns.specs.Said.{IsWaitingSaid, IsHeld}
use Rattle.ae_name_lines.specs.InStep.{AreLineValues, SolvesBelow}
use Rattle.ae_name_lines.proofs.Solving.{other_lines_keep_step, other_lines_solve_nothing}
use Rattle.ae_rule_lines.specs.InStep.{AreRulesInStep, Waiting as Equation}
use Rattle.ae_rule_lines.specs.Changes.{equation_of as rule_equation}
use Rattle.ae_rule_passes.specs.Passes.{drop_line, AreRulesTakenOut}
use Rattle.ae_rule_passes.proofs.Chains.{passes_keep}
use Rattle.ae_rule_changes.specs.Entries.{AreEntries, entry_of}
use Rattle.ae_rule_changes.proofs.TakenOut.{taken_out}
use Rattle.ae_value_table.specs.Table.{values}
use Rattle.ae_state.specs.declared.holding.Holding.{Holding}
use Rattle.ae_state.specs.declared.holding.Mark.{Mark}
use Rattle.ae_state.specs.Names.{terms_now}
use Rattle.ae_state.specs.Right.{IsReason, of_value, of_rule, of_equation, IsRight}
use Rattle.ae_state.specs.Fitting.{FitsStore}
use Rattle.ae_state.specs.Marks.{FitsMark}
use Rattle.ae_state.specs.Stepping.{equation, equations_now, paired_now, IsInStep}
use Rattle.ae_state.specs.Complete.{IsOwnConflict}
use Rattle.ae_turns.specs.Inner.Drops.{IsDropNoted}
use Rattle.ae_state.proofs.Lasting.{marks_last}
use Rattle.ae_state.proofs.Reasons.{held_as, reason_before}
use Rattle.ae_state.proofs.Shown.{first_pushed}
use Rattle.ae_turns.specs.Leading.{Leads}
use Rattle.ae_turns.proofs.Steps.{noted_none, legal_none}

-- ---- other equations
module _ (o : Holding) (e : Equations) where
  abbrev pub with_equations : Holding
  with_equations = record o { equations = e }

  pub marks_with : EquationsLast o.equations e → (m : Mark) (then : Holding) → FitsMark o m then → FitsMark with_equations m then
  marks_with lasts m then h =
      marks_last o with_equations
      (record {
        values = λ shared c s. s;
        equations = lasts;
        assumed = λ root map s. s;
        said = λ root map s. s;
        signature = refl;
        shapes = ([], sym (append-nil o.shapes));
        justs = ([], sym (append-nil o.justs));
        conflicts = ([], sym (append-nil o.conflicts));
      }) m then h

  pub conflict_with : (k : ℕ) → IsOwnConflict o k → IsOwnConflict with_equations k
  conflict_with k c = record { conflict = c.conflict; at = c.at; is = c.is }

  pub right_with : IsRight o → IsHeld o.signature (terms_now o) o.justs e → ((id : ℕ) → IsReason with_equations id → IsReason o id) → IsRight with_equations
  right_with right held before =
      record {
        entries = right.entries;
        within = right.within;
        closed = right.closed;
        steps = right.steps;
        valued = right.valued;
        said = right.said;
        ruled = held;
        grounded = λ id r. right.grounded id (before id r);
        numbered = right.numbered;
        read = λ place a at. let r = right.read place a at in record { what = r.what; at = r.at; named = λ s t. r.named s (record { signature = t.signature; keeps = t.keeps }); says = λ s store t. r.says s store (record { signature = t.signature; keeps = t.keeps }) };
      }

-- the same equations
module _ (o : Holding) (e : Equations) (alike : IsAs e o.equations) (right : IsRight o) where
  pub right_same : IsRight (with_equations o e)
  right_same =
      right_with o e right (held_as e o.equations alike o.signature (terms_now o) o.justs right.ruled)
      (reason_before (with_equations o e) o (record { names = refl; rows = λ n. refl; leaves = refl; justs = refl; taken = refl }) alike)

-- ---- lines that drop rules solve nothing
pub values_drops : (sig : Signature) (ts : List Term) (vs : List Value) (js : List Line) (rs : List RuleEntry) → AreLineValues sig ts vs js → AreLineValues sig ts vs (js ++ map drop_line rs)
values_drops sig ts vs js [] v = subst (AreLineValues sig ts vs) (sym (append-nil js)) v
values_drops sig ts vs js (r ∷ rs) v =
    subst (AreLineValues sig ts vs) (append_assoc js (drop_line r ∷ []) (map drop_line rs)) (values_drops sig ts vs (js ++ drop_line r ∷ []) rs (other_lines_keep_step sig ts vs js (drop_line r) refl v))

solved_drops : (k : ℕ) (js : List Line) (rs : List RuleEntry) → SolvesBelow k js → SolvesBelow k (js ++ map drop_line rs)
solved_drops k js [] s = subst (SolvesBelow k) (sym (append-nil js)) s
solved_drops k js (r ∷ rs) s =
    subst (SolvesBelow k) (append_assoc js (drop_line r ∷ []) (map drop_line rs)) (solved_drops k (js ++ drop_line r ∷ []) rs (other_lines_solve_nothing k js (drop_line r) refl s))

-- ---- rules that go
abbrev pub kept_in : Equations → ℕ → Option Kept
kept_in e n = rule_at e.rules n

pub entries_are : (d : Equations) → AreEntries (kept_in d) (entries_of d.rules)
entries_are d = record { some = λ n k at. ap entry_in at; none = λ n at. ap entry_in at }

module _ (o : Holding) (e : Equations) (P : ℕ → Type 0) (pairs : List PendingPair) (out : AreTakenOut (kept_in o.equations) (kept_in e) P pairs) (queue : waiting e.queue ≡ waiting o.equations.queue ++ map equation_of pairs) where
  pub stays : (n : ℕ) (rule : Kept) → rule_at e.rules n ≡ Some rule → rule_at o.equations.rules n ≡ Some rule
  stays n rule at = sym (out.others n (λ p. none-some rule (sym (out.gone n p) ∙ at))) ∙ at

  -- the equation of a rule is said by the rule's step
  equation_said : AreRules (kept_in o.equations) o.equations.rules.next → IsHeld o.signature (terms_now o) o.justs o.equations → (n : ℕ) (p : PendingPair) → IsEquationOf (kept_in o.equations n) p
      → IsWaitingSaid o.signature (terms_now o) o.justs (equation_of p)
  equation_said well held n p q =
      let said = (held.rules).each n q.rule q.there in
      let sides = well.well n q.rule q.there in
      let is : equation_of p ≡ record { symbol = (q.rule).entry.symbol; left = (q.rule).entry.left; right = (q.rule).entry.right; step = (q.rule).just } =
      λ i. record { symbol = q.symbol i; left = q.left i; right = q.right i; step = slice_index_or (q.justs i) 0 0 } in
      subst (IsWaitingSaid o.signature (terms_now o) o.justs) (sym is)
      (record { names = said.names; left_some = omega (arith, sides.two); right_some = sides.some; states = said.states })

  all_said : AreRules (kept_in o.equations) o.equations.rules.next → IsHeld o.signature (terms_now o) o.justs o.equations → (ns : List ℕ) (ps : List PendingPair)
      → Pairwise (λ n p. IsEquationOf (kept_in o.equations n) p) ns ps → AllByRecursion (IsWaitingSaid o.signature (terms_now o) o.justs) (map equation_of ps)
  all_said well held [] [] w = tt
  all_said well held [] (p ∷ ps) w = absurd w
  all_said well held (n ∷ ns) [] w = absurd w
  all_said well held (n ∷ ns) (p ∷ ps) w = (equation_said well held n p w.0, all_said well held ns ps w.1)

  held_after : AreRules (kept_in o.equations) o.equations.rules.next → IsHeld o.signature (terms_now o) o.justs o.equations → IsHeld o.signature (terms_now o) o.justs e
  held_after well held =
      record {
        rules = record { each = λ n rule at. (held.rules).each n rule (stays n rule at) };
        waiting =
            subst (λ (ws : List Waiting). AllByRecursion (IsWaitingSaid o.signature (terms_now o) o.justs) ws) (sym queue)
            (all_append (IsWaitingSaid o.signature (terms_now o) o.justs) (waiting o.equations.queue) (map equation_of pairs) held.waiting (all_said well held out.numbers pairs out.equations));
      }

  -- its step was that of a rule
  record IsOfRule (w : Waiting) : Type 0 where
    pub number : ℕ
    pub rule : Kept
    pub there : rule_at o.equations.rules number ≡ Some rule
    pub just : rule.just ≡ w.step

  of_pairs : (ns : List ℕ) (ps : List PendingPair) (w : Waiting) → Pairwise (λ n p. IsEquationOf (kept_in o.equations n) p) ns ps → Contains (map equation_of ps) w → IsOfRule w
  of_pairs [] [] w all c = absurd (omega (arith, c.1))
  of_pairs [] (p ∷ ps) w all c = absurd all
  of_pairs (n ∷ ns) [] w all c = absurd all
  of_pairs (n ∷ ns) (p ∷ ps) w all (zero, l, at) =
      let q = all.0 in
      record { number = n; rule = q.rule; there = q.there; just = sym (ap (λ (js : List ℕ). slice_index_or js 0 0) q.justs) ∙ ap (λ (z : Waiting). z.step) at }
  of_pairs (n ∷ ns) (p ∷ ps) w all (suc k, l, at) = of_pairs ns ps w all.1 (k, omega (arith, l), at)

  by_place : (id : ℕ) (w : Waiting) → w.step ≡ id → Contains (waiting o.equations.queue) w ⊎ Contains (map equation_of pairs) w → IsReason o id
  by_place id w j (inl c) = of_equation w c j
  by_place id w j (inr c) = let r = of_pairs out.numbers pairs w out.equations c in of_rule r.number r.rule r.there (r.just ∙ j)

  reason_earlier : (id : ℕ) → IsReason (with_equations o e) id → IsReason o id
  reason_earlier id (of_value s) = of_value s
  reason_earlier id (of_rule n rule at j) = of_rule n rule (stays n rule at) j
  reason_earlier id (of_equation w c j) =
      by_place id w j (Contains-append_cases (waiting o.equations.queue) (map equation_of pairs) w (subst (λ (ws : List Waiting). Contains ws w) queue c))

  pub right_after : AreRules (kept_in o.equations) o.equations.rules.next → IsRight o → IsRight (with_equations o e)
  right_after well right = right_with o e right (held_after well right.ruled) reason_earlier

  -- ---- lines
  pub rules_out : AreRulesTakenOut (entries_of o.equations.rules) (entries_of e.rules) out.numbers (map entry_of pairs)
  rules_out = taken_out P (kept_in o.equations) (kept_in e) (entries_of o.equations.rules) (entries_of e.rules) pairs (entries_are o.equations) (entries_are e) out

  same_equations : (ps : List PendingPair) → map equation (map equation_of ps) ≡ map rule_equation (map entry_of ps)
  same_equations [] = refl
  same_equations (p ∷ ps) = λ i. equation (equation_of p) ∷ same_equations ps i

  equations_are : ◌≡◌ {A = List Equation} (equations_now (with_equations o e)) (equations_now o ++ map rule_equation (map entry_of pairs))
  equations_are = ap (map equation) queue ∙ map-append equation (waiting o.equations.queue) (map equation_of pairs) ∙ ap (λ ws. equations_now o ++ ws) (same_equations pairs)

  pub step_after : e.pairs ≡ o.equations.pairs → (js : List Line) → IsInStep o js → IsInStep (with_equations o e) (js ++ map drop_line (map entry_of pairs))
  step_after paired js s =
      let rs = map entry_of pairs in
      record {
        valued = values_drops o.signature (terms_now o) (values o.values) js rs s.valued;
        solved = solved_drops o.values.taken js rs s.solved;
        ruled =
            subst (λ (x : (ℕ → List ℕ) × List Equation). AreRulesInStep o.signature (terms_now o) (js ++ map drop_line rs) (entries_of e.rules) x.0 x.1) (sym (λ i. ((λ n. partners (paired i) n), equations_are i)))
            (passes_keep o.signature (terms_now o) js (entries_of o.equations.rules) (entries_of e.rules) (paired_now o) (equations_now o) out.numbers rs rules_out s.ruled);
      }

-- ---- the lines
pub live_drops : (js : List Line) (rs : List RuleEntry) → live (js ++ map drop_line rs) ≡ live js ++ map drop_line rs
live_drops js [] = ap live (append-nil js) ∙ sym (append-nil (live js))
live_drops js (r ∷ rs) =
    ap live (sym (append_assoc js (drop_line r ∷ []) (map drop_line rs))) ∙ live_drops (js ++ drop_line r ∷ []) rs ∙ ap (λ ls. ls ++ map drop_line rs) (live_push js (drop_line r))
    ∙ append_assoc (live js) (drop_line r ∷ []) (map drop_line rs)

drops_of_theory : (rs : List RuleEntry) → AllByRecursion (λ j. is_theory_line j ≡ true) (map drop_line rs)
drops_of_theory [] = tt
drops_of_theory (r ∷ rs) = (refl, drops_of_theory rs)

pub drops_noted : (j k : Noted) (rs : List RuleEntry) → IsDropNoted j k rs → HasNoted j k
drops_noted j k rs d =
    record { added = map drop_line (take d.many rs); is = ap (λ (z : Noted). z.lines) d.is; limit = ap (λ (z : Noted). z.limit) d.is; theory = drops_of_theory (take d.many rs) }

pub drops_legal : (x : Setting) (bound : ℕ) (j k : Noted) (rs : List RuleEntry) → IsDropNoted j k rs → AreLegal x bound j.lines (map drop_line rs) → NotesLegal x bound j.lines k.lines
drops_legal x bound j k rs d legal added e =
    let lines : k.lines ≡ j.lines ++ map drop_line (take d.many rs) = ap (λ (z : Noted). z.lines) d.is in
    let is : map drop_line (take d.many rs) ≡ added = append_cancel_left j.lines (map drop_line (take d.many rs)) added (sym lines ∙ e) in
    let parts : map drop_line rs ≡ map drop_line (take d.many rs) ++ map drop_line (drop d.many rs) =
    ap (map drop_line) (sym (take-append-drop d.many rs)) ∙ map-append drop_line (take d.many rs) (drop d.many rs) in
    subst (AreLegal x bound j.lines) is (front x bound j.lines (map drop_line (take d.many rs)) (map drop_line (drop d.many rs)) (subst (AreLegal x bound j.lines) parts legal))

-- ---- the steps
module _ (s : Stored) (o : Holding) (fits : FitsStore o s) (e : Equations) (lasts : EquationsLast o.equations e) (j : Noted) where
  fits_with : IsRight (with_equations o e) → FitsStore (with_equations o e) s
  fits_with right = record { right = right; terms = record { signature = (fits.terms).signature; keeps = (fits.terms).keeps } }

  -- a refusal
  pub same_leads : IsAs e o.equations → Leads s o j (with_equations o e) j
  same_leads alike =
      record {
        fits = fits_with (right_same o e alike fits.right);
        assumed = refl;
        noted = noted_none j;
        legal = λ x bound named may. legal_none x bound j.lines;
        marks = marks_with o e lasts;
        conflicts = conflict_with o e;
      }

  module _ (P : ℕ → Type 0) (pairs : List PendingPair) (out : AreTakenOut (kept_in o.equations) (kept_in e) P pairs) (queue : waiting e.queue ≡ waiting o.equations.queue ++ map equation_of pairs)
      (well : AreRules (kept_in o.equations) o.equations.rules.next) (k : Noted) where
    pub dropped_leads : IsDropNoted j k (map entry_of pairs)
        → ((x : Setting) (bound : ℕ) → IsNamedBy x s j.lines → AreLegal x bound j.lines (map drop_line (map entry_of pairs))) → Leads s o j (with_equations o e) k
    dropped_leads noted legal =
        record {
          fits = fits_with (right_after o e P pairs out queue well fits.right);
          assumed = refl;
          noted = drops_noted j k (map entry_of pairs) noted;
          legal = λ x bound named may. drops_legal x bound j k (map entry_of pairs) noted (legal x bound named);
          marks = marks_with o e lasts;
          conflicts = conflict_with o e;
        }

    pub dropped_step : e.pairs ≡ o.equations.pairs → IsInStep o (live j.lines) → k ≡ record j { lines = j.lines ++ map drop_line (map entry_of pairs) } → IsInStep (with_equations o e) (live k.lines)
    dropped_step paired step is =
        subst (IsInStep (with_equations o e)) (sym (ap (λ (z : Noted). live z.lines) is ∙ live_drops j.lines (map entry_of pairs)))
        (step_after o e P pairs out queue paired (live j.lines) step)

-- one line more
pub noted_more : (j now next : Noted) (rs : List RuleEntry) (i : ℕ) (r : RuleEntry) (l : Line) → now ≡ record j { lines = j.lines ++ map drop_line (take i rs) } → next ≡ record now { lines = now.lines ++ l ∷ [] }
    → l ≡ drop_line r → slice_get rs i ≡ Some r → next ≡ record j { lines = j.lines ++ map drop_line (take (i + 1) rs) }
noted_more j now next rs i r l before e is at =
    let first = take i rs in
    let more : first ++ r ∷ [] ≡ take (i + 1) rs = first_pushed rs first (first ++ r ∷ []) i r refl refl at in
    let lines : (j.lines ++ map drop_line first) ++ l ∷ [] ≡ j.lines ++ map drop_line (take (i + 1) rs) =
    append_assoc j.lines (map drop_line first) (l ∷ []) ∙ ap (λ x. j.lines ++ (map drop_line first ++ x ∷ [])) is ∙ ap (λ ls. j.lines ++ ls) (sym (map-append drop_line first (r ∷ [])))
    ∙ ap (λ (ds : List RuleEntry). j.lines ++ map drop_line ds) more in
    e ∙ (λ z. record (before z) { lines = (before z).lines ++ l ∷ [] }) ∙ (λ z. record j { lines = lines z })

pub noted_first : (j : Noted) (rs : List RuleEntry) → j ≡ record j { lines = j.lines ++ map drop_line (take 0 rs) }
noted_first j rs = λ z. record j { lines = sym (append-nil j.lines) z }

pub noted_last : (j now : Noted) (rs : List RuleEntry) (i : ℕ) → length rs ≤ i → now ≡ record j { lines = j.lines ++ map drop_line (take i rs) } → now ≡ record j { lines = j.lines ++ map drop_line rs }
noted_last j now rs i l e = e ∙ (λ z. record j { lines = j.lines ++ map drop_line (take_all i rs l z) })
