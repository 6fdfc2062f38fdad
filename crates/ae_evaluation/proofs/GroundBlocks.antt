-- The clause of a block over equations of the ground fragment is true.
use Rattle.std.specs.Prelude.{ℕ, ◌≢◌, Bool, true, false, not, ◌&&◌, List, [], ◌∷◌, ◌++◌, ◌≡◌, map, slice_get, Some}
use Rattle.std.specs.List.{AllByRecursion, list_all}
use Rattle.std.proofs.Common.{inl, inr}
use mathlib.Core.Path.{refl, sym, ap, ◌∙◌, subst}
use Rattle.ae_math.specs.Fractions.{ℚ, zero_ℚ, one_ℚ, neg_ℚ, ◌+ℚ◌, ◌*ℚ◌}
use Rattle.ae_math.specs.Forms.{value as form_value, number, scale}
use Rattle.ae_math.proofs.FractionLaws.{one_mul_q, neg_mul_q, add_neg_q}
use Rattle.ae_math.proofs.FormLaws.{value-plus, value-scale, value-number, value-same}
use Rattle.ae_core.specs.Decided.{Term_discrete}
use Rattle.ae_rules.specs.Linear.{form}
use Rattle.ae_rules.specs.Lines.{Fact, equal, states, Stated, Equated, AllAllowed, Follows, Among, plain_ok, fact_ok, gap}
use Rattle.ae_rules.specs.Clauses.{opposite}
use Rattle.ae_core.specs.Signatures.{IsLawful}
use Rattle.ae_core.specs.declared.proofs.Relation.{Relation}
use Rattle.ae_rules.specs.Derivations.{CannotHold, Ends, IsNumber, IsConstructor, IsContradictory}
use Rattle.ae_rules.specs.Valuations.{Respects, literal_holds, clause_holds, same_truth}
use Rattle.ae_rules.proofs.Bridge.{all_follow}
use Rattle.ae_rules.proofs.Respects.{respects}
use Rattle.ae_rules.proofs.Propagation.{opposites_deny}
use Rattle.ae_core.specs.declared.terms.Sort.{Sort, Int}
use Rattle.ae_core.specs.declared.terms.Term.{Term, Apply}
use Rattle.ae_core.specs.declared.terms.Head.{Head}
use Rattle.ae_core.specs.declared.formulas.Formula.{Formula, Eq, Lt, Le, Pred}
use Rattle.ae_core.specs.declared.formulas.Lit.{Lit}
use Rattle.ae_core.specs.declared.problems.Signature.{Signature}
use Rattle.ae_core.specs.declared.proofs.EqLine.{EqLine}
use Rattle.ae_core.specs.declared.proofs.Relation.TheVariants.{Equal}
use Rattle.ae_core.specs.declared.proofs.Ending.{Ending}
use Rattle.ae_core.specs.declared.proofs.Ending.TheVariants as ending
use Rattle.ae_core.specs.declared.proofs.Block.{Block as BlockOf}
use Rattle.ae_journal.specs.Values.{Val, Val_discrete}
use Rattle.ae_journal.specs.Systems.{IsCompleted}
use Rattle.ae_journal.specs.Inner.Numbering.{numbering}
use Rattle.ae_journal.specs.Evaluate.{reduced_by, Assignment, value, is_true_at, IsAssignment}
use Rattle.ae_journal.specs.Ground.{IsFragmentSort, reals, rigid, abstract, choices, records, IsFragmentTerm, IsGroundEquation}
use Rattle.ae_evaluation.proofs.Constructors.{number_is_no_choice}
use Rattle.ae_evaluation.proofs.Linear.{constant_of, constant_coordinate, linear_value}
use Rattle.ae_evaluation.proofs.Main.{value_rules}
use Rattle.ae_evaluation.proofs.PutTruth.{fragment_sorted, said_same}
use Rattle.ae_evaluation.proofs.Truths.{truth_eq, truth_pred}
use Rattle.ae_journal.specs.declared.systems.System.{System}
use Rattle.ae_base.proofs.AllOf.{all_at}
use Rattle.ae_base.proofs.Decided.{decided_of, decided_yes}
use Rattle.ae_base.proofs.ListFacts.{list_all_at}
use Rattle.ae_base.proofs.Options.{bind_some}
use Rattle.std.proofs.lemmas.Option.{same_Some}

-- ---- sorts that are not of the fragment
no_int : (sig : Signature) (s : Sort) → s ≡ Int → IsFragmentSort sig s → ⊥
no_int sig s e reals = cc
no_int sig s e (rigid i) = cc
no_int sig s e (abstract n ss t a k) = cc
no_int sig s e (choices o hs c) = number_is_no_choice sig o hs c (inl e)
no_int sig s e (records n ss fs r a) = cc

-- ---- lists

module _ (sig : Signature) (y : System) (lawful : IsLawful sig) (completed : IsCompleted sig y) (assigned : Assignment)
    (assigns : IsAssignment sig y true assigned)
    (apart : (h i : Head) → IsConstructor sig h → IsConstructor sig i → value sig y true assigned
    (Apply h [] []) ≡ value sig y true assigned (Apply i [] []) → h ≡ i) (ls : List Lit) where
  abbrev E : Term → Val
  E = value sig y true assigned

  abbrev R : Formula → Bool
  R = is_true_at sig y true assigned ls

  from_false : (b : Bool) → same_truth false b ≡ true → b ≡ false
  from_false true e = absurd (cc)
  from_false false e = refl

  -- where the values of two terms are equal, their forms don't differ by a number other than 0
  not_apart : (s t : Term) → E s ≡ E t → IsNumber (gap (equal s t)) → (gap (equal s t)).constant ≢ zero_ℚ → ⊥
  not_apart s t e c n =
      let L : Term → ℚ = λ u. constant_of (E u) in
      let lin : (u : Term) → L u ≡ form_value L one_ℚ (form u) =
      linear_value sig y numbering (reduced_by y) true assigned constant_of one_ℚ constant_coordinate in
      let by_gap : form_value L one_ℚ (gap (equal s t)) ≡ L t +ℚ neg_ℚ one_ℚ *ℚ L s =
      value-plus L one_ℚ (form t) (scale (neg_ℚ one_ℚ) (form s)) ∙
      (λ i. sym (lin t) i +ℚ (value-scale L one_ℚ (neg_ℚ one_ℚ) (form s) ∙ ap (λ z. neg_ℚ one_ℚ *ℚ z) (sym (lin s))) i) in
      let nothing : L t +ℚ neg_ℚ one_ℚ *ℚ L s ≡ zero_ℚ =
      ap (λ z. L t +ℚ z) (neg_mul_q one_ℚ (L s) ∙ ap neg_ℚ (one_mul_q (L s) ∙ ap constant_of e)) ∙ add_neg_q (L t) in
      let by_number : form_value L one_ℚ (gap (equal s t)) ≡ (gap (equal s t)).constant =
      value-same Term_discrete L one_ℚ (gap (equal s t)) (number (gap (equal s t)).constant) (record { factors = c; constants = refl })
      ∙ value-number L one_ℚ (gap (equal s t)).constant ∙ one_mul_q (gap (equal s t)).constant in
      n (sym by_number ∙ by_gap ∙ nothing)

  module _ (hyps : List Lit) (lines : List EqLine) (ground : AllByRecursion (IsGroundEquation sig) lines)
      (order_free : (k : ℕ) (sign : Bool) (s t : Term) → (slice_get hyps k ≡ Some (record { positive = sign; formula = Lt s t }) → ⊥) ×
      (slice_get hyps k ≡ Some (record { positive = sign; formula = Le s t }) → ⊥))
      (allowed : AllAllowed sig (fact_ok sig) hyps [] lines) (all : list_all (literal_holds R) hyps ≡ true) where
    holds : (k : ℕ) (l : Lit) → slice_get hyps k ≡ Some l → literal_holds R l ≡ true
    holds k l e = list_all_at (literal_holds R) hyps k l all e

    plain_fact : (l : EqLine) → IsGroundEquation sig l → fact_ok sig (states l) ≡ true → plain_ok sig (states l) ≡ true
    plain_fact l q o = λ i. o i && (q.1).plain i && (q.2).plain i

    plainly : (earlier rest : List EqLine) → AllByRecursion (IsGroundEquation sig) rest → AllAllowed sig (fact_ok sig) hyps earlier rest
        → AllAllowed sig (plain_ok sig) hyps earlier rest
    plainly earlier [] q a = tt
    plainly earlier (l ∷ rest) q a = ((plain_fact l q.0 (a.0).0, (a.0).1), plainly (earlier ++ l ∷ []) rest q.1 a.1)

    nothing_stated : (k : ℕ) (f : Fact) → Stated [] k f → ⊥
    nothing_stated k f e = cc

    known : (k : ℕ) (f : Fact) → Stated lines k f → Follows sig (plain_ok sig) (Among hyps) f
    known k f e =
        all_follow sig (plain_ok sig) hyps [] lines (λ j g e. absurd (nothing_stated j g e)) (plainly [] lines ground allowed) k f e

    laws : Respects sig (plain_ok sig) (Among hyps) E (λ _ _. true) (λ _ _. false)
    laws = record {
      hyp = λ s t h o. decided_yes (Val_discrete (E s) (E t))
          (sym (truth_eq _ _ s t) ∙ holds h.0 (record { positive = true; formula = Eq s t }) h.1);
      le_hyp = λ s t h o. refl;
      lt_hyp = λ s t h o. absurd
          (elim h as (λ _. ⊥) [ inl a ↦ (order_free a.0 true s t).0 a.1 | inr a ↦ (order_free a.0 false t s).1 a.1 ]);
      rules = value_rules sig y lawful completed true assigned assigns;
    }

    meant : (k : ℕ) (s t : Term) → Stated lines k (equal s t) → E s ≡ E t
    meant k s t e = respects sig (plain_ok sig) (Among hyps) E (λ _ _. true) (λ _ _. false) laws (known k (equal s t) e)

    equated : (ks : List ℕ) (us ws : List Term) → Equated lines ks us ws → map E us ≡ map E ws
    equated [] [] [] e = refl
    equated (k ∷ ks) (u ∷ us) (w ∷ ws) e = λ i. meant k u w e.0 i ∷ equated ks us ws e.1 i
    equated [] [] (w ∷ ws) e = absurd e
    equated [] (u ∷ us) ws e = absurd e
    equated (k ∷ ks) [] ws e = absurd e
    equated (k ∷ ks) (u ∷ us) [] e = absurd e

    -- the line of this number
    line_at : (k : ℕ) (f : Fact) → Stated lines k f → (l : EqLine) × (states l ≡ f) × IsGroundEquation sig l
    line_at k f e =
        let b = bind_some (slice_get lines k) (λ l. Some (states l)) f e in
        (b.0, same_Some (states b.0) f b.2, all_at (IsGroundEquation sig) lines k b.0 ground b.1)

    no_end : (e : Ending) → Ends sig hyps lines e → ⊥
    no_end (ending.Neq k i) (s, t, at, given) =
        let a : R (Eq s t) ≡ false = from_false (R (Eq s t)) (holds i (record { positive = false; formula = Eq s t }) given) in
        let b : R (Eq s t) ≡ true = truth_eq _ _ s t ∙ decided_of (Val_discrete (E s) (E t)) (meant k s t at) in
        let z : true ≡ false = sym b ∙ a in cc
    no_end (ending.Const k) (s, t, at, o, c, n) = not_apart s t (meant k s t at) c n
    no_end (ending.Clash k) (h, i, at, x, z, n) = n (apart h i x z (meant k (Apply h [] []) (Apply i [] []) at))
    no_end (ending.Pred i j ks) (p, ss, us, ws, a, b, e) =
        let x : R (Pred p ss us) ≡ true = holds i (record { positive = true; formula = Pred p ss us }) a in
        let z : R (Pred p ss ws) ≡ false =
        from_false (R (Pred p ss ws)) (holds j (record { positive = false; formula = Pred p ss ws }) b) in
        let same : R (Pred p ss us) ≡ R (Pred p ss ws) =
        truth_pred _ _ p ss us ∙ said_same sig y numbering (reduced_by y) true ls assigned assigned ls p ss us ws (equated ks us ws e)
        ∙ sym (truth_pred _ _ p ss ws) in
        let w : true ≡ false = sym x ∙ same ∙ z in cc
    no_end (ending.Zero k) (f, at, o, c, n) =
        let l = line_at k f at in
        let r : f.relation ≡ Equal = ap (λ (f : Fact). f.relation) (sym l.1) ∙ (l.2).0 in
        subst (λ (r : Relation). CannotHold r (gap f).constant) r n
    no_end (ending.Gcd k) (s, t, at, a, n) =
        let l = line_at k (equal s t) at in
        let f = fragment_sorted sig [] s (subst (λ (f : Fact). IsFragmentTerm sig [] f.left) l.1 (l.2).1) in
        no_int sig f.0 (same_Some f.0 Int (sym f.1 ∙ a.0)) f.2

  not_all : (b : Bool) → (b ≡ true → ⊥) → not b ≡ true
  not_all true f = absurd (f refl)
  not_all false f = refl

  pub block_true : (b : BlockOf) → AllByRecursion (IsGroundEquation sig) b.deriv.lines
      → ((k : ℕ) (sign : Bool) (s t : Term) → (slice_get b.deriv.hyps k ≡ Some (record { positive = sign; formula = Lt s t }) → ⊥) ×
      (slice_get b.deriv.hyps k ≡ Some (record { positive = sign; formula = Le s t }) → ⊥))
      → IsContradictory sig b → clause_holds (is_true_at sig y true assigned ls) (map opposite b.deriv.hyps) ≡ true
  block_true b q o c =
      opposites_deny R b.deriv.hyps
      ∙ not_all (list_all (literal_holds R) b.deriv.hyps) (λ a. no_end b.deriv.hyps b.deriv.lines q o c.0 a b.ending c.1)
