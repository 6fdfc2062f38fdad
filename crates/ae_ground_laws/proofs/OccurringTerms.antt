-- Each term that occurs in a goal of the ground fragment is of the fragment, or a predicate's application to such terms.
use Rattle.std.specs.Prelude.{ℕ, zero, suc, ◌+◌, ◌<◌, Bool, true, ◌&&◌, List, [], ◌∷◌, ◌++◌, ◌≡◌, map, length, slice_get, Option, Some, None}
use Rattle.std.specs.List.{AllByRecursion, Contains}
use Rattle.std.proofs.Common.{refl, sym, ap, ◌∙◌, subst, arith, inl, inr}
use Rattle.std.proofs.lemmas.Bool.{and_parts}
use Rattle.std.proofs.lemmas.List.{length-map}
use Rattle.std.proofs.lemmas.Option.{same_Some, slice_get_within}
use Rattle.ae_base.specs.Options.{◌>>=◌}
use Rattle.ae_base.proofs.AllOf.{all_append, all_weaker}
use Rattle.ae_base.proofs.ListFacts.{value_at, get_map}
use Rattle.ae_base.proofs.Options.{never_some}
use Rattle.ae_core.specs.Inner.Induction.{by_formulas}
use Rattle.ae_core.specs.Putting.{put_sort}
use Rattle.ae_core.specs.Signatures.{IsLawful, IsEnumerated}
use Rattle.ae_core.specs.Sorts.{sort_of, formula_ok, is_closed_sort}
use Rattle.ae_core.specs.declared.terms.Sort.{Sort, Sort-F, Named, out-Sort, roll-Sort, roll-out-Sort}
use Rattle.ae_core.specs.declared.terms.Sort.TheOpen as sort_layer
use Rattle.ae_core.specs.declared.terms.Sort.TheVariants.{outs-Real, outs-Rigid, outs-Named, rolls-Named}
use Rattle.ae_core.specs.declared.terms.Head.{Head}
use Rattle.ae_core.specs.declared.terms.Head.TheVariants as head
use Rattle.ae_core.specs.declared.terms.Term.{Term, Apply}
use Rattle.ae_core.specs.declared.formulas.Formula.{Formula, Pred, And, Or, Xor, Iff, All}
use Rattle.ae_core.specs.declared.formulas.Quant.{Quant}
use Rattle.ae_core.specs.declared.problems.Signature.{Signature}
use Rattle.ae_core.specs.declared.problems.Problem.{Problem}
use Rattle.ae_core.specs.declared.problems.TypeEntry.{TypeEntry}
use Rattle.ae_core.specs.declared.problems.FieldEntry.{FieldEntry}
use Rattle.ae_core.specs.declared.problems.SymbolEntry.{SymbolEntry}
use Rattle.ae_core.specs.declared.problems.Nature.{Nature}
use Rattle.ae_core.specs.declared.problems.Nature.TheVariants.{Free, Ac, Choice}
use Rattle.ae_core.specs.declared.problems.Kind.{Kind}
use Rattle.ae_core.specs.declared.problems.Kind.TheVariants.{Abstract, Choices, Fields}
use Rattle.ae_core.proofs.ClosedSorts.{field_sorted}
use Rattle.ae_core.proofs.PutSorts.{body_put}
use Rattle.ae_core.proofs.Recursion.{fold_true, fold_false, fold_eq, fold_lt, fold_le, fold_pred, fold_not, fold_and, fold_or, fold_xor, fold_iff, fold_all, fold_ex}
use Rattle.ae_core.proofs.SortFacts.{block_parts}
use Rattle.ae_core.proofs.SortLaws.{formula_in_not, formula_in_and, formula_in_or, formula_in_xor, formula_in_iff, formula_in_all}
use Rattle.ae_rules.specs.Derivations.{goal_body}
use Rattle.ae_rules.specs.Instances.{choices_of, count_from}
use Rattle.ae_rules.specs.Linear.{is_plain}
use Rattle.ae_rules.specs.Lines.{fields_from, IsAc}
use Rattle.ae_journal.specs.Ground.{IsFragmentSort, AreFragmentSorts, reals, rigid, abstract, choices, records, more}
use Rattle.ae_journal.specs.Ground.{atom_terms, subterms, HasFragmentSort, JoinsNoEnumeration, IsFragmentTerm, IsGroundFormula, IsGroundGoal, IsGround}
use Rattle.ae_journal.specs.Evaluation.{result_sort}
use Rattle.ae_journal.specs.States.{outside, outside_step}
use Rattle.ae_journal.specs.Systems.{record_fields, fields_of, field_terms, field_terms_of}
use Rattle.ae_journal.proofs.Splits.{all_contained, contains_cases}
use Rattle.ae_evaluation.proofs.Decisions.{both_all}
use Rattle.ae_settled.proofs.Sorts.{is_record, predicate_unsorted, predicate_apart}
use Rattle.ae_reach.specs.Budget.{IsFirst, a_hypothesis, the_goal, the_block, Occurs, itself, argument, field}
use Rattle.ae_reach.specs.Reach.{IsInReach}
use Rattle.ae_ground_laws.specs.Terms.{IsGroundName}
use Rattle.ae_ground_laws.proofs.Fragment.{first_stands, goal_is}
use Rattle.ae_ground_laws.proofs.Plain.{plain_apply, plain_arguments, occurs_plain, atoms_eq, atoms_lt, atoms_le, atoms_pred, atoms_not, atoms_and, atoms_or, atoms_xor, atoms_iff}
use Rattle.ae_ground_laws.proofs.PutFragment.{constants_sorted}
use Rattle.ae_ground_laws.proofs.Subterms.{subterms_apply, all_apart, own, same_head, same_arguments}

-- ---- the fields of a record
field_of : (k : ℕ) (us : List Sort) (u : Term) (i n : ℕ) (t : Term) → Contains (fields_from k us u i n) t → (j : ℕ) × (j < i + n) × (Apply (head.Field k j) us (u ∷ []) ≡ t)
field_of k us u i zero t h = absurd (let l = h.1 in omega (arith, l))
field_of k us u i (suc n) t h =
    elim (contains_cases (Apply (head.Field k i) us (u ∷ [])) (fields_from k us u (suc i) n) t h) as (λ _. (j : ℕ) × (j < i + suc n) × (Apply (head.Field k j) us (u ∷ []) ≡ t)) [
      | inl e ↦ (i, omega arith, e)
      | inr d ↦ (let r = field_of k us u (suc i) n t d in (r.0, omega (arith, r.1), r.2))
    ]

at_field : (sig : Signature) (ss : List Sort) (j : ℕ) (o : Sort) → AreFragmentSorts sig ss → slice_get ss j ≡ Some o → IsFragmentSort sig o
at_field sig [] j o all e = absurd (let w = slice_get_within [] j o e in omega (arith, w))
at_field sig (s ∷ ss) zero o (more h all) e = subst (IsFragmentSort sig) (same_Some s o e) h
at_field sig (s ∷ ss) (suc j) o (more h all) e = at_field sig ss j o all e

-- an abstract type is no record's
no_record : (sig : Signature) (n : ℕ) (us ss : List Sort) (e : TypeEntry) → slice_get sig.types n ≡ Some e → e.kind ≡ Abstract → record_fields sig (Named n us) ≡ Some ss → ⊥
no_record sig n us ss e at k r =
    let q = is_record sig (Named n us) ss r in
    let o : ◌≡◌ {A = Sort-F Sort} (sort_layer.Named n us) (sort_layer.Named q.type q.sorts) = sym (outs-Named n us) ∙ q.out in
    let z : q.type ≡ n = cc in
    let same : q.entry ≡ e = same_Some q.entry e (sym q.at ∙ ap (slice_get sig.types) z ∙ at) in
    let w : Fields q.fields ≡ Abstract = sym q.kind ∙ ap (λ (e : TypeEntry). e.kind) same ∙ k in
    cc

-- an enumeration is no record's sort
pub not_both : (sig : Signature) (s : Sort) (hs : List Head) (ss : List Sort) → choices_of sig (out-Sort s) ≡ Some hs → record_fields sig s ≡ Some ss → ⊥
not_both sig s hs ss c r =
    let q = is_record sig s ss r in
    never_some hs
    (sym
    (ap (λ (o : Option TypeEntry). o >>= λ e. elim e.kind as (λ _. Option (List Head)) [ Choices cs ↦ Some (map head.Symbol cs) | Abstract ↦ None | Fields fs ↦ None ]) q.at
    ∙ ap (λ (k : Kind). elim k as (λ _. Option (List Head)) [ Choices cs ↦ Some (map head.Symbol cs) | Abstract ↦ None | Fields fs ↦ None ]) q.kind)
    ∙ ap (choices_of sig) (sym q.out) ∙ c)

fragment_fields : (sig : Signature) (s : Sort) (ss : List Sort) → IsFragmentSort sig s → record_fields sig s ≡ Some ss → AreFragmentSorts sig ss
fragment_fields sig _ ss reals e = never_some ss (sym (ap (fields_of sig) outs-Real) ∙ e)
fragment_fields sig _ ss (rigid i) e = never_some ss (sym (ap (fields_of sig) (outs-Rigid i)) ∙ e)
fragment_fields sig _ ss (abstract m us y at k) e = absurd (no_record sig m us ss y at k e)
fragment_fields sig _ ss (choices s hs c) e = absurd (not_both sig s hs ss c e)
fragment_fields sig _ ss (records m us fs f all) e = subst (AreFragmentSorts sig) (same_Some fs ss (sym f ∙ e)) all

-- a declared AC symbol has a result
ac_result : (sig : Signature) → IsLawful sig → (k : ℕ) (ss : List Sort) → IsAc sig (head.Symbol k) → (s : Sort) × (result_sort sig (head.Symbol k) ss ≡ Some s)
ac_result sig law k ss (e, at, ac) =
    let r = by_nature e.nature ac (law.symbols k e at).2 in
    (put_sort ss r.0, ap (λ (o : Option SymbolEntry). o >>= λ e. e.result >>= λ s. Some (put_sort ss s)) at ∙ ap (λ (o : Option Sort). o >>= λ s. Some (put_sort ss s)) r.1)
  where
    by_nature : (m : Nature) → m ≡ Ac
        → elim m as (λ _. Type 0) [ Free ↦ Unit {0} | Ac ↦ (s : Sort) × (e.args ≡ s ∷ s ∷ []) × (e.result ≡ Some s) | Choice of place ↦ (e.vars ≡ 0) × (e.args ≡ []) × (e.result ≡ Some (Named of [])) × IsEnumerated sig of ]
        → (s : Sort) × (e.result ≡ Some s)
    by_nature Free n l = absurd (cc)
    by_nature Ac n l = (l.0, l.2)
    by_nature (Choice of place) n l = absurd (cc)

module _ (sig : Signature) where
  -- a term of the fragment, or a predicate's application to such terms
  pub data Fine (t : Term) : Type 0 where
    fragment : IsFragmentTerm sig [] t → Fine t
    application : (n : ℕ) (ss : List Sort) (us : List Term) → t ≡ Apply (head.Symbol n) ss us → formula_ok sig (Pred n ss us) ≡ true → AllByRecursion (IsFragmentTerm sig []) us → Fine t

  -- ---- arguments
  together : (us : List Term) → AllByRecursion (λ t. is_plain t ≡ true) us → AllByRecursion (λ t. AllByRecursion (HasFragmentSort sig []) (subterms t)) us
      → AllByRecursion (λ t. AllByRecursion (JoinsNoEnumeration sig []) (subterms t)) us → AllByRecursion (IsFragmentTerm sig []) us
  together [] a b c = tt
  together (u ∷ us) a b c = (record { plain = a.0; sorted = b.0; joins = c.0 }, together us a.1 b.1 c.1)

  arguments_fragment : (h : Head) (ss : List Sort) (us : List Term) → IsFragmentTerm sig [] (Apply h ss us) → AllByRecursion (IsFragmentTerm sig []) us
  arguments_fragment h ss us i =
      together us (plain_arguments h ss us i.plain)
      (all_apart (HasFragmentSort sig []) us (subst (AllByRecursion (HasFragmentSort sig [])) (subterms_apply h ss us) i.sorted).1)
      (all_apart (JoinsNoEnumeration sig []) us (subst (AllByRecursion (JoinsNoEnumeration sig [])) (subterms_apply h ss us) i.joins).1)

  argument_fine : (h : Head) (ss : List Sort) (us : List Term) (t : Term) → Fine (Apply h ss us) → Contains us t → Fine t
  argument_fine h ss us t (fragment i) c = fragment (all_contained (IsFragmentTerm sig []) us t (arguments_fragment h ss us i) c)
  argument_fine h ss us t (application n os vs e ok all) c =
      fragment (all_contained (IsFragmentTerm sig []) us t (subst (AllByRecursion (IsFragmentTerm sig [])) (sym (same_arguments h (head.Symbol n) ss os us vs e)) all) c)

  -- ---- fields
  field_fragment : (k i : ℕ) (us : List Sort) (u : Term) (o : Sort) → sort_of sig (Apply (head.Field k i) us (u ∷ [])) ≡ Some o → IsFragmentSort sig o → IsFragmentTerm sig [] u
      → IsFragmentTerm sig [] (Apply (head.Field k i) us (u ∷ []))
  field_fragment k i us u o so f g = record {
    plain = plain_apply (head.Field k i) us (u ∷ []) refl (g.plain, tt);
    sorted = subst (AllByRecursion (HasFragmentSort sig [])) (sym (subterms_apply (head.Field k i) us (u ∷ [])))
        ((o, so, f), all_append (HasFragmentSort sig []) (subterms u) [] g.sorted tt);
    joins = subst (AllByRecursion (JoinsNoEnumeration sig [])) (sym (subterms_apply (head.Field k i) us (u ∷ []))) (
      (λ h ss vs s e ac q. absurd (no_ac h (same_head (head.Field k i) h us ss (u ∷ []) vs e) ac)),
      all_append (JoinsNoEnumeration sig []) (subterms u) [] g.joins tt,
    );
  }
    where
      no_ac : (h : Head) → head.Field k i ≡ h → IsAc sig h → ⊥
      no_ac h e ac = subst (IsAc sig) (sym e) ac

  field_fine : IsLawful sig → (s : Sort) (ss : List Sort) (u : Term) → IsFragmentTerm sig [] u → sort_of sig u ≡ Some s → record_fields sig s ≡ Some ss → (t : Term) → Contains (field_terms s u (length ss)) t → Fine t
  field_fine law s ss u g so e t c =
      let d = is_record sig s ss e in
      let w = own (HasFragmentSort sig []) u g.sorted in
      let all = fragment_fields sig s ss (subst (IsFragmentSort sig) (same_Some w.0 s (sym w.1 ∙ so)) w.2) e in
      let is : s ≡ Named d.type d.sorts = sym (roll-out-Sort s) ∙ ap roll-Sort d.out ∙ rolls-Named d.type d.sorts in
      let those : field_terms s u (length ss) ≡ fields_from d.type d.sorts u 0 (length ss) = ap (λ o. field_terms_of o u (length ss)) d.out in
      let f = field_of d.type d.sorts u 0 (length ss) t (subst (λ (zs : List Term). Contains zs t) those c) in
      let within : f.0 < length d.fields = omega (arith, f.1, ap length d.are ∙ length-map d.fields (λ (z : FieldEntry). put_sort d.sorts z.sort)) in
      let entry = value_at d.fields f.0 within in
      let o = put_sort d.sorts entry.0.sort in
      let at : slice_get ss f.0 ≡ Some o = ap (λ (zs : List Sort). slice_get zs f.0) d.are ∙ get_map (λ (z : FieldEntry). put_sort d.sorts z.sort) d.fields f.0 entry.0 entry.1 in
      let sorted : sort_of sig (Apply (head.Field d.type f.0) d.sorts (u ∷ [])) ≡ Some o =
      field_sorted sig law d.type f.0 d.sorts u d.entry entry.0 d.at
      (ap (λ (k : Kind). slice_get (elim k as (λ _. List FieldEntry) [ Fields fs ↦ fs | Abstract ↦ [] | Choices cs ↦ [] ]) f.0) d.kind ∙ entry.1) (so ∙ ap (λ (z : Sort). Some z) is) in
      subst Fine f.2 (fragment (field_fragment d.type f.0 d.sorts u o sorted (at_field sig ss f.0 o all at) g))

  -- ---- formulas
  predicate : (n : ℕ) (ss : List Sort) (us : List Term) → formula_ok sig (Pred n ss us) ≡ true → AllByRecursion (IsFragmentTerm sig []) us → Fine (Apply (head.Symbol n) ss us)
  predicate n ss us ok a = application n ss us refl ok a

  abbrev Terms : Formula → Type 0
  Terms f = AllByRecursion (IsFragmentTerm sig []) (atom_terms f)

  abbrev Outside : Formula → Type 0
  Outside f = formula_ok sig f ≡ true → Terms f → AllByRecursion Fine (outside f)

  as_fine : (ts : List Term) → AllByRecursion (IsFragmentTerm sig []) ts → AllByRecursion Fine ts
  as_fine ts a = all_weaker (IsFragmentTerm sig []) Fine (λ t i. fragment i) ts a

  of_two : (f a b : Formula) → (formula_ok sig f ≡ (formula_ok sig a && formula_ok sig b)) → atom_terms f ≡ atom_terms a ++ atom_terms b → outside f ≡ outside a ++ outside b
      → Outside a → Outside b → Outside f
  of_two f a b o e d k l ok ts =
      let q = and_parts (formula_ok sig a) (formula_ok sig b) (sym o ∙ ok) in
      let r = both_all (IsFragmentTerm sig []) (atom_terms a) (atom_terms b) (subst (AllByRecursion (IsFragmentTerm sig [])) e ts) in
      subst (AllByRecursion Fine) (sym d) (all_append Fine (outside a) (outside b) (k q.0 r.0) (l q.1 r.1))

  abbrev may : Sort → Bool
  may = is_closed_sort sig

  outside_fine : (f : Formula) → Outside f
  unfolding outside
  outside_fine =
      by_formulas Outside (λ q. Unit {0})
      (λ ok ts. subst (AllByRecursion Fine) (sym (fold_true (List Term) (Unit {0}) outside_step (λ q. tt))) tt)
      (λ ok ts. subst (AllByRecursion Fine) (sym (fold_false (List Term) (Unit {0}) outside_step (λ q. tt))) tt)
      (λ a b ok ts. subst (AllByRecursion Fine) (sym (fold_eq (List Term) (Unit {0}) outside_step (λ q. tt) a b)) (as_fine (a ∷ b ∷ []) (subst (AllByRecursion (IsFragmentTerm sig [])) (atoms_eq a b) ts)))
      (λ a b ok ts. subst (AllByRecursion Fine) (sym (fold_lt (List Term) (Unit {0}) outside_step (λ q. tt) a b)) (as_fine (a ∷ b ∷ []) (subst (AllByRecursion (IsFragmentTerm sig [])) (atoms_lt a b) ts)))
      (λ a b ok ts. subst (AllByRecursion Fine) (sym (fold_le (List Term) (Unit {0}) outside_step (λ q. tt) a b)) (as_fine (a ∷ b ∷ []) (subst (AllByRecursion (IsFragmentTerm sig [])) (atoms_le a b) ts)))
      (λ n ss us ok ts.
      subst (AllByRecursion Fine) (sym (fold_pred (List Term) (Unit {0}) outside_step (λ q. tt) n ss us))
      (predicate n ss us ok (subst (AllByRecursion (IsFragmentTerm sig [])) (atoms_pred n ss us) ts), tt))
      (λ a k ok ts.
      subst (AllByRecursion Fine) (sym (fold_not (List Term) (Unit {0}) outside_step (λ q. tt) a))
      (k (sym (formula_in_not sig may [] a) ∙ ok) (subst (AllByRecursion (IsFragmentTerm sig [])) (atoms_not a) ts)))
      (λ a b. of_two (And a b) a b (formula_in_and sig may [] a b) (atoms_and a b) (fold_and (List Term) (Unit {0}) outside_step (λ q. tt) a b))
      (λ a b. of_two (Or a b) a b (formula_in_or sig may [] a b) (atoms_or a b) (fold_or (List Term) (Unit {0}) outside_step (λ q. tt) a b))
      (λ a b. of_two (Xor a b) a b (formula_in_xor sig may [] a b) (atoms_xor a b) (fold_xor (List Term) (Unit {0}) outside_step (λ q. tt) a b))
      (λ a b. of_two (Iff a b) a b (formula_in_iff sig may [] a b) (atoms_iff a b) (fold_iff (List Term) (Unit {0}) outside_step (λ q. tt) a b))
      (λ q k ok ts. subst (AllByRecursion Fine) (sym (fold_all (List Term) (Unit {0}) outside_step (λ q. tt) q)) tt)
      (λ q k ok ts. subst (AllByRecursion Fine) (sym (fold_ex (List Term) (Unit {0}) outside_step (λ q. tt) q)) tt)
      (λ q k. tt)

  block_fine : (q : Quant) → AllByRecursion Fine (outside (All q))
  unfolding outside
  block_fine q = subst (AllByRecursion Fine) (sym (fold_all (List Term) (Unit {0}) outside_step (λ q. tt) q)) tt

-- ---- the first formulas of a goal
module _ (p : Problem) (g : ℕ) (law : IsLawful p.signature) (reach : IsInReach p g) (ground : IsGround p g) where
  goal_sorted : (f : Formula) → goal_body p g ≡ Some f → formula_ok p.signature f ≡ true
  goal_sorted f e = subst (λ (h : Formula). formula_ok p.signature h ≡ true) (same_Some reach.goal f (sym reach.is ∙ e)) reach.goal_closed.0

  first_sorted : (f : Formula) → IsFirst p g f → formula_ok p.signature f ≡ true
  first_sorted _ (a_hypothesis k f e) = (reach.closed k f e).0
  first_sorted _ (the_goal f e) = goal_sorted f e
  first_sorted _ (the_block q e) =
      let b = block_parts p.signature q (sym (formula_in_all p.signature (is_closed_sort p.signature) [] q) ∙ goal_sorted (All q) e) in
      body_put p.signature (is_closed_sort p.signature) q.sorts (count_from 0 q.sorts) (constants_sorted p.signature 0 q.sorts b.0) q.body b.1

  goal_fine : (f : Formula) → f ≡ ground.goal → formula_ok p.signature f ≡ true → IsGroundGoal p.signature ground.goal → AllByRecursion (Fine p.signature) (outside f)
  goal_fine f e ok (inl i) = outside_fine p.signature f ok (subst (IsGroundFormula p.signature []) (sym e) i).terms
  goal_fine f e ok (inr b) = subst (λ (h : Formula). AllByRecursion (Fine p.signature) (outside h)) (sym (e ∙ b.1)) (block_fine p.signature b.0)

  first_fine : (f : Formula) → IsFirst p g f → AllByRecursion (Fine p.signature) (outside f)
  first_fine f i = elim (first_stands p g ground reach f i) as (λ _. AllByRecursion (Fine p.signature) (outside f)) [
    | inl w ↦ outside_fine p.signature f (first_sorted f i) w.terms
    | inr e ↦ goal_fine f (goal_is p g ground f e) (first_sorted f i) ground.ground
  ]

  -- ---- what occurs
  occurs_fine : (t : Term) → Occurs p g t → Fine p.signature t
  occurs_fine t (itself f i h) = all_contained (Fine p.signature) (outside f) t (first_fine f i) h
  occurs_fine t (argument h ss us o i) = argument_fine p.signature h ss us t (occurs_fine (Apply h ss us) o) i
  occurs_fine t (field s ss u o so e c) = elim (occurs_fine u o) as (λ _. Fine p.signature t) [
    | fragment i ↦ field_fine p.signature law s ss u i so e t c
    | application n os vs q ok all ↦ absurd (predicate_unsorted p.signature u s (n, os, vs, q, ok) so)
  ]

  pub occurs_ground : (t : Term) → Occurs p g t → IsGroundName p.signature t
  occurs_ground t o = (occurs_plain p g ground t o, sorted (occurs_fine t o), applied (occurs_fine t o))
    where
      sorted : Fine p.signature t → (s : Sort) → sort_of p.signature t ≡ Some s → IsFragmentTerm p.signature [] t
      sorted (fragment i) s so = i
      sorted (application n os vs e ok all) s so = absurd (predicate_unsorted p.signature t s (n, os, vs, e, ok) so)

      applied : Fine p.signature t → (k : ℕ) (ss : List Sort) (us : List Term) → t ≡ Apply (head.Symbol k) ss us → IsAc p.signature (head.Symbol k) → (s : Sort) × (sort_of p.signature t ≡ Some s)
      applied (fragment i) k ss us e ac = let w = own (HasFragmentSort p.signature []) t i.sorted in (w.0, w.1)
      applied (application n os vs q ok all) k ss us e ac =
          let r = ac_result p.signature law k ss ac in
          absurd (predicate_apart p.signature (head.Symbol k) ss us r.0 (n, os, vs, sym e ∙ q, ok) r.1)
