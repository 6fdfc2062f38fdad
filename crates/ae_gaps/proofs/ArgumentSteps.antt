-- Steps that equate the names of two lists, and names that apply one head to names of the same representatives.
use Rattle.std.specs.Prelude.{ℕ, ◌+◌, ◌<◌, ◌≤◌, ◌⊎◌, ◌≡◌, ◌≢◌, true, false, List, [], ◌∷◌, ◌++◌, map, length, slice_get, Some, IsTrue}
use Rattle.std.proofs.Common.{sym, ap, ◌∙◌, subst, arith, inl, inr, length-append}
use Rattle.std.proofs.lemmas.Bool.{cases_lt}
use Rattle.std.proofs.lemmas.List.{length-map}
use Rattle.std.proofs.lemmas.Option.{none-some, same_Some, slice_get_within}
use Rattle.ae_base.specs.Options.{known}
use Rattle.ae_base.proofs.AllOf.{all_at}
use Rattle.ae_base.proofs.ListFacts.{get_map, get_before, get_seam}
use Rattle.ae_base.proofs.Options.{each_known, known_some}
use Rattle.ae_base.proofs.Tests.{by_bool}
use Rattle.ae_congruent_steps.specs.Congruent.{AreCongruent}
use Rattle.ae_congruent_steps.proofs.Congruence.{congruent_nodes}
use Rattle.ae_core.proofs.SortFacts.{same_known_is}
use Rattle.ae_core.specs.Sorts.{sort_of}
use Rattle.ae_core.specs.declared.terms.Sort.{Sort}
use Rattle.ae_core.specs.declared.terms.Head.{Head}
use Rattle.ae_core.specs.declared.terms.Term.{Term, Apply}
use Rattle.ae_core.specs.declared.problems.Signature.{Signature}
use Rattle.ae_evaluation.proofs.SortFacts.{is_applied}
use Rattle.ae_equal_steps.specs.Inner.Pairs.{IsHeld}
use Rattle.ae_just.specs.Steps.{Fits}
use Rattle.ae_just.specs.declared.steps.Side.TheVariants as side
use Rattle.ae_just.specs.declared.steps.Step.{Step}
use Rattle.ae_multiset_steps.specs.Equating.{AreEquated}
use Rattle.ae_settled.specs.Swept.{AreCongruent as HaveSameArguments}
use Rattle.ae_state_steps.specs.ValueSteps.{StatesEqual}
use Rattle.ae_store.specs.Growing.{IsFront}
use Rattle.ae_store.specs.Parts.{IsIn}
use Rattle.ae_store.specs.Shapes.{shapes}
use Rattle.ae_store.specs.Stores.{Stored, IsStore}
use Rattle.ae_store.specs.Terms.{terms, named}
use Rattle.ae_store.specs.declared.nodes.Node.{Node}
use Rattle.ae_store.specs.declared.nodes.NodeHead.TheVariants.{Of}
use Rattle.ae_store.proofs.EnterLaws.{front_same, front_then}
use Rattle.ae_store.proofs.PartLaws.{in_none, in_pushed}
use Rattle.ae_store.proofs.StoreLaws.{name_term}
use Rattle.ae_strips.proofs.FieldTerms.{term_there, length_is}
use Rattle.ae_sweeps.specs.Gaps.{AreAlike, IsUnequal}
use Rattle.ae_sweeps.specs.Given.{rep_in}
use Rattle.ae_theory.specs.Names.{terms_in}
use Rattle.ae_value_fitting.specs.Fitting.{AreSaid}
use Rattle.ae_value_fitting.specs.Sources.{RestsOnValues}
use Rattle.ae_value_fitting.proofs.Resting.{rests_longer}
use Rattle.ae_value_steps.proofs.Added.{equal_kept}
use Rattle.ae_value_table.specs.Alike.{alike}
use Rattle.ae_value_table.specs.Table.{Contents}
use Rattle.ae_state.specs.declared.holding.Holding.{Holding}
use Rattle.ae_state.proofs.Alikeness.{alike_turned, alike_through}
use Rattle.ae_turns.specs.Representing.{IsTaken, AreRepresentatives}
use Rattle.ae_turns.proofs.Representatives.{rep_least}
use Rattle.ae_representatives.proofs.EqualTo.{said_kept, rests_sooner}
use Rattle.ae_representatives.proofs.Taken.{alike_rep, as_many}
use Rattle.ae_gaps.specs.Inner.Congruent.{AreSame, AreCongruentIn}
use Rattle.ae_gaps.proofs.JoinedSorts.{value_sorted}

-- ---- the names of two lists, as far as steps equate them
pub record IsEqualling (s : Stored) (first now : List Step) (c : Contents) (left right ids : List ℕ) (k : ℕ) : Type 0 where
  pub many : length ids ≡ k
  pub each : (i x y id : ℕ) → slice_get left i ≡ Some x → slice_get right i ≡ Some y → slice_get ids i ≡ Some id → StatesEqual now id x y
  pub rests : (id : ℕ) → IsIn id ids → (id < length now) × RestsOnValues first now c [] id
  pub front : IsFront first now
  pub held : IsHeld s now c

-- a place of a list with one element more
place_cases : {A : Type 0} (xs : List A) (x : A) (i : ℕ) (y : A) → slice_get (xs ++ x ∷ []) i ≡ Some y → (slice_get xs i ≡ Some y) ⊎ ((i ≡ length xs) × (x ≡ y))
place_cases xs x i y h =
    elim (cases_lt i (length xs)) [
      | inl l ↦ inl (sym (get_before xs (x ∷ []) i l) ∙ h)
      | inr l ↦
          let e : i ≡ length xs = omega (arith, l, slice_get_within (xs ++ x ∷ []) i y h, length-append xs (x ∷ [])) in
          inr (e, same_Some x y (sym (get_seam xs [] x) ∙ ap (slice_get (xs ++ x ∷ [])) (sym e) ∙ h))
    ]

module _ (s : Stored) (first : List Step) (c : Contents) (left right : List ℕ) where
  abbrev sig : Signature
  sig = s.signature

  abbrev ts : List Term
  ts = terms_in s

  pub equalling_none : (ids : List ℕ) → ids ≡ [] → IsHeld s first c → IsEqualling s first first c left right ids 0
  equalling_none ids e h =
      record {
        many = ap length e;
        each = λ i x y id a b g. absurd (none-some id (sym (ap (λ (l : List ℕ). slice_get l i) e) ∙ g));
        rests = λ id m. absurd (in_none id (subst (IsIn id) e m));
        front = front_same first;
        held = h;
      }

  pub equalling_more : (now new : List Step) (ids more : List ℕ) (k x y id : ℕ) → AreSaid sig ts first c → IsEqualling s first now c left right ids k → slice_get left k ≡ Some x → slice_get right k ≡ Some y → more ≡ ids ++ id ∷ []
      → StatesEqual new id x y → RestsOnValues now new c [] id → IsFront now new → Fits sig ts new → IsEqualling s first new c left right more (k + 1)
  equalling_more now new ids more k x y id first_said q at_left at_right is states rests front fits =
      record {
        many = ap length is ∙ (let m = q.many in omega (arith, m, length-append ids (id ∷ [])));
        each = λ i a b n f g h. by_end i a b n f g (place_cases ids id i n (sym (ap (λ (l : List ℕ). slice_get l i) is) ∙ h));
        rests = λ n m. by_place n (in_pushed n id ids (subst (IsIn n) is m));
        front = front_then first now new q.front front;
        held = record { store = (q.held).store; fits = fits; patterns = (q.held).patterns; values = (q.held).values; said = said_kept sig ts now new front c (q.held).said };
      }
    where
      by_end : (i a b n : ℕ) → slice_get left i ≡ Some a → slice_get right i ≡ Some b → (slice_get ids i ≡ Some n) ⊎ ((i ≡ length ids) × (id ≡ n)) → StatesEqual new n a b
      by_end i a b n f g (inl h) = equal_kept now new front n a b (q.each i a b n f g h)
      by_end i a b n f g (inr e) =
          let j : k ≡ i = sym (e.0 ∙ q.many) in
          let u : x ≡ a = same_Some x a (sym at_left ∙ ap (slice_get left) j ∙ f) in
          let v : y ≡ b = same_Some y b (sym at_right ∙ ap (slice_get right) j ∙ g) in
          subst (λ (z : ℕ × ℕ × ℕ). StatesEqual new z.0 z.1 z.2) (λ t. ((e.1) t, u t, v t)) states

      by_place : (n : ℕ) → IsIn n ids ⊎ (n ≡ id) → (n < length new) × RestsOnValues first new c [] n
      by_place n (inl m) = let r = q.rests n m in (omega (arith, r.0, ap length front.1, length-append now front.0), rests_longer sig ts first now new front fits c [] n r.0 r.1)
      by_place n (inr e) =
          subst (λ (z : ℕ). (z < length new) × RestsOnValues first new c [] z) (sym e)
          (slice_get_within new id _ states.there, rests_sooner sig ts first now new q.front (q.held).fits c first_said id rests)

  -- all of them
  pub equalling_all : (now : List Step) (ids : List ℕ) (k : ℕ) → AreSame sig ts c left right → IsEqualling s first now c left right ids k → length left ≤ k → k ≤ length left → AreEquated now left right ids
  equalling_all now ids k same q above below =
      record {
        as_many = same.as_many;
        one_each = (let m = q.many in omega (arith, m, above, below));
        each = λ i x y id f g h. (let e = q.each i x y id f g h in record { by = e.by; there = e.there });
      }

-- ---- names of one head, whose arguments have the same representatives
module _ (o : Holding) (s : Stored) (taken : IsTaken o s) (reps : List ℕ) (r : AreRepresentatives o reps) where
  -- names of one representative are alike
  pub one_alike : (m n : ℕ) → rep_in reps m ≡ rep_in reps n → IsTrue (alike o.values m n)
  one_alike m n e =
      let q = rep_in reps n in
      let first : IsTrue (alike o.values m q) = subst (λ (k : ℕ). IsTrue (alike o.values m k)) e (alike_turned o.values (rep_in reps m) m (alike_rep o s taken reps r m)) in
      alike_through o.values m q n first (alike_rep o s taken reps r n)

  -- names that are alike have one
  pub one_rep : (m n : ℕ) → m < length reps → n < length reps → IsTrue (alike o.values m n) → rep_in reps m ≡ rep_in reps n
  one_rep m n l k h =
      let a = (rep_least o reps r m l).first (rep_in reps n) (alike_through o.values (rep_in reps n) n m (alike_rep o s taken reps r n) (alike_turned o.values m n h)) in
      let b = (rep_least o reps r n k).first (rep_in reps m) (alike_through o.values (rep_in reps m) m n (alike_rep o s taken reps r m) h) in
      omega (arith, a, b)

  pub not_alike : (m n : ℕ) → m < length reps → n < length reps → rep_in reps m ≢ rep_in reps n → alike o.values m n ≡ false
  not_alike m n l k d = by_bool (alike o.values m n) (λ h. absurd (d (one_rep m n l k h))) (λ h. h)

  -- places of lists with the same representatives
  place_same : (xs ys : List ℕ) → map (rep_in reps) xs ≡ map (rep_in reps) ys → (i x y : ℕ) → slice_get xs i ≡ Some x → slice_get ys i ≡ Some y → rep_in reps x ≡ rep_in reps y
  place_same xs ys e i x y f g =
      same_Some (rep_in reps x) (rep_in reps y) (sym (get_map (rep_in reps) xs i x f) ∙ ap (λ (l : List ℕ). slice_get l i) e ∙ get_map (rep_in reps) ys i y g)

-- ---- sorts
-- a well-sorted application has well-sorted arguments
pub args_sorted : (sig : Signature) (nodes : List Node) → IsStore sig nodes → (n : ℕ) (p : Node) (h : Head) → slice_get nodes n ≡ Some p → p.head ≡ Of h → known (sort_of sig (named (terms (shapes nodes)) n)) ≡ true
    → (i x : ℕ) → slice_get p.args i ≡ Some x → known (sort_of sig (named (terms (shapes nodes)) x)) ≡ true
args_sorted sig nodes store n p h at is k i x e =
    let us = map (named (terms (shapes nodes))) p.args in
    let term = name_term (terms (shapes nodes)) n (Apply h p.sorts us) (term_there sig nodes store n p h at is) in
    let s = known_some (sort_of sig (named (terms (shapes nodes)) n)) k in
    let a = is_applied sig h p.sorts us s.0 (ap (sort_of sig) (sym term) ∙ s.1) in
    let all = each_known (sort_of sig) us a.args a.known in
    let w = all_at (λ (u : Term). (y : Sort) × (sort_of sig u ≡ Some y)) us i (named (terms (shapes nodes)) x) all (get_map (named (terms (shapes nodes))) p.args i x e) in
    ap known w.1

-- two names that apply one head to arguments of the same representatives
module _ (o : Holding) (s : Stored) (taken : IsTaken o s) (reps : List ℕ) (r : AreRepresentatives o reps) (m n : ℕ) (u : IsUnequal s.signature s.nodes (rep_in reps) m n) where
  abbrev alike_two : AreAlike s.signature s.nodes (rep_in reps) m n
  alike_two = u.alike

  abbrev same_args : HaveSameArguments (rep_in reps) (u.alike).first (u.alike).second
  same_args = (u.alike).congruent

  first_sorted : known (sort_of s.signature (named (terms_in s) m)) ≡ true
  first_sorted = value_sorted s.signature s.nodes taken.store m alike_two.first same_args.head alike_two.first_at same_args.first alike_two.value

  second_sorted : known (sort_of s.signature (named (terms_in s) n)) ≡ true
  second_sorted = value_sorted s.signature s.nodes taken.store n alike_two.second same_args.head alike_two.second_at same_args.second alike_two.value

  pub unequal_congruent : AreCongruentIn s.signature s.nodes o.values m n
  unequal_congruent =
      record {
        first = alike_two.first;
        second = alike_two.second;
        first_there = alike_two.first_at;
        second_there = alike_two.second_at;
        head = same_args.head;
        first_head = same_args.first;
        second_head = same_args.second;
        sorts = same_args.sorts;
        sorted = first_sorted;
        args = record {
          as_many =
              sym (length-map (alike_two.second).args (rep_in reps)) ∙ ap length (sym same_args.args) ∙ length-map (alike_two.first).args (rep_in reps);
          each = λ i x y f g.
              record {
                left = args_sorted s.signature s.nodes taken.store m alike_two.first same_args.head alike_two.first_at same_args.first first_sorted i x f;
                right = args_sorted s.signature s.nodes taken.store n alike_two.second same_args.head alike_two.second_at same_args.second second_sorted i y g;
                same = one_alike o s taken reps r x y (place_same o s taken reps r (alike_two.first).args (alike_two.second).args same_args.args i x y f g);
              };
        };
      }

  pub first_within : m < length s.nodes
  first_within = slice_get_within s.nodes m alike_two.first alike_two.first_at

  pub second_within : n < length s.nodes
  second_within = slice_get_within s.nodes n alike_two.second alike_two.second_at

  pub unequal_apart : alike o.values m n ≡ false
  unequal_apart =
      let l = r.one_each in
      let k : length (terms_in s) ≡ length s.nodes = length_is s.signature s.nodes taken.store in
      let q = as_many o s taken in
      not_alike o s taken reps r m n (omega (arith, first_within, l, k, q)) (omega (arith, second_within, l, k, q)) u.differ

-- names that a step equates are of one sort
pub stated_sorted : (sig : Signature) (ts : List Term) (steps : List Step) (id m n : ℕ) → Fits sig ts steps → StatesEqual steps id m n
    → (sort : Sort) × (sort_of sig (named ts m) ≡ Some sort) × (sort_of sig (named ts n) ≡ Some sort)
stated_sorted sig ts steps id m n fits e =
    let h = same_known_is (sort_of sig (named ts m)) (sort_of sig (named ts n)) ((fits.allowed).each id (record { left = side.Name m; right = side.Name n; rule = e.by }) e.there).sorted in
    let s = known_some (sort_of sig (named ts m)) h.0 in
    (s.0, s.1, sym h.1 ∙ s.1)

-- ---- the step of two nodes
module _ (sig : Signature) (nodes : List Node) (store : IsStore sig nodes) (c : Contents) (m n : ℕ) (k : AreCongruentIn sig nodes c m n) where
  first_args : (p : Node) (xs : List ℕ) → slice_get nodes m ≡ Some p → xs ≡ p.args → xs ≡ (k.first).args
  first_args p xs at e = e ∙ ap (λ (q : Node). q.args) (same_Some p k.first (sym at ∙ k.first_there))

  second_args : (p : Node) (xs : List ℕ) → slice_get nodes n ≡ Some p → xs ≡ p.args → xs ≡ (k.second).args
  second_args p xs at e = e ∙ ap (λ (q : Node). q.args) (same_Some p k.second (sym at ∙ k.second_there))

  -- their arguments, read from the nodes
  pub same_read : (p q : Node) (xs ys : List ℕ) → slice_get nodes m ≡ Some p → slice_get nodes n ≡ Some q → xs ≡ p.args → ys ≡ q.args → AreSame sig (terms (shapes nodes)) c xs ys
  same_read p q xs ys f g d e =
      subst (λ (z : List ℕ × List ℕ). AreSame sig (terms (shapes nodes)) c z.0 z.1) (λ i. (sym (first_args p xs f d) i, sym (second_args q ys g e) i)) k.args

  pub congruent_read : (steps : List Step) (ids : List ℕ) (p q : Node) (xs ys : List ℕ) → slice_get nodes m ≡ Some p → slice_get nodes n ≡ Some q → xs ≡ p.args → ys ≡ q.args → AreEquated steps xs ys ids
      → AreCongruent (terms (shapes nodes)) steps m n ids
  congruent_read steps ids p q xs ys f g d e equal =
      congruent_nodes sig nodes store steps m n ids k.first k.second k.head k.first_there k.second_there k.first_head k.second_head k.sorts
      (subst (λ (z : List ℕ × List ℕ). AreEquated steps z.0 z.1 ids) (λ i. (first_args p xs f d i, second_args q ys g e i)) equal)
