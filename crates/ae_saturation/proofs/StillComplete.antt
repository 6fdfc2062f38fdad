-- What was complete for the first of the assumed literals is so for all of them, where the others are met.
use Rattle.std.specs.Prelude.{ℕ, ◌<◌, ◌≤◌, ◌⊎◌, Bool, true, false, List, [], ◌∷◌, ◌≡◌, map, length, slice_get, Some, IsTrue}
use Rattle.std.specs.List.{AllByRecursion, Contains}
use Rattle.std.proofs.Common.{refl, sym, ap, ◌∙◌, subst, arith, inl, inr, length-take}
use Rattle.std.proofs.lemmas.Bool.{cases_lt}
use Rattle.std.proofs.lemmas.List.{length-map}
use Rattle.std.proofs.lemmas.Option.{same_Some, slice_get_within}
use Rattle.ae_base.specs.Options.{◌>>=◌}
use Rattle.ae_base.specs.Relations.{Pairwise}
use Rattle.ae_base.proofs.ListFacts.{value_at as there}
use Rattle.ae_base.proofs.Tests.{true_false}
use Rattle.ae_core.specs.Sorts.{sort_of, formula_ok}
use Rattle.ae_core.specs.declared.formulas.Formula.{Eq, Pred}
use Rattle.ae_core.specs.declared.formulas.Lit.{Lit}
use Rattle.ae_core.specs.declared.problems.Signature.{Signature}
use Rattle.ae_core.specs.declared.terms.Head.TheVariants.{Symbol}
use Rattle.ae_core.specs.declared.terms.Sort.{Sort}
use Rattle.ae_core.specs.declared.terms.Term.{Term}
use Rattle.ae_num.specs.declared.forms.Value.{Value}
use Rattle.ae_rules.specs.Clauses.{is_true, is_false}
use Rattle.ae_journal.specs.Values.{Val, meaning}
use Rattle.ae_journal.specs.Systems.{Has, ValueOf, value_at}
use Rattle.ae_journal.specs.States.{AreSame, AllSame}
use Rattle.ae_journal.specs.States.AreSame.{itself, by_value}
use Rattle.ae_journal.specs.declared.systems.System.{System}
use Rattle.ae_journal.proofs.Splits.{contains_at}
use Rattle.ae_pmap.specs.Forest.{present}
use Rattle.ae_pmap.specs.Pairs.{found}
use Rattle.ae_store.specs.Stores.{Stored}
use Rattle.ae_store.specs.Terms.{named, HasOneName}
use Rattle.ae_store.specs.declared.nodes.Node.{Node}
use Rattle.ae_store.specs.declared.nodes.NodeHead.TheVariants.{Of}
use Rattle.ae_settled.specs.Held.{system_of}
use Rattle.ae_settled.specs.Met.{HasSides, Satisfies}
use Rattle.ae_settled.proofs.Nodes.{named_at}
use Rattle.ae_theory.specs.Names.{terms_in}
use Rattle.ae_theory.specs.Noting.{literals}
use Rattle.ae_conflicts.specs.declared.assumed.Assumed.{Assumed}
use Rattle.ae_value_table.specs.declared.patterns.Entry.{Entry}
use Rattle.ae_value_table.specs.Alike.{alike}
use Rattle.ae_value_table.specs.Table.{value_in, held, values}
use Rattle.ae_value_table.proofs.Least.{alike_itself}
use Rattle.ae_value_fitting.specs.Fitting.{system_in}
use Rattle.ae_literals.specs.declared.said.Said.{Said}
use Rattle.ae_literals.specs.declared.said.Said.TheVariants.{Equal, Atom, Other}
use Rattle.ae_literals.specs.Said.{Says, IsAtom}
use Rattle.ae_literals.proofs.NamedLiterals.{eq_parts, eq_no_pred, pred_parts}
use Rattle.ae_state.specs.declared.holding.Holding.{Holding}
use Rattle.ae_state.specs.Names.{assumed_in, system_now, terms_now}
use Rattle.ae_state.specs.Right.{IsRight}
use Rattle.ae_state.specs.Complete.{AreWellSorted, IsComplete}
use Rattle.ae_state.proofs.Alikeness.{alike_turned}
use Rattle.ae_turns.specs.Ending.{seen}
use Rattle.ae_turns.specs.Representing.{IsTaken}
use Rattle.ae_turns.proofs.Representatives.{alike_by, has_same}
use Rattle.ae_unmet.proofs.AtomArguments.{args_within}
use Rattle.ae_unmet.proofs.NamedLiterals.{have_names}
use Rattle.ae_unmet.proofs.SaidPlaces.{placed, place_of, said_at_place, lit_there}
use Rattle.ae_unmet.proofs.TakenNames.{taken_long, terms_long}
use Rattle.ae_saturation.specs.Lasting.{first_literals, IsCompleteFor, IsDenied, IsMet, AreMetFrom}
use Rattle.ae_saturation.proofs.FirstLiterals.{front_there, of_front}

-- ---- what is the same in either order
turned : (o : Holding) (ms ns : List ℕ) → Pairwise (λ m n. IsTrue (alike o.values m n)) ms ns → Pairwise (λ m n. IsTrue (alike o.values m n)) ns ms
turned o [] [] a = tt
turned o [] (n ∷ ns) a = absurd a
turned o (m ∷ ms) [] a = absurd a
turned o (m ∷ ms) (n ∷ ns) a = (alike_turned o.values m n a.0, turned o ms ns a.1)

module _ (o : Holding) (s : Stored) (t : IsTaken o s) where
  abbrev ls : List Lit
  ls = literals (assumed_in o)

  abbrev z : System
  z = system_in (terms_in s) o.values

  holds : IsRight o
  holds = (t.fits).right

  one_name : HasOneName (terms_in s)
  one_name = ((t.store).sound).one_name

  sorted_in : (u : Term) (sort : Sort) → sort_of o.signature u ≡ Some sort → sort_of s.signature u ≡ Some sort
  sorted_in u sort e = ap (λ (sig : Signature). sort_of sig u) ((t.fits).terms).signature ∙ e

  -- ---- names with their values
  shown_now : (n : ℕ) (u : Term) → slice_get (terms_in s) n ≡ Some u → slice_get (terms_now o) n ≡ Some u
  shown_now n u e = ap (λ (us : List Term). slice_get us n) t.all ∙ e

  in_store : (n : ℕ) (u : Term) → slice_get (terms_now o) n ≡ Some u → slice_get (terms_in s) n ≡ Some u
  in_store n u e = ap (λ (us : List Term). slice_get us n) (sym t.all) ∙ e

  name_at : (n : ℕ) (u : Term) → n < length s.nodes → named (terms_in s) n ≡ u → slice_get (terms_in s) n ≡ Some u
  name_at n u l e = named_at (terms_in s) n (let long : length (terms_in s) ≡ length s.nodes = terms_long o s t in omega (arith, l, long)) ∙ ap (λ (w : Term). Some w) e

  has_value : (n : ℕ) (u : Term) (sort : Sort) → slice_get (terms_in s) n ≡ Some u → sort_of s.signature u ≡ Some sort → (v : Val) × Has s.signature z sort v n
  has_value n u sort at sorted =
      let many : length (values o.values) ≡ o.values.taken =
      omega (arith, length-map (held o.values) (λ (x : Entry). value_in o.values x.pattern), length-take o.values.taken o.values.entries, holds.within) in
      let long : length (terms_in s) ≡ o.values.taken = terms_long o s t ∙ sym (taken_long o s t) in
      let w = there (values o.values) n (omega (arith, slice_get_within (terms_in s) n u at, many, long)) in
      (meaning w.0, record { term = u; is = at; sort = sorted; value = ap (λ x. x >>= (λ (v : Value). Some (meaning v))) w.1 })

  -- a value of a term is that of its name
  has_by : (n : ℕ) (u : Term) (sort : Sort) (v : Val) → slice_get (terms_in s) n ≡ Some u → sort_of s.signature u ≡ Some sort → ValueOf (system_now o) u v → Has s.signature z sort v n
  has_by n u sort v at sorted p =
      let same : p.0 ≡ n = one_name p.0 n u (in_store p.0 u p.1) at in
      record { term = u; is = at; sort = sorted; value = ap (value_at z) (sym same) ∙ p.2 }

  both_same : (m n : ℕ) (u w : Term) (sort : Sort) (v : Val) → slice_get (terms_in s) m ≡ Some u → slice_get (terms_in s) n ≡ Some w → sort_of s.signature u ≡ Some sort → sort_of s.signature w ≡ Some sort
      → ValueOf (system_now o) u v → ValueOf (system_now o) w v → IsTrue (alike o.values m n)
  both_same m n u w sort v e f a b p q = alike_by o s t sort v m n (has_by m u sort v e a p) (has_by n w sort v f b q)

  -- ---- names of terms that are the same
  same_pair : (m n : ℕ) {u w : Term} → AreSame o.signature (system_now o) u w → named (terms_in s) m ≡ u → named (terms_in s) n ≡ w → m < length s.nodes → n < length s.nodes → IsTrue (alike o.values m n)
  same_pair m n itself e f i j =
      let same : m ≡ n = one_name m n _ (name_at m _ i e) (name_at n _ j f) in
      subst (λ (k : ℕ). IsTrue (alike o.values m k)) same (alike_itself o.values m)
  same_pair m n (by_value sort v a b p q) e f i j = both_same m n _ _ sort v (name_at m _ i e) (name_at n _ j f) (sorted_in _ sort a) (sorted_in _ sort b) p q

  same_args : (ms ns : List ℕ) (us ws : List Term) → map (named (terms_in s)) ms ≡ us → map (named (terms_in s)) ns ≡ ws → AllByRecursion (λ a. a < length s.nodes) ms → AllByRecursion (λ a. a < length s.nodes) ns
      → AllSame o.signature (system_now o) us ws → Pairwise (λ m n. IsTrue (alike o.values m n)) ms ns
  same_args [] [] us ws e f i j h = tt
  same_args [] (n ∷ ns) [] [] e f i j h = absurd (let y : ◌≡◌ {A = List Term} (named (terms_in s) n ∷ map (named (terms_in s)) ns) [] = f in cc y)
  same_args [] (n ∷ ns) [] (w ∷ ws) e f i j h = absurd h
  same_args [] (n ∷ ns) (u ∷ us) ws e f i j h = absurd (let y : ◌≡◌ {A = List Term} [] (u ∷ us) = e in cc y)
  same_args (m ∷ ms) ns [] ws e f i j h = absurd (let y : ◌≡◌ {A = List Term} (named (terms_in s) m ∷ map (named (terms_in s)) ms) [] = e in cc y)
  same_args (m ∷ ms) ns (u ∷ us) [] e f i j h = absurd h
  same_args (m ∷ ms) [] (u ∷ us) (w ∷ ws) e f i j h = absurd (let y : ◌≡◌ {A = List Term} [] (w ∷ ws) = f in cc y)
  same_args (m ∷ ms) (n ∷ ns) (u ∷ us) (w ∷ ws) e f i j h =
      let a : named (terms_in s) m ≡ u = cc e in
      let b : named (terms_in s) n ≡ w = cc f in
      let c : map (named (terms_in s)) ms ≡ us = cc e in
      let d : map (named (terms_in s)) ns ≡ ws = cc f in
      (same_pair m n h.0 a b i.0 j.0, same_args ms ns us ws c d i.1 j.1 h.1)

  -- ---- a literal at its place
  record IsListed (x : Lit) : Type 0 where
    place : ℕ
    listed_at : slice_get ls place ≡ Some x
    below : place < o.next
    what : Said
    says : Says s x what
    said : found (present o.said) place ≡ Some what

  listed : (x : Lit) → Contains ls x → IsListed x
  listed x c =
      let w = place_of o holds x c in
      let p = placed o.next (present o.assumed) holds.numbered w.place w.below in
      let r = said_at_place s o t w.place w.below w.entry w.at in
      let same : (p.0).1 ≡ w.entry = same_Some (p.0).1 w.entry (sym (p.1).is ∙ w.at) in
      record {
        place = w.place;
        listed_at = lit_there o holds w.place p.0 (p.1).at ∙ ap (λ (a : Assumed). Some a.lit) same ∙ ap (λ (l : Lit). Some l) w.is;
        below = w.below;
        what = r.0;
        says = subst (λ (l : Lit). Says s l r.0) w.is r.1;
        said = r.2;
      }

  -- an equation, with the names of its sides
  record HasEquation (b : Bool) (u w : Term) : Type 0 where
    one : ℕ
    other : ℕ
    of : Sort
    one_at : slice_get (terms_in s) one ≡ Some u
    other_at : slice_get (terms_in s) other ≡ Some w
    one_sorted : sort_of s.signature u ≡ Some of
    other_sorted : sort_of s.signature w ≡ Some of
    answered : alike o.values one other ≡ b

  equation_by : (b : Bool) (u w : Term) → HasSides s.signature (system_of (seen o s [])) u w → (y : Said) → Says s (record { positive = b; formula = Eq u w }) y → IsMet s o y → HasEquation b u w
  equation_by b u w h (Equal d l r) k met =
      let sign : b ≡ d = ap (λ (x : Lit). x.positive) k.is in
      let parts = eq_parts u w k.left k.right (ap (λ (x : Lit). x.formula) k.is) in
      record {
        one = l;
        other = r;
        of = k.sort;
        one_at = k.left_at ∙ ap (λ (x : Term). Some x) (sym parts.0);
        other_at = k.right_at ∙ ap (λ (x : Term). Some x) (sym parts.1);
        one_sorted = ap (sort_of s.signature) parts.0 ∙ k.left_sorted;
        other_sorted = ap (sort_of s.signature) parts.1 ∙ k.right_sorted;
        answered = met ∙ sym sign;
      }
  equation_by b u w h (Atom d n) k met = absurd (eq_no_pred u w k.predicate k.sorts k.args (ap (λ (x : Lit). x.formula) k.is))
  equation_by b u w h Other k met =
      absurd (k.no_equation b h.left h.right (record {
        left = u;
        right = w;
        sort = h.sort;
        is = refl;
        left_at = h.left_is;
        right_at = h.right_is;
        left_sorted = h.left_sorted;
        right_sorted = h.right_sorted;
      }))

  -- an atom, with its name
  record HasAtom (b : Bool) (q : ℕ) (ss : List Sort) (us : List Term) (y : Said) : Type 0 where
    name : ℕ
    is_atom : y ≡ Atom b name
    node : Node
    node_at : slice_get s.nodes name ≡ Some node
    of_head : node.head ≡ Of (Symbol q)
    of_sorts : node.sorts ≡ ss
    of_args : map (named (terms_in s)) node.args ≡ us

  atom_by : (b : Bool) (q : ℕ) (ss : List Sort) (us : List Term) → (n : ℕ) × IsAtom s b (record { positive = b; formula = Pred q ss us }) n → (y : Said) → Says s (record { positive = b; formula = Pred q ss us }) y
      → HasAtom b q ss us y
  atom_by b q ss us h (Equal d l r) k = absurd (eq_no_pred k.left k.right q ss us (sym (ap (λ (x : Lit). x.formula) k.is)))
  atom_by b q ss us h (Atom d n) k =
      let sign : b ≡ d = ap (λ (x : Lit). x.positive) k.is in
      let parts = pred_parts q k.predicate ss k.sorts us k.args (ap (λ (x : Lit). x.formula) k.is) in
      record {
        name = n;
        is_atom = ap (λ (f : Bool). Atom f n) (sym sign);
        node = (k.of).node;
        node_at = (k.of).at;
        of_head = (k.of).head ∙ ap (λ (p : ℕ). Of (Symbol p)) (sym parts.0);
        of_sorts = (k.of).sorts_are ∙ sym parts.1;
        of_args = (k.of).args_are ∙ sym parts.2;
      }
  atom_by b q ss us h Other k = absurd (k.no_atom b h.0 h.1)

  -- ---- all literals
  module _ (count : ℕ) (before : IsCompleteFor count o) (met : AreMetFrom count s o) (well : AreWellSorted o) where
    first_well : (l : Lit) → Contains (first_literals count o) l → formula_ok o.signature l.formula ≡ true
    first_well l c = well l (of_front ls count l c)

    old : Satisfies o.signature (system_now o) (first_literals count o)
    old = before.satisfied first_well

    in_first : (x : Lit) (w : IsListed x) → w.place < count → Contains (first_literals count o) x
    in_first x w l = contains_at (first_literals count o) w.place x (front_there ls count w.place x l w.listed_at)

    met_there : (x : Lit) (w : IsListed x) → count ≤ w.place → IsMet s o w.what
    met_there x w l = met w.place w.what l w.below w.said

    equation_of : (b : Bool) (u w : Term) → Contains ls (record { positive = b; formula = Eq u w }) → (a : IsListed (record { positive = b; formula = Eq u w })) → count ≤ a.place → HasEquation b u w
    equation_of b u w c a l = equation_by b u w ((have_names s o [] t well).sides b u w c) a.what a.says (met_there (record { positive = b; formula = Eq u w }) a l)

    equal : (u w : Term) → Contains ls (is_true (Eq u w)) → (v : Val) × ValueOf (system_now o) u v × ValueOf (system_now o) w v
    equal u w c = by_place (listed (is_true (Eq u w)) c)
      where
        by_order : (a : IsListed (is_true (Eq u w))) → (a.place < count) ⊎ (count ≤ a.place) → (v : Val) × ValueOf (system_now o) u v × ValueOf (system_now o) w v
        by_order a (inl l) = old.equal u w (in_first (is_true (Eq u w)) a l)
        by_order a (inr l) =
            let q = equation_of true u w c a l in
            let v = has_value q.other w q.of q.other_at q.other_sorted in
            let h = has_same o s t q.of v.0 q.one q.other v.1 q.answered in
            (v.0, (q.one, shown_now q.one u q.one_at, h.value), (q.other, shown_now q.other w q.other_at, (v.1).value))

        by_place : IsListed (is_true (Eq u w)) → (v : Val) × ValueOf (system_now o) u v × ValueOf (system_now o) w v
        by_place a = by_order a (cases_lt a.place count)

    unequal : (u w : Term) (v : Val) → Contains ls (is_false (Eq u w)) → ValueOf (system_now o) u v → ValueOf (system_now o) w v → ⊥
    unequal u w v c x y = by_place (listed (is_false (Eq u w)) c)
      where
        by_order : (a : IsListed (is_false (Eq u w))) → (a.place < count) ⊎ (count ≤ a.place) → ⊥
        by_order a (inl l) = old.unequal u w v (in_first (is_false (Eq u w)) a l) x y
        by_order a (inr l) =
            let q = equation_of false u w c a l in
            true_false (sym (both_same q.one q.other u w q.of v q.one_at q.other_at q.one_sorted q.other_sorted x y) ∙ q.answered)

        by_place : IsListed (is_false (Eq u w)) → ⊥
        by_place a = by_order a (cases_lt a.place count)

    predicates : (q : ℕ) (ss : List Sort) (us ws : List Term) → Contains ls (is_true (Pred q ss us)) → Contains ls (is_false (Pred q ss ws)) → ¬ AllSame o.signature (system_now o) us ws
    predicates q ss us ws c d h = by_places (listed (is_true (Pred q ss us)) c) (listed (is_false (Pred q ss ws)) d)
      where
        yes_said : (a : IsListed (is_true (Pred q ss us))) → HasAtom true q ss us a.what
        yes_said a = atom_by true q ss us ((have_names s o [] t well).atoms true q ss us c) a.what a.says

        no_said : (e : IsListed (is_false (Pred q ss ws))) → HasAtom false q ss ws e.what
        no_said e = atom_by false q ss ws ((have_names s o [] t well).atoms false q ss ws d) e.what e.says

        alike_args : {y x : Said} (m : HasAtom true q ss us y) (n : HasAtom false q ss ws x) → Pairwise (λ i j. IsTrue (alike o.values i j)) (m.node).args (n.node).args
        alike_args m n =
            same_args (m.node).args (n.node).args us ws m.of_args n.of_args (args_within s t.store m.name m.node m.node_at) (args_within s t.store n.name n.node n.node_at) h

        denied : (a : IsListed (is_true (Pred q ss us))) (e : IsListed (is_false (Pred q ss ws))) → IsDenied s o true (yes_said a).name
        denied a e =
            let m = yes_said a in
            let n = no_said e in
            record {
              place = e.place;
              below = e.below;
              what = Atom false n.name;
              there = e.said ∙ ap (λ (y : Said). Some y) n.is_atom;
              denies = (
                refl,
                record {
                  first = m.node;
                  second = n.node;
                  first_at = m.node_at;
                  second_at = n.node_at;
                  same = record { head = Symbol q; first = m.of_head; second = n.of_head; sorts = m.of_sorts ∙ sym n.of_sorts; args = alike_args m n };
                },
              );
            }

        denied_too : (a : IsListed (is_true (Pred q ss us))) (e : IsListed (is_false (Pred q ss ws))) → IsDenied s o false (no_said e).name
        denied_too a e =
            let m = yes_said a in
            let n = no_said e in
            record {
              place = a.place;
              below = a.below;
              what = Atom true m.name;
              there = a.said ∙ ap (λ (y : Said). Some y) m.is_atom;
              denies = (
                refl,
                record {
                  first = n.node;
                  second = m.node;
                  first_at = n.node_at;
                  second_at = m.node_at;
                  same = record { head = Symbol q; first = n.of_head; second = m.of_head; sorts = n.of_sorts ∙ sym m.of_sorts; args = turned o (m.node).args (n.node).args (alike_args m n) };
                },
              );
            }

        by_order : (a : IsListed (is_true (Pred q ss us))) (e : IsListed (is_false (Pred q ss ws))) → (a.place < count) ⊎ (count ≤ a.place) → (e.place < count) ⊎ (count ≤ e.place) → ⊥
        by_order a e (inl l) (inl k) = old.predicates q ss us ws (in_first (is_true (Pred q ss us)) a l) (in_first (is_false (Pred q ss ws)) e k) h
        by_order a e (inr l) k = subst (IsMet s o) (yes_said a).is_atom (met_there (is_true (Pred q ss us)) a l) (denied a e)
        by_order a e (inl l) (inr k) = subst (IsMet s o) (no_said e).is_atom (met_there (is_false (Pred q ss ws)) e k) (denied_too a e)

        by_places : IsListed (is_true (Pred q ss us)) → IsListed (is_false (Pred q ss ws)) → ⊥
        by_places a e = by_order a e (cases_lt a.place count) (cases_lt e.place count)

    all_satisfied : Satisfies o.signature (system_now o) ls
    all_satisfied = record { equal = equal; unequal = unequal; constructors = old.constructors; predicates = predicates; whole = old.whole }

  pub all_complete : (count : ℕ) → IsCompleteFor count o → AreMetFrom count s o → IsComplete o
  all_complete count before met = record { completed = before.completed; satisfied = λ well. all_satisfied count before met well }
