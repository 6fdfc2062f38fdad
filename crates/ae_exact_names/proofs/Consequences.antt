-- Names that are the same are equal by consequence of the equations that are assumed.
use Rattle.std.specs.Prelude.{ℕ, ℤ, ◌<◌, ◌≡◌, zero, suc, Bool, true, false, List, [], ◌∷◌, ◌==◌, if◌then◌else◌, length, get_or, nat_eq, IsTrue, Option, Some, None}
use Rattle.std.proofs.Common.{refl, sym, ap, ◌∙◌, subst, arith}
use Rattle.std.proofs.lemmas.Bool.{eqb-true, eqb-false}
use Rattle.std.proofs.lemmas.List.{length-map}
use Rattle.std.proofs.lemmas.Option.{none-some, same_Some}
use Rattle.ae_base.proofs.Tests.{by_bool}
use Rattle.ae_base.specs.Options.{known, or_else}
use Rattle.ae_conflicts.specs.Saying.{tagged, RestsOnAssumed}
use Rattle.ae_conflicts.specs.declared.assumed.Assumed.{Assumed}
use Rattle.ae_core.proofs.SortFacts.{same_known_is, same_known_of}
use Rattle.ae_core.specs.Putting.{put_sort}
use Rattle.ae_core.specs.Sorts.{sort_of}
use Rattle.ae_core.specs.declared.formulas.Lit.{Lit}
use Rattle.ae_core.specs.declared.problems.FieldEntry.{FieldEntry}
use Rattle.ae_core.specs.declared.problems.Signature.{Signature}
use Rattle.ae_core.specs.declared.terms.Sort.{Sort, Named}
use Rattle.ae_core.specs.declared.terms.Term.{Term}
use Rattle.ae_equal_steps.specs.Inner.Pairs.{AreSameNumbers, AreSameLeaves, IsPair, ArePairs}
use Rattle.ae_equal_steps.specs.Inner.Parts.{name_of, parts_of}
use Rattle.ae_equal_steps.proofs.Alike.{known_alike, held_pair, held_name}
use Rattle.ae_equal_steps.proofs.PairLaws.{IsMadeOf, a_number, a_record, a_leaf, made_of, numbers_pair, leaves_pair, records_pair, ArePlaced, AreRecords}
use Rattle.ae_equal_steps.proofs.PatternLaws.{fields_fall, part_falls}
use Rattle.ae_evaluation.specs.Consequences.{Stated}
use Rattle.ae_exact_names.specs.Exact.{assumed_of, AreOfOneSort, SameIsConsequence, SameIsPlainConsequence}
use Rattle.ae_exact_names.proofs.FollowingBy.{follows_within}
use Rattle.ae_exact_names.proofs.PlainSides.{plain_fact, plain_name, plain_names_make_plain_steps, plain_sums}
use Rattle.ae_exact_names.proofs.StatedNumbers.{AreSides, state_equal}
use Rattle.ae_just.specs.Sides.{side_term, sum_of}
use Rattle.ae_just.specs.Steps.{Fits}
use Rattle.ae_just.specs.declared.steps.Side.TheVariants as side
use Rattle.ae_just.specs.declared.steps.Step.{Step}
use Rattle.ae_just.specs.declared.steps.Times.{Times}
use Rattle.ae_pmap.specs.Forest.{present}
use Rattle.ae_pmap.specs.Pairs.{found}
use Rattle.ae_rules.specs.Linear.{is_plain}
use Rattle.ae_rules.specs.Lines.{Fact, equal, fact_ok, plain_ok, fields_from, Among, Equations, Follows, by_refl, by_sym, by_trans, by_fields, FollowAll, none, more}
use Rattle.ae_settled.specs.Valued.{AreValues}
use Rattle.ae_state.specs.declared.holding.Holding.{Holding}
use Rattle.ae_state_steps.specs.ValueSteps.{LeafStep, AlikeStep, StatesEqual}
use Rattle.ae_store.proofs.FieldLaws.{named_back}
use Rattle.ae_store.specs.Stores.{Stored}
use Rattle.ae_store.specs.Terms.{named}
use Rattle.ae_theory.specs.Names.{terms_in}
use Rattle.ae_theory.specs.Noting.{literals}
use Rattle.ae_turns.specs.Representing.{IsTaken}
use Rattle.ae_value_fitting.specs.Fitting.{system_in, ArePatterns}
use Rattle.ae_value_fitting.specs.Sources.{by_leaf}
use Rattle.ae_value_table.specs.Alike.{alike}
use Rattle.ae_value_table.specs.Table.{Contents, held, leaf_at}
use Rattle.ae_value_table.specs.declared.patterns.Pattern.{Pattern, Fields, size-Pattern}
use Rattle.ae_value_turns.proofs.TakenNames.{patterns_are, values_are, steps_are, said_are, grounded_are}

-- a literal that is assumed at a place is one of those that are assumed
among_later : (x : Lit) (ls : List Lit) (l : Lit) → Among ls l → Among (x ∷ ls) l
among_later x ls l a = (suc a.0, a.1)

among_by : (b : Bool) (x : Assumed) (ls : List Lit) (e : Assumed) (q : Option Assumed) → (q ≡ Some e → Among ls e.lit) → (if b then Some x else q) ≡ Some e → Among (x.lit ∷ ls) e.lit
among_by true x ls e q later f = subst (λ (y : Assumed). Among (x.lit ∷ ls) y.lit) (same_Some x e f) (0, refl)
among_by false x ls e q later f = among_later x.lit ls e.lit (later f)

among_there : (held : List (ℕ × Assumed)) (place : ℕ) (e : Assumed) → found held place ≡ Some e → Among (literals (tagged held)) e.lit
among_there [] place e f = absurd (none-some e f)
among_there (p ∷ held) place e f = among_by (p.0 == place) p.1 (literals (tagged held)) e (found held place) (among_there held place e) f

-- what is so of all names and sums, and so allows their facts
module _ (leaf : LeafStep) (same_value : AlikeStep) (o : Holding) (s : Stored) (t : IsTaken o s) (ok : Fact → Bool) (P : Term → Type 0)
    (okay : (u w : Term) → P u → P w → fact_ok s.signature (equal u w) ≡ true → ok (equal u w) ≡ true) (names : (n : ℕ) → P (named (terms_in s) n))
    (sums : (real : Bool) (ps : List Times) (z : ℤ) → P (sum_of real (terms_in s) ps z)) (sides : AreSides P (terms_in s) o.justs) where
  abbrev sig : Signature
  sig = s.signature

  abbrev ts : List Term
  ts = terms_in s

  abbrev c : Contents
  c = o.values

  abbrev E : Term → Term → Type 0
  E = Stated (assumed_of o)

  patterns : ArePatterns sig ts (held c)
  patterns = patterns_are o s t

  all : AreValues sig (system_in ts c)
  all = values_are o s t

  -- the equation of two names follows
  abbrev AreEqual : ℕ → ℕ → Type 0
  AreEqual m n = Follows sig ok (Equations E) (equal (named ts m) (named ts n))

  names_okay : (m n : ℕ) (r : Sort) → sort_of sig (named ts m) ≡ Some r → sort_of sig (named ts n) ≡ Some r → ok (equal (named ts m) (named ts n)) ≡ true
  names_okay m n r e f =
      okay (named ts m) (named ts n) (names m) (names n) (same_known_of (sort_of sig (named ts m)) (sort_of sig (named ts n)) (ap known e) (e ∙ sym f))

  by_step : (steps : List Step) → Fits sig ts steps → AreSides P ts steps → (id m n : ℕ) → StatesEqual steps id m n → RestsOnAssumed ts steps (present o.assumed) id → AreEqual m n
  by_step steps fits all_sides id m n e r =
      follows_within sig ok (Equations E) ts steps fits
      (λ k p at. let w = all_sides k p at in okay (side_term ts p.left) (side_term ts p.right) w.0 w.1 (fits.allowed.each k p at).sorted) id
      (record { left = side.Name m; right = side.Name n; rule = e.by }) e.there (record {
        each = λ k tag st q at is.
            let w = r.each k tag st q at is in
            (side_term ts st.left, side_term ts st.right, subst (Among (assumed_of o)) ((w.1).lit_is) (among_there (present o.assumed) w.0 (w.1).entry (w.1).at), refl);
      })

  -- ---- numbers
  by_numbers : (m n : ℕ) → AreSameNumbers sig ts c m n → AreEqual m n
  by_numbers m n same =
      let a = state_equal leaf same_value sig ts (present o.assumed) c P names sums patterns all o.justs (steps_are o s t) sides (said_are o s t) (grounded_are o s t) m n same in
      by_step a.steps a.fits a.sides a.id m n a.states a.rests

  -- ---- leaves
  record IsOwnLeaf (n : ℕ) (r : Sort) (k : ℕ) : Type 0 where
    pub sorted : sort_of sig (named ts k) ≡ Some r
    pub follows : AreEqual n k

  own_leaf : (n : ℕ) (r : Sort) → sort_of sig (named ts n) ≡ Some r → (q : Option ℕ) → found (present c.leaves) n ≡ q → IsOwnLeaf n r (or_else q n)
  own_leaf n r sorted None at = record { sorted = sorted; follows = by_refl (names_okay n n r sorted sorted) }
  own_leaf n r sorted (Some m) at =
      let a = (said_are o s t).leaves n m at in
      let one = same_known_is (sort_of sig (named ts n)) (sort_of sig (named ts m)) ((steps_are o s t).allowed.each a.step _ (a.equal).there).sorted in
      record {
        sorted = sym one.1 ∙ sorted;
        follows = by_step o.justs (steps_are o s t) sides a.step n m a.equal (grounded_are o s t a.step (record { name = n; put = by_leaf m at; just = a.just }));
      }

  by_leaves : (m n : ℕ) → AreSameLeaves sig ts c m n → AreEqual m n
  by_leaves m n same =
      let first : IsOwnLeaf m same.sort (leaf_at c m) = own_leaf m same.sort same.left (found (present c.leaves) m) refl in
      let second : IsOwnLeaf n same.sort (leaf_at c n) = own_leaf n same.sort same.right (found (present c.leaves) n) refl in
      let other : IsOwnLeaf n same.sort (leaf_at c m) = subst (IsOwnLeaf n same.sort) (sym same.same) second in
      let turned : AreEqual (leaf_at c m) n = by_sym other.follows (names_okay (leaf_at c m) n same.sort other.sorted same.right) in
      by_trans first.follows turned (names_okay m n same.sort same.left same.right)

  -- ---- records
  abbrev Placed : List Sort → List Term → List Pattern → Type 0
  Placed = ArePlaced sig s.nodes c t.store patterns all

  abbrev Records : ℕ → ℕ → List Pattern → List Pattern → Type 0
  Records = AreRecords sig s.nodes c t.store patterns all

  -- what holds of smaller pairs
  abbrev Below : ℕ → Type 0
  Below d = (p q : Pattern) → size-Pattern p < d → IsPair sig ts c p q → AreEqual (name_of p) (name_of q)

  abbrev AreSmall : ℕ → List Pattern → Type 0
  AreSmall d ps = (i : ℕ) (p : Pattern) → i < length ps → p ≡ get_or ps i p → size-Pattern p < d

  follow_all : (d : ℕ) → Below d → (ss : List Sort) (us ws : List Term) (ps qs : List Pattern) → AreSmall d ps → Placed ss us ps → Placed ss ws qs → ArePairs sig ts c ps qs → FollowAll sig ok (Equations E) us ws
  follow_all d below [] [] [] [] [] small a b h = none
  follow_all d below (r ∷ ss) (u ∷ us) (w ∷ ws) (p ∷ ps) (q ∷ qs) small a b h =
      let first : AreEqual (name_of p) (name_of q) = below p q (small 0 p (omega arith) refl) h.0 in
      let moved : Follows sig ok (Equations E) (equal u w) = subst (λ (x : Term × Term). Follows sig ok (Equations E) (equal x.0 x.1)) (λ i. ((a.0).term i, (b.0).term i)) first in
      more moved (follow_all d below ss us ws ps qs (λ i x l e. small (suc i) x (omega (arith, l)) e) a.1 b.1 h.1)
  follow_all d below [] (u ∷ us) ws ps qs small a b h = absurd a
  follow_all d below [] [] ws (p ∷ ps) qs small a b h = absurd a
  follow_all d below [] [] (w ∷ ws) [] qs small a b h = absurd b
  follow_all d below [] [] [] [] (q ∷ qs) small a b h = absurd b
  follow_all d below (r ∷ ss) [] ws ps qs small a b h = absurd a
  follow_all d below (r ∷ ss) (u ∷ us) ws [] qs small a b h = absurd a
  follow_all d below (r ∷ ss) (u ∷ us) [] (p ∷ ps) qs small a b h = absurd b
  follow_all d below (r ∷ ss) (u ∷ us) (w ∷ ws) (p ∷ ps) [] small a b h = absurd b

  by_records : (d : ℕ) → Below d → (k n : ℕ) (ps qs : List Pattern) → AreSmall d ps → Records k n ps qs → AreEqual k n
  by_records d below k n ps qs small r =
      let i = r.record_is in
      let named_sort : Named i.type i.sorts ≡ r.sort = named_back r.sort i.type i.sorts i.out in
      let many : length r.sorts ≡ length i.fields = ap length i.are ∙ length-map i.fields (λ (f : FieldEntry). put_sort i.sorts f.sort) in
      let left : sort_of sig (named ts k) ≡ Some (Named i.type i.sorts) = r.left ∙ ap (λ (x : Sort). Some x) (sym named_sort) in
      let right : sort_of sig (named ts n) ≡ Some (Named i.type i.sorts) = r.right ∙ ap (λ (x : Sort). Some x) (sym named_sort) in
      let us : List Term = fields_from i.type i.sorts (named ts k) 0 (length r.sorts) in
      let ws : List Term = fields_from i.type i.sorts (named ts n) 0 (length r.sorts) in
      let fields : FollowAll sig ok (Equations E) us ws = follow_all d below r.sorts us ws ps qs small r.lefts r.rights r.pairs in
      by_fields i.type i.sorts i.entry i.fields i.at i.kind (left, right)
      (subst (λ (m : ℕ). FollowAll sig ok (Equations E) (fields_from i.type i.sorts (named ts k) 0 m) (fields_from i.type i.sorts (named ts n) 0 m)) many fields)
      (names_okay k n r.sort r.left r.right)

  -- ---- patterns
  smaller : (d : ℕ) (p : Pattern) (n : ℕ) (ps : List Pattern) → size-Pattern p < suc d → p ≡ Fields n ps → AreSmall d ps
  smaller d p n ps l is i x k e = let a = part_falls ps i x k e in let b = fields_fall p n ps ps is refl in omega (arith, a, b, l)

  by_made : (d : ℕ) → Below d → (p q : Pattern) → size-Pattern p < suc d → (pair : IsPair sig ts c p q) → IsMadeOf sig s.nodes c t.store patterns all pair.sort p (name_of p)
      → AreEqual (name_of p) (name_of q)
  by_made d below p q l pair (a_number real e h) = by_numbers (name_of p) (name_of q) (numbers_pair sig s.nodes c t.store patterns all p q (name_of p) pair h)
  by_made d below p q l pair (a_record ss ps f h hs) =
      by_records d below (name_of p) (name_of q) ps (parts_of q) (smaller d p (name_of p) ps l h) (records_pair sig s.nodes c t.store patterns all p q (name_of p) ps pair h)
  by_made d below p q l pair (a_leaf h) = by_leaves (name_of p) (name_of q) (leaves_pair sig s.nodes c t.store patterns all p q (name_of p) pair h)

  by_pair : (d : ℕ) → Below d
  by_pair zero p q l pair = absurd (omega (arith, l))
  by_pair (suc d) p q l pair = by_made d (by_pair d) p q l pair (made_of sig s.nodes c t.store patterns all pair.sort p (name_of p) pair.left)

  -- ---- names
  pub names_equal : (m n : ℕ) → AreOfOneSort s m n → IsTrue (alike c m n) → AreEqual m n
  names_equal m n one h =
      by_bool (nat_eq m n) (λ e. subst (AreEqual m) (eqb-true m n e) (by_refl (names_okay m m one.sort one.left one.left))) by_difference
    where
      by_difference : nat_eq m n ≡ false → AreEqual m n
      by_difference f =
          let a = known_alike c m n (eqb-false m n f) h in
          let k : known (sort_of sig (named ts m)) ≡ true = ap known one.left in
          let l : known (sort_of sig (named ts n)) ≡ true = ap known one.right in
          let left = held_name sig s.nodes c t.store patterns all m a.first a.first_there k in
          let right = held_name sig s.nodes c t.store patterns all n a.second a.second_there l in
          subst (λ (x : ℕ × ℕ). AreEqual x.0 x.1) (λ i. (left i, right i))
          (by_pair (suc (size-Pattern a.first.pattern)) a.first.pattern a.second.pattern (omega arith) (held_pair sig s.nodes c t.store patterns all m n a k l))

pub same_is_consequence : LeafStep → AlikeStep → SameIsConsequence
same_is_consequence leaf same_value o s t m n one h =
    names_equal leaf same_value o s t (fact_ok s.signature) (λ u. Unit {0}) (λ u w p q e. e) (λ k. tt) (λ real ps z. tt) (λ id p at. (tt, tt)) m n one h

pub same_is_plain_consequence : LeafStep → AlikeStep → SameIsPlainConsequence
same_is_plain_consequence leaf same_value o s t plain m n one h =
    names_equal leaf same_value o s t (plain_ok s.signature) (λ u. is_plain u ≡ true) (plain_fact s.signature) (plain_name (terms_in s) plain) (plain_sums (terms_in s) plain)
    (plain_names_make_plain_steps s.signature (terms_in s) o.justs (steps_are o s t) plain) m n one h
