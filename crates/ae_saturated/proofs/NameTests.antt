-- The tests of names say `true` exactly where the clauses of a saturated state on constructors, enumerations and integers hold.
use Rattle.std.specs.Prelude.{ℕ, Bool, true, false, not, ◌||◌, ◌≡◌, ◌↔◌, List, [], ◌∷◌, slice_get, Option, Some, None}
use Rattle.std.specs.List.{AllByRecursion, Contains}
use Rattle.std.proofs.lemmas.Bool.{or_left, or_right}
use Rattle.std.proofs.lemmas.Option.{same_Some}
use mathlib.Core.Path.{refl, sym, ap, subst, ◌∙◌}
use Rattle.ae_base.specs.Decided.{decided}
use Rattle.ae_base.specs.Options.{◌>>=◌, only, or_else}
use Rattle.ae_base.proofs.Decided.{decided_not, decided_of, decided_yes}
use Rattle.ae_base.proofs.Options.{bind_some, never_some}
use Rattle.ae_core.specs.Decided.{Head_discrete, Sort_discrete}
use Rattle.ae_core.specs.Sorts.{sort_of}
use Rattle.ae_core.specs.declared.problems.Nature.{Nature}
use Rattle.ae_core.specs.declared.problems.Nature.TheVariants.{Free, Ac, Choice}
use Rattle.ae_core.specs.declared.problems.Signature.{Signature}
use Rattle.ae_core.specs.declared.problems.SymbolEntry.{SymbolEntry}
use Rattle.ae_core.specs.declared.terms.Head.{Head}
use Rattle.ae_core.specs.declared.terms.Head.TheVariants as head
use Rattle.ae_core.specs.declared.terms.Sort.{Sort, Int, out-Sort}
use Rattle.ae_core.specs.declared.terms.Term.{Term, Term-F, Apply, out-Term}
use Rattle.ae_core.specs.declared.terms.Term.TheOpen as layer
use Rattle.ae_core.specs.declared.terms.Term.TheVariants.{outs-Apply}
use Rattle.ae_rules.specs.Derivations.{IsConstructor}
use Rattle.ae_rules.specs.Instances.{choices_of}
use Rattle.ae_num.specs.Forms.{IsNormal}
use Rattle.ae_num.specs.declared.forms.Lin.{Lin}
use Rattle.ae_num.specs.declared.forms.Value.{Value, Value-F, Number, out-Value, roll-Value, roll-out-Value}
use Rattle.ae_num.specs.declared.forms.Value.TheOpen as value_layer
use Rattle.ae_num.specs.declared.forms.Value.TheVariants.{outs-Number, rolls-Number}
use Rattle.ae_journal.specs.Values.{Val, meaning}
use Rattle.ae_journal.specs.Systems.{Has, IsName, IsNormalValue, ValueOf, forms_in}
use Rattle.ae_journal.specs.declared.systems.System.{System}
use Rattle.ae_decide.specs.Clauses.{HasTerms, HasLeaves}
use Rattle.ae_decide.specs.Values.{are_alike, place_from, value_of}
use Rattle.ae_decide.proofs.NameTests.{is_application}
use Rattle.ae_decide.proofs.NormalValues.{forms-roll}
use Rattle.ae_decide.proofs.ValueTests.{alike_of, of_alike, by_implied, implied, has_written, written_at, value_here, value_is}
use Rattle.ae_system_checks.specs.Whole.{IsWhole}
use Rattle.ae_system_checks.proofs.WholeValues.{decide_whole}
use Rattle.ae_saturated.specs.Names.{is_choice, is_constructor, constructor_by, constructor_of, same_if_both, are_apart, is_one_of, choices_at, is_exhausted, is_int, is_whole_by, is_whole, has_whole}
use Rattle.ae_base.proofs.Tests.{false_true}
use Rattle.ae_saturated.proofs.Elements.{any_tells, by_any}

-- the form of a value of a system is normal
forms_number : (f : Lin) → forms_in (Number f) ≡ f ∷ []
forms_number f = ap forms_in (sym (rolls-Number f)) ∙ forms-roll (value_layer.Number f)

pub normal_number : (f : Lin) → IsNormalValue (Number f) → IsNormal f
normal_number f n = (subst (AllByRecursion IsNormal) (forms_number f) n).0

pub normal_value : (sig : Signature) (y : System) (t : Term) (v : Value) → HasLeaves sig y → value_of y t ≡ Some v → IsNormalValue v
normal_value sig y t v leaves e =
    let (m, a, b) = bind_some (place_from 0 y.names t) (λ m. slice_get y.values m) v e in leaves.normal m v b

-- a test that follows a property is its decision
pub same_as : {P : Type 0} (d : Dec P) (b : Bool) → (b ≡ true) ↔ P → b ≡ decided d
same_as d true e = sym (decided_of d (e.0 refl))
same_as d false e = sym (decided_not d (λ p. false_true (e.1 p)))

-- ---- constructors
constructor_tells : (sig : Signature) (h : Head) → is_constructor sig h ≡ true → IsConstructor sig h
constructor_tells sig (head.Symbol n) e = by_entry (slice_get sig.symbols n) refl e
  where
    by_entry : (o : Option SymbolEntry) → slice_get sig.symbols n ≡ o → or_else (o >>= λ e. Some (is_choice e.nature)) false ≡ true → IsConstructor sig (head.Symbol n)
    by_entry (Some x) i e = nature x.nature refl e
      where
        nature : (m : Nature) → x.nature ≡ m → is_choice m ≡ true → IsConstructor sig (head.Symbol n)
        nature Free q e = absurd (cc)
        nature Ac q e = absurd (cc)
        nature (Choice of place) q e = (x, of, place, i, q)
    by_entry None i e = absurd (cc)
constructor_tells sig head.True e = tt
constructor_tells sig head.False e = tt
constructor_tells sig head.Void e = tt
constructor_tells sig (head.Build n) e = absurd (cc)
constructor_tells sig (head.Field n i) e = absurd (cc)
constructor_tells sig (head.Int o) e = absurd (cc)
constructor_tells sig (head.Real o) e = absurd (cc)

by_constructor : (sig : Signature) (h : Head) → IsConstructor sig h → is_constructor sig h ≡ true
by_constructor sig (head.Symbol n) (x, of, place, i, q) =
    ap (λ (o : Option SymbolEntry). or_else (o >>= λ e. Some (is_choice e.nature)) false) i ∙ ap is_choice q
by_constructor sig head.True c = refl
by_constructor sig head.False c = refl
by_constructor sig head.Void c = refl
by_constructor sig (head.Build n) c = absurd c
by_constructor sig (head.Field n i) c = absurd c
by_constructor sig (head.Int o) c = absurd c
by_constructor sig (head.Real o) c = absurd c

constructor_at : (sig : Signature) (h : Head) → IsConstructor sig h → constructor_of sig (Apply h [] []) ≡ Some h
constructor_at sig h c = ap (constructor_by sig) (outs-Apply h [] []) ∙ ap (λ b. only b (Some h)) (by_constructor sig h c)

constructor_told : (sig : Signature) (t : Term) (h : Head) → constructor_of sig t ≡ Some h → (t ≡ Apply h [] []) × IsConstructor sig h
constructor_told sig t h e = go (out-Term t) refl e
  where
    told : (i : Head) → out-Term t ≡ layer.Apply i [] [] → (b : Bool) → is_constructor sig i ≡ b → only b (Some i) ≡ Some h → (t ≡ Apply h [] []) × IsConstructor sig h
    told i d true q f =
        let z = same_Some i h f in
        (subst (λ k. t ≡ Apply k [] []) z (is_application t i [] [] d), subst (IsConstructor sig) z (constructor_tells sig i q))
    told i d false q f = never_some h f

    go : (l : Term-F Term) → out-Term t ≡ l → constructor_by sig l ≡ Some h → (t ≡ Apply h [] []) × IsConstructor sig h
    go (layer.Apply i [] []) d f = told i d (is_constructor sig i) refl f
    go (layer.Apply i [] (u ∷ us)) d f = never_some h f
    go (layer.Apply i (s ∷ ss) us) d f = never_some h f
    go (layer.Bound n) d f = never_some h f
    go (layer.Num a b r) d f = never_some h f
    go (layer.Fresh n s) d f = never_some h f

undone : (b c : Bool) → b || not c ≡ true → c ≡ true → b ≡ true
undone true c e f = refl
undone false true e f = absurd (cc)
undone false false e f = absurd (cc)

module _ (sig : Signature) (y : System) (terms : HasTerms sig y) (leaves : HasLeaves sig y) where
  pub constructors_tell : (h i : Head) (v : Val) → are_apart sig y (Apply h [] []) (Apply i [] []) ≡ true → IsConstructor sig h → IsConstructor sig i
      → ValueOf y (Apply h [] []) v → ValueOf y (Apply i [] []) v → h ≡ i
  constructors_tell h i v e c d a b =
      let f = undone (same_if_both (constructor_of sig (Apply h [] [])) (constructor_of sig (Apply i [] []))) (are_alike y (Apply h [] []) (Apply i [] [])) e
      (alike_of y terms.apart leaves.normal (Apply h [] []) (Apply i [] []) v a b) in
      decided_yes (Head_discrete h i) (sym (λ j. same_if_both (constructor_at sig h c j) (constructor_at sig i d j)) ∙ f)

  pub by_constructors : ((h i : Head) (v : Val) → IsConstructor sig h → IsConstructor sig i → ValueOf y (Apply h [] []) v → ValueOf y (Apply i [] []) v → h ≡ i)
      → (t u : Term) → are_apart sig y t u ≡ true
  by_constructors f t u = go (constructor_of sig t) (constructor_of sig u) refl refl
    where
      go : (o k : Option Head) → constructor_of sig t ≡ o → constructor_of sig u ≡ k → same_if_both o k || not (are_alike y t u) ≡ true
      go (Some h) (Some i) a b = by_alike (are_alike y t u) refl
        where
          by_alike : (c : Bool) → are_alike y t u ≡ c → decided (Head_discrete h i) || not c ≡ true
          by_alike true q =
              let x = constructor_told sig t h a in
              let z = constructor_told sig u i b in
              let (v, m, n) = of_alike y terms.apart t u q in
              or_left _ _ (decided_of (Head_discrete h i) (f h i v x.1 z.1 (subst (λ w. ValueOf y w v) x.0 m) (subst (λ w. ValueOf y w v) z.0 n)))
          by_alike false q = or_right (decided (Head_discrete h i)) _ refl
      go (Some h) None a b = refl
      go None (Some i) a b = refl
      go None None a b = refl

  -- ---- enumerations
  abbrev IsExhausted : Type 0
  IsExhausted =
      (s : Sort) (v : Val) (n : ℕ) (hs : List Head) → Has sig y s v n → choices_of sig (out-Sort s) ≡ Some hs
      → (h : Head) × Contains hs h × ValueOf y (Apply h [] []) v

  pub exhausted_tells : (s : Sort) (v : Val) (n : ℕ) (hs : List Head) (x : Has sig y s v n) → is_exhausted sig y x.term ≡ true
      → choices_of sig (out-Sort s) ≡ Some hs → (h : Head) × Contains hs h × ValueOf y (Apply h [] []) v
  exhausted_tells s v n hs x e c =
      let at : choices_at sig (sort_of sig x.term) ≡ Some hs = ap (choices_at sig) x.sort ∙ c in
      let (h, i, q) = any_tells (λ h. are_alike y (Apply h [] []) x.term) hs (sym (ap (is_one_of y x.term) at) ∙ e) in
      let (w, a, b) = of_alike y terms.apart (Apply h [] []) x.term q in
      (h, i, subst (ValueOf y (Apply h [] [])) (same_Some w v (sym (value_here y terms.apart n x.term w x.is b) ∙ x.value)) a)

  pub by_exhausted : IsExhausted → (n : ℕ) (t : Term) → IsName y n t → is_exhausted sig y t ≡ true
  by_exhausted f n t i = go (sort_of sig t) refl
    where
      chosen : (s : Sort) → sort_of sig t ≡ Some s → (o : Option (List Head)) → choices_of sig (out-Sort s) ≡ o → is_one_of y t o ≡ true
      chosen s e (Some hs) c =
          let (w, x) = has_written y terms.values n t i in
          let here = written_at y n w x in
          let (h, j, a) = f s (meaning w) n hs (record { term = t; is = i; sort = e; value = here }) c in
          by_any (λ h. are_alike y (Apply h [] []) t) hs h j (alike_of y terms.apart leaves.normal (Apply h [] []) t (meaning w) a (n, i, here))
      chosen s e None c = refl

      go : (o : Option Sort) → sort_of sig t ≡ o → is_one_of y t (choices_at sig o) ≡ true
      go (Some s) e = chosen s e (choices_of sig (out-Sort s)) refl
      go None e = refl

  -- ---- integers
  abbrev AreWhole : Type 0
  AreWhole =
      (n : ℕ) (t : Term) → IsName y n t → sort_of sig t ≡ Some Int → (w : Value) → slice_get y.values n ≡ Some w → (f : Lin) → w ≡ Number f → IsWhole f

  pub whole_tells : (n : ℕ) (t : Term) → IsName y n t → has_whole sig y t ≡ true → sort_of sig t ≡ Some Int → (w : Value) → slice_get y.values n ≡ Some w
      → (f : Lin) → w ≡ Number f → IsWhole f
  whole_tells n t i e s w x f q =
      let int : is_int (sort_of sig t) ≡ true = ap is_int s ∙ decided_of (Sort_discrete Int Int) refl in
      let whole = by_implied (is_int (sort_of sig t)) (is_whole (value_of y t)) e int in
      let at : value_of y t ≡ Some (Number f) = value_is y terms.apart n t i ∙ x ∙ ap (λ (v : Value). Some v) q in
      decided_yes (decide_whole f) (sym (ap is_whole at ∙ ap is_whole_by (outs-Number f)) ∙ whole)

  pub by_whole : AreWhole → (n : ℕ) (t : Term) → IsName y n t → has_whole sig y t ≡ true
  by_whole g n t i = implied (is_int (sort_of sig t)) (is_whole (value_of y t)) (λ e. of_int (sort_of sig t) refl e)
    where
      number : sort_of sig t ≡ Some Int → (w : Value) → slice_get y.values n ≡ Some w → (k : Value-F Value) → out-Value w ≡ k → is_whole_by k ≡ true
      number s w x (value_layer.Number f) e = decided_of (decide_whole f) (g n t i s w x f (sym (roll-out-Value w) ∙ ap roll-Value e ∙ rolls-Number f))
      number s w x (value_layer.Leaf k) e = refl
      number s w x (value_layer.Fields vs) e = refl

      of_int : (o : Option Sort) → sort_of sig t ≡ o → is_int o ≡ true → is_whole (value_of y t) ≡ true
      of_int (Some s) e q =
          let (w, x) = has_written y terms.values n t i in
          ap is_whole (value_is y terms.apart n t i ∙ x)
          ∙ number (e ∙ ap (λ (r : Sort). Some r) (decided_yes (Sort_discrete s Int) q)) w x (out-Value w) refl
      of_int None e q = absurd (cc)
