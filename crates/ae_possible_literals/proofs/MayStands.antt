-- What may stand is reached.
use Rattle.std.specs.Prelude.{ℕ, Bool, true, false, not, List, [], ◌∷◌, ◌≡◌, ◌≢◌, ◌⊎◌, ◌<◌, length, map, Option, Some, None}
use Rattle.std.specs.List.{AllByRecursion, Contains}
use Rattle.std.proofs.Common.{refl, sym, ap, ◌∙◌, subst, arith, inl, inr}
use Rattle.std.proofs.lemmas.Option.{same_Some}
use Rattle.ae_base.proofs.Options.{bind_some, never_some, when_some}
use Rattle.ae_base.specs.Options.{◌>>=◌}
use Rattle.ae_core.specs.Putting.{put_formula}
use Rattle.ae_core.specs.Sorts.{sort_of, same_numeric}
use Rattle.ae_core.specs.declared.formulas.Formula.{Formula, Formula-F, Eq, Lt, out-Formula}
use Rattle.ae_core.specs.declared.formulas.Formula.TheOpen as layer
use Rattle.ae_core.specs.declared.formulas.Formula.TheVariants.{outs-Eq, outs-Lt}
use Rattle.ae_core.specs.declared.formulas.Lit.{Lit}
use Rattle.ae_core.specs.declared.formulas.Quant.{Quant}
use Rattle.ae_core.specs.declared.problems.Signature.{Signature}
use Rattle.ae_core.specs.declared.terms.Sort.{out-Sort}
use Rattle.ae_core.specs.declared.terms.Term.{Term, Apply}
use Rattle.ae_explain.proofs.Places.{found}
use Rattle.ae_explain.specs.Trail.{at, place_in}
use Rattle.ae_explain.specs.declared.trail.Assigned.{Assigned}
use Rattle.ae_journal.proofs.Splits.{all_contained, contains_cases, contains_here, contains_later, contains_one}
use Rattle.ae_journal.specs.Sizes.{nodes}
use Rattle.ae_journal.specs.Standing.{IsEntered, IsPossible, MayStand, Setting}
use Rattle.ae_journal.specs.Standing.IsPossible.{given, row_of, choice_of, order_of, fresh_of}
use Rattle.ae_journal.specs.Standing.MayStand.{decided, reached}
use Rattle.ae_journal.specs.States.{is_universal, is_universal_by, inequality, inequality_of}
use Rattle.ae_journal.specs.declared.lines.Line.{Line}
use Rattle.ae_possible_literals.proofs.Reached.{IsReached, holds, equation, block, part, undenied, disagree, equation_rests, equation_universal, both_universal, universal_rests}
use Rattle.ae_open_states.proofs.Choices.{choice, of_head}
use Rattle.ae_possible_literals.proofs.Rests.{own, rests, clash, back_again, smaller, HasRest, has_rest}
use Rattle.ae_possible_literals.specs.Filled.{IsFilled, IsUndenied, itself, none_false}
use Rattle.ae_propagation.proofs.Members.{lit_cases}
use Rattle.ae_propagation.proofs.Trails.{consistent, no_place}
use Rattle.ae_propagation.specs.Settled.{Holds, HasTrue}
use Rattle.ae_rules.specs.Clauses.{Clause, yes_of, no_of, is_true, is_false, opposite, row}
use Rattle.ae_rules.specs.Defining.{called_rows}
use Rattle.ae_rules.specs.Instances.{choices_of, exhaustion, fresh_clause, are_numbered, count_from}
use Rattle.ae_sat.proofs.Called.{called_or_own}
use Rattle.ae_sat.specs.Standing.{IsOneOf}

-- ---- layers
layers_apart : (a b u v : Term) → ◌≡◌ {A = Formula-F Formula Quant} (layer.Eq a b) (layer.Lt u v) → ⊥
layers_apart a b u v e = cc e

equation_no_inequality : (a b u v : Term) → Eq a b ≡ Lt u v → ⊥
equation_no_inequality a b u v e = layers_apart a b u v (sym (outs-Eq a b) ∙ ap out-Formula e ∙ outs-Lt u v)

left_of : (a b u v : Term) → Lt a b ≡ Lt u v → a ≡ u
left_of a b u v e = let w : ◌≡◌ {A = Formula-F Formula Quant} (layer.Lt a b) (layer.Lt u v) = sym (outs-Lt a b) ∙ ap out-Formula e ∙ outs-Lt u v in let q : a ≡ u = cc w in q

inequality_universal : (a b : Term) (l : Lit) → l.formula ≡ Lt a b → is_universal l ≡ true → ⊥
inequality_universal a b l e v = let w : false ≡ true = sym (ap (λ (f : Formula). is_universal_by l.positive (out-Formula f)) e ∙ ap (is_universal_by l.positive) (outs-Lt a b)) ∙ v in cc w

inequality_rests : (a b : Term) (f : Formula) (sign : Bool) (rest : Clause) → f ≡ Lt a b → Contains (rests (out-Formula f) sign) rest → ⊥
inequality_rests a b f sign rest e h = none (subst (λ y. Contains (rests y sign) rest) (ap out-Formula e ∙ outs-Lt a b) h)
  where
    none : Contains (rests (layer.Lt a b) sign) rest → ⊥
    none k = absurd (omega (arith, k.1))

-- an atom that compares by its order
abbrev IsInequality : Formula-F Formula Quant → Type 0
IsInequality (layer.Lt a b) = Unit {0}
IsInequality (layer.Le a b) = Unit {0}
IsInequality _ = ⊥

no_equation_layer : (a b : Term) (y : Formula-F Formula Quant) → y ≡ layer.Eq a b → IsInequality y → ⊥
no_equation_layer a b y e i = subst IsInequality e i

no_block_layer : (sign : Bool) (y : Formula-F Formula Quant) → is_universal_by sign y ≡ true → IsInequality y → ⊥
no_block_layer sign (layer.Lt a b) e i = cc e
no_block_layer sign (layer.Le a b) e i = cc e
no_block_layer sign (layer.Eq a b) e i = i
no_block_layer sign (layer.Pred p ss ts) e i = i
no_block_layer sign (layer.Not a) e i = i
no_block_layer sign (layer.And a b) e i = i
no_block_layer sign (layer.Or a b) e i = i
no_block_layer sign (layer.Xor a b) e i = i
no_block_layer sign (layer.Iff a b) e i = i
no_block_layer sign (layer.All q) e i = i
no_block_layer sign (layer.Ex q) e i = i
no_block_layer sign layer.True e i = i
no_block_layer sign layer.False e i = i

no_part_layer : (y : Formula-F Formula Quant) (sign : Bool) (rest : Clause) → Contains (rests y sign) rest → IsInequality y → ⊥
no_part_layer (layer.Lt a b) sign rest h i = absurd (omega (arith, h.1))
no_part_layer (layer.Le a b) sign rest h i = absurd (omega (arith, h.1))
no_part_layer (layer.Eq a b) sign rest h i = i
no_part_layer (layer.Pred p ss ts) sign rest h i = i
no_part_layer (layer.Not a) sign rest h i = i
no_part_layer (layer.And a b) sign rest h i = i
no_part_layer (layer.Or a b) sign rest h i = i
no_part_layer (layer.Xor a b) sign rest h i = i
no_part_layer (layer.Iff a b) sign rest h i = i
no_part_layer (layer.All q) sign rest h i = i
no_part_layer (layer.Ex q) sign rest h i = i
no_part_layer layer.True sign rest h i = i
no_part_layer layer.False sign rest h i = i

is_inequality_by : (sign : Bool) (y : Formula-F Formula Quant) (r : Term × Term × Bool) → inequality_of sign y ≡ Some r → IsInequality y
is_inequality_by sign (layer.Lt a b) r e = tt
is_inequality_by sign (layer.Le a b) r e = tt
is_inequality_by true (layer.Eq a b) r e = never_some r e
is_inequality_by false (layer.Eq a b) r e = never_some r e
is_inequality_by true (layer.Pred p ss ts) r e = never_some r e
is_inequality_by false (layer.Pred p ss ts) r e = never_some r e
is_inequality_by true (layer.Not a) r e = never_some r e
is_inequality_by false (layer.Not a) r e = never_some r e
is_inequality_by true (layer.And a b) r e = never_some r e
is_inequality_by false (layer.And a b) r e = never_some r e
is_inequality_by true (layer.Or a b) r e = never_some r e
is_inequality_by false (layer.Or a b) r e = never_some r e
is_inequality_by true (layer.Xor a b) r e = never_some r e
is_inequality_by false (layer.Xor a b) r e = never_some r e
is_inequality_by true (layer.Iff a b) r e = never_some r e
is_inequality_by false (layer.Iff a b) r e = never_some r e
is_inequality_by true (layer.All q) r e = never_some r e
is_inequality_by false (layer.All q) r e = never_some r e
is_inequality_by true (layer.Ex q) r e = never_some r e
is_inequality_by false (layer.Ex q) r e = never_some r e
is_inequality_by true layer.True r e = never_some r e
is_inequality_by false layer.True r e = never_some r e
is_inequality_by true layer.False r e = never_some r e
is_inequality_by false layer.False r e = never_some r e

is_inequality : (l : Lit) (a b : Term) (strict : Bool) → inequality l ≡ Some (a, b, strict) → IsInequality (out-Formula l.formula)
is_inequality l a b strict q = is_inequality_by l.positive (out-Formula l.formula) (a, b, strict) q

abbrev order_clause : Term → Term → Clause
order_clause a b = is_true (Eq a b) ∷ is_true (Lt a b) ∷ is_true (Lt b a) ∷ []

-- each literal of the clause of a term of an enumeration is an equation
choice_equation : (sig : Signature) (u : Term) (c : Clause) (l : Lit) → exhaustion sig u ≡ Some c → Contains c l → (a : Term) × (b : Term) × (l ≡ is_true (Eq a b))
choice_equation sig u c l q h =
    let s = bind_some (sort_of sig u) (λ s. choices_of sig (out-Sort s) >>= λ cs. Some (map (choice u) cs)) c q in
    let k = bind_some (choices_of sig (out-Sort s.0)) (λ cs. Some (map (choice u) cs)) c s.2 in
    let is : map (choice u) k.0 ≡ c = same_Some (map (choice u) k.0) c k.2 in
    let w = of_head (choice u) k.0 l (subst (λ (z : Clause). Contains z l) (sym is) h) in
    (u, Apply w.0 [] [], sym w.2)

module _ (x : Setting) (js : List Line) (t : List Assigned) (clauses : List Clause) (filled : IsFilled x js t clauses) where
  abbrev R : Lit → Type 0
  R = IsReached t

  -- the other literals of a clause are denied by what is reached
  abbrev AllButOne : Clause → Lit → Type 0
  AllButOne c l = (m : Lit) → Contains c m → m ≢ l → R (opposite m)

  -- ---- a clause with a true literal
  true_one : (c : Clause) (l : Lit) → HasTrue t c → AllButOne c l → R l
  true_one c l y others = elim (lit_cases y.0 l) as (λ _. R l) [
    | inl e ↦ holds l (subst (Holds t) e y.2)
    | inr d ↦ absurd (undenied t filled.apart (opposite y.0) (others y.0 y.1 d) (subst (Holds t) (sym (back_again y.0)) y.2))
  ]

  there : (c : Clause) → IsOneOf clauses c → HasTrue t c
  there c o = subst (HasTrue t) o.2 (filled.all_true.clauses_true o.0 o.1)

  attached : (c : Clause) (l : Lit) → IsOneOf clauses c → AllButOne c l → R l
  attached c l o others = true_one c l (there c o) others

  -- ---- defining clauses
  -- of a formula that has a place one that its literal calls for, or one that has the literal
  placed : (f : Formula) (r : ℕ) (c : Clause) (l : Lit) (j : ℕ) → place_in t f ≡ Some j → row r f ≡ Some c → AllButOne c l → R l
  placed f r c l j e q others =
      let p = found t f j e in
      let a = (at t j).lit in
      elim (called_or_own f a.positive r c q) as (λ _. R l) [
        | inl n ↦
            attached c l
            (filled.all_true.rows j r c p.0 p.0 (subst (λ (h : Formula). Contains (called_rows a.positive h) r) (sym p.1) n) (subst (λ (h : Formula). row r h ≡ Some c) (sym p.1) q))
            others
        | inr o ↦ true_one c l (own a.positive f, o, (j, p.0, λ i. record { positive = a.positive; formula = p.1 i })) others
      ]

  -- of a formula that has none
  part_differs : (f : Formula) (sign s : Bool) (rest : Clause) (m : Lit) → Contains (rests (out-Formula f) sign) rest → Contains rest m → m ≢ own s f
  part_differs f sign s rest m c h e =
      let a = all_contained (λ (w : Clause). (k : Lit) → Contains w k → nodes k.formula < nodes f) (rests (out-Formula f) sign) rest (each (rests (out-Formula f) sign) (smaller f sign)) c in
      let n = a m h in
      let q = ap (λ (k : Lit). nodes k.formula) e in
      absurd (omega (arith, n, q))
    where
      each : (ws : List Clause) → AllByRecursion (λ (w : Clause). AllByRecursion (λ (k : Lit). nodes k.formula < nodes f) w) ws → AllByRecursion (λ (w : Clause). (k : Lit) → Contains w k → nodes k.formula < nodes f) ws
      each [] a = tt
      each (w ∷ ws) a = (λ k i. all_contained (λ (z : Lit). nodes z.formula < nodes f) w k a.0 i, each ws a.1)

  -- the formula's own literal follows from the rest
  own_follows : (f : Formula) (sign : Bool) (rest : Clause) → place_in t f ≡ None → Contains (rests (out-Formula f) sign) rest → AllButOne (own sign f ∷ rest) (own sign f) → R (own sign f)
  own_follows f sign rest none c others =
      part (own sign f) f sign rest refl none c (λ m h. others m (contains_later (own sign f) rest m h) (part_differs f sign sign rest m c h))

  -- a literal of the rest follows from the denial of the formula's own, which some row gives
  rest_follows : (f : Formula) (sign : Bool) (rest : Clause) (l : Lit) → place_in t f ≡ None → Contains (rests (out-Formula f) sign) rest → Contains rest l → AllButOne (own sign f ∷ rest) l → R l
  rest_follows f sign rest l none c h others =
      denied (own (not sign) f) (others (own sign f) (contains_here (own sign f) rest) (λ e. part_differs f sign sign rest l c h (sym e))) refl
    where
      -- a part that both rows name
      by_part : (p : Lit) → Contains rest p → R p → R l
      by_part p k r = elim (lit_cases p l) as (λ _. R l) [
        | inl e ↦ subst R e r
        | inr d ↦ absurd (disagree t filled.apart p r (opposite p) (others p (contains_later (own sign f) rest p k) d) refl)
      ]

      clashed : (b : Bool) (other : Clause) → b ≡ sign → Contains (rests (out-Formula f) (not b)) other → ((m : Lit) → Contains other m → R (opposite m)) → R l
      clashed true other q d w =
          let z = clash (out-Formula f) rest other (subst (λ (s : Bool). Contains (rests (out-Formula f) s) rest) (sym q) c) d in
          by_part z.0 z.1 (subst R (back_again z.0) (w (opposite z.0) z.2))
      clashed false other q d w =
          let z = clash (out-Formula f) other rest d (subst (λ (s : Bool). Contains (rests (out-Formula f) s) rest) (sym q) c) in
          by_part (opposite z.0) z.2 (w z.0 z.1)

      at_sign : (g : Formula) (s : Bool) (other : Clause) → own s g ≡ own (not sign) f → Contains (rests (out-Formula g) s) other → Contains (rests (out-Formula f) (not sign)) other
      at_sign g s other e d =
          subst (λ (b : Bool). Contains (rests (out-Formula f) b) other) (ap (λ (k : Lit). k.positive) e) (subst (λ (h : Formula). Contains (rests (out-Formula h) s) other) (ap (λ (k : Lit). k.formula) e) d)

      denied : (k : Lit) → R k → k ≡ own (not sign) f → R l
      denied k (holds _ y) e = absurd (no_place t filled.apart f none y.0 y.1 (ap (λ (m : Lit). m.formula) (y.2 ∙ e)))
      denied k (equation _ s u q n) e = absurd (no_rests_of_equation s u (sym (ap (λ (m : Lit). m.formula) e) ∙ ap (λ (m : Lit). m.formula) q))
        where
          no_rests_of_equation : (s u : Term) → f ≡ Eq s u → ⊥
          no_rests_of_equation s u e = equation_rests s u f sign rest e c
      denied k (block _ v n) e =
          absurd (universal_rests (out-Formula f) k.positive sign rest (ap (λ (h : Formula). is_universal_by k.positive (out-Formula h)) (sym (ap (λ (m : Lit). m.formula) e)) ∙ v) c)
      denied k (part _ g s other q none2 d w) e = clashed sign other refl (at_sign g s other (sym q ∙ e) d) w

  by_row : (f : Formula) (r : ℕ) (c : Clause) (l : Lit) → row r f ≡ Some c → Contains c l → AllButOne c l → R l
  by_row f r c l q h others = cases (place_in t f) refl
    where
      split : (e : HasRest f (out-Formula f) c) → place_in t f ≡ None → Contains (own e.sign f ∷ e.rest) l → AllButOne (own e.sign f ∷ e.rest) l → R l
      split e none k o = elim (contains_cases (own e.sign f) e.rest l k) as (λ _. R l) [
        | inl i ↦ subst R i (own_follows f e.sign e.rest none e.one (subst (AllButOne (own e.sign f ∷ e.rest)) (sym i) o))
        | inr i ↦ rest_follows f e.sign e.rest l none e.one i o
      ]

      cases : (p : Option ℕ) → place_in t f ≡ p → R l
      cases (Some j) e = placed f r c l j e q others
      cases None e = let w = has_rest f r c q in split w e (subst (λ (z : Clause). Contains z l) w.is h) (subst (λ (z : Clause). AllButOne z l) w.is others)

  -- a denied equation that is reached is in the trail
  negative : (s u : Term) → R (is_false (Eq s u)) → Holds t (is_false (Eq s u))
  negative s u r = from (is_false (Eq s u)) r refl
    where
      from : (k : Lit) → R k → k ≡ is_false (Eq s u) → Holds t (is_false (Eq s u))
      from k (holds _ h) e = subst (Holds t) e h
      from k (equation _ a b q n) e = let w : true ≡ false = ap (λ (z : Lit). z.positive) (sym q ∙ e) in cc w
      from k (block _ v n) e = absurd (equation_universal s u k (ap (λ (z : Lit). z.formula) e) v)
      from k (part _ f sign rest q none c o) e = absurd (equation_rests s u f sign rest (ap (λ (z : Lit). z.formula) (sym q ∙ e)) c)

  -- ---- equations of constructors
  by_choice : (u : Term) (c : Clause) (l : Lit) → IsEntered x js u → exhaustion x.problem.signature u ≡ Some c → Contains c l → AllButOne c l → R l
  by_choice u c l n q h others = elim (filled.choices u c n q) as (λ _. R l) [ inl o ↦ attached c l o others | inr d ↦ undenied_choice d ]
    where
      its : (a b : Term) × (l ≡ is_true (Eq a b))
      its = choice_equation x.problem.signature u c l q h

      denied_itself : (s : Term) → R (is_false (Eq s s)) → ⊥
      denied_itself s r = filled.reflexive s (negative s s r)

      undenied_choice : IsUndenied t c → R l
      undenied_choice (none_false n) = equation l its.0 its.1 its.2 (n l h)
      undenied_choice (itself s k) = elim (lit_cases (is_true (Eq s s)) l) as (λ _. R l) [
        | inl e ↦ subst R e (equation (is_true (Eq s s)) s s refl (filled.reflexive s))
        | inr d ↦ absurd (denied_itself s (others (is_true (Eq s s)) k d))
      ]

  -- ---- the order of two numbers
  -- a denied inequality that is reached is in the trail
  below : (a b : Term) → R (is_false (Lt a b)) → Holds t (is_false (Lt a b))
  below a b r = from (is_false (Lt a b)) r refl
    where
      from : (k : Lit) → R k → k ≡ is_false (Lt a b) → Holds t (is_false (Lt a b))
      from k (holds _ h) e = subst (Holds t) e h
      from k (equation _ u v q n) e = let w : true ≡ false = ap (λ (z : Lit). z.positive) (sym q ∙ e) in cc w
      from k (block _ v n) e = absurd (inequality_universal a b k (ap (λ (z : Lit). z.formula) e) v)
      from k (part _ f sign rest q none c o) e = absurd (inequality_rests a b f sign rest (ap (λ (z : Lit). z.formula) (sym q ∙ e)) c)

  by_order : (a b : Term) (l : Lit) → Contains (is_true (Eq a b) ∷ is_true (Lt a b) ∷ is_true (Lt b a) ∷ []) l → AllButOne (is_true (Eq a b) ∷ is_true (Lt a b) ∷ is_true (Lt b a) ∷ []) l → R l
  by_order a b l h others =
      elim (contains_cases (is_true (Eq a b)) (is_true (Lt a b) ∷ is_true (Lt b a) ∷ []) l h) as (λ _. R l) [
        | inl e ↦ subst R e (equal e)
        | inr i ↦ elim (contains_cases (is_true (Lt a b)) (is_true (Lt b a) ∷ []) l i) as (λ _. R l) [ inl e ↦ subst R e (first e) | inr k ↦ (let e = contains_one (is_true (Lt b a)) l k in subst R e (second e)) ]
      ]
    where
      has_equation : Contains (order_clause a b) (is_true (Eq a b))
      has_equation = contains_here (is_true (Eq a b)) (is_true (Lt a b) ∷ is_true (Lt b a) ∷ [])

      has_first : Contains (order_clause a b) (is_true (Lt a b))
      has_first = contains_later (is_true (Eq a b)) (is_true (Lt a b) ∷ is_true (Lt b a) ∷ []) (is_true (Lt a b)) (contains_here (is_true (Lt a b)) (is_true (Lt b a) ∷ []))

      has_second : Contains (order_clause a b) (is_true (Lt b a))
      has_second =
          contains_later (is_true (Eq a b)) (is_true (Lt a b) ∷ is_true (Lt b a) ∷ []) (is_true (Lt b a))
          (contains_later (is_true (Lt a b)) (is_true (Lt b a) ∷ []) (is_true (Lt b a)) (contains_here (is_true (Lt b a)) []))

      -- the equation is denied where an inequality is the one that is left
      unequal : (u v : Term) → l ≡ is_true (Lt u v) → Holds t (is_false (Eq a b))
      unequal u v e = negative a b (others (is_true (Eq a b)) has_equation (λ q. equation_no_inequality a b u v (ap (λ (z : Lit). z.formula) (q ∙ e))))

      -- two terms that are the same aren't denied to be equal
      differ : Holds t (is_false (Eq a b)) → (is_true (Lt a b) ≡ is_true (Lt b a)) → ⊥
      differ d e = filled.reflexive a (subst (λ (z : Term). Holds t (is_false (Eq a z))) (sym (left_of a b b a (ap (λ (z : Lit). z.formula) e))) d)

      first : is_true (Lt a b) ≡ l → R (is_true (Lt a b))
      first e =
          let d = unequal a b (sym e) in
          let n = below b a (others (is_true (Lt b a)) has_second (λ q. differ d (e ∙ sym q))) in
          holds (is_true (Lt a b)) (filled.orders b a (inr d) n)

      second : is_true (Lt b a) ≡ l → R (is_true (Lt b a))
      second e =
          let d = unequal b a (sym e) in
          let n = below a b (others (is_true (Lt a b)) has_first (λ q. differ d (q ∙ sym e))) in
          holds (is_true (Lt b a)) (filled.orders a b (inl d) n)

      equal : is_true (Eq a b) ≡ l → R (is_true (Eq a b))
      equal e = equation (is_true (Eq a b)) a b refl denied
        where
          apart_from : (u v : Term) → is_true (Lt u v) ≢ l
          apart_from u v q = equation_no_inequality a b u v (ap (λ (z : Lit). z.formula) (e ∙ sym q))

          denied : Holds t (is_false (Eq a b)) → ⊥
          denied d =
              let m = below a b (others (is_true (Lt a b)) has_first (apart_from a b)) in
              let n = below b a (others (is_true (Lt b a)) has_second (apart_from b a)) in
              consistent t filled.apart (is_true (Lt b a)) (filled.orders a b (inl d) m) n

  -- ---- constants of a block
  hold_cases : (k : Lit) → Holds t k ⊎ (Holds t k → ⊥)
  hold_cases k = by_place (place_in t k.formula) refl
    where
      by_sign : (j : ℕ) → (j < length t) → (at t j).lit.formula ≡ k.formula → (b : Bool) → (at t j).lit.positive ≡ b → (d : Bool) → k.positive ≡ d → Holds t k ⊎ (Holds t k → ⊥)
      by_sign j i e true p true q = inl (j, i, λ n. record { positive = (p ∙ sym q) n; formula = e n })
      by_sign j i e false p false q = inl (j, i, λ n. record { positive = (p ∙ sym q) n; formula = e n })
      by_sign j i e true p false q = inr (λ h. consistent t filled.apart k h (j, i, λ n. record { positive = (p ∙ ap not (sym q)) n; formula = e n }))
      by_sign j i e false p true q = inr (λ h. consistent t filled.apart k h (j, i, λ n. record { positive = (p ∙ ap not (sym q)) n; formula = e n }))

      by_place : (o : Option ℕ) → place_in t k.formula ≡ o → Holds t k ⊎ (Holds t k → ⊥)
      by_place None e = inr (λ h. no_place t filled.apart k.formula e h.0 h.1 (ap (λ (z : Lit). z.formula) h.2))
      by_place (Some j) e = let p = found t k.formula j e in by_sign j p.0 p.1 (at t j).lit.positive refl k.positive refl

  -- what asks for terms is reached only where it is in the trail
  no_asking : (h : Lit) → is_universal h ≡ true → (Holds t (opposite h) → ⊥) → (k : Lit) → R k → k ≡ opposite h → ⊥
  no_asking h v n k (holds _ y) e = n (subst (Holds t) e y)
  no_asking h v n k (equation _ a b q m) e = equation_universal a b h (sym (ap (λ (z : Lit). z.formula) e) ∙ ap (λ (z : Lit). z.formula) q) v
  no_asking h v n k (block _ w m) e = both_universal h v (subst (λ (z : Lit). is_universal z ≡ true) e w)
  no_asking h v n k (part _ f sign rest q none c o) e =
      universal_rests (out-Formula f) h.positive sign rest
      (ap (λ (z : Formula). is_universal_by h.positive (out-Formula z)) (sym (ap (λ (z : Lit). z.formula) q) ∙ ap (λ (z : Lit). z.formula) e) ∙ v) c

  by_block : (h body l : Lit) → is_universal h ≡ true → (Holds t (opposite h) → R l) → Contains (h ∷ body ∷ []) l → AllButOne (h ∷ body ∷ []) l → R l
  by_block h body l v served i others = elim (hold_cases (opposite h)) as (λ _. R l) [ inl y ↦ served y | inr n ↦ unasked n ]
    where
      unasked : (Holds t (opposite h) → ⊥) → R l
      unasked n = elim (lit_cases h l) as (λ _. R l) [ inl e ↦ subst R e (block h v n) | inr d ↦ absurd (no_asking h v n (opposite h) (others h (contains_here h (body ∷ [])) d) refl) ]

  by_fresh : (f : Formula) (c : Clause) (l : Lit) → fresh_clause f (x.fresh f) (out-Formula f) ≡ Some c → Contains c l → AllButOne c l → R l
  by_fresh f c l q i others = by_layer (out-Formula f) refl q
    where
      -- the clause of a block whose universal literal is h
      for_block : (h body : Lit) → h.formula ≡ f → is_universal h ≡ true → is_universal (opposite h) ≡ false → h ∷ body ∷ [] ≡ c → R l
      for_block h body same v w is =
          by_block h body l v (λ y. attached c l (filled.served (opposite h) c y w (subst (λ (z : Formula). fresh_clause z (x.fresh z) (out-Formula z) ≡ Some c) (sym same) q)) others)
          (subst (λ (z : Clause). Contains z l) (sym is) i) (subst (λ (z : Clause). AllButOne z l) (sym is) others)

      by_layer : (y : Formula-F Formula Quant) → out-Formula f ≡ y → fresh_clause f (x.fresh f) y ≡ Some c → R l
      by_layer (layer.Ex r) e k =
          let w = when_some (are_numbered (x.fresh f) r.sorts) (is_false f ∷ yes_of (put_formula (count_from (x.fresh f) r.sorts) r.body) ∷ []) c k in
          for_block (is_false f) (yes_of (put_formula (count_from (x.fresh f) r.sorts) r.body)) refl (ap (is_universal_by false) e) (ap (is_universal_by true) e) w.1
      by_layer (layer.All r) e k =
          let w = when_some (are_numbered (x.fresh f) r.sorts) (is_true f ∷ no_of (put_formula (count_from (x.fresh f) r.sorts) r.body) ∷ []) c k in
          for_block (is_true f) (no_of (put_formula (count_from (x.fresh f) r.sorts) r.body)) refl (ap (is_universal_by true) e) (ap (is_universal_by false) e) w.1
      by_layer (layer.Eq a b) e k = never_some c k
      by_layer (layer.Lt a b) e k = never_some c k
      by_layer (layer.Le a b) e k = never_some c k
      by_layer (layer.Pred p ss ts) e k = never_some c k
      by_layer (layer.Not a) e k = never_some c k
      by_layer (layer.And a b) e k = never_some c k
      by_layer (layer.Or a b) e k = never_some c k
      by_layer (layer.Xor a b) e k = never_some c k
      by_layer (layer.Iff a b) e k = never_some c k
      by_layer layer.True e k = never_some c k
      by_layer layer.False e k = never_some c k

  -- ---- all of it
  possible : (c : Clause) (l : Lit) → IsPossible x js c → Contains c l → AllButOne c l → R l
  possible c l (given _ _ b) h others = attached c l (filled.given c b) others
  possible c l (row_of _ f r _ i q) h others = by_row f r c l q h others
  possible c l (choice_of _ u _ n q) h others = by_choice u c l n q h others
  possible c l (order_of _ a b _ m n q) h others =
      let w = when_some (same_numeric (sort_of x.problem.signature a) (sort_of x.problem.signature b)) (is_true (Eq a b) ∷ is_true (Lt a b) ∷ is_true (Lt b a) ∷ []) c q in
      by_order a b l (subst (λ (z : Clause). Contains z l) (sym w.1) h) (subst (λ (z : Clause). AllButOne z l) (sym w.1) others)
  possible c l (fresh_of _ f _ i q) h others = by_fresh f c l q h others

  pub reaches : (l : Lit) → MayStand x js l → R l
  reaches l (decided _ _ d) = holds l (filled.decided l d)
  reaches l (reached _ c _ p h others) = possible c l p h (λ m k d. reaches (opposite m) (others m k d))

  -- ---- inequalities
  from_inequality : (y : Formula-F Formula Quant) (l : Lit) → R l → out-Formula l.formula ≡ y → IsInequality y → Holds t l
  from_inequality y l (holds _ h) e i = h
  from_inequality y l (equation _ a b q n) e i = absurd (no_equation_layer a b y (sym e ∙ ap (λ (z : Lit). out-Formula z.formula) q ∙ outs-Eq a b) i)
  from_inequality y l (block _ v n) e i = absurd (no_block_layer l.positive y (sym (ap (is_universal_by l.positive) e) ∙ v) i)
  from_inequality y l (part _ f sign rest q none c o) e i =
      absurd (no_part_layer y sign rest (subst (λ (z : Formula-F Formula Quant). Contains (rests z sign) rest) (sym (ap (λ (z : Lit). out-Formula z.formula) q) ∙ e) c) i)

  pub inequalities : (l : Lit) (a b : Term) (strict : Bool) → MayStand x js l → inequality l ≡ Some (a, b, strict) → Holds t l
  inequalities l a b strict m q = from_inequality (out-Formula l.formula) l (reaches l m) refl (is_inequality l a b strict q)

  pub undenied_ones : (l : Lit) → MayStand x js l → Holds t (opposite l) → ⊥
  undenied_ones l m h = undenied t filled.apart l (reaches l m) h
