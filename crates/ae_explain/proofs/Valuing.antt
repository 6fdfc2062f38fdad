-- The values of formulas by their numbers, while literals come and go and formulas get numbers.
use Rattle.std.proofs.Common.{◌≡◌, ◌≢◌, ℕ, ◌<◌, ◌≤◌, Bool, cond, List, [], ◌∷◌, ◌++◌, length, set, refl, sym, ◌∙◌, ap, subst, arith, ◌⊎◌, inl, inr, Option, Some, None, length-set}
use Rattle.std.specs.Prelude.{MatchOption}
use Rattle.std.specs.Option.{option_map}
use Rattle.std.specs.Ordering.{is_eq}
use Rattle.std.proofs.Math.ListN.{get_or-append}
use Rattle.std.proofs.Math.Seq.{get_or-append_seam}
use Rattle.std.proofs.lemmas.Bool.{cases_eq, cases_lt}
use Rattle.std.proofs.lemmas.Option.{same_Some, none-some}
use Rattle.std.proofs.lemmas.List.{length_push, get_or_push, get_or_append_left, get_or_past, get_or-set_same, get_or-set_other}
use Rattle.ae_base.proofs.Decided.{decided_of, decided_not}
use Rattle.ae_base.proofs.Orders.{not_equal}
use Rattle.ae_core.specs.Decided.{Formula_discrete}
use Rattle.ae_core.specs.Orders.{formula_order}
use Rattle.ae_core.proofs.OrderLaws.{formula_exact}
use Rattle.ae_core.specs.declared.formulas.Formula.{Formula}
use Rattle.ae_explain.specs.declared.trail.Assigned.{Assigned}
use Rattle.ae_explain.specs.Trail.{Apart, at, nothing, place_in}
use Rattle.ae_explain.specs.Assignments.{AreKept, AreValues, IsGiven, value_in}
use Rattle.ae_explain.specs.Inner.Index.{AreNumbered, AreUnlike, IsIndex, number_at, value_at}
use Rattle.ae_explain.proofs.Indexing.{at_end, still_apart, apart_front, last_nowhere}
use Rattle.ae_explain.proofs.Places.{found, there}

at_old : (t : List Assigned) (a : Assigned) (i : ℕ) → i < length t → at (t ++ a ∷ []) i ≡ at t i
at_old t a i l = get_or-append t (a ∷ []) nothing i l

at_new : (t : List Assigned) (a : Assigned) → at (t ++ a ∷ []) (length t) ≡ a
at_new t a = get_or-append_seam t a [] nothing

-- ---- numbers of a trail's formulas
numbered_push : (number : Formula → Option ℕ) (t : List Assigned) (standing : List ℕ) (a : Assigned) (n : ℕ) → number a.lit.formula ≡ Some n → AreNumbered number t standing → AreNumbered number (t ++ a ∷ []) (standing ++ n ∷ [])
numbered_push number t standing a n e h = record {
  size = omega (arith, length_push t a, length_push standing n, h.size);
  each = λ i l. elim (cases_lt i (length t)) as (λ _. number (at (t ++ a ∷ []) i).lit.formula ≡ Some (number_at (standing ++ n ∷ []) i)) [
    | inl lt ↦
        let p : at (t ++ a ∷ []) i ≡ at t i = at_old t a i lt in
        let q : number_at (standing ++ n ∷ []) i ≡ number_at standing i = get_or_append_left standing (n ∷ []) 0 i (omega (arith, lt, h.size)) in
        ap (λ (x : Assigned). number x.lit.formula) p ∙ (h.each i lt ∙ ap Some (sym q))
    | inr ge ↦
        let s : length t ≡ i = omega (arith, l, ge, length_push t a) in
        let p : at (t ++ a ∷ []) i ≡ a = subst (λ (j : ℕ). at (t ++ a ∷ []) j ≡ a) s (at_new t a) in
        let q : number_at (standing ++ n ∷ []) i ≡ n = get_or_push standing n 0 i (omega (arith, s, h.size)) in
        ap (λ (x : Assigned). number x.lit.formula) p ∙ (e ∙ ap Some (sym q))
  ];
}

numbered_pop : (number : Formula → Option ℕ) (t : List Assigned) (standing : List ℕ) (a : Assigned) (n : ℕ) → AreNumbered number (t ++ a ∷ []) (standing ++ n ∷ []) → AreNumbered number t standing
numbered_pop number t standing a n h =
    let s : length standing ≡ length t = omega (arith, length_push t a, length_push standing n, h.size) in
    record {
      size = s;
      each = λ i l.
          let p : at (t ++ a ∷ []) i ≡ at t i = at_old t a i l in
          let q : number_at (standing ++ n ∷ []) i ≡ number_at standing i = get_or_append_left standing (n ∷ []) 0 i (omega (arith, l, s)) in
          ap (λ (x : Assigned). number x.lit.formula) (sym p) ∙ (h.each i (omega (arith, l, length_push t a)) ∙ ap Some q);
    }

numbered_last : (number : Formula → Option ℕ) (t : List Assigned) (standing : List ℕ) (a : Assigned) (n : ℕ) → AreNumbered number (t ++ a ∷ []) (standing ++ n ∷ []) → number a.lit.formula ≡ Some n
numbered_last number t standing a n h =
    let s : length standing ≡ length t = omega (arith, length_push t a, length_push standing n, h.size) in
    ap (λ (x : Assigned). number x.lit.formula) (sym (at_new t a)) ∙ (h.each (length t) (omega (arith, length_push t a)) ∙ ap Some (get_or_push standing n 0 (length t) s))

-- what has no number stands nowhere
pub unnumbered : (number : Formula → Option ℕ) (t : List Assigned) (standing : List ℕ) (f : Formula) → AreNumbered number t standing → number f ≡ None → place_in t f ≡ None
unnumbered number t standing f h e = by_place (place_in t f) refl
  where
    by_place : (o : Option ℕ) → place_in t f ≡ o → place_in t f ≡ None
    by_place None q = q
    by_place (Some p) q =
        let r = found t f p q in
        absurd (none-some (number_at standing p) (sym e ∙ (ap number (sym r.1) ∙ h.each p r.0)))

-- ---- a literal more
-- its formula's value
value_own : (t : List Assigned) (a : Assigned) (f : Formula) → place_in t a.lit.formula ≡ None → a.lit.formula ≡ f → value_in (t ++ a ∷ []) f ≡ Some a.lit.positive
value_own t a f none e =
    let p : place_in (t ++ a ∷ []) f ≡ Some (length t) =
    at_end t a f none ∙ ap (λ (b : Bool). cond b (Some (length t)) (place_in t f)) (decided_of (Formula_discrete a.lit.formula f) e) in
    ap (option_map (λ (p : ℕ). (at (t ++ a ∷ []) p).lit.positive)) p ∙ ap (λ (x : Assigned). Some x.lit.positive) (at_new t a)

-- that of each other one
value_other : (t : List Assigned) (a : Assigned) (f : Formula) → place_in t a.lit.formula ≡ None → a.lit.formula ≢ f → value_in (t ++ a ∷ []) f ≡ value_in t f
value_other t a f none d =
    ap (option_map (λ (p : ℕ). (at (t ++ a ∷ []) p).lit.positive)) (at_end t a f none ∙ ap (λ (b : Bool). cond b (Some (length t)) (place_in t f)) (decided_not (Formula_discrete a.lit.formula f) d))
    ∙ by_place (place_in t f) refl
  where
    by_place : (o : Option ℕ) → place_in t f ≡ o → option_map (λ (p : ℕ). (at (t ++ a ∷ []) p).lit.positive) (place_in t f) ≡ value_in t f
    by_place None q = ap (option_map (λ (p : ℕ). (at (t ++ a ∷ []) p).lit.positive)) q ∙ sym (ap (option_map (λ (p : ℕ). (at t p).lit.positive)) q)
    by_place (Some k) q =
        ap (option_map (λ (p : ℕ). (at (t ++ a ∷ []) p).lit.positive)) q
        ∙ (ap (λ (x : Assigned). Some x.lit.positive) (at_old t a k (found t f k q).0) ∙ sym (ap (option_map (λ (p : ℕ). (at t p).lit.positive)) q))

values_push : (number : Formula → Option ℕ) (values : List (Option Bool)) (t : List Assigned) (a : Assigned) (n : ℕ) → AreUnlike number → number a.lit.formula ≡ Some n → n < length values → place_in t a.lit.formula ≡ None
    → AreValues number values t → AreValues number (set values n (Some a.lit.positive)) (t ++ a ∷ [])
values_push number values t a n unlike e w none v f k q = elim (cases_eq k n) as (λ _. value_at (set values n (Some a.lit.positive)) k ≡ value_in (t ++ a ∷ []) f) [
  | inl same ↦
      let own : a.lit.formula ≡ f = unlike a.lit.formula f n e (q ∙ ap Some same) in
      ap (value_at (set values n (Some a.lit.positive))) same ∙ (get_or-set_same values n (Some a.lit.positive) None w ∙ sym (value_own t a f none own))
  | inr far ↦
      get_or-set_other values n k (Some a.lit.positive) None far
      ∙ (v f k q ∙ sym (value_other t a f none (λ own. far (same_Some k n (sym q ∙ (sym (ap number own) ∙ e))))))
]

places_push : (number : Formula → Option ℕ) (t : List Assigned) (standing places : List ℕ) (a : Assigned) (n : ℕ) → AreUnlike number → Apart t → number a.lit.formula ≡ Some n → n < length places → place_in t a.lit.formula ≡ None
    → AreNumbered number t standing → ((i : ℕ) → i < length t → number_at places (number_at standing i) ≡ i)
    → (i : ℕ) → i < length (t ++ a ∷ []) → number_at (set places n (length t)) (number_at (standing ++ n ∷ []) i) ≡ i
places_push number t standing places a n unlike apart e w none h p i l =
    elim (cases_lt i (length t)) as (λ _. number_at (set places n (length t)) (number_at (standing ++ n ∷ []) i) ≡ i) [
      | inl lt ↦
          let m : number_at (standing ++ n ∷ []) i ≡ number_at standing i = get_or_append_left standing (n ∷ []) 0 i (omega (arith, lt, h.size)) in
          let far : number_at standing i ≢ n = λ same.
          let own : (at t i).lit.formula ≡ a.lit.formula = unlike (at t i).lit.formula a.lit.formula n (h.each i lt ∙ ap Some same) e in
          none-some i (sym none ∙ there t i a.lit.formula apart lt own) in
          ap (number_at (set places n (length t))) m ∙ (get_or-set_other places n (number_at standing i) (length t) 0 far ∙ p i lt)
      | inr ge ↦
          let s : length t ≡ i = omega (arith, l, ge, length_push t a) in
          let m : number_at (standing ++ n ∷ []) i ≡ n = get_or_push standing n 0 i (omega (arith, s, h.size)) in
          ap (number_at (set places n (length t))) m ∙ (get_or-set_same places n (length t) 0 w ∙ s)
    ]

pub pushed : (number : Formula → Option ℕ) (t : List Assigned) (standing : List ℕ) (values : List (Option Bool)) (places : List ℕ) (a : Assigned) (n : ℕ) → number a.lit.formula ≡ Some n → place_in t a.lit.formula ≡ None
    → IsIndex number t standing values places → IsIndex number (t ++ a ∷ []) (standing ++ n ∷ []) (set values n (Some a.lit.positive)) (set places n (length t))
pushed number t standing values places a n e none h = record {
  apart = still_apart t a h.apart none;
  unlike = h.unlike;
  room = λ f k q. omega (arith, h.room f k q, length-set values n (Some a.lit.positive));
  place_room = λ f k q. omega (arith, h.place_room f k q, length-set places n (length t));
  numbered = numbered_push number t standing a n e h.numbered;
  valued = values_push number values t a n h.unlike e (h.room a.lit.formula n e) none h.valued;
  placed = places_push number t standing places a n h.unlike h.apart e (h.place_room a.lit.formula n e) none h.numbered h.placed;
}

-- ---- a literal less
values_pop : (number : Formula → Option ℕ) (values less : List (Option Bool)) (t : List Assigned) (a : Assigned) (n : ℕ) → AreUnlike number → number a.lit.formula ≡ Some n → place_in t a.lit.formula ≡ None
    → value_at less n ≡ None → ((k : ℕ) → k ≢ n → value_at less k ≡ value_at values k) → AreValues number values (t ++ a ∷ []) → AreValues number less t
values_pop number values less t a n unlike e none gone others v f k q = elim (cases_eq k n) as (λ _. value_at less k ≡ value_in t f) [
  | inl same ↦
      let own : a.lit.formula ≡ f = unlike a.lit.formula f n e (q ∙ ap Some same) in
      let nowhere : place_in t f ≡ None = subst (λ (g : Formula). place_in t g ≡ None) own none in
      ap (value_at less) same ∙ (gone ∙ sym (ap (option_map (λ (p : ℕ). (at t p).lit.positive)) nowhere))
  | inr far ↦ others k far ∙ (v f k q ∙ value_other t a f none (λ own. far (same_Some k n (sym q ∙ (sym (ap number own) ∙ e)))))
]

pub popped : (number : Formula → Option ℕ) (t : List Assigned) (standing : List ℕ) (values less : List (Option Bool)) (places : List ℕ) (a : Assigned) (n : ℕ) → length less ≡ length values → value_at less n ≡ None
    → ((k : ℕ) → k ≢ n → value_at less k ≡ value_at values k) → IsIndex number (t ++ a ∷ []) (standing ++ n ∷ []) values places → IsIndex number t standing less places
popped number t standing values less places a n long gone others h =
    let e : number a.lit.formula ≡ Some n = numbered_last number t standing a n h.numbered in
    let fewer : AreNumbered number t standing = numbered_pop number t standing a n h.numbered in
    record {
      apart = apart_front t a h.apart;
      unlike = h.unlike;
      room = λ f k q. omega (arith, h.room f k q, long);
      place_room = h.place_room;
      numbered = fewer;
      valued = values_pop number values less t a n h.unlike e (last_nowhere t a h.apart) gone others h.valued;
      placed = λ i l.
          let m : number_at (standing ++ n ∷ []) i ≡ number_at standing i = get_or_append_left standing (n ∷ []) 0 i (omega (arith, l, fewer.size)) in
          ap (number_at places) (sym m) ∙ h.placed i (omega (arith, l, length_push t a));
    }

pub none_left : (number : Formula → Option ℕ) (t : List Assigned) (standing : List ℕ) (values : List (Option Bool)) (places : List ℕ) (a : Assigned) → standing ≡ [] → IsIndex number (t ++ a ∷ []) standing values places → ⊥
none_left number t standing values places a e h = let z : length standing ≡ 0 = ap length e in omega (arith, z, h.numbered.size, length_push t a)

-- ---- where a formula stands, by its number
pub no_value : (number : Formula → Option ℕ) (t : List Assigned) (standing : List ℕ) (values : List (Option Bool)) (places : List ℕ) (f : Formula) (n : ℕ) → IsIndex number t standing values places → number f ≡ Some n
    → value_at values n ≡ None → place_in t f ≡ None
no_value number t standing values places f n h e z = by_place (place_in t f) refl
  where
    by_place : (o : Option ℕ) → place_in t f ≡ o → place_in t f ≡ None
    by_place None q = q
    by_place (Some p) q = absurd (none-some (at t p).lit.positive (sym z ∙ (h.valued f n e ∙ ap (option_map (λ (p : ℕ). (at t p).lit.positive)) q)))

pub its_place : (number : Formula → Option ℕ) (t : List Assigned) (standing : List ℕ) (values : List (Option Bool)) (places : List ℕ) (f : Formula) (n : ℕ) (b : Bool) → IsIndex number t standing values places → number f ≡ Some n
    → value_at values n ≡ Some b → place_in t f ≡ Some (number_at places n)
its_place number t standing values places f n b h e z = by_place (place_in t f) refl
  where
    by_place : (o : Option ℕ) → place_in t f ≡ o → place_in t f ≡ Some (number_at places n)
    by_place None q = absurd (none-some b (sym (ap (option_map (λ (p : ℕ). (at t p).lit.positive)) q) ∙ (sym (h.valued f n e) ∙ z)))
    by_place (Some p) q =
        let r = found t f p q in
        let m : number_at standing p ≡ n = same_Some (number_at standing p) n (sym (h.numbered.each p r.0) ∙ (ap number r.1 ∙ e)) in
        q ∙ ap Some (sym (h.placed p r.0) ∙ ap (number_at places) m)

abbrev pub FoundBy : List (Option Bool) → List ℕ → ℕ → Option ℕ → Type 0
FoundBy values places n r = MatchOption r (value_at values n ≡ None) (λ p. (p ≡ number_at places n) × ((b : Bool) × (value_at values n ≡ Some b)))

pub found_by : (number : Formula → Option ℕ) (t : List Assigned) (standing : List ℕ) (values : List (Option Bool)) (places : List ℕ) (f : Formula) (n : ℕ) → IsIndex number t standing values places → number f ≡ Some n
    → (r : Option ℕ) → FoundBy values places n r → r ≡ place_in t f
found_by number t standing values places f n h e None m = sym (no_value number t standing values places f n h e m)
found_by number t standing values places f n h e (Some p) m = ap Some m.0 ∙ sym (its_place number t standing values places f n m.1.0 h e m.1.1)

-- ---- more room, and one more formula that has a number
pub value_room : (values : List (Option Bool)) (n : ℕ) → value_at (values ++ None ∷ []) n ≡ value_at values n
value_room values n = elim (cases_lt n (length values)) as (λ _. value_at (values ++ None ∷ []) n ≡ value_at values n) [
  | inl lt ↦ get_or_append_left values (None ∷ []) None n lt
  | inr ge ↦ elim (cases_eq (length values) n) as (λ _. value_at (values ++ None ∷ []) n ≡ value_at values n) [
    | inl e ↦ get_or_push values None None n e ∙ sym (get_or_past values n None (omega (arith, e)))
    | inr far ↦ get_or_past (values ++ None ∷ []) n None (omega (arith, ge, far, length_push values None)) ∙ sym (get_or_past values n None (omega (arith, ge)))
  ]
]

pub place_room : (places : List ℕ) (n : ℕ) → number_at (places ++ 0 ∷ []) n ≡ number_at places n
place_room places n = elim (cases_lt n (length places)) as (λ _. number_at (places ++ 0 ∷ []) n ≡ number_at places n) [
  | inl lt ↦ get_or_append_left places (0 ∷ []) 0 n lt
  | inr ge ↦ elim (cases_eq (length places) n) as (λ _. number_at (places ++ 0 ∷ []) n ≡ number_at places n) [
    | inl e ↦ get_or_push places 0 0 n e ∙ sym (get_or_past places n 0 (omega (arith, e)))
    | inr far ↦ get_or_past (places ++ 0 ∷ []) n 0 (omega (arith, ge, far, length_push places 0)) ∙ sym (get_or_past places n 0 (omega (arith, ge)))
  ]
]

-- more room alone
pub roomier : (number : Formula → Option ℕ) (t : List Assigned) (standing : List ℕ) (values more : List (Option Bool)) (places wider : List ℕ) → length values ≤ length more → ((n : ℕ) → value_at more n ≡ value_at values n)
    → length places ≤ length wider → ((n : ℕ) → number_at wider n ≡ number_at places n) → IsIndex number t standing values places → IsIndex number t standing more wider
roomier number t standing values more places wider l same m kept h = record {
  apart = h.apart;
  unlike = h.unlike;
  room = λ f n e. omega (arith, h.room f n e, l);
  place_room = λ f n e. omega (arith, h.place_room f n e, m);
  numbered = h.numbered;
  valued = λ f n e. same n ∙ h.valued f n e;
  placed = λ i w. kept (number_at standing i) ∙ h.placed i w;
}

-- the value of a number that no formula has is forgotten
pub unused : (number : Formula → Option ℕ) (t : List Assigned) (standing : List ℕ) (values less : List (Option Bool)) (places : List ℕ) (n : ℕ) → ((f : Formula) → number f ≢ Some n) → length less ≡ length values
    → ((k : ℕ) → k ≢ n → value_at less k ≡ value_at values k) → IsIndex number t standing values places → IsIndex number t standing less places
unused number t standing values less places n free long others h = record {
  apart = h.apart;
  unlike = h.unlike;
  room = λ f k e. omega (arith, h.room f k e, long);
  place_room = h.place_room;
  numbered = h.numbered;
  valued = λ f k e. others k (λ same. free f (e ∙ ap Some same)) ∙ h.valued f k e;
  placed = h.placed;
}

-- a map's new entry gives its key a number
pub is_given : (own copy : Formula) (n : ℕ) (old new : Formula → Option ℕ) → copy ≡ own → ((f : Formula) → new f ≡ cond (is_eq (formula_order copy f)) (Some n) (old f)) → IsGiven own n old new
is_given own copy n old new e u = record {
  given = u own ∙ ap (λ (b : Bool). cond b (Some n) (old own)) (ap is_eq ((formula_exact copy own).1 e));
  others = λ f d. u f ∙ ap (λ (b : Bool). cond b (Some n) (old f)) (not_equal (formula_order copy f) (λ q. d (sym ((formula_exact copy f).0 q) ∙ e)));
}

module _ (own : Formula) (n : ℕ) (old new : Formula → Option ℕ) (g : IsGiven own n old new) where
  pub given_cases : (f : Formula) → (f ≡ own) ⊎ (new f ≡ old f)
  given_cases f = elim (Formula_discrete f own) as (λ _. (f ≡ own) ⊎ (new f ≡ old f)) [
    | yes e ↦ inl e
    | no d ↦ inr (g.others f d)
  ]

  -- a number of its own
  pub own_number : (f : Formula) (k : ℕ) → f ≡ own → new f ≡ Some k → k ≡ n
  own_number f k e q = same_Some k n (sym q ∙ (ap new e ∙ g.given))

  pub still_unlike : ((f : Formula) → old f ≢ Some n) → AreUnlike old → AreUnlike new
  still_unlike free h f x k e d = elim (given_cases f) as (λ _. f ≡ x) [
    | inl p ↦ elim (given_cases x) as (λ _. f ≡ x) [
      | inl q ↦ p ∙ sym q
      | inr q ↦ absurd (free x (sym q ∙ (d ∙ ap Some (own_number f k p e))))
    ]
    | inr p ↦ elim (given_cases x) as (λ _. f ≡ x) [
      | inl q ↦ absurd (free f (sym p ∙ (e ∙ ap Some (own_number x k q d))))
      | inr q ↦ h f x k (sym p ∙ e) (sym q ∙ d)
    ]
  ]

  pub given_kept : old own ≡ None → AreKept old new
  given_kept none f k e = elim (given_cases f) as (λ _. new f ≡ Some k) [
    | inl p ↦ absurd (none-some k (sym none ∙ (ap old (sym p) ∙ e)))
    | inr p ↦ p ∙ e
  ]

  -- the index by the numbers that are more
  pub given_index : (t : List Assigned) (standing : List ℕ) (values : List (Option Bool)) (places : List ℕ) → old own ≡ None → ((f : Formula) → old f ≢ Some n) → n < length values → n < length places → value_at values n ≡ None
      → IsIndex old t standing values places → IsIndex new t standing values places
  given_index t standing values places none free w v gone h = record {
    apart = h.apart;
    unlike = still_unlike free h.unlike;
    room = λ f k e. elim (given_cases f) as (λ _. k < length values) [
      | inl p ↦ omega (arith, w, own_number f k p e)
      | inr p ↦ h.room f k (sym p ∙ e)
    ];
    place_room = λ f k e. elim (given_cases f) as (λ _. k < length places) [
      | inl p ↦ omega (arith, v, own_number f k p e)
      | inr p ↦ h.place_room f k (sym p ∙ e)
    ];
    numbered = record {
      size = h.numbered.size;
      each = λ i l. g.others (at t i).lit.formula (λ e. none-some (number_at standing i) (sym none ∙ (ap old (sym e) ∙ h.numbered.each i l))) ∙ h.numbered.each i l;
    };
    valued = λ f k e. elim (given_cases f) as (λ _. value_at values k ≡ value_in t f) [
      | inl p ↦
          let nowhere : place_in t f ≡ None = ap (place_in t) p ∙ unnumbered old t standing own h.numbered none in
          ap (value_at values) (own_number f k p e) ∙ (gone ∙ sym (ap (option_map (λ (p : ℕ). (at t p).lit.positive)) nowhere))
      | inr p ↦ h.valued f k (sym p ∙ e)
    ];
    placed = h.placed;
  }
