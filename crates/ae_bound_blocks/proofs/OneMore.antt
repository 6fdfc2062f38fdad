-- The lines of one row more.
use Rattle.std.specs.Prelude.{ℕ, zero, suc, ◌+◌, ◌<◌, ◌≡◌, Bool, true, false, ◌||◌, List, [], ◌∷◌, ◌++◌, take, length, slice_get, get_or, Option, Some, None}
use Rattle.std.specs.List.{Contains, flat_map}
use Rattle.std.proofs.Common.{arith, refl, sym, ap, ◌∙◌, subst, inl, inr, append_assoc, append-nil}
use Rattle.std.proofs.lemmas.Bool.{cases_lt, true≢false}
use Rattle.std.proofs.lemmas.List.{get_or_append_left, get_or_at, length_push}
use Rattle.std.proofs.lemmas.Grind.{flat_map-append}
use Rattle.std.proofs.lemmas.Option.{slice_get-get_or, get_or_from_slice_get}
use Rattle.ae_base.specs.Options.{or_else, ◌>>=◌}
use Rattle.ae_base.proofs.Tests.{false_true}
use Rattle.ae_base.proofs.ListFacts.{get_front}
use Rattle.ae_core.specs.declared.terms.Term.{Term}
use Rattle.ae_core.specs.declared.problems.Signature.{Signature}
use Rattle.ae_num.specs.Forms.{IsNormal}
use Rattle.ae_rules.specs.Lines.{Stated, AllAllowed, fact_ok}
use Rattle.ae_num.specs.declared.forms.Lin.{Lin}
use Rattle.ae_bounds.specs.declared.rows.Row.{Row}
use Rattle.ae_bounds.specs.declared.rows.Unrounded.{Unrounded}
use Rattle.ae_bounds.specs.Rounding.{IsRowOf}
use Rattle.ae_bounds.specs.Rounding.IsRowOf.{as_it_is, rounded}
use Rattle.ae_bounds.specs.declared.rows.Origin.TheVariants.{Combined}
use Rattle.ae_trim.specs.Inner.Marks.{marked}
use Rattle.ae_bound_blocks.specs.declared.given.Given.{Given}
use Rattle.ae_bound_blocks.specs.declared.emitting.Emitted.{Emitted}
use Rattle.ae_bound_blocks.specs.Ancestors.{parents, tag_of, tags_of, hyps_of}
use Rattle.ae_bound_blocks.specs.Inner.Emitting.{IsCombinationOf, IsSaid, IsRoundable, IsMore, AreReady, AreEmitted}
use Rattle.ae_bound_blocks.specs.Said.{kept, was_of, was, row_fact, AreBuilt}

-- a row was the form that it is the row of
pub was_form : (l : Lin) (strict : Bool) (r : Row) → IsRowOf l strict r → was r ≡ record { lin = l; strict = strict }
was_form l strict r (as_it_is a b c d) = ap (λ (o : Option Unrounded). was_of o (kept r)) c ∙ (λ i. record { lin = a i; strict = b i })
was_form l strict r (rounded a b c d e) = ap (λ (o : Option Unrounded). was_of o (kept r)) e

-- it was in the normal form too
pub was_normal : (ts : List Term) (real : Bool) (r : Row) → IsRoundable ts real r → IsNormal r.lin → IsNormal (was r).lin
was_normal ts real r h n = by_unrounded r.unrounded refl
  where
    by_unrounded : (o : Option Unrounded) → r.unrounded ≡ o → IsNormal (was_of o (kept r)).lin
    by_unrounded None e = n
    by_unrounded (Some u) e = (h u e).0.normal

-- ---- tags
tags_step : (marks : List Bool) (rows : List Row) (n : ℕ) (r : Row) → marked marks n ≡ true → slice_get rows n ≡ Some r → tags_of (take (suc n) marks) rows ≡ tags_of (take n marks) rows ++ tag_of r.from
tags_step [] rows n r m e = false_true m
tags_step (b ∷ marks) [] n r m e = cc e
tags_step (true ∷ marks) (x ∷ rows) zero r m e = let s : x ≡ r = cc e in append-nil (tag_of x.from) ∙ ap (λ (y : Row). tag_of y.from) s
tags_step (false ∷ marks) (x ∷ rows) zero r m e = false_true m
tags_step (true ∷ marks) (x ∷ rows) (suc n) r m e = ap (λ ts. tag_of x.from ++ ts) (tags_step marks rows n r m e) ∙ sym (append_assoc (tag_of x.from) (tags_of (take n marks) rows) (tag_of r.from))
tags_step (false ∷ marks) (x ∷ rows) (suc n) r m e = tags_step marks rows n r m e

tags_skip : (marks : List Bool) (rows : List Row) (n : ℕ) → marked marks n ≡ false → tags_of (take (suc n) marks) rows ≡ tags_of (take n marks) rows
tags_skip [] rows zero m = refl
tags_skip [] rows (suc n) m = refl
tags_skip (true ∷ marks) rows zero m = absurd (true≢false m)
tags_skip (false ∷ marks) [] zero m = refl
tags_skip (false ∷ marks) (x ∷ rows) zero m = refl
tags_skip (true ∷ marks) [] (suc n) m = refl
tags_skip (false ∷ marks) [] (suc n) m = refl
tags_skip (true ∷ marks) (x ∷ rows) (suc n) m = ap (λ ts. tag_of x.from ++ ts) (tags_skip marks rows n m)
tags_skip (false ∷ marks) (x ∷ rows) (suc n) m = tags_skip marks rows n m

module _ (sig : Signature) (ts : List Term) (real : Bool) (rows : List Row) (given : List Given) (marks : List Bool) where
  -- ---- one row more
  pub emitted_more : (n : ℕ) (old new : Emitted) (r : Row) → AreEmitted sig ts real rows given marks n old → marked marks n ≡ true → slice_get rows n ≡ Some r → IsMore sig ts real old new r
      → new.tags ≡ old.tags ++ tag_of r.from → new.deriv.hyps ≡ old.deriv.hyps ++ flat_map (hyps_of given) (tag_of r.from) → AreEmitted sig ts real rows given marks (n + 1) new
  emitted_more n old new r a m e more tags hyps = record {
    allowed = more.said.allowed;
    places = ap length more.places ∙ length_push old.places more.place ∙ ap (λ k. k + 1) a.places;
    said = said;
    last = λ k q w.
        let s : n ≡ k = omega (arith, q) in
        ap suc (ap (λ xs. get_or xs k 0) more.places ∙ get_or_at old.places more.place [] 0 k (let z = a.places in omega (arith, z, s))) ∙ more.last;
    tags = tags ∙ ap (λ xs. xs ++ tag_of r.from) a.tags ∙ sym (tags_step marks rows n r m e) ∙ ap (λ k. tags_of (take k marks) rows) (let h : suc n ≡ n + 1 = omega arith in h);
    hyps = hyps ∙ ap (λ hs. hs ++ flat_map (hyps_of given) (tag_of r.from)) a.hyps ∙ sym (flat_map-append (hyps_of given) old.tags (tag_of r.from)) ∙ ap (flat_map (hyps_of given)) (sym tags);
    built = more.said.built a.built;
  }
    where
      said : (k : ℕ) (x : Row) → k < n + 1 → marked marks k ≡ true → slice_get rows k ≡ Some x → IsSaid sig ts real new.deriv.lines (get_or new.places k 0) (kept x)
      said k x l w q = elim (cases_lt k n) [
        | inl b ↦
            let i = a.said k x b w q in
            let p : get_or new.places k 0 ≡ get_or old.places k 0 =
            ap (λ xs. get_or xs k 0) more.places ∙ get_or_append_left old.places (more.place ∷ []) 0 k (let s = a.places in omega (arith, b, s)) in
            record { stated = subst (λ z. Stated new.deriv.lines z (row_fact ts real x.strict x.lin)) (sym p) (more.said.before _ _ i.stated); numbers = i.numbers; integers = i.integers }
        | inr b ↦
            let s : n ≡ k = omega (arith, l, b) in
            let x_is : r ≡ x = cc (sym e ∙ ap (slice_get rows) s ∙ q) in
            let p : get_or new.places k 0 ≡ more.place = ap (λ xs. get_or xs k 0) more.places ∙ get_or_at old.places more.place [] 0 k (let z = a.places in omega (arith, z, s)) in
            subst (λ z. IsSaid sig ts real new.deriv.lines z (kept x)) (sym p) (subst (λ (y : Row). IsSaid sig ts real new.deriv.lines more.place (kept y)) x_is (more.said.last more.place more.last))
      ]

  pub emitted_skip : (n : ℕ) (old new : Emitted) → AreEmitted sig ts real rows given marks n old → marked marks n ≡ false → new.deriv.lines ≡ old.deriv.lines → new.deriv.hyps ≡ old.deriv.hyps → new.tags ≡ old.tags
      → new.places ≡ old.places ++ 0 ∷ [] → AreEmitted sig ts real rows given marks (n + 1) new
  emitted_skip n old new a m lines hyps tags places = record {
    allowed = subst (λ ls. AllAllowed sig (fact_ok sig) new.deriv.hyps [] ls) (sym lines) (subst (λ hs. AllAllowed sig (fact_ok sig) hs [] old.deriv.lines) (sym hyps) a.allowed);
    places = ap length places ∙ length_push old.places 0 ∙ ap (λ k. k + 1) a.places;
    said = said;
    last = λ k q w. absurd (true≢false (sym (subst (λ z. marked marks z ≡ true) (let s : k ≡ n = omega (arith, q) in s) w) ∙ m));
    tags = tags ∙ a.tags ∙ sym (tags_skip marks rows n m) ∙ ap (λ k. tags_of (take k marks) rows) (let h : suc n ≡ n + 1 = omega arith in h);
    hyps = hyps ∙ a.hyps ∙ ap (flat_map (hyps_of given)) (sym tags);
    built = subst (AreBuilt sig ts) (sym lines) a.built;
  }
    where
      said : (k : ℕ) (x : Row) → k < n + 1 → marked marks k ≡ true → slice_get rows k ≡ Some x → IsSaid sig ts real new.deriv.lines (get_or new.places k 0) (kept x)
      said k x l w q = elim (cases_lt k n) [
        | inl b ↦
            let p : get_or new.places k 0 ≡ get_or old.places k 0 =
            ap (λ xs. get_or xs k 0) places ∙ get_or_append_left old.places (0 ∷ []) 0 k (let s = a.places in omega (arith, b, s)) in
            subst (λ z. IsSaid sig ts real new.deriv.lines z (kept x)) (sym p) (subst (λ ls. IsSaid sig ts real ls (get_or old.places k 0) (kept x)) (sym lines) (a.said k x b w q))
        | inr b ↦ absurd (true≢false (sym (subst (λ z. marked marks z ≡ true) (let s : k ≡ n = omega (arith, l, b) in s) w) ∙ m))
      ]

  pub emitted_none : (e : Emitted) → e.deriv.hyps ≡ [] → e.deriv.lines ≡ [] → e.tags ≡ [] → e.places ≡ [] → AreEmitted sig ts real rows given marks 0 e
  emitted_none e hyps lines tags places = record {
    allowed = subst (λ ls. AllAllowed sig (fact_ok sig) e.deriv.hyps [] ls) (sym lines) tt;
    places = ap length places;
    said = λ k x l w q. absurd (omega (arith, l));
    last = λ k q w. absurd (omega (arith, q));
    tags = tags;
    hyps = hyps ∙ ap (flat_map (hyps_of given)) (sym tags);
    built = subst (AreBuilt sig ts) (sym lines) tt;
  }

  -- ---- what a row is made of
  module _ (ready : AreReady sig ts real rows given marks) (n : ℕ) (r : Row) (within : n < length rows) (is : r ≡ get_or rows n r) where
    pub here : slice_get rows n ≡ Some r
    here = slice_get-get_or rows n r within ∙ ap Some (sym is)

    pub normal_here : IsNormal r.lin
    normal_here = ready.normal n r here

    pub record Made (lower upper : ℕ) : Type 0 where
      pub lower_before : lower < n
      pub upper_before : upper < n
      pub combined : IsCombinationOf (kept (get_or rows lower r)) (kept (get_or rows upper r)) (was r)
      pub first : slice_get rows lower ≡ Some (get_or rows lower r)
      pub second : slice_get rows upper ≡ Some (get_or rows upper r)

    pub made : (lower upper : ℕ) → r.from ≡ Combined lower upper → Made lower upper
    made lower upper h =
        let w = ready.founded n lower upper r here h in
        let same : Combined lower upper ≡ Combined w.lower w.upper = sym h ∙ w.from in
        let low : w.lower ≡ lower = cc same in
        let up : w.upper ≡ upper = cc same in
        let a = get_front rows n w.lower w.first w.opposed.first_at in
        let b = get_front rows n w.upper w.second w.opposed.second_at in
        let first_at : slice_get rows lower ≡ Some w.first = ap (slice_get rows) (sym low) ∙ a.0 in
        let second_at : slice_get rows upper ≡ Some w.second = ap (slice_get rows) (sym up) ∙ b.0 in
        let f : w.first ≡ get_or rows lower r = sym (get_or_from_slice_get rows lower w.first r first_at) in
        let s : w.second ≡ get_or rows upper r = sym (get_or_from_slice_get rows upper w.second r second_at) in
        let strict = w.first.strict || w.second.strict in
        let form : record { lin = w.of.form; strict = strict } ≡ was r = sym (was_form w.of.form strict r w.of.of) in
        let one : IsCombinationOf (kept w.first) (kept w.second) (record { lin = w.of.form; strict = strict }) = record {
          name = w.name;
          below = w.opposed.below;
          above = w.opposed.above;
          first_normal = w.opposed.normal.0;
          second_normal = w.opposed.normal.1;
          strict = refl;
          normal = w.of.form_normal;
          same = w.of.same;
          fits = w.fits;
        } in
        record {
          lower_before = subst (λ k. k < n) low a.1;
          upper_before = subst (λ k. k < n) up b.1;
          combined = subst (λ (x : Row). IsCombinationOf (kept x) (kept (get_or rows upper r)) (was r)) f (subst (λ (x : Row). IsCombinationOf (kept w.first) (kept x) (was r)) s (subst (IsCombinationOf (kept w.first) (kept w.second)) form one));
          first = first_at ∙ ap Some f;
          second = second_at ∙ ap Some s;
        }

    parent_marked : (lower upper p : ℕ) → marked marks n ≡ true → r.from ≡ Combined lower upper → Contains (lower ∷ upper ∷ []) p → marked marks p ≡ true
    parent_marked lower upper p m h c =
        ready.closed n p m (subst (λ ks. Contains ks p) (sym (ap (λ o. or_else (o >>= λ (x : Row). Some (parents x.from)) []) here ∙ ap parents h)) c)

    pub lower_said : (lower upper : ℕ) (e : Emitted) → marked marks n ≡ true → r.from ≡ Combined lower upper → AreEmitted sig ts real rows given marks n e
        → IsSaid sig ts real e.deriv.lines (get_or e.places lower 0) (kept (get_or rows lower r))
    lower_said lower upper e m h a = let w = made lower upper h in a.said lower _ w.lower_before (parent_marked lower upper lower m h (0, (let l : 0 < 2 = omega arith in l), refl)) w.first

    pub upper_said : (lower upper : ℕ) (e : Emitted) → marked marks n ≡ true → r.from ≡ Combined lower upper → AreEmitted sig ts real rows given marks n e
        → IsSaid sig ts real e.deriv.lines (get_or e.places upper 0) (kept (get_or rows upper r))
    upper_said lower upper e m h a = let w = made lower upper h in a.said upper _ w.upper_before (parent_marked lower upper upper m h (1, (let l : 1 < 2 = omega arith in l), refl)) w.second

    pub roundable_here : marked marks n ≡ true → IsRoundable ts real r
    roundable_here m = ready.roundable n r m here
