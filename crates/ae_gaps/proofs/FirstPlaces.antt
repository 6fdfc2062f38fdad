-- Where a line that pairs two left sides was first noted, after one more line.
use Rattle.std.specs.Option.{is_some}
use Rattle.std.specs.Prelude.{ℕ, zero, suc, ◌+◌, ◌-◌, ◌<◌, ◌≤◌, ◌⊎◌, ◌≡◌, min, MatchBool, List, [], ◌∷◌, ◌++◌, length, take, slice_get, Option, Some, None}
use Rattle.std.specs.List.{Contains}
use Rattle.std.proofs.Common.{refl, sym, ap, ◌∙◌, subst, arith, inl, inr, append_assoc, length-append}
use Rattle.std.proofs.lemmas.Bool.{cases_lt}
use Rattle.std.proofs.lemmas.List.{append-nil, take_more}
use Rattle.std.proofs.lemmas.List.Elements.{Contains-append_left, Contains-append_right, Contains-push_cases}
use Rattle.std.proofs.lemmas.Option.{none-some, same_Some, slice_get_within, get_or_from_slice_get}
use Rattle.ae_core.specs.declared.formulas.Lit.{Lit}
use Rattle.ae_core.specs.declared.problems.AcSymbol.{AcSymbol}
use Rattle.ae_journal.specs.Journals.{before_decision, after_line, decisions, live}
use Rattle.ae_journal.specs.declared.lines.Line.{Line}
use Rattle.ae_journal.specs.declared.lines.Line.TheVariants as line
use Rattle.ae_journal.proofs.Living.{decisions-append, cut_behind, cut_at, live_push}
use Rattle.ae_journal.proofs.Splits.{contains_here}
use Rattle.ae_gaps.specs.declared.orders.Place.{Place}
use Rattle.ae_gaps.specs.Inner.Places.{IsFirstAt, IsPlaced}

-- ---- lines and decisions
pub after_other : (kept : List Line) (j : Line) → ((n : ℕ) → j ≡ line.Back n → ⊥) → after_line kept j ≡ kept ++ j ∷ []
after_other kept (line.Back n) d = absurd (d n refl)
after_other kept (line.Decide l) d = refl
after_other kept (line.Orient o) d = refl
after_other kept (line.Drop o) d = refl
after_other kept (line.Pair u a b) d = refl
after_other kept (line.Learn c) d = refl
after_other kept (line.TypeInstance k ss) d = refl
after_other kept (line.TermInstance f ts) d = refl
after_other kept (line.Combine b f) d = refl

pub no_decision : (j : Line) → ((l : Lit) → j ≡ line.Decide l → ⊥) → decisions (j ∷ []) ≡ []
no_decision (line.Decide l) d = absurd (d l refl)
no_decision (line.Back n) d = refl
no_decision (line.Orient o) d = refl
no_decision (line.Drop o) d = refl
no_decision (line.Pair u a b) d = refl
no_decision (line.Learn c) d = refl
no_decision (line.TypeInstance k ss) d = refl
no_decision (line.TermInstance f ts) d = refl
no_decision (line.Combine b f) d = refl

-- lines that are cut at decision number n
record IsCut (js : List Line) (n : ℕ) : Type 0 where
  before : List Line
  at : Lit
  after : List Line
  is : js ≡ before ++ line.Decide at ∷ after
  many : length (decisions before) ≡ n

one_before : (j : Line) (js : List Line) (n : ℕ) → decisions (j ∷ []) ≡ [] → IsCut js n → IsCut (j ∷ js) n
one_before j js n e c =
    record {
      before = j ∷ c.before;
      at = c.at;
      after = c.after;
      is = ap (λ (ls : List Line). j ∷ ls) c.is;
      many = ap length (decisions-append (j ∷ []) c.before ∙ ap (λ (ls : List Lit). ls ++ decisions c.before) e) ∙ c.many;
    }

cut_there : (n : ℕ) (js : List Line) → n < length (decisions js) → IsCut js n
cut_there n [] h = absurd (omega (arith, h))
cut_there zero (line.Decide l ∷ js) h = record { before = []; at = l; after = js; is = refl; many = refl }
cut_there (suc n) (line.Decide l ∷ js) h =
    let c = cut_there n js (omega (arith, h)) in
    record { before = line.Decide l ∷ c.before; at = c.at; after = c.after; is = ap (λ (ls : List Line). line.Decide l ∷ ls) c.is; many = ap suc c.many }
cut_there n (line.Orient o ∷ js) h = one_before (line.Orient o) js n refl (cut_there n js h)
cut_there n (line.Drop o ∷ js) h = one_before (line.Drop o) js n refl (cut_there n js h)
cut_there n (line.Pair u a b ∷ js) h = one_before (line.Pair u a b) js n refl (cut_there n js h)
cut_there n (line.Learn c ∷ js) h = one_before (line.Learn c) js n refl (cut_there n js h)
cut_there n (line.TypeInstance k ss ∷ js) h = one_before (line.TypeInstance k ss) js n refl (cut_there n js h)
cut_there n (line.TermInstance f ts ∷ js) h = one_before (line.TermInstance f ts) js n refl (cut_there n js h)
cut_there n (line.Combine b f ∷ js) h = one_before (line.Combine b f) js n refl (cut_there n js h)
cut_there n (line.Back k ∷ js) h = one_before (line.Back k) js n refl (cut_there n js h)

-- what is cut off
cut_is : (js : List Line) (n : ℕ) (c : IsCut js n) → before_decision n js ≡ c.before
cut_is js n c = ap (before_decision n) c.is ∙ cut_at n c.before c.after c.at c.many

cut_all : (js : List Line) (n : ℕ) → length (decisions js) ≤ n → before_decision n js ≡ js
cut_all js n h = ap (before_decision n) (sym (append-nil js)) ∙ cut_behind n js [] h ∙ append-nil js

cut_many : (js : List Line) (n : ℕ) → length (decisions (before_decision n js)) ≡ min n (length (decisions js))
cut_many js n = by_case (cases_lt n (length (decisions js)))
  where
    by_case : (n < length (decisions js)) ⊎ (length (decisions js) ≤ n) → length (decisions (before_decision n js)) ≡ min n (length (decisions js))
    by_case (inl l) =
        let c = cut_there n js l in
        let e : length (decisions (before_decision n js)) ≡ length (decisions c.before) = ap (λ (ls : List Line). length (decisions ls)) (cut_is js n c) in
        omega (arith, e, c.many, l)
    by_case (inr l) =
        let e : length (decisions (before_decision n js)) ≡ length (decisions js) = ap (λ (ls : List Line). length (decisions ls)) (cut_all js n l) in
        omega (arith, e, l)

-- what stands after a cut stood before it
cut_contains : (js : List Line) (n : ℕ) (x : Line) → Contains (before_decision n js) x → Contains js x
cut_contains js n x h = by_case (cases_lt n (length (decisions js)))
  where
    by_case : (n < length (decisions js)) ⊎ (length (decisions js) ≤ n) → Contains js x
    by_case (inl l) =
        let c = cut_there n js l in
        subst (λ (ls : List Line). Contains ls x) (sym c.is)
        (Contains-append_left c.before (line.Decide c.at ∷ c.after) x (subst (λ (ls : List Line). Contains ls x) (cut_is js n c) h))
    by_case (inr l) = subst (λ (ls : List Line). Contains ls x) (cut_all js n l) h

-- a cut before the lines js ends leaves nothing of what is behind them
cut_within : (js ls : List Line) (n : ℕ) (x : Line) → n < length (decisions js) → Contains (before_decision n (js ++ ls)) x → Contains js x
cut_within js ls n x l h =
    let c = cut_there n js l in
    let whole : js ++ ls ≡ c.before ++ line.Decide c.at ∷ (c.after ++ ls) = ap (λ (ks : List Line). ks ++ ls) c.is ∙ append_assoc c.before (line.Decide c.at ∷ c.after) ls in
    let is : before_decision n (js ++ ls) ≡ c.before = ap (before_decision n) whole ∙ cut_at n c.before (c.after ++ ls) c.at c.many in
    subst (λ (ks : List Line). Contains ks x) (sym c.is) (Contains-append_left c.before (line.Decide c.at ∷ c.after) x (subst (λ (ks : List Line). Contains ks x) is h))

cut_pair : (n : ℕ) (u : AcSymbol) (a b : List ℕ) (js : List Line) → before_decision n (line.Pair u a b ∷ js) ≡ line.Pair u a b ∷ before_decision n js
cut_pair zero u a b js = refl
cut_pair (suc n) u a b js = refl

-- ---- the place after one more line
pub placed_none : (x : Line) (place : Place) → place.decided ≡ 0 → place.noted ≡ None → IsPlaced [] x place
placed_none x place e f =
    record { decided = sym e; none = λ q c. omega (arith, c.1); some = λ k q. absurd (none-some k (sym f ∙ q)) }

module _ (kept : List Line) (x : Line) (place : Place) (p : IsPlaced kept x place) where
  pushed_decisions : (j : Line) → length (decisions (kept ++ j ∷ [])) ≡ place.decided + length (decisions (j ∷ []))
  pushed_decisions j = ap length (decisions-append kept (j ∷ [])) ∙ length-append (decisions kept) (decisions (j ∷ [])) ∙ ap (λ (k : ℕ). k + length (decisions (j ∷ []))) p.decided

  first_more : (j : Line) (k : ℕ) → IsFirstAt kept x k → IsFirstAt (kept ++ j ∷ []) x k
  first_more j k f =
      record {
        before = f.before;
        after = f.after ++ j ∷ [];
        is = ap (λ (ls : List Line). ls ++ j ∷ []) f.is ∙ append_assoc f.before (x ∷ f.after) (j ∷ []);
        many = f.many;
        first = f.first;
      }

  -- another line
  pub placed_other : (j : Line) (next : Place) → (j ≡ x → ⊥) → next.decided ≡ place.decided + length (decisions (j ∷ [])) → next.noted ≡ place.noted → IsPlaced (kept ++ j ∷ []) x next
  placed_other j next d e f =
      record {
        decided = pushed_decisions j ∙ sym e;
        none = λ q c. elim (Contains-push_cases kept j x c) [ inl h ↦ p.none (sym f ∙ q) h | inr h ↦ d h ];
        some = λ k q. first_more j k (p.some k (sym f ∙ q));
      }

  -- the line itself, for the first time or once more
  pub placed_first : (next : Place) → decisions (x ∷ []) ≡ [] → place.noted ≡ None → next.decided ≡ place.decided → next.noted ≡ Some place.decided → IsPlaced (kept ++ x ∷ []) x next
  placed_first next w none e f =
      record {
        decided = pushed_decisions x ∙ (let l : length (decisions (x ∷ [])) ≡ 0 = ap length w in omega (arith, l, e));
        none = λ q c. none-some place.decided (sym q ∙ f);
        some = λ k q. record { before = kept; after = []; is = refl; many = p.decided ∙ same_Some place.decided k (sym f ∙ q); first = p.none none };
      }

  pub placed_again : (k : ℕ) → decisions (x ∷ []) ≡ [] → place.noted ≡ Some k → IsPlaced (kept ++ x ∷ []) x place
  placed_again k w at =
      record {
        decided = pushed_decisions x ∙ (let l : length (decisions (x ∷ [])) ≡ 0 = ap length w in omega (arith, l));
        none = λ q c. none-some k (sym q ∙ at);
        some = λ m q. first_more x m (p.some m q);
      }

-- decisions are undone
module _ (kept : List Line) (u : AcSymbol) (a b : List ℕ) (place : Place) (p : IsPlaced kept (line.Pair u a b) place) where
  abbrev X : Line
  X = line.Pair u a b

  first_kept : (n k : ℕ) → k ≤ n → IsFirstAt kept X k → IsFirstAt (before_decision n kept) X k
  first_kept n k l f =
      record {
        before = f.before;
        after = before_decision (n - length (decisions f.before)) f.after;
        is =
            ap (before_decision n) f.is ∙ cut_behind n f.before (X ∷ f.after) (omega (arith, l, f.many))
            ∙ ap (λ (ls : List Line). f.before ++ ls) (cut_pair (n - length (decisions f.before)) u a b f.after);
        many = f.many;
        first = f.first;
      }

  none_kept : (n k : ℕ) → n < k → IsFirstAt kept X k → Contains (before_decision n kept) X → ⊥
  none_kept n k l f c =
      f.first (cut_within f.before (X ∷ f.after) n X (omega (arith, l, f.many)) (subst (λ (ls : List Line). Contains (before_decision n ls) X) f.is c))

  by_noted : (n : ℕ) (o : Option ℕ) → place.noted ≡ o → ((k : ℕ) → place.noted ≡ Some k → n < k) → Contains (before_decision n kept) X → ⊥
  by_noted n None e gone c = p.none e (cut_contains kept n X c)
  by_noted n (Some k) e gone c = none_kept n k (gone k e) (p.some k e) c

  pub placed_back : (n : ℕ) (next : Place) → next.decided ≡ min n place.decided → ((k : ℕ) → next.noted ≡ Some k → (place.noted ≡ Some k) × (k ≤ n))
      → ((k : ℕ) → next.noted ≡ None → place.noted ≡ Some k → n < k) → IsPlaced (before_decision n kept) X next
  placed_back n next e stays gone =
      record {
        decided = cut_many kept n ∙ ap (min n) p.decided ∙ sym e;
        none = λ q c. by_noted n place.noted refl (λ k at. gone k q at) c;
        some = λ k q. (let h = stays k q in first_kept n k h.1 (p.some k h.0));
      }

-- ---- at the end
placed_test : (kept : List Line) (x : Line) (place : Place) → IsPlaced kept x place → (k : ℕ) → place.noted ≡ Some k → Contains kept x
placed_test kept x place p k at =
    let f = p.some k at in
    subst (λ (ls : List Line). Contains ls x) (sym f.is) (Contains-append_right f.before (x ∷ f.after) x (contains_here x f.after))

-- ---- a list of lines, one after another
pub decide_apart : (l : Lit) (u : AcSymbol) (a b : List ℕ) → line.Decide l ≡ line.Pair u a b → ⊥
decide_apart l u a b e = cc

pub live_taken : (js : List Line) (i : ℕ) (j : Line) → slice_get js i ≡ Some j → live (take (i + 1) js) ≡ after_line (live (take i js)) j
live_taken js i j e =
    ap live (take_more js i j (slice_get_within js i j e)) ∙ ap (λ (k : Line). live (take i js ++ k ∷ [])) (get_or_from_slice_get js i j j e) ∙ live_push (take i js) j

pub placed_end : (kept : List Line) (x : Line) (place : Place) → IsPlaced kept x place → (o : Option ℕ) → place.noted ≡ o → MatchBool (is_some o) (Contains kept x) (Contains kept x → ⊥)
placed_end kept x place p (Some k) e = placed_test kept x place p k e
placed_end kept x place p None e = p.none e
