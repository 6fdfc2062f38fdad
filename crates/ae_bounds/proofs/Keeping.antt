-- The state of an object after rows were added.
use Rattle.std.specs.Prelude.{ℕ, ◌+◌, ◌<◌, ◌≤◌, ◌≡◌, Bool, true, ◌||◌, List, [], ◌∷◌, ◌++◌, Result, Ok, Err, OnOk, OnErr, cond, nat_eq, IfSome, Option, Some, None, length, take, slice_get}
use Rattle.std.proofs.lemmas.List.Elements.{Contains-append_cases}
use Rattle.std.proofs.lemmas.Option.{slice_get_within}
use Rattle.std.proofs.lemmas.List.{take-append-le}
use Rattle.std.proofs.Math.Seq.{take-append_seam}
use native.Mathlib.Decide.{dec_lt}
use Rattle.ae_base.proofs.ListFacts.{get_seam, get_append}
use Rattle.std.proofs.Common.{arith, refl, sym, ap, ◌∙◌, subst, inl, inr, length-append}
use Rattle.ae_journal.specs.declared.lines.Line.{Line}
use Rattle.ae_num.specs.declared.forms.Lin.{Lin}
use Rattle.ae_num.specs.Forms.{IsNormal}
use Rattle.ae_journal.proofs.Splits.{contains_one}
use Rattle.ae_bounds.specs.declared.rows.Row.{Row}
use Rattle.ae_bounds.specs.declared.rows.Unrounded.{Unrounded}
use Rattle.ae_bounds.specs.Rounding.{StaysUnrounded, IsRowOf, WasRounded, AreRounded, AreSettled}
use Rattle.ae_bounds.specs.Rounding.IsRowOf.{as_it_is, rounded}
use Rattle.ae_bounds.proofs.Sums.{some_none}
use Rattle.ae_bounds.proofs.Indexing.{same_some}
use Rattle.ae_bounds.specs.declared.rows.Origin.{Origin}
use Rattle.ae_bounds.specs.declared.rows.Origin.TheVariants.{Assumed, Combined}
use Rattle.ae_bounds.specs.declared.directions.Direction.{Direction}
use Rattle.ae_bounds.specs.Combinations.{IsCombined, IsExtended, AreClosed}
use Rattle.ae_bounds.specs.Combinations.IsExtended.{as_it_was, one_more, zero_more}
use Rattle.ae_bounds.specs.Findings.{AreFounded}
use Rattle.ae_bounds.specs.Inner.Directions.{AreIndexed}
use Rattle.ae_bounds.specs.Inner.Pairs.{ArePaired, AreClosedBelow, IsKept}
use Rattle.std.specs.Option.{option_map_or}
use Rattle.ae_num.specs.declared.forms.Part.{Part}
use Rattle.ae_ineq.specs.Inner.Sets.{last_part}
use Rattle.ae_bounds.specs.Inner.Heads.{IsLastBefore, IsHeadOf}
use Rattle.ae_bounds.proofs.LargestNames.{heads_append, heads_entered}
use Rattle.ae_bounds.proofs.Lasts.{closed_all}
use Rattle.ae_bounds.proofs.Closing.{done_append, place_less, grown, longer, closed_step}

pub pairs_append : (rows more : List Row) (k : ℕ) → k ≤ length rows → AreClosedBelow k rows → AreClosedBelow k (rows ++ more)
pairs_append rows more k h closed i j li lj p q o a b c =
    done_append rows more p q o.name (closed i j li lj p q o (place_less rows more i p (omega (arith, h, li)) a) (place_less rows more j q (omega (arith, h, lj)) b) c)

-- ---- combinations of rows before them
pub founded_push : (rows : List Row) (r : Row) → AreFounded rows → ((lower upper : ℕ) → r.from ≡ Combined lower upper → IsCombined rows r) → AreFounded (rows ++ r ∷ [])
founded_push rows r founded new k lower upper t e o = by_place (dec_lt k (length rows))
  where
    by_place : Dec (k < length rows) → IsCombined (take k (rows ++ r ∷ [])) t
    by_place (yes l) = subst (λ (w : List Row). IsCombined w t) (sym (take-append-le k rows (r ∷ []) (omega (arith, l)))) (founded k lower upper t (place_less rows (r ∷ []) k t l e) o)
    by_place (no m) =
        let within = slice_get_within (rows ++ r ∷ []) k t e in
        let long = length-append rows (r ∷ []) in
        let last : length rows ≡ k = omega (arith, within, long, m) in
        let some : Some r ≡ Some t = sym (get_seam rows [] r) ∙ ap (slice_get (rows ++ r ∷ [])) last ∙ e in
        let same : r ≡ t = cc in
        subst (λ (w : List Row). IsCombined w t) (sym (take-append_seam rows (r ∷ [])) ∙ ap (λ n. take n (rows ++ r ∷ [])) last)
        (subst (λ (s : Row). IsCombined rows s) same (new lower upper (ap (λ (s : Row). s.from) same ∙ o)))

founded_extended : (rows : List Row) (js : List Line) (rs : List Row) (ks : List Line) → IsExtended rows js rs ks → AreFounded rows → AreFounded rs
founded_extended rows js _ _ as_it_was f = f
founded_extended rows js _ _ (one_more rs ks r e c n) f = founded_push rs r (founded_extended rows js rs ks e f) (λ i j o. c)
founded_extended rows js _ _ (zero_more rs ks r e c z) f = founded_push rs r (founded_extended rows js rs ks e f) (λ i j o. c)

-- ---- rounded rows
row_rounded : (l : Lin) (strict : Bool) (r : Row) → IsNormal l → IsNormal r.lin → IsRowOf l strict r → (u : Unrounded) → r.unrounded ≡ Some u → WasRounded u r
row_rounded l strict r n o (as_it_is a b c d) u e = absurd (some_none u r.unrounded e c)
row_rounded l strict r n o (rounded a b c d f) u e =
    subst (λ (v : Unrounded). WasRounded v r) (same_some (record { lin = l; strict = strict }) u r.unrounded f e) (record { integral = a; normal = n; names = b; is = c; loose = d; row_normal = o })

pub assumed_rounded : (l : Lin) (strict : Bool) (r : Row) → IsNormal l → IsNormal r.lin → IsRowOf l strict r → (u : Unrounded) → r.unrounded ≡ Some u → WasRounded u r
assumed_rounded l strict r n o h u e = row_rounded l strict r n o h u e

pub unrounded_normal : (r : Row) → ((u : Unrounded) → r.unrounded ≡ Some u → WasRounded u r) → IfSome r.unrounded (λ u. IsNormal u.lin)
unrounded_normal r h = by_case r.unrounded refl
  where
    by_case : (o : Option Unrounded) → r.unrounded ≡ o → IfSome o (λ u. IsNormal u.lin)
    by_case None e = tt
    by_case (Some u) e = (h u e).normal

rounded_push : (rows : List Row) (r : Row) → AreRounded rows → ((u : Unrounded) → r.unrounded ≡ Some u → WasRounded u r) → AreRounded (rows ++ r ∷ [])
rounded_push rows r a new t u c e =
    elim (Contains-append_cases rows (r ∷ []) t c) [
      | inl h ↦ a t u h e
      | inr h ↦ (let s = contains_one r t h in subst (WasRounded u) s (new u (ap (λ (y : Row). y.unrounded) s ∙ e)))
    ]

rounded_extended : (rows : List Row) (js : List Line) (rs : List Row) (ks : List Line) → IsExtended rows js rs ks → AreRounded rows → AreRounded rs
rounded_extended rows js _ _ as_it_was f = f
rounded_extended rows js _ _ (one_more rs ks r e c n) f =
    rounded_push rs r (rounded_extended rows js rs ks e f) (row_rounded c.of.form (c.first.strict || c.second.strict) r c.of.form_normal c.of.normal c.of.of)
rounded_extended rows js _ _ (zero_more rs ks r e c z) f =
    rounded_push rs r (rounded_extended rows js rs ks e f) (row_rounded c.of.form (c.first.strict || c.second.strict) r c.of.form_normal c.of.normal c.of.of)

-- ---- rows that weren't
pub row_settled : (l : Lin) (strict : Bool) (r : Row) → IsRowOf l strict r → r.unrounded ≡ None → r.integral ≡ true → StaysUnrounded r.strict r.lin
row_settled l strict r (as_it_is a b c d) u i = subst (λ s. StaysUnrounded s r.lin) (sym b) (subst (StaysUnrounded strict) (sym a) (d i))
row_settled l strict r (rounded a b c d f) u i = absurd (some_none (record { lin = l; strict = strict }) r.unrounded f u)

settled_push : (rows : List Row) (r : Row) → AreSettled rows → (r.unrounded ≡ None → r.integral ≡ true → StaysUnrounded r.strict r.lin) → AreSettled (rows ++ r ∷ [])
settled_push rows r a new t c e i =
    elim (Contains-append_cases rows (r ∷ []) t c) [
      | inl h ↦ a t h e i
      | inr h ↦ subst (λ (y : Row). y.unrounded ≡ None → y.integral ≡ true → StaysUnrounded y.strict y.lin) (contains_one r t h) new e i
    ]

settled_extended : (rows : List Row) (js : List Line) (rs : List Row) (ks : List Line) → IsExtended rows js rs ks → AreSettled rows → AreSettled rs
settled_extended rows js _ _ as_it_was f = f
settled_extended rows js _ _ (one_more rs ks r e c n) f = settled_push rs r (settled_extended rows js rs ks e f) (row_settled c.of.form (c.first.strict || c.second.strict) r c.of.of)
settled_extended rows js _ _ (zero_more rs ks r e c z) f = settled_push rs r (settled_extended rows js rs ks e f) (row_settled c.of.form (c.first.strict || c.second.strict) r c.of.of)

at_more : (rows rs : List Row) (js ks : List Line) (k : ℕ) (r : Row) → IsExtended rows js rs ks → slice_get rows k ≡ Some r → slice_get rs k ≡ Some r
at_more rows rs js ks k r e at = let g = grown rows js rs ks e in ap (λ (w : List Row). slice_get w k) g.1 ∙ get_append rows g.0 k r at

-- ---- the state
-- more rows behind those that have all their combinations
kept_append : (rows more : List Row) (ds es : List Direction) (latest : ℕ → Option ℕ) (earlier : List (Option ℕ)) → IsKept rows ds latest earlier → AreIndexed (rows ++ more) es → AreFounded (rows ++ more) → AreRounded (rows ++ more)
    → AreSettled (rows ++ more) → IsKept (rows ++ more) es latest earlier
kept_append rows more ds es latest earlier i x f a s =
    let h = i.within in
    let l = length-append rows more in
    record {
      indexed = x;
      within = omega (arith, h, l);
      founded = f;
      rounded = a;
      settled = s;
      heads = heads_append rows more latest earlier h i.heads;
      pairs = pairs_append rows more (length earlier) h i.pairs;
    }

pub kept_more : (rows rs : List Row) (js ks : List Line) (ds es : List Direction) (latest : ℕ → Option ℕ) (earlier : List (Option ℕ)) → IsExtended rows js rs ks → IsKept rows ds latest earlier → AreIndexed rs es → IsKept rs es latest earlier
kept_more rows rs js ks ds es latest earlier e i x =
    let g = grown rows js rs ks e in
    subst (λ (w : List Row). IsKept w es latest earlier) (sym g.1)
    (kept_append rows g.0 ds es latest earlier i (subst (λ (w : List Row). AreIndexed w es) g.1 x) (subst AreFounded g.1 (founded_extended rows js rs ks e i.founded))
    (subst AreRounded g.1 (rounded_extended rows js rs ks e i.rounded)) (subst AreSettled g.1 (settled_extended rows js rs ks e i.settled)))

-- one row more has all its combinations
pub kept_step : (rows rs : List Row) (js ks : List Line) (ds es : List Direction) (latest new : ℕ → Option ℕ) (earlier : List (Option ℕ)) (r : Row) (part : Option Part) (head : Option ℕ) → IsExtended rows js rs ks
    → IsKept rows ds latest earlier → AreIndexed rs es → ArePaired rows (length earlier) (length earlier) rs → slice_get rows (length earlier) ≡ Some r → part ≡ last_part r.lin.parts → IsHeadOf latest part head
    → ((q : ℕ) → new q ≡ option_map_or (λ p. cond (nat_eq p.key q) (Some (length earlier)) (latest q)) part (latest q)) → IsKept rs es new (earlier ++ head ∷ [])
kept_step rows rs js ks ds es latest new earlier r part head e i x pairs at last h updates =
    let k = kept_more rows rs js ks ds es latest earlier e i x in
    let n = longer rows rs js ks e in
    let w = slice_get_within rows (length earlier) r at in
    let l : length (earlier ++ head ∷ []) ≡ length earlier + 1 = length-append earlier (head ∷ []) in
    record {
      indexed = x;
      within = omega (arith, n, w, l);
      founded = k.founded;
      rounded = k.rounded;
      settled = k.settled;
      heads = heads_entered rs latest new earlier r part head k.heads (at_more rows rs js ks (length earlier) r e at) last h updates;
      pairs = subst (λ m. AreClosedBelow m rs) (sym l) (closed_step rows rs js ks (length earlier) w e pairs i.pairs);
    }

pub kept_added : {T E : Type 0} (result : Result T E) (rows new : List Row) (r : Row) (ds es : List Direction) (latest : ℕ → Option ℕ) (earlier : List (Option ℕ)) → OnOk result (new ≡ rows ++ r ∷ []) → OnErr result ((new ≡ rows) × (es ≡ ds))
    → ((lower upper : ℕ) → r.from ≡ Combined lower upper → ⊥) → ((u : Unrounded) → r.unrounded ≡ Some u → WasRounded u r) → (r.unrounded ≡ None → r.integral ≡ true → StaysUnrounded r.strict r.lin) → IsKept rows ds latest earlier → AreIndexed new es → IsKept new es latest earlier
kept_added (Ok t) rows new r ds es latest earlier a b o u s i x =
    subst (λ (w : List Row). IsKept w es latest earlier) (sym a)
    (kept_append rows (r ∷ []) ds es latest earlier i (subst (λ (w : List Row). AreIndexed w es) a x) (founded_push rows r i.founded (λ lower upper e. absurd (o lower upper e))) (rounded_push rows r i.rounded u) (settled_push rows r i.settled s))
kept_added (Err f) rows new r ds es latest earlier a b o u s i x =
    subst (λ (w : List Row). IsKept w es latest earlier) (sym b.0) (subst (λ (w : List Direction). IsKept rows w latest earlier) (sym b.1) i)

pub none_kept : (latest : ℕ → Option ℕ) → ((n : ℕ) → latest n ≡ None) → IsKept [] [] latest []
none_kept latest none = record {
  indexed = record { normal = tt; each = λ r l c. absurd (let h = c.1 in omega (arith, h)); own = λ d c. absurd (let h = c.1 in omega (arith, h)) };
  within = omega arith;
  founded = λ k lower upper r e o. absurd (let h = slice_get_within [] k r e in omega (arith, h));
  rounded = λ r u c. absurd (let h = c.1 in omega (arith, h));
  settled = λ r c e i. absurd (let h = c.1 in omega (arith, h));
  heads = record {
    last = λ n. subst (IsLastBefore [] n 0) (sym (none n)) (λ k l s. absurd (omega (arith, s)));
    before = λ k n o a e. absurd (let h = slice_get_within [] k o e in omega (arith, h));
  };
  pairs = λ i j l m. absurd (omega (arith, l));
}

pub not_combined : (tag lower upper : ℕ) → ◌≡◌ {A = Origin} (Assumed tag) (Combined lower upper) → ⊥
not_combined tag lower upper e = cc

pub closed_kept : (rows : List Row) (ds : List Direction) (latest : ℕ → Option ℕ) (earlier : List (Option ℕ)) → length rows ≤ length earlier → IsKept rows ds latest earlier → AreClosed rows
closed_kept rows ds latest earlier h i = closed_all rows i.indexed.normal (λ l m a b. i.pairs l m (omega (arith, h, a)) (omega (arith, h, b)))

-- the same rows, entered as before
pub kept_same : (rows : List Row) (ds : List Direction) (latest new : ℕ → Option ℕ) (earlier es : List (Option ℕ)) → es ≡ earlier → ((q : ℕ) → new q ≡ latest q) → IsKept rows ds latest earlier → IsKept rows ds new es
kept_same rows ds latest new earlier es e same i =
    subst (λ (xs : List (Option ℕ)). IsKept rows ds new xs) (sym e)
    (record {
      indexed = i.indexed;
      within = i.within;
      founded = i.founded;
      rounded = i.rounded;
      settled = i.settled;
      heads = record { last = λ n. subst (IsLastBefore rows n (length earlier)) (sym (same n)) (i.heads.last n); before = i.heads.before };
      pairs = i.pairs;
    })
