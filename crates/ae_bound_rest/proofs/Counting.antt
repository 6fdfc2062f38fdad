-- Rows that count, and combinations that were noted and added.
use Rattle.std.specs.Prelude.{ℕ, suc, ◌<◌, Bool, true, false, ◌&&◌, ◌||◌, List, [], ◌∷◌, ◌++◌, map, take, length, ◌≡◌, ◌≢◌, Option, Some, None, Result, Ok, Err, OnOk, OnErr, IfSome, IfNone}
use Rattle.std.specs.List.{AllByRecursion, Contains}
use Rattle.std.proofs.Common.{refl, sym, ap, ◌∙◌, subst, arith, inl, inr, get_or, append_assoc}
use Rattle.std.proofs.Math.Seq.{take-suc}
use Rattle.std.proofs.lemmas.List.{append-nil, map_push}
use Rattle.std.proofs.lemmas.List.Elements.{Contains-append_left, Contains-append_right, Contains-append_cases}
use native.Mathlib.Decide.{ℕ_discrete}
use Rattle.ae_math.specs.Fractions.{one_ℚ}
use Rattle.ae_math.specs.Forms.{Form}
use Rattle.ae_math.proofs.FormLaws.{scale_one}
use Rattle.ae_num.specs.declared.forms.Lin.{Lin}
use Rattle.ae_num.specs.Forms.{meaning, IsNormal, SameMeaning}
use Rattle.ae_rows.specs.Rows.{combination}
use Rattle.ae_rows.proofs.Choosing.{positive_one}
use Rattle.ae_journal.specs.Noted.{Noted}
use Rattle.ae_journal.specs.declared.answers.WideAt.{WideAt}
use Rattle.ae_journal.specs.Sides.{IsRounded}
use Rattle.ae_rounding.specs.Outside.{IsOutside}
use Rattle.ae_journal.specs.declared.lines.Line.{Line}
use Rattle.ae_journal.specs.declared.lines.Line.TheVariants as line
use Rattle.ae_journal.proofs.Splits.{all_contained, contains_here, contains_one}
use Rattle.ae_theory.specs.declared.theory.Fail.{Fail}
use Rattle.ae_bounds.specs.declared.rows.Row.{Row}
use Rattle.ae_bounds.specs.declared.rows.Unrounded.{Unrounded}
use Rattle.ae_bounds.specs.declared.rows.Origin.{Origin}
use Rattle.ae_bounds.specs.declared.rows.Origin.TheVariants.{Assumed, Combined}
use Rattle.ae_bounds.specs.declared.directions.Direction.{Direction}
use Rattle.ae_bounds.specs.Rounding.{DoesCount, AreRounded}
use Rattle.ae_bounds.specs.Combinations.{IsThere}
use Rattle.ae_bounds.specs.Inner.Directions.{IsEarlier, AreIndexed}
use Rattle.ae_bounds.specs.declared.combining.Opposed.{Opposed}
use Rattle.ae_bounds.specs.Inner.Pairs.{HaveLast, IsCombineWide}
use Rattle.ae_bounds.proofs.OwnForms.{own_unrounded}
use Rattle.ae_bounds.proofs.Lasts.{lower_last, upper_last}
use Rattle.ae_bounds.proofs.Closing.{there_append, opposed_lower, opposed_upper, one_opposed}
use Rattle.ae_bound_rest.specs.Rest.{plain, counted, counted_of, IsRoundingOf, IsStandingIn, AreOpposedIn, IsFormRow, IsMade, IsGrown, IsDoneIn, IsWideOf}
use Rattle.ae_bound_rest.specs.Rest.IsGrown.{as_it_was, one_more}
use Rattle.ae_bound_rest.specs.Inner.Pairs.{IsPlain, IsItself, IsBoth, IsOneOf, AreNormal, IsOneRow, IsDoneOn, AreCounted}
use Rattle.ae_bound_rest.specs.declared.combining.Both.{Both}
use Rattle.ae_bound_rest.proofs.Roundings.{rounded_one, outside_none}

-- ---- the rows that count for kept ones
pub counted_cases : (P : Row → Type 0) (r : Row) → ((tag : ℕ) (u : Unrounded) → r.from ≡ Assumed tag → r.unrounded ≡ Some u → P (plain u.lin u.strict r.integral r.counts))
    → ((tag : ℕ) → r.from ≡ Assumed tag → P (plain r.lin r.strict r.integral r.counts)) → ((lower upper : ℕ) → r.from ≡ Combined lower upper → P (plain r.lin r.strict r.integral true)) → P (counted r)
counted_cases P r a b c = by_both r.from r.unrounded refl refl
  where
    by_both : (o : Origin) (u : Option Unrounded) → r.from ≡ o → r.unrounded ≡ u → P (counted_of o u r)
    by_both (Assumed tag) (Some u) e f = a tag u e f
    by_both (Assumed tag) None e f = b tag e
    by_both (Combined lower upper) u e f = c lower upper e

pub counted_plain : (r : Row) → IsPlain (counted r)
counted_plain r = counted_cases IsPlain r (λ tag u e f. refl) (λ tag e. refl) (λ i j e. refl)

-- it counts where the kept one does
pub counted_does : (r : Row) → DoesCount r → (counted r).counts ≡ true
counted_does r d = counted_cases (λ (y : Row). y.counts ≡ true) r (λ tag u e f. d tag e) (λ tag e. d tag e) (λ i j e. refl)

pub counts_back : (r : Row) (tag : ℕ) → r.from ≡ Assumed tag → (counted r).counts ≡ true → r.counts ≡ true
counts_back r tag a =
    counted_cases (λ (y : Row). y.counts ≡ true → r.counts ≡ true) r (λ n u e f h. h) (λ n e h. h)
    (λ i j e h. absurd (let z : ◌≡◌ {A = Origin} (Assumed tag) (Combined i j) = sym a ∙ e in cc))

pub counted_normal : (rows : List Row) → AllByRecursion (λ (r : Row). IsNormal r.lin) rows → AreRounded rows → (r : Row) → Contains rows r → IsNormal (counted r).lin
counted_normal rows all rounded r c =
    counted_cases (λ (y : Row). IsNormal y.lin) r (λ tag u e f. (rounded r u c f).normal) (λ tag e. all_contained (λ (t : Row). IsNormal t.lin) rows r all c) (λ i j e. all_contained (λ (t : Row). IsNormal t.lin) rows r all c)

pub started_more : (rows : List Row) (k : ℕ) (it : Row) → k < length rows → it ≡ get_or rows k it → (was new : List Row) (made : Row) → was ≡ map counted (take k rows) → made ≡ counted it → new ≡ was ++ made ∷ []
    → new ≡ map counted (take (suc k) rows)
started_more rows k it l e was new made a b n =
    n ∙ (λ i. a i ++ b i ∷ []) ∙ sym (map_push counted (take k rows) it) ∙ ap (λ (w : Row). map counted (take k rows ++ w ∷ [])) e ∙ ap (map counted) (sym (take-suc rows k it l))

pub none_counted : (sure : List Row) (ds : List Direction) → sure ≡ [] → ds ≡ [] → AreCounted sure ds
none_counted sure ds e f = subst (λ (w : List Row). AreCounted w ds) (sym e) (subst (λ (w : List Direction). AreCounted [] w) (sym f) start)
  where
    start : AreCounted [] []
    start = record {
      indexed = record { normal = tt; each = λ r l c h. absurd (let m = c.1 in omega (arith, m)); own = λ d c. absurd (let m = c.1 in omega (arith, m)) };
      plain = λ r c. absurd (let m = c.1 in omega (arith, m));
    }

pub counted_more : (sure new : List Row) (ds es : List Direction) (r made : Row) → AreCounted sure ds → made ≡ counted r → new ≡ sure ++ made ∷ [] → AreIndexed new es → AreCounted new es
counted_more sure new ds es r made a e n i = record {
  indexed = i;
  plain = λ s c. elim (Contains-append_cases sure (made ∷ []) s (subst (λ (w : List Row). Contains w s) n c)) [ inl d ↦ a.plain s d | inr d ↦ subst IsPlain (sym e ∙ contains_one made s d) (counted_plain r) ];
}

-- ---- plain rows
pub alone : (r : Row) → r.unrounded ≡ None → IsEarlier r None
alone r e tag u f g = let z : ◌≡◌ {A = Option Unrounded} None (Some u) = sym e ∙ g in cc

pub unrounded_none : (r : Row) → IsPlain r → r.unrounded ≡ None
unrounded_none r e = ap (λ (x : Row). x.unrounded) e

pub plain_is : (r : Row) (l : Lin) (s i c : Bool) → r ≡ plain l s i c → IsPlain r
plain_is r l s i c e = subst IsPlain (sym e) refl

pub rounding_plain : (p r : Row) → IsRoundingOf p r → IsPlain r
rounding_plain p r h = plain_is r r.lin false true p.counts h.own

-- a row over integers that allows equality, of a form
pub same_plain : (p r : Row) → IsPlain p → p.integral ≡ true → p.strict ≡ false → r.lin ≡ p.lin → r ≡ plain r.lin false true p.counts → r ≡ p
same_plain p r e i s f o = o ∙ (λ k. plain (f k) (sym s k) (sym i k) p.counts) ∙ sym e

-- what a row is rounded is one row
pub rounding_one : (p r s : Row) → IsNormal p.lin → IsRoundingOf p r → IsRoundingOf p s → r ≡ s
rounding_one p r s n h k = let e : r.lin ≡ s.lin = rounded_one p.strict p.lin n h.names r.lin s.lin h.is k.is in h.own ∙ ap (λ (l : Lin). plain l false true p.counts) e ∙ sym k.own

-- ---- rows that rounding leaves as they are
pub itself_not : (p : Row) → (p.integral ≡ true → p.lin.parts ≢ [] → ⊥) → IsItself p
itself_not p n r h = absurd (n h.whole h.names)

pub itself_outside : (p : Row) → IsNormal p.lin → IsOutside p.strict p.lin → IsItself p
itself_outside p n o r h = absurd (outside_none p.strict p.lin n h.names r.lin o h.is h.normal)

pub itself_same : (p : Row) (form : Lin) → IsNormal p.lin → IsPlain p → p.strict ≡ false → form ≡ p.lin → IsRounded p.strict p.lin form → IsItself p
itself_same p form n plain s f is r h = same_plain p r plain h.whole s (rounded_one p.strict p.lin n h.names r.lin form h.is is ∙ f) h.own

-- ---- a row with what it is rounded
pub both_normal : (p : Row) (b : Both) → IsNormal p.lin → IsBoth p b → AreNormal b
both_normal p b n h = record {
  own = subst (λ (x : Row). IsNormal x.lin) (sym h.own) n;
  rounded = λ r e. (subst (λ (o : Option Row). IfSome o (IsRoundingOf p)) e h.rounded).normal;
}

pub one_of_row : (p : Row) (b : Both) (q : Row) → IsBoth p b → IsOneOf b q → IsOneRow p q
one_of_row p b q h (inl e) = inl (e ∙ h.own)
one_of_row p b q h (inr e) = inr (subst (λ (o : Option Row). IfSome o (IsRoundingOf p)) e h.rounded)

pub row_one_of : (p : Row) (b : Both) (q : Row) → IsNormal p.lin → IsBoth p b → IsOneRow p q → IsOneOf b q
row_one_of p b q n h (inl e) = inl (e ∙ sym h.own)
row_one_of p b q n h (inr k) = by_option b.rounded refl
  where
    by_option : (o : Option Row) → b.rounded ≡ o → IsOneOf b q
    by_option None e = inl (subst (λ (o : Option Row). IfNone o (IsItself p)) e h.itself q k ∙ sym h.own)
    by_option (Some r) e = inr (e ∙ ap Some (rounding_one p r q n (subst (λ (o : Option Row). IfSome o (IsRoundingOf p)) e h.rounded) k))

-- ---- rows that were added
pub there_last : (rows : List Row) (r : Row) → r.counts ≡ true → r.unrounded ≡ None → IsThere (rows ++ r ∷ []) (meaning r.lin)
there_last rows r c e =
    record { row = r; among = Contains-append_right rows (r ∷ []) r (contains_here r []); form = r.lin; of = own_unrounded r (λ tag f. c) e; times = one_ℚ; positive = positive_one; same = scale_one ℕ_discrete (meaning r.lin) }

pub there_noted : {T : Type 0} (rows new : List Row) (r : Row) (result : Result T Fail) → r.counts ≡ true → r.unrounded ≡ None → OnOk result (new ≡ rows ++ r ∷ []) → OnOk result (IsThere new (meaning r.lin))
there_noted rows new r (Ok x) c u e = subst (λ (rs : List Row). IsThere rs (meaning r.lin)) (sym e) (there_last rows r c u)
there_noted rows new r (Err x) c u e = tt

pub grown_noted : {T : Type 0} (rows new : List Row) (j k : Noted) (r : Row) (result : Result T Fail) → IsMade rows r → IsNormal r.lin → ¬ IsThere rows (meaning r.lin) → OnOk result (new ≡ rows ++ r ∷ [])
    → OnOk result (k ≡ record j { lines = j.lines ++ line.Combine r.strict r.lin ∷ [] }) → OnErr result ((new ≡ rows) × (k ≡ j)) → IsGrown rows j.lines new k.lines
grown_noted rows new j k r (Ok x) m f n e g h =
    subst (λ (rs : List Row). IsGrown rows j.lines rs k.lines) (sym e)
    (subst (λ (ls : List Line). IsGrown rows j.lines (rows ++ r ∷ []) ls) (sym (ap (λ (o : Noted). o.lines) g)) (one_more rows j.lines r as_it_was m f n))
grown_noted rows new j k r (Err x) m f n e g h =
    subst (λ (rs : List Row). IsGrown rows j.lines rs k.lines) (sym h.0) (subst (λ (ls : List Line). IsGrown rows j.lines rows ls) (sym (ap (λ (o : Noted). o.lines) h.1)) as_it_was)

-- ---- one after the other
pub grown_more : (a : List Row) (js : List Line) (b : List Row) (ks : List Line) → IsGrown a js b ks → (more : List Row) × (b ≡ a ++ more)
grown_more a js _ _ as_it_was = ([], sym (append-nil a))
grown_more a js _ _ (one_more rs ks r g m f n) =
    let h = grown_more a js rs ks g in
    (h.0 ++ r ∷ [], ap (λ (w : List Row). w ++ r ∷ []) h.1 ∙ append_assoc a h.0 (r ∷ []))

pub grown_on : (a : List Row) (js : List Line) (b : List Row) (ks : List Line) (d : List Row) (ls : List Line) → IsGrown a js b ks → IsGrown b ks d ls → IsGrown a js d ls
grown_on a js b ks _ _ g as_it_was = g
grown_on a js b ks _ _ g (one_more rs ms r h m f n) = one_more rs ms r (grown_on a js b ks rs ms g h) m f n

module _ (a : List Row) (js : List Line) (b : List Row) (ks : List Line) (g : IsGrown a js b ks) where
  pub contains_grown : (r : Row) → Contains a r → Contains b r
  contains_grown r c = let h = grown_more a js b ks g in subst (λ (w : List Row). Contains w r) (sym h.1) (Contains-append_left a h.0 r c)

  pub there_grown : (f : Form ℕ) → IsThere a f → IsThere b f
  there_grown f t = let h = grown_more a js b ks g in subst (λ (w : List Row). IsThere w f) (sym h.1) (there_append a h.0 f t)

  pub standing_grown : (p : Row) → IsStandingIn a p → IsStandingIn b p
  standing_grown p (inl c) = inl (contains_grown p c)
  standing_grown p (inr h) = inr (h.0, contains_grown h.0 h.1, h.2)

  pub opposed_grown : (p q : Row) (n : ℕ) → AreOpposedIn a p q n → AreOpposedIn b p q n
  opposed_grown p q n o = record { first_in = standing_grown p o.first_in; second_in = standing_grown q o.second_in; normal = o.normal; below = o.below; above = o.above }

  pub made_grown : (r : Row) → IsMade a r → IsMade b r
  made_grown r m = record {
    first = m.first;
    second = m.second;
    name = m.name;
    opposed = opposed_grown m.first m.second m.name m.opposed;
    form = m.form;
    form_normal = m.form_normal;
    same = m.same;
    is = m.is;
  }

  pub done_grown : (p q : Row) (n : ℕ) → IsDoneIn a p q n → IsDoneIn b p q n
  done_grown p q n d = record {
    form = d.form;
    normal = d.normal;
    same = d.same;
    there = there_grown (meaning d.form) d.there;
    rounded = λ r h. there_grown (meaning r.lin) (d.rounded r h);
  }

-- ---- all rows stay plain
made_plain : (a : List Row) (r : Row) → IsMade a r → IsPlain r
made_plain a r m = by_form m.is
  where
    by_form : IsFormRow m.form (m.first.strict || m.second.strict) (m.first.integral && m.second.integral) r → IsPlain r
    by_form (inl e) = plain_is r m.form (m.first.strict || m.second.strict) (m.first.integral && m.second.integral) true e
    by_form (inr h) = rounding_plain (plain m.form (m.first.strict || m.second.strict) (m.first.integral && m.second.integral) true) r h

-- and combinations count
pub made_counts : (a : List Row) (r : Row) → IsMade a r → r.counts ≡ true
made_counts a r m = by_form m.is
  where
    by_form : IsFormRow m.form (m.first.strict || m.second.strict) (m.first.integral && m.second.integral) r → r.counts ≡ true
    by_form (inl e) = ap (λ (y : Row). y.counts) e
    by_form (inr h) = ap (λ (y : Row). y.counts) h.own

pub plain_grown : (a : List Row) (js : List Line) → ((r : Row) → Contains a r → IsPlain r) → (b : List Row) (ks : List Line) → IsGrown a js b ks → (r : Row) → Contains b r → IsPlain r
plain_grown a js all _ _ as_it_was r c = all r c
plain_grown a js all _ _ (one_more rs ks s g m f n) r c =
    elim (Contains-append_cases rs (s ∷ []) r c) [ inl d ↦ plain_grown a js all rs ks g r d | inr d ↦ subst IsPlain (contains_one s r d) (made_plain rs s m) ]

-- ---- what stays there
pub there_kept : {T : Type 0} (rows new : List Row) (r : Row) (j k : Noted) (result : Result T Fail) → OnOk result (new ≡ rows ++ r ∷ []) → OnErr result ((new ≡ rows) × (k ≡ j)) → (f : Form ℕ) → IsThere rows f → IsThere new f
there_kept rows new r j k (Ok x) e h f t = subst (λ (rs : List Row). IsThere rs f) (sym e) (there_append rows (r ∷ []) f t)
there_kept rows new r j k (Err x) e h f t = subst (λ (rs : List Row). IsThere rs f) (sym h.0) t

pub done_kept : (a b : List Row) → ((f : Form ℕ) → IsThere a f → IsThere b f) → (p q : Row) → IsDoneOn a p q → IsDoneOn b p q
done_kept a b keeps p q d n low up =
    let h = d n low up in
    record { form = h.form; normal = h.normal; same = h.same; there = keeps (meaning h.form) h.there; rounded = λ r i. keeps (meaning r.lin) (h.rounded r i) }

-- ---- the combination of two rows
module _ (sure : List Row) (p q : Row) (normal_p : IsNormal p.lin) (normal_q : IsNormal q.lin) (o : Opposed) (last : HaveLast p.lin q.lin o) where
  pub opposed_in : IsStandingIn sure p → IsStandingIn sure q → AreOpposedIn sure p q o.name
  opposed_in a b = record { first_in = a; second_in = b; normal = (normal_p, normal_q); below = opposed_lower p.lin q.lin o normal_p last; above = opposed_upper p.lin q.lin o normal_q last }

  pub wide_of : (w : WideAt) → IsStandingIn sure p → IsStandingIn sure q → IsCombineWide p.lin q.lin o.name w → IsWideOf sure w
  wide_of w a b h = record {
    name = o.name;
    first = p;
    second = q;
    opposed = opposed_in a b;
    step = h.step;
    left = h.left;
    key = h.key;
    right = h.right;
    wide = h.wide;
  }

  module _ (form : Lin) (row : Row) (is : row ≡ plain form (p.strict || q.strict) (p.integral && q.integral) true) (normal : IsNormal form) (same : SameMeaning (meaning form) (combination o.name (meaning p.lin) (meaning q.lin))) where
    pub form_made : (r : Row) → IsFormRow form (p.strict || q.strict) (p.integral && q.integral) r → IsStandingIn sure p → IsStandingIn sure q → IsMade sure r
    form_made r h a b = record { first = p; second = q; name = o.name; opposed = opposed_in a b; form = form; form_normal = normal; same = same; is = h }

    pub rounding_form : (r : Row) → IsRoundingOf row r → IsFormRow form (p.strict || q.strict) (p.integral && q.integral) r
    rounding_form r h = inr (subst (λ (y : Row). IsRoundingOf y r) is h)

    pub done_form : {T : Type 0} (result : Result T Fail) → OnOk result (IsThere sure (meaning row.lin)) → OnOk result ((r : Row) → IsRoundingOf row r → IsThere sure (meaning r.lin)) → OnOk result (IsDoneOn sure p q)
    done_form (Err x) t r = tt
    done_form (Ok x) t r = λ n low up.
        let a = lower_last n p.lin normal_p low in
        let b = upper_last n q.lin normal_q up in
        let name : o.name ≡ n = one_opposed p.lin q.lin o (record { name = n; rising = a.0; falling = b.0 }) last (record { first = a.1; second = b.1; positive = a.2; negative = b.2 }) in
        record {
          form = form;
          normal = normal;
          same = subst (λ k. SameMeaning (meaning form) (combination k (meaning p.lin) (meaning q.lin))) name same;
          there = subst (λ (y : Row). IsThere sure (meaning y.lin)) is t;
          rounded = λ s h. r s (subst (λ (y : Row). IsRoundingOf y s) (sym is) h);
        }

-- ---- the combinations of a row with both of another, and of both
pub rounding_there : {T : Type 0} (sure : List Row) (p r : Row) (result : Result T Fail) → IsNormal p.lin → IsRoundingOf p r → OnOk result (IsThere sure (meaning r.lin)) → OnOk result ((s : Row) → IsRoundingOf p s → IsThere sure (meaning s.lin))
rounding_there sure p r (Ok x) n h t = λ s k. subst (λ (y : Row). IsThere sure (meaning y.lin)) (rounding_one p r s n h k) t
rounding_there sure p r (Err x) n h t = tt

some_row : (r q : Row) (o : Option Row) → o ≡ Some r → o ≡ Some q → r ≡ q
some_row r q o e f = let g : Some r ≡ Some q = sym e ∙ f in cc

pub with_done : {T : Type 0} (result : Result T Fail) (p r : Row) (b : Both) (mid new : List Row) → ((f : Form ℕ) → IsThere mid f → IsThere new f) → IsDoneOn mid p b.own → b.rounded ≡ Some r → OnOk result (IsDoneOn new p r)
    → OnOk result ((q : Row) → IsOneOf b q → IsDoneOn new p q)
with_done (Err x) p r b mid new keeps d e h = tt
with_done (Ok x) p r b mid new keeps d e h = λ q o. elim o [
  | inl f ↦ subst (λ (y : Row). IsDoneOn new p y) (sym f) (done_kept mid new keeps p b.own d)
  | inr f ↦ subst (λ (y : Row). IsDoneOn new p y) (some_row r q b.rounded e f) h
]

pub both_done : {T : Type 0} (result : Result T Fail) (r : Row) (a b : Both) (mid new : List Row) → ((f : Form ℕ) → IsThere mid f → IsThere new f) → ((q : Row) → IsOneOf b q → IsDoneOn mid a.own q) → a.rounded ≡ Some r
    → OnOk result ((q : Row) → IsOneOf b q → IsDoneOn new r q) → OnOk result ((p q : Row) → IsOneOf a p → IsOneOf b q → IsDoneOn new p q)
both_done (Err x) r a b mid new keeps d e h = tt
both_done (Ok x) r a b mid new keeps d e h = λ p q i o. elim i [
  | inl f ↦ subst (λ (y : Row). IsDoneOn new y q) (sym f) (done_kept mid new keeps a.own q (d q o))
  | inr f ↦ subst (λ (y : Row). IsDoneOn new y q) (some_row r p a.rounded e f) (h q o)
]
