-- Rows by their largest names: one row more, and rows that are opposed have one largest name.
use Rattle.std.specs.Prelude.{ℕ, zero, suc, ◌<◌, ◌≤◌, ◌≡◌, Bool, true, false, cond, nat_eq, Option, Some, None, List, [], ◌∷◌, ◌++◌, length, slice_get}
use Rattle.std.proofs.Common.{arith, refl, sym, ap, ◌∙◌, subst, length-append}
use Rattle.std.proofs.lemmas.Option.{slice_get_within, none-some, same_Some}
use Rattle.std.proofs.lemmas.Bool.Decides.{nat_tests}
use native.Mathlib.Decide.{dec_lt}
use Rattle.ae_base.proofs.ListFacts.{get_append}
use Rattle.ae_num.specs.declared.forms.Part.{Part}
use Rattle.ae_ineq.specs.Inner.Sets.{last_part, name_reach}
use Rattle.ae_bounds.specs.declared.rows.Row.{Row}
use Rattle.ae_bounds.specs.declared.combining.Opposed.{Opposed}
use Rattle.std.specs.Option.{option_map_or}
use Rattle.ae_journal.specs.declared.lines.Line.{Line}
use Rattle.ae_bounds.specs.Combinations.{IsExtended}
use Rattle.ae_bounds.specs.Inner.Heads.{HasHead, NoneBetween, IsLastBefore, AreBefore, AreHeads, IsHeadOf, IsHeadAt}
use Rattle.ae_bounds.specs.Inner.Pairs.{HaveLast, IsPairThere, ArePaired}
use Rattle.ae_bounds.proofs.Closing.{place_less, pair_more}

abbrev key_of : Option Part → ℕ
key_of None = 0
key_of (Some p) = p.key

abbrev last_of : Option Row → Option Part
last_of None = None
last_of (Some r) = last_part r.lin.parts

-- a row has one largest name
pub one_head : (rows : List Row) (k m n : ℕ) → HasHead rows k m → HasHead rows k n → m ≡ n
one_head rows k m n a b = sym a.4 ∙ ap key_of (sym a.3 ∙ ap last_of (sym a.2 ∙ b.2) ∙ b.3) ∙ b.4

pub last_one_more : (rows : List Row) (n b : ℕ) (o : Option ℕ) → IsLastBefore rows n b o → ¬ HasHead rows b n → IsLastBefore rows n (suc b) o
last_one_more rows n b None h m = λ k l s. elim (dec_lt k b) [ yes t ↦ h k l t | no t ↦ (let e : k ≡ b = omega (arith, s, t) in λ x. m (subst (λ j. HasHead rows j n) e x)) ]
last_one_more rows n b (Some j) h m = (
  (let l = h.0 in omega (arith, l)),
  h.1,
  λ k l s. elim (dec_lt k b) [ yes t ↦ h.2 k l t | no t ↦ (let e : k ≡ b = omega (arith, s, t) in λ x. m (subst (λ i. HasHead rows i n) e x)) ],
)

-- a place of a longer list
get_before : (es : List (Option ℕ)) (o : Option ℕ) (k : ℕ) (q : Option ℕ) → k < length es → slice_get (es ++ o ∷ []) k ≡ Some q → slice_get es k ≡ Some q
get_before [] o k q l e = absurd (omega (arith, l))
get_before (x ∷ es) o zero q l e = e
get_before (x ∷ es) o (suc k) q l e = get_before es o k q (omega (arith, l)) e

get_last : (es : List (Option ℕ)) (o q : Option ℕ) → slice_get (es ++ o ∷ []) (length es) ≡ Some q → o ≡ q
get_last [] o q e = cc
get_last (x ∷ es) o q e = get_last es o q e

-- a row without names has no largest one
nameless : (rows : List Row) (k : ℕ) (r : Row) (n : ℕ) → slice_get rows k ≡ Some r → last_part r.lin.parts ≡ None → HasHead rows k n → ⊥
nameless rows k r n at e a = no_part a.1 (sym a.3 ∙ ap last_of (sym a.2 ∙ at) ∙ e)
  where
    no_part : (p : Part) → ◌≡◌ {A = Option Part} (Some p) None → ⊥
    no_part p e = cc

-- ---- one row more
module _ (rows : List Row) (latest new : ℕ → Option ℕ) (es : List (Option ℕ)) (before : Option ℕ) (h : AreHeads rows latest es) where
  abbrev more : ℕ
  more = length (es ++ before ∷ [])

  is_more : more ≡ suc (length es)
  is_more = let l = length-append es (before ∷ []) in omega (arith, l)

  befores : ((n : ℕ) → HasHead rows (length es) n → IsLastBefore rows n (length es) before) → (k n : ℕ) (o : Option ℕ) → HasHead rows k n → slice_get (es ++ before ∷ []) k ≡ Some o → IsLastBefore rows n k o
  befores own k n o a e = by_place (dec_lt k (length es))
    where
      by_place : Dec (k < length es) → IsLastBefore rows n k o
      by_place (yes l) = h.before k n o a (get_before es before k o l e)
      by_place (no m) =
          let w = slice_get_within (es ++ before ∷ []) k o e in
          let l = is_more in
          let s : length es ≡ k = omega (arith, w, l, m) in
          subst (λ i. IsLastBefore rows n i o) s
          (subst (IsLastBefore rows n (length es)) (get_last es before o (ap (slice_get (es ++ before ∷ [])) s ∙ e)) (own n (subst (λ i. HasHead rows i n) (sym s) a)))

  -- without names
  pub entered_none : ((n : ℕ) → ¬ HasHead rows (length es) n) → ((q : ℕ) → new q ≡ latest q) → AreHeads rows new (es ++ before ∷ [])
  entered_none none same = record {
    last = λ q. subst (λ b. IsLastBefore rows q b (new q)) (sym is_more) (subst (IsLastBefore rows q (suc (length es))) (sym (same q)) (last_one_more rows q (length es) (latest q) (h.last q) (none q)));
    before = befores (λ n a. absurd (none n a));
  }

  -- with a largest name
  pub entered : (n : ℕ) → HasHead rows (length es) n → before ≡ latest n → ((q : ℕ) → new q ≡ cond (nat_eq n q) (Some (length es)) (latest q)) → AreHeads rows new (es ++ before ∷ [])
  entered n a b updates = record {
    last = λ q. subst (λ c. IsLastBefore rows q c (new q)) (sym is_more) (subst (IsLastBefore rows q (suc (length es))) (sym (updates q)) (by_name q (nat_eq n q) refl));
    before = befores (λ m c. subst (IsLastBefore rows m (length es)) (sym (b ∙ ap latest (one_head rows (length es) n m a c))) (h.last m));
  }
    where
      by_name : (q : ℕ) (t : Bool) → nat_eq n q ≡ t → IsLastBefore rows q (suc (length es)) (cond t (Some (length es)) (latest q))
      by_name q true e = (omega arith, subst (HasHead rows (length es)) (grind (arith, nat_tests, e)) a, λ k l s. absurd (omega (arith, l, s)))
      by_name q false e = last_one_more rows q (length es) (latest q) (h.last q) (λ c. absurd (differ (one_head rows (length es) n q a c)))
        where
          differ : n ≡ q → ⊥
          differ s = grind (arith, nat_tests, e, s)

-- ---- more rows behind
pub heads_append : (rows more : List Row) (latest : ℕ → Option ℕ) (es : List (Option ℕ)) → length es ≤ length rows → AreHeads rows latest es → AreHeads (rows ++ more) latest es
heads_append rows more latest es within h = record {
  last = λ n. grown n (length es) (latest n) within (h.last n);
  before = λ k n o a e.
      let w = slice_get_within es k o e in
      grown n k o (omega (arith, w, within)) (h.before k n o (less k n (omega (arith, w, within)) a) e);
}
  where
    less : (k n : ℕ) → k < length rows → HasHead (rows ++ more) k n → HasHead rows k n
    less k n l a = (a.0, a.1, place_less rows more k a.0 l a.2, a.3, a.4)

    grown : (n b : ℕ) (o : Option ℕ) → b ≤ length rows → IsLastBefore rows n b o → IsLastBefore (rows ++ more) n b o
    grown n b None l h = λ k m s a. h k m s (less k n (omega (arith, l, s)) a)
    grown n b (Some j) l h = (h.0, ((h.1).0, (h.1).1, get_append rows more j (h.1).0 (h.1).2, (h.1).3, (h.1).4), λ k m s a. h.2 k m s (less k n (omega (arith, l, s)) a))

-- ---- rows that are opposed
pub opposed_heads : (rows : List Row) (i j : ℕ) (p q : Row) (o : Opposed) → slice_get rows i ≡ Some p → slice_get rows j ≡ Some q → HaveLast p.lin q.lin o → HasHead rows i o.name × HasHead rows j o.name
opposed_heads rows i j p q o a b c = ((p, record { key = o.name; factor = o.rising }, a, c.first, refl), (q, record { key = o.name; factor = o.falling }, b, c.second, refl))

-- ---- the pairs of a row with those of the same largest name, the last one first
pub record IsReached (rows : List Row) (place : ℕ) (at : Option ℕ) (new : List Row) : Type 0 where
  pub head : (j : ℕ) → at ≡ Some j → (n : ℕ) × (j < place) × HasHead rows place n × HasHead rows j n
  pub paired : (k : ℕ) → name_reach at ≤ k → k < place → IsPairThere rows place k new × IsPairThere rows k place new

-- rows without a largest name in common have no combination
module _ (rows new : List Row) (place k : ℕ) (apart : (n : ℕ) → HasHead rows place n → HasHead rows k n → ⊥) where
  pub apart_pairs : IsPairThere rows place k new × IsPairThere rows k place new
  apart_pairs = (
    (λ p q o e f g. let h = opposed_heads rows place k p q o e f g in absurd (apart o.name h.0 h.1)),
    (λ p q o e f g. let h = opposed_heads rows k place p q o e f g in absurd (apart o.name h.1 h.0)),
  )

-- between the last row before number b and number b none has the name
nothing_between : (rows : List Row) (n b : ℕ) (o : Option ℕ) → IsLastBefore rows n b o → (k : ℕ) → name_reach o ≤ k → k < b → ¬ HasHead rows k n
nothing_between rows n b None h k l s = h k l s
nothing_between rows n b (Some j) h k l s = h.2 k l s

pub reached_start : (rows new : List Row) (place : ℕ) (head : Option ℕ) → IsHeadAt rows place head → IsReached rows place head new
reached_start rows new place None h = record {
  head = λ j e. absurd (none-some j e);
  paired = λ k l s. apart_pairs rows new place k (λ n a b. h n a k l s b);
}
reached_start rows new place (Some i) h = record {
  head = λ j e. subst (λ m. (n : ℕ) × (m < place) × HasHead rows place n × HasHead rows m n) (same_Some i j e) (h.0, (h.2).0, h.1, (h.2).1);
  paired = λ k l s. apart_pairs rows new place k (λ n a b. (h.2).2 k l s (subst (HasHead rows k) (one_head rows place n h.0 a h.1) b));
}

pub reached_next : (rows new rs : List Row) (js ks : List Line) (place j : ℕ) (o : Option ℕ) (es : List (Option ℕ)) → IsExtended new js rs ks → AreBefore rows es → slice_get es j ≡ Some o → IsReached rows place (Some j) new
    → IsPairThere rows place j rs → IsPairThere rows j place rs → IsReached rows place o rs
reached_next rows new rs js ks place j o es e before at r first second = record { head = head; paired = paired }
  where
    here : (n : ℕ) × (j < place) × HasHead rows place n × HasHead rows j n
    here = r.head j refl

    last : IsLastBefore rows here.0 j o
    last = before j here.0 o here.3 at

    found : (q : Option ℕ) (i : ℕ) → q ≡ Some i → IsLastBefore rows here.0 j q → (i < j) × HasHead rows i here.0
    found None i f h = cc
    found (Some m) i f h = let s : m ≡ i = cc in subst (λ x. (x < j) × HasHead rows x here.0) s (h.0, h.1)

    head : (i : ℕ) → o ≡ Some i → (n : ℕ) × (i < place) × HasHead rows place n × HasHead rows i n
    head i f = let h = found o i f last in let a = h.0 in let b = here.1 in (here.0, omega (arith, a, b), here.2, h.1)

    paired : (k : ℕ) → name_reach o ≤ k → k < place → IsPairThere rows place k rs × IsPairThere rows k place rs
    paired k l s = by_place (dec_lt k j) (dec_lt j k)
      where
        by_place : Dec (k < j) → Dec (j < k) → IsPairThere rows place k rs × IsPairThere rows k place rs
        by_place (yes m) t = apart_pairs rows rs place k (λ n a b. nothing_between rows here.0 j o last k l m (subst (HasHead rows k) (one_head rows place n here.0 a here.2) b))
        by_place (no m) (yes t) = let h = r.paired k (omega (arith, t)) s in (pair_more rows place k new rs js ks e h.0, pair_more rows k place new rs js ks e h.1)
        by_place (no m) (no t) = let q : j ≡ k = omega (arith, m, t) in (subst (λ x. IsPairThere rows place x rs) q first, subst (λ x. IsPairThere rows x place rs) q second)

pub reached_end : (rows new : List Row) (place : ℕ) → IsReached rows place None new → ArePaired rows place place new
reached_end rows new place r k l = r.paired k (omega arith) l

-- the next row is before the one that is looked at
pub before_less : (rows : List Row) (n j : ℕ) (o : Option ℕ) → IsLastBefore rows n j o → name_reach o < suc j
before_less rows n j None h = omega arith
before_less rows n j (Some i) h = let l = h.0 in omega (arith, l)

-- ---- the row that is looked at
pub head_found : (rows : List Row) (latest : ℕ → Option ℕ) (es : List (Option ℕ)) (r : Row) (part : Option Part) (head : Option ℕ) → AreHeads rows latest es → slice_get rows (length es) ≡ Some r → part ≡ last_part r.lin.parts
    → IsHeadOf latest part head → IsHeadAt rows (length es) head
head_found rows latest es r None head h at e f = subst (IsHeadAt rows (length es)) (sym f) (λ n a. absurd (nameless rows (length es) r n at (sym e) a))
head_found rows latest es r (Some p) head h at e f = by_last head (subst (IsLastBefore rows p.key (length es)) (sym f) (h.last p.key))
  where
    own : HasHead rows (length es) p.key
    own = (r, p, at, sym e, refl)

    by_last : (o : Option ℕ) → IsLastBefore rows p.key (length es) o → IsHeadAt rows (length es) o
    by_last None l = λ n a. subst (λ m. NoneBetween rows m 0 (length es)) (one_head rows (length es) p.key n own a) l
    by_last (Some j) l = (p.key, own, l)

pub heads_entered : (rows : List Row) (latest new : ℕ → Option ℕ) (es : List (Option ℕ)) (r : Row) (part : Option Part) (head : Option ℕ) → AreHeads rows latest es → slice_get rows (length es) ≡ Some r → part ≡ last_part r.lin.parts
    → IsHeadOf latest part head → ((q : ℕ) → new q ≡ option_map_or (λ p. cond (nat_eq p.key q) (Some (length es)) (latest q)) part (latest q)) → AreHeads rows new (es ++ head ∷ [])
heads_entered rows latest new es r None head h at e f u = entered_none rows latest new es head h (λ n a. nameless rows (length es) r n at (sym e) a) u
heads_entered rows latest new es r (Some p) head h at e f u = entered rows latest new es head h p.key (r, p, at, sym e, refl) f u
