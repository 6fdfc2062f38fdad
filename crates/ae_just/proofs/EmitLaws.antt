-- One line more.
use Rattle.std.specs.Prelude.{ℕ, zero, suc, ◌+◌, ◌<◌, ◌≤◌, ◌⊎◌, Bool, true, false, cond, nat_eq, List, [], ◌∷◌, ◌++◌, ◌≡◌, map, take, length, slice_get, get_or, Option, Some, None}
use Rattle.std.specs.List.{AllByRecursion}
use Rattle.std.proofs.Common.{refl, sym, ap, ◌∙◌, subst, arith, inl, inr, append_assoc, append-nil, length-append}
use Rattle.std.proofs.lemmas.Bool.{cases_lt, eqb-true, eq-eqb}
use Rattle.std.proofs.lemmas.List.{length-map, length-take-le, take_more}
use Rattle.std.proofs.lemmas.Option.{slice_get_within, slice_get_read, slice_get-get_or}
use Rattle.ae_base.specs.Options.{or_else, ◌>>=◌}
use Rattle.ae_base.proofs.AllOf.{all_at, all_from_places, all_push}
use Rattle.ae_base.proofs.ListFacts.{get_seam, value_at}
use Rattle.ae_rules.specs.Built.{HasFactorsWithin}
use Rattle.ae_rules.specs.Lines.{Fact, states, Stated, Allowed, AllAllowed, fact_ok}
use Rattle.ae_rules.proofs.Written.{all_append}
use Rattle.ae_core.specs.declared.terms.Term.{Term}
use Rattle.ae_core.specs.declared.formulas.Lit.{Lit}
use Rattle.ae_core.specs.declared.problems.Signature.{Signature}
use Rattle.ae_core.specs.declared.proofs.EqLine.{EqLine}
use Rattle.ae_core.specs.declared.proofs.Deriv.{Deriv}
use Rattle.ae_store.specs.declared.nodes.Node.{Node}
use Rattle.ae_store.specs.Shapes.{shape_of, shapes}
use Rattle.ae_store.specs.Terms.{terms}
use Rattle.ae_store.specs.Parts.{IsIn}
use Rattle.ae_store.proofs.TermLaws.{length_terms}
use Rattle.ae_store.proofs.Gets.{get_last, get_pushed}
use Rattle.ae_just.specs.declared.steps.Step.{Step}
use Rattle.ae_just.specs.declared.steps.Rule.{Rule}
use Rattle.ae_just.specs.declared.steps.Rule.TheVariants as rule
use Rattle.ae_just.specs.Sides.{side_term}
use Rattle.ae_just.specs.Steps.{fact_of, literal, assumed, tag_of, line_of, own_line, premises, renamed_rule, IsAllowedStep, AreAllowed, Fits}
use Rattle.ae_just.specs.Needed.{itself, premise, AreNeeded, literals, tags, Derives}
use Rattle.ae_just.specs.Inner.Pending.{RestOnEarlier}
use Rattle.ae_just.specs.Inner.Emitting.{place, IsEmitted}
use Rattle.ae_just.proofs.LineLaws.{Carries, rule_carried, rule_factors, line_factors, premises_within, states_line, own_stated}
use Rattle.ae_just.proofs.NeededLaws.{last_needed}

-- steps that are allowed rest on earlier ones
pub rest_on_earlier : (sig : Signature) (ts : List Term) (steps : List Step) → AreAllowed sig ts steps → RestOnEarlier steps
rest_on_earlier sig ts steps a = record { each = each }
  where
    each : (k : ℕ) (s : Step) → slice_get steps k ≡ Some s → AllByRecursion (λ p. p < k) (premises s.rule)
    each k s e =
        let l : k < length steps = slice_get_within steps k s e in
        let len : length (map (own_line ts) (take k steps)) ≡ k = length-map (take k steps) (own_line ts) ∙ length-take-le k steps (omega (arith, l)) in
        subst (λ n. AllByRecursion (λ p. p < n) (premises s.rule)) len
        (premises_within sig (map (own_line ts) (take k steps)) (side_term ts s.left) (side_term ts s.right) s.rule ((a.each k s e).allowed))

pub rest_push : (sig : Signature) (ts : List Term) (steps steps' : List Step) (s : Step) → RestOnEarlier steps → IsAllowedStep sig ts steps s → steps' ≡ steps ++ s ∷ [] → RestOnEarlier steps'
rest_push sig ts steps steps' s r a e = subst RestOnEarlier (sym e) (record { each = each })
  where
    each : (k : ℕ) (t : Step) → slice_get (steps ++ s ∷ []) k ≡ Some t → AllByRecursion (λ p. p < k) (premises t.rule)
    each k t q = elim (get_pushed steps s k t q) [
      | inl h ↦ r.each k t h
      | inr h ↦
          let p = premises_within sig (map (own_line ts) steps) (side_term ts s.left) (side_term ts s.right) s.rule a.allowed in
          let n : length (map (own_line ts) steps) ≡ k = length-map steps (own_line ts) ∙ sym h.0 in
          subst (λ (z : Step). AllByRecursion (λ p. p < k) (premises z.rule)) h.1 (subst (λ n. AllByRecursion (λ p. p < n) (premises s.rule)) n p)
    ]

pub rest_none : (steps : List Step) → steps ≡ [] → RestOnEarlier steps
rest_none steps e = subst RestOnEarlier (sym e) (record { each = λ k s q. cc q })

-- ---- places
here_or : (b : Bool) (n k : ℕ) (ns : List ℕ) → nat_eq n k ≡ b → (IsIn k ns → slice_get ns (place ns k) ≡ Some k) → (n ≡ k) ⊎ IsIn k ns → slice_get (n ∷ ns) (cond b 0 (suc (place ns k))) ≡ Some k
here_or true n k ns e f h = ap Some (eqb-true n k e)
here_or false n k ns e f (inl h) = (let w : ◌≡◌ {A = Bool} false true = sym e ∙ eq-eqb n k h in cc w)
here_or false n k ns e f (inr h) = f h

first_or : (k n i : ℕ) (ns : List ℕ) → slice_get (n ∷ ns) i ≡ Some k → (n ≡ k) ⊎ IsIn k ns
first_or k n zero ns e = inl (cc e)
first_or k n (suc i) ns e = inr (record { place = i; is = e })

pub place_is : (ns : List ℕ) (k : ℕ) → IsIn k ns → slice_get ns (place ns k) ≡ Some k
place_is [] k h = cc h.is
place_is (n ∷ ns) k h = here_or (nat_eq n k) n k ns refl (place_is ns k) (first_or k n h.place ns h.is)

-- ---- literals of the first steps
literals_pushed : (ts : List Term) (steps : List Step) (ks : List ℕ) (k : ℕ) (s : Step) → slice_get steps k ≡ Some s → literals ts steps (ks ++ k ∷ []) ≡ literals ts steps ks ++ assumed (literal ts s) s.rule
literals_pushed ts steps [] k s e = append-nil _ ∙ ap (λ o. or_else (o >>= λ (s : Step). Some (assumed (literal ts s) s.rule)) []) e
literals_pushed ts steps (j ∷ ks) k s e =
    ap (λ l. or_else (slice_get steps j >>= λ s. Some (assumed (literal ts s) s.rule)) [] ++ l) (literals_pushed ts steps ks k s e)
    ∙ sym (append_assoc (or_else (slice_get steps j >>= λ s. Some (assumed (literal ts s) s.rule)) []) (literals ts steps ks) (assumed (literal ts s) s.rule))

tags_pushed : (steps : List Step) (ks : List ℕ) (k : ℕ) (s : Step) → slice_get steps k ≡ Some s → tags steps (ks ++ k ∷ []) ≡ tags steps ks ++ tag_of s.rule
tags_pushed steps [] k s e = append-nil _ ∙ ap (λ o. or_else (o >>= λ (s : Step). Some (tag_of s.rule)) []) e
tags_pushed steps (j ∷ ks) k s e =
    ap (λ l. or_else (slice_get steps j >>= λ s. Some (tag_of s.rule)) [] ++ l) (tags_pushed steps ks k s e)
    ∙ sym (append_assoc (or_else (slice_get steps j >>= λ s. Some (tag_of s.rule)) []) (tags steps ks) (tag_of s.rule))

literals_append : (ts : List Term) (steps : List Step) (xs ys : List ℕ) → literals ts steps (xs ++ ys) ≡ literals ts steps xs ++ literals ts steps ys
literals_append ts steps [] ys = refl
literals_append ts steps (x ∷ xs) ys =
    ap (λ l. or_else (slice_get steps x >>= λ s. Some (assumed (literal ts s) s.rule)) [] ++ l) (literals_append ts steps xs ys)
    ∙ sym (append_assoc (or_else (slice_get steps x >>= λ s. Some (assumed (literal ts s) s.rule)) []) (literals ts steps xs) (literals ts steps ys))

split_at : (ks : List ℕ) (i k : ℕ) → slice_get ks i ≡ Some k → (rest : List ℕ) × (ks ≡ take i ks ++ k ∷ rest)
split_at [] i k e = cc e
split_at (n ∷ ks) zero k e = let q : n ≡ k = cc e in (ks, ap (λ m. m ∷ ks) q)
split_at (n ∷ ks) (suc i) k e = let r = split_at ks i k e in (r.0, ap (λ l. n ∷ l) r.1)

literal_at : (ts : List Term) (steps : List Step) (ks : List ℕ) (i k : ℕ) (s : Step) (tag : ℕ) → slice_get ks i ≡ Some k → slice_get steps k ≡ Some s → s.rule ≡ rule.Hyp tag
    → slice_get (literals ts steps ks) (length (literals ts steps (take i ks))) ≡ Some (literal ts s)
literal_at ts steps ks i k s tag e at r =
    let w = split_at ks i k e in
    let front = literals ts steps (take i ks) in
    let q : or_else (slice_get steps k >>= λ s. Some (assumed (literal ts s) s.rule)) [] ≡ literal ts s ∷ [] =
    ap (λ o. or_else (o >>= λ (s : Step). Some (assumed (literal ts s) s.rule)) []) at ∙ ap (assumed (literal ts s)) r in
    let all : literals ts steps ks ≡ front ++ literal ts s ∷ literals ts steps w.0 =
    ap (literals ts steps) w.1 ∙ literals_append ts steps (take i ks) (k ∷ w.0) ∙ ap (λ l. front ++ (l ++ literals ts steps w.0)) q in
    ap (λ l. slice_get l (length front)) all ∙ get_seam front (literals ts steps w.0) (literal ts s)

assumed_length : (l : Lit) (u : Rule) → length (assumed l u) ≡ length (tag_of u)
assumed_length l (rule.Hyp tag) = refl
assumed_length l rule.Refl = refl
assumed_length l (rule.Sym k) = refl
assumed_length l (rule.Trans j k) = refl
assumed_length l (rule.Cong ks) = refl
assumed_length l rule.Ac = refl
assumed_length l (rule.Lin d ps) = refl
assumed_length l rule.Field = refl
assumed_length l (rule.Fields ks) = refl

few : (l : Lit) (u : Rule) → length (assumed l u) ≤ 1
few l (rule.Hyp tag) = omega arith
few l rule.Refl = omega arith
few l (rule.Sym k) = omega arith
few l (rule.Trans j k) = omega arith
few l (rule.Cong ks) = omega arith
few l rule.Ac = omega arith
few l (rule.Lin d ps) = omega arith
few l rule.Field = omega arith
few l (rule.Fields ks) = omega arith

few_by : (ts : List Term) (o : Option Step) → length (or_else (o >>= λ (s : Step). Some (assumed (literal ts s) s.rule)) []) ≤ 1
few_by ts None = omega arith
few_by ts (Some s) = few (literal ts s) s.rule

literals_few : (ts : List Term) (steps : List Step) (ks : List ℕ) → length (literals ts steps ks) ≤ length ks
literals_few ts steps [] = omega arith
literals_few ts steps (k ∷ ks) =
    let h = literals_few ts steps ks in
    let g = few_by ts (slice_get steps k) in
    let e = length-append (or_else (slice_get steps k >>= λ s. Some (assumed (literal ts s) s.rule)) []) (literals ts steps ks) in
    omega (arith, h, g, e)

stated_front : (xs ys : List EqLine) (k : ℕ) (f : Fact) → Stated xs k f → Stated (xs ++ ys) k f
stated_front [] ys k f e = absurd (let w : ◌≡◌ {A = Option Fact} None (Some f) = e in cc w)
stated_front (x ∷ xs) ys zero f e = e
stated_front (x ∷ xs) ys (suc k) f e = stated_front xs ys k f e

get_take : {A : Type 0} (xs : List A) (i k : ℕ) → k < i → slice_get (take i xs) k ≡ slice_get xs k
get_take [] zero k h = refl
get_take [] (suc i) k h = refl
get_take (x ∷ xs) zero k h = absurd (omega (arith, h))
get_take (x ∷ xs) (suc i) zero h = refl
get_take (x ∷ xs) (suc i) (suc k) h = get_take xs i k (omega (arith, h))

-- ---- one line more
module _ (sig : Signature) (ts : List Term) (steps : List Step) (id : ℕ) (ks : List ℕ) (fits : Fits sig ts steps) (needed : AreNeeded steps id ks) where
  pub emitted_none : IsEmitted sig ts steps ks (literals ts steps ks) 0 [] 0
  emitted_none = record { long = refl; count_is = refl; allowed = tt; factors = tt; stated = λ j k s l e at. absurd (omega (arith, l)) }

  module _ (i k c : ℕ) (lines : List EqLine) (s : Step) (is : slice_get ks i ≡ Some k) (at : slice_get steps k ≡ Some s) (a : IsEmitted sig ts steps ks (literals ts steps ks) i lines c) where
    -- a premise has an earlier line
    premise_place : (p : ℕ) → IsIn p (premises s.rule) → (slice_get ks (place ks p) ≡ Some p) × (place ks p < i)
    premise_place p m =
        let here : IsIn p ks = needed.all p (premise k p s (needed.sound k (record { place = i; is = is })) at m) in
        let q = place_is ks p here in
        let low : p < k = all_at (λ p. p < k) (premises s.rule) m.place p ((rest_on_earlier sig ts steps fits.allowed).each k s at) m.is in (
          q,
          elim (cases_lt (place ks p) i) [
            | inl b ↦ b
            | inr b ↦ elim (cases_lt i (place ks p)) [
              | inl d ↦ absurd (let w : k < p = needed.rising.each i (place ks p) k p d is q in omega (arith, w, low))
              | inr d ↦ absurd (let e : place ks p ≡ i = omega (arith, b, d) in let u : ◌≡◌ {A = Option ℕ} (Some p) (Some k) = sym q ∙ ap (slice_get ks) e ∙ is in let v : p ≡ k = cc u in omega (arith, v, low))
            ]
          ],
        )

    carries : (p : ℕ) → IsIn p (premises s.rule) → Carries (map (own_line ts) (take k steps)) lines (place ks) p
    carries p m f e =
        let q = premise_place p m in
        let o = own_stated ts (take k steps) p f e in
        let low : p < k = all_at (λ p. p < k) (premises s.rule) m.place p ((rest_on_earlier sig ts steps fits.allowed).each k s at) m.is in
        subst (Stated lines (place ks p)) o.2 (a.stated (place ks p) p o.0 q.1 q.0 (sym (get_take steps k p low) ∙ o.1))

    says : states (line_of ts (place ks) c s) ≡ fact_of ts s
    says = states_line (place ks) c (side_term ts s.left) (side_term ts s.right) s.rule

    next_allowed : Allowed sig (literals ts steps ks) lines (line_of ts (place ks) c s)
    next_allowed =
        rule_carried (map (own_line ts) (take k steps)) lines (place ks) sig (literals ts steps ks) c (side_term ts s.left) (side_term ts s.right) s.rule
        (all_from_places (Carries (map (own_line ts) (take k steps)) lines (place ks)) (premises s.rule) (λ n p e. carries p (record { place = n; is = e })))
        (fits.allowed.each k s at).allowed
        (λ tag r. ap (slice_get (literals ts steps ks)) a.count_is ∙ literal_at ts steps ks i k s tag is at r)

    next_factors : HasFactorsWithin (line_of ts (place ks) c s)
    next_factors = line_factors c (side_term ts s.left) (side_term ts s.right) (renamed_rule (place ks) s.rule) (rule_factors (place ks) s.rule (fits.factors.each k s at))

    front_is : take (i + 1) ks ≡ take i ks ++ k ∷ []
    front_is =
        let l : i < length ks = slice_get_within ks i k is in
        let u : ◌≡◌ {A = Option ℕ} (Some (get_or ks i k)) (Some k) = sym (slice_get-get_or ks i k l) ∙ is in
        let v : get_or ks i k ≡ k = cc u in
        take_more ks i k l ∙ ap (λ n. take i ks ++ n ∷ []) v

    pub emitted_step : IsEmitted sig ts steps ks (literals ts steps ks) (i + 1) (lines ++ line_of ts (place ks) c s ∷ []) (c + length (tag_of s.rule))
    emitted_step =
        let l = line_of ts (place ks) c s in
        record {
          long = length-append lines (l ∷ []) ∙ (let w = a.long in omega (arith, w));
          count_is = (λ n. a.count_is n + sym (assumed_length (literal ts s) s.rule) n) ∙ sym (length-append (literals ts steps (take i ks)) (assumed (literal ts s) s.rule))
              ∙ ap length (sym (literals_pushed ts steps (take i ks) k s at)) ∙ ap (λ xs. length (literals ts steps xs)) (sym front_is);
          allowed = all_append sig (fact_ok sig) (literals ts steps ks) [] lines (l ∷ []) a.allowed ((ap (fact_ok sig) says ∙ (fits.allowed.each k s at).sorted, next_allowed), tt);
          factors = all_push HasFactorsWithin lines l a.factors next_factors;
          stated = λ j n t d e q. stated j n t d e q;
        }
      where
        stated : (j n : ℕ) (t : Step) → j < i + 1 → slice_get ks j ≡ Some n → slice_get steps n ≡ Some t → Stated (lines ++ line_of ts (place ks) c s ∷ []) j (fact_of ts t)
        stated j n t d e q = elim (cases_lt j i) [
          | inl b ↦ stated_front lines (line_of ts (place ks) c s ∷ []) j (fact_of ts t) (a.stated j n t b e q)
          | inr b ↦
              let same : j ≡ i = omega (arith, b, d) in
              let u : ◌≡◌ {A = Option ℕ} (Some n) (Some k) = sym e ∙ ap (slice_get ks) same ∙ is in
              let v : n ≡ k = cc u in
              let w : ◌≡◌ {A = Option Step} (Some s) (Some t) = sym at ∙ ap (slice_get steps) (sym v) ∙ q in
              let x : s ≡ t = cc w in
              let p : j ≡ length lines = (let z = a.long in omega (arith, z, same)) in
              ap (λ m. slice_get (lines ++ line_of ts (place ks) c s ∷ []) m >>= λ x. Some (states x)) p
              ∙ ap (λ o. o >>= λ x. Some (states x)) (get_last lines (line_of ts (place ks) c s)) ∙ ap Some (says ∙ ap (fact_of ts) x)
        ]

  -- how many assumptions there were
  pub count_few : (i c : ℕ) (lines : List EqLine) → i ≤ length ks → IsEmitted sig ts steps ks (literals ts steps ks) i lines c → c ≤ i
  count_few i c lines l a = let e = a.count_is in let h = literals_few ts steps (take i ks) in let n = length-take-le i ks l in omega (arith, e, h, n)

  -- one turn of the code
  pub emitted_turn : (i c c' d : ℕ) (lines lines' : List EqLine) (s : Step) (l : EqLine) (given : List ℕ) → i < length ks → IsEmitted sig ts steps ks (literals ts steps ks) i lines c
      → s ≡ get_or steps (get_or ks i d) s → get_or ks i d < length steps
      → given ≡ ks → l ≡ line_of ts (place given) c s → lines' ≡ lines ++ l ∷ [] → c' ≡ c + length (tag_of s.rule) → IsEmitted sig ts steps ks (literals ts steps ks) (i + 1) lines' c'
  emitted_turn i c c' d lines lines' s l given low a at w g e p q =
      let is : slice_get ks i ≡ Some (get_or ks i d) = slice_get-get_or ks i d low in
      let at' : slice_get steps (get_or ks i d) ≡ Some s = slice_get_read steps (length steps) (get_or ks i d) s refl w at in
      let done = emitted_step i (get_or ks i d) c lines s is at' a in
      let same : lines' ≡ lines ++ line_of ts (place ks) c s ∷ [] = p ∙ (λ n. lines ++ (e ∙ (λ m. line_of ts (place (g m)) c s)) n ∷ []) in
      subst (λ x. IsEmitted sig ts steps ks (literals ts steps ks) (i + 1) lines' x) (sym q) (subst (λ x. IsEmitted sig ts steps ks (literals ts steps ks) (i + 1) x (c + length (tag_of s.rule))) (sym same) done)

-- ---- one turn of the loops that collect
pub literals_turn : (ts : List Term) (steps : List Step) (ks : List ℕ) (i d : ℕ) (s : Step) (hs hs' : List Lit) → i < length ks → get_or ks i d < length steps → s ≡ get_or steps (get_or ks i d) s → hs ≡ literals ts steps (take i ks)
    → hs' ≡ hs ++ assumed (literal ts s) s.rule → hs' ≡ literals ts steps (take (i + 1) ks)
literals_turn ts steps ks i d s hs hs' l w at p q =
    let at' : slice_get steps (get_or ks i d) ≡ Some s = slice_get_read steps (length steps) (get_or ks i d) s refl w at in
    q ∙ ap (λ x. x ++ assumed (literal ts s) s.rule) p ∙ sym (literals_pushed ts steps (take i ks) (get_or ks i d) s at') ∙ ap (literals ts steps) (sym (take_more ks i d l))

pub tags_turn : (steps : List Step) (ks : List ℕ) (i d : ℕ) (s : Step) (ns ns' : List ℕ) → i < length ks → get_or ks i d < length steps → s ≡ get_or steps (get_or ks i d) s → ns ≡ tags steps (take i ks)
    → ns' ≡ ns ++ tag_of s.rule → ns' ≡ tags steps (take (i + 1) ks)
tags_turn steps ks i d s ns ns' l w at p q =
    let at' : slice_get steps (get_or ks i d) ≡ Some s = slice_get_read steps (length steps) (get_or ks i d) s refl w at in
    q ∙ ap (λ x. x ++ tag_of s.rule) p ∙ sym (tags_pushed steps (take i ks) (get_or ks i d) s at') ∙ ap (tags steps) (sym (take_more ks i d l))

-- ---- a whole derivation
last_of : (ls : List EqLine) (n : ℕ) → length ls ≡ suc n → (front : List EqLine) × (l : EqLine) × (ls ≡ front ++ l ∷ []) × (slice_get ls n ≡ Some l)
last_of [] n e = absurd (omega (arith, e))
last_of (l ∷ []) n e = let z : n ≡ 0 = omega (arith, e) in ([], l, refl, ap (slice_get (l ∷ [])) z)
last_of (l ∷ m ∷ ls) zero e = absurd (omega (arith, e))
last_of (l ∷ m ∷ ls) (suc n) e = let r = last_of (m ∷ ls) n (omega (arith, e)) in (l ∷ r.0, r.1, ap (λ x. l ∷ x) r.2, r.3)

size_of : (n : ℕ) (xs : List ℕ) → n < length xs → (m : ℕ) × (length xs ≡ suc m)
size_of n [] h = absurd (omega (arith, h))
size_of n (x ∷ xs) h = (length xs, refl)

pub derivation : (sig : Signature) (ts : List Term) (steps : List Step) (id : ℕ) (ks : List ℕ) (d : Deriv) (c : ℕ) → Fits sig ts steps → id < length steps → AreNeeded steps id ks → d.hyps ≡ literals ts steps ks
    → IsEmitted sig ts steps ks (literals ts steps ks) (length ks) d.lines c → Derives sig ts steps id d
derivation sig ts steps id ks d c fits low needed hyps a =
    let s = value_at steps id low in
    let i = needed.all id itself in
    let w : i.place < length ks = slice_get_within ks i.place id i.is in
    let m = size_of i.place ks w in
    let k = value_at ks m.0 (let e = m.1 in omega (arith, e)) in
    let same : k.0 ≡ id = last_needed steps (rest_on_earlier sig ts steps fits.allowed) id ks needed m.0 k.0 m.1 k.1 in
    let e = last_of d.lines m.0 (a.long ∙ m.1) in
    let st = a.stated m.0 k.0 s.0 (let z = m.1 in omega (arith, z)) k.1 (ap (slice_get steps) same ∙ s.1) in
    let says : ◌≡◌ {A = Option Fact} (Some (states e.1)) (Some (fact_of ts s.0)) = sym (ap (λ o. o >>= λ x. Some (states x)) e.3) ∙ st in
    record {
      needed = ks;
      are_needed = needed;
      hyps = hyps;
      allowed = subst (λ hs. AllAllowed sig (fact_ok sig) hs [] d.lines) (sym hyps) a.allowed;
      factors = a.factors;
      one_each = a.long;
      stated = λ j n t x y. a.stated j n t (slice_get_within ks j n x) x y;
      step = s.0;
      is = s.1;
      front = e.0;
      last = e.1;
      lines = e.2;
      derived = cc says;
    }

pub terms_long : (ns : List Node) → length (terms (shapes ns)) ≡ length ns
terms_long ns = length_terms (shapes ns) ∙ length-map ns shape_of
