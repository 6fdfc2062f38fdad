-- The lines that stand after a longer journal, and what a `Back` line leaves of them.
use Rattle.std.proofs.Common.{◌≡◌, ◌≢◌, ℕ, zero, suc, ◌-◌, ◌<◌, ◌≤◌, List, [], ◌∷◌, ◌++◌, length, refl, sym, ◌∙◌, ap, subst, arith, inl, inr, ◌⊎◌, append_assoc}
use Rattle.std.proofs.lemmas.List.{append-nil}
use Rattle.std.specs.List.{AllByRecursion, Contains}
use Rattle.std.proofs.lemmas.List.Elements.{Contains-append_left}
use Rattle.ae_core.specs.declared.formulas.Lit.{Lit}
use Rattle.ae_journal.specs.declared.lines.Line.{Line}
use Rattle.ae_journal.specs.declared.lines.Line.TheVariants as line
use Rattle.ae_journal.specs.Journals.{before_decision, after_line, live_after, live, decisions, IsDecided, HasLine, IsBack, BringsClause, MayGoBack}
use Rattle.ae_journal.specs.Journals.HasLine.{here, later}
use Rattle.ae_journal.specs.Laws.{KeepsDecision, BackRestores, BackAfterLearn}

pub live_after-append : (kept xs ys : List Line) → live_after kept (xs ++ ys) ≡ live_after (live_after kept xs) ys
live_after-append kept [] ys = refl
live_after-append kept (j ∷ xs) ys = live_after-append (after_line kept j) xs ys

pub live_push : (js : List Line) (j : Line) → live (js ++ j ∷ []) ≡ after_line (live js) j
live_push js j = live_after-append [] js (j ∷ [])

pub decisions-append : (xs ys : List Line) → decisions (xs ++ ys) ≡ decisions xs ++ decisions ys
decisions-append [] ys = refl
decisions-append (line.Decide l ∷ xs) ys = ap (λ (w : List Lit). l ∷ w) (decisions-append xs ys)
decisions-append (line.Orient o ∷ xs) ys = decisions-append xs ys
decisions-append (line.Drop o ∷ xs) ys = decisions-append xs ys
decisions-append (line.Pair u l m ∷ xs) ys = decisions-append xs ys
decisions-append (line.Learn c ∷ xs) ys = decisions-append xs ys
decisions-append (line.TypeInstance k ss ∷ xs) ys = decisions-append xs ys
decisions-append (line.TermInstance f ts ∷ xs) ys = decisions-append xs ys
decisions-append (line.Combine b f ∷ xs) ys = decisions-append xs ys
decisions-append (line.Back n ∷ xs) ys = decisions-append xs ys

-- before a line that is no decision nothing is cut off
before_other : (n : ℕ) (j : Line) (xs : List Line) → (before_decision n (j ∷ xs) ≡ j ∷ before_decision n xs) ⊎ ((l : Lit) × (j ≡ line.Decide l))
before_other n (line.Decide l) xs = inr (l, refl)
before_other zero (line.Orient o) xs = inl refl
before_other zero (line.Drop o) xs = inl refl
before_other zero (line.Pair u a b) xs = inl refl
before_other zero (line.Learn c) xs = inl refl
before_other zero (line.TypeInstance k ss) xs = inl refl
before_other zero (line.TermInstance f ts) xs = inl refl
before_other zero (line.Combine b f) xs = inl refl
before_other zero (line.Back k) xs = inl refl
before_other (suc n) (line.Orient o) xs = inl refl
before_other (suc n) (line.Drop o) xs = inl refl
before_other (suc n) (line.Pair u a b) xs = inl refl
before_other (suc n) (line.Learn c) xs = inl refl
before_other (suc n) (line.TypeInstance k ss) xs = inl refl
before_other (suc n) (line.TermInstance f ts) xs = inl refl
before_other (suc n) (line.Combine b f) xs = inl refl
before_other (suc n) (line.Back k) xs = inl refl

-- a line that is no decision counts for none
no_decision : (j : Line) (xs : List Line) → (decisions (j ∷ xs) ≡ decisions xs) ⊎ ((l : Lit) × (j ≡ line.Decide l))
no_decision (line.Decide l) xs = inr (l, refl)
no_decision (line.Orient o) xs = inl refl
no_decision (line.Drop o) xs = inl refl
no_decision (line.Pair u a b) xs = inl refl
no_decision (line.Learn c) xs = inl refl
no_decision (line.TypeInstance k ss) xs = inl refl
no_decision (line.TermInstance f ts) xs = inl refl
no_decision (line.Combine b f) xs = inl refl
no_decision (line.Back k) xs = inl refl

-- the cut comes behind the first lines where it is at a later decision
pub cut_behind : (m : ℕ) (xs ys : List Line) → length (decisions xs) ≤ m → before_decision m (xs ++ ys) ≡ xs ++ before_decision (m - length (decisions xs)) ys
cut_behind m [] ys h = ap (λ k. before_decision k ys) (omega arith)
cut_behind zero (line.Decide l ∷ xs) ys h = absurd (omega (arith, h))
cut_behind (suc m) (line.Decide l ∷ xs) ys h =
    ap (λ (w : List Line). line.Decide l ∷ w) (cut_behind m xs ys (omega (arith, h)) ∙ ap (λ k. xs ++ before_decision k ys) (omega arith))
cut_behind zero (line.Orient o ∷ xs) ys h = ap (λ (w : List Line). line.Orient o ∷ w) (cut_behind zero xs ys h)
cut_behind (suc m) (line.Orient o ∷ xs) ys h = ap (λ (w : List Line). line.Orient o ∷ w) (cut_behind (suc m) xs ys h)
cut_behind zero (line.Drop o ∷ xs) ys h = ap (λ (w : List Line). line.Drop o ∷ w) (cut_behind zero xs ys h)
cut_behind (suc m) (line.Drop o ∷ xs) ys h = ap (λ (w : List Line). line.Drop o ∷ w) (cut_behind (suc m) xs ys h)
cut_behind zero (line.Pair u a b ∷ xs) ys h = ap (λ (w : List Line). line.Pair u a b ∷ w) (cut_behind zero xs ys h)
cut_behind (suc m) (line.Pair u a b ∷ xs) ys h = ap (λ (w : List Line). line.Pair u a b ∷ w) (cut_behind (suc m) xs ys h)
cut_behind zero (line.Learn c ∷ xs) ys h = ap (λ (w : List Line). line.Learn c ∷ w) (cut_behind zero xs ys h)
cut_behind (suc m) (line.Learn c ∷ xs) ys h = ap (λ (w : List Line). line.Learn c ∷ w) (cut_behind (suc m) xs ys h)
cut_behind zero (line.TypeInstance k ss ∷ xs) ys h = ap (λ (w : List Line). line.TypeInstance k ss ∷ w) (cut_behind zero xs ys h)
cut_behind (suc m) (line.TypeInstance k ss ∷ xs) ys h = ap (λ (w : List Line). line.TypeInstance k ss ∷ w) (cut_behind (suc m) xs ys h)
cut_behind zero (line.TermInstance f ts ∷ xs) ys h = ap (λ (w : List Line). line.TermInstance f ts ∷ w) (cut_behind zero xs ys h)
cut_behind (suc m) (line.TermInstance f ts ∷ xs) ys h = ap (λ (w : List Line). line.TermInstance f ts ∷ w) (cut_behind (suc m) xs ys h)
cut_behind zero (line.Combine b f ∷ xs) ys h = ap (λ (w : List Line). line.Combine b f ∷ w) (cut_behind zero xs ys h)
cut_behind (suc m) (line.Combine b f ∷ xs) ys h = ap (λ (w : List Line). line.Combine b f ∷ w) (cut_behind (suc m) xs ys h)
cut_behind zero (line.Back k ∷ xs) ys h = ap (λ (w : List Line). line.Back k ∷ w) (cut_behind zero xs ys h)
cut_behind (suc m) (line.Back k ∷ xs) ys h = ap (λ (w : List Line). line.Back k ∷ w) (cut_behind (suc m) xs ys h)

-- the first decision behind some lines, and what comes after it, are cut off
pub cut_at : (n : ℕ) (xs ys : List Line) (l : Lit) → length (decisions xs) ≡ n → before_decision n (xs ++ line.Decide l ∷ ys) ≡ xs
cut_at n xs ys l e =
    cut_behind n xs (line.Decide l ∷ ys) (omega (arith, e)) ∙ ap (λ k. xs ++ before_decision k (line.Decide l ∷ ys)) (let h : n - length (decisions xs) ≡ 0 = omega (arith, e) in h) ∙ append-nil xs

-- ---- the lines before a decision stay as long as the decision stands
module _ (kept : List Line) (l : Lit) (n : ℕ) (count : length (decisions kept) ≡ n) where
  abbrev Stood : List Line → Type 0
  Stood js = (rest : List Line) × (js ≡ kept ++ line.Decide l ∷ rest)

  pushed : (js : List Line) (j : Line) → Stood js → Stood (js ++ j ∷ [])
  pushed js j s = (s.0 ++ j ∷ [], ap (λ (w : List Line). w ++ j ∷ []) s.1 ∙ append_assoc kept (line.Decide l ∷ s.0) (j ∷ []))

  undone : (js : List Line) (m : ℕ) → n < m → Stood js → Stood (before_decision m js)
  undone js m h s = (
    before_decision (m - suc n) s.0,
    ap (before_decision m) s.1
        ∙ cut_behind m kept (line.Decide l ∷ s.0) (omega (arith, h, count))
        ∙ ap (λ k. kept ++ before_decision k (line.Decide l ∷ s.0)) (let e : m - length (decisions kept) ≡ suc (m - suc n) = omega (arith, h, count) in e),
  )

  stood_after : (js ls : List Line) → KeepsDecision n ls → Stood js → Stood (live_after js ls)
  stood_after js [] k s = s
  stood_after js (line.Decide m ∷ ls) k s = stood_after (js ++ line.Decide m ∷ []) ls k (pushed js (line.Decide m) s)
  stood_after js (line.Orient o ∷ ls) k s = stood_after (js ++ line.Orient o ∷ []) ls k (pushed js (line.Orient o) s)
  stood_after js (line.Drop o ∷ ls) k s = stood_after (js ++ line.Drop o ∷ []) ls k (pushed js (line.Drop o) s)
  stood_after js (line.Pair u a b ∷ ls) k s = stood_after (js ++ line.Pair u a b ∷ []) ls k (pushed js (line.Pair u a b) s)
  stood_after js (line.Learn c ∷ ls) k s = stood_after (js ++ line.Learn c ∷ []) ls k (pushed js (line.Learn c) s)
  stood_after js (line.TypeInstance i ss ∷ ls) k s = stood_after (js ++ line.TypeInstance i ss ∷ []) ls k (pushed js (line.TypeInstance i ss) s)
  stood_after js (line.TermInstance f ts ∷ ls) k s = stood_after (js ++ line.TermInstance f ts ∷ []) ls k (pushed js (line.TermInstance f ts) s)
  stood_after js (line.Combine b f ∷ ls) k s = stood_after (js ++ line.Combine b f ∷ []) ls k (pushed js (line.Combine b f) s)
  stood_after js (line.Back m ∷ ls) k s = stood_after (before_decision m js) ls k.1 (undone js m k.0 s)

pub back_restores : BackRestores
back_restores js ls l n e k =
    let s = stood_after (live js) l n e (live js ++ line.Decide l ∷ []) ls k ([], refl) in
    live_push (js ++ line.Decide l ∷ ls) (line.Back n)
    ∙ ap (before_decision n) (live_after-append [] js (line.Decide l ∷ ls) ∙ s.1)
    ∙ cut_at n (live js) s.0 l e

-- ---- decisions that stand
-- without a `Back` line the lines that stood still stand
pub live_grows : (kept ls : List Line) → AllByRecursion (λ j. ¬ IsBack j) ls → (more : List Line) × (live_after kept ls ≡ kept ++ more)
live_grows kept [] a = ([], sym (append-nil kept))
live_grows kept (j ∷ ls) a = more_after kept j ls a.0 (live_grows (after_line kept j) ls a.1)
  where
    pushed_on : (kept : List Line) (j : Line) (ls : List Line) → ((more : List Line) × (live_after (kept ++ j ∷ []) ls ≡ (kept ++ j ∷ []) ++ more)) → (more : List Line) × (live_after (kept ++ j ∷ []) ls ≡ kept ++ more)
    pushed_on kept j ls r = (j ∷ r.0, r.1 ∙ append_assoc kept (j ∷ []) r.0)

    more_after : (kept : List Line) (j : Line) (ls : List Line) → ¬ IsBack j → ((more : List Line) × (live_after (after_line kept j) ls ≡ after_line kept j ++ more))
        → (more : List Line) × (live_after (after_line kept j) ls ≡ kept ++ more)
    more_after kept (line.Back n) ls h r = absurd (h tt)
    more_after kept (line.Decide l) ls h r = pushed_on kept (line.Decide l) ls r
    more_after kept (line.Orient o) ls h r = pushed_on kept (line.Orient o) ls r
    more_after kept (line.Drop o) ls h r = pushed_on kept (line.Drop o) ls r
    more_after kept (line.Pair u a b) ls h r = pushed_on kept (line.Pair u a b) ls r
    more_after kept (line.Learn c) ls h r = pushed_on kept (line.Learn c) ls r
    more_after kept (line.TypeInstance k ss) ls h r = pushed_on kept (line.TypeInstance k ss) ls r
    more_after kept (line.TermInstance f ts) ls h r = pushed_on kept (line.TermInstance f ts) ls r
    more_after kept (line.Combine b f) ls h r = pushed_on kept (line.Combine b f) ls r

pub decided_grows : (js ls : List Line) (l : Lit) → AllByRecursion (λ j. ¬ IsBack j) ls → IsDecided js l → IsDecided (js ++ ls) l
decided_grows js ls l a h =
    let r = live_grows (live js) ls a in
    let e : decisions (live (js ++ ls)) ≡ decisions (live js) ++ decisions r.0 = ap decisions (live_after-append [] js ls ∙ r.1) ∙ decisions-append (live js) r.0 in
    subst (λ (w : List Lit). Contains w l) (sym e) (Contains-append_left (decisions (live js)) (decisions r.0) l h)

-- ---- the last line
no_end : (a b : List Line) (y : Line) → a ++ y ∷ b ≢ []
no_end [] b y e = cc
no_end (z ∷ a) b y e = cc

-- a line behind others is the one that a cut names, or stands behind it
pub last_cases : (js a b : List Line) (x y : Line) → js ++ x ∷ [] ≡ a ++ y ∷ b → (x ≡ y) ⊎ ((c : List Line) × (b ≡ c ++ x ∷ []))
last_cases [] [] b x y e = inl (let h : x ≡ y = cc in h)
last_cases [] (z ∷ a) b x y e = absurd (no_end a b y (let h : a ++ y ∷ b ≡ [] = cc in h))
last_cases (w ∷ js) [] b x y e = inr (js, let h : b ≡ js ++ x ∷ [] = cc in h)
last_cases (w ∷ js) (z ∷ a) b x y e = last_cases js a b x y (let h : js ++ x ∷ [] ≡ a ++ y ∷ b = cc in h)

pub has_last : (is : Line → Type 0) (js : List Line) (x : Line) → is x → HasLine is (js ++ x ∷ [])
has_last is [] x h = here x [] h
has_last is (j ∷ js) x h = later j (js ++ x ∷ []) (has_last is js x h)

-- after a line that brings a clause the solver may go back
pub back_after : (js : List Line) (x : Line) (n : ℕ) → BringsClause x → ¬ IsBack x → n < length (decisions (live (js ++ x ∷ []))) → MayGoBack (js ++ x ∷ []) n
back_after js x n b other l = record {
  some = l;
  between = λ a t m e. elim (last_cases js a t x (line.Back m) e) as (λ _. HasLine BringsClause t) [
    | inl q ↦ absurd (other (subst IsBack (sym q) tt))
    | inr r ↦ subst (HasLine BringsClause) (sym r.1) (has_last BringsClause r.0 x b)
  ];
  first = has_last BringsClause js x b;
}

pub back_after_learn : BackAfterLearn
back_after_learn js c n h = back_after js (line.Learn c) n tt (λ z. z) h
