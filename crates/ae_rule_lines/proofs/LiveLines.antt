-- Lines that stand, before and after one more line.
use Rattle.std.proofs.Common.{◌≡◌, ◌≢◌, ℕ, zero, suc, ◌⊎◌, inl, inr, List, [], ◌∷◌, ◌++◌, sym, ap, ◌∙◌, subst, arith, append_assoc}
use Rattle.std.specs.List.{AllByRecursion, Contains}
use Rattle.std.proofs.lemmas.List.{append-nil}
use Rattle.std.proofs.lemmas.List.Elements.{Contains-append_left, Contains-append_right, Contains-append_cases}
use Rattle.ae_base.proofs.AllOf.{all_push}
use Rattle.ae_base.proofs.ListFacts.{cons_head, cons_tail}
use Rattle.ae_core.specs.declared.problems.AcSymbol.{AcSymbol}
use Rattle.ae_journal.specs.Journals.{before_decision, live_after, live, IsBack}
use Rattle.ae_journal.specs.RuleLines.{IsStanding, WasNoted, IsPaired}
use Rattle.ae_journal.specs.declared.lines.Oriented.TheVariants as oriented
use Rattle.ae_journal.specs.declared.lines.Line.{Line}
use Rattle.ae_journal.specs.declared.lines.Line.TheVariants as line
use Rattle.ae_journal.proofs.Splits.{contains_here, contains_one}

-- ---- of the lines that stand all stand
abbrev NoBacks : List Line → Type 0
NoBacks js = AllByRecursion (λ j. ¬ IsBack j) js

cut_none : (n : ℕ) (js : List Line) → NoBacks js → NoBacks (before_decision n js)
cut_none n [] a = tt
cut_none zero (line.Decide l ∷ js) a = tt
cut_none (suc n) (line.Decide l ∷ js) a = (a.0, cut_none n js a.1)
cut_none zero (line.Orient o ∷ js) a = (a.0, cut_none zero js a.1)
cut_none (suc n) (line.Orient o ∷ js) a = (a.0, cut_none (suc n) js a.1)
cut_none zero (line.Drop o ∷ js) a = (a.0, cut_none zero js a.1)
cut_none (suc n) (line.Drop o ∷ js) a = (a.0, cut_none (suc n) js a.1)
cut_none zero (line.Pair u l m ∷ js) a = (a.0, cut_none zero js a.1)
cut_none (suc n) (line.Pair u l m ∷ js) a = (a.0, cut_none (suc n) js a.1)
cut_none zero (line.Learn c ∷ js) a = (a.0, cut_none zero js a.1)
cut_none (suc n) (line.Learn c ∷ js) a = (a.0, cut_none (suc n) js a.1)
cut_none zero (line.TypeInstance k ss ∷ js) a = (a.0, cut_none zero js a.1)
cut_none (suc n) (line.TypeInstance k ss ∷ js) a = (a.0, cut_none (suc n) js a.1)
cut_none zero (line.TermInstance f ts ∷ js) a = (a.0, cut_none zero js a.1)
cut_none (suc n) (line.TermInstance f ts ∷ js) a = (a.0, cut_none (suc n) js a.1)
cut_none zero (line.Combine b f ∷ js) a = (a.0, cut_none zero js a.1)
cut_none (suc n) (line.Combine b f ∷ js) a = (a.0, cut_none (suc n) js a.1)
cut_none zero (line.Back k ∷ js) a = (a.0, cut_none zero js a.1)
cut_none (suc n) (line.Back k ∷ js) a = (a.0, cut_none (suc n) js a.1)

pushed_none : (kept : List Line) (j : Line) → NoBacks kept → ¬ IsBack j → NoBacks (kept ++ j ∷ [])
pushed_none kept j a b = all_push (λ k. ¬ IsBack k) kept j a b

live_none : (kept js : List Line) → NoBacks kept → NoBacks (live_after kept js)
live_none kept [] a = a
live_none kept (line.Decide l ∷ js) a = live_none (kept ++ line.Decide l ∷ []) js (pushed_none kept (line.Decide l) a (λ b. b))
live_none kept (line.Orient o ∷ js) a = live_none (kept ++ line.Orient o ∷ []) js (pushed_none kept (line.Orient o) a (λ b. b))
live_none kept (line.Drop o ∷ js) a = live_none (kept ++ line.Drop o ∷ []) js (pushed_none kept (line.Drop o) a (λ b. b))
live_none kept (line.Pair u l m ∷ js) a = live_none (kept ++ line.Pair u l m ∷ []) js (pushed_none kept (line.Pair u l m) a (λ b. b))
live_none kept (line.Learn c ∷ js) a = live_none (kept ++ line.Learn c ∷ []) js (pushed_none kept (line.Learn c) a (λ b. b))
live_none kept (line.TypeInstance k ss ∷ js) a = live_none (kept ++ line.TypeInstance k ss ∷ []) js (pushed_none kept (line.TypeInstance k ss) a (λ b. b))
live_none kept (line.TermInstance f ts ∷ js) a = live_none (kept ++ line.TermInstance f ts ∷ []) js (pushed_none kept (line.TermInstance f ts) a (λ b. b))
live_none kept (line.Combine b f ∷ js) a = live_none (kept ++ line.Combine b f ∷ []) js (pushed_none kept (line.Combine b f) a (λ c. c))
live_none kept (line.Back n ∷ js) a = live_none (before_decision n kept) js (cut_none n kept a)

all_live : (kept js : List Line) → NoBacks js → live_after kept js ≡ kept ++ js
all_live kept [] a = sym (append-nil kept)
all_live kept (line.Decide l ∷ js) a = all_live (kept ++ line.Decide l ∷ []) js a.1 ∙ append_assoc kept (line.Decide l ∷ []) js
all_live kept (line.Orient o ∷ js) a = all_live (kept ++ line.Orient o ∷ []) js a.1 ∙ append_assoc kept (line.Orient o ∷ []) js
all_live kept (line.Drop o ∷ js) a = all_live (kept ++ line.Drop o ∷ []) js a.1 ∙ append_assoc kept (line.Drop o ∷ []) js
all_live kept (line.Pair u l m ∷ js) a = all_live (kept ++ line.Pair u l m ∷ []) js a.1 ∙ append_assoc kept (line.Pair u l m ∷ []) js
all_live kept (line.Learn c ∷ js) a = all_live (kept ++ line.Learn c ∷ []) js a.1 ∙ append_assoc kept (line.Learn c ∷ []) js
all_live kept (line.TypeInstance k ss ∷ js) a = all_live (kept ++ line.TypeInstance k ss ∷ []) js a.1 ∙ append_assoc kept (line.TypeInstance k ss ∷ []) js
all_live kept (line.TermInstance f ts ∷ js) a = all_live (kept ++ line.TermInstance f ts ∷ []) js a.1 ∙ append_assoc kept (line.TermInstance f ts ∷ []) js
all_live kept (line.Combine b f ∷ js) a = all_live (kept ++ line.Combine b f ∷ []) js a.1 ∙ append_assoc kept (line.Combine b f ∷ []) js
all_live kept (line.Back n ∷ js) a = absurd (a.0 tt)

pub live_once : (js : List Line) → live (live js) ≡ live js
live_once js = all_live [] (live js) (live_none [] js tt)

-- ---- a list with one line more, cut at a line: that line is the last one, or the lines before the last one are cut there
pub cut_before_last : (js a b : List Line) (x y : Line) → js ++ x ∷ [] ≡ a ++ y ∷ b → (x ≡ y) ⊎ ((c : List Line) × (b ≡ c ++ x ∷ []) × (js ≡ a ++ y ∷ c))
cut_before_last [] [] b x y e = inl (cons_head x y [] b e)
cut_before_last [] (z ∷ []) b x y e = absurd (let h : [] ≡ y ∷ b = cons_tail x z [] (y ∷ b) e in let g : ⊥ = cc in g)
cut_before_last [] (z ∷ w ∷ a) b x y e = absurd (let h : [] ≡ w ∷ a ++ y ∷ b = cons_tail x z [] (w ∷ a ++ y ∷ b) e in let g : ⊥ = cc in g)
cut_before_last (w ∷ js) [] b x y e =
    inr (js, sym (cons_tail w y (js ++ x ∷ []) b e), ap (λ (z : Line). z ∷ js) (cons_head w y (js ++ x ∷ []) b e))
cut_before_last (w ∷ js) (z ∷ a) b x y e =
    elim (cut_before_last js a b x y (cons_tail w z (js ++ x ∷ []) (a ++ y ∷ b) e)) as (λ _. (x ≡ y) ⊎ ((c : List Line) × (b ≡ c ++ x ∷ []) × (w ∷ js ≡ z ∷ a ++ y ∷ c))) [
      | inl q ↦ inl q
      | inr c ↦ inr (c.0, c.1, λ i. cons_head w z (js ++ x ∷ []) (a ++ y ∷ b) e i ∷ c.2 i)
    ]

-- a rule that stands was noted
pub noted_of : (js : List Line) (u : AcSymbol) (l r : List ℕ) → IsStanding js u l r → WasNoted js u l r
noted_of js u l r s =
    let x = line.Orient (oriented.Rule u l r) in
    subst (λ (ls : List Line). Contains ls x) (sym s.is) (Contains-append_right s.before (x ∷ s.after) x (contains_here x s.after))

-- the line drops no rule of the symbol with the left side
abbrev pub DropsNot : Line → AcSymbol → List ℕ → Type 0
DropsNot j u l = (d : List ℕ) → j ≢ line.Drop (oriented.Rule u l d)

-- ---- one line more
module _ (js : List Line) (j : Line) (pushed : live (js ++ j ∷ []) ≡ live js ++ j ∷ []) where
  pub line_more : (k : Line) → Contains (live js) k → Contains (live (js ++ j ∷ [])) k
  line_more k h = subst (λ (ls : List Line). Contains ls k) (sym pushed) (Contains-append_left (live js) (j ∷ []) k h)

  pub line_last : Contains (live (js ++ j ∷ [])) j
  line_last = subst (λ (ls : List Line). Contains ls j) (sym pushed) (Contains-append_right (live js) (j ∷ []) j (contains_here j []))

  further : (before after : List Line) (x : Line) → live js ≡ before ++ x ∷ after → live (js ++ j ∷ []) ≡ before ++ x ∷ (after ++ j ∷ [])
  further before after x e = pushed ∙ ap (λ (ls : List Line). ls ++ j ∷ []) e ∙ append_assoc before (x ∷ after) (j ∷ [])

  -- what doesn't come before the line doesn't come with it, unless it is the line
  still_none : (after : List Line) (x : Line) → ¬ Contains after x → j ≢ x → ¬ Contains (after ++ j ∷ []) x
  still_none after x a d h = elim (Contains-append_cases after (j ∷ []) x h) [ inl b ↦ a b | inr b ↦ d (contains_one j x b) ]

  none_before : (after c : List Line) (x : Line) → after ≡ c ++ j ∷ [] → ¬ Contains after x → ¬ Contains c x
  none_before after c x e a h = a (subst (λ (ls : List Line). Contains ls x) (sym e) (Contains-append_left c (j ∷ []) x h))

  not_the_line : (after c : List Line) (x : Line) → after ≡ c ++ j ∷ [] → ¬ Contains after x → j ≢ x
  not_the_line after c x e a q =
      a (subst (λ (ls : List Line). Contains ls x) (sym e) (Contains-append_right c (j ∷ []) x (subst (Contains (j ∷ [])) q (contains_here j []))))

  -- ---- rules that stand
  pub standing_kept : (u : AcSymbol) (l r : List ℕ) → DropsNot j u l → IsStanding js u l r → IsStanding (js ++ j ∷ []) u l r
  standing_kept u l r d s = record {
    before = s.before;
    after = s.after ++ j ∷ [];
    is = further s.before s.after (line.Orient (oriented.Rule u l r)) s.is;
    kept = λ f. still_none s.after (line.Drop (oriented.Rule u l f)) (s.kept f) (d f);
  }

  pub standing_last : (u : AcSymbol) (l r : List ℕ) → j ≡ line.Orient (oriented.Rule u l r) → IsStanding (js ++ j ∷ []) u l r
  standing_last u l r e = record {
    before = live js;
    after = [];
    is = pushed ∙ ap (λ (x : Line). live js ++ x ∷ []) e;
    kept = λ f h. omega (arith, h.1);
  }

  pub standing_before : (u : AcSymbol) (l r : List ℕ) → IsStanding (js ++ j ∷ []) u l r → (j ≡ line.Orient (oriented.Rule u l r)) ⊎ (IsStanding js u l r × DropsNot j u l)
  standing_before u l r s =
      elim (cut_before_last (live js) s.before s.after j (line.Orient (oriented.Rule u l r)) (sym pushed ∙ s.is)) [
        | inl e ↦ inl e
        | inr c ↦ inr (
          record {
            before = s.before;
            after = c.0;
            is = c.2;
            kept = λ f. none_before s.after c.0 (line.Drop (oriented.Rule u l f)) c.1 (s.kept f);
          },
          λ f. not_the_line s.after c.0 (line.Drop (oriented.Rule u l f)) c.1 (s.kept f),
        )
      ]

  -- ---- pairs
  pub paired_kept : (u : AcSymbol) (l m : List ℕ) → DropsNot j u l → DropsNot j u m → IsPaired js u l m → IsPaired (js ++ j ∷ []) u l m
  paired_kept u l m d e p = record {
    before = p.before;
    after = p.after ++ j ∷ [];
    is = elim p.is [ inl q ↦ inl (further p.before p.after (line.Pair u l m) q) | inr q ↦ inr (further p.before p.after (line.Pair u m l) q) ];
    kept = λ f. (still_none p.after (line.Drop (oriented.Rule u l f)) (p.kept f).0 (d f), still_none p.after (line.Drop (oriented.Rule u m f)) (p.kept f).1 (e f));
  }

  pub paired_last : (u : AcSymbol) (l m : List ℕ) → (j ≡ line.Pair u l m) ⊎ (j ≡ line.Pair u m l) → IsPaired (js ++ j ∷ []) u l m
  paired_last u l m e = record {
    before = live js;
    after = [];
    is = elim e [ inl q ↦ inl (pushed ∙ ap (λ (x : Line). live js ++ x ∷ []) q) | inr q ↦ inr (pushed ∙ ap (λ (x : Line). live js ++ x ∷ []) q) ];
    kept = λ f. (λ h. omega (arith, h.1), λ h. omega (arith, h.1));
  }

  abbrev pub WasPaired : AcSymbol → List ℕ → List ℕ → Type 0
  WasPaired u l m = IsPaired js u l m × DropsNot j u l × DropsNot j u m

  earlier : (u : AcSymbol) (l m : List ℕ) (p : IsPaired (js ++ j ∷ []) u l m) (c : List Line) → p.after ≡ c ++ j ∷ [] → (live js ≡ p.before ++ line.Pair u l m ∷ c) ⊎ (live js ≡ p.before ++ line.Pair u m l ∷ c) → WasPaired u l m
  earlier u l m p c e is = (
    record {
      before = p.before;
      after = c;
      is = is;
      kept = λ f. (none_before p.after c (line.Drop (oriented.Rule u l f)) e (p.kept f).0, none_before p.after c (line.Drop (oriented.Rule u m f)) e (p.kept f).1);
    },
    (λ f. not_the_line p.after c (line.Drop (oriented.Rule u l f)) e (p.kept f).0),
    λ f. not_the_line p.after c (line.Drop (oriented.Rule u m f)) e (p.kept f).1,
  )

  pub paired_before : (u : AcSymbol) (l m : List ℕ) → IsPaired (js ++ j ∷ []) u l m → ((j ≡ line.Pair u l m) ⊎ (j ≡ line.Pair u m l)) ⊎ WasPaired u l m
  paired_before u l m p = by_order p.is
    where
      by_order : (live (js ++ j ∷ []) ≡ p.before ++ line.Pair u l m ∷ p.after) ⊎ (live (js ++ j ∷ []) ≡ p.before ++ line.Pair u m l ∷ p.after) → ((j ≡ line.Pair u l m) ⊎ (j ≡ line.Pair u m l)) ⊎ WasPaired u l m
      by_order (inl q) =
          elim (cut_before_last (live js) p.before p.after j (line.Pair u l m) (sym pushed ∙ q)) [ inl e ↦ inl (inl e) | inr c ↦ inr (earlier u l m p c.0 c.1 (inl c.2)) ]
      by_order (inr q) =
          elim (cut_before_last (live js) p.before p.after j (line.Pair u m l) (sym pushed ∙ q)) [ inl e ↦ inl (inr e) | inr c ↦ inr (earlier u l m p c.0 c.1 (inr c.2)) ]

-- ---- a journal and the lines of it that stand
pub standing_live : (js : List Line) (u : AcSymbol) (l r : List ℕ) → IsStanding js u l r → IsStanding (live js) u l r
standing_live js u l r s = record { before = s.before; after = s.after; is = live_once js ∙ s.is; kept = s.kept }

pub standing_in : (js : List Line) (u : AcSymbol) (l r : List ℕ) → IsStanding (live js) u l r → IsStanding js u l r
standing_in js u l r s = record { before = s.before; after = s.after; is = sym (live_once js) ∙ s.is; kept = s.kept }

pub paired_live : (js : List Line) (u : AcSymbol) (l m : List ℕ) → IsPaired js u l m → IsPaired (live js) u l m
paired_live js u l m p = record { before = p.before; after = p.after; is = elim p.is [ inl q ↦ inl (live_once js ∙ q) | inr q ↦ inr (live_once js ∙ q) ]; kept = p.kept }

pub line_in : (js : List Line) (k : Line) → Contains (live (live js)) k → Contains (live js) k
line_in js k h = subst (λ (ls : List Line). Contains ls k) (live_once js) h
