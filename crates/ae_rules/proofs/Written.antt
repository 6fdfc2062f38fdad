-- What follows is stated by allowed lines.
use Rattle.std.specs.Prelude.{Bool, ℕ, zero, suc, ◌+◌, ℤ, true, List, [], ◌∷◌, ◌++◌, ◌≡◌, map, length, Option, Some, None}
use mathlib.Core.Logic.{inl, inr, ⊎_elim}
use mathlib.Core.Path.{refl, sym, ap, ◌∙◌, subst}
use mathlib.Core.List.{append_assoc, append-nil}
use Rattle.ae_base.specs.Options.{◌>>=◌}
use Rattle.ae_core.specs.declared.terms.Term.{Term, Apply}
use Rattle.ae_core.specs.declared.formulas.Lit.{Lit}
use Rattle.ae_core.specs.declared.problems.Signature.{Signature}
use Rattle.ae_core.specs.declared.proofs.Scaled.{Scaled}
use Rattle.ae_core.specs.declared.proofs.EqLine.{EqLine}
use Rattle.ae_core.specs.declared.proofs.EqLine.TheVariants.{EqHyp, EqRefl, EqSym, EqTrans, EqCong, EqAc, EqLin, EqField, EqFields, LeHyp, LtHyp, LeSum, LtSum, LeRound}
use Rattle.ae_rules.specs.Lines.{Fact, equal, states, Stated, Equated, Combined, Allowed, AllAllowed, Follows, by_hyp, by_refl, by_sym, by_trans, by_cong, by_ac, by_lin, by_field, by_le_hyp, by_lt_hyp, by_le_sum, by_lt_sum, by_fields, by_round, FollowAll, none, more, FollowEach, no_fact, a_fact, Among, Shown}
use Rattle.std.proofs.lemmas.List.{map-append}
use Rattle.ae_base.proofs.ListFacts.{get_after}

-- a line with the numbers of earlier lines moved up by n
abbrev pub moved : ℕ → Scaled → Scaled
moved n p = record { factor = p.factor; line = n + p.line }

abbrev pub shift : ℕ → EqLine → EqLine
shift n (EqHyp s t i) = EqHyp s t i
shift n (EqRefl s t) = EqRefl s t
shift n (EqSym s t k) = EqSym s t (n + k)
shift n (EqTrans s t j k) = EqTrans s t (n + j) (n + k)
shift n (EqCong s t ks) = EqCong s t (map (λ k. n + k) ks)
shift n (EqAc s t) = EqAc s t
shift n (EqLin s t d ps) = EqLin s t d (map (moved n) ps)
shift n (EqField s t) = EqField s t
shift n (EqFields s t ks) = EqFields s t (map (λ k. n + k) ks)
shift n (LeHyp s t i) = LeHyp s t i
shift n (LtHyp s t i) = LtHyp s t i
shift n (LeSum s t d ps) = LeSum s t d (map (moved n) ps)
shift n (LtSum s t d ps) = LtSum s t d (map (moved n) ps)
shift n (LeRound s t k) = LeRound s t (n + k)

pub states_shift : (n : ℕ) (l : EqLine) → states (shift n l) ≡ states l
states_shift n (EqHyp s t i) = refl
states_shift n (EqRefl s t) = refl
states_shift n (EqSym s t k) = refl
states_shift n (EqTrans s t j k) = refl
states_shift n (EqCong s t ks) = refl
states_shift n (EqAc s t) = refl
states_shift n (EqLin s t d ps) = refl
states_shift n (EqField s t) = refl
states_shift n (EqFields s t ks) = refl
states_shift n (LeHyp s t i) = refl
states_shift n (LtHyp s t i) = refl
states_shift n (LeSum s t d ps) = refl
states_shift n (LtSum s t d ps) = refl
states_shift n (LeRound s t k) = refl

-- the lines xs stand in ys, moved up by n
abbrev pub StandsIn : List EqLine → ℕ → List EqLine → Type 0
StandsIn xs n ys = (k : ℕ) (f : Fact) → Stated xs k f → Stated ys (n + k) f

pub stated_shifted : (n : ℕ) (xs : List EqLine) (k : ℕ) (f : Fact) → Stated xs k f → Stated (map (shift n) xs) k f
stated_shifted n [] k f s = s
stated_shifted n (x ∷ xs) zero f s = ap Some (states_shift n x) ∙ s
stated_shifted n (x ∷ xs) (suc k) f s = stated_shifted n xs k f s

pub stands_past : (pre xs : List EqLine) → StandsIn xs (length pre) (pre ++ map (shift (length pre)) xs)
stands_past pre xs k f s = ap (λ o. o >>= λ l. Some (states l)) (get_after pre (map (shift (length pre)) xs) k) ∙ stated_shifted (length pre) xs k f s

pub stated_before : (xs ys : List EqLine) (k : ℕ) (f : Fact) → Stated xs k f → Stated (xs ++ ys) k f
stated_before [] ys k f s = absurd (let e : ◌≡◌ {A = Option Fact} None (Some f) = s in cc)
stated_before (x ∷ xs) ys zero f s = s
stated_before (x ∷ xs) ys (suc k) f s = stated_before xs ys k f s

pub stated_last : (xs : List EqLine) (l : EqLine) → Stated (xs ++ l ∷ []) (length xs + 0) (states l)
stated_last xs l = ap (λ o. o >>= λ l. Some (states l)) (get_after xs (l ∷ []) 0)

module _ (xs : List EqLine) (n : ℕ) (ys : List EqLine) (stand : StandsIn xs n ys) where
  pub equated_in : (ks : List ℕ) (us vs : List Term) → Equated xs ks us vs → Equated ys (map (λ k. n + k) ks) us vs
  equated_in [] [] [] e = tt
  equated_in (k ∷ ks) (u ∷ us) (v ∷ vs) e = (stand k (equal u v) e.0, equated_in ks us vs e.1)
  equated_in [] [] (v ∷ vs) e = absurd e
  equated_in [] (u ∷ us) vs e = absurd e
  equated_in (k ∷ ks) [] vs e = absurd e
  equated_in (k ∷ ks) (u ∷ us) [] e = absurd e

  pub combined_in : (ps : List Scaled) (fs : List (ℤ × Fact)) → Combined xs ps fs → Combined ys (map (moved n) ps) fs
  combined_in [] [] c = tt
  combined_in (p ∷ ps) (f ∷ fs) c = (c.0, stand p.line f.1 c.1, combined_in ps fs c.2)
  combined_in [] (f ∷ fs) c = absurd c
  combined_in (p ∷ ps) [] c = absurd c

  pub allowed_in : (sig : Signature) (hyps : List Lit) (l : EqLine) → Allowed sig hyps xs l → Allowed sig hyps ys (shift n l)
  allowed_in sig hyps (EqHyp s t i) a = a
  allowed_in sig hyps (EqRefl s t) a = a
  allowed_in sig hyps (EqSym s t k) a = stand k (equal t s) a
  allowed_in sig hyps (EqTrans s t j k) (m, a, b) = (m, stand j (equal s m) a, stand k (equal m t) b)
  allowed_in sig hyps (EqCong s t ks) (h, ss, us, vs, a, b, e) = (h, ss, us, vs, a, b, equated_in ks us vs e)
  allowed_in sig hyps (EqAc s t) a = a
  allowed_in sig hyps (EqLin s t d ps) (m, fs, c, q, z) = (m, fs, combined_in ps fs c, q, z)
  allowed_in sig hyps (EqField s t) a = a
  allowed_in sig hyps (EqFields s t ks) (m, ss, e, fs, a, b, c, q) = (m, ss, e, fs, a, b, c, equated_in ks _ _ q)
  allowed_in sig hyps (LeHyp s t i) a = a
  allowed_in sig hyps (LtHyp s t i) a = a
  allowed_in sig hyps (LeSum s t d ps) (m, fs, c, q, z) = (m, fs, combined_in ps fs c, q, z)
  allowed_in sig hyps (LtSum s t d ps) (m, fs, c, q, w, z) = (m, fs, combined_in ps fs c, q, w, z)
  allowed_in sig hyps (LeRound s t k) (from, a, r) = (from, stand k from a, r)

module _ (sig : Signature) (ok : Fact → Bool) (hyps : List Lit) where
  -- allowed lines go on with allowed lines
  pub all_append : (e xs ys : List EqLine) → AllAllowed sig ok hyps e xs → AllAllowed sig ok hyps (e ++ xs) ys → AllAllowed sig ok hyps e (xs ++ ys)
  all_append e [] ys a b = subst (λ z. AllAllowed sig ok hyps z ys) (append-nil e) b
  all_append e (x ∷ xs) ys a b = (a.0, all_append (e ++ x ∷ []) xs ys a.1 (subst (λ z. AllAllowed sig ok hyps z ys) (sym (append_assoc e (x ∷ []) xs)) b))

  pub all_past : (pre e xs : List EqLine) → AllAllowed sig ok hyps e xs → AllAllowed sig ok hyps (pre ++ map (shift (length pre)) e) (map (shift (length pre)) xs)
  all_past pre e [] a = tt
  all_past pre e (x ∷ xs) a =
      let n = length pre in (
        (ap ok (states_shift n x) ∙ a.0.0, allowed_in e n (pre ++ map (shift n) e) (stands_past pre e) sig hyps x a.0.1),
        subst (λ z. AllAllowed sig ok hyps z (map (shift n) xs)) (ap (λ t. pre ++ t) (map-append (shift n) e (x ∷ [])) ∙ sym (append_assoc pre (map (shift n) e) (shift n x ∷ []))) (all_past pre (e ++ x ∷ []) xs a.1),
      )

  -- one list of lines after another
  pub joined : List EqLine → List EqLine → List EqLine
  joined xs ys = xs ++ map (shift (length xs)) ys

  pub all_joined : (xs ys : List EqLine) → AllAllowed sig ok hyps [] xs → AllAllowed sig ok hyps [] ys → AllAllowed sig ok hyps [] (joined xs ys)
  unfolding joined
  all_joined xs ys a b = all_append [] xs (map (shift (length xs)) ys) a (subst (λ z. AllAllowed sig ok hyps z (map (shift (length xs)) ys)) (append-nil xs) (all_past xs [] ys b))

  -- one more line
  pub shown_by : (xs : List EqLine) → AllAllowed sig ok hyps [] xs → (l : EqLine) → ok (states l) ≡ true → Allowed sig hyps xs l → Shown sig ok hyps (states l)
  shown_by xs a l o b = record { lines = xs ++ l ∷ []; all = all_append [] xs (l ∷ []) a ((o, b), tt); at = length xs + 0; is = stated_last xs l }

  pub record ShownAll (us vs : List Term) : Type 0 where
    pub lines : List EqLine
    pub all : AllAllowed sig ok hyps [] lines
    pub at : List ℕ
    pub are : Equated lines at us vs

  pub record ShownEach (fs : List (ℤ × Fact)) : Type 0 where
    pub lines : List EqLine
    pub all : AllAllowed sig ok hyps [] lines
    pub at : List Scaled
    pub are : Combined lines at fs

  pub trans_written : (s m t : Term) → ok (equal s t) ≡ true → Shown sig ok hyps (equal s m) → Shown sig ok hyps (equal m t) → Shown sig ok hyps (equal s t)
  unfolding joined
  trans_written s m t o x y =
      shown_by (joined x.lines y.lines) (all_joined x.lines y.lines x.all y.all) (EqTrans s t x.at (length x.lines + y.at)) o
      (m, stated_before x.lines _ x.at (equal s m) x.is, stands_past x.lines y.lines y.at (equal m t) y.is)

  pub all_more : (u v : Term) (us vs : List Term) → Shown sig ok hyps (equal u v) → ShownAll us vs → ShownAll (u ∷ us) (v ∷ vs)
  unfolding joined
  all_more u v us vs x y =
      record {
        lines = joined x.lines y.lines;
        all = all_joined x.lines y.lines x.all y.all;
        at = x.at ∷ map (λ k. length x.lines + k) y.at;
        are = (stated_before x.lines _ x.at (equal u v) x.is, equated_in y.lines (length x.lines) _ (stands_past x.lines y.lines) y.at us vs y.are);
      }

  pub each_more : (f : ℤ × Fact) (fs : List (ℤ × Fact)) → Shown sig ok hyps f.1 → ShownEach fs → ShownEach (f ∷ fs)
  unfolding joined
  each_more f fs x y =
      record {
        lines = joined x.lines y.lines;
        all = all_joined x.lines y.lines x.all y.all;
        at = record { factor = f.0; line = x.at } ∷ map (moved (length x.lines)) y.at;
        are = (refl, stated_before x.lines _ x.at f.1 x.is, combined_in y.lines (length x.lines) _ (stands_past x.lines y.lines) y.at fs y.are);
      }

  mutual
    pub written : {f : Fact} → Follows sig ok (Among hyps) f → Shown sig ok hyps f
    written (by_hyp {s = s} {t = t} h o) = shown_by [] tt (EqHyp s t h.0) o h.1
    written (by_refl {s = s} o) = shown_by [] tt (EqRefl s s) o refl
    written (by_sym {s = s} {t = t} a o) = let x = written a in shown_by x.lines x.all (EqSym s t x.at) o x.is
    written (by_trans {s = s} {m = m} {t = t} a b o) = trans_written s m t o (written a) (written b)
    written (by_cong h ss {us = us} {vs = vs} a o) =
        let x = written_all a in shown_by x.lines x.all (EqCong (Apply h ss us) (Apply h ss vs) x.at) o (h, ss, us, vs, refl, refl, x.are)
    written (by_ac {s = s} {t = t} h ss us vs c x y p o) = shown_by [] tt (EqAc s t) o (h, ss, c, us, vs, x, y, p)
    written (by_lin {s = s} {t = t} d fs n q z a o) = let x = written_each a in shown_by x.lines x.all (EqLin s t d x.at) o (n, fs, x.are, q, z)
    written (by_field n place ss args {t = t} g o) = shown_by [] tt (EqField _ t) o (n, place, ss, args, refl, g)
    written (by_le_hyp {s = s} {t = t} h o) = ⊎_elim (λ x. shown_by [] tt (LeHyp s t x.0) o (inl x.1)) (λ x. shown_by [] tt (LeHyp s t x.0) o (inr x.1)) h
    written (by_lt_hyp {s = s} {t = t} h o) = ⊎_elim (λ x. shown_by [] tt (LtHyp s t x.0) o (inl x.1)) (λ x. shown_by [] tt (LtHyp s t x.0) o (inr x.1)) h
    written (by_le_sum {s = s} {t = t} d fs n q z a o) = let x = written_each a in shown_by x.lines x.all (LeSum s t d x.at) o (n, fs, x.are, q, z)
    written (by_lt_sum {s = s} {t = t} d fs n q w z a o) = let x = written_each a in shown_by x.lines x.all (LtSum s t d x.at) o (n, fs, x.are, q, w, z)
    written (by_fields {s = s} {t = t} n ss e fs a b c q o) = let x = written_all q in shown_by x.lines x.all (EqFields s t x.at) o (n, ss, e, fs, a, b, c, x.are)
    written (by_round {s = s} {t = t} from r a o) = let x = written a in shown_by x.lines x.all (LeRound s t x.at) o (from, x.is, r)

    pub written_all : {us vs : List Term} → FollowAll sig ok (Among hyps) us vs → ShownAll us vs
    written_all none = record { lines = []; all = tt; at = []; are = tt }
    written_all (more {u = u} {v = v} {us = us} {vs = vs} a b) = all_more u v us vs (written a) (written_all b)

    written_each : {fs : List (ℤ × Fact)} → FollowEach sig ok (Among hyps) fs → ShownEach fs
    written_each no_fact = record { lines = []; all = tt; at = []; are = tt }
    written_each (a_fact {f = f} {fs = fs} a b) = each_more f fs (written a) (written_each b)
