-- Rows by their largest names: one row more, and one stage more.
use Rattle.std.specs.Prelude.{ℕ, zero, suc, ◌+◌, ◌<◌, ◌≤◌, ℤ, pos, negsuc, ◌<ℤ◌, ◌≡◌, ◌≢◌, ◌⊎◌, Option, Some, None, IfSome, List, [], ◌∷◌, ◌++◌, length, slice_get}
use Rattle.std.specs.List.{AllByRecursion, Contains}
use Rattle.std.proofs.Common.{arith, refl, sym, ap, ◌∙◌, subst, inl, inr}
use Rattle.std.proofs.lemmas.Option.{slice_get-get_or}
use borrow.Author.Differences.{ints}
use native.Mathlib.Decide.{dec_lt}
use Rattle.ae_base.proofs.AllOf.{all_push, all_weaker}
use Rattle.ae_math.specs.Forms.{Form}
use Rattle.ae_num.specs.declared.forms.Part.{Part}
use Rattle.ae_num.specs.declared.forms.Lin.{Lin}
use Rattle.ae_num.specs.Forms.{meaning, IsNormal}
use Rattle.ae_journal.proofs.Splits.{all_contained, contains_at}
use Rattle.ae_ineq.specs.declared.rows.Row.{Row as Directed}
use Rattle.ae_ineq.specs.declared.elimination.Stage.{Stage}
use Rattle.ae_ineq.specs.Inner.Sets.{last_part, name_reach, IsStage, IsLowerRow, IsUpperRow, HasForm, HasStage}
use Rattle.ae_ineq.proofs.LastLaws.{last_nonzero}
use Rattle.ae_ineq.proofs.RowSets.{has_left, has_right, has_either}
use Rattle.ae_ineq.proofs.Falling.{falling_push}
use Rattle.ae_bounds.specs.declared.rows.Row.{Row}
use Rattle.ae_bounds.proofs.Zeros.{form_zero}
use Rattle.ae_bound_points.specs.Points.{IsNonzeroRow}
use Rattle.ae_bound_points.specs.Inner.Stages.{IsLowerPart, IsUpperPart, IsPushed, IsAdded, HasLast, AreTaken, IsStageOf, IsBeneath, IsNext, AreStaged}
use Rattle.ae_bound_points.specs.Inner.Stages.IsAdded.{added, left}

-- ---- rows with names
pub some_parts : (ps : List Part) (p : Part) → last_part ps ≡ Some p → ps ≢ []
some_parts ps p e m =
    let h : None ≡ Some p = sym (ap last_part m) ∙ e in
    cc

pub none_last : (ps : List Part) (p : Part) → last_part ps ≡ None → last_part ps ≡ Some p → ⊥
none_last ps p n e =
    let h : None ≡ Some p = sym n ∙ e in
    cc

-- there is one last part
pub not_other : (P : Part → Type 0) (ps : List Part) (p q : Part) → last_part ps ≡ Some p → last_part ps ≡ Some q → P q → P p
not_other P ps p q a b h =
    let e : Some q ≡ Some p = sym b ∙ a in
    let same : q ≡ p = cc in
    subst P same h

pub nonzero_row : (rows : List Row) (r : Row) (p : Part) → Contains rows r → IsNormal r.lin → last_part r.lin.parts ≡ Some p → IsNonzeroRow rows (meaning r.lin)
nonzero_row rows r p c n e = record { row = r; among = c; is = refl; nonzero = λ z. some_parts r.lin.parts p e (form_zero r.lin n z).0 }

same_row : (rows : List Row) (i k : ℕ) (r s : Row) → i ≡ k → slice_get rows i ≡ Some r → slice_get rows k ≡ Some s → r ≡ s
same_row rows i k r s e a b =
    let h : Some r ≡ Some s = sym a ∙ ap (slice_get rows) e ∙ b in
    cc

-- ---- the rows of one kind, one after the other
pub taken_none : (P : Part → Type 0) (rows : List Row) (made : List Directed) → made ≡ [] → AreTaken P rows 0 made
taken_none P rows made e = subst (AreTaken P rows 0) (sym e) (record { each = tt; all = λ k r p l. absurd (omega (arith, l)); own = λ f h. absurd h })

module _ (P : Part → Type 0) (rows : List Row) (i : ℕ) (r : Row) (old : List Directed) (at : slice_get rows i ≡ Some r) (normal : IsNormal r.lin) (t : AreTaken P rows i old) where
  one_taken : (new : List Directed) (p : Part) → last_part r.lin.parts ≡ Some p → P p → IsPushed r old new → AreTaken P rows (i + 1) new
  one_taken new p e is h = subst (AreTaken P rows (i + 1)) (sym h.added) (record { each = each; all = all; own = own })
    where
      form : meaning h.made.lin ≡ meaning r.lin
      form = ap (λ (l : Lin). meaning l) h.is

      each : AllByRecursion (HasLast P) (old ++ h.made ∷ [])
      each = all_push (HasLast P) old h.made t.each (record { known = h.known; part = p; last = ap (λ (l : Lin). last_part l.parts) h.is ∙ e; is = is })

      all : (k : ℕ) (s : Row) (q : Part) → k < i + 1 → slice_get rows k ≡ Some s → last_part s.lin.parts ≡ Some q → P q → HasForm (old ++ h.made ∷ []) (meaning s.lin)
      all k s q l a b c =
          elim (dec_lt k i) [
            | yes m ↦ has_left old (h.made ∷ []) (meaning s.lin) (t.all k s q m a b c)
            | no m ↦ has_right old (h.made ∷ []) (meaning s.lin) (inl (form ∙ ap (λ (x : Row). meaning x.lin) (same_row rows i k r s (omega (arith, l, m)) at a)))
          ]

      here : (f : Form ℕ) → HasForm (h.made ∷ []) f → IsNonzeroRow rows f
      here f (inl g) = subst (IsNonzeroRow rows) (sym form ∙ g) (nonzero_row rows r p (contains_at rows i r at) normal e)
      here f (inr g) = absurd g

      own : (f : Form ℕ) → HasForm (old ++ h.made ∷ []) f → IsNonzeroRow rows f
      own f g = elim (has_either old (h.made ∷ []) f g) [ inl a ↦ t.own f a | inr b ↦ here f b ]

  none_taken : ((p : Part) → last_part r.lin.parts ≡ Some p → P p → ⊥) → AreTaken P rows (i + 1) old
  none_taken none = record {
    each = t.each;
    all = λ k s q l a b c. elim (dec_lt k i) [
      | yes m ↦ t.all k s q m a b c
      | no m ↦ absurd (none q (ap (λ (x : Row). last_part x.lin.parts) (same_row rows i k r s (omega (arith, l, m)) at a) ∙ b) c)
    ];
    own = t.own;
  }

  pub taken_step : (new : List Directed) → IsAdded P r old new → AreTaken P rows (i + 1) new
  taken_step new (added p e is h) = one_taken new p e is h
  taken_step new (left none same) = subst (AreTaken P rows (i + 1)) (sym same) (none_taken none)

pub taken_all : (P : Part → Type 0) (rows : List Row) (i : ℕ) (made : List Directed) → length rows ≤ i → AreTaken P rows i made → AreTaken P rows (length rows) made
taken_all P rows i made h t = record { each = t.each; all = λ k r p l. t.all k r p (omega (arith, h, l)); own = t.own }

-- ---- the next name
pub next_none : (rows : List Row) (bound : Option ℕ) → IsNext rows 0 bound None
next_none rows bound = record { below = tt; most = λ k r p l. absurd (omega (arith, l)) }

pub next_step : (rows : List Row) (i : ℕ) (r : Row) (bound found new : Option ℕ) → slice_get rows i ≡ Some r → IsNext rows i bound found → (IfSome found (IsBeneath bound) → IfSome new (IsBeneath bound)) → name_reach found ≤ name_reach new
    → IfSome (last_part r.lin.parts) (λ p. IsBeneath bound p.key → p.key < name_reach new) → IsNext rows (i + 1) bound new
next_step rows i r bound found new at before below more here = record { below = below before.below; most = most }
  where
    most : (k : ℕ) (s : Row) (p : Part) → k < i + 1 → slice_get rows k ≡ Some s → last_part s.lin.parts ≡ Some p → IsBeneath bound p.key → p.key < name_reach new
    most k s p l a b c =
        elim (dec_lt k i) [
          | yes m ↦ (let h = before.most k s p m a b c in omega (arith, h, more))
          | no m ↦ subst (λ (o : Option Part). IfSome o (λ q. IsBeneath bound q.key → q.key < name_reach new))
              (ap (λ (x : Row). last_part x.lin.parts) (same_row rows i k r s (omega (arith, l, m)) at a) ∙ b) here c
        ]

pub next_all : (rows : List Row) (i : ℕ) (bound found : Option ℕ) → length rows ≤ i → IsNext rows i bound found → IsNext rows (length rows) bound found
next_all rows i bound found h n = record { below = n.below; most = λ k r p l. n.most k r p (omega (arith, h, l)) }

pub most_of : (rows : List Row) (bound found : Option ℕ) → IsNext rows (length rows) bound found → (r : Row) (p : Part) → Contains rows r → last_part r.lin.parts ≡ Some p → IsBeneath bound p.key → p.key < name_reach found
most_of rows bound found n r p (k, l, g) e b = n.most k r p l (slice_get-get_or rows k r l ∙ ap Some g) e b

-- a name that is below a bound, or none
pub reach_below : (found : Option ℕ) (b : ℕ) → IfSome found (IsBeneath (Some b)) → name_reach found ≤ b
reach_below None b h = omega arith
reach_below (Some n) b h = omega (arith, h)

-- ---- stages
stage_left : (ss : List Stage) (s : Stage) (f : Form ℕ) → HasStage ss f → HasStage (ss ++ s ∷ []) f
stage_left [] s f h = absurd h
stage_left (t ∷ ss) s f (inl h) = inl h
stage_left (t ∷ ss) s f (inr (inl h)) = inr (inl h)
stage_left (t ∷ ss) s f (inr (inr h)) = inr (inr (stage_left ss s f h))

stage_right : (ss : List Stage) (s : Stage) (f : Form ℕ) → HasForm s.lowers f ⊎ HasForm s.uppers f → HasStage (ss ++ s ∷ []) f
stage_right [] s f (inl h) = inl h
stage_right [] s f (inr h) = inr (inl h)
stage_right (t ∷ ss) s f h = inr (inr (stage_right ss s f h))

stage_either : (ss : List Stage) (s : Stage) (f : Form ℕ) → HasStage (ss ++ s ∷ []) f → HasStage ss f ⊎ (HasForm s.lowers f ⊎ HasForm s.uppers f)
stage_either [] s f (inl h) = inr (inl h)
stage_either [] s f (inr (inl h)) = inr (inr h)
stage_either [] s f (inr (inr h)) = absurd h
stage_either (t ∷ ss) s f (inl h) = inl (inl h)
stage_either (t ∷ ss) s f (inr (inl h)) = inl (inr (inl h))
stage_either (t ∷ ss) s f (inr (inr h)) = elim (stage_either ss s f h) [ inl a ↦ inl (inr (inr a)) | inr b ↦ inr b ]

lower_of : (n : ℕ) (d : Directed) → HasLast (IsLowerPart n) d → IsLowerRow n d
lower_of n d h = record { row = h.known; factor = h.part.factor; is = h.last ∙ ap Some (λ i. record { key = (h.is).0 i; factor = h.part.factor }); sign = (h.is).1 }

upper_of : (n : ℕ) (d : Directed) → HasLast (IsUpperPart n) d → IsUpperRow n d
upper_of n d h = record { row = h.known; factor = h.part.factor; is = h.last ∙ ap Some (λ i. record { key = (h.is).0 i; factor = h.part.factor }); sign = (h.is).1 }

signs : (z : ℤ) → z ≢ pos 0 → (pos 0 <ℤ z) ⊎ (z <ℤ pos 0)
signs (pos zero) n = absurd (n refl)
signs (pos (suc k)) n = inl (omega (arith, ints))
signs (negsuc k) n = inr (omega (arith, ints))

pub staged_none : (rows : List Row) (n : ℕ) (made : List Stage) → made ≡ [] → ((r : Row) (p : Part) → Contains rows r → last_part r.lin.parts ≡ Some p → p.key < n) → AreStaged rows n made
staged_none rows n made e most =
    subst (AreStaged rows n) (sym e) (record { stages = tt; falling = tt; all = λ r p c a l. absurd (let h = most r p c a in omega (arith, h, l)); own = λ f h. absurd h })

module _ (rows : List Row) (normal : AllByRecursion (λ (r : Row). IsNormal r.lin) rows) (ss : List Stage) (s : Stage) (n m : ℕ) (of : IsStageOf rows n s) (staged : AreStaged rows (suc n) ss) (below : m ≤ n)
    (most : (r : Row) (p : Part) → Contains rows r → last_part r.lin.parts ≡ Some p → p.key < n → p.key < m) where
  stages_more : AllByRecursion (IsStage m) (ss ++ s ∷ [])
  stages_more =
      let e = of.named in
      all_push (IsStage m) ss s (all_weaker (IsStage (suc n)) (IsStage m) (λ t a. record { above = omega (arith, below, a.above); lower = a.lower; upper = a.upper }) ss staged.stages)
      (record {
        above = omega (arith, below, e);
        lower = subst (λ k. AllByRecursion (IsLowerRow k) s.lowers) (sym e) (all_weaker (HasLast (IsLowerPart n)) (IsLowerRow n) (lower_of n) s.lowers of.lower.each);
        upper = subst (λ k. AllByRecursion (IsUpperRow k) s.uppers) (sym e) (all_weaker (HasLast (IsUpperPart n)) (IsUpperRow n) (upper_of n) s.uppers of.upper.each);
      })

  -- a row of which the name is the largest one
  here : (r : Row) (p : Part) → Contains rows r → last_part r.lin.parts ≡ Some p → p.key ≡ n → HasForm s.lowers (meaning r.lin) ⊎ HasForm s.uppers (meaning r.lin)
  here r p (k, l, g) e same =
      let at : slice_get rows k ≡ Some r = slice_get-get_or rows k r l ∙ ap Some g in
      elim (signs p.factor (last_nonzero r.lin p (all_contained (λ (t : Row). IsNormal t.lin) rows r normal (k, l, g)) e)) [
        | inl h ↦ inl (of.lower.all k r p l at e (same, h))
        | inr h ↦ inr (of.upper.all k r p l at e (same, h))
      ]

  all_more : (r : Row) (p : Part) → Contains rows r → last_part r.lin.parts ≡ Some p → m ≤ p.key → HasStage (ss ++ s ∷ []) (meaning r.lin)
  all_more r p c e l =
      elim (dec_lt n p.key) [
        | yes h ↦ stage_left ss s (meaning r.lin) (staged.all r p c e (omega (arith, h)))
        | no h ↦ stage_right ss s (meaning r.lin) (here r p c e (elim (dec_lt p.key n) [ yes k ↦ absurd (let q = most r p c e k in omega (arith, q, l)) | no k ↦ omega (arith, h, k) ]))
      ]

  own_more : (f : Form ℕ) → HasStage (ss ++ s ∷ []) f → IsNonzeroRow rows f
  own_more f h = elim (stage_either ss s f h) [ inl a ↦ staged.own f a | inr (inl b) ↦ of.lower.own f b | inr (inr b) ↦ of.upper.own f b ]

  pub staged_more : (new : List Stage) → new ≡ ss ++ s ∷ [] → AreStaged rows m new
  staged_more new e =
      let named = of.named in
      subst (AreStaged rows m) (sym e)
      (record {
        stages = stages_more;
        falling = falling_push ss s staged.falling (all_weaker (IsStage (suc n)) (λ (t : Stage). s.name < t.name) (λ t a. omega (arith, a.above, named)) ss staged.stages);
        all = all_more;
        own = own_more;
      })
