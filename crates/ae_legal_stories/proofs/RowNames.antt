-- The names of a legal `Combine` line are listed: no leaf of the two rows that are combined is above the one that they share, and where they are rounded all are names.
use Rattle.std.specs.Prelude.{ℕ, ℤ, Bool, pos, ◌<◌, ◌≤◌, ◌^◌, ◌≡◌, ◌≢◌, ◌<ℤ◌, List, [], ◌∷◌, ◌++◌, length, map, slice_get, Some}
use Rattle.std.specs.List.{AllByRecursion}
use Rattle.std.proofs.Common.{refl, sym, ap, ◌∙◌, subst, arith, inl, inr}
use Rattle.std.proofs.lemmas.Bool.{cases_eq, cases_lt}
use Rattle.std.proofs.lemmas.Option.{slice_get_within}
use Rattle.ae_base.proofs.AllOf.{all_weaker}
use Rattle.ae_core.specs.Sorts.{sort_of}
use Rattle.ae_core.specs.declared.problems.Signature.{Signature}
use Rattle.ae_core.specs.declared.terms.Sort.{Int}
use Rattle.ae_core.specs.declared.terms.Term.{Term}
use Rattle.ae_evaluation.proofs.Sums.{factor_same, factor_other, factor-append, factor-scaled, factor-settled}
use Rattle.ae_journal.specs.Rows.{add_sums, MayCombine}
use Rattle.ae_journal.specs.Sides.{AreDivided}
use Rattle.ae_journal.specs.Standing.{Setting}
use Rattle.ae_journal.specs.Values.{Sum, leaf_factor, scaled, sum_of_lin}
use Rattle.ae_journal.specs.declared.lines.Line.{Line}
use Rattle.ae_math.proofs.FractionLaws.{add_zero_q, mul_zero_q}
use Rattle.ae_math.proofs.Wholes.{ratio_is_zero}
use Rattle.ae_math.specs.Fractions.{ℚ, zero_ℚ, ratio, neg_ℚ, ◌+ℚ◌, ◌*ℚ◌}
use Rattle.ae_num.specs.Forms.{AllAbove, IsRising, IsNormal, meaning}
use Rattle.ae_num.specs.declared.forms.Lin.{Lin}
use Rattle.ae_num.specs.declared.forms.Part.{Part}
use Rattle.ae_legal_stories.specs.Writable.{AreFormNames}

-- no leaf above this one has a factor
abbrev Ends : ℕ → List (ℕ × ℚ) → Type 0
Ends n ps = (m : ℕ) → n < m → leaf_factor ps m ≡ zero_ℚ

sum_ends : (n : ℕ) (x y : ℚ) (f g : Sum) → Ends n f.parts → Ends n g.parts → Ends n (add_sums x f y g).parts
sum_ends n x y f g a b m l =
    factor-settled (scaled x f.parts ++ scaled y g.parts) m ∙ factor-append (scaled x f.parts) (scaled y g.parts) m
    ∙ (λ i. (factor-scaled x f.parts m ∙ ap (λ z. x *ℚ z) (a m l) ∙ mul_zero_q x) i +ℚ (factor-scaled y g.parts m ∙ ap (λ z. y *ℚ z) (b m l) ∙ mul_zero_q y) i)
    ∙ add_zero_q zero_ℚ

module _ (den : ℤ) (positive : pos 0 <ℤ den) where
  abbrev over : List Part → List (ℕ × ℚ)
  over ps = map (λ p. (p.key, ratio p.factor den)) ps

  none_below : (key : ℕ) (ps : List Part) → AllAbove key ps → leaf_factor (over ps) key ≡ zero_ℚ
  none_below key [] a = refl
  none_below key (p ∷ ps) a = factor_other key p.key (ratio p.factor den) (over ps) (λ e. let l = a.0 in omega (arith, e, l)) ∙ none_below key ps a.1

  own_factor : (p : Part) (ps : List Part) → AllAbove p.key ps → leaf_factor (over (p ∷ ps)) p.key ≡ ratio p.factor den
  own_factor p ps a = factor_same p.key (ratio p.factor den) (over ps) ∙ ap (λ z. ratio p.factor den +ℚ z) (none_below p.key ps a) ∙ add_zero_q (ratio p.factor den)

  rest_ends : (n : ℕ) (p : Part) (ps : List Part) → AllAbove p.key ps → Ends n (over (p ∷ ps)) → Ends n (over ps)
  rest_ends n p ps a e m l =
      elim (cases_eq m p.key) [
        | inl q ↦ ap (leaf_factor (over ps)) q ∙ none_below p.key ps a
        | inr d ↦ sym (factor_other m p.key (ratio p.factor den) (over ps) d) ∙ e m l
      ]

  key_within : (n : ℕ) (p : Part) (ps : List Part) → AllAbove p.key ps → p.factor ≢ pos 0 → Ends n (over (p ∷ ps)) → p.key ≤ n
  key_within n p ps a nonzero e =
      elim (cases_lt n p.key) [
        | inl l ↦ absurd (nonzero (ratio_is_zero p.factor den positive (sym (own_factor p ps a) ∙ e p.key l)))
        | inr h ↦ omega (arith, h)
      ]

  keys_within : (n : ℕ) (ps : List Part) → IsRising ps → AllByRecursion (λ p. p.factor ≢ pos 0) ps → Ends n (over ps) → AllByRecursion (λ p. p.key ≤ n) ps
  keys_within n [] r z e = tt
  keys_within n (p ∷ ps) r z e = (key_within n p ps r.0 z.0 e, keys_within n ps r.1 z.1 (rest_ends n p ps r.0 e))

form_keys : (n : ℕ) (f : Lin) → IsNormal f → Ends n (sum_of_lin f).parts → AllByRecursion (λ p. p.key ≤ n) f.parts
form_keys n f h e = keys_within f.den h.positive n f.parts h.rising h.nonzero (λ m l. sym (factor-settled (meaning f).parts m) ∙ e m l)

-- keys that are names, and those of a form divided by a number
names_below : (sig : Signature) (names : List Term) (ps : List Part) → AllByRecursion (λ (q : Part). (t : Term) × (slice_get names q.key ≡ Some t) × (sort_of sig t ≡ Some Int)) ps → AllByRecursion (λ q. q.key < length names) ps
names_below sig names [] a = tt
names_below sig names (q ∷ ps) a = (slice_get_within names q.key a.0.0 a.0.1, names_below sig names ps a.1)

divided_keys : (d k : ℕ) (ps qs : List Part) → AreDivided d ps qs → AllByRecursion (λ q. q.key < k) ps → AllByRecursion (λ q. q.key < k) qs
divided_keys d k [] [] h a = tt
divided_keys d k (p ∷ ps) (q ∷ qs) h a = (subst (λ j. j < k) h.0 a.0, divided_keys d k ps qs h.2 a.1)
divided_keys d k [] (q ∷ qs) h a = absurd h
divided_keys d k (p ∷ ps) [] h a = absurd h

as_names : (k : ℕ) (ps : List Part) → k ≤ 2 ^ 64 → AllByRecursion (λ q. q.key < k) ps → AllByRecursion (λ n. n < 2 ^ 64) (map (λ q. q.key) ps)
as_names k [] l a = tt
as_names k (q ∷ ps) l a = (let h = a.0 in omega (arith, h, l), as_names k ps l a.1)

pub combined_names : (x : Setting) (js : List Line) (strict : Bool) (f : Lin) → length x.names ≤ 2 ^ 64 → MayCombine x js strict f → AreFormNames f
combined_names x js strict f few m =
    let c = m.combination in
    let ends : Ends c.key m.plain.parts =
    subst (λ (s : Sum). Ends c.key s.parts) (sym c.is)
    (sum_ends c.key (neg_ℚ (leaf_factor c.other.parts c.key)) (leaf_factor c.one.parts c.key) c.one c.other c.combined.largest.0.2 c.combined.largest.1.2) in
    let named = c.combined.largest.0.0 in
    as_names (length x.names) f.parts few
    (elim m.is [
      | inl e ↦ all_weaker (λ q. q.key ≤ c.key) (λ q. q.key < length x.names) (λ q l. omega (arith, l, named)) f.parts
          (form_keys c.key f m.normal (subst (λ (s : Sum). Ends c.key s.parts) (sym e.1) ends))
      | inr r ↦ divided_keys r.4.divisor (length x.names) r.0.parts f.parts r.4.divided (names_below x.problem.signature x.names r.0.parts r.3)
    ])
