-- Steps of the loops over the parts of a form, and the forms of applications.
use Rattle.std.proofs.Common.{drop, get_or}
use Rattle.std.proofs.lemmas.List.{drop_more, drop_all, map-append, append_assoc, append-nil}
use Rattle.std.specs.Prelude.{ℕ, suc, ◌+◌, ◌<◌, ◌≤◌, true, false, cond, ◌≡◌, List, [], ◌∷◌, ◌++◌, map, length, Option, Some, None}
use mathlib.Core.Path.{refl, sym, ap, ◌∙◌}
use native.Mathlib.Omega.{arith}
use Rattle.ae_base.specs.Decided.{decided}
use Rattle.ae_base.proofs.Decided.{decided_yes, decided_no, pick_yes, pick_no}
use Rattle.ae_base.proofs.ListFacts.{cons_head, cons_tail}
use Rattle.ae_math.specs.Fractions.{ℚ, one_ℚ, ◌+ℚ◌, ◌*ℚ◌}
use Rattle.ae_math.specs.Forms.{factor_in, single, plus, scale}
use Rattle.ae_math.proofs.FractionLaws.{add_assoc_q, add_zero_q, one_mul_q}
use Rattle.ae_core.specs.Decided.{Term_discrete}
use Rattle.ae_core.specs.declared.terms.Head.{Head}
use Rattle.ae_core.specs.declared.terms.Sort.{Sort}
use Rattle.ae_core.specs.declared.terms.Term.{Term, Apply}
use Rattle.ae_rules.specs.Linear.{Linear, form, is_number, times, over, ruled}
use Rattle.ae_rules.proofs.LinearLaws.{form-Apply}
use Rattle.ae_naturals.specs.Fractions.{value_of}
use Rattle.ae_naturals.specs.declared.fractions.Fraction.{Fraction}
use Rattle.ae_computing.specs.Inner.Operations.{operation_of, ruled_by, value_if, inverse_of}
use Rattle.ae_computing.specs.Inner.Exact.{multiple, multiples, meaning, scaled, with_form}
use Rattle.ae_computing.specs.declared.forms.ExactForm.{ExactForm}
use Rattle.ae_computing.specs.declared.forms.Multiple.{Multiple}
use Rattle.ae_computing.specs.declared.operations.Operation.{Operation}
use Rattle.ae_computing.specs.declared.operations.Operation.TheVariants.{Sum, Difference, Negation, Product, Quotient, Opaque}
use Rattle.ae_computing.proofs.OperationLaws.{rule_is, over_if, over_is}

-- ---- multiples put behind others
pub added_step : (x : ℚ) (ps : List Multiple) (m : Multiple) (ms : List Multiple) (i : ℕ) (d : Multiple) → i < length ms
    → multiple m ≡ ((get_or ms i d).term.now, x *ℚ value_of (get_or ms i d).factor)
    → multiples (ps ++ m ∷ []) ++ scaled x (multiples (drop (i + 1) ms)) ≡ multiples ps ++ scaled x (multiples (drop i ms))
added_step x ps m ms i d h e =
    let rest = scaled x (multiples (drop (i + 1) ms)) in
    (λ j. map-append multiple ps (m ∷ []) j ++ rest)
    ∙ append_assoc (multiples ps) (multiple m ∷ []) rest
    ∙ (λ j. multiples ps ++ e j ∷ rest)
    ∙ (λ j. multiples ps ++ scaled x (multiples (sym (drop_more ms i d h) j)))

pub scaled_once : (ps : List (Term × ℚ)) → scaled one_ℚ ps ≡ ps
scaled_once [] = refl
scaled_once (p ∷ ps) = λ i. (p.0, one_mul_q p.1 i) ∷ scaled_once ps i

-- ---- the factor of a term
pub factor_there : (t : Term) (ms : List Multiple) (i : ℕ) (d : Multiple) (s : ℚ) → i < length ms
    → decided (Term_discrete (get_or ms i d).term.now t) ≡ true
    → (s +ℚ value_of (get_or ms i d).factor) +ℚ factor_in Term_discrete (multiples (drop (i + 1) ms)) t
    ≡ s +ℚ factor_in Term_discrete (multiples (drop i ms)) t
factor_there t ms i d s h e =
    let m = get_or ms i d in
    let rest = factor_in Term_discrete (multiples (drop (i + 1) ms)) t in
    add_assoc_q s (value_of m.factor) rest
    ∙ ap (λ x. s +ℚ x) (sym (pick_yes (Term_discrete m.term.now t) (value_of m.factor +ℚ rest) rest (decided_yes (Term_discrete m.term.now t) e)))
    ∙ (λ j. s +ℚ factor_in Term_discrete (multiples (sym (drop_more ms i d h) j)) t)

pub factor_elsewhere : (t : Term) (ms : List Multiple) (i : ℕ) (d : Multiple) → i < length ms
    → decided (Term_discrete (get_or ms i d).term.now t) ≡ false
    → factor_in Term_discrete (multiples (drop (i + 1) ms)) t ≡ factor_in Term_discrete (multiples (drop i ms)) t
factor_elsewhere t ms i d h e =
    let m = get_or ms i d in
    let rest = factor_in Term_discrete (multiples (drop (i + 1) ms)) t in
    sym (pick_no (Term_discrete m.term.now t) (value_of m.factor +ℚ rest) rest (decided_no (Term_discrete m.term.now t) e))
    ∙ (λ j. factor_in Term_discrete (multiples (sym (drop_more ms i d h) j)) t)

-- ---- where a loop ends
pub none_left : (x : ℚ) (ps : List Multiple) (ms : List Multiple) (i : ℕ) → length ms ≤ i
    → multiples ps ≡ multiples ps ++ scaled x (multiples (drop i ms))
none_left x ps ms i h =
    sym (append-nil (multiples ps)) ∙ (λ j. multiples ps ++ scaled x (multiples (sym (drop_all i ms h) j)))

pub no_factor_left : (t : Term) (ms : List Multiple) (i : ℕ) (s : ℚ) → length ms ≤ i → s ≡ s +ℚ factor_in Term_discrete (multiples (drop i ms)) t
no_factor_left t ms i s h =
    sym (add_zero_q s) ∙ (λ j. s +ℚ factor_in Term_discrete (multiples (sym (drop_all i ms h) j)) t)

-- ---- forms of applications
pub plus_once : (f g : Linear) → plus f (scale one_ℚ g) ≡ plus f g
plus_once f g = λ i. plus f (record { parts = scaled_once g.parts i; constant = one_mul_q g.constant i })

pub times_left : (w : Term) (f g : Linear) → is_number f ≡ true → times w f g ≡ scale f.constant g
times_left w f g e = ap (λ b. cond b (scale f.constant g) (cond (is_number g) (scale g.constant f) (single w))) e

pub times_right : (w : Term) (f g : Linear) → is_number f ≡ false → is_number g ≡ true → times w f g ≡ scale g.constant f
times_right w f g e h =
    ap (λ b. cond b (scale f.constant g) (cond (is_number g) (scale g.constant f) (single w))) e
    ∙ ap (λ b. cond b (scale g.constant f) (single w)) h

pub times_opaque : (w : Term) (f g : Linear) → is_number f ≡ false → is_number g ≡ false → times w f g ≡ single w
times_opaque w f g e h =
    ap (λ b. cond b (scale f.constant g) (cond (is_number g) (scale g.constant f) (single w))) e
    ∙ ap (λ b. cond b (scale g.constant f) (single w)) h

pub by_operation : (w : Term) (o p : Operation) (xs : List (Term × Linear)) (r : Linear) → o ≡ p → r ≡ ruled w (ruled_by p xs) → r ≡ ruled w (ruled_by o xs)
by_operation w o p xs r is e = e ∙ ap (λ q. ruled w (ruled_by q xs)) (sym is)

pub over_inverse : (w : Term) (f : Linear) (t : Term) (o : Option Fraction) → value_if o ≡ inverse_of t → over w f t ≡ over_if w f (value_if o)
over_inverse w f t o e = over_is w f t ∙ ap (over_if w f) (sym e)

pub not_negated : (w : Term) (o : Operation) (x : Term × Linear) → ¬ (o ≡ Negation) → single w ≡ ruled w (ruled_by o (x ∷ []))
not_negated w Sum x n = refl
not_negated w Difference x n = refl
not_negated w Negation x n = absurd (n refl)
not_negated w Product x n = refl
not_negated w Quotient x n = refl
not_negated w Opaque x n = refl

pub no_argument : (w : Term) (o : Operation) (ts : List Term) → length ts < 1 → single w ≡ ruled w (ruled_by o (map with_form ts))
no_argument w Sum [] h = refl
no_argument w Difference [] h = refl
no_argument w Negation [] h = refl
no_argument w Product [] h = refl
no_argument w Quotient [] h = refl
no_argument w Opaque [] h = refl
no_argument w o (t ∷ ts) h = absurd (omega (arith, h))

pub many_arguments : (w : Term) (o : Operation) (ts : List Term) → 3 ≤ length ts → single w ≡ ruled w (ruled_by o (map with_form ts))
many_arguments w o [] h = absurd (omega (arith, h))
many_arguments w o (a ∷ []) h = absurd (omega (arith, h))
many_arguments w o (a ∷ b ∷ []) h = absurd (omega (arith, h))
many_arguments w Sum (a ∷ b ∷ c ∷ ts) h = refl
many_arguments w Difference (a ∷ b ∷ c ∷ ts) h = refl
many_arguments w Negation (a ∷ b ∷ c ∷ ts) h = refl
many_arguments w Product (a ∷ b ∷ c ∷ ts) h = refl
many_arguments w Quotient (a ∷ b ∷ c ∷ ts) h = refl
many_arguments w Opaque (a ∷ b ∷ c ∷ ts) h = refl

map_length : {A B : Type 0} (f : A → B) (xs : List A) → length (map f xs) ≡ length xs
map_length f [] = refl
map_length f (x ∷ xs) = ap suc (map_length f xs)

pub as_many : (fs : List ExactForm) (ts : List Term) → map meaning fs ≡ map form ts → length fs ≡ length ts
as_many fs ts e = sym (map_length meaning fs) ∙ ap length e ∙ map_length form ts

module _ (w : Term) (o : Operation) (r : Linear) where
  pub one_argument : (fs : List ExactForm) (ts : List Term) (f : ExactForm) → map meaning fs ≡ map form ts → 1 ≤ length fs → length fs < 2
      → f ≡ get_or fs 0 f → ((t : Term) → r ≡ ruled w (ruled_by o ((t, meaning f) ∷ []))) → r ≡ ruled w (ruled_by o (map with_form ts))
  one_argument [] ts f e h l is q = absurd (omega (arith, h))
  one_argument (g ∷ []) [] f e h l is q = absurd (cc)
  one_argument (g ∷ []) (t ∷ []) f e h l is q =
      q t ∙ (λ i. ruled w (ruled_by o ((t, (ap meaning is ∙ cons_head (meaning g) (form t) [] [] e) i) ∷ [])))
  one_argument (g ∷ []) (t ∷ u ∷ ts) f e h l is q = absurd (omega (arith, as_many (g ∷ []) (t ∷ u ∷ ts) e))
  one_argument (g ∷ k ∷ fs) ts f e h l is q = absurd (omega (arith, l))

  pub two_arguments : (fs : List ExactForm) (ts : List Term) (f k : ExactForm) (u : Term) → map meaning fs ≡ map form ts → length ts < 3
      → 2 ≤ length ts → f ≡ get_or fs 0 f → k ≡ get_or fs 1 k → u ≡ get_or ts 1 u
      → ((t : Term) → r ≡ ruled w (ruled_by o ((t, meaning f) ∷ (u, meaning k) ∷ []))) → r ≡ ruled w (ruled_by o (map with_form ts))
  two_arguments fs [] f k u e l h is js ks q = absurd (omega (arith, h))
  two_arguments fs (t ∷ []) f k u e l h is js ks q = absurd (omega (arith, h))
  two_arguments [] (t ∷ s ∷ []) f k u e l h is js ks q = absurd (cc)
  two_arguments (g ∷ []) (t ∷ s ∷ []) f k u e l h is js ks q = absurd (omega (arith, as_many (g ∷ []) (t ∷ s ∷ []) e))
  two_arguments (g ∷ m ∷ []) (t ∷ s ∷ []) f k u e l h is js ks q =
      let first = ap meaning is ∙ cons_head (meaning g) (form t) (meaning m ∷ []) (form s ∷ []) e in
      let rest = cons_tail (meaning g) (form t) (meaning m ∷ []) (form s ∷ []) e in
      let second = ap meaning js ∙ cons_head (meaning m) (form s) [] [] rest in
      q t ∙ (λ i. ruled w (ruled_by o ((t, first i) ∷ (ks i, second i) ∷ [])))
  two_arguments (g ∷ m ∷ n ∷ fs) (t ∷ s ∷ []) f k u e l h is js ks q = absurd (omega (arith, as_many (g ∷ m ∷ n ∷ fs) (t ∷ s ∷ []) e))
  two_arguments fs (t ∷ s ∷ v ∷ ts) f k u e l h is js ks q = absurd (omega (arith, l))

pub application_form : (t : Term) (h : Head) (ss : List Sort) (ts us : List Term) (o : Operation) → t ≡ Apply h ss ts → us ≡ ts → o ≡ operation_of h
    → ruled t (ruled_by o (map with_form us)) ≡ form t
application_form t h ss ts us o is eq op =
    (λ i. ruled (is i) (ruled_by (op i) (map with_form (eq i)))) ∙ ap (ruled (Apply h ss ts)) (sym (rule_is h (map with_form ts)))
    ∙ sym (form-Apply h ss ts) ∙ sym (ap form is)

pub number_some : (f g : Linear) → f ≡ g → is_number f ≡ true → Some f.constant ≡ cond (is_number g) (Some g.constant) None
number_some f g e n = ap (λ b. cond b (Some f.constant) None) (sym n) ∙ (λ i. cond (is_number (e i)) (Some (e i).constant) None)

pub number_none : (f g : Linear) → f ≡ g → is_number f ≡ false → None ≡ cond (is_number g) (Some g.constant) None
number_none f g e n = ap (λ b. cond b (Some f.constant) None) (sym n) ∙ (λ i. cond (is_number (e i)) (Some (e i).constant) None)
