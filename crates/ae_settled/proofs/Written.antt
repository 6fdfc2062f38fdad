-- Written values: what they mean, and the linear forms in them.
use Rattle.std.specs.Prelude.{ℕ, Bool, true, false, List, [], ◌∷◌, ◌≡◌, ◌≢◌, map, slice_get, Option, Some, cond, nat_lt}
use Rattle.std.specs.List.{AllByRecursion, flat_map}
use Rattle.std.proofs.Common.{sym, ap, ◌∙◌}
use Rattle.ae_base.specs.Decided.{pick}
use Rattle.ae_base.specs.Options.{◌>>=◌}
use Rattle.ae_base.proofs.Options.{bind_some}
use Rattle.ae_base.proofs.Decided.{pick_no}
use Rattle.ae_base.proofs.AllOf.{all_append}
use Rattle.std.proofs.lemmas.Option.{same_Some}
use Rattle.ae_math.specs.Fractions.{ℚ, zero_ℚ, one_ℚ, ℚ_discrete, ◌+ℚ◌}
use Rattle.ae_math.specs.Forms.{Form, single, is_zero}
use Rattle.ae_math.proofs.FractionLaws.{zero_frac}
use Rattle.ae_num.specs.Forms.{SameMeaning, meaning as form_of}
use Rattle.ae_num.specs.declared.forms.Lin.{Lin}
use Rattle.ae_num.specs.declared.forms.Value.{Value, Leaf, Number, Fields, fold-roll-Value}
use Rattle.ae_num.specs.declared.forms.Value.TheOpen as value_layer
use Rattle.ae_num.specs.declared.forms.Value.TheVariants.{rolls-Leaf, rolls-Number, rolls-Fields}
use Rattle.ae_journal.specs.Values.{Val, Sum, number, leaf, fields, vals, once, meaning, meaning_step, sum_of_lin, settled, put_part, enter}
use Rattle.ae_journal.specs.Systems.{forms_in, forms_step, value_at}
use Rattle.ae_journal.specs.declared.systems.System.{System}
use Rattle.ae_evaluation.proofs.Sums.{settled_same}

-- ---- meanings
pub meaning-Leaf : (n : ℕ) → meaning (Leaf n) ≡ leaf n
unfolding meaning
meaning-Leaf n = ap meaning (sym (rolls-Leaf n)) ∙ fold-roll-Value Val meaning_step (value_layer.Leaf n)

pub meaning-Number : (f : Lin) → meaning (Number f) ≡ number (sum_of_lin f)
unfolding meaning
meaning-Number f = ap meaning (sym (rolls-Number f)) ∙ fold-roll-Value Val meaning_step (value_layer.Number f)

pub meaning-Fields : (vs : List Value) → meaning (Fields vs) ≡ fields (vals (map meaning vs))
unfolding meaning
meaning-Fields vs = ap meaning (sym (rolls-Fields vs)) ∙ fold-roll-Value Val meaning_step (value_layer.Fields vs)

-- ---- forms
pub forms-Leaf : (n : ℕ) → forms_in (Leaf n) ≡ []
unfolding forms_in
forms-Leaf n = ap forms_in (sym (rolls-Leaf n)) ∙ fold-roll-Value (List Lin) forms_step (value_layer.Leaf n)

pub forms-Fields : (vs : List Value) → forms_in (Fields vs) ≡ flat_map (λ v. v) (map forms_in vs)
unfolding forms_in
forms-Fields vs = ap forms_in (sym (rolls-Fields vs)) ∙ fold-roll-Value (List Lin) forms_step (value_layer.Fields vs)

pub all_flat : (P : Lin → Type 0) (ls : List (List Lin)) → AllByRecursion (AllByRecursion P) ls → AllByRecursion P (flat_map (λ v. v) ls)
all_flat P [] a = tt
all_flat P (l ∷ ls) a = all_append P l (flat_map (λ v. v) ls) a.0 (all_flat P ls a.1)

-- ---- sums in their one spelling
-- what holds of the leaves of a sum holds of those that are left when it is settled
all_put : (P : ℕ → Type 0) (k : ℕ) (x : ℚ) (ps : List (ℕ × ℚ)) → P k → AllByRecursion (λ p. P p.0) ps → AllByRecursion (λ p. P p.0) (put_part k x ps)
all_put P k x ps h a = elim (ℚ_discrete x zero_ℚ) as (λ d. AllByRecursion (λ (p : ℕ × ℚ). P p.0) (cond (pick d true false) ps ((k, x) ∷ ps))) [ yes e ↦ a | no n ↦ (h, a) ]

all_chosen : (P : ℕ → Type 0) (b : Bool) (ps qs : List (ℕ × ℚ)) → AllByRecursion (λ p. P p.0) ps → AllByRecursion (λ p. P p.0) qs → AllByRecursion (λ p. P p.0) (cond b ps qs)
all_chosen P true ps qs a c = a
all_chosen P false ps qs a c = c

all_entered : (P : ℕ → Type 0) (k : ℕ) (x : ℚ) (ps : List (ℕ × ℚ)) → P k → AllByRecursion (λ p. P p.0) ps → AllByRecursion (λ p. P p.0) (enter k x ps)
all_entered P k x [] h a = all_put P k x [] h a
all_entered P k x (p ∷ ps) h a =
    all_chosen P (nat_lt p.0 k) (p ∷ enter k x ps) (cond (nat_lt k p.0) (put_part k x (p ∷ ps)) (put_part k (x +ℚ p.1) ps)) (a.0, all_entered P k x ps h a.1)
    (all_chosen P (nat_lt k p.0) (put_part k x (p ∷ ps)) (put_part k (x +ℚ p.1) ps) (all_put P k x (p ∷ ps) h a) (all_put P k (x +ℚ p.1) ps h a.1))

pub all_settled : (P : ℕ → Type 0) (ps : List (ℕ × ℚ)) → AllByRecursion (λ p. P p.0) ps → AllByRecursion (λ p. P p.0) (settled ps)
all_settled P [] a = tt
all_settled P (p ∷ ps) a = all_entered P p.0 p.1 (settled ps) a.0 (all_settled P ps a.1)

-- a form, in the one spelling
abbrev pub spelled : Form ℕ → Sum
spelled f = record { parts = settled f.parts; constant = f.constant }

pub one_spelling : (f g : Form ℕ) → SameMeaning f g → spelled f ≡ spelled g
one_spelling f g h = λ i. record { parts = settled_same f.parts g.parts h.factors i; constant = h.constants i }

one_not_zero : one_ℚ ≢ zero_ℚ
unfolding one_ℚ
one_not_zero e = let f = zero_frac _ e in cc

pub spelled_single : (k : ℕ) → spelled (single k) ≡ record { parts = (k, one_ℚ) ∷ []; constant = zero_ℚ }
spelled_single k =
    let z : is_zero one_ℚ ≡ false = pick_no (ℚ_discrete one_ℚ zero_ℚ) true false one_not_zero in
    λ i. record { parts = cond (z i) [] ((k, one_ℚ) ∷ []); constant = zero_ℚ }

-- a number that means one name alone
pub meaning_own : (f : Lin) (k : ℕ) → SameMeaning (form_of f) (single k) → meaning (Number f) ≡ once k
meaning_own f k h = meaning-Number f ∙ ap number (one_spelling (form_of f) (single k) h ∙ spelled_single k)

-- ---- values of names
pub value_of_written : (y : System) (n : ℕ) (w : Value) → slice_get y.values n ≡ Some w → value_at y n ≡ Some (meaning w)
value_of_written y n w e = ap (λ (o : Option Value). o >>= λ v. Some (meaning v)) e

pub written_value : (y : System) (n : ℕ) (v : Val) → value_at y n ≡ Some v → (w : Value) × (slice_get y.values n ≡ Some w) × (meaning w ≡ v)
written_value y n v e =
    let b = bind_some (slice_get y.values n) (λ w. Some (meaning w)) v e in
    (b.0, b.1, same_Some (meaning b.0) v b.2)
