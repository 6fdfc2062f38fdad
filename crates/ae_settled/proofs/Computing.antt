-- Numerals and linear operations have the values that are computed.
use Rattle.std.specs.Prelude.{ℕ, ℤ, ◌<◌, Bool, true, false, cond, ◌&&◌, List, [], ◌∷◌, ◌++◌, ◌≡◌, ◌⊎◌, map, length, slice_get, Option, Some, None}
use Rattle.std.specs.List.{AllByRecursion}
use Rattle.std.proofs.Common.{refl, sym, ap, ◌∙◌, subst, arith, inl, inr}
use Rattle.std.proofs.lemmas.Bool.{and_parts}
use Rattle.std.proofs.lemmas.Option.{same_Some, none-some, slice_get_within}
use Rattle.ae_base.specs.Options.{when}
use Rattle.ae_base.proofs.Options.{when_some, known_each}
use Rattle.ae_base.proofs.ListFacts.{value_at as there, cons_head, cons_tail}
use Rattle.ae_math.specs.Fractions.{ℚ, one_ℚ, neg_ℚ, inverse_ℚ, ratio, ◌+ℚ◌, ◌*ℚ◌}
use Rattle.ae_math.specs.Forms.{Form, number as number_form, plus, minus, scale, is_zero}
use Rattle.ae_core.specs.Sorts.{sort_of, is_numeric, is_closed_sort, numeral_ok, head_sort, same_sorts, operands, on_real}
use Rattle.ae_core.proofs.SortLaws.{sort_in_num}
use Rattle.ae_core.specs.declared.terms.Sort.{Sort, Int, Real}
use Rattle.ae_core.specs.declared.terms.Term.{Term, Term-F, Bound, Num, Fresh, Apply, Apply', out-Term}
use Rattle.ae_core.specs.declared.terms.Term.TheOpen as layer
use Rattle.ae_core.specs.declared.terms.Term.TheVariants.{outs-Apply, outs-Num}
use Rattle.ae_core.specs.declared.terms.Op.{Op}
use Rattle.ae_core.specs.declared.problems.Signature.{Signature}
use Rattle.ae_core.specs.declared.terms.Head.{Head}
use Rattle.ae_core.specs.declared.terms.Head.TheVariants as head
use Rattle.ae_core.specs.declared.terms.Op.TheVariants as op
use Rattle.ae_rules.specs.Linear.{form, is_number}
use Rattle.ae_num.specs.Forms.{SameMeaning, meaning as form_of}
use Rattle.ae_num.specs.declared.forms.Lin.{Lin}
use Rattle.ae_num.specs.declared.forms.Value.{Number}
use Rattle.ae_journal.specs.Values.{Val, number, meaning, plus_val, minus_val, scale_val, constant_val, scaled, settled}
use Rattle.ae_journal.specs.Systems.{IsName, ValuesOf, value_at, linear, quotient, beside, IsPredicateName}
use Rattle.ae_journal.specs.Evaluation.{result_sort}
use Rattle.ae_journal.specs.declared.systems.System.{System}
use Rattle.ae_evaluation.proofs.Sums.{factor-append, factor-scaled, factor-settled, settled_same}
use Rattle.ae_evaluation.proofs.Decisions.{same_list}
use Rattle.ae_evaluation.proofs.SortFacts.{is_applied, of_numeric}
use Rattle.ae_store.specs.Stores.{IsStore}
use Rattle.ae_settled.specs.Held.{Held, system_of}
use Rattle.ae_settled.specs.Valued.{HasValue, HaveValues, HaveForms, AreValues, linear_form, with_forms}
use Rattle.ae_settled.specs.Valued as valued
use Rattle.ae_settled.proofs.Sorts.{predicate_apart}
use Rattle.ae_settled.proofs.Written.{spelled, one_spelling, meaning-Number, value_of_written, written_value}
use Rattle.ae_settled.proofs.Terms.{named_sorted}

-- ---- operations on values and on forms
-- the value of a form
abbrev pub val_of : Form ℕ → Val
val_of f = number (spelled f)

plus_spelled : (f g : Form ℕ) → plus_val (val_of f) (val_of g) ≡ val_of (plus f g)
plus_spelled f g =
    λ i. number (record {
      parts = settled_same (settled f.parts ++ settled g.parts) (f.parts ++ g.parts)
          (λ j. factor-append (settled f.parts) (settled g.parts) j ∙ (λ k. factor-settled f.parts j k +ℚ factor-settled g.parts j k) ∙ sym (factor-append f.parts g.parts j)) i;
      constant = f.constant +ℚ g.constant;
    })

scale_spelled : (z : ℚ) (f : Form ℕ) → scale_val z (val_of f) ≡ val_of (scale z f)
scale_spelled z f =
    λ i. number (record {
      parts = settled_same (scaled z (settled f.parts)) (scaled z f.parts)
          (λ j. factor-scaled z (settled f.parts) j ∙ ap (λ q. z *ℚ q) (factor-settled f.parts j) ∙ sym (factor-scaled z f.parts j)) i;
      constant = z *ℚ f.constant;
    })

minus_spelled : (f g : Form ℕ) → minus_val (val_of f) (val_of g) ≡ val_of (minus f g)
minus_spelled f g = ap (plus_val (val_of f)) (scale_spelled (neg_ℚ one_ℚ) g) ∙ plus_spelled f (scale (neg_ℚ one_ℚ) g)

-- what the table makes of forms is what it makes of their values
pub record IsComputed (v : Val) (o : Option (Form ℕ)) : Type 0 where
  pub made : Form ℕ
  pub is : o ≡ Some made
  pub value : v ≡ val_of made

by_some : (w v : Val) (f : Form ℕ) → Some w ≡ Some v → w ≡ val_of f → IsComputed v (Some f)
by_some w v f e h = record { made = f; is = refl; value = sym (same_Some w v e) ∙ h }

by_product : (a b : Bool) (y z : ℚ) (f g : Form ℕ) (v : Val) → cond a (Some (scale_val y (val_of g))) (cond b (Some (scale_val z (val_of f))) None) ≡ Some v
    → IsComputed v (cond a (Some (scale y g)) (cond b (Some (scale z f)) None))
by_product true b y z f g v e = by_some (scale_val y (val_of g)) v (scale y g) e (scale_spelled y g)
by_product false true y z f g v e = by_some (scale_val z (val_of f)) v (scale z f) e (scale_spelled z f)
by_product false false y z f g v e = absurd (none-some v e)

by_quotient : (b : Bool) (z : ℚ) (f : Form ℕ) (v : Val) → cond b None (Some (scale_val z (val_of f))) ≡ Some v → IsComputed v (cond b None (Some (scale z f)))
by_quotient true z f v e = absurd (none-some v e)
by_quotient false z f v e = by_some (scale_val z (val_of f)) v (scale z f) e (scale_spelled z f)

-- ---- the table, head by head
abbrev vals_of : List (Term × Lin) → List (Term × Val)
vals_of ps = map (λ p. (p.0, val_of (form_of p.1))) ps

abbrev forms_of : List (Term × Lin) → List (Term × Form ℕ)
forms_of ps = map (λ p. (p.0, form_of p.1)) ps

by_divisor : (f : Form ℕ) (t : Term) (v : Val) → quotient (val_of f) t ≡ Some v → IsComputed v (valued.quotient f t)
by_divisor f (Bound n) v e = absurd (none-some v e)
by_divisor f (Fresh n s) v e = absurd (none-some v e)
by_divisor f (Apply' h ss shape row) v e = absurd (none-some v e)
by_divisor f (Num a b r) v e = by_quotient (is_zero (ratio a b)) (inverse_ℚ (ratio a b)) f v e

by_head : (h : Head) (ps : List (Term × Lin)) (v : Val) → linear h (vals_of ps) ≡ Some v → IsComputed v (linear_form h (forms_of ps))
by_head (head.Symbol n) ps v e = absurd (none-some v e)
by_head (head.Build n) ps v e = absurd (none-some v e)
by_head (head.Field n i) ps v e = absurd (none-some v e)
by_head head.True ps v e = absurd (none-some v e)
by_head head.False ps v e = absurd (none-some v e)
by_head head.Void ps v e = absurd (none-some v e)
by_head (head.Int op.Add) [] v e = absurd (none-some v e)
by_head (head.Int op.Add) (a ∷ []) v e = absurd (none-some v e)
by_head (head.Int op.Add) (a ∷ b ∷ []) v e = by_some (plus_val (val_of (form_of a.1)) (val_of (form_of b.1))) v (plus (form_of a.1) (form_of b.1)) e (plus_spelled (form_of a.1) (form_of b.1))
by_head (head.Int op.Add) (a ∷ b ∷ c ∷ ps) v e = absurd (none-some v e)
by_head (head.Int op.Sub) [] v e = absurd (none-some v e)
by_head (head.Int op.Sub) (a ∷ []) v e = absurd (none-some v e)
by_head (head.Int op.Sub) (a ∷ b ∷ []) v e = by_some (minus_val (val_of (form_of a.1)) (val_of (form_of b.1))) v (minus (form_of a.1) (form_of b.1)) e (minus_spelled (form_of a.1) (form_of b.1))
by_head (head.Int op.Sub) (a ∷ b ∷ c ∷ ps) v e = absurd (none-some v e)
by_head (head.Int op.Neg) [] v e = absurd (none-some v e)
by_head (head.Int op.Neg) (a ∷ []) v e = by_some (scale_val (neg_ℚ one_ℚ) (val_of (form_of a.1))) v (scale (neg_ℚ one_ℚ) (form_of a.1)) e (scale_spelled (neg_ℚ one_ℚ) (form_of a.1))
by_head (head.Int op.Neg) (a ∷ b ∷ ps) v e = absurd (none-some v e)
by_head (head.Int op.Mul) [] v e = absurd (none-some v e)
by_head (head.Int op.Mul) (a ∷ []) v e = absurd (none-some v e)
by_head (head.Int op.Mul) (a ∷ b ∷ []) v e = by_product (is_number (form a.0)) (is_number (form b.0)) (form a.0).constant (form b.0).constant (form_of a.1) (form_of b.1) v e
by_head (head.Int op.Mul) (a ∷ b ∷ c ∷ ps) v e = absurd (none-some v e)
by_head (head.Int op.Div) ps v e = absurd (none-some v e)
by_head (head.Int op.Mod) ps v e = absurd (none-some v e)
by_head (head.Real op.Add) [] v e = absurd (none-some v e)
by_head (head.Real op.Add) (a ∷ []) v e = absurd (none-some v e)
by_head (head.Real op.Add) (a ∷ b ∷ []) v e = by_some (plus_val (val_of (form_of a.1)) (val_of (form_of b.1))) v (plus (form_of a.1) (form_of b.1)) e (plus_spelled (form_of a.1) (form_of b.1))
by_head (head.Real op.Add) (a ∷ b ∷ c ∷ ps) v e = absurd (none-some v e)
by_head (head.Real op.Sub) [] v e = absurd (none-some v e)
by_head (head.Real op.Sub) (a ∷ []) v e = absurd (none-some v e)
by_head (head.Real op.Sub) (a ∷ b ∷ []) v e = by_some (minus_val (val_of (form_of a.1)) (val_of (form_of b.1))) v (minus (form_of a.1) (form_of b.1)) e (minus_spelled (form_of a.1) (form_of b.1))
by_head (head.Real op.Sub) (a ∷ b ∷ c ∷ ps) v e = absurd (none-some v e)
by_head (head.Real op.Neg) [] v e = absurd (none-some v e)
by_head (head.Real op.Neg) (a ∷ []) v e = by_some (scale_val (neg_ℚ one_ℚ) (val_of (form_of a.1))) v (scale (neg_ℚ one_ℚ) (form_of a.1)) e (scale_spelled (neg_ℚ one_ℚ) (form_of a.1))
by_head (head.Real op.Neg) (a ∷ b ∷ ps) v e = absurd (none-some v e)
by_head (head.Real op.Mul) [] v e = absurd (none-some v e)
by_head (head.Real op.Mul) (a ∷ []) v e = absurd (none-some v e)
by_head (head.Real op.Mul) (a ∷ b ∷ []) v e = by_product (is_number (form a.0)) (is_number (form b.0)) (form a.0).constant (form b.0).constant (form_of a.1) (form_of b.1) v e
by_head (head.Real op.Mul) (a ∷ b ∷ c ∷ ps) v e = absurd (none-some v e)
by_head (head.Real op.Div) [] v e = absurd (none-some v e)
by_head (head.Real op.Div) (a ∷ []) v e = absurd (none-some v e)
by_head (head.Real op.Div) (a ∷ b ∷ []) v e = by_divisor (form_of a.1) b.0 v e
by_head (head.Real op.Div) (a ∷ b ∷ c ∷ ps) v e = absurd (none-some v e)
by_head (head.Real op.Mod) ps v e = absurd (none-some v e)

-- ---- a linear operation is on numbers of one sort
pub record IsOn (sig : Signature) (h : Head) (ss : List Sort) : Type 0 where
  pub sort : Sort
  pub numeric : is_numeric sort ≡ true
  pub result : result_sort sig h ss ≡ Some sort
  pub arguments : (args : List Sort) (s : Sort) → head_sort sig h ss args ≡ Some s → (s ≡ sort) × AllByRecursion (λ o. o ≡ sort) args

all_operands : (o : Op) (s : Sort) → AllByRecursion (λ r. r ≡ s) (operands o (s ∷ []))
all_operands op.Neg s = (refl, tt)
all_operands op.Add s = (refl, (refl, tt))
all_operands op.Sub s = (refl, (refl, tt))
all_operands op.Mul s = (refl, (refl, tt))
all_operands op.Div s = (refl, (refl, tt))
all_operands op.Mod s = (refl, (refl, tt))

arguments_by : (c : Bool) (o : Op) (args : List Sort) (s r : Sort) → when (c && same_sorts args (operands o (r ∷ []))) r ≡ Some s → (s ≡ r) × AllByRecursion (λ o. o ≡ r) args
arguments_by c o args s r e =
    let w = when_some (c && same_sorts args (operands o (r ∷ []))) r s e in
    let q = same_list args (operands o (r ∷ [])) (and_parts c (same_sorts args (operands o (r ∷ []))) w.0).1 in
    (sym w.1, subst (AllByRecursion (λ o. o ≡ r)) (sym q) (all_operands o r))

is_on : (sig : Signature) (h : Head) (ss : List Sort) (ps : List (Term × Val)) (v : Val) → linear h ps ≡ Some v → IsOn sig h ss
is_on sig (head.Symbol n) ss ps v e = absurd (none-some v e)
is_on sig (head.Build n) ss ps v e = absurd (none-some v e)
is_on sig (head.Field n i) ss ps v e = absurd (none-some v e)
is_on sig head.True ss ps v e = absurd (none-some v e)
is_on sig head.False ss ps v e = absurd (none-some v e)
is_on sig head.Void ss ps v e = absurd (none-some v e)
is_on sig (head.Int o) ss ps v e = record { sort = Int; numeric = of_numeric Int (inl refl); result = refl; arguments = λ args s h. arguments_by (same_sorts ss []) o args s Int h }
is_on sig (head.Real o) ss ps v e = record { sort = Real; numeric = of_numeric Real (inr refl); result = refl; arguments = λ args s h. arguments_by (on_real o && same_sorts ss []) o args s Real h }

each_sort : (sig : Signature) (us : List Term) (args : List Sort) (o : Sort) → map (sort_of sig) us ≡ map Some args → AllByRecursion (λ r. r ≡ o) args → AllByRecursion (λ u. sort_of sig u ≡ Some o) us
each_sort sig [] args o e a = tt
each_sort sig (u ∷ us) [] o e a = absurd (cc)
each_sort sig (u ∷ us) (r ∷ rs) o e a =
    (cons_head (sort_of sig u) (Some r) (map (sort_of sig) us) (map Some rs) e ∙ ap (λ (s : Sort). Some s) a.0, each_sort sig us rs o (cons_tail (sort_of sig u) (Some r) (map (sort_of sig) us) (map Some rs) e) a.1)

-- ---- the forms of arguments
pub record AreNumbers (y : System) (us : List Term) (vs : List Val) : Type 0 where
  pub forms : List Lin
  pub have : HaveForms y us forms
  pub pairs : List (Term × Lin)
  pub vals_are : beside us vs ≡ vals_of pairs
  pub forms_are : with_forms us forms ≡ forms_of pairs

module _ (x : Held) (store : IsStore x.signature x.nodes) (values : AreValues x.signature (system_of x)) where
  numbers_there : (o : Sort) → is_numeric o ≡ true → (us : List Term) (vs : List Val) → AllByRecursion (λ u. sort_of x.signature u ≡ Some o) us → ValuesOf (system_of x) us vs → AreNumbers (system_of x) us vs
  numbers_there o m [] [] a h = record { forms = []; have = tt; pairs = []; vals_are = refl; forms_are = refl }
  numbers_there o m [] (v ∷ vs) a h = absurd h
  numbers_there o m (u ∷ us) [] a h = absurd h
  numbers_there o m (u ∷ us) (v ∷ vs) a h =
      let w = written_value (system_of x) (h.0).0 v (h.0).2 in
      let n = values.numbers (h.0).0 u o w.0 (h.0).1 a.0 w.1 m in
      let r = numbers_there o m us vs a.1 h.1 in
      let z : v ≡ val_of (form_of n.form) = sym w.2 ∙ ap meaning n.is ∙ meaning-Number n.form in
      record {
        forms = n.form ∷ r.forms;
        have = (record { name = (h.0).0; is = (h.0).1; value = w.1 ∙ ap (λ v. Some v) n.is }, r.have);
        pairs = (u, n.form) ∷ r.pairs;
        vals_are = λ i. (u, z i) ∷ r.vals_are i;
        forms_are = λ i. (u, form_of n.form) ∷ r.forms_are i;
      }

  -- the number of a name of a numeric sort
  number_there : (n : ℕ) (t : Term) (s : Sort) → IsName (system_of x) n t → sort_of x.signature t ≡ Some s → is_numeric s ≡ true → (f : Lin) × (slice_get x.values n ≡ Some (Number f))
  number_there n t s e o m =
      let l : n < length (system_of x).names = slice_get_within (system_of x).names n t e in
      let w = there x.values n (omega (arith, l, values.one_each)) in
      let h = values.numbers n t s w.0 e o w.1 m in
      (h.form, w.1 ∙ ap (λ v. Some v) h.is)

  valued_by : (n : ℕ) (f : Lin) (g : Form ℕ) (v : Val) → slice_get x.values n ≡ Some (Number f) → SameMeaning (form_of f) g → v ≡ val_of g → value_at (system_of x) n ≡ Some v
  valued_by n f g v e h z = value_of_written (system_of x) n (Number f) e ∙ ap (λ v. Some v) (meaning-Number f ∙ ap number (one_spelling (form_of f) g h) ∙ sym z)

  by_sort : (n : ℕ) (h : Head) (ss : List Sort) (us : List Term) (vs : List Val) (v : Val) → IsName (system_of x) n (Apply h ss us) → ValuesOf (system_of x) us vs → linear h (beside us vs) ≡ Some v
      → ((s : Sort) × (sort_of x.signature (Apply h ss us) ≡ Some s)) ⊎ IsPredicateName x.signature (Apply h ss us) → value_at (system_of x) n ≡ Some v
  by_sort n h ss us vs v e q l (inr p) =
      let i = is_on x.signature h ss (beside us vs) v l in absurd (predicate_apart x.signature h ss us i.sort p i.result)
  by_sort n h ss us vs v e q l (inl o) =
      let i = is_on x.signature h ss (beside us vs) v l in
      let a = is_applied x.signature h ss us o.0 o.1 in
      let g = i.arguments a.args o.0 a.headed in
      let sorts = each_sort x.signature us a.args i.sort (known_each (sort_of x.signature) us a.args a.known) g.1 in
      let r = numbers_there i.sort i.numeric us vs sorts q in
      let c = by_head h r.pairs v (ap (linear h) (sym r.vals_are) ∙ l) in
      let m = number_there n (Apply h ss us) i.sort e (o.1 ∙ ap (λ (s : Sort). Some s) g.0) i.numeric in
      valued_by n m.0 c.made v m.1 (values.operations n h ss us r.forms m.0 c.made e m.1 r.have (ap (linear_form h) r.forms_are ∙ c.is)) c.value

  pub computed : (n : ℕ) (h : Head) (ss : List Sort) (us : List Term) (vs : List Val) (v : Val) → IsName (system_of x) n (Apply h ss us) → ValuesOf (system_of x) us vs
      → linear h (beside us vs) ≡ Some v → value_at (system_of x) n ≡ Some v
  computed n h ss us vs v e q l = by_sort n h ss us vs v e q l (named_sorted x store n (Apply h ss us) e)

  numeral_by : (n : ℕ) (a b : ℤ) (real : Bool) → IsName (system_of x) n (Num a b real) → ((s : Sort) × (sort_of x.signature (Num a b real) ≡ Some s)) ⊎ IsPredicateName x.signature (Num a b real)
      → value_at (system_of x) n ≡ Some (constant_val (ratio a b))
  numeral_by n a b real e (inr p) =
      let z : ◌≡◌ {A = Term-F Term} (layer.Num a b real) (layer.Apply (head.Symbol p.0) p.1 p.2) = sym (outs-Num a b real) ∙ ap out-Term p.3 ∙ outs-Apply (head.Symbol p.0) p.1 p.2 in absurd (cc)
  numeral_by n a b real e (inl o) =
      let w = when_some (numeral_ok a b real) (cond real Real Int) o.0 (sym (sort_in_num x.signature (is_closed_sort x.signature) [] a b real) ∙ o.1) in
      let m : is_numeric o.0 ≡ true = subst (λ s. is_numeric s ≡ true) w.1 (numeric_of real) in
      let f = number_there n (Num a b real) o.0 e o.1 m in
      valued_by n f.0 (number_form (ratio a b)) (constant_val (ratio a b)) f.1 (values.numerals n a b real f.0 e f.1) refl
    where
      numeric_of : (r : Bool) → is_numeric (cond r Real Int) ≡ true
      numeric_of true = of_numeric Real (inr refl)
      numeric_of false = of_numeric Int (inl refl)

  pub numeral : (n : ℕ) (a b : ℤ) (real : Bool) → IsName (system_of x) n (Num a b real) → value_at (system_of x) n ≡ Some (constant_val (ratio a b))
  numeral n a b real e = numeral_by n a b real e (named_sorted x store n (Num a b real) e)
