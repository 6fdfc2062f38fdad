-- Names with equal values are equal by plain lines, where the equations of the system follow so and all names are plain.
use Rattle.std.specs.Prelude.{ℕ, zero, suc, ℤ, pos, negsuc, ◌<◌, ◌<ℤ◌, ◌≢◌, Bool, true, false, cond, ◌&&◌, List, [], ◌∷◌, ◌≡◌, ◌⊎◌, map, length, slice_get, Some}
use Rattle.std.specs.List.{AllByRecursion}
use Rattle.std.proofs.Common.{inl, inr}
use mathlib.Core.Path.{refl, sym, ap, ◌∙◌, subst}
use native.Mathlib.Omega.{arith}
use Rattle.std.proofs.lemmas.List.{length-map}
use native.Mathlib.Decide.{ℕ_discrete}
use borrow.Author.Differences.{ints}
use Rattle.ae_math.specs.Fractions.{ℚ, zero_ℚ, one_ℚ, neg_ℚ, ◌+ℚ◌, ◌*ℚ◌, ratio, whole}
use Rattle.ae_math.specs.Forms.{number as number_form, plus, scale, minus}
use Rattle.ae_base.specs.Decided.{pick}
use Rattle.ae_math.proofs.FractionLaws.{same_frac, field}
use Rattle.ae_math.proofs.FormLaws.{factor_in-append, factor_in-scale}
use Rattle.ae_core.specs.Decided.{Term_discrete}
use Rattle.ae_rules.specs.Linear.{Linear, form, factor_of, is_plain, IsSame, times}
use Rattle.ae_core.specs.Sorts.{sort_of}
use Rattle.ae_base.specs.Options.{known}
use Rattle.ae_core.specs.Putting.{put_sort}
use Rattle.ae_rules.specs.Lines.{Fact, equal, gap, total, IsNumeric, plain_ok, fact_ok, Follows, by_lin, by_fields, FollowAll, none as no_pair, more as a_pair}
use Rattle.ae_rules.specs.Lines.{no_fact, a_fact, Equations, Conseq, PlainConseq, fields_from}
use Rattle.ae_core.specs.Signatures.{IsLawful}
use Rattle.ae_core.proofs.SortFacts.{same_known_of}
use Rattle.ae_rules.proofs.Congruence.{conseq_symmetric, conseq_transitive, plain_symmetric, plain_transitive, plain_is_conseq, conseq_sorted}
use Rattle.ae_rules.proofs.LinearLaws.{int_product, real_product, form-Num}
use Rattle.ae_core.specs.declared.terms.Sort.{Sort, Int, Real, Named, out-Sort}
use Rattle.ae_core.specs.declared.terms.Sort.TheVariants.{outs-Int, outs-Real, outs-Named}
use Rattle.ae_core.specs.declared.terms.Term.{Term, Num, Apply, out-Term}
use Rattle.ae_core.specs.declared.terms.Term.TheOpen as term_layer
use Rattle.ae_core.specs.declared.terms.Term.TheVariants.{outs-Apply}
use Rattle.ae_core.specs.declared.terms.Head.TheVariants as head
use Rattle.ae_core.specs.declared.terms.Op.TheVariants as op
use Rattle.ae_core.specs.declared.problems.Signature.{Signature}
use Rattle.ae_core.specs.declared.problems.TypeEntry.{TypeEntry}
use Rattle.ae_core.specs.declared.problems.FieldEntry.{FieldEntry}
use Rattle.ae_core.specs.declared.problems.Kind.TheVariants.{Fields}
use Rattle.ae_num.specs.Forms.{meaning as form_of, factor_of as part_factor, IsNormal, IsRising, SameMeaning}
use Rattle.ae_num.proofs.UniqueLaws.{unique}
use Rattle.ae_num.proofs.MeaningLaws.{factor_meaning}
use Rattle.std.proofs.lemmas.Bool.{eq-eqb, ne_eqb}
use Rattle.ae_num.specs.declared.forms.Part.{Part}
use Rattle.ae_num.specs.declared.forms.Lin.{Lin}
use Rattle.ae_num.specs.declared.forms.Value.{Value, Value-F, Number, fold-roll-Value, out-Value, roll-Value, roll-out-Value, map-Value}
use Rattle.ae_num.specs.declared.forms.Value.TheOpen as value_layer
use Rattle.ae_num.specs.declared.forms.Value.TheVariants.{rolls-Number}
use Rattle.ae_journal.specs.Values.{Val, Vals, Sum, number, leaf, fields, vals, meaning, meaning_step, sum_of_lin, leaf_factor}
use Rattle.ae_journal.specs.Systems.{IsCompleted, IsOver, IsName, IsPredicateName, IsLeaf, IsEquation, of_number, of_leaf, IsSumTerm, no_part, one_part}
use Rattle.ae_journal.specs.Systems.{ValuesOf, Has, record_fields, field_terms, field_terms_of, arithmetic, numeral_of, scaled_term, is_real, forms_in}
use Rattle.ae_journal.specs.Systems.{forms_step}
use Rattle.ae_journal.specs.Evaluation.{depth_of, result_sort}
use Rattle.ae_journal.specs.Inner.Numbering.{numbering}
use Rattle.ae_journal.specs.Evaluate.{reduced_by}
use Rattle.ae_evaluation.proofs.Depth.{deep, is_record}
use Rattle.ae_evaluation.proofs.Sums.{factor-settled}
use Rattle.ae_evaluation.proofs.Names.{written_value}
use Rattle.ae_evaluation.proofs.Respect.{fields_named, is_known}
use Rattle.ae_evaluation.proofs.SortFacts.{is_applied, is_field, result_is}
use Rattle.ae_journal.specs.declared.systems.System.{System}
use Rattle.ae_base.proofs.AllOf.{all_at}
use Rattle.std.proofs.lemmas.Option.{same_Some}
use Rattle.ae_base.proofs.Integers.{positive_nonzero}

-- ---- written numbers
meaning-roll : (x : Value-F Value) → meaning (roll-Value x) ≡ meaning_step (map-Value Value Val meaning x)
unfolding meaning
meaning-roll x = fold-roll-Value Val meaning_step x

pub forms-Number : (f : Lin) → forms_in (Number f) ≡ f ∷ []
unfolding forms_in
forms-Number f = ap forms_in (sym (rolls-Number f)) ∙ fold-roll-Value (List Lin) forms_step (value_layer.Number f)

record IsWritten (w : Value) (F : Sum) : Type 0 where
  pub lin : Lin
  pub is : w ≡ Number lin
  pub same : sum_of_lin lin ≡ F

number_is : (f F : Sum) → number f ≡ number F → f ≡ F
number_is f F e = cc

written_number : (w : Value) (F : Sum) → meaning w ≡ number F → IsWritten w F
written_number w F e = go (out-Value w) refl
  where
    rolled : (x : Value-F Value) → out-Value w ≡ x → meaning_step (map-Value Value Val meaning x) ≡ number F
    rolled x o = sym (meaning-roll x) ∙ ap meaning (ap roll-Value (sym o) ∙ roll-out-Value w) ∙ e

    go : (x : Value-F Value) → out-Value w ≡ x → IsWritten w F
    go (value_layer.Leaf n) o = let z = rolled (value_layer.Leaf n) o in absurd (cc)
    go (value_layer.Number f) o = record {
      lin = f;
      is = sym (roll-out-Value w) ∙ ap roll-Value o ∙ rolls-Number f;
      same = number_is
          (sum_of_lin f) F (rolled (value_layer.Number f) o);
    }
    go (value_layer.Fields vs) o = let z = rolled (value_layer.Fields vs) o in absurd (cc)

-- a factor other than 0 has a part
part_there : (ps : List (ℕ × ℚ)) (k : ℕ) → leaf_factor ps k ≢ zero_ℚ → (i : ℕ) × (q : ℕ × ℚ) × (slice_get ps i ≡ Some q) × (q.0 ≡ k)
part_there [] k n = absurd (n refl)
part_there (p ∷ ps) k n = go (ℕ_discrete p.0 k) n (part_there ps k)
  where
    go : (d : Dec (p.0 ≡ k)) → pick d (p.1 +ℚ leaf_factor ps k) (leaf_factor ps k) ≢ zero_ℚ
        → (leaf_factor ps k ≢ zero_ℚ → (i : ℕ) × (q : ℕ × ℚ) × (slice_get ps i ≡ Some q) × (q.0 ≡ k))
        → (i : ℕ) × (q : ℕ × ℚ) × (slice_get (p ∷ ps) i ≡ Some q) × (q.0 ≡ k)
    go (yes e) n f = (0, p, refl, e)
    go (no m) n f = let r = f n in (suc r.0, r.1, r.2, r.3)

-- in rising parts each key has its own factor
own_factor : (ps : List Part) (i : ℕ) (p : Part) → IsRising ps → slice_get ps i ≡ Some p → part_factor ps p.key ≡ p.factor
own_factor [] i p r e = absurd (cc)
own_factor (q ∷ ps) zero p r e =
    let z : q ≡ p = same_Some q p e in
    ap (λ (w : Part). part_factor (q ∷ ps) w.key) (sym z) ∙ ap (λ b. cond b q.factor (part_factor ps q.key)) (eq-eqb q.key q.key refl) ∙ ap
    (λ (w : Part). w.factor) z
own_factor (q ∷ ps) (suc i) p r e =
    let above = all_at (λ (w : Part). q.key < w.key) ps i p r.0 e in
    ap (λ b. cond b q.factor (part_factor ps p.key)) (ne_eqb q.key p.key (λ z. omega (arith, above, z))) ∙ own_factor ps i p r.1 e

not_zero : (z d : ℤ) → pos 0 <ℤ d → z ≢ pos 0 → ratio z d ≢ zero_ℚ
unfolding zero_ℚ
not_zero z (pos zero) h n e = absurd (omega (arith, ints, h))
not_zero z (pos (suc m)) h n e = let f = same_frac z (pos 0) m 0 e in n (omega (arith, ints, f))
not_zero z (negsuc m) h n e = absurd (omega (arith, ints, h))

-- ---- linear forms of multiples
scaled_form : (s : Sort) (z : ℤ) (t : Term) → form (scaled_term s z t) ≡ scale (whole z) (form t)
scaled_form s z t = go (is_real (out-Sort s))
  where
    go : (b : Bool) → form (Apply (cond b (head.Real op.Mul) (head.Int op.Mul)) [] (Num z (pos 1) b ∷ t ∷ [])) ≡ scale (whole z) (form t)
    go true =
        real_product [] (Num z (pos 1) true) t
        ∙ ap (λ (f : Linear). times (Apply (head.Real op.Mul) [] (Num z (pos 1) true ∷ t ∷ [])) f (form t)) (form-Num z (pos 1) true)
    go false =
        int_product [] (Num z (pos 1) false) t
        ∙ ap (λ (f : Linear). times (Apply (head.Int op.Mul) [] (Num z (pos 1) false ∷ t ∷ [])) f (form t)) (form-Num z (pos 1) false)

identity_q : (d a b n : ℚ) → d *ℚ (a +ℚ n *ℚ b) ≡ one_ℚ *ℚ (d *ℚ a +ℚ n *ℚ (d *ℚ b)) +ℚ zero_ℚ
identity_q d a b n = simp field

multiples_differ : (s : Sort) (d : ℤ) (t u : Term)
    → IsSame (scale (whole d) (gap (equal t u))) (total ((pos 1, equal (scaled_term s d t) (scaled_term s d u)) ∷ []))
unfolding one_ℚ
multiples_differ s d t u =
    subst (λ (w : Linear × Linear). IsSame (scale (whole d) (gap (equal t u)))
    (plus (scale (whole (pos 1)) (minus w.1 w.0)) (number_form zero_ℚ))) (λ i. (sym (scaled_form s d t) i, sym (scaled_form s d u) i))
    (record {
      factors = λ k.
          let neg = neg_ℚ one_ℚ in
          let ft = form t in
          let fu = form u in
          let x = whole d in
          factor_in-scale Term_discrete x (minus fu ft).parts k
          ∙ ap (λ z. x *ℚ z)
          (factor_in-append Term_discrete fu.parts (scale neg ft).parts k ∙ ap (λ z. factor_of fu k +ℚ z)
          (factor_in-scale Term_discrete neg ft.parts k))
          ∙ identity_q x (factor_of fu k) (factor_of ft k) neg
          ∙ sym (factor_in-append Term_discrete (scale (whole (pos 1)) (minus (scale x fu) (scale x ft))).parts [] k
          ∙ ap (λ z. z +ℚ zero_ℚ) (factor_in-scale Term_discrete (whole (pos 1)) (minus (scale x fu) (scale x ft)).parts k
          ∙ ap (λ z. whole (pos 1) *ℚ z) (factor_in-append Term_discrete (scale x fu).parts (scale neg (scale x ft)).parts k
          ∙
          (λ i. factor_in-scale Term_discrete x fu.parts k i +ℚ
          (factor_in-scale Term_discrete neg (scale x ft).parts k ∙ ap (λ z. neg *ℚ z) (factor_in-scale Term_discrete x ft.parts k)) i))));
      constants = identity_q (whole d) (form u).constant (form t).constant (neg_ℚ one_ℚ);
    })

vals_are : (vs ws : List Val) → vals vs ≡ vals ws → vs ≡ ws
vals_are [] [] e = refl
vals_are [] (w ∷ ws) e = absurd (cc)
vals_are (v ∷ vs) [] e = absurd (cc)
vals_are (v ∷ vs) (w ∷ ws) e = let f : v ≡ w = cc in let g : vals vs ≡ vals ws = cc in λ i. f i ∷ vals_are vs ws g i

fields_are : (vs ws : Vals) → fields vs ≡ fields ws → vs ≡ ws
fields_are vs ws e = cc

-- consequence by lines over facts that are `ok`: an equivalence on well-sorted terms, `ok` of names of one sort
module _ (sig : Signature) (y : System) (lawful : IsLawful sig) (completed : IsCompleted sig y) (E : Term → Term → Type 0)
    (ok : Fact → Bool)
    (both_ok : (s : Sort) (v : Val) (m n : ℕ) (a : Has sig y s v m) (b : Has sig y s v n) → ok (equal a.term b.term) ≡ true)
    (symmetric : (s t : Term) → Follows sig ok (Equations E) (equal s t) → Follows sig ok (Equations E) (equal t s))
    (transitive : (s m t : Term) → Follows sig ok (Equations E) (equal s m) → Follows sig ok (Equations E) (equal m t) → Follows sig ok
    (Equations E) (equal s t))
    (well_sorted : (s t : Term) → Follows sig ok (Equations E) (equal s t) → (known (sort_of sig s) ≡ true) ×
    (sort_of sig s ≡ sort_of sig t))
    (derived : (s t : Term) → IsEquation sig y s t → Follows sig ok (Equations E) (equal s t)) where
  abbrev pub C : Term → Term → Type 0
  C s t = Follows sig ok (Equations E) (equal s t)

  -- ---- numbers
  keys_named : (s : Sort) (F : Sum) (n : ℕ) (h : Has sig y s (number F) n) (f : Lin) → IsNormal f → sum_of_lin f ≡ F → (i : ℕ) (p : Part)
      → slice_get f.parts i ≡ Some p → (t : Term) × IsName y p.key t
  keys_named s F n h f normal same i p at =
      let nonzero = all_at (λ (w : Part). w.factor ≢ pos 0) f.parts i p normal.nonzero at in
      let factor : leaf_factor (form_of f).parts p.key ≡ ratio p.factor f.den =
      factor_meaning f p.key normal.rising ∙ ap (λ z. ratio z f.den) (own_factor f.parts i p normal.rising at) in
      let there : leaf_factor F.parts p.key ≢ zero_ℚ =
      λ e. not_zero p.factor f.den normal.positive nonzero
      (sym factor ∙ sym (factor-settled (form_of f).parts p.key) ∙ ap (λ (g : Sum). leaf_factor g.parts p.key) same ∙ e) in
      let q = part_there F.parts p.key there in
      let l = all_at (λ (q : ℕ × ℚ). IsLeaf sig y s q.0) F.parts q.0 q.1 (completed.over s (number F) n h).1 q.2 in
      (l.term, ap (slice_get y.names) (sym q.3) ∙ l.is)

  sum_term : (s : Sort) (ps : List Part) → ((i : ℕ) (p : Part) → slice_get ps i ≡ Some p → (t : Term) × IsName y p.key t)
      → (u : Term) × IsSumTerm s y (map (λ p. (p.factor, p.key)) ps) u
  sum_term s [] h = (numeral_of s (pos 0), no_part)
  sum_term s (p ∷ ps) h =
      let r = sum_term s ps (λ i q e. h (suc i) q e) in
      let t = h 0 p refl in (
        Apply (arithmetic s op.Add) [] (r.0 ∷ scaled_term s p.factor t.0 ∷ []),
        one_part p.factor p.key t.0
            (map (λ p. (p.factor, p.key)) ps) r.0 t.1 r.1,
      )

  scaled_sort : (s : Sort) (z : ℤ) (t : Term) → IsNumeric s → (o : Sort) → sort_of sig (scaled_term s z t) ≡ Some o → o ≡ s
  scaled_sort s z t n o e =
      let a = is_applied sig (arithmetic s op.Mul) [] (numeral_of s z ∷ t ∷ []) o e in
      go n (result_is sig (arithmetic s op.Mul) [] a.args o a.headed)
    where
      go : IsNumeric s → result_sort sig (arithmetic s op.Mul) [] ≡ Some o → o ≡ s
      go (inl i) r =
          sym
          (same_Some Int o (sym (ap (λ (b : Bool). result_sort sig (cond b (head.Real op.Mul) (head.Int op.Mul)) [])
          (ap (λ (s : Sort). is_real (out-Sort s)) i ∙ ap is_real outs-Int)) ∙ r))
          ∙ sym i
      go (inr i) r =
          sym
          (same_Some Real o (sym
          (ap (λ (b : Bool). result_sort sig (cond b (head.Real op.Mul) (head.Int op.Mul)) [])
          (ap (λ (s : Sort). is_real (out-Sort s)) i ∙ ap is_real outs-Real)) ∙ r))
          ∙ sym i

  number_case : (s : Sort) (F : Sum) (m n : ℕ) (a : Has sig y s (number F) m) (b : Has sig y s (number F) n) → C a.term b.term
  number_case s F m n a b =
      let wa = written_value sig y numbering (reduced_by y) false completed m (number F) a.value in
      let wb = written_value sig y numbering (reduced_by y) false completed n (number F) b.value in
      let fa = written_number wa.0 F wa.2 in
      let fb = written_number wb.0 F wb.2 in
      let na : IsNormal fa.lin =
      (subst (AllByRecursion IsNormal) (ap forms_in fa.is ∙ forms-Number fa.lin) (completed.normal m wa.0 wa.1)).0 in
      let nb : IsNormal fb.lin =
      (subst (AllByRecursion IsNormal) (ap forms_in fb.is ∙ forms-Number fb.lin) (completed.normal n wb.0 wb.1)).0 in
      let one : sum_of_lin fa.lin ≡ sum_of_lin fb.lin = fa.same ∙ sym fb.same in
      let meant : SameMeaning (form_of fa.lin) (form_of fb.lin) =
      record {
        factors = λ k. sym (factor-settled (form_of fa.lin).parts k) ∙ ap (λ (g : Sum). leaf_factor g.parts k) one ∙ factor-settled
            (form_of fb.lin).parts k;
        constants = ap (λ (g : Sum). g.constant) one;
      } in
      let same : fa.lin ≡ fb.lin = unique fa.lin fb.lin na nb meant in
      let f = fa.lin in
      let u = sum_term s f.parts (keys_named s F m a f na fa.same) in
      let ea =
      derived (scaled_term s f.den a.term) (Apply (arithmetic s op.Add) [] (u.0 ∷ numeral_of s f.constant ∷ []))
      (of_number m a.term u.0 s wa.0 f a.is a.sort wa.1 fa.is u.1) in
      let eb =
      derived (scaled_term s f.den b.term) (Apply (arithmetic s op.Add) [] (u.0 ∷ numeral_of s f.constant ∷ []))
      (of_number n b.term u.0 s wb.0 f b.is b.sort wb.1 (fb.is ∙ ap Number (sym same)) u.1) in
      let multiples =
      transitive (scaled_term s f.den a.term) (Apply (arithmetic s op.Add) [] (u.0 ∷ numeral_of s f.constant ∷ []))
      (scaled_term s f.den b.term) ea
      (symmetric (scaled_term s f.den b.term) (Apply (arithmetic s op.Add) [] (u.0 ∷ numeral_of s f.constant ∷ [])) eb) in
      let numeric = (completed.over s (number F) m a).0 in
      let sorted = well_sorted (scaled_term s f.den a.term) (scaled_term s f.den b.term) multiples in
      let k = is_known (sort_of sig (scaled_term s f.den a.term)) sorted.0 in
      let o : sort_of sig (scaled_term s f.den a.term) ≡ Some s =
      k.1 ∙ ap (λ (x : Sort). Some x) (scaled_sort s f.den a.term numeric k.0 k.1) in
      by_lin f.den ((pos 1, equal (scaled_term s f.den a.term) (scaled_term s f.den b.term)) ∷ []) (positive_nonzero f.den na.positive) (refl, tt)
      (record {
        sort = s;
        numeric = numeric;
        sorted = (a.sort, b.sort);
        all_sorted =
            ((o, sym sorted.1 ∙ o), tt);
        sums = multiples_differ s f.den a.term b.term;
      }) (a_fact multiples no_fact)
      (both_ok s (number F) m n a b)

  -- ---- other sorts but records
  leaf_case : (s : Sort) (k m n : ℕ) (a : Has sig y s (leaf k) m) (b : Has sig y s (leaf k) n) → C a.term b.term
  leaf_case s k m n a b =
      let l = (completed.over s (leaf k) m a).2 in
      transitive a.term l.term b.term (derived a.term l.term (of_leaf m k a.term l.term a.is l.is a.value))
      (symmetric b.term l.term (derived b.term l.term (of_leaf n k b.term l.term b.is l.is b.value)))

  -- ---- records
  abbrev pub SameAt : ℕ → Type 0
  SameAt d = (s : Sort) (v : Val) (m n : ℕ) → depth_of sig s < d → (a : Has sig y s v m) (b : Has sig y s v n) → C a.term b.term

  field_sort : (k i : ℕ) (us fs : List Sort) (t : Term) (n : ℕ) → record_fields sig (Named k us) ≡ Some fs
      → IsName y n (Apply (head.Field k i) us (t ∷ []))
      → (o : Sort) × (sort_of sig (Apply (head.Field k i) us (t ∷ [])) ≡ Some o) × (slice_get fs i ≡ Some o)
  field_sort k i us fs t n e is = go (completed.sorted n (Apply (head.Field k i) us (t ∷ [])) is)
    where
      go : ((s : Sort) × (sort_of sig (Apply (head.Field k i) us (t ∷ [])) ≡ Some s)) ⊎ IsPredicateName sig
          (Apply (head.Field k i) us (t ∷ []))
          → (o : Sort) × (sort_of sig (Apply (head.Field k i) us (t ∷ [])) ≡ Some o) × (slice_get fs i ≡ Some o)
      go (inl s) =
          let a = is_applied sig (head.Field k i) us (t ∷ []) s.0 s.1 in
          let f = is_field sig k i us a.args s.0 a.headed in
          (s.0, s.1, ap (λ (os : List Sort). slice_get os i) (same_Some fs f.sorts (sym e ∙ f.fields)) ∙ f.at)
      go (inr r) =
          let f : term_layer.Apply (head.Symbol r.0) r.1 r.2 ≡ term_layer.Apply (head.Field k i) us (t ∷ []) =
          sym (ap out-Term r.3 ∙ outs-Apply (head.Symbol r.0) r.1 r.2) ∙ outs-Apply (head.Field k i) us (t ∷ []) in
          let z : head.Symbol r.0 ≡ head.Field k i = cc in
          absurd (cc)

  walk : (d k : ℕ) (us fs : List Sort) (t u : Term) → SameAt d → record_fields sig (Named k us) ≡ Some fs
      → AllByRecursion (λ o. depth_of sig o < d) fs → (i j : ℕ) (ws : List Val)
      → ValuesOf y (fields_from k us t i j) ws → ValuesOf y (fields_from k us u i j) ws
      → FollowAll sig ok (Equations E) (fields_from k us t i j) (fields_from k us u i j)
  walk d k us fs t u same e deeper i zero ws p q = no_pair
  walk d k us fs t u same e deeper i (suc j) [] p q = absurd p
  walk d k us fs t u same e deeper i (suc j) (w ∷ ws) p q =
      let a = field_sort k i us fs t (p.0).0 e (p.0).1 in
      let b = field_sort k i us fs u (q.0).0 e (q.0).1 in
      let z : a.0 ≡ b.0 = same_Some a.0 b.0 (sym a.2 ∙ b.2) in
      a_pair
      (same a.0 w (p.0).0 (q.0).0 (all_at (λ o. depth_of sig o < d) fs i a.0 deeper a.2)
      (record { term = Apply (head.Field k i) us (t ∷ []); is = (p.0).1; sort = a.1; value = (p.0).2 })
      (record { term = Apply (head.Field k i) us (u ∷ []); is = (q.0).1; sort = b.1 ∙ ap (λ (x : Sort). Some x) (sym z); value = (q.0).2 }))
      (walk d k us fs t u same e deeper (suc i) j ws p.1 q.1)

  record_case : (k : ℕ) (us : List Sort) (t : TypeEntry) (gs : List FieldEntry) → slice_get sig.types k ≡ Some t → t.kind ≡ Fields gs
      → SameAt (depth_of sig (Named k us)) → (v : Val) (m n : ℕ) (a : Has sig y (Named k us) v m) (b : Has sig y (Named k us) v n)
      → C a.term b.term
  record_case k us t gs at kind same v m n a b =
      let fs = map (λ (f : FieldEntry). put_sort us f.sort) gs in
      let e = fields_named sig k us t gs at kind in
      let ra = completed.record_value m a.term (Named k us) fs a.is a.sort e in
      let rb = completed.record_value n b.term (Named k us) fs b.is b.sort e in
      let one : ra.0 ≡ rb.0 =
      vals_are ra.0 rb.0
      (fields_are (vals ra.0) (vals rb.0)
      (same_Some (fields (vals ra.0)) v (sym ra.1 ∙ a.value) ∙ sym (same_Some (fields (vals rb.0)) v (sym rb.1 ∙ b.value)))) in
      let l = length-map gs (λ (f : FieldEntry). put_sort us f.sort) in
      let terms : (x : Term) → field_terms (Named k us) x (length fs) ≡ fields_from k us x 0 (length gs) =
      λ x. (λ i. field_terms_of (outs-Named k us i) x (length fs)) ∙ ap (λ (j : ℕ). fields_from k us x 0 j) l in
      by_fields k us t gs at kind (a.sort, b.sort)
      (walk (depth_of sig (Named k us)) k us fs a.term b.term same e (deep sig lawful (Named k us) fs e) 0 (length gs) ra.0
      (subst (λ (ts : List Term). ValuesOf y ts ra.0) (terms a.term) ra.2)
      (subst (λ (z : List Term × List Val). ValuesOf y z.0 z.1) (λ i. (terms b.term i, sym one i)) rb.2)) (both_ok (Named k us) v m n a b)

  by_depth : (d : ℕ) → SameAt d
  by_depth zero s v m n h a b = absurd (omega (arith, h))
  by_depth (suc d) s v m n h a b = go v (completed.over s v m a) a b (by_depth d)
    where
      fields_case : (s : Sort) (fs : List Sort) → depth_of sig s < suc d → record_fields sig s ≡ Some fs → SameAt d
          → (v : Val) (a : Has sig y s v m) (b : Has sig y s v n) → C a.term b.term
      fields_case s fs h e same v a b =
          let r = is_record sig s fs e in
          let h' : depth_of sig (Named r.type r.sorts) < suc d = subst (λ (o : Sort). depth_of sig o < suc d) r.is h in
          let below : SameAt (depth_of sig (Named r.type r.sorts)) = λ o w i j l p q. same o w i j (omega (arith, l, h')) p q in
          record_case r.type r.sorts r.entry r.fields r.at r.kind below v m n
          (record { term = a.term; is = a.is; sort = a.sort ∙ ap (λ (x : Sort). Some x) r.is; value = a.value })
          (record { term = b.term; is = b.is; sort = b.sort ∙ ap (λ (x : Sort). Some x) r.is; value = b.value })

      go : (v : Val) → IsOver sig y s v → (a : Has sig y s v m) (b : Has sig y s v n) → SameAt d → C a.term b.term
      go (number F) o a b same = number_case s F m n a b
      go (leaf k) o a b same = leaf_case s k m n a b
      go (fields vs) o a b same = fields_case s o.0 h o.1 same (fields vs) a b

  -- two names of one sort with one value are equal by plain lines
  pub equal_by_lines : (s : Sort) (v : Val) (m n : ℕ) (a : Has sig y s v m) (b : Has sig y s v n) → C a.term b.term
  equal_by_lines s v m n a b = by_depth (suc (depth_of sig s)) s v m n (omega arith) a b

-- names of one sort with one value are equal by lines; by plain lines where all names are plain
pub equal_by_consequence : (sig : Signature) (y : System) → IsLawful sig → IsCompleted sig y → (E : Term → Term → Type 0)
    → ((s t : Term) → IsEquation sig y s t → Conseq sig E s t)
    → (s : Sort) (v : Val) (m n : ℕ) (a : Has sig y s v m) (b : Has sig y s v n) → Conseq sig E a.term b.term
equal_by_consequence sig y lawful completed E derived =
    equal_by_lines sig y lawful completed E (fact_ok sig)
    (λ s v m n a b. same_known_of (sort_of sig a.term) (sort_of sig b.term) (ap known a.sort) (a.sort ∙ sym b.sort))
    (conseq_symmetric sig E) (conseq_transitive sig E)
    (λ s t d. conseq_sorted sig E s t d) derived

pub equal_by_plain_consequence : (sig : Signature) (y : System) → IsLawful sig → IsCompleted sig y → (E : Term → Term → Type 0)
    → ((n : ℕ) (t : Term) (s : Sort) → IsName y n t → sort_of sig t ≡ Some s → is_plain t ≡ true)
    → ((s t : Term) → IsEquation sig y s t → PlainConseq sig E s t)
    → (s : Sort) (v : Val) (m n : ℕ) (a : Has sig y s v m) (b : Has sig y s v n) → PlainConseq sig E a.term b.term
equal_by_plain_consequence sig y lawful completed E plain derived =
    equal_by_lines sig y lawful completed E (plain_ok sig)
    (λ s v m n a b i. same_known_of (sort_of sig a.term) (sort_of sig b.term) (ap known a.sort)
    (a.sort ∙ sym b.sort) i && plain m a.term s a.is a.sort i && plain n b.term s b.is b.sort i)
    (plain_symmetric sig E) (plain_transitive sig E) (λ s t d. conseq_sorted sig E s t (plain_is_conseq sig E s t d)) derived
