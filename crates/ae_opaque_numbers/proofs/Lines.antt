-- The lines of a legal journal solve names by values over leaves of opaque terms, so numbers that are their own values are opaque.
use Rattle.std.specs.Prelude.{ℕ, pos, ◌<ℤ◌, zero, suc, ◌+◌, ◌≡◌, ◌≢◌, List, [], ◌∷◌, ◌++◌, map, length, slice_get, Option, Some}
use Rattle.std.specs.List.{AllByRecursion}
use Rattle.std.proofs.Common.{arith, refl, sym, ap, ◌∙◌, subst, append_assoc}
use Rattle.std.proofs.lemmas.Int.{ints}
use Rattle.std.proofs.lemmas.Option.{same_Some}
use native.Mathlib.Decide.{ℕ_discrete}
use Rattle.ae_base.proofs.AllOf.{all_push}
use Rattle.ae_base.proofs.Decided.{pick_yes, pick_no}
use Rattle.ae_base.specs.Options.{or_else}
use Rattle.ae_core.specs.Decided.{Term_discrete}
use Rattle.ae_core.specs.declared.terms.Sort.{Sort}
use Rattle.ae_core.specs.declared.terms.Term.{Term}
use Rattle.ae_decide.proofs.NormalValues.{meaning-roll}
use Rattle.ae_evaluation.proofs.Sums.{factor-settled, factor_same, one_sum, settles}
use Rattle.ae_journal.proofs.LegalFronts.{line_at}
use Rattle.ae_journal.proofs.Representatives.{one_leaf}
use Rattle.ae_journal.specs.Inner.Numbering.{term_number}
use Rattle.ae_journal.specs.Legal.{IsLegalLine, AreLegal}
use Rattle.ae_journal.specs.Journals.{before_decision, live, live_after}
use Rattle.ae_journal.specs.SolverLines.{Solves}
use Rattle.ae_journal.specs.SolverLines.Solves.{a_number, a_leaf, other_leaf}
use Rattle.ae_journal.specs.Standing.{Setting, value_now}
use Rattle.ae_journal.specs.TermValues.{number_from, leaf_of, put_leaf, IsLargest}
use Rattle.ae_journal.specs.Values.{Val, Sum, IsSettled, number, leaf, fields, vals, leaf_factor, minus_val, scale_val, sum_in, meaning, settled, sum_of_lin, constant_val}
use Rattle.ae_journal.specs.declared.lines.Line.{Line}
use Rattle.ae_journal.specs.declared.lines.Line.TheVariants as line
use Rattle.ae_journal.specs.declared.lines.Oriented.TheVariants as oriented
use Rattle.ae_journal.specs.declared.systems.System.{System}
use Rattle.ae_math.proofs.FractionLaws.{add_zero_q}
use Rattle.ae_math.proofs.Wholes.{one_whole, ratio_is_zero}
use Rattle.ae_math.specs.Forms.{Form, single, substitute}
use Rattle.ae_math.specs.Fractions.{zero_ℚ, one_ℚ, neg_ℚ, ◌+ℚ◌}
use Rattle.ae_name_lines.proofs.Spelled.{val_of, put_val}
use Rattle.ae_name_lines.proofs.Written.{number_means}
use Rattle.ae_num.specs.Forms.{meaning as form_of}
use Rattle.ae_num.specs.declared.forms.Value.{Value, Value-F, out-Value, roll-Value, roll-out-Value, Number}
use Rattle.ae_num.specs.declared.forms.Value.TheOpen as layer
use Rattle.ae_settled.specs.Valued.{IsOwnNumber}
use Rattle.ae_store.specs.Terms.{HasOneName}
use Rattle.ae_opaque_numbers.specs.Opaque.{AreNow, OpaqueNumbersAreLeaves}
use Rattle.ae_opaque_numbers.proofs.Leaves.{Over, factor_there, over_factors, solving_leaves}
use Rattle.ae_opaque_numbers.proofs.Opaque.{IsOpaque}
use Rattle.ae_opaque_numbers.proofs.Values.{IsLeafOf, IsOver, SolvesOver, minus_over, value_over}

-- ---- what holds of each line holds of each that stands
module _ (P : Line → Type 0) where
  abbrev All : List Line → Type 0
  All js = AllByRecursion P js

  all_before : (n : ℕ) (js : List Line) → All js → All (before_decision n js)
  all_before n [] a = tt
  all_before zero (line.Decide l ∷ js) a = tt
  all_before (suc n) (line.Decide l ∷ js) a = (a.0, all_before n js a.1)
  all_before zero (line.Orient o ∷ js) a = (a.0, all_before zero js a.1)
  all_before (suc n) (line.Orient o ∷ js) a = (a.0, all_before (suc n) js a.1)
  all_before zero (line.Drop o ∷ js) a = (a.0, all_before zero js a.1)
  all_before (suc n) (line.Drop o ∷ js) a = (a.0, all_before (suc n) js a.1)
  all_before zero (line.Pair u l m ∷ js) a = (a.0, all_before zero js a.1)
  all_before (suc n) (line.Pair u l m ∷ js) a = (a.0, all_before (suc n) js a.1)
  all_before zero (line.Learn c ∷ js) a = (a.0, all_before zero js a.1)
  all_before (suc n) (line.Learn c ∷ js) a = (a.0, all_before (suc n) js a.1)
  all_before zero (line.TypeInstance k ss ∷ js) a = (a.0, all_before zero js a.1)
  all_before (suc n) (line.TypeInstance k ss ∷ js) a = (a.0, all_before (suc n) js a.1)
  all_before zero (line.TermInstance f ts ∷ js) a = (a.0, all_before zero js a.1)
  all_before (suc n) (line.TermInstance f ts ∷ js) a = (a.0, all_before (suc n) js a.1)
  all_before zero (line.Combine b f ∷ js) a = (a.0, all_before zero js a.1)
  all_before (suc n) (line.Combine b f ∷ js) a = (a.0, all_before (suc n) js a.1)
  all_before zero (line.Back k ∷ js) a = (a.0, all_before zero js a.1)
  all_before (suc n) (line.Back k ∷ js) a = (a.0, all_before (suc n) js a.1)

  all_live : (kept js : List Line) → All kept → All js → All (live_after kept js)
  all_live kept [] a b = a
  all_live kept (line.Decide l ∷ js) a b = all_live (kept ++ line.Decide l ∷ []) js (all_push P kept (line.Decide l) a b.0) b.1
  all_live kept (line.Orient o ∷ js) a b = all_live (kept ++ line.Orient o ∷ []) js (all_push P kept (line.Orient o) a b.0) b.1
  all_live kept (line.Drop o ∷ js) a b = all_live (kept ++ line.Drop o ∷ []) js (all_push P kept (line.Drop o) a b.0) b.1
  all_live kept (line.Pair u l m ∷ js) a b = all_live (kept ++ line.Pair u l m ∷ []) js (all_push P kept (line.Pair u l m) a b.0) b.1
  all_live kept (line.Learn c ∷ js) a b = all_live (kept ++ line.Learn c ∷ []) js (all_push P kept (line.Learn c) a b.0) b.1
  all_live kept (line.TypeInstance k ss ∷ js) a b = all_live (kept ++ line.TypeInstance k ss ∷ []) js (all_push P kept (line.TypeInstance k ss) a b.0) b.1
  all_live kept (line.TermInstance f ts ∷ js) a b = all_live (kept ++ line.TermInstance f ts ∷ []) js (all_push P kept (line.TermInstance f ts) a b.0) b.1
  all_live kept (line.Combine s f ∷ js) a b = all_live (kept ++ line.Combine s f ∷ []) js (all_push P kept (line.Combine s f) a b.0) b.1
  all_live kept (line.Back n ∷ js) a b = all_live (before_decision n kept) js (all_before n kept a) b.1

-- ---- a number that is written is settled
abbrev IsSettledNumber : Val → Type 0
IsSettledNumber v = (f : Sum) → v ≡ number f → IsSettled f.parts

settled_layer : (l : Value-F Value) → IsSettledNumber (meaning (roll-Value l))
settled_layer (layer.Number q) f e =
    let w : ◌≡◌ {A = Val} (number (sum_of_lin q)) (number f) = sym (meaning-roll (layer.Number q)) ∙ e in
    let z : sum_of_lin q ≡ f = cc w in
    subst (λ (g : Sum). IsSettled g.parts) z (settles (form_of q).parts)
settled_layer (layer.Leaf n) f e = let w : ◌≡◌ {A = Val} (leaf n) (number f) = sym (meaning-roll (layer.Leaf n)) ∙ e in absurd (let z : ⊥ = cc w in z)
settled_layer (layer.Fields vs) f e = let w : ◌≡◌ {A = Val} (fields (vals (map meaning vs))) (number f) = sym (meaning-roll (layer.Fields vs)) ∙ e in absurd (let z : ⊥ = cc w in z)

written_settled : (v : Value) → IsSettledNumber (meaning v)
written_settled v = subst (λ (w : Value). IsSettledNumber (meaning w)) (roll-out-Value v) (settled_layer (out-Value v))

module _ (x : Setting) where
  abbrev Q : ℕ → Type 0
  Q = IsLeafOf x.problem.signature x.names

  abbrev IsOverNow : Val → Type 0
  IsOverNow = IsOver x.problem.signature x.names

  abbrev IsFit : Line → Type 0
  IsFit = SolvesOver x.problem.signature x.names

  -- ---- what solves a name
  module _ (n : ℕ) where
    number_over : (f : Sum) (v w : Val) → IsSettled f.parts → IsOverNow v → IsOverNow w → IsLargest x.names n (sum_in (minus_val v w)) → leaf_factor f.parts n ≡ zero_ℚ
        → put_leaf n (number f) (minus_val v w) ≡ constant_val zero_ℚ → IsOverNow (number f)
    number_over f v w settled_f p q largest own gone = over_factors Q f.parts settled_f (solving_leaves Q difference f n all some own zeros)
      where
        difference : Form ℕ
        difference = record { parts = (sum_in v).parts ++ (sum_in (scale_val (neg_ℚ one_ℚ) w)).parts; constant = (sum_in v).constant +ℚ (sum_in (scale_val (neg_ℚ one_ℚ) w)).constant }

        all : Over Q (settled difference.parts)
        all = minus_over x.problem.signature x.names v w p q

        some : leaf_factor difference.parts n ≢ zero_ℚ
        some e = largest.1 (factor-settled difference.parts n ∙ e)

        settled_itself : number f ≡ val_of f
        settled_itself = ap number (λ i. record { parts = sym (one_sum (settled f.parts) f.parts (settles f.parts) settled_f (factor-settled f.parts)) i; constant = f.constant })

        put : val_of (substitute ℕ_discrete difference n f) ≡ constant_val zero_ℚ
        put = sym (put_val n f difference) ∙ ap (λ (z : Val). put_leaf n z (val_of difference)) (sym settled_itself) ∙ gone

        zeros : (k : ℕ) → leaf_factor (substitute ℕ_discrete difference n f).parts k ≡ zero_ℚ
        zeros k = sym (factor-settled (substitute ℕ_discrete difference n f).parts k) ∙ ap (λ (z : Val). leaf_factor (sum_in z).parts k) put

    solved_over : (u v w : Val) → IsSettledNumber u → IsOverNow v → IsOverNow w → Solves x n u v w → IsOverNow u
    solved_over _ v w h p q (a_number _ f _ _ largest own gone) = number_over f v w (h f refl) p q largest own gone
    solved_over _ _ _ h p q (a_leaf m _ l) = p
    solved_over _ _ _ h p q (other_leaf m _ l) = q

  -- ---- after fit lines
  now_over : (js : List Line) → AllByRecursion IsFit js → (t : Term) → IsOverNow (value_now x js t)
  now_over js a t = value_over x.problem.signature x.names (live js) (all_live IsFit [] js tt a) t

  module _ (bound : ℕ) where
    legal_line : (js : List Line) → AllByRecursion IsFit js → (j : Line) → IsLegalLine x bound js j → IsFit j
    legal_line js a (line.Orient (oriented.Named n v)) m = solved_over n (meaning v) (value_now x js m.left) (value_now x js m.right) (written_settled v) (now_over js a m.left) (now_over js a m.right) m.solves
    legal_line js a (line.Orient (oriented.Rule u l r)) m = tt
    legal_line js a (line.Decide l) m = tt
    legal_line js a (line.Drop o) m = tt
    legal_line js a (line.Pair u l r) m = tt
    legal_line js a (line.Learn c) m = tt
    legal_line js a (line.TypeInstance k ss) m = tt
    legal_line js a (line.TermInstance f ts) m = tt
    legal_line js a (line.Combine strict f) m = tt
    legal_line js a (line.Back n) m = tt

    -- ---- the lines one after the other
    lines_fit : (before js : List Line) → AllByRecursion IsFit before → AreLegal x bound [] (before ++ js) → AllByRecursion IsFit js
    lines_fit before [] a g = tt
    lines_fit before (j ∷ js) a g =
        let h = legal_line before a j (line_at x bound [] before js j g) in
        (h, lines_fit (before ++ j ∷ []) js (all_push IsFit before j a h) (subst (AreLegal x bound []) (sym (append_assoc before (j ∷ []) js)) g))

    legal_over : (js : List Line) → AreLegal x bound [] js → (t : Term) → IsOverNow (value_now x js t)
    legal_over js g t = now_over js (lines_fit [] js tt g) t

-- ---- the leaf of a name
number_front : (m : ℕ) (ts more : List Term) (n : ℕ) (t : Term) → HasOneName ts → slice_get ts n ≡ Some t → number_from m (ts ++ more) t ≡ Some (m + n)
number_front m [] more n t one e = let z : ⊥ = cc e in absurd z
number_front m (u ∷ us) more zero t one e =
    let same : m ≡ m + 0 = omega arith in
    pick_yes (Term_discrete u t) (Some m) (number_from (suc m) (us ++ more) t) (same_Some u t e) ∙ ap (λ (k : ℕ). Some k) same
number_front m (u ∷ us) more (suc n) t one e =
    let same : suc m + n ≡ m + suc n = omega arith in
    pick_no (Term_discrete u t) (Some m) (number_from (suc m) (us ++ more) t) (λ z. let w : 0 ≡ suc n = one 0 (suc n) t (ap (λ (r : Term). Some r) z) e in absurd (omega (arith, w)))
    ∙ number_front (suc m) us more n t (λ i j r a b. let w : suc i ≡ suc j = one (suc i) (suc j) r a b in omega (arith, w)) e ∙ ap (λ (k : ℕ). Some k) same

leaf_front : (ts more : List Term) (n : ℕ) (t : Term) → HasOneName ts → slice_get ts n ≡ Some t → leaf_of (ts ++ more) t ≡ n
leaf_front ts more n t one e =
    let same : 0 + n ≡ n = omega arith in
    ap (λ (o : Option ℕ). or_else o (length (ts ++ more) + term_number t)) (number_front 0 ts more n t one e) ∙ same

-- ---- a number that is its own value
module _ (x : Setting) (bound : ℕ) (js : List Line) (y : System) (more : List Term) (legal : AreLegal x bound [] js) (names : x.names ≡ y.names ++ more) (one : HasOneName y.names) (now : AreNow x js y) where
  its_factor : (n : ℕ) → leaf_factor (single n).parts n ≡ one_ℚ
  its_factor n = factor_same n one_ℚ [] ∙ add_zero_q one_ℚ

  leaf_there : (sort : Sort) (n : ℕ) (t : Term) → IsOwnNumber x.problem.signature y sort n → slice_get y.names n ≡ Some t → one_ℚ ≢ zero_ℚ → IsLeafOf x.problem.signature x.names n
  leaf_there sort n t o e some =
      let value : value_now x js t ≡ val_of (form_of o.value) = now n t (Number o.value) e o.value_is ∙ number_means o.value in
      let over = subst (IsOver x.problem.signature x.names) value (legal_over x bound js legal t) in
      factor_there (IsLeafOf x.problem.signature x.names) (settled (form_of o.value).parts) over n
      (λ z. some (sym (its_factor n) ∙ sym ((o.own).factors n) ∙ sym (factor-settled (form_of o.value).parts n) ∙ z))

  pub opaque : (sort : Sort) (n : ℕ) (t : Term) → IsOwnNumber x.problem.signature y sort n → slice_get y.names n ≡ Some t → one_ℚ ≢ zero_ℚ → IsOpaque t
  opaque sort n t o e some =
      let l = leaf_there sort n t o e some in
      let own : leaf_of x.names t ≡ n = ap (λ (ns : List Term). leaf_of ns t) names ∙ leaf_front y.names more n t one e in
      subst IsOpaque (one_leaf x.names l.0 t (l.1 ∙ sym own)) l.2

one_not_zero : one_ℚ ≢ zero_ℚ
one_not_zero e =
    let positive : pos 0 <ℤ pos 1 = omega (arith, ints) in
    let z : pos 1 ≡ pos 0 = ratio_is_zero (pos 1) (pos 1) positive (sym one_whole ∙ e) in
    cc z

pub opaque_numbers_are_leaves : OpaqueNumbersAreLeaves
opaque_numbers_are_leaves x bound js y more legal names one now sort n t o e = opaque x bound js y more legal names one now sort n t o e one_not_zero
