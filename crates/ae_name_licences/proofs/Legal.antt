-- The lines that solve an equation of two names are legal.
use Rattle.std.specs.Prelude.{ℕ, ◌<◌, ◌≤◌, List, ◌≡◌, ◌≢◌, length, slice_get, Some}
use Rattle.std.specs.List.{AllByRecursion}
use Rattle.std.proofs.Common.{sym, ap, ◌∙◌, subst, arith, inl, inr, length-append}
use Rattle.std.proofs.lemmas.Bool.{cases_lt}
use Rattle.std.proofs.lemmas.Option.{slice_get_within}
use native.Mathlib.Decide.{ℕ_discrete}
use Rattle.ae_base.proofs.AllOf.{all_weaker}
use Rattle.ae_math.specs.Fractions.{zero_ℚ, one_ℚ, neg_ℚ, ◌+ℚ◌, ◌*ℚ◌}
use Rattle.ae_math.specs.Forms.{Form, number as number_form, factor, minus, substitute}
use Rattle.ae_math.proofs.FractionLaws.{zero_add_q, mul_zero_q}
use Rattle.ae_math.proofs.FormLaws.{minus_factor, minus_self}
use Rattle.ae_core.specs.declared.terms.Term.{Term}
use Rattle.ae_num.specs.Forms.{meaning as form_of, IsNormal}
use Rattle.ae_num.specs.declared.forms.Lin.{Lin}
use Rattle.ae_num.specs.declared.forms.Part.{Part}
use Rattle.ae_num.specs.declared.forms.Value.{Leaf, Number}
use Rattle.ae_num.specs.declared.forms.Value.TheOpen as layer
use Rattle.ae_num.specs.declared.forms.Value.TheVariants.{rolls-Leaf}
use Rattle.ae_journal.specs.Values.{Val, leaf, leaf_factor, minus_val, sum_in, settled, constant_val}
use Rattle.ae_journal.specs.Systems.{IsName, IsNormalValue, forms_in}
use Rattle.ae_journal.specs.SolverLines.{Solves, MayOrientName}
use Rattle.ae_journal.specs.SolverLines.Solves.{a_number, a_leaf, other_leaf}
use Rattle.ae_journal.specs.Standing.{Setting, value_now}
use Rattle.ae_journal.specs.TermValues.{put_leaf, IsLargest}
use Rattle.ae_journal.specs.declared.lines.Line.{Line}
use Rattle.ae_journal.specs.declared.systems.System.{System}
use Rattle.ae_decide.proofs.NormalValues.{forms-roll}
use Rattle.ae_evaluation.proofs.Exact.{forms-Number}
use Rattle.ae_evaluation.proofs.Sums.{factor-settled}
use Rattle.ae_linear.specs.Solving.{SolvesFor}
use Rattle.ae_settled.specs.Valued.{IsOwnNumber}
use Rattle.ae_name_lines.proofs.Spelled.{val_of, same_val, difference_val, put_val}
use Rattle.ae_name_lines.proofs.Written.{leaf_means, number_means}
use Rattle.ae_name_lines.proofs.Putting.{no_factor, number_over}
use Rattle.ae_name_licences.specs.Joining.{IsInStepWith, MayJoin}
use Rattle.ae_name_licences.specs.Laws.{SolvedNumbersAreLegal, SolvedLeavesAreLegal, TurnedLeavesAreLegal}
use Rattle.ae_name_licences.proofs.Now.{value_is, number_is}
use Rattle.ae_name_licences.proofs.Solved.{own_factor, none_above, none_there, solved_away}

normal_leaf : (n : ℕ) → IsNormalValue (Leaf n)
normal_leaf n = subst (AllByRecursion IsNormal) (sym (ap forms_in (sym (rolls-Leaf n)) ∙ forms-roll (layer.Leaf n))) tt

-- ---- the difference of two numbers
-- its factors
pub difference_factor : (f g : Form ℕ) (k : ℕ) → leaf_factor (sum_in (minus_val (val_of f) (val_of g))).parts k ≡ factor ℕ_discrete (minus f g) k
difference_factor f g k = ap (λ (v : Val). leaf_factor (sum_in v).parts k) (difference_val f g) ∙ factor-settled (minus f g).parts k

none_minus_none : (f g : Form ℕ) (k : ℕ) → factor ℕ_discrete f k ≡ zero_ℚ → factor ℕ_discrete g k ≡ zero_ℚ → factor ℕ_discrete (minus f g) k ≡ zero_ℚ
none_minus_none f g k p q =
    minus_factor ℕ_discrete f g k ∙ (λ i. p i +ℚ neg_ℚ one_ℚ *ℚ q i) ∙ zero_add_q (neg_ℚ one_ℚ *ℚ zero_ℚ) ∙ mul_zero_q (neg_ℚ one_ℚ)

module _ (x : Setting) (js : List Line) (y : System) (now : IsInStepWith x js y) where
  -- a number is over names of the system
  over_names : (n : ℕ) (t : Term) (f : Lin) (k : ℕ) → IsName y n t → slice_get y.values n ≡ Some (Number f) → length y.names ≤ k → factor ℕ_discrete (form_of f) k ≡ zero_ℚ
  over_names n t f k e a l =
      let o = number_over x.problem.signature y now.closed now.values n t f e a in
      no_factor f.den k f.parts
      (all_weaker (λ (p : Part). IsOwnNumber x.problem.signature y o.0 p.key) (λ (p : Part). p.key ≢ k) (λ p h z. let w = slice_get_within y.names p.key h.term h.is in omega (arith, w, z, l)) f.parts o.1)

  -- the largest name of the difference of two names' values
  module _ (f g : Lin) (j : MayJoin x js y (Number f) (Number g)) (name : ℕ) (some : factor ℕ_discrete (minus (form_of f) (form_of g)) name ≢ zero_ℚ)
      (above : (k : ℕ) → name < k → factor ℕ_discrete (minus (form_of f) (form_of g)) k ≡ zero_ℚ) where
    named : name < length x.names
    named = elim (cases_lt name (length y.names)) [
      | inl l ↦ let a = ap length now.names ∙ length-append y.names now.more in omega (arith, a, l)
      | inr l ↦ absurd (some (none_minus_none (form_of f) (form_of g) name (over_names j.first j.left f name j.first_is j.first_value l) (over_names j.second j.right g name j.second_is j.second_value l)))
    ]

    pub named_largest : IsLargest x.names name (sum_in (minus_val (val_of (form_of f)) (val_of (form_of g))))
    named_largest = (
      named,
      λ e. some (sym (difference_factor (form_of f) (form_of g) name) ∙ e),
      λ m l. difference_factor (form_of f) (form_of g) m ∙ above m l,
    )

  module _ (f g : Lin) (j : MayJoin x js y (Number f) (Number g)) (name : ℕ) (q : Lin) (s : SolvesFor (minus (form_of f) (form_of g)) name q) where
    has_factor : factor ℕ_discrete (minus (form_of f) (form_of g)) name ≢ zero_ℚ
    has_factor e = s.nonzero (sym (own_factor (minus (form_of f) (form_of g)) name q s) ∙ e)

    gone : put_leaf name (val_of (form_of q)) (minus_val (val_of (form_of f)) (val_of (form_of g))) ≡ constant_val zero_ℚ
    gone =
        ap (put_leaf name (val_of (form_of q))) (difference_val (form_of f) (form_of g)) ∙ put_val name (form_of q) (minus (form_of f) (form_of g))
        ∙ same_val (substitute ℕ_discrete (minus (form_of f) (form_of g)) name (form_of q)) (number_form zero_ℚ) (solved_away (minus (form_of f) (form_of g)) name q s)

    solves : Solves x name (val_of (form_of q)) (val_of (form_of f)) (val_of (form_of g))
    solves =
        a_number name (record { parts = settled (form_of q).parts; constant = (form_of q).constant }) (val_of (form_of f)) (val_of (form_of g))
        (named_largest f g j name has_factor (none_above (minus (form_of f) (form_of g)) name q s))
        (factor-settled (form_of q).parts name ∙ none_there (minus (form_of f) (form_of g)) name q s) gone

    left_is : value_now x js j.left ≡ val_of (form_of f)
    left_is = number_is x js y now j.first j.left f j.first_is j.first_value

    right_is : value_now x js j.right ≡ val_of (form_of g)
    right_is = number_is x js y now j.second j.right g j.second_is j.second_value

    differ : value_now x js j.left ≢ value_now x js j.right
    differ e =
        has_factor
        (sym (difference_factor (form_of f) (form_of g) name)
        ∙ ap (λ (v : Val). leaf_factor (sum_in (minus_val v (val_of (form_of g)))).parts name) (sym left_is ∙ e ∙ right_is)
        ∙ difference_factor (form_of g) (form_of g) name ∙ (minus_self ℕ_discrete (form_of g)).factors name)

    number_line : MayOrientName x js name (Number q)
    number_line = record {
      left = j.left;
      right = j.right;
      entered = (now.entered j.first j.left j.first_is, now.entered j.second j.right j.second_is);
      differ = differ;
      follows = j.follows;
      normal = subst (AllByRecursion IsNormal) (sym (forms-Number q)) (s.normal, tt);
      solves = subst (λ (p : Val × Val × Val). Solves x name p.0 p.1 p.2) (λ i. (sym (number_means q) i, sym left_is i, sym right_is i)) solves;
    }

  -- ---- two leaves
  leaf_is : (n : ℕ) (t : Term) (k : ℕ) → IsName y n t → slice_get y.values n ≡ Some (Leaf k) → value_now x js t ≡ leaf k
  leaf_is n t k e a = value_is x js y now n t (Leaf k) e a ∙ leaf_means k

  leaf_line : (m n a b : ℕ) (j : MayJoin x js y (Leaf a) (Leaf b)) → a ≢ b → Solves x n (leaf m) (leaf a) (leaf b) → MayOrientName x js n (Leaf m)
  leaf_line m n a b j d s =
      let p = leaf_is j.first j.left a j.first_is j.first_value in
      let q = leaf_is j.second j.right b j.second_is j.second_value in
      record {
        left = j.left;
        right = j.right;
        entered = (now.entered j.first j.left j.first_is, now.entered j.second j.right j.second_is);
        differ = λ e. let z : ◌≡◌ {A = Val} (leaf a) (leaf b) = sym p ∙ e ∙ q in let w : a ≡ b = cc z in d w;
        follows = j.follows;
        normal = normal_leaf m;
        solves = subst (λ (r : Val × Val × Val). Solves x n r.0 r.1 r.2) (λ i. (sym (leaf_means m) i, sym p i, sym q i)) s;
      }

pub solved_numbers_are_legal : SolvedNumbersAreLegal
solved_numbers_are_legal x js y f g name q now j s = number_line x js y now f g j name q s

pub solved_leaves_are_legal : SolvedLeavesAreLegal
solved_leaves_are_legal x js y m n now l j = leaf_line x js y now m n m n j (λ e. omega (arith, e, l)) (a_leaf m n l)

pub turned_leaves_are_legal : TurnedLeavesAreLegal
turned_leaves_are_legal x js y m n now l j = leaf_line x js y now m n n m j (λ e. omega (arith, e, l)) (other_leaf m n l)
