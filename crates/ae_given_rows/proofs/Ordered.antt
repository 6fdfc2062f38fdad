-- The lines of the literal, of the lower name's value and of the upper one's, in this order, with the line that adds them up.
use Rattle.std.specs.Prelude.{ℕ, suc, ℤ, ◌+◌, ◌*ℤ◌, ◌≡◌, Bool, true, false, List, [], ◌∷◌, ◌++◌, length, slice_get, Some}
use Rattle.std.specs.List.{AllByRecursion, Contains}
use Rattle.std.proofs.Common.{arith, sym, ap, ◌∙◌, subst}
use Rattle.ae_base.proofs.AllOf.{all_weaker}
use Rattle.ae_base.specs.Options.{◌>>=◌}
use Rattle.ae_math.specs.Forms.{minus}
use Rattle.ae_core.specs.declared.terms.Term.{Term}
use Rattle.ae_core.specs.declared.formulas.Lit.{Lit}
use Rattle.ae_core.specs.declared.problems.Signature.{Signature}
use Rattle.ae_core.specs.declared.proofs.EqLine.{EqLine}
use Rattle.ae_core.specs.declared.proofs.Deriv.{Deriv}
use Rattle.ae_num.specs.declared.forms.Lin.{Lin}
use Rattle.ae_num.specs.Forms.{meaning, SameMeaning, IsNormal}
use Rattle.ae_num.specs.Limits.{FitsLimits}
use Rattle.ae_rules.specs.Built.{HasFactorsWithin, IsBuiltEquation, of_name}
use Rattle.ae_rules.specs.Lines.{Fact, Stated, AllAllowed, fact_ok, states}
use Rattle.ae_bound_blocks.specs.declared.given.Given.{Given}
use Rattle.ae_bound_blocks.specs.Said.{row_line, AreBuilt, IsBuiltLine, IsGiven}
use Rattle.ae_bound_blocks.proofs.Building.{built_joined, factors_in}
use Rattle.ae_bound_blocks.proofs.Sorting.{name_within}
use Rattle.ae_store.specs.Terms.{named}
use Rattle.ae_state_steps.specs.ValueSteps.{IsNumberName}
use Rattle.ae_store.proofs.StoreLaws.{name_term}
use Rattle.ae_base.proofs.ListFacts.{value_at}
use Rattle.ae_journal.proofs.Splits.{contains_at}
use Rattle.ae_given_rows.specs.Sides.{IsBetween, IsTold}
use Rattle.ae_given_rows.specs.Inner.Lines.{hyp_line, parts_between}
use Rattle.ae_given_rows.proofs.RowLines.{hyp_fact, row_given, value_fact}
use Rattle.ae_given_rows.proofs.Literals.{hyp_states, literal_allowed}

-- c has the lines of a and then those of b
pub record IsJoined (a b c : Deriv) : Type 0 where
  pub lines : length c.lines ≡ length a.lines + length b.lines
  pub before : (k : ℕ) (f : Fact) → Stated a.lines k f → Stated c.lines k f
  pub after : (k : ℕ) (f : Fact) → Stated b.lines k f → Stated c.lines (length a.lines + k) f
  pub factors : AllByRecursion HasFactorsWithin a.lines → AllByRecursion HasFactorsWithin b.lines → AllByRecursion HasFactorsWithin c.lines
  pub allowed : (sig : Signature) → AllAllowed sig (fact_ok sig) a.hyps [] a.lines → AllAllowed sig (fact_ok sig) b.hyps [] b.lines → AllAllowed sig (fact_ok sig) c.hyps [] c.lines

-- the last line of those behind others
last_is : (m n last line : ℕ) → n ≡ suc last → suc line ≡ m + n → m + last ≡ line
last_is m n last line e f = omega (arith, e, f)

-- lines one after the other, each between terms that are built of the names
built_both : (sig : Signature) (ts : List Term) (a b c : Deriv) → IsJoined a b c → AreBuilt sig ts a.lines → AreBuilt sig ts b.lines → AreBuilt sig ts c.lines
built_both sig ts a b c j first second = built_joined sig ts a.lines b.lines c.lines j.lines j.before j.after (j.factors (factors_in sig ts a.lines first) (factors_in sig ts b.lines second)) first second

equations_built : (sig : Signature) (ts : List Term) (ls : List EqLine) → AllByRecursion (IsBuiltEquation sig ts) ls → AreBuilt sig ts ls
equations_built sig ts ls a = all_weaker (IsBuiltEquation sig ts) (IsBuiltLine sig ts) (λ l b. record { left = b.left; right = b.right; factors = b.factors }) ls a

hyp_built : (sig : Signature) (ts : List Term) (strict : Bool) (upper lower : ℕ) → Contains ts (named ts upper) → Contains ts (named ts lower) → IsBuiltLine sig ts (hyp_line ts strict upper lower)
hyp_built sig ts true upper lower u w = record { left = of_name (named ts lower) w; right = of_name (named ts upper) u; factors = tt }
hyp_built sig ts false upper lower u w = record { left = of_name (named ts lower) w; right = of_name (named ts upper) u; factors = tt }

module _ (sig : Signature) (ts : List Term) (real strict : Bool) (l : Lit) (form v w : Lin) (upper lower : ℕ) (up low : Deriv) (between : IsBetween ts l strict upper lower) (above : IsTold sig ts real upper v up)
    (below : IsTold sig ts real lower w low) (normal : IsNormal form) (same : SameMeaning (meaning form) (minus (meaning v) (meaning w))) (fits : FitsLimits (w.den *ℤ v.den)) where
  named_there : (n : ℕ) → IsNumberName sig ts real n → Contains ts (named ts n)
  named_there n h = let t = value_at ts n (name_within sig ts real n h) in subst (Contains ts) (sym (name_term ts n t.0 t.1)) (contains_at ts n t.0 t.1)

  pub three : (first second third : Deriv) → first.hyps ≡ l ∷ [] → first.lines ≡ hyp_line ts strict upper lower ∷ [] → IsJoined first low second → IsJoined second up third
      → (below_line above_line : ℕ) → suc below_line ≡ length second.lines → suc above_line ≡ length third.lines → (d : ℤ) → d *ℤ form.den ≡ w.den *ℤ v.den → (g : Given) → g.deriv.hyps ≡ third.hyps
      → g.deriv.lines ≡ third.lines ++ row_line ts real strict form d (parts_between w.den v.den below_line above_line) ∷ [] → g.multiple ≡ form.den → IsGiven sig ts real (record { lin = form; strict = strict }) g
  three first second third hyps lines one two below_line above_line b a d times g h all m =
      let literal : Stated first.lines 0 (hyp_fact ts strict upper lower) =
      ap (λ (ls : List EqLine). slice_get ls 0 >>= λ x. Some (states x)) lines ∙ ap (λ (f : Fact). Some f) (hyp_states ts strict upper lower) in
      let low_is : length first.lines + below.last ≡ below_line = last_is (length first.lines) (length low.lines) below.last below_line below.long (b ∙ one.lines) in
      let up_is : length second.lines + above.last ≡ above_line = last_is (length second.lines) (length up.lines) above.last above_line above.long (a ∙ two.lines) in
      let low_said = two.before below_line (value_fact ts real lower w) (subst (λ (k : ℕ). Stated second.lines k (value_fact ts real lower w)) low_is (one.after below.last (value_fact ts real lower w) below.says)) in
      let up_said = subst (λ (k : ℕ). Stated third.lines k (value_fact ts real upper v)) up_is (two.after above.last (value_fact ts real upper v) above.says) in
      let hyp = two.before 0 _ (one.before 0 _ literal) in
      let good = literal_allowed sig ts real strict l upper lower between above.written.name below.written.name first.hyps first.lines hyps lines in
      let here : AreBuilt sig ts first.lines = subst (AreBuilt sig ts) (sym lines) (hyp_built sig ts strict upper lower (named_there upper above.written.name) (named_there lower below.written.name), tt) in
      let built = built_both sig ts second up third two (built_both sig ts first low second one here (equations_built sig ts low.lines below.built)) (equations_built sig ts up.lines above.built) in
      row_given sig ts real form v w upper lower normal above.written below.written same d times third.hyps third.lines below_line above_line low_said up_said fits built strict g hyp
      (two.allowed sig (one.allowed sig good below.allowed) above.allowed) h all m
