-- The line that says a rounded row, after the one that says the form that it had.
use Rattle.std.specs.Prelude.{ℕ, suc, pos, ◌+◌, ◌≡◌, Bool, false, List, [], ◌∷◌, ◌++◌, length, Option, Some, None}
use Rattle.std.proofs.Common.{arith, refl, sym, ap, ◌∙◌, subst, length-append}
use Rattle.ae_base.proofs.AllOf.{all_push}
use Rattle.ae_core.specs.declared.terms.Term.{Term}
use Rattle.ae_core.specs.declared.terms.Sort.{Int}
use Rattle.ae_core.specs.declared.problems.Signature.{Signature}
use Rattle.ae_core.specs.declared.proofs.EqLine.{EqLine}
use Rattle.ae_core.specs.declared.proofs.Deriv.{Deriv}
use Rattle.ae_num.specs.declared.forms.Lin.{Lin}
use Rattle.ae_num.specs.Forms.{meaning, IsNormal}
use Rattle.ae_rules.specs.Lines.{Stated, AllowedRound, AllAllowed, fact_ok, HaveSort}
use Rattle.ae_rules.proofs.Written.{all_append, stated_before, stated_last}
use Rattle.ae_rounding.specs.Laws.{AreOpaque}
use Rattle.ae_rounding.proofs.Lines.{rounds}
use Rattle.ae_rounding.proofs.Whole.{divided_keys}
use Rattle.ae_row_lines.specs.Says.{Says}
use Rattle.ae_store.specs.Terms.{named}
use Rattle.ae_just.specs.Sides.{whole}
use Rattle.ae_state_steps.specs.ValueSteps.{sort_for, IsNumberName}
use Rattle.ae_bounds.specs.declared.rows.Row.{Row}
use Rattle.ae_bounds.specs.declared.rows.Unrounded.{Unrounded}
use Rattle.ae_bounds.specs.Rounding.{WasRounded}
use Rattle.ae_bound_blocks.specs.Said.{kept, was_of, was, sum_term, row_fact, round_line, AreBuilt, AreNumbersOf, HasNumbers, IsBuiltLine}
use Rattle.ae_bound_blocks.specs.Inner.Emitting.{IsSaid, IsSaidAfter}
use Rattle.ae_bound_blocks.proofs.Building.{round_built}
use Rattle.ae_bound_blocks.proofs.Saying.{says_row}
use Rattle.ae_bound_blocks.proofs.Sorting.{row_sorted, row_good}

-- a row that was rounded
module _ (sig : Signature) (ts : List Term) (real : Bool) (r : Row) (u : Unrounded) (of : WasRounded u r) (whole_sort : real ≡ false) (opaque : AreOpaque (named ts) u.lin) (numbers : AreNumbersOf sig ts real u.lin) where
  pub numbers_kept : AreNumbersOf sig ts real r.lin
  numbers_kept = divided_keys (λ k. IsNumberName sig ts real k) of.is.divisor u.lin.parts r.lin.parts of.is.divided numbers

  says_kept : Says (named ts) (pos 1) (meaning r.lin) (row_fact ts real false r.lin)
  says_kept = subst (λ d. Says (named ts) d (meaning r.lin) (row_fact ts real false r.lin)) of.is.whole (says_row ts real false r.lin of.row_normal)

  in_int : (strict : Bool) (l : Lin) → IsNormal l → AreNumbersOf sig ts real l → HaveSort sig Int (row_fact ts real strict l)
  in_int strict l n a = subst (λ s. HaveSort sig s (row_fact ts real strict l)) (ap sort_for whole_sort) (row_sorted sig ts real strict l n a)

  allowed : (earlier : List EqLine) (k : ℕ) → Stated earlier k (row_fact ts real u.strict u.lin) → AllowedRound sig earlier (whole real (pos 0)) (sum_term ts real r.lin) k
  allowed earlier k stated = (
    row_fact ts real u.strict u.lin,
    stated,
    rounds (named ts) u.strict u.lin r.lin (row_fact ts real u.strict u.lin) (whole real (pos 0)) (sum_term ts real r.lin) of.normal of.row_normal of.is opaque (says_row ts real u.strict u.lin of.normal) says_kept sig of.names refl
        (in_int u.strict u.lin of.normal numbers) (in_int false r.lin of.row_normal numbers_kept),
  )

  last_said : HasNumbers sig ts real → (lines : List EqLine) (k j : ℕ) → suc j ≡ length (lines ++ round_line ts real r.lin k ∷ []) → IsSaid sig ts real (lines ++ round_line ts real r.lin k ∷ []) j (kept r)
  last_said some lines k j e =
      let n = length-append lines (round_line ts real r.lin k ∷ []) in
      let s : length lines + 0 ≡ j = omega (arith, e, n) in
      let f : Stated (lines ++ round_line ts real r.lin k ∷ []) j (row_fact ts real false r.lin) =
      subst (λ i. Stated (lines ++ round_line ts real r.lin k ∷ []) i (row_fact ts real false r.lin)) s (stated_last lines (round_line ts real r.lin k)) in
      record { stated = subst (λ b. Stated (lines ++ round_line ts real r.lin k ∷ []) j (row_fact ts real b r.lin)) (sym of.loose) f; numbers = numbers_kept; integers = some }

  pub rounded_after : (old new : Deriv) (k : ℕ) → AllAllowed sig (fact_ok sig) old.hyps [] old.lines → IsSaid sig ts real old.lines k u → new.hyps ≡ old.hyps → new.lines ≡ old.lines ++ round_line ts real r.lin k ∷ []
      → IsSaidAfter sig ts real old new (kept r)
  rounded_after old new k all said hyps lines = record {
    allowed = subst (λ hs. AllAllowed sig (fact_ok sig) hs [] new.lines) (sym hyps)
        (subst (AllAllowed sig (fact_ok sig) old.hyps []) (sym lines)
        (all_append sig (fact_ok sig) old.hyps [] old.lines (round_line ts real r.lin k ∷ []) all ((row_good sig ts real false r.lin of.row_normal numbers_kept, allowed old.lines k said.stated), tt)));
    before = λ j f s. subst (λ ls. Stated ls j f) (sym lines) (stated_before old.lines (round_line ts real r.lin k ∷ []) j f s);
    some = (let n : length new.lines ≡ length (old.lines ++ round_line ts real r.lin k ∷ []) = ap length lines in let m = length-append old.lines (round_line ts real r.lin k ∷ []) in omega (arith, n, m));
    last = λ j e. subst (λ ls. IsSaid sig ts real ls j (kept r)) (sym lines) (last_said said.integers old.lines k j (e ∙ ap length lines));
    built = λ o. subst (AreBuilt sig ts) (sym lines) (all_push (IsBuiltLine sig ts) old.lines (round_line ts real r.lin k) o (round_built sig ts real said.integers r.lin of.row_normal numbers_kept k));
  }

-- ---- one after the other
pub said_on : (sig : Signature) (ts : List Term) (real : Bool) (a b c : Deriv) (u v : Unrounded) → IsSaidAfter sig ts real a b u → IsSaidAfter sig ts real b c v → IsSaidAfter sig ts real a c v
said_on sig ts real a b c u v s t = record { allowed = t.allowed; before = λ k f h. t.before k f (s.before k f h); some = t.some; last = t.last; built = λ o. t.built (s.built o) }

pub said_here : (sig : Signature) (ts : List Term) (real : Bool) (a b : Deriv) (u : Unrounded) → IsSaidAfter sig ts real a b u → IsSaidAfter sig ts real b b u
said_here sig ts real a b u s = record { allowed = s.allowed; before = λ k f h. h; some = s.some; last = s.last; built = λ o. o }

-- a row that wasn't rounded is as it was
pub was_kept : (r : Row) → r.unrounded ≡ None → was r ≡ kept r
was_kept r e = ap (λ (o : Option Unrounded). was_of o (kept r)) e

pub was_some : (r : Row) (u : Unrounded) → r.unrounded ≡ Some u → was r ≡ u
was_some r u e = ap (λ (o : Option Unrounded). was_of o (kept r)) e
