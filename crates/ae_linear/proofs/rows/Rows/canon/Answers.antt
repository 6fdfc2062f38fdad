use Rattle.std.specs.Prelude.{ℕ, ◌+◌, ◌≡◌, pos, Option, Some, None, IfSome, IfNone}
use Rattle.std.proofs.Common.{sym, subst, arith}
use Rattle.ae_num.specs.declared.forms.Lin.{Lin}
use Rattle.ae_num.specs.declared.forms.Part.{Part}
use Rattle.ae_num.specs.declared.numbers.Wide.{Wide}
use Rattle.ae_num.proofs.StepLaws.{same_err}
use Rattle.ae_linear.specs.Rows.{AreRows, Contents, row_at}
use Rattle.ae_linear.proofs.Canons.{IsCanonizing, canon_none, canon_stays, canon_more, canon_wide, canon_free, canon_follows}
use Rattle.ae_linear.proofs.rows.Rows.canon.Goals.{in-Some, in-None}
use Rattle.ae_linear.proofs.rows.Rows.canon.Goals as goal

abbrev blank : Part
blank = record { key = 0; factor = pos 0 }

rows_of : (now view : Contents) → view ≡ now → AreRows (λ n. row_at view n) → AreRows (λ n. row_at now n)
rows_of now view e are = subst (λ (r : Contents). AreRows (λ n. row_at r n)) e are

some_of : (o : Option Lin) (new : Lin) (P : Lin → Type 0) → o ≡ Some new → IfSome o P → P new
some_of o new P e h = let t : IfSome (Some new) P = subst (λ (x : Option Lin). IfSome x P) e h in t

none_of : (o : Option Lin) (P : Type 0) → o ≡ None → IfNone o P → P
none_of o P e h = let t : IfNone {T = Lin} None P = subst (λ (x : Option Lin). IfNone x P) e h in t

pub loop-part-init : goal.loop-part-init
loop-part-init c = canon_none (λ n. row_at c.args.self.now n) c.args.lin.now c.in_ok-form.form c.as_slice-part-items.result.now c.requires c.as_slice-part-items.ensures c.in_ok-form.ensures

pub loop-part-preserved : goal.loop-part-preserved
loop-part-preserved c =
    let are = rows_of c.args.self.now _ c.self.view_is c.self.invariant.are_rows in
    let rows = λ (n : ℕ). row_at c.args.self.now n in
    let lin = c.args.lin.now in
    let parts = c.as_slice-part-items.result.now in
    let i = c.loop-part.part-index in
    elim c.match-branch-3.branch [
      | in-Some w ↦ subst (λ (form : Lin). IsCanonizing rows lin parts (i + 1) form) (sym w.form-is)
          (canon_more rows are lin parts i blank c.loop-part.form c.loop-part.invariant c.loop-part-test.true w.in-Some.new (some_of c.in_ok-new.field-0 w.in-Some.new _ w.in-Some.is c.in_ok-new.ensures.some))
      | in-None w ↦ subst (λ (form : Lin). IsCanonizing rows lin parts (i + 1) form) (sym w.form-is)
          (canon_stays rows are lin parts i blank c.loop-part.form c.loop-part.invariant c.loop-part-test.true (none_of c.in_ok-new.field-0 _ w.in-None.is c.in_ok-new.ensures.none))
    ]

pub returns-in_err-new-clause-wide : goal.returns-in_err-new-clause-wide
returns-in_err-new-clause-wide c =
    let are = rows_of c.args.self.now _ c.self.view_is c.self.invariant.are_rows in
    same_err c.from_residual-in_err-new.result c.in_err-new.field-0.0 _ _ c.from_residual-in_err-new.ensures.1
    (λ (w : Wide) h. canon_wide (λ n. row_at c.args.self.now n) are c.args.lin.now c.as_slice-part-items.result.now c.loop-part.part-index blank c.loop-part.form c.loop-part.invariant c.loop-part-test.true c.as_slice-part-items.ensures w h)
    c.in_err-new.ensures.wide

pub returns-clause-free : goal.returns-clause-free
returns-clause-free c =
    canon_free (λ n. row_at c.args.self.now n) c.args.lin.now c.as_slice-part-items.result.now c.loop-part.part-index c.loop-part.form c.loop-part.invariant (omega (arith, c.loop-part-test.false))

pub returns-clause-fits : goal.returns-clause-fits
returns-clause-fits c =
    canon_follows (λ n. row_at c.args.self.now n) c.args.lin.now c.as_slice-part-items.result.now c.loop-part.part-index c.loop-part.form c.loop-part.invariant (omega (arith, c.loop-part-test.false)) c.as_slice-part-items.ensures
