use Rattle.std.specs.Prelude.{ℕ, false, ◌+◌, length, take, List, Bool, IfOk}
use Rattle.std.proofs.Common.{arith, sym, ap, subst, ◌∙◌}
use Rattle.std.proofs.lemmas.List.{length-take-le}
use Rattle.std.proofs.lemmas.Option.{slice_get_within}
use Rattle.std.proofs.lemmas.Result.{IfOk-weaker}
use Rattle.ae_bound_blocks.specs.Tight.{AreTight}
use Rattle.ae_bound_blocks.specs.Inner.Listed.{AreListed}
use Rattle.ae_bound_blocks.proofs.Marking.{parents_earlier, founded_first, marks_long}
use Rattle.ae_bound_blocks.proofs.TightSums.{tight_rows}
use Rattle.ae_bound_blocks.proofs.tight.tight.Goals as goal

pub slice_bounds-first-end : goal.slice_bounds-first-end
slice_bounds-first-end c =
    let l = slice_get_within c.args.rows.now c.args.place c.requires.tight.row c.requires.tight.at in
    let n = length-take-le (c.args.place + 1) c.args.rows.now (omega (arith, l)) in
    omega (arith, l, n)

pub ancestors-requires-clause-earlier : goal.ancestors-requires-clause-earlier
ancestors-requires-clause-earlier c = parents_earlier false (take (c.args.place + 1) c.args.rows.now) (founded_first (c.args.place + 1) c.args.rows.now c.requires.founded)

pub ancestors-requires-clause-some : goal.ancestors-requires-clause-some
ancestors-requires-clause-some c =
    let l = slice_get_within c.args.rows.now c.args.place c.requires.tight.row c.requires.tight.at in
    let n = length-take-le (c.args.place + 1) c.args.rows.now (omega (arith, l)) in
    omega (arith, n)

pub listed-requires : goal.listed-requires
listed-requires c =
    let l = slice_get_within c.args.rows.now c.args.place c.requires.tight.row c.requires.tight.at in
    let n = length-take-le (c.args.place + 1) c.args.rows.now (omega (arith, l)) in
    record {
      size = ap length c.deref.ensures.value ∙ marks_long false c.args.rows.now c.args.place l c.requires.founded c.in_ok-marks.marks.items c.in_ok-marks.ensures ∙ sym n;
    }

pub returns : goal.returns
returns c =
    IfOk-weaker c.listed.result (λ (numbers : List ℕ). AreListed (take (c.args.place + 1) c.args.rows.now) c.in_ok-marks.marks.items (length (take (c.args.place + 1) c.args.rows.now)) numbers) (λ (numbers : List ℕ). AreTight c.args.rows.now numbers)
    (λ numbers a. tight_rows c.args.rows.now c.args.place c.requires.founded c.requires.tight c.in_ok-marks.marks.items numbers c.in_ok-marks.ensures a)
    (subst (λ (ms : List Bool). IfOk c.listed.result (λ (numbers : List ℕ). AreListed (take (c.args.place + 1) c.args.rows.now) ms (length (take (c.args.place + 1) c.args.rows.now)) numbers)) c.deref.ensures.value c.listed.ensures)
