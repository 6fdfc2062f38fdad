use Rattle.std.specs.Prelude.{List, length, slice_get, Some}
use Rattle.std.proofs.Common.{refl, ap, ◌∙◌, sym}
use Rattle.std.proofs.lemmas.Option.{slice_get_read, slice_get_past}
use Rattle.ae_core.specs.declared.problems.TypeEntry.{TypeEntry}
use Rattle.ae_core.specs.declared.problems.Kind.TheVariants.{Abstract, Choices, Fields}
use Rattle.ae_patterns.proofs.PatternLaws.{count_here, count_nowhere}
use Rattle.ae_patterns.proofs.patterns.field_count.Goals as goal

pub returns-in-None : goal.returns-in-None
returns-in-None c =
    let xs = c.as_slice.result.now in
    count_nowhere c.args.signature.now c.args.of (ap (λ (l : List TypeEntry). slice_get l c.args.of) (sym c.as_slice.ensures) ∙ slice_get_past xs c.args.of c.in-None.ensures.lookup.3)

pub returns-in-Abstract : goal.returns-in-Abstract
returns-in-Abstract c =
    let xs = c.as_slice.result.now in
    let e = c.in-Some.entry.now in
    count_here c.args.signature.now c.args.of e Abstract (ap (λ (l : List TypeEntry). slice_get l c.args.of) (sym c.as_slice.ensures) ∙ slice_get_read xs (length xs) c.args.of e refl c.in-Some.ensures.lookup.3.0 c.in-Some.ensures.lookup.1) c.in-Abstract.is

pub returns-in-Choices : goal.returns-in-Choices
returns-in-Choices c =
    let xs = c.as_slice.result.now in
    let e = c.in-Some.entry.now in
    count_here c.args.signature.now c.args.of e (Choices c.in-Choices.field-0) (ap (λ (l : List TypeEntry). slice_get l c.args.of) (sym c.as_slice.ensures) ∙ slice_get_read xs (length xs) c.args.of e refl c.in-Some.ensures.lookup.3.0 c.in-Some.ensures.lookup.1) c.in-Choices.is

pub returns-in-Fields : goal.returns-in-Fields
returns-in-Fields c =
    let xs = c.as_slice.result.now in
    let e = c.in-Some.entry.now in
    ap Some c.len.ensures ∙
    count_here c.args.signature.now c.args.of e (Fields c.in-Fields.fields) (ap (λ (l : List TypeEntry). slice_get l c.args.of) (sym c.as_slice.ensures) ∙ slice_get_read xs (length xs) c.args.of e refl c.in-Some.ensures.lookup.3.0 c.in-Some.ensures.lookup.1) c.in-Fields.is
