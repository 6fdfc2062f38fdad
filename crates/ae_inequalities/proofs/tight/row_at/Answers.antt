use Rattle.std.specs.Prelude.{◌≡◌, Some, slice_get}
use Rattle.std.specs.List.{AllByRecursion, flat_map}
use Rattle.std.proofs.Common.{refl, sym, ap, ◌∙◌, subst}
use Rattle.std.proofs.lemmas.Option.{slice_get-get_or}
use Rattle.ae_math.specs.Forms.{single}
use Rattle.ae_num.specs.declared.forms.Part.{Part}
use Rattle.ae_num.specs.declared.forms.Lin.{Lin}
use Rattle.ae_num.specs.Forms.{meaning}
use Rattle.ae_rules.specs.Linear.{form}
use Rattle.ae_rules.specs.Lines.{states}
use Rattle.ae_row_lines.specs.Says.{Says}
use Rattle.ae_store.specs.Terms.{named}
use Rattle.ae_theory.specs.Names.{terms_in}
use Rattle.ae_bound_blocks.specs.Said.{AreNumbersOf}
use Rattle.ae_bound_solve.proofs.OneSort.{opaque_row}
use Rattle.ae_inequalities.specs.Held.{tags_at}
use Rattle.ae_inequalities.specs.Tight.{IsRowAt}
use Rattle.ae_inequalities.proofs.tight.row_at.Goals as goal

pub returns : goal.returns
returns c =
    let sig = c.args.store.now.signature in
    let ts = terms_in c.args.store.now in
    let q = c.requires in
    let kept = c.index-rows-place.result in
    let at : slice_get c.args.rows.now c.args.place ≡ Some kept = slice_get-get_or c.args.rows.now c.args.place kept q.place ∙ ap Some (sym c.index-rows-place.is) in
    let g = c.in_ok-grounds.grounds in
    let w = c.in_ok-grounds.ensures.said kept at in
    let lin = c.in_ok-lin.ensures in
    subst (IsRowAt c.args.store.now (record { rows = c.args.rows.now; given = c.args.given.now; tags = c.args.tags.now }) c.args.place) (sym c.row_with.ensures) (record {
      kept = kept;
      at = at;
      lin = lin;
      strict = refl;
      integral = refl;
      right = record {
        said = record {
          allowed = w.allowed;
          front = w.front;
          last = w.last;
          lines = w.lines;
          relation = w.relation;
          says = subst (λ (l : Lin). Says (named ts) g.given.multiple (meaning l) (states w.last)) (sym lin) w.says;
          sorted = w.sorted;
          numbers = subst (λ (l : Lin). AreNumbersOf sig ts g.given.real l) (sym lin) w.numbers;
          integers = w.integers;
          fits = w.fits;
          built = w.built;
        };
        whole = c.in_ok-grounds.ensures.sort kept at;
        opaque = λ i.
            subst (λ (l : Lin). AllByRecursion (λ (p : Part). form (named ts p.key) ≡ single (named ts p.key)) l.parts) (sym lin)
            (opaque_row sig ts c.args.rows.now c.args.given.now q.founded q.were_rounded q.given q.opaque c.args.place kept at i);
      };
      used = g.tags;
      exactly = c.in_ok-grounds.ensures.tags;
      hyps = c.in_ok-grounds.ensures.hyps;
      tags = c.in_ok-own.ensures ∙ ap (flat_map (tags_at c.args.tags.now)) c.as_slice.ensures;
    })
