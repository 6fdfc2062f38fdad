use Rattle.std.specs.Prelude.{ℕ, List, ◌≡◌, Ok, Err}
use Rattle.std.specs.List.{AllByRecursion, flat_map}
use Rattle.std.proofs.Common.{sym, ap, subst, ◌∙◌}
use Rattle.std.proofs.lemmas.Result.{err_from_is_err_and}
use Rattle.ae_base.proofs.Results.{on_ok_always}
use Rattle.ae_core.specs.declared.formulas.Lit.{Lit}
use Rattle.ae_core.specs.declared.proofs.Block.{Block}
use Rattle.ae_num.specs.Forms.{IsNormal}
use Rattle.ae_rules.specs.Derivations.{IsContradictory}
use Rattle.ae_bounds.specs.declared.rows.Row.{Row as Kept}
use Rattle.ae_bounds.specs.Rounding.{AreRounded}
use Rattle.ae_bounds.specs.Findings.{AreFounded}
use Rattle.ae_bound_points.specs.Points.{ArePositiveAt}
use Rattle.ae_bound_blocks.specs.declared.given.Given.{Given}
use Rattle.ae_bound_blocks.specs.Ancestors.{hyps_of}
use Rattle.ae_bound_blocks.specs.Said.{AreBuilt}
use Rattle.ae_bound_blocks.specs.Tight.{AreTight}
use Rattle.ae_bound_rest.proofs.Agreed.{agreed_kept}
use Rattle.ae_bound_solve.specs.Given.{AreAllGiven, AreOpaqueNames}
use Rattle.ae_bound_solve.proofs.Extended.{given_on, names_on}
use Rattle.ae_theory.specs.Noting.{IsBlockOf}
use Rattle.ae_theory.specs.Names.{terms_in}
use Rattle.ae_theory.specs.declared.theory.Fail.TheVariants.{Number}
use Rattle.ae_inequalities.specs.Held.{Held, tags_at}
use Rattle.ae_inequalities.specs.Tight.{AreTightRows}
use Rattle.ae_inequalities.proofs.Sources.{opaque_names, joined_tags, state_same}
use Rattle.ae_inequalities.proofs.Legal.{all_legal}
use Rattle.ae_inequalities.proofs.holding.solve_rows.Goals as goal

pub solve_licensed-requires-clause-given : goal.solve_licensed-requires-clause-given
solve_licensed-requires-clause-given c =
    let s = c.args.store.now in
    subst (λ (gs : List Given). AreAllGiven s.signature (terms_in s) c.args.rows.now gs) (sym c.as_slice.ensures) c.requires.fits.given

pub solve_licensed-requires-clause-opaque : goal.solve_licensed-requires-clause-opaque
solve_licensed-requires-clause-opaque c =
    let s = c.args.store.now in
    opaque_names s.signature (terms_in s) c.len-names.ensures.store.sound.one_name c.args.rows.now c.args.given.now c.requires.fits.given c.requires.fits.opaque

pub returns-in_err-answer-clause-licensed : goal.returns-in_err-answer-clause-licensed
returns-in_err-answer-clause-licensed c = λ w x e agreed given.
    let p = err_from_is_err_and c.from_residual.result c.from_residual.ensures.1 in
    let failed : c.in_err-answer.field-0.0 ≡ Number w = (let a = p.1 in let b = p.2 in cc) in
    c.in_err-answer.ensures.licensed w x (ap Err failed) agreed given

pub returns-in_err-answer-clause-legal : goal.returns-in_err-answer-clause-legal
returns-in_err-answer-clause-legal c = λ x bound a.
    let e = c.solve_licensed.ensures.extended in
    all_legal x bound c.args.rows.now c.solve_licensed.new.bounds c.args.journal.now.lines e.0 c.solve_licensed.new.journal.lines a e.1 e.2

pub returns-in_err-answer-clause-fits : goal.returns-in_err-answer-clause-fits
returns-in_err-answer-clause-fits c =
    let s = c.args.store.now in
    let e = c.solve_licensed.ensures.extended in
    record {
      given = given_on c.args.rows.now c.args.journal.now.lines c.solve_licensed.new.bounds e.0 e.1 s.signature (terms_in s) c.args.given.now c.requires.fits.given;
      opaque = (names_on c.args.rows.now c.args.journal.now.lines c.solve_licensed.new.bounds e.0 e.1 (terms_in s)
          (opaque_names s.signature (terms_in s) c.len-names.ensures.store.sound.one_name c.args.rows.now c.args.given.now c.requires.fits.given c.requires.fits.opaque)).opaque;
    }

pub returns-clause-point : goal.returns-clause-point
returns-clause-point c = λ made e.
    let a = c.answered.ensures.point made e in
    subst (λ v. ArePositiveAt v c.solve_licensed.new.bounds) (sym a.2) (c.in_ok-answer.ensures.point a.0 (ap Ok a.1))

pub returns-clause-stand : goal.returns-clause-stand
returns-clause-stand c = λ made e.
    let a = c.answered.ensures.stand made e in
    a.2 (c.in_ok-answer.ensures.numbers a.0 (ap Ok a.1))

pub returns-clause-contradictory : goal.returns-clause-contradictory
returns-clause-contradictory c = λ e h.
    let a = c.answered.ensures.contradiction e h in
    subst (λ (b : Block). IsContradictory c.args.store.now.signature b) (sym a.2) (c.in_ok-answer.ensures.contradictory a.0 (ap Ok a.1))

pub returns-clause-zero : goal.returns-clause-zero
returns-clause-zero c = λ e h.
    let a = c.answered.ensures.contradiction e h in
    let z = c.in_ok-answer.ensures.zero a.0 (ap Ok a.1) in
    (z.0, ap (λ (b : Block). b.ending) a.2 ∙ z.1)

pub returns-clause-built : goal.returns-clause-built
returns-clause-built c = λ e h.
    let a = c.answered.ensures.contradiction e h in
    let s = c.args.store.now in
    subst (λ (b : Block). AreBuilt s.signature (terms_in s) b.deriv.lines) (sym a.2) (c.in_ok-answer.ensures.built a.0 (ap Ok a.1))

pub returns-clause-made_of : goal.returns-clause-made_of
returns-clause-made_of c = λ e h.
    let a = c.answered.ensures.contradiction e h in
    let t = c.in_ok-answer.ensures.tags a.0 (ap Ok a.1) in
    record {
      place = t.0;
      refuted = t.1;
      used = (a.0).tags;
      exactly = t.2;
      hyps = ap (λ (b : Block). b.deriv.hyps) a.2 ∙ c.in_ok-answer.ensures.hyps a.0 (ap Ok a.1) ∙ ap (λ (gs : List Given). flat_map (hyps_of gs) (a.0).tags) c.as_slice.ensures;
      tags = a.3 ∙ ap (λ (ts : List (List ℕ)). flat_map (tags_at ts) (a.0).tags) c.as_slice-3.ensures;
    }

pub returns-clause-literals : goal.returns-clause-literals
returns-clause-literals c = λ e assumed h all.
    let a = c.answered.ensures.contradiction e h in
    let hyps : e.block.deriv.hyps ≡ flat_map (hyps_of c.args.given.now) (a.0).tags =
    ap (λ (b : Block). b.deriv.hyps) a.2 ∙ c.in_ok-answer.ensures.hyps a.0 (ap Ok a.1) ∙ ap (λ (gs : List Given). flat_map (hyps_of gs) (a.0).tags) c.as_slice.ensures in
    let tags : e.tags ≡ flat_map (tags_at c.args.tags.now) (a.0).tags = a.3 ∙ ap (λ (ts : List (List ℕ)). flat_map (tags_at ts) (a.0).tags) c.as_slice-3.ensures in
    subst (λ (ls : List Lit). IsBlockOf assumed ls e.tags) (sym hyps)
    (subst (λ (ts : List ℕ). IsBlockOf assumed (flat_map (hyps_of c.args.given.now) (a.0).tags) ts) (sym tags) (joined_tags assumed c.args.given.now c.args.tags.now all (a.0).tags))

pub answered-requires-clause-normal : goal.answered-requires-clause-normal
answered-requires-clause-normal c = subst (λ (rs : List Kept). AllByRecursion (λ (r : Kept). IsNormal r.lin) rs) (sym c.rows.ensures.rows) c.rows.ensures.normal

pub answered-requires-clause-founded : goal.answered-requires-clause-founded
answered-requires-clause-founded c = subst AreFounded (sym c.rows.ensures.rows) c.rows.ensures.founded

pub answered-requires-clause-were_rounded : goal.answered-requires-clause-were_rounded
answered-requires-clause-were_rounded c = subst AreRounded (sym c.rows.ensures.rows) c.rows.ensures.rounded

pub answered-requires-clause-given : goal.answered-requires-clause-given
answered-requires-clause-given c =
    let s = c.args.store.now in
    let e = c.solve_licensed.ensures.extended in
    subst (λ (rs : List Kept). AreAllGiven s.signature (terms_in s) rs c.as_slice-2.result.now) (sym c.rows.ensures.rows)
    (subst (λ (gs : List Given). AreAllGiven s.signature (terms_in s) c.solve_licensed.new.bounds gs) (sym c.as_slice-2.ensures)
    (given_on c.args.rows.now c.args.journal.now.lines c.solve_licensed.new.bounds e.0 e.1 s.signature (terms_in s) c.args.given.now c.requires.fits.given))

pub answered-requires-clause-opaque : goal.answered-requires-clause-opaque
answered-requires-clause-opaque c =
    let s = c.args.store.now in
    let e = c.solve_licensed.ensures.extended in
    subst (AreOpaqueNames (terms_in s)) (sym c.rows.ensures.rows)
    (names_on c.args.rows.now c.args.journal.now.lines c.solve_licensed.new.bounds e.0 e.1 (terms_in s)
    (opaque_names s.signature (terms_in s) c.len-names.ensures.store.sound.one_name c.args.rows.now c.args.given.now c.requires.fits.given c.requires.fits.opaque))

pub answered-requires-clause-tight : goal.answered-requires-clause-tight
answered-requires-clause-tight c = λ numbers h. subst (λ (rs : List Kept). AreTight rs numbers) (sym c.rows.ensures.rows) (c.in_ok-answer.ensures.tight numbers (ap Ok h))

pub returns-clause-tight : goal.returns-clause-tight
returns-clause-tight c = λ found h.
    state_same (λ (b : Held). AreTightRows c.args.store.now b found) c.rows.result.now c.solve_licensed.new.bounds c.as_slice-2.result.now c.args.given.now c.as_slice-3.result.now c.args.tags.now (sym c.rows.ensures.rows)
    (sym c.as_slice-2.ensures) (sym c.as_slice-3.ensures) (c.answered.ensures.tight found h)

pub returns-clause-tight_last : goal.returns-clause-tight_last
returns-clause-tight_last c = λ found h. let n = c.answered.ensures.numbers found h in c.in_ok-answer.ensures.tight_last n.0 (ap Ok n.1)

pub returns-clause-agreed : goal.returns-clause-agreed
returns-clause-agreed c =
    on_ok_always c.answered.result
    (λ x a. agreed_kept x c.args.rows.now c.solve_licensed.new.bounds c.args.journal.now.lines c.solve_licensed.new.journal.lines a c.in_ok-answer.ensures.kept)

pub returns-clause-legal : goal.returns-clause-legal
returns-clause-legal c = λ x bound a.
    let e = c.solve_licensed.ensures.extended in
    all_legal x bound c.args.rows.now c.solve_licensed.new.bounds c.args.journal.now.lines e.0 c.solve_licensed.new.journal.lines a e.1 e.2

pub returns-clause-fits : goal.returns-clause-fits
returns-clause-fits c =
    let s = c.args.store.now in
    let e = c.solve_licensed.ensures.extended in
    record {
      given = given_on c.args.rows.now c.args.journal.now.lines c.solve_licensed.new.bounds e.0 e.1 s.signature (terms_in s) c.args.given.now c.requires.fits.given;
      opaque = (names_on c.args.rows.now c.args.journal.now.lines c.solve_licensed.new.bounds e.0 e.1 (terms_in s)
          (opaque_names s.signature (terms_in s) c.len-names.ensures.store.sound.one_name c.args.rows.now c.args.given.now c.requires.fits.given c.requires.fits.opaque)).opaque;
    }
