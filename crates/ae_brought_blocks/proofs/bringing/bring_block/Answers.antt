use Rattle.std.proofs.Common.{◌≡◌, ◌∙◌, List, Some, true, take, length, sym, ap, subst, arith, length-append, [], ◌∷◌}
use Rattle.std.specs.List.{Contains}
use Rattle.std.proofs.lemmas.List.{take_at}
use Rattle.ae_block_constants.specs.declared.opened.Opened.{Opened}
use Rattle.ae_brought_clauses.specs.Brought.{AreBrought}
use Rattle.ae_core.specs.Sorts.{formula_ok}
use Rattle.ae_core.specs.declared.formulas.Formula.{out-Formula}
use Rattle.ae_core.specs.declared.terms.Term.{Term}
use Rattle.ae_goal_names.specs.Named.{clause_terms}
use Rattle.ae_brought_blocks.proofs.bringing.bring_block.Goals as goal
use Rattle.ae_opening.specs.Opens.{Opens}
use Rattle.ae_opening.specs.declared.opening.FreshLine.{FreshLine}
use Rattle.ae_rules.specs.Clauses.{Clause}
use Rattle.ae_rules.specs.Derivations.{clause_ok}
use Rattle.ae_rules.specs.Instances.{fresh_clause}
use Rattle.ae_theory.specs.Names.{terms_in}

pub first_blocks-requires : goal.first_blocks-requires
first_blocks-requires c =
    let own : Opened = record { formula = c.args.formula.now; first = c.args.blocks.now.next } in
    omega (arith, c.len-earlier.ensures, ap length c.in_ok-opened.ensures.more, length-append c.args.blocks.now.opened (own ∷ []))

pub bring_clause-requires : goal.bring_clause-requires
bring_clause-requires c =
    let sig = c.args.signature.now in
    let own : Opened = record { formula = c.args.formula.now; first = c.args.blocks.now.next } in
    let opens = c.in_ok-opened.ensures in
    let before : c.first_blocks.result.now ≡ c.args.blocks.now.opened =
    c.first_blocks.ensures ∙ ap (take c.len-earlier.result) opens.more ∙ take_at c.args.blocks.now.opened (own ∷ []) c.len-earlier.result (sym c.len-earlier.ensures) in
    let said : c.as_slice-literals.result.now ≡ c.in_ok-opened.opened.clause = c.as_slice-literals.ensures ∙ ap (λ (x : FreshLine). x.clause) (c.get.ensures ∙ c.in_ok-fresh.ensures) in
    record {
      same = c.requires.same;
      sorted = subst (λ (x : Clause). clause_ok sig x ≡ true) (sym said) (c.requires.sorted c.in_ok-opened.opened.clause opens.clause);
      blocks = subst (λ (ks : List Opened). (e : Opened) → Contains ks e → formula_ok sig e.formula ≡ true) (sym before) c.requires.blocks;
      there = subst
          (λ (ks : List Opened). (e : Opened) (d : Clause) (t : Term) → Contains ks e → fresh_clause e.formula e.first (out-Formula e.formula) ≡ Some d → Contains (clause_terms d) t → Contains (terms_in c.args.store.now) t)
          (sym before) c.requires.there;
    }

pub returns : goal.returns
returns c =
    let o = c.args.blocks.now in
    let own : Opened = record { formula = c.args.formula.now; first = o.next } in
    let opens = c.in_ok-opened.ensures in
    let before : c.first_blocks.result.now ≡ o.opened = c.first_blocks.ensures ∙ ap (take c.len-earlier.result) opens.more ∙ take_at o.opened (own ∷ []) c.len-earlier.result (sym c.len-earlier.ensures) in
    let said : c.as_slice-literals.result.now ≡ c.in_ok-fresh.fresh.clause = c.as_slice-literals.ensures ∙ ap (λ (x : FreshLine). x.clause) c.get.ensures in
    let s = c.args.store.now in
    let t = c.bring_clause.new.store in
    let es = c.args.ages.now in
    let fs = c.bring_clause.new.ages in
    record {
      opens = subst (λ (x : FreshLine). Opens c.args.formula.now o.next c.open_block.new.blocks.next o.opened c.open_block.new.blocks.opened x.line x.clause) (sym c.in_ok-fresh.ensures) opens;
      brought = subst (AreBrought o.opened c.args.generation s es t fs) said
          (subst (λ (ks : List Opened). AreBrought ks c.args.generation s es t fs c.as_slice-literals.result.now) before c.in_ok-bring_clause.ensures);
      store = c.len-names.ensures.store;
    }
