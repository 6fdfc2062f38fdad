use Rattle.std.specs.Prelude.{ℕ, List, [], ◌∷◌, ◌≡◌, true}
use Rattle.std.specs.List.{Contains}
use Rattle.std.proofs.Common.{sym, subst}
use Rattle.ae_pmap.specs.Forest.{present}
use Rattle.ae_pmap.specs.Pairs.{found}
use Rattle.ae_num.specs.declared.forms.Part.{Part}
use Rattle.ae_num.specs.Forms.{has_key}
use Rattle.ae_linear.specs.declared.occurrences.Link.{Link}
use Rattle.ae_linear.specs.Inner.Occurrences.{OccursIn, AllOccur}
use Rattle.ae_linear.proofs.Versions.{are_put, are_rows, finds_new}
use Rattle.ae_linear.proofs.rows.put_in.Goals as goal

pub substitute_each-requires-clause-all : goal.substitute_each-requires-clause-all
substitute_each-requires-clause-all c = λ n row e h.
    subst (λ (ns : List ℕ). Contains ns n) (sym c.as_slice-names.ensures.value)
    (c.in_ok-having.ensures.all n (subst (λ (w : List Link). OccursIn c.args.heads.now w c.args.name n) (sym c.deref.ensures.value) (c.requires.indexed.finds n c.args.name row e h)))

pub returns-clause-ok : goal.returns-clause-ok
returns-clause-ok c =
    are_put (λ n. found (present c.args.rows.now) n) (λ n. found (present c.substitute_each.new.rows) n) (λ n. found (present c.insert.new.self) n) c.args.name c.args.just c.args.value c.requires.value c.requires.absent
    c.requires.indexed.are_rows c.requires.free c.in_ok-substitute_each.ensures.ok c.in_ok-insert.ensures.at

pub returns-clause-indexed : goal.returns-clause-indexed
returns-clause-indexed c = record {
  are_rows =
      are_rows (λ n. found (present c.args.rows.now) n) (λ n. found (present c.substitute_each.new.rows) n) (λ n. found (present c.insert.new.self) n) c.args.name c.args.just c.args.value c.requires.value c.requires.absent
      c.requires.indexed.are_rows c.requires.free c.in_ok-substitute_each.ensures.ok c.in_ok-insert.ensures.at;
  are_linked = c.in_ok-link_each-2.ensures.linked;
  are_heads = c.in_ok-link_each-2.ensures.heads;
  finds =
      finds_new (λ n. found (present c.args.rows.now) n) (λ n. found (present c.substitute_each.new.rows) n) (λ n. found (present c.insert.new.self) n) c.args.name c.args.just c.args.value c.requires.value c.requires.absent
      c.requires.indexed.are_rows c.requires.free c.in_ok-substitute_each.ensures.ok c.in_ok-insert.ensures.at
      c.as_slice-names.result.now c.args.heads.now c.link_each.new.heads c.link_each-2.new.heads c.args.links.now.items c.link_each.new.links.items c.link_each-2.new.links.items c.in_ok-substitute_each.ensures.untouched
      c.requires.indexed.finds c.in_ok-link_each.ensures.stays c.in_ok-link_each-2.ensures.stays
      (subst (λ (ps : List Part). (key : ℕ) → has_key ps key ≡ true → AllOccur c.link_each.new.heads c.link_each.new.links.items key c.as_slice-names.result.now) c.as_slice-parts.ensures c.in_ok-link_each.ensures.named)
      (subst (λ (ps : List Part). (key : ℕ) → has_key ps key ≡ true → AllOccur c.link_each-2.new.heads c.link_each-2.new.links.items key (c.args.name ∷ [])) c.as_slice-parts.ensures c.in_ok-link_each-2.ensures.named);
}

pub returns-in_err-link_each-2-clause-heads_last : goal.returns-in_err-link_each-2-clause-heads_last
returns-in_err-link_each-2-clause-heads_last c = λ root map s. c.in_err-link_each-2.ensures.lasts root map (c.in_ok-link_each.ensures.lasts root map s)

pub returns-in_err-insert-clause-rows_last : goal.returns-in_err-insert-clause-rows_last
returns-in_err-insert-clause-rows_last c = λ root map s. c.in_err-insert.ensures.lasts root map (c.in_ok-substitute_each.ensures.lasts root map s)

pub returns-in_err-insert-clause-heads_last : goal.returns-in_err-insert-clause-heads_last
returns-in_err-insert-clause-heads_last c = λ root map s. c.in_ok-link_each-2.ensures.lasts root map (c.in_ok-link_each.ensures.lasts root map s)

pub returns-clause-rows_last : goal.returns-clause-rows_last
returns-clause-rows_last c = λ root map s. c.in_ok-insert.ensures.lasts root map (c.in_ok-substitute_each.ensures.lasts root map s)

pub returns-clause-heads_last : goal.returns-clause-heads_last
returns-clause-heads_last c = λ root map s. c.in_ok-link_each-2.ensures.lasts root map (c.in_ok-link_each.ensures.lasts root map s)
