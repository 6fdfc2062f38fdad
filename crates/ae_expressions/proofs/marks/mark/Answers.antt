use Rattle.std.proofs.Common.{◌∙◌, ℕ, Bool, ◌||◌, nat_lt, length, sym, ap}
use Rattle.std.specs.List.{list_any}
use Rattle.ae_expressions.specs.Inner.Marks.{base_mark, choice_mark, found_in, mark_of, marked}
use Rattle.ae_elab.specs.Nodes.{claim_at, entry_of, tree_at, trees_at}
use Rattle.ae_expressions.proofs.MarkLaws.{found_apply, found_operation, found_build, found_update, found_choice, marked_at, marked_among}
use Rattle.ae_expressions.proofs.marks.mark.Goals as goal

pub returns-in-Apply : goal.returns-in-Apply
returns-in-Apply c es are =
    let s = c.args.sought in
    let us = c.in-Apply.args in
    c.any_marked.ensures ∙ ap (list_any (marked c.args.marks.now)) c.as_slice.ensures ∙ marked_among s c.args.marks.now es are us
    ∙ sym (ap (λ n. mark_of s (entry_of es n)) c.in-Apply.is ∙ found_apply c.in-Apply.head c.in-Apply.sorts (trees_at es us) s)

pub returns-in-Operation : goal.returns-in-Operation
returns-in-Operation c es are =
    let s = c.args.sought in
    let us = c.in-Operation.args in
    c.any_marked-in-Operation.ensures ∙ ap (list_any (marked c.args.marks.now)) c.as_slice-in-Operation.ensures ∙ marked_among s c.args.marks.now es are us
    ∙ sym (ap (λ n. mark_of s (entry_of es n)) c.in-Operation.is ∙ found_operation c.in-Operation.op c.in-Operation.sort (trees_at es us) s)

pub returns-in-Build : goal.returns-in-Build
returns-in-Build c es are =
    let s = c.args.sought in
    let us = c.in-Build.values in
    let b = c.in-Build in
    c.any_marked-in-Build.ensures ∙ ap (list_any (marked c.args.marks.now)) c.as_slice-in-Build.ensures ∙ marked_among s c.args.marks.now es are us
    ∙ sym (ap (λ n. mark_of s (entry_of es n)) b.is ∙ found_build b.of b.sorts b.count b.places (trees_at es us) s)

pub returns-in-Update : goal.returns-in-Update
returns-in-Update c es are =
    let s = c.args.sought in
    let us = c.in-Update.values in
    let b = c.in-Update in
    let ms = c.args.marks.now in
    let left = nat_lt (length b.places) b.count in
    c.either.ensures
    ∙ ap (λ (z : Bool). z || c.any_marked-in-Update.result)
    (c.mark_base.ensures ∙ ap (λ (n : ℕ). base_mark s (nat_lt n b.count) c.is_marked.result) c.len.ensures ∙ ap (base_mark s left) (c.is_marked.ensures ∙ marked_at s ms es are b.base))
    ∙ ap (λ (z : Bool). base_mark s left (found_in s (tree_at es b.base)) || z) (c.any_marked-in-Update.ensures ∙ ap (list_any (marked ms)) c.as_slice-in-Update.ensures ∙ marked_among s ms es are us)
    ∙ sym (ap (λ n. mark_of s (entry_of es n)) b.is ∙ found_update b.of b.sorts b.count b.places (trees_at es us) (tree_at es b.base) s)

pub returns-in-Choice : goal.returns-in-Choice
returns-in-Choice c es are =
    let s = c.args.sought in
    let b = c.in-Choice in
    let ms = c.args.marks.now in
    c.mark_choice.ensures ∙ ap (λ z. choice_mark s z c.is_marked-in-Choice-2.result) (c.is_marked-in-Choice.ensures ∙ marked_at s ms es are b.positive)
    ∙ ap (choice_mark s (found_in s (tree_at es b.positive))) (c.is_marked-in-Choice-2.ensures ∙ marked_at s ms es are b.negative)
    ∙ sym (ap (λ n. mark_of s (entry_of es n)) b.is ∙ found_choice (claim_at es b.condition) (tree_at es b.positive) (tree_at es b.negative) s)
