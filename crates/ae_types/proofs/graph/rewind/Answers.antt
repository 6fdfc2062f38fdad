use Rattle.std.proofs.Common.{◌≤◌, length, ap, sym, ◌∙◌, arith}
use Rattle.ae_types.specs.Inner.Graphs.{rewound}
use Rattle.ae_types.proofs.GraphLaws.{rewound_last}
use Rattle.std.proofs.lemmas.List.{set_past}
use Rattle.ae_types.proofs.graph.rewind.Goals as goal

pub loop-change-preserved-then-change-len : goal.loop-change-preserved-then-change-len
loop-change-preserved-then-change-len c =
    ap (λ xs. rewound xs c.pop.new.self) c.set.ensures ∙ sym (rewound_last c.loop-change.classes c.pop.new.self c.in-Some.change)
    ∙ ap (rewound c.loop-change.classes) (sym c.in-Some.ensures) ∙ c.loop-change.invariant

pub loop-change-preserved : goal.loop-change-preserved
loop-change-preserved c =
    let past : length c.loop-change.classes ≤ c.in-Some.change.place = grind arith in
    ap (λ xs. rewound xs c.pop.new.self) (sym (set_past c.loop-change.classes c.in-Some.change.place c.in-Some.change.class past))
    ∙ sym (rewound_last c.loop-change.classes c.pop.new.self c.in-Some.change)
    ∙ ap (rewound c.loop-change.classes) (sym c.in-Some.ensures) ∙ c.loop-change.invariant
