use Rattle.std.proofs.Common.{◌≡◌, map, reverse}
use Rattle.journal.specs.Rewound.{rewound}
use Rattle.journal.proofs.rewind.Given as goal

abbrev pub invariant-loop-entry : goal.invariant-loop-entry
invariant-loop-entry g l =
    let u = g.W.Undo in
    u.model l.state ≡ rewound u.undone (u.model l.initial.state) (reverse (map (λ e. e.now) l.yielded))
