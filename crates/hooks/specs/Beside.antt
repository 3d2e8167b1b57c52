-- Two banks of hooks side by side. Assumes nothing.
use Rattle.amounts.specs.Pair.{both, split}
use Rattle.hooks.specs.Meaning.{Hooks}

abbrev pub beside : Hooks → Hooks → Hooks
beside a b =
    record {
      count = both 4 a.count b.count;
      number = split a.count a.number b.number;
      legal = split a.count a.legal b.legal;
      payee = split a.count a.payee b.payee;
      ask = split a.count a.ask b.ask;
      step = split a.count a.step b.step;
    }
