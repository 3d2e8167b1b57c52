-- Two token banks side by side. Assumes nothing.
use Rattle.amounts.specs.Pair.{both, split}
use Rattle.tokens.specs.Meaning.{Tokens}

abbrev pub beside : Tokens → Tokens → Tokens
beside a b =
    record {
      count = both 8 a.count b.count;
      balance = split a.count a.balance b.balance;
      pot = split a.count a.pot b.pot;
      arrives = split a.count a.arrives b.arrives;
    }
