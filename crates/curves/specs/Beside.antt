-- Two banks of curves side by side. Assumes nothing.
use Rattle.std.specs.Prelude.{nat_le}
use Rattle.amounts.specs.Pair.{both, split}
use Rattle.curves.specs.Meaning.{Curves}
use Rattle.curves.specs.Single.{unless}

abbrev pub beside : Curves → Curves → Curves
beside a b =
    record {
      count = both 8 a.count b.count;
      buy = λ c direction x y n. unless (nat_le 8 c) (split a.count (λ k. a.buy k direction x y n) (λ k. b.buy k direction x y n) c);
      price = λ c direction x y n. unless (nat_le 8 c) (split a.count (λ k. a.price k direction x y n) (λ k. b.price k direction x y n) c);
      measure = split a.count a.measure b.measure;
      degree = split a.count a.degree b.degree;
    }
