-- What a market prints. Assumes nothing.
use Rattle.std.specs.Prelude.{ℕ, List, ◌++◌, codes}
use Rattle.std.specs.Fmt.{decimal}
use Rattle.curves.specs.declared.market.Market.{Market}

abbrev pub market_text : Market → List ℕ
market_text m = codes "curve " ++ (decimal m.curve ++ (codes " at " ++ (decimal m.x ++ (codes ", " ++ (decimal m.y ++ (codes ", direction " ++ decimal m.direction))))))
