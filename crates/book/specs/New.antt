-- A new book. Assumes nothing.
use Rattle.std.specs.Prelude.{false, pos, None, replicate}
use Rattle.book.specs.declared.records.Book.{Book}

abbrev pub new_book : Book
new_book =
    record {
      pools = record { rows = replicate 8 None };
      shares = replicate 8 (replicate 16 0);
      claims = replicate 16 (replicate 8 0);
      allowances = replicate 16 (record { rows = replicate 16 (replicate 8 0) });
      operators = replicate 16 (replicate 16 false);
      deltas = replicate 16 (replicate 8 (pos 0));
      mark = None;
      steps = 0;
    }
