-- Request #105, from the theorems of `digits`. Assumes nothing.
use mathlib.Core.Path.{sym, ◌∙◌}
use Rattle.digits.proofs.Table as table
use Rattle.promises.specs.Digits.{Request105}

pub request105 : Request105
request105 =
    record {
      cases = record { numerals = (table.ascii-digits).numerals; letters = (table.ascii-digits).letters; no_other = (table.ascii-digits).no_other };
      only = λ value a b l. table.ascii-only value (record { numerals = a.numerals; letters = a.letters; no_other = a.no_other }) b l ∙ sym (table.digit-table b l);
      as_before = table.digit-table;
    }
