-- What a line of the console says. Assumes nothing: these are definitions.
use Rattle.std.specs.Prelude.{ℕ, ◌-◌, ◌/◌, ◌%◌, Bool, ◌&&◌, cond, List, [], leb, eqb, length, get_or, take, drop, Option, None, Some, unwrap_or}
use Rattle.digits.specs.Reading.{◌>>=◌, number_at}
use Rattle.lines.specs.Reading.{numbers_at}
use Rattle.console.specs.declared.Order.{Order}
use Rattle.console.specs.declared.Order.TheVariants.{Open, OpenAbove, Report, End, Clear, Read, Unknown}

-- the line starts with this byte; an empty line starts with none
unfoldable pub starts : ℕ → List ℕ → Bool
starts b line = eqb (get_or line 0 0) b

-- the line is this byte alone
unfoldable pub alone : ℕ → List ℕ → Bool
alone b line = eqb (length line) 1 && starts b line

-- the amounts of an opening, prices and floors: from the fifth byte after the letter on, 4 digits each up to the line's end
unfoldable pub amounts_at : List ℕ → Option (List ℕ)
amounts_at line = cond (eqb ((length line - 5) % 4) 0) (numbers_at ((length line - 5) / 4) 4 line 5) None

-- an opening: 2 digits items (pans), 2 digits bidders (rakers), 4 digits for each amount
unfoldable pub opening : (ℕ → ℕ → Order) → List ℕ → Option Order
opening order line = do
  m ← number_at 2 line 1
  n ← number_at 2 line 3
  amounts ← amounts_at line
  Some (order m n)

-- r: 2 digits bidder, 01 or 00 for null (no pan), 8 digits item set
unfoldable pub reporting : List ℕ → Option Order
reporting line =
    cond (eqb (length line) 13)
    (do
      b ← number_at 2 line 1
      x ← number_at 2 line 3
      s ← number_at 8 line 5
      cond (leb x 1) (Some (Report b (eqb x 1) s)) None)
    None

-- the order of a line, which is given without its newline: o opens, f opens with floors, r reports, e ends the round, c clears, s reads the close; any other
-- line is none
unfoldable pub order_of : List ℕ → Order
order_of line =
    cond (starts 111 line) (unwrap_or (opening Open line) Unknown)
    (cond (starts 102 line) (unwrap_or (opening OpenAbove line) Unknown)
    (cond (starts 114 line) (unwrap_or (reporting line) Unknown)
    (cond (alone 101 line) End
    (cond (alone 99 line) Clear
    (cond (alone 115 line) Read Unknown)))))

-- the amounts of a line that opens. After o all of them are starting prices (rents)
unfoldable pub amounts_of : List ℕ → List ℕ
amounts_of line = unwrap_or (amounts_at line) []

-- after f the first m are, one for each item, and the rest are the floors (lowest rents)
unfoldable pub starts_of : (items : ℕ) → List ℕ → List ℕ
starts_of m line = take m (amounts_of line)

unfoldable pub floors_of : (items : ℕ) → List ℕ → List ℕ
floors_of m line = drop m (amounts_of line)
