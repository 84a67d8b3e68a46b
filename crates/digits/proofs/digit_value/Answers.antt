-- `digits::digit_value` meets its contract: each case is a row of the table, and its rest is past all of them. Assumes nothing.
use Prim.Native.Nat.{ℕ, ◌<◌}
use mathlib.Core.Path.{◌≡◌, refl, sym, ap, ◌∙◌}
use Rattle.std.specs.Prelude.{Option, None, Some, unwrap_or}
use native.Mathlib.Omega.{arith}
use borrow.Author.Rules.{rules}
use Rattle.digits.specs.Reading.{digit_value}
use Rattle.digits.specs.Table.{digit_table, beside, by_table}
use Rattle.digits.proofs.Digits.{or-sixteen}
use Rattle.digits.proofs.Table.{digit-table, Rest, in-no-row}
use Rattle.digits.proofs.digit_value.Goals as goal

-- what the table gives, or 16, is also what the rule gives
given : (b : ℕ) (o : Option ℕ) → b < 256 → by_table b ≡ o → (unwrap_or o 16 ≡ unwrap_or (digit_value b) 16) × (unwrap_or o 16 ≡ unwrap_or (by_table b) 16)
given b o l e = (or-sixteen (sym (digit-table b l) ∙ e), or-sixteen e)

-- a case: a byte w, which the table says is worth d
case : (b w d : ℕ) → b < 256 → b ≡ w → by_table w ≡ Some d → (d ≡ unwrap_or (digit_value b) 16) × (d ≡ unwrap_or (by_table b) 16)
case b w d l e v = given b (Some d) l (ap by_table e ∙ v)

pub returns-in-48 : goal.returns-in-48
unfolding by_table beside
returns-in-48 c = let k = case c.args.byte 48 0 (omega arith) (omega arith) refl in record { rule = k.0; table = k.1 }

pub returns-in-49 : goal.returns-in-49
unfolding by_table beside
returns-in-49 c = let k = case c.args.byte 49 1 (omega arith) (omega arith) refl in record { rule = k.0; table = k.1 }

pub returns-in-50 : goal.returns-in-50
unfolding by_table beside
returns-in-50 c = let k = case c.args.byte 50 2 (omega arith) (omega arith) refl in record { rule = k.0; table = k.1 }

pub returns-in-51 : goal.returns-in-51
unfolding by_table beside
returns-in-51 c = let k = case c.args.byte 51 3 (omega arith) (omega arith) refl in record { rule = k.0; table = k.1 }

pub returns-in-52 : goal.returns-in-52
unfolding by_table beside
returns-in-52 c = let k = case c.args.byte 52 4 (omega arith) (omega arith) refl in record { rule = k.0; table = k.1 }

pub returns-in-53 : goal.returns-in-53
unfolding by_table beside
returns-in-53 c = let k = case c.args.byte 53 5 (omega arith) (omega arith) refl in record { rule = k.0; table = k.1 }

pub returns-in-54 : goal.returns-in-54
unfolding by_table beside
returns-in-54 c = let k = case c.args.byte 54 6 (omega arith) (omega arith) refl in record { rule = k.0; table = k.1 }

pub returns-in-55 : goal.returns-in-55
unfolding by_table beside
returns-in-55 c = let k = case c.args.byte 55 7 (omega arith) (omega arith) refl in record { rule = k.0; table = k.1 }

pub returns-in-56 : goal.returns-in-56
unfolding by_table beside
returns-in-56 c = let k = case c.args.byte 56 8 (omega arith) (omega arith) refl in record { rule = k.0; table = k.1 }

pub returns-in-57 : goal.returns-in-57
unfolding by_table beside
returns-in-57 c = let k = case c.args.byte 57 9 (omega arith) (omega arith) refl in record { rule = k.0; table = k.1 }

pub returns-in-97 : goal.returns-in-97
unfolding by_table beside
returns-in-97 c = let k = case c.args.byte 97 10 (omega arith) (omega arith) refl in record { rule = k.0; table = k.1 }

pub returns-in-98 : goal.returns-in-98
unfolding by_table beside
returns-in-98 c = let k = case c.args.byte 98 11 (omega arith) (omega arith) refl in record { rule = k.0; table = k.1 }

pub returns-in-99 : goal.returns-in-99
unfolding by_table beside
returns-in-99 c = let k = case c.args.byte 99 12 (omega arith) (omega arith) refl in record { rule = k.0; table = k.1 }

pub returns-in-100 : goal.returns-in-100
unfolding by_table beside
returns-in-100 c = let k = case c.args.byte 100 13 (omega arith) (omega arith) refl in record { rule = k.0; table = k.1 }

pub returns-in-101 : goal.returns-in-101
unfolding by_table beside
returns-in-101 c = let k = case c.args.byte 101 14 (omega arith) (omega arith) refl in record { rule = k.0; table = k.1 }

pub returns-in-102 : goal.returns-in-102
unfolding by_table beside
returns-in-102 c = let k = case c.args.byte 102 15 (omega arith) (omega arith) refl in record { rule = k.0; table = k.1 }

pub returns-in_default : goal.returns-in_default
unfolding by_table
returns-in_default c =
    let rest : Rest c.args.byte (Unit {0}) digit_table = search rules in
    let k = given c.args.byte None (omega arith) (in-no-row c.args.byte (Unit {0}) digit_table rest).1 in
    record { rule = k.0; table = k.1 }
