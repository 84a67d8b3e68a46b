-- The numbers that are given before the amounts of a sheet are looked at, in document 01's order: which is given, by what was read so far, and that a later
-- number is given only where none of these is. Assumes nothing.
use Prim.Native.Nat.{ℕ, zero, suc, ◌+◌, ◌*◌}
use mathlib.Core.Path.{◌≡◌, refl, sym, ap, ap₂, ◌∙◌}
use mathlib.Core.Bool.{Bool, true, false, ◌||◌}
use mathlib.Core.List.{List, [], ◌∷◌}
use Rattle.std.specs.Prelude.{Option, None, Some, unwrap_or}
use native.Mathlib.Omega.{arith}
use Rattle.rule.specs.Refusal.{Refusal, on, first, bad_items, bad_bidders}
use Rattle.rule.proofs.Refusal.{passed, given, first-nil}
use Rattle.digits.specs.Reading.{◌>>=◌}
use Rattle.lines.specs.Reading.{line_at}
use Rattle.digits.proofs.Gives.{gives, stops}
use Rattle.sheet.specs.BidSheet.{BidSheet, items_in, bidders_in, bids_at, read_sheet}
use Rattle.sheet.specs.Close.{is_none, items_of, bidders_of, bid_sheet_of, unreadable, by_number}

-- ---- a later number is given only where none of these is

-- four tests, whatever they are
abbrev pub four : (a b c d : Bool) → List Refusal → List Refusal
four a b c d rest = on 6 a ∷ on 1 b ∷ on 2 c ∷ on 6 d ∷ rest

-- the first number that these give, or else what is asked next
by-four : (a b c d : Bool) (rest : List Refusal) → first (four a b c d rest) ≡ by_number (first (four a b c d [])) (first rest) (first (four a b c d []))
unfolding first
by-four true b c d rest = refl
by-four false true c d rest = refl
by-four false false true d rest = refl
by-four false false false true rest = refl
by-four false false false false rest = refl

-- a number, or else a second
none-of-both : (k n : ℕ) → by_number k n k ≡ 0 → (k ≡ 0) × (n ≡ 0)
none-of-both zero n e = (refl, e)
none-of-both (suc k) n e = absurd (omega arith)

second-same : (k n m : ℕ) → (k ≡ 0 → n ≡ m) → by_number k n k ≡ by_number k m k
second-same zero n m h = h refl
second-same (suc k) n m h = refl

module _ (bytes : List ℕ) (rest : List Refusal) where
  by-reading : first (unreadable bytes rest) ≡ by_number (first (unreadable bytes [])) (first rest) (first (unreadable bytes []))
  by-reading = by-four _ _ _ _ rest

  -- where none of these is given, what is asked next decides
  pub goes-on : first (unreadable bytes []) ≡ 0 → first (unreadable bytes rest) ≡ first rest
  goes-on z = by-reading ∙ ap (λ (k : ℕ). by_number k (first rest) k) z

  -- where none is given at all, none of these is, nor a later one
  pub none-given : first (unreadable bytes rest) ≡ 0 → (first (unreadable bytes []) ≡ 0) × (first rest ≡ 0)
  none-given e = none-of-both (first (unreadable bytes [])) (first rest) (sym by-reading ∙ e)

-- what is asked next matters only where none of these is given
pub same_rest : (bytes : List ℕ) (rest other : List Refusal) → (first (unreadable bytes []) ≡ 0 → first rest ≡ first other)
    → first (unreadable bytes rest) ≡ first (unreadable bytes other)
same_rest bytes rest other h = by-reading bytes rest ∙ second-same (first (unreadable bytes [])) (first rest) (first other) h ∙ sym (by-reading bytes other)

-- ---- which is given, by what was read so far

module _ (bytes : List ℕ) where
  first-bytes : (a b : Bool) → is_none (items_in bytes) ≡ a → is_none (bidders_in bytes) ≡ b → is_none (items_in bytes) || is_none (bidders_in bytes) ≡ a || b
  first-bytes a b e f = ap₂ (λ (x y : Bool). x || y) e f

  pub no_items : items_in bytes ≡ None → first (unreadable bytes []) ≡ 6
  no_items e = given 6 _ _ (first-bytes true (is_none (bidders_in bytes)) (ap is_none e) refl)

  module _ (m : ℕ) (e : items_in bytes ≡ Some m) where
    pub items_are : items_of bytes ≡ m
    unfolding items_of
    items_are = ap (λ (o : Option ℕ). unwrap_or o 0) e

    pub no-bidders : bidders_in bytes ≡ None → first (unreadable bytes []) ≡ 6
    no-bidders f = given 6 _ _ (first-bytes false true (ap is_none e) (ap is_none f))

    module _ (n : ℕ) (f : bidders_in bytes ≡ Some n) where
      pub bidders_are : bidders_of bytes ≡ n
      unfolding bidders_of
      bidders_are = ap (λ (o : Option ℕ). unwrap_or o 0) f

      pub four-read : is_none (items_in bytes) || is_none (bidders_in bytes) ≡ false
      four-read = first-bytes false false (ap is_none e) (ap is_none f)

      counted : first (unreadable bytes []) ≡ first (on 1 (bad_items m) ∷ on 2 (bad_bidders n) ∷ on 6 (is_none (read_sheet bytes)) ∷ [])
      counted =
          passed 6 _ _ four-read
          ∙ ap₂ (λ (j k : ℕ). first (on 1 (bad_items j) ∷ on 2 (bad_bidders k) ∷ on 6 (is_none (read_sheet bytes)) ∷ [])) items_are bidders_are

      pub bad-items : bad_items m ≡ true → first (unreadable bytes []) ≡ 1
      bad-items t = counted ∙ given 1 (bad_items m) _ t

      module _ (g : bad_items m ≡ false) where
        pub bad-bidders : bad_bidders n ≡ true → first (unreadable bytes []) ≡ 2
        bad-bidders t = counted ∙ passed 1 (bad_items m) _ g ∙ given 2 (bad_bidders n) _ t

        module _ (h : bad_bidders n ≡ false) where
          to-lines : first (unreadable bytes []) ≡ first (on 6 (is_none (read_sheet bytes)) ∷ [])
          to-lines = counted ∙ passed 1 (bad_items m) _ g ∙ passed 2 (bad_bidders n) _ h

          -- what is read after the counts
          with_bids : List ℕ → List ℕ → Option BidSheet
          with_bids start bids = Some (record { items = m; bidders = n; start = start; bids = bids })

          by_lines : read_sheet bytes ≡ (line_at m 4 bytes 4 >>= λ start. bids_at n m bytes (5 + 4 * m) >>= with_bids start)
          unfolding read_sheet with_bids
          by_lines = gives (items_in bytes) _ m e ∙ gives (bidders_in bytes) _ n f

          no-sheet : read_sheet bytes ≡ None → first (unreadable bytes []) ≡ 6
          no-sheet r = to-lines ∙ given 6 (is_none (read_sheet bytes)) _ (ap is_none r)

          pub no_start : line_at m 4 bytes 4 ≡ None → first (unreadable bytes []) ≡ 6
          no_start s = no-sheet (by_lines ∙ stops (line_at m 4 bytes 4) _ s)

          module _ (start : List ℕ) (s : line_at m 4 bytes 4 ≡ Some start) where
            pub no-bids : bids_at n m bytes (5 + 4 * m) ≡ None → first (unreadable bytes []) ≡ 6
            no-bids b = no-sheet (by_lines ∙ gives (line_at m 4 bytes 4) _ start s ∙ stops (bids_at n m bytes (5 + 4 * m)) _ b)

            module _ (bids : List ℕ) (b : bids_at n m bytes (5 + 4 * m) ≡ Some bids) where
              is-read : read_sheet bytes ≡ Some (record { items = m; bidders = n; start = start; bids = bids })
              unfolding with_bids
              is-read = by_lines ∙ gives (line_at m 4 bytes 4) _ start s ∙ gives (bids_at n m bytes (5 + 4 * m)) _ bids b

              pub sheet_is : bid_sheet_of bytes ≡ record { items = m; bidders = n; start = start; bids = bids }
              unfolding bid_sheet_of
              sheet_is = ap (λ (o : Option BidSheet). unwrap_or o (record { items = 0; bidders = 0; start = []; bids = [] })) is-read

              pub all_read : first (unreadable bytes []) ≡ 0
              all_read = to-lines ∙ passed 6 (is_none (read_sheet bytes)) [] (ap is_none is-read) ∙ first-nil
