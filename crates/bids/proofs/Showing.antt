-- A bidder's line: what its number says, and the part that is shown. Assumes nothing.
use Prim.Native.Nat.{ℕ, zero, suc, ◌+◌, ◌-◌, ◌*◌, ◌≤◌, ◌<◌}
use mathlib.Core.Path.{◌≡◌, refl, sym, ap, ◌∙◌}
use mathlib.Core.List.{List, []}
use native.Mathlib.Omega.{arith}
use lib.ListN.{length, take, drop}
use Rattle.rule.specs.Refusal.{bad_items, bad_bidders, bad_length, bad_bidder}
use Rattle.rule.proofs.Refusal.{passed, none, first-nil, in-range, range-in, exact, exact-is}
use Rattle.bids.specs.Lent.{line_of}
use Rattle.bids.specs.Line.{row_shown, row_start, line_refusal, shown, line_shown, line_start}
use Rattle.bids.proofs.Lent.{line-inside}
use Rattle.bids.proofs.Rows.{row_is, start_is}

module _ (m n b : ℕ) (bids : List ℕ) where
  -- what holds where no number turns the asking down
  pub record Asked : Type 0 where
    pub max_items : m ≤ 32
    pub some : 1 ≤ b
    pub most : b ≤ 64
    pub inside : (b - 1) * m + m ≤ length bids

  pub asked : line_refusal m n b bids ≡ 0 → Asked
  unfolding line_refusal bad_items bad_bidders bad_bidder
  asked e =
      let p = none 0 (bad_items m) _ e in
      let q = none 1 (bad_bidders n) _ p.1 in
      let r = none 2 (bad_length bids (n * m)) _ q.1 in
      let s = none 6 (bad_bidder n b) _ r.1 in
      let g = in-range n b s.0 in
      let l = in-range 64 n q.0 in
      record {
        max_items = (in-range 32 m p.0).1;
        some = g.0;
        most = omega (arith, g.1, l.1);
        inside = line-inside m n (b - 1) (length bids) (exact-is bids (n * m) r.0) (omega (arith, g.0, g.1));
      }

  -- a part that stands at a place of the bids is the line that is shown
  pub record Shown (part : List ℕ) (at : ℕ) : Type 0 where
    pub shown : part ≡ line_shown m n b bids
    pub start : line_start m n b bids ≡ at

  pub line-none : (why : ℕ) → why ≡ line_refusal m n b bids → (why ≡ 0 → ⊥) → Shown [] 0
  unfolding line_shown line_start shown
  line-none why e ne = go why e ne
    where
      go : (x : ℕ) → x ≡ line_refusal m n b bids → (x ≡ 0 → ⊥) → Shown [] 0
      go zero q h = absurd (h refl)
      go (suc k) q h =
          record { shown = ap (λ (y : ℕ). shown y (line_of m bids (b - 1))) q; start = ap (λ (y : ℕ). elim y [ zero ↦ (b - 1) * m | suc why ↦ 0 ]) (sym q) }

  pub line-is : line_refusal m n b bids ≡ 0 → Shown (row_shown m (b - 1) bids) (row_start m (b - 1) bids)
  unfolding line_shown line_start shown
  line-is e =
      let a = asked e in
      let wide : m ≤ 64 = omega (arith, a.max_items) in
      record {
        shown = row_is m (b - 1) bids wide a.inside ∙ ap (λ (y : ℕ). shown y (line_of m bids (b - 1))) (sym e);
        start = ap (λ (y : ℕ). elim y [ zero ↦ (b - 1) * m | suc why ↦ 0 ]) e ∙ sym (start_is m (b - 1) bids wide a.inside);
      }

  pub line-of : line_refusal m n b bids ≡ 0 → line_shown m n b bids ≡ line_of m bids (b - 1)
  unfolding line_shown shown
  line-of e = ap (λ (y : ℕ). shown y (line_of m bids (b - 1))) e

  -- what is shown are the bids from the place on where it starts
  pub shown-there : line_refusal m n b bids ≡ 0 → line_shown m n b bids ≡ take m (drop (line_start m n b bids) bids)
  unfolding line_start line_of
  shown-there e = line-of e ∙ ap (λ (k : ℕ). take m (drop k bids)) (sym (ap (λ (y : ℕ). elim y [ zero ↦ (b - 1) * m | suc why ↦ 0 ]) e))

-- the line of a bidder among n, counted from 0
pub shown-at : (m n b : ℕ) (bids : List ℕ) → 1 ≤ m → m ≤ 32 → n ≤ 64 → length bids ≡ n * m → b < n → line_shown m n (b + 1) bids ≡ line_of m bids b
unfolding line_refusal bad_items bad_bidders bad_bidder
shown-at m n b bids some most max long l =
    line-of m n (b + 1) bids accepted ∙ (let e : b + 1 - 1 ≡ b = omega arith in ap (line_of m bids) e)
  where
    accepted : line_refusal m n (b + 1) bids ≡ 0
    accepted =
        passed 1 (bad_items m) _ (range-in 32 m some most) ∙ passed 2 (bad_bidders n) _ (range-in 64 n (omega arith) max) ∙ passed 3 (bad_length bids (n * m)) _ (exact bids (n * m) long)
        ∙ passed 7 (bad_bidder n (b + 1)) _ (range-in n (b + 1) (omega arith) (omega arith)) ∙ first-nil
