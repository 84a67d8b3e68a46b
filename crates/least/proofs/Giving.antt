-- The bidders take their options one after the other: an item's price is what the bidder's surplus leaves of the bid. THEORY.md 2.13. Assumes nothing.
use Prim.Native.Nat.{ℕ, zero, suc, ◌+◌, ◌*◌, ◌-◌, ◌≤◌, ◌<◌}
use mathlib.Core.Path.{◌≡◌, refl, sym, ap, ◌∙◌, subst}
use mathlib.Core.List.{List}
use mathlib.Core.Logic.{◌⊎◌, inl, inr}
use native.Mathlib.Omega.{arith}
use native.Mathlib.Nat.{suc_inj}
use native.Mathlib.Decide.{ℕ_discrete}
use native.Mathlib.Numerals.{add-one}
use lib.ListN.{length, get_or, set, replicate, length-set, length-replicate}
use lib.Seq.{get_or-set_same, get_or-set_other}
use Rattle.sets.proofs.Counting.{below_suc}
use Rattle.sets.proofs.Filling.{zeros-at}
use Rattle.rule.specs.Sheet.{amount}
use Rattle.bids.specs.Lent.{line_of}
use Rattle.bids.specs.Line.{row_shown}
use Rattle.bids.proofs.Rows.{row_is}
use Rattle.bids.proofs.Lent.{line-inside, line-length}
use Rattle.least.specs.Putting.{bid_at}
use Rattle.least.specs.Transposing.{Options, FreeOrTaken, Given}

pub given-none : (m : ℕ) (bids surplus option prices own : List ℕ) → prices ≡ replicate 64 0 → own ≡ replicate 64 0 → Given m bids surplus option 0 prices own
given-none m bids surplus option prices own ep eo =
    record {
      long = ap length ep ∙ length-replicate {A = ℕ} 64 0;
      long_own = ap length eo ∙ length-replicate {A = ℕ} 64 0;
      given = λ b x l e. absurd (omega arith);
      only = λ x. inl (ap (λ (z : List ℕ). get_or z x 0) eo ∙ zeros-at 64 x, ap (λ (z : List ℕ). get_or z x 0) ep ∙ zeros-at 64 x);
    }

module _ {m n : ℕ} {bids surplus option : List ℕ} (o : Options m n bids surplus option) (k : ℕ) (lk : k < n) (prices own : List ℕ) (g : Given m bids surplus option k prices own)
    (line : List ℕ) (lent : line ≡ row_shown m k bids) (prices' own' : List ℕ) where
  inside : k * m + m ≤ length bids
  inside = line-inside m n k (length bids) o.fit.long lk

  el : line ≡ line_of m bids k
  el = lent ∙ row_is m k bids (omega (arith, o.fit.max_items)) inside

  -- bidder b holds the item at place x, and its price and their surplus make up their bid
  abbrev Gets : ℕ → ℕ → Type 0
  Gets b x = (get_or own' x 0 ≡ suc b) × (get_or prices' x 0 + get_or surplus b 0 ≡ bid_at m bids b (suc x))

  -- somebody before, or bidder k
  module _ (h : (b x : ℕ) → b < k → get_or option b 0 ≡ suc x → Gets b x)
      (i : (x : ℕ) → get_or option k 0 ≡ suc x → Gets k x) where
    both : (b x : ℕ) → b < k + 1 → get_or option b 0 ≡ suc x → Gets b x
    both b x l e = go (below_suc (omega arith))
      where
        go : (b ≡ k) ⊎ (b < k) → Gets b x
        go (inl q) =
            subst (λ (c : ℕ). Gets c x) (sym q) (i x (ap (λ (c : ℕ). get_or option c 0) (sym q) ∙ e))
        go (inr l) = h b x l e

  later : (x : ℕ) → (b : ℕ) × (b < k) × (get_or option b 0 ≡ suc x) → (b : ℕ) × (b < k + 1) × (get_or option b 0 ≡ suc x)
  later x w = (w.0, omega (arith, w.1), w.2)

  -- bidder k has null
  pub given-null : get_or option k 0 ≡ 0 → prices' ≡ prices → own' ≡ own → Given m bids surplus option (k + 1) prices' own'
  given-null z ep eo =
      record {
        long = ap length ep ∙ g.long;
        long_own = ap length eo ∙ g.long_own;
        given = both same (λ x e. absurd (omega (arith, e, z)));
        only = λ x. only x (g.only x);
      }
    where
      same : (b x : ℕ) → b < k → get_or option b 0 ≡ suc x → Gets b x
      same b x l e =
          let w = g.given b x l e in
          (ap (λ (y : List ℕ). get_or y x 0) eo ∙ w.0, ap (λ (y : List ℕ). get_or y x 0 + get_or surplus b 0) ep ∙ w.1)

      only : (x : ℕ) → FreeOrTaken option k prices own x
          → FreeOrTaken option (k + 1) prices' own' x
      only x (inl w) = inl (ap (λ (y : List ℕ). get_or y x 0) eo ∙ w.0, ap (λ (y : List ℕ). get_or y x 0) ep ∙ w.1)
      only x (inr w) = inr (later x w)

  -- bidder k has item i + 1
  pub given-item : (i : ℕ) → get_or option k 0 ≡ suc i → prices' ≡ set prices i (get_or line i 0 - get_or surplus k 0) → own' ≡ set own i (suc k) → Given m bids surplus option (k + 1) prices' own'
  given-item i ei ep eo =
      record {
        long = ap length ep ∙ length-set prices i v ∙ g.long;
        long_own = ap length eo ∙ length-set own i (suc k) ∙ g.long_own;
        given = both before (λ x e. here x (suc_inj (sym ei ∙ e)));
        only = λ x. only x (ℕ_discrete x i) (g.only x);
      }
    where
      v : ℕ
      v = get_or line i 0 - get_or surplus k 0

      place : i < 64
      place = omega (arith, o.small k lk, ei, o.fit.max_items)

      own-here : get_or own' i 0 ≡ suc k
      own-here = ap (λ (y : List ℕ). get_or y i 0) eo ∙ get_or-set_same own i (suc k) 0 (omega (arith, place, g.long_own))

      price-here : get_or prices' i 0 ≡ v
      price-here = ap (λ (y : List ℕ). get_or y i 0) ep ∙ get_or-set_same prices i v 0 (omega (arith, place, g.long))

      own-off : (x : ℕ) → (x ≡ i → ⊥) → get_or own' x 0 ≡ get_or own x 0
      own-off x ne = ap (λ (y : List ℕ). get_or y x 0) eo ∙ get_or-set_other own i x (suc k) 0 ne

      price-off : (x : ℕ) → (x ≡ i → ⊥) → get_or prices' x 0 ≡ get_or prices x 0
      price-off x ne = ap (λ (y : List ℕ). get_or y x 0) ep ∙ get_or-set_other prices i x v 0 ne

      bid-is : get_or line i 0 ≡ bid_at m bids k (suc i)
      bid-is = unfold amount in ap (λ (y : List ℕ). get_or y i 0) el

      here : (x : ℕ) → i ≡ x → Gets k x
      here x q =
          subst (λ (y : ℕ). Gets k y) q
          (own-here, omega (arith, price-here, bid-is, o.pays k i lk ei))

      before : (b x : ℕ) → b < k → get_or option b 0 ≡ suc x → Gets b x
      before b x l e =
          let w = g.given b x l e in
          (own-off x ne ∙ w.0, ap (λ (z : ℕ). z + get_or surplus b 0) (price-off x ne) ∙ w.1)
        where
          ne : x ≡ i → ⊥
          ne q = omega (arith, l, o.once b k (omega (arith, l, lk)) lk (omega (arith, e)) (e ∙ ap suc q ∙ sym ei))

      only : (x : ℕ) → Dec (x ≡ i) → FreeOrTaken option k prices own x
          → FreeOrTaken option (k + 1) prices' own' x
      only x (yes q) w = inr (k, omega arith, ei ∙ ap suc (sym q))
      only x (no ne) (inl w) = inl (own-off x ne ∙ w.0, price-off x ne ∙ w.1)
      only x (no ne) (inr w) = inr (later x w)

  pub given-next : (get_or option k 0 ≡ 0 → (prices' ≡ prices) × (own' ≡ own))
      → (0 < get_or option k 0 → (prices' ≡ set prices (get_or option k 0 - 1) (get_or line (get_or option k 0 - 1) 0 - get_or surplus k 0)) × (own' ≡ set own (get_or option k 0 - 1) (k + 1)))
      → Given m bids surplus option (k + 1) prices' own'
  given-next none some = go (get_or option k 0) refl
    where
      go : (i : ℕ) → get_or option k 0 ≡ i → Given m bids surplus option (k + 1) prices' own'
      go zero e = let w = none e in given-null e w.0 w.1
      go (suc i) e =
          let w = some (omega (arith, e)) in
          let place : get_or option k 0 - 1 ≡ i = omega (arith, e) in
          given-item i e (w.0 ∙ ap (λ (x : ℕ). set prices x (get_or line x 0 - get_or surplus k 0)) place) (w.1 ∙ ap (λ (x : ℕ). set own x (k + 1)) place ∙ ap (set own i) (add-one k))

  -- what the code asks
  pub given-fits : (get_or option k 0 ≤ length line) × (length line ≤ 64) × (0 < get_or option k 0 → get_or surplus k 0 ≤ get_or line (get_or option k 0 - 1) 0)
  given-fits = (omega (arith, len, o.small k lk), omega (arith, len, o.fit.max_items), λ pos. go (get_or option k 0) refl pos)
    where
      len : length line ≡ m
      len = ap length el ∙ line-length m bids k inside

      go : (i : ℕ) → get_or option k 0 ≡ i → 0 < get_or option k 0 → get_or surplus k 0 ≤ get_or line (get_or option k 0 - 1) 0
      go zero e pos = absurd (omega (arith, e, pos))
      go (suc i) e pos =
          let place : get_or option k 0 - 1 ≡ i = omega (arith, e) in
          let bid : get_or line i 0 ≡ bid_at m bids k (suc i) = unfold amount in ap (λ (y : List ℕ). get_or y i 0) el in
          omega (arith, o.pays k i lk e, bid, ap (λ (x : ℕ). get_or line x 0) place)
