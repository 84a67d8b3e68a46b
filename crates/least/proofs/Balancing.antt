-- Prices that balance, from the items put in over the bidders by the transposed table. THEORY.md 2.13. Assumes nothing.
use Prim.Native.Nat.{ℕ, zero, suc, ◌-◌, ◌^◌, ◌≤◌, ◌<◌}
use mathlib.Core.Path.{◌≡◌, refl, sym, ◌∙◌, subst}
use mathlib.Core.Bool.{Bool, true}
use mathlib.Core.List.{List}
use mathlib.Core.Logic.{◌⊎◌, inl, inr}
use native.Mathlib.Omega.{arith}
use lib.ListN.{length, get_or, replicate, length-replicate}
use Rattle.sets.specs.Bit.{has}
use Rattle.sets.proofs.Counting.{not-both}
use Rattle.sets.proofs.Filling.{zeros-at}
use Rattle.sets.proofs.Members.{is_set-full}
use Rattle.rule.specs.Sheet.{amount}
use Rattle.rule.proofs.Limits.{amount-null, amount-zeros}
use Rattle.bids.proofs.Lent.{line-at, line-inside}
use Rattle.bids.specs.Fit.{Small, Fit}
use Rattle.least.specs.Holding.{Holds, Demands, Held}
use Rattle.least.specs.Searching.{Item}
use Rattle.least.specs.Putting.{Table, bid_at, Put, everyone, others, Standing}
use Rattle.least.specs.Transposing.{Transposed, Options, FreeOrTaken, Given, Balanced}
use Rattle.least.proofs.Raising.{pays}
use Rattle.least.proofs.Transposing.{transposed_bid, transposed-at, transposed-null, Transpose, transposed-held}
use Rattle.least.proofs.Holders.{bid-null, bid-small}
use Rattle.least.proofs.Joining.{everyone-use, everyone-make, others-use}
use Rattle.least.proofs.Tables.{line-fits, zeros-small}

-- nobody takes part
held_none : (m : ℕ) (bid : ℕ → ℕ → ℕ) (on : ℕ → Bool) (p own : ℕ → ℕ) → ((b : ℕ) → on b ≡ true → ⊥) → ((i : ℕ) → own i ≡ 0) → Held m bid on p own
held_none m bid on p own none z =
    record {
      null = z 0;
      known = λ i b l e. absurd (omega (arith, z i, e));
      placed = λ b t. absurd (none b t);
      once = λ i j b li lj e f. absurd (omega (arith, z i, e));
    }

-- who bids the same demands the same
held-bids : {m : ℕ} {bid : ℕ → ℕ → ℕ} (bid' : ℕ → ℕ → ℕ) {on : ℕ → Bool} {p own : ℕ → ℕ} → ((b i : ℕ) → on b ≡ true → i < suc m → bid b i ≡ bid' b i) → Held m bid on p own → Held m bid' on p own
held-bids {m} {bid} bid' {on} {p} {own} same h =
    record {
      null = h.null;
      known = λ i b l e. let w = h.known i b l e in (w.0, demands b i w.0 l w.1);
      placed = λ b t. placed b t (h.placed b t);
      once = h.once;
    }
  where
    demands : (b i : ℕ) → on b ≡ true → i < suc m → Demands m bid p b i → Demands m bid' p b i
    demands b i t l d j lj = omega (arith, d j lj, same b i t l, same b j t lj)

    placed : (b : ℕ) → on b ≡ true → Demands m bid p b 0 ⊎ Holds m own b → Demands m bid' p b 0 ⊎ Holds m own b
    placed b t (inl d) = inl (demands b 0 t (omega arith) d)
    placed b t (inr w) = inr w

module _ {m n : ℕ} {bids : List ℕ} (f : Fit m n bids) where
  pub fit-table : Table m n bids
  fit-table =
      record { max_items = omega (arith, f.max_items); max_bidders = f.max_bidders; inside = λ b l. line-inside m n b (length bids) f.long l; small = f.small }

  module _ (table : List ℕ) (long : length table ≡ 2048) (small : Small table) (t : Transposed m n bids m table) where
    transposed-table : Table n m table
    transposed-table = record { max_items = f.max_bidders; max_bidders = omega (arith, f.max_items); inside = λ i l. omega (arith, line-fits f i l, long); small = small }

    -- item r + 1 bids for the bidders what they bid for it
    transposed-bids : (r c : ℕ) → r < m → c < suc n → bid_at n table r c ≡ transposed_bid (bid_at m bids) r c
    unfolding Transposed
    transposed-bids r zero lr lc = bid-null n table r ∙ sym (transposed-null (bid_at m bids) r)
    transposed-bids r (suc b) lr lc =
        let lb : b < n = omega arith in
        unfold amount in line-at n table r b lb ∙ t r b lr lb ∙ sym (line-at m bids b r lr) ∙ sym (transposed-at (bid_at m bids) r b)

    pub transposed-standing : Standing n m table (others m (2 ^ 64 - 1)) (replicate 64 0) (replicate 64 0)
    transposed-standing =
        record {
          table = transposed-table;
          long = length-replicate {A = ℕ} 64 0;
          long_own = length-replicate {A = ℕ} 64 0;
          small = zeros-small 64;
          held = held_none n (bid_at n table) (others m (2 ^ 64 - 1)) (amount (replicate 64 0)) (amount (replicate 64 0)) nobody (amount-zeros 64);
        }
      where
        nobody : (r : ℕ) → others m (2 ^ 64 - 1) r ≡ true → ⊥
        nobody r on =
            let w = others-use m (2 ^ 64 - 1) r on in
            not-both (has (2 ^ 64 - 1) (suc r)) (unfold has in is_set-full 64 r (omega (arith, w.0, f.max_items))) w.1

    module _ (surplus option : List ℕ) (p : Put n table (everyone m) (replicate 64 0) (replicate 64 0) surplus option) where
      held : Held n (transposed_bid (bid_at m bids)) (everyone m) (amount surplus) (amount option)
      held = held-bids (transposed_bid (bid_at m bids)) (λ r c on l. transposed-bids r c (everyone-use m r on) l) p.held

      option-at : (b : ℕ) → get_or option b 0 ≡ amount option (suc b)
      unfolding amount
      option-at b = refl

      surplus-at : (b : ℕ) → get_or surplus b 0 ≡ amount surplus (suc b)
      unfolding amount
      surplus-at b = refl

      pub options : Options m n bids surplus option
      options = record { fit = f; small = λ b l. small-option b l (amount option (suc b)) refl; pays = pays-for; once = once }
        where
          small-option : (b : ℕ) → b < n → (i : ℕ) → amount option (suc b) ≡ i → get_or option b 0 ≤ m
          small-option b l zero e = omega (arith, option-at b, e)
          small-option b l (suc r) e = omega (arith, option-at b, e, everyone-use m r (held.known (suc b) r (omega arith) e).0)

          pays-for : (b x : ℕ) → b < n → get_or option b 0 ≡ suc x → get_or surplus b 0 ≤ bid_at m bids b (suc x)
          pays-for b x l e =
              omega (
                arith,
                surplus-at b,
                pays n (transposed_bid (bid_at m bids)) (amount surplus) x (suc b) (transposed-null (bid_at m bids) x) (amount-null surplus) (held.known (suc b) x (omega arith) (sym (option-at b) ∙ e)).1,
                transposed-at (bid_at m bids) x b,
              )

          once : (b c : ℕ) → b < n → c < n → 0 < get_or option b 0 → get_or option b 0 ≡ get_or option c 0 → b ≡ c
          once b c lb lc pos e = go (get_or option b 0) refl
            where
              go : (i : ℕ) → get_or option b 0 ≡ i → b ≡ c
              go zero z = absurd (omega (arith, z, pos))
              go (suc r) z = omega (arith, held.once (suc b) (suc c) r (omega arith) (omega arith) (sym (option-at b) ∙ z) (sym (option-at c) ∙ sym e ∙ z))

      module _ (prices own : List ℕ) (g : Given m bids surplus option n prices own) where
        turn : Transpose m n (bid_at m bids) (everyone m) (everyone n) (amount surplus) (amount option) (amount prices) (amount own)
        turn =
            record {
              bid-null = bid-null m bids;
              all-items = everyone-make m;
              items-below = everyone-use m;
              all-bidders = everyone-make n;
              bidders-below = everyone-use n;
              held = held;
              surplus-null = amount-null surplus;
              free = λ b l e. (p.free (suc b) (omega arith, omega arith) e).1 ∙ amount-zeros 64 (suc b);
              q-null = amount-null prices;
              own-null = amount-null own;
              own_is = own_is;
              is-own = λ b i l e. unfold amount in (g.given b i l (option-at b ∙ e)).0;
              priced = λ b i l e. unfold amount in (g.given b i l (option-at b ∙ e)).1;
            }
          where
            own_is : (i b : ℕ) → i < suc m → amount own i ≡ suc b → (b < n) × (amount option (suc b) ≡ i)
            own_is zero b l e = absurd (omega (arith, e, amount-null own))
            own_is (suc x) b l e = go (g.only x)
              where
                at : get_or own x 0 ≡ suc b
                at = unfold amount in e

                go : FreeOrTaken option n prices own x → (b < n) × (amount option (suc b) ≡ suc x)
                go (inl w) = absurd (omega (arith, w.0, at))
                go (inr w) =
                    let same : w.0 ≡ b = omega (arith, (g.given w.0 x w.1 w.2).0, at) in
                    subst (λ (c : ℕ). (c < n) × (amount option (suc c) ≡ suc x)) same (w.1, sym (option-at w.0) ∙ w.2)

        pub balanced : Balanced m n bids (replicate 64 0) prices own
        balanced =
            record {
              standing = record { table = fit-table; long = g.long; long_own = g.long_own; small = unfold Small in small-prices; held = transposed-held turn };
              above = λ i x. omega (arith, amount-zeros 64 i);
              free = free;
              past = λ x l. past x l (g.only x);
            }
          where
            none : (x : ℕ) → m ≤ x → (b : ℕ) × (b < n) × (get_or option b 0 ≡ suc x) → ⊥
            none x l w = omega (arith, l, w.2, options.small w.0 w.1)

            small-prices : (x : ℕ) → get_or prices x 0 ≤ 4095
            small-prices x = go (g.only x)
              where
                go : FreeOrTaken option n prices own x → get_or prices x 0 ≤ 4095
                go (inl w) = omega (arith, w.1)
                go (inr w) = omega (arith, (g.given w.0 x w.1 w.2).1, bid-small m bids f.small w.0 (suc x))

            free : (i : ℕ) → Item m i → amount own i ≡ 0 → amount prices i ≡ amount (replicate 64 0) i
            free zero x e = absurd (omega (arith, x.0))
            free (suc y) x e = go (g.only y)
              where
                go : FreeOrTaken option n prices own y → amount prices (suc y) ≡ amount (replicate 64 0) (suc y)
                go (inl w) = unfold amount in w.1 ∙ sym (zeros-at 64 y)
                go (inr w) = absurd (let h : get_or own y 0 ≡ 0 = unfold amount in e in omega (arith, h, (g.given w.0 y w.1 w.2).0))

            past : (x : ℕ) → m ≤ x → FreeOrTaken option n prices own x → get_or prices x 0 ≡ get_or (replicate 64 0) x 0
            past x l (inl w) = w.1 ∙ sym (zeros-at 64 x)
            past x l (inr w) = absurd (none x l w)
