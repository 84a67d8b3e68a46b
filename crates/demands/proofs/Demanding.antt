-- The demands of all bidders, as the code collects them one after the other, and back as the rule has them. Assumes nothing.
use Prim.Native.Nat.{ℕ, suc, ◌+◌, ◌-◌, ◌*◌, ◌^◌, ◌≤◌, ◌<◌}
use mathlib.Core.Path.{◌≡◌, refl, sym, ap, ap₂, ◌∙◌, subst}
use mathlib.Core.Bool.{Bool, true, false, ◌&&◌, ◌||◌, cond}
use mathlib.Core.List.{List, [], map}
use mathlib.Core.Logic.{◌⊎◌, inl, inr}
use native.Mathlib.Omega.{arith}
use native.Mathlib.Nat.{mul-le-mul}
use lib.Dec.{leb, eqb}
use lib.ListN.{length, get_or, set, replicate, length-map, get_or-map, get_or-eq_default}
use borrow.Author.Tests.{le-leb, leb-true, eq-eqb, eqb-true}
use Rattle.sets.specs.Bit.{has, set_of}
use Rattle.sets.specs.Lists.{places}
use Rattle.sets.proofs.Counting.{lt-or-le, and_left, and_right, and_both}
use Rattle.sets.proofs.Filling.{Filled, fill_start, fill-next, fill-places}
use Rattle.sets.proofs.Lists.{tabulate-same, places-length, places-at}
use Rattle.sets.proofs.Members.{has-set_of}
use Rattle.rule.specs.Demand.{Demand, surplus, demand, demands, surpluses, nth}
use Rattle.rule.proofs.AtPrices.{nth-demands, demands-length, demands-small}
use Rattle.rule.proofs.Gains.{surpluses-length, surplus-at}
use Rattle.round.specs.Reports.{reports, Reported}
use Rattle.round.proofs.Adding.{add-next, add-end}
use Rattle.round.proofs.Reporting.{tabulate-nth}
use Rattle.bids.specs.Lent.{line_of, rows_of}
use Rattle.bids.specs.Line.{row_shown}
use Rattle.bids.proofs.Lent.{rows-length, row_at, line-inside, line-length}
use Rattle.bids.proofs.Rows.{row_is}
use Rattle.demands.specs.Demands.{complete, demands_of, surpluses_of, held}
use Rattle.demands.specs.declared.Demands.{Demands}

-- ---- complete bids

pub record Complete (m n long : ℕ) : Type 0 where
  pub max_items : m ≤ 32
  pub max_bidders : n ≤ 64
  pub exact : long ≡ n * m

pub few : (m n : ℕ) → m ≤ 32 → n ≤ 64 → n * m ≤ 2048
few m n lm ln = mul-le-mul ln lm

pub is-complete : (m n long : ℕ) → complete m n long ≡ true → Complete m n long
unfolding complete
is-complete m n long e =
    let counts = and_left (leb m 32 && leb n 64) (eqb long (n * m)) e in
    record {
      max_items = leb-true m 32 (and_left (leb m 32) (leb n 64) counts);
      max_bidders = leb-true n 64 (and_right (leb m 32) (leb n 64) counts);
      exact = eqb-true long (n * m) (and_right (leb m 32 && leb n 64) (eqb long (n * m)) e);
    }

complete-is : (m n long : ℕ) → Complete m n long → complete m n long ≡ true
unfolding complete
complete-is m n long c =
    and_both (leb m 32 && leb n 64) (eqb long (n * m)) (and_both (leb m 32) (leb n 64) (le-leb m 32 c.max_items) (le-leb n 64 c.max_bidders))
    (eq-eqb long (n * m) c.exact)

-- ---- held as they came

-- a bidder's item set in the list of all
items_at : (ds : List Demand) (k : ℕ) → get_or (map (λ d. d.items) ds) k 0 ≡ (nth ds k).items
unfolding nth
items_at ds k = get_or-map (λ (d : Demand). d.items) ds k (record { null = false; items = 0 })

pub none-held : record { sets = replicate 64 0; nulls = 0; surpluses = replicate 64 0 } ≡ held [] []
unfolding held set_of
none-held = ap (λ (xs : List ℕ). record { sets = xs; nulls = 0; surpluses = xs }) (fill-places 64 [] 0 (replicate 64 0) (fill_start 64 _) (omega arith))

-- the demands and surpluses of complete bids, or of none
by-complete : (m n : ℕ) (prices bids : List ℕ) (t : Bool) → complete m n (length bids) ≡ t
    → held (cond t (demands m (rows_of m n bids) prices) []) (cond t (surpluses m (rows_of m n bids) prices) []) ≡ held (demands_of m n prices bids) (surpluses_of m n prices bids)
unfolding demands_of surpluses_of
by-complete m n prices bids t e = ap (λ (b : Bool). held (cond b (demands m (rows_of m n bids) prices) []) (cond b (surpluses m (rows_of m n bids) prices) [])) (sym e)

pub nobody : (m n : ℕ) (prices bids : List ℕ) → complete m n (length bids) ≡ false
    → record { sets = replicate 64 0; nulls = 0; surpluses = replicate 64 0 } ≡ held (demands_of m n prices bids) (surpluses_of m n prices bids)
nobody m n prices bids e = none-held ∙ by-complete m n prices bids false e

module _ (ds : List Demand) (xs : List ℕ) (most : length ds ≤ 64) where
  sets-at : (k : ℕ) → k < length ds → get_or (held ds xs).sets k 0 ≡ (nth ds k).items
  unfolding held
  sets-at k l = places-at 64 (map (λ d. d.items) ds) k (omega arith) ∙ items_at ds k

  nulls-at : (k : ℕ) → k < length ds → has (held ds xs).nulls (suc k) ≡ (nth ds k).null
  unfolding held
  nulls-at k l = let e : suc k - 1 ≡ k = omega arith in has-set_of (length ds) (λ b. (nth ds (b - 1)).null) k l ∙ ap (λ (j : ℕ). (nth ds j).null) e

  held-idle : (k : ℕ) → length ds ≤ k → get_or (held ds xs).sets k 0 ≡ 0
  unfolding held
  held-idle k l = go (lt-or-le k 64)
    where
      items : List ℕ
      items = map (λ (d : Demand). d.items) ds

      go : (k < 64) ⊎ (64 ≤ k) → get_or (places 64 items) k 0 ≡ 0
      go (inl q) = places-at 64 items k q ∙ get_or-eq_default items 0 {n = k} (omega (arith, length-map ds (λ (d : Demand). d.items)))
      go (inr q) = get_or-eq_default (places 64 items) 0 {n = k} (omega (arith, places-length 64 items))

  -- what is held are these demands
  held_back : reports (length ds) (held ds xs).sets (held ds xs).nulls ≡ ds
  unfolding reports
  held_back =
      tabulate-same (length ds) (λ b. record { null = has (held ds xs).nulls (suc b); items = get_or (held ds xs).sets b 0 }) (nth ds)
      (λ k l. ap₂ (λ (x : Bool) (y : ℕ). record { null = x; items = y }) (nulls-at k l) (sets-at k l))
      ∙ tabulate-nth ds

-- ---- one bidder after the other

module _ (m n : ℕ) (prices bids : List ℕ) where
  -- the first b bidders' demands and surpluses are collected
  pub record Collected (sets : List ℕ) (nulls : ℕ) (tops : List ℕ) (b : ℕ) : Type 0 where
    pub most : b ≤ n
    pub filled : Filled 64 (λ k. (nth (demands m (rows_of m n bids) prices) k).items) b sets
    pub null : nulls ≡ set_of b (λ j. (nth (demands m (rows_of m n bids) prices) (j - 1)).null)
    pub tops-filled : Filled 64 (λ k. get_or (surpluses m (rows_of m n bids) prices) k 0) b tops

  pub collect-start : Collected (replicate 64 0) 0 (replicate 64 0) 0
  unfolding set_of
  collect-start = record { most = omega arith; filled = fill_start 64 _; null = refl; tops-filled = fill_start 64 _ }

module _ (m n : ℕ) (prices bids : List ℕ) (c : Complete m n (length bids)) where
  abbrev ds : List Demand
  ds = demands m (rows_of m n bids) prices

  abbrev xs : List ℕ
  xs = surpluses m (rows_of m n bids) prices

  long : length ds ≡ n
  long = demands-length m (rows_of m n bids) prices ∙ rows-length m n bids

  -- the next bidder's line
  module _ (b : ℕ) (l : b < n) (line : List ℕ) (e : line ≡ row_shown m b bids) where
    inside : b * m + m ≤ length bids
    inside = line-inside m n b (length bids) c.exact l

    line-is : line ≡ line_of m bids b
    line-is = e ∙ row_is m b bids (omega (arith, c.max_items)) inside

    line-long : length line ≡ m
    line-long = ap length line-is ∙ line-length m bids b inside

    pub line-short : length line ≤ 32
    line-short = omega (arith, line-long, c.max_items)

    demand-is : demand (length line) prices line ≡ nth ds b
    demand-is =
        ap₂ (λ (k : ℕ) (x : List ℕ). demand k prices x) line-long (line-is ∙ sym (row_at m n bids b l))
        ∙ sym (nth-demands m (rows_of m n bids) prices b (omega (arith, l, rows-length m n bids)))

    surplus-is : surplus (length line) prices line ≡ get_or (surpluses m (rows_of m n bids) prices) b 0
    surplus-is =
        ap₂ (λ (k : ℕ) (x : List ℕ). surplus k prices x) line-long (line-is ∙ sym (row_at m n bids b l))
        ∙ sym (surplus-at m (rows_of m n bids) prices b (omega (arith, l, rows-length m n bids)))

    pub collect-next : (sets : List ℕ) (nulls : ℕ) (tops : List ℕ) → Collected m n prices bids sets nulls tops b → (items : ℕ) → items ≡ (demand (length line) prices line).items
        → (on : Bool) → on ≡ (demand (length line) prices line).null → (top : ℕ) → top ≡ surplus (length line) prices line
        → (next : ℕ) → next ≡ set_of 64 (λ k. has nulls k || (on && eqb k (b + 1)))
        → Collected m n prices bids (set sets b items) next (set tops b top) (b + 1)
    collect-next sets nulls tops t items ei on eo top et next en =
        let own : b ≡ b + 1 - 1 = omega arith in
        record {
          most = omega arith;
          filled = fill-next 64 _ b sets items t.filled (omega (arith, l, c.max_bidders)) (ei ∙ ap (λ (d : Demand). d.items) demand-is);
          null =
              add-next 64 (λ j. (nth ds (j - 1)).null) b (omega (arith, l, c.max_bidders)) nulls on next t.null
              (eo ∙ ap (λ (d : Demand). d.null) demand-is ∙ ap (λ (k : ℕ). (nth ds k).null) own) en;
          tops-filled = fill-next 64 _ b tops top t.tops-filled (omega (arith, l, c.max_bidders)) (et ∙ surplus-is);
        }

  pub collect-end : (sets : List ℕ) (nulls : ℕ) (tops : List ℕ) (b : ℕ) → Collected m n prices bids sets nulls tops b → n ≤ b
      → record { sets = sets; nulls = nulls; surpluses = tops } ≡ held (demands_of m n prices bids) (surpluses_of m n prices bids)
  collect-end sets nulls tops b t l =
      ap₂ (λ (x : List ℕ) (y : ℕ). record { sets = x; nulls = y; surpluses = tops }) sets_are nulls-are
      ∙ ap (λ (z : List ℕ). record { sets = (held ds xs).sets; nulls = (held ds xs).nulls; surpluses = z }) tops_are
      ∙ by-complete m n prices bids true (complete-is m n (length bids) c)
    where
      items : List ℕ
      items = map (λ (d : Demand). d.items) ds

      filled : Filled 64 (λ k. get_or items k 0) b sets
      filled =
          record { most = t.filled.most; long = t.filled.long; done = λ k lk. t.filled.done k lk ∙ sym (items_at ds k); zeros = t.filled.zeros }

      sets_are : sets ≡ (held ds xs).sets
      sets_are = unfold held in fill-places 64 items b sets filled (omega (arith, l, long, length-map ds (λ (d : Demand). d.items)))

      tops_are : tops ≡ (held ds xs).surpluses
      tops_are = unfold held in fill-places 64 xs b tops t.tops-filled (omega (arith, l, surpluses-length m (rows_of m n bids) prices, rows-length m n bids))

      nulls-are : nulls ≡ (held ds xs).nulls
      nulls-are = unfold held in add-end (λ j. (nth ds (j - 1)).null) b (length ds) nulls t.null (omega (arith, t.most, long)) (omega (arith, l, long))

  -- ---- back as the rule has them

  -- the sets and the nulls are the demands of n bidders, for m items, and the surpluses are theirs
  pub record Demanded (r : Demands) : Type 0 where
    pub reported : Reported m n r.sets
    pub same : reports n r.sets r.nulls ≡ demands m (rows_of m n bids) prices
    pub highest : r.surpluses ≡ places 64 (surpluses m (rows_of m n bids) prices)

  pub demanded : (r : Demands) → r ≡ held (demands_of m n prices bids) (surpluses_of m n prices bids) → Demanded r
  demanded r e = subst Demanded (sym (e ∙ sym (by-complete m n prices bids true (complete-is m n (length bids) c)))) all
    where
      most : length ds ≤ 64
      most = omega (arith, long, c.max_bidders)

      small : (b : ℕ) → b < n → get_or (held ds xs).sets b 0 < 2 ^ m
      small b l =
          let lb : b < length ds = omega (arith, l, long) in
          subst (λ (x : ℕ). x < 2 ^ m) (sym (sets-at ds xs most b lb)) (demands-small m (rows_of m n bids) prices b lb)

      all : Demanded (held ds xs)
      all =
          record {
            reported = record { max_items = c.max_items; max_bidders = c.max_bidders; small = small; idle = λ b l. held-idle ds xs most b (omega (arith, l, long)) };
            same = ap (λ (k : ℕ). reports k (held ds xs).sets (held ds xs).nulls) (sym long) ∙ held_back ds xs most;
            highest = unfold held in refl;
          }
