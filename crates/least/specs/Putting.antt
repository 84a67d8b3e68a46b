-- One bidder more is put in: what the steps ask and answer. Assumes nothing: these are definitions.
use Rattle.std.specs.Prelude.{ℕ, suc, ◌+◌, ◌*◌, ◌≤◌, ◌<◌, ◌≡◌, Bool, true, false, ◌&&◌, not, List, eqb, ltb, length, get_or, replicate}
use Rattle.sets.specs.Bit.{has}
use Rattle.sets.specs.Count.{count}
use Rattle.rule.specs.Sheet.{amount}
use Rattle.bids.specs.Lent.{line_of}
use Rattle.bids.specs.Fit.{Small}
use Rattle.least.specs.Holding.{Held}
use Rattle.least.specs.Searching.{line_at, reach_of, Source, Item, Search}
use Rattle.least.specs.Shifting.{Chain}
use Rattle.least.specs.Steps.{Numbered, AllLeft, IsLeft, Nearest}

-- bids of n bidders for m items: n lines
pub record Table (m n : ℕ) (bids : List ℕ) : Type 0 where
  pub max_items : m ≤ 64
  pub max_bidders : n ≤ 64
  pub inside : (b : ℕ) → b < n → b * m + m ≤ length bids
  pub small : Small bids

-- bidder b's bid for option i
abbrev pub bid_at : ℕ → List ℕ → ℕ → ℕ → ℕ
bid_at m bids b i = amount (line_of m bids b) i

-- bidder k is to be put in, besides those who take part
pub record Ready (m k : ℕ) (bids prices own : List ℕ) : Type 0 where
  pub bidders : ℕ
  pub table : Table m bidders bids
  pub member : k < bidders
  pub on : ℕ → Bool
  pub below : (b : ℕ) → on b ≡ true → b < bidders
  pub waits : on k ≡ false
  pub long : length prices ≡ 64
  pub long_own : length own ≡ 64
  pub small : Small prices
  pub held : Held m (bid_at m bids) on (amount prices) (amount own)

-- nothing is searched yet: everything is far, and left
pub record Unsearched (own dist via left : List ℕ) : Type 0 where
  pub far : dist ≡ replicate 64 16384
  pub from : via ≡ replicate 64 0
  pub all : AllLeft own left

-- how many places are left
unfoldable pub left_count : List ℕ → ℕ
left_count left = count 64 λ x. not (eqb (get_or left x 0) 0)

-- a search in lists, with the turns at which items were entered, and how many there were: an item is left as long as it is not entered
pub record Searching (m : ℕ) (In : ℕ → Type 0) (top : ℕ) (line : ℕ → ℕ → ℕ) (prices dist via left : List ℕ) (mask : ℕ → ℕ) (turns : ℕ) : Type 0 where
  pub search : Search m In top line (amount prices) (amount dist) mask (amount via)
  pub numbered : Numbered left
  pub opens : (x : ℕ) → In x → mask x ≡ 0 → IsLeft left x
  pub closed : (x : ℕ) → Item m x → IsLeft left x → In x × (mask x ≡ 0)
  pub early : (x : ℕ) → mask x ≤ turns
  pub few : turns + left_count left ≤ 64
  pub long_dist : length dist ≡ 64
  pub long_via : length via ≡ 64
  pub long_left : length left ≡ 64

-- bidder k's search: the distance of null, and from where it was reached; and the nearest option
pub record Seeking (m k : ℕ) (bids prices own dist via left : List ℕ) (null last next : ℕ) : Type 0 where
  pub mask : ℕ → ℕ
  pub turns : ℕ
  pub searching : Searching m (Item m) 4095 (line_at (bid_at m bids) (amount own) (bid_at m bids k)) prices dist via left mask turns
  pub holds : (x : ℕ) → x < suc m → 0 < mask x → 0 < amount own x
  pub null_far : (y : ℕ) → y < suc m → Source mask y
      → null ≤ reach_of 4095 (line_at (bid_at m bids) (amount own) (bid_at m bids k)) (amount prices) (amount dist) y
  pub behind : (y : ℕ) → y < suc m → 0 < mask y → amount dist y ≤ null
  pub last_small : last < suc m
  pub last_source : Source mask last
  pub last_exact : reach_of 4095 (line_at (bid_at m bids) (amount own) (bid_at m bids k)) (amount prices) (amount dist) last ≡ null
  pub nearest : Nearest m null dist left next

-- ys is xs with the first n places changed to f
pub record Changed (n : ℕ) (f : ℕ → ℕ) (xs ys : List ℕ) : Type 0 where
  pub long : length ys ≡ 64
  pub done : (x : ℕ) → x < n → get_or ys x 0 ≡ f x
  pub rest : (x : ℕ) → n ≤ x → get_or ys x 0 ≡ get_or xs x 0

-- what the way back asks of the holders
pub record Chained (k : ℕ) (own via : List ℕ) (first : ℕ) : Type 0 where
  pub items : ℕ
  pub bid : ℕ → ℕ → ℕ
  pub on : ℕ → Bool
  pub prices : ℕ → ℕ
  pub mask : ℕ → ℕ
  pub max_items : items ≤ 64
  pub max_bidders : k < 64
  pub long : length own ≡ 64
  pub chain : Chain items bid on k prices (amount own) mask (amount via) first

-- then everybody holds what they demand, and an item that was held still is
pub record Shifted {k : ℕ} {own via : List ℕ} {first : ℕ} (s : Chained k own via first) (holders : List ℕ) : Type 0 where
  pub held : Held s.items s.bid s.on s.prices (amount holders)
  pub kept : (i : ℕ) → amount holders i ≡ 0 → amount own i ≡ 0

-- prices and holders after bidder k, or several, were put in. A free item was free before, and keeps its price
pub record Put (m : ℕ) (bids : List ℕ) (on : ℕ → Bool) (prices own next holders : List ℕ) : Type 0 where
  pub long : length next ≡ 64
  pub long_own : length holders ≡ 64
  pub small : Small next
  pub held : Held m (bid_at m bids) on (amount next) (amount holders)
  pub rises : (i : ℕ) → Item m i → amount prices i ≤ amount next i
  pub free : (i : ℕ) → Item m i → amount holders i ≡ 0 → (amount own i ≡ 0) × (amount next i ≡ amount prices i)
  pub past : (x : ℕ) → m ≤ x → get_or next x 0 ≡ get_or prices x 0

-- ---- several bidders

-- all n bidders
unfoldable pub everyone : ℕ → ℕ → Bool
everyone n b = ltb b n

-- those of the n bidders who do not wait
unfoldable pub others : ℕ → ℕ → ℕ → Bool
others n waiting b = ltb b n && not (has waiting (suc b))

-- prices and holders, for the bidders who take part
pub record Standing (m n : ℕ) (bids : List ℕ) (on : ℕ → Bool) (prices own : List ℕ) : Type 0 where
  pub table : Table m n bids
  pub long : length prices ≡ 64
  pub long_own : length own ≡ 64
  pub small : Small prices
  pub held : Held m (bid_at m bids) on (amount prices) (amount own)
