-- What the steps to the least prices ask and answer. Lists have 64 places; item i has place i - 1. Assumes nothing: these are definitions.
use Rattle.std.specs.Prelude.{ℕ, suc, ◌+◌, ◌-◌, ◌≤◌, ◌<◌, ◌≡◌, List, ◌∷◌, ◌⊎◌, length, get_or, set}
use Rattle.rule.specs.Sheet.{amount}
use Rattle.bids.specs.Fit.{Small}
use Rattle.least.specs.Searching.{Item, Relaxed}

-- ---- distances

-- the first n places after somebody with this line and reach u was entered at j
pub record Reached (u j : ℕ) (line prices dist via : List ℕ) (n : ℕ) (dist' via' : List ℕ) : Type 0 where
  pub long_dist : length dist' ≡ 64
  pub long_via : length via' ≡ 64
  pub done : (x : ℕ) → x < n → Relaxed u j (get_or line x 0) (get_or prices x 0) (get_or dist x 0) (get_or via x 0) (get_or dist' x 0) (get_or via' x 0)
  pub rest : (x : ℕ) → n ≤ x → (get_or dist' x 0 ≡ get_or dist x 0) × (get_or via' x 0 ≡ get_or via x 0)

-- place x is left
abbrev pub LeftAt : List ℕ → ℕ → Type 0
LeftAt left x = get_or left x 0 ≡ 0 → ⊥

-- r is the least distance of those of the first n places that are left, and 65,535 if none is
pub record Lowest (dist left : List ℕ) (n r : ℕ) : Type 0 where
  pub least : (x : ℕ) → x < n → LeftAt left x → r ≤ get_or dist x 0
  pub some : (r ≡ 65535) ⊎ ((x : ℕ) × (x < n) × LeftAt left x × (get_or dist x 0 ≡ r))

-- what stands at place x: the number of its item, or 64 more, where that is left, and else 0
abbrev pub NumberOf : ℕ → ℕ → Type 0
NumberOf x v = (v ≡ 0) ⊎ (v ≡ suc x) ⊎ (v ≡ suc x + 64)

-- so at every place
unfoldable pub Numbered : List ℕ → Type 0
Numbered left = (x : ℕ) → NumberOf x (get_or left x 0)

-- in the first n places, an item that is held has its number, one that is free what f gives for its place
pub record LeftBy (f : ℕ → ℕ) (own : List ℕ) (n : ℕ) (left : List ℕ) : Type 0 where
  pub long : length left ≡ 64
  pub free : (x : ℕ) → x < n → get_or own x 0 ≡ 0 → get_or left x 0 ≡ f x
  pub held : (x : ℕ) → x < n → (get_or own x 0 ≡ 0 → ⊥) → get_or left x 0 ≡ suc x

-- all items are left, and of those that are as near the free ones come first
abbrev pub AllLeft : List ℕ → List ℕ → Type 0
AllLeft own = LeftBy (λ x. suc x + 64) own 64

-- the items that are held are left
abbrev pub HeldLeft : List ℕ → List ℕ → Type 0
HeldLeft own = LeftBy (λ x. 0) own 64

-- r is what one of the first n places that is left, and at distance low, has; and 0 if there is none
pub record WithDistance (dist left : List ℕ) (low n r : ℕ) : Type 0 where
  pub found : (x : ℕ) → x < n → LeftAt left x → get_or dist x 0 ≡ low → 0 < r
  pub there : 0 < r → (x : ℕ) × (x < n) × (get_or left x 0 ≡ r) × (get_or dist x 0 ≡ low)

-- item i is left
abbrev pub IsLeft : List ℕ → ℕ → Type 0
IsLeft left i = amount left i ≡ 0 → ⊥

-- r is the nearest of those of the items 1 to m that are left, and 0 if null is as near
pub record Nearest (m null : ℕ) (dist left : List ℕ) (r : ℕ) : Type 0 where
  pub at_null : r ≡ 0 → (i : ℕ) → Item m i → IsLeft left i → null ≤ amount dist i
  pub at_item : 0 < r → Item m r × IsLeft left r × (amount dist r < null) × ((i : ℕ) → Item m i → IsLeft left i → amount dist r ≤ amount dist i)

-- what stands for option i: for null, and in the places of the items
unfoldable pub at_option : ℕ → List ℕ → ℕ → ℕ
at_option null xs i = get_or (null ∷ xs) i 0

-- what entering item j asks of its holder's line
pub record Enters (j : ℕ) (line prices dist via left : List ℕ) : Type 0 where
  pub some : 0 < j
  pub within : j ≤ length line
  pub short : length line ≤ 64
  pub line_small : Small line
  pub prices_small : Small prices
  pub near : get_or dist (j - 1) 0 ≤ 4095
  pub priced : get_or prices (j - 1) 0 ≤ get_or line (j - 1) 0
  pub long_dist : length dist ≡ 64
  pub long_via : length via ≡ 64
  pub long_left : length left ≡ 64

-- item j is entered, and its holder, who has this line, goes on with reach u
pub record Entered (j : ℕ) (line prices dist via left dist' via' left' : List ℕ) (u low : ℕ) : Type 0 where
  pub reach : u ≡ get_or line (j - 1) 0 - get_or prices (j - 1) 0 + get_or dist (j - 1) 0
  pub closed : left' ≡ set left (j - 1) 0
  pub reached : Reached u j line prices dist via (length line) dist' via'
  pub lowest : Lowest dist' left' (length line) low
